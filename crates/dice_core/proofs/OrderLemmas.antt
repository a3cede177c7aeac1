-- A core whose ready tasks stand in another order.
use Rattle.std.proofs.Common.{◌≡◌, ◌+◌, inl, ℕ, Bool, List, [], ◌∷◌, length, Option, Some, None, refl, sym, ap, ◌∙◌, subst}
use Rattle.std.specs.Prelude.{IfSome, IfNone}
use Rattle.dice_key.specs.Meaning.{Meaning}
use Rattle.dice_jobs.specs.Jobs.{Assigned}
use Rattle.task_share.specs.Seen.{Share}
use Rattle.injected.specs.Seen.{Seen}
use Rattle.versioned_graph.specs.Entries.{Stored}
use Rattle.core_laws.specs.Desk.{AreAll}
use Rattle.dice_tasks.specs.Hands.{DeskSeen, Stays}
use Rattle.dice_tasks.specs.Orders.{Reorders}
use Rattle.dice_tasks.specs.Helds.{Held}
use Rattle.dice_tasks.specs.Waitings.{TakesJob}
use Rattle.dice_core.specs.Sessions.{SessionsSeen}
use Rattle.dice_core.specs.Cores.{core_of, Turned, TakesOut, CoreStands}
use Rattle.lists.specs.Lists.{Has}

-- these are all, in any order
all_stay : {X : Type 0} (test : X → Bool) (xs ys : List X) → Stays xs ys → AreAll test xs → AreAll test ys
all_stay test xs ys s a = record { passes = λ x h. a.passes x (s.only x h); found = λ x h. s.kept x (a.found x h); distinct = s.distinct }

none_there : {X : Type 0} (xs : List X) → ((x : X) → Has xs x → ⊥) → xs ≡ []
none_there [] h = refl
none_there (x ∷ xs) h = absurd (h x (inl refl))

module _ {K V : Type 0} (eq : K → K → Bool) (m : Meaning K V) (d e : DeskSeen K V) (o : Reorders d e) (ts : List (ℕ × List (K × Share K (Held K V)))) (es : List (K × Stored K V)) (s : Seen K V) (x : SessionsSeen K) where
  -- it stands as before
  pub reordered_stands : CoreStands eq m (core_of d ts es s x) → CoreStands eq m (core_of e ts es s x)
  reordered_stands st = subst (λ z. CoreStands eq m (core_of z ts es s x)) (sym o.rest) (record {
    rests = record { lawful = st.rests.lawful; each = st.rests.each; ready = all_stay _ d.ready e.ready o.ready st.rests.ready; out = st.rests.out; live = st.rests.live; room = st.rests.room };
    outs = st.outs;
    named = st.named;
    told = st.told;
    entries = st.entries;
    cells = st.cells;
    sessions = st.sessions;
    tabled = st.tabled;
  })

  module _ (f : DeskSeen K V) (us : List (ℕ × List (K × Share K (Held K V)))) (r : Option (Assigned K V)) where
    -- if none is ready, nothing was moved
    pub none_moved : IfNone r ((e.ready ≡ []) × (f ≡ e) × (us ≡ ts)) → IfNone r ((d.ready ≡ []) × (core_of f us es s x ≡ core_of d ts es s x))
    none_moved = by_result r
      where
        by_result : (r : Option (Assigned K V)) → IfNone r ((e.ready ≡ []) × (f ≡ e) × (us ≡ ts)) → IfNone r ((d.ready ≡ []) × (core_of f us es s x ≡ core_of d ts es s x))
        by_result (Some j) h = tt
        by_result None h =
            let none : d.ready ≡ [] = none_there d.ready (λ p i. subst (λ z. Has z p) h.0 (o.ready.kept p i)) in
            let same : e ≡ d = o.rest ∙ ap (λ z. record d { ready = z }) (h.0 ∙ sym none) in
            (none, λ i. core_of ((h.1 ∙ same) i) (h.2 i) es s x)

    -- no event was told
    pub same_events : IfNone r ((e.ready ≡ []) × (f ≡ e) × (us ≡ ts)) → IfSome r (λ j. Turned eq m j.name.version ts us (λ a b. TakesJob eq j.name.version j.name.key j a b e f)) → f.events ≡ d.events
    same_events = by_result r
      where
        by_result : (r : Option (Assigned K V)) → IfNone r ((e.ready ≡ []) × (f ≡ e) × (us ≡ ts)) → IfSome r (λ j. Turned eq m j.name.version ts us (λ a b. TakesJob eq j.name.version j.name.key j a b e f)) → f.events ≡ d.events
        by_result None h t = ap (λ (z : DeskSeen K V). z.events) (h.1 ∙ o.rest)
        by_result (Some j) h t = t.turned.desk.rest.events ∙ ap (λ (z : DeskSeen K V). z.events) o.rest

    -- a job that was taken after it
    pub taken_from : IfSome r (λ j. TakesOut eq j (core_of e ts es s x) (core_of f us es s x)) → IfSome r (λ j. TakesOut eq j (core_of d ts es s x) (core_of f us es s x))
    taken_from = by_result r
      where
        by_result : (r : Option (Assigned K V)) → IfSome r (λ j. TakesOut eq j (core_of e ts es s x) (core_of f us es s x)) → IfSome r (λ j. TakesOut eq j (core_of d ts es s x) (core_of f us es s x))
        by_result None t = tt
        by_result (Some j) t = record { was = t.was; tasks = t.tasks; ready = sym o.count ∙ t.ready; out = t.out ∙ ap (λ (z : DeskSeen K V). length z.out + 1) o.rest }
