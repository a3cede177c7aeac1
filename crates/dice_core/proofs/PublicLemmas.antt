-- What the public calls say, by what they do over the tables of all versions.
use Rattle.std.proofs.Common.{◌≡◌, ◌↔◌, IsTrue, ◌⊎◌, inl, inr, ◌++◌, ℕ, Bool, true, false, cond, eqb, eq-eqb, List, [], ◌∷◌, map, Option, Some, None, refl, sym, ap, ◌∙◌, subst, append_assoc}
use Rattle.std.specs.Prelude.{IfSome, IfNone, reverse}
use Rattle.std.specs.List.{list_any}
use Rattle.std.proofs.lemmas.Bool.{eqb-true}
use Rattle.std.proofs.lemmas.Option.{same_Some}
use Rattle.dice_key.specs.Meaning.{Meaning}
use Rattle.dice_key.specs.Lawful.{IsEquality, IsLawful}
use Rattle.task_share.specs.Seen.{Share, task_at}
use Rattle.injected.specs.Seen.{Seen}
use Rattle.journal.specs.declared.event.Told.TheVariants.{Lost, Drop}
use Rattle.versioned_graph.specs.Entries.{Stored}
use Rattle.dice_jobs.specs.Jobs.{Assigned}
use Rattle.dice_jobs.specs.Alike.{IsAnsweredIn}
use Rattle.journal.specs.Events.{commits_of}
use Rattle.core_laws.specs.Tasks.{IsReady, IsOut, Outcome, WithNothing}
use Rattle.core_laws.specs.Desk.{out_in}
use Rattle.dice_tasks.specs.Endings.{told_end, GivesUpAll}
use Rattle.dice_tasks.specs.Hands.{DeskSeen}
use Rattle.dice_tasks.specs.Helds.{Held, held_of, held_ended}
use Rattle.dice_core.specs.Sessions.{SessionsSeen}
use Rattle.dice_tasks.specs.Waitings.{TakesJob, ReturnsJob}
use Rattle.dice_core.specs.Cores.{table_at, core_of, PutsTable, Turned, CoreStands, IsJobOut, TakesOut, GivesUpOnly}
use Rattle.dice_core.proofs.CoreLemmas.{table_put}
use Rattle.dice_core.proofs.OwnLemmas.{answered_in}
use Rattle.dice_core.proofs.ResultLemmas.{takes_out, comes_back}
use Rattle.lists.specs.Lists.{Has}

module _ {K V : Type 0} (eq : K → K → Bool) (equality : IsEquality eq) (m : Meaning K V) (law : IsLawful m) (d e : DeskSeen K V) (ts us : List (ℕ × List (K × Share K (Held K V)))) (es fs : List (K × Stored K V)) (s : Seen K V) (x y : SessionsSeen K) where
  -- a job that was taken is out
  pub some_out : (o : Option (Assigned K V)) → IfSome o (λ j. Turned eq m j.name.version ts us (λ a b. TakesJob eq j.name.version j.name.key j a b d e)) → IfSome o (λ j. TakesOut eq j (core_of d ts es s x) (core_of e us es s x))
  some_out None h = tt
  some_out (Some j) h = takes_out eq equality m law j d e ts us es s x h.tasks h.put h.turned

  -- a job that came back was out
  pub none_out : {Y : Type 0} (j : Assigned K V) (o : Option Y) → IfNone o (Turned eq m j.name.version ts us (λ a b. ReturnsJob eq j.name.version j.name.key j j a b d e)) → IfNone o (IsJobOut eq (core_of d ts es s x) j × TakesOut eq j (core_of e us es s x) (core_of d ts es s x))
  none_out j (Some y) h = tt
  none_out j None h = comes_back eq equality m law j d e ts us es s x h.tasks h.put h.turned

  -- and its answers are the values at its version
  pub some_answered : CoreStands eq m (core_of d ts es s x) → (o : Option (Assigned K V)) → IfSome o (λ j. Turned eq m j.name.version ts us (λ a b. TakesJob eq j.name.version j.name.key j a b d e)) → IfSome o (IsAnsweredIn eq m (commits_of (reverse e.events)))
  some_answered st None h = tt
  some_answered st (Some j) h =
      let out = takes_out eq equality m law j d e ts us es s x h.tasks h.put h.turned in
      subst (λ J. IsAnsweredIn eq m (commits_of (reverse J)) j) (sym h.turned.desk.rest.events) (answered_in eq m (core_of d ts es s x) st.rests.each j IsReady out.was)

  -- all that is told of tasks that are lost
  module _ (v : ℕ) (k : K) (qs : List (K × Share K (Held K V))) (put : PutsTable v qs ts us) (g : GivesUpAll eq v None k (table_at ts v) qs d e) where
    losses : (os : List (K × Outcome K V)) → ((p : K × Outcome K V) → Has os p → p.1 ≡ WithNothing) → map (λ (p : K × Outcome K V). told_end v p.0 p.1) os ≡ map (Lost v) (map (λ (p : K × Outcome K V). p.0) os)
    losses [] h = refl
    losses (p ∷ os) h = ap (λ o. told_end v p.0 o ∷ map (λ (r : K × Outcome K V). told_end v r.0 r.1) os) (h p (inl refl)) ∙ ap (λ z. Lost v p.0 ∷ z) (losses os (λ r i. h r (inr i)))

    has_key : (os : List (K × Outcome K V)) (o : Outcome K V) → Has os (k, o) → Has (map (λ (p : K × Outcome K V). p.0) os) k
    has_key [] o h = h
    has_key (p ∷ os) o (inl i) = inl (ap (λ (z : K × Outcome K V). z.0) i)
    has_key (p ∷ os) o (inr h) = inr (has_key os o h)

    pub lost_log : (ls ks : List K) × Has ls k × (e.events ≡ d.events ++ (map (Lost v) ls ++ map (Drop v) ks))
    lost_log = (
      map (λ (p : K × Outcome K V). p.0) g.ends,
      g.drops,
      has_key g.ends g.ended.first.0 g.ended.first.1,
      g.dropped.events ∙ (ap (λ z. z ++ map (Drop v) g.drops) (g.ended.events ∙ ap (λ z. d.events ++ z) (losses g.ends g.ended.comes)) ∙ append_assoc d.events (map (Lost v) (map (λ (p : K × Outcome K V). p.0) g.ends)) (map (Drop v) g.drops)),
    )

    among : (os : List (K × Outcome K V)) (q : K) → ((p : K × Outcome K V) × Has os p × (p.0 ≡ q)) ⊎ ((p : K × Outcome K V) → Has os p → p.0 ≡ q → ⊥)
    among [] q = inr (λ p h i. h)
    among (p ∷ os) q = by_test (eq p.0 q) refl (among os q)
      where
        by_test : (b : Bool) → eq p.0 q ≡ b → ((r : K × Outcome K V) × Has os r × (r.0 ≡ q)) ⊎ ((r : K × Outcome K V) → Has os r → r.0 ≡ q → ⊥) → ((r : K × Outcome K V) × Has (p ∷ os) r × (r.0 ≡ q)) ⊎ ((r : K × Outcome K V) → Has (p ∷ os) r → r.0 ≡ q → ⊥)
        by_test true i w = inl (p, inl refl, equality.same p.0 q i)
        by_test false i (inl w) = inl (w.0, inr w.1, w.2)
        by_test false i (inr n) = inr none
          where
            none : (r : K × Outcome K V) → Has (p ∷ os) r → r.0 ≡ q → ⊥
            none r (inl j) z = (let t : eq p.0 q ≡ true = subst (λ a. eq p.0 a ≡ true) (ap (λ (o : K × Outcome K V). o.0) j ∙ z) (equality.itself p.0) in let c : true ≡ false = sym t ∙ i in cc)
            none r (inr h) z = n r h z

    pub gives_up_only : GivesUpOnly eq (core_of d ts es s x) (core_of e us es s x)
    gives_up_only u q = subst (λ ps. (task_at eq ps q ≡ None) ⊎ (task_at eq ps q ≡ task_at eq (table_at ts u) q) ⊎ ((h : Held K V) × (task_at eq (table_at ts u) q ≡ Some h) × (task_at eq ps q ≡ Some (held_ended h.name WithNothing)))) (sym (table_put ts us v qs put u)) (by_version (eqb u v) refl)
      where
        by_drop : (b : Bool) → task_at eq qs q ≡ cond b None (task_at eq g.tasks q) → (task_at eq qs q ≡ None) ⊎ (task_at eq qs q ≡ task_at eq (table_at ts v) q) ⊎ ((h : Held K V) × (task_at eq (table_at ts v) q ≡ Some h) × (task_at eq qs q ≡ Some (held_ended h.name WithNothing)))
        by_drop true i = inl i
        by_drop false i = inr (elim (among g.ends q) as (λ _. (task_at eq qs q ≡ task_at eq (table_at ts v) q) ⊎ ((h : Held K V) × (task_at eq (table_at ts v) q ≡ Some h) × (task_at eq qs q ≡ Some (held_ended h.name WithNothing)))) [
          | inl w ↦ (let r = g.ended.ended w.0 w.1 in inr (r.0, ap (task_at eq (table_at ts v)) (sym w.2) ∙ r.1, i ∙ (ap (task_at eq g.tasks) (sym w.2) ∙ (r.3 ∙ ap (λ o. Some (held_ended r.0.name o)) (g.ended.comes w.0 w.1)))))
          | inr n ↦ inl (i ∙ g.ended.others q n)
        ])

        by_version : (b : Bool) → eqb u v ≡ b → (task_at eq (cond b qs (table_at ts u)) q ≡ None) ⊎ (task_at eq (cond b qs (table_at ts u)) q ≡ task_at eq (table_at ts u) q) ⊎ ((h : Held K V) × (task_at eq (table_at ts u) q ≡ Some h) × (task_at eq (cond b qs (table_at ts u)) q ≡ Some (held_ended h.name WithNothing)))
        by_version true i = subst (λ z. (task_at eq qs q ≡ None) ⊎ (task_at eq qs q ≡ task_at eq (table_at ts z) q) ⊎ ((h : Held K V) × (task_at eq (table_at ts z) q ≡ Some h) × (task_at eq qs q ≡ Some (held_ended h.name WithNothing)))) (sym (eqb-true u v i)) (by_drop (list_any (eq q) g.drops) (g.dropped.tasks q))
        by_version false i = inr (inl refl)

    -- the job of k is out no more
    pub home_now : (a : Assigned K V) → task_at eq (table_at us v) k ≡ Some (held_of a IsOut) → ⊥
    home_now a i =
        let r = g.ended.ended (k, g.ended.first.0) g.ended.first.1 in
        by_drop (list_any (eq k) g.drops) (sym (subst (λ ps. task_at eq ps k ≡ Some (held_of a IsOut)) (table_put ts us v qs put v ∙ ap (λ b. cond b qs (table_at ts v)) (eq-eqb v v refl)) i) ∙ g.dropped.tasks k) r.3
      where
        by_drop : (b : Bool) → Some (held_of a IsOut) ≡ cond b None (task_at eq g.tasks k) → task_at eq g.tasks k ≡ Some (held_ended (g.ended.ended (k, g.ended.first.0) g.ended.first.1).0.name g.ended.first.0) → ⊥
        by_drop true j e = let z : Some (held_of a IsOut) ≡ None = j in cc
        by_drop false j e = let z : held_of a IsOut ≡ held_ended (g.ended.ended (k, g.ended.first.0) g.ended.first.1).0.name g.ended.first.0 = same_Some _ _ (j ∙ e) in let w : true ≡ false = ap (λ (h : Held K V). out_in h.standing) z in cc

-- a test that is true exactly if P holds
pub named_iff : (b : Bool) (P : Type 0) → (b ≡ false → P → ⊥) → (b ≡ true → P) → IsTrue b ↔ P
named_iff true P n y = (λ i. y refl, λ p. refl)
named_iff false P n y = (λ i. (let c : false ≡ true = i in cc), λ p. absurd (n refl p))

-- what holds of a result if there is one
pub some_map : {Y : Type 0} (o : Option Y) (P Q : Y → Type 0) → IfSome o P → ((y : Y) → P y → Q y) → IfSome o Q
some_map None P Q h f = tt
some_map (Some y) P Q h f = f y h
