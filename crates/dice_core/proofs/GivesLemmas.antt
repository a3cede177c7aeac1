-- What becomes of a step that is given, from what each of its ways says.
use Rattle.std.proofs.Common.{◌≡◌, inl, inr, ◌++◌, ℕ, Bool, true, false, cond, List, [], ◌∷◌, map, reverse, Some, Result, Ok, Err, refl, sym, ap, ◌∙◌, subst}
use Rattle.std.specs.Prelude.{OnOk}
use Rattle.std.specs.List.{AllByRecursion}
use Rattle.dice_key.specs.Meaning.{Meaning, Answered}
use Rattle.dice_key.specs.Lawful.{IsEquality}
use Rattle.dice_jobs.specs.Jobs.{Assigned, Stepped, Checks, Wanting, Changed, computing}
use Rattle.task_share.specs.Seen.{Share, task_at}
use Rattle.journal.specs.declared.event.Told.{Told}
use Rattle.journal.specs.declared.event.Told.TheVariants.{Start, Keep, Drop}
use Rattle.journal.specs.declared.event.Reason.TheVariants.{Differs}
use Rattle.injected.specs.Seen.{Seen}
use Rattle.core_laws.specs.Tasks.{IsReady, IsOut, IsWaiting, Outcome, WithValue, WithCycle}
use Rattle.core_laws.specs.Desk.{out_in}
use Rattle.dice_steps.specs.Batches.{IsOfMakes, IsGiven, IsToldOf, TakesUp, ending_events}
use Rattle.dice_steps.specs.Finishings.{EndsAndWakes}
use Rattle.dice_tasks.specs.Endings.{told_end}
use Rattle.dice_core.specs.Givings.{IsToldBy, Gives}
use Rattle.dice_tasks.specs.Hands.{DeskSeen}
use Rattle.dice_tasks.specs.Helds.{Held, held_of, held_ended}
use Rattle.dice_tasks.specs.Waitings.{IsTurned}
use Rattle.dice_core.specs.Cores.{IsWorkAt}
use Rattle.dice_core.proofs.EventLemmas.{GivesUp, all_tell, all_given_up, all_drops, all_both, all_works}

-- what stands anyway stands if a result is Ok
pub always_ok : {X E : Type 0} (r : Result X E) (P : Type 0) → P → OnOk r P
always_ok (Ok x) P p = p
always_ok (Err e) P p = tt

module _ {K V : Type 0} (v : ℕ) (ks : List K) where
  work_of_make : (t : Told K V) → IsOfMakes v ks t → IsWorkAt v t
  work_of_make (Start w q c) h = h.0
  work_of_make (Keep w q b) h = h.0
  work_of_make _ h = absurd h

  pub all_makes : (ts : List (Told K V)) → AllByRecursion (IsOfMakes v ks) ts → AllByRecursion (IsWorkAt v) ts
  all_makes [] a = tt
  all_makes (t ∷ ts) a = (work_of_make t a.0, all_makes ts a.1)

module _ {K V : Type 0} (eq : K → K → Bool) (equality : IsEquality eq) (s : Stepped K V) (v : ℕ) (ps qs : List (K × Share K (Held K V))) (d e : DeskSeen K V) (was : task_at eq ps s.job.name.key ≡ Some (held_of s.job IsOut)) where
  home_by : (g : Held K V) → out_in g.standing ≡ false → task_at eq qs s.job.name.key ≡ Some g → (a : Assigned K V) → task_at eq qs s.job.name.key ≡ Some (held_of a IsOut) → ⊥
  home_by g idle is a out =
      let x : Some g ≡ Some (held_of a IsOut) = sym is ∙ out in
      let y : g ≡ held_of a IsOut = cc in
      let z : false ≡ true = sym idle ∙ ap (λ (h : Held K V). out_in h.standing) y in
      let w : ⊥ = cc in w

  -- its check found a change, and it computes
  pub begun_gives : (x : V) (T : List (Answered K V)) (b : ℕ) (dep : K) → s.job.work ≡ Checks x T b → s.outcome ≡ Changed dep → IsTurned eq s.job.name.key (held_of s.job IsOut) (held_of (computing s.job) IsReady) ps qs → e.events ≡ d.events ++ Start v s.job.name.key (Differs b dep) ∷ [] → Gives eq v s ps qs d e
  begun_gives x T b dep checks changed turned told = record {
    was = was;
    out = record {
      stay = λ q a other is. inl (turned.tasks q ∙ (ap (λ c. cond c (Some (held_of (computing s.job) IsReady)) (task_at eq ps q)) other ∙ is));
      only = λ q a is. only q a is (eq s.job.name.key q) refl;
    };
    home = home_by (held_of (computing s.job) IsReady) refl (turned.tasks s.job.name.key ∙ ap (λ c. cond c (Some (held_of (computing s.job) IsReady)) (task_at eq ps s.job.name.key)) (equality.itself s.job.name.key));
    events = Start v s.job.name.key (Differs b dep) ∷ [];
    told = told;
    works = (refl, tt);
    by = subst (λ o. IsToldBy v s.job.name.key s.job.work o (Start v s.job.name.key (Differs b dep) ∷ [])) (sym changed) (x, T, b, checks, refl);
  }
    where
      not_run : (a : Assigned K V) → Some (held_of (computing s.job) IsReady) ≡ Some (held_of a IsOut) → ⊥
      not_run a i =
          let y : held_of (computing s.job) IsReady ≡ held_of a IsOut = cc in
          let z : false ≡ true = ap (λ (h : Held K V). out_in h.standing) y in
          let w : ⊥ = cc in w

      only : (q : K) (a : Assigned K V) → task_at eq qs q ≡ Some (held_of a IsOut) → (c : Bool) → eq s.job.name.key q ≡ c → task_at eq ps q ≡ Some (held_of a IsOut)
      only q a is true i = absurd (not_run a (sym (turned.tasks q ∙ ap (λ c. cond c (Some (held_of (computing s.job) IsReady)) (task_at eq ps q)) i) ∙ is))
      only q a is false i = sym (turned.tasks q ∙ ap (λ c. cond c (Some (held_of (computing s.job) IsReady)) (task_at eq ps q)) i) ∙ is

  -- it ends the task with a value
  pub ended_gives : (m : Meaning K V) (cells : Seen K V) (x : V) (t : Told K V) → EndsAndWakes eq m cells v s.job.name.key x s.job.name ps qs → e.events ≡ d.events ++ t ∷ [] → IsWorkAt v t → IsToldBy v s.job.name.key s.job.work s.outcome (t ∷ []) → Gives eq v s ps qs d e
  ended_gives m cells x t h told at by = record {
    was = was;
    out = record { stay = λ q a other is. inl (h.still_out q a other is); only = h.was_out };
    home = home_by (held_ended s.job.name (WithValue x)) refl h.ended;
    events = t ∷ [];
    told = told;
    works = (at, tt);
    by = by;
  }

  -- the batch that it asks was taken up
  pub batch_gives : (m : Meaning K V) (ks : List K) → s.outcome ≡ Wanting ks → TakesUp eq m v s.job ks ps d qs e → Gives eq v s ps qs d e
  batch_gives m ks wants t = record {
    was = was;
    out = t.out;
    home = home_of (reverse e.events) t.given;
    events = t.events;
    told = t.told;
    works = works_of t.events t.of_batch;
    by = subst (λ o. IsToldBy v s.job.name.key s.job.work o t.events) (sym wants) (by_batch t.events t.of_batch);
  }
    where
      home_of : (R : List (Told K V)) → IsGiven eq m v s.job ks R qs → (a : Assigned K V) → task_at eq qs s.job.name.key ≡ Some (held_of a IsOut) → ⊥
      home_of R (inl h) = home_by _ refl h.1
      home_of R (inr (inl h)) = home_by (held_of s.job (IsWaiting ks)) refl h
      home_of R (inr (inr h)) = home_by (held_ended s.job.name (WithCycle h.0)) refl h.1

      works_of : (xs : List (Told K V)) → IsToldOf eq m v s.job ks xs → AllByRecursion (IsWorkAt v) xs
      works_of xs (inl a) = all_makes v ks xs a
      works_of xs (inr h) = subst (λ z. AllByRecursion (IsWorkAt v) z) (sym h.4)
          (all_works v (ending_events v h.1 h.2) (all_both v (GivesUp v) (map (λ (p : K × Outcome K V). told_end v p.0 p.1) h.1) (map (Drop v) h.2)
          (all_given_up v (map (λ (p : K × Outcome K V). told_end v p.0 p.1) h.1) (all_tell v (Some h.0) h.1 h.3)) (all_drops V v h.2)))

      by_batch : (xs : List (Told K V)) → IsToldOf eq m v s.job ks xs → IsToldBy v s.job.name.key s.job.work (Wanting ks) xs
      by_batch xs (inl a) = inl a
      by_batch xs (inr h) = inr (h.1, h.2, h.4)
