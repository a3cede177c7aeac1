-- A job that comes back, or is another.
use Rattle.std.proofs.Common.{◌≡◌, ◌≤◌, ◌++◌, ℕ, Bool, List, Option, Some, None, refl, sym, ap, ◌∙◌, subst, arith}
use Rattle.std.specs.Prelude.{IfSome, IfNone}
use Rattle.std.specs.Option.{option_map}
use Rattle.dice_key.specs.Lawful.{IsEquality, IsLawful}
use Rattle.dice_key.specs.Meaning.{Meaning}
use Rattle.dice_jobs.specs.Jobs.{Assigned}
use Rattle.task_share.specs.Seen.{Share, task_at}
use Rattle.task_share.specs.Lent.{WritesTask}
use Rattle.core_laws.specs.Tasks.{IsReady, IsOut}
use Rattle.core_laws.specs.Desk.{World, is_out}
use Rattle.dice_tasks.specs.Helds.{Held, held_of, task_of}
use Rattle.dice_tasks.specs.Hands.{DeskSeen, place_at, Returns, Working}
use Rattle.dice_tasks.specs.Endings.{Knows}
use Rattle.dice_tasks.specs.Waitings.{KeepsTable, IsTurned, ReturnsJob}
use Rattle.dice_tasks.proofs.WaitLemmas.{turned_by, table_kept, back_on}
use Rattle.lists.proofs.Members.{has_right}
use Rattle.lists.specs.Lists.{Has}

module _ {K V : Type 0} (eq : K → K → Bool) (equality : IsEquality eq) where
  -- the task was written as it was
  pub back_same : (k : K) (h t : Held K V) (ps qs : List (K × Share K (Held K V))) → task_at eq ps k ≡ Some h → t ≡ h → WritesTask eq k ps qs t → KeepsTable eq ps qs
  back_same k h t ps qs was is writes = table_kept eq equality k h ps qs (turned_by eq equality k h h t ps qs was is writes)

  -- the same table
  pub table_same : (ps qs : List (K × Share K (Held K V))) → qs ≡ ps → KeepsTable eq ps qs
  table_same ps qs e = subst (λ z. KeepsTable eq ps z) (sym e) here
    where
      n : (q : ℕ) → q ≤ q
      n q = omega arith

      here : KeepsTable eq ps ps
      here = record {
        tasks = λ q. refl;
        live = λ q. refl;
        asks = λ q a. refl;
        room = record { places = λ q h. h; promises = λ q. n _; askers = λ q. n _; waits = λ q. n _; count = n _ };
      }

  -- another task is there
  pub not_there : (k : K) (h g : Held K V) (ps : List (K × Share K (Held K V))) → task_at eq ps k ≡ Some h → (h ≡ g → ⊥) → task_at eq ps k ≡ Some g → ⊥
  not_there k h g ps was other is = other (let i : Some h ≡ Some g = sym was ∙ is in cc)

module _ {K V : Type 0} (eq : K → K → Bool) (equality : IsEquality eq) where
  -- a job of a task that stands nowhere on the desk is not out
  pub not_out : (v : ℕ) (ps : List (K × Share K (Held K V))) (d : DeskSeen K V) → Knows eq v ps d → (j : Assigned K V) (u : ℕ) (k : K) → u ≡ v → k ≡ j.name.key → (Has (d.ready ++ d.out) (u, k) → ⊥) → task_at eq ps j.name.key ≡ Some (held_of j IsOut) → ⊥
  not_out v ps d knows j u k at key none e = none (has_right d.ready d.out (u, k) (subst (λ z. Has d.out (z, k)) (sym at) (subst (λ z. Has d.out (v, z)) (sym key) (knows.out j.name.key (ap (λ (o : Option (Held K V)). is_out (option_map task_of o)) e)))))

  -- the key of the number that was found
  pub found_key : (d : DeskSeen K V) (i u w : ℕ) (k l : K) → place_at d i ≡ Some (u, k) → place_at d i ≡ Some (w, l) → l ≡ k
  found_key d i u w k l e f = let g : Some (w, l) ≡ Some (u, k) = sym f ∙ e in let h : (w, l) ≡ (u, k) = cc in ap (λ (p : ℕ × K). p.1) h

  module _ (j : Assigned K V) (v : ℕ) (k : K) (key : k ≡ j.name.key) (h t : Held K V) (ps qs : List (K × Share K (Held K V))) (d e : DeskSeen K V) (was : task_at eq ps k ≡ Some h) (writes : WritesTask eq k ps qs t) where
    -- a job that is handed back
    pub back_some : (o : Option (Assigned K V)) → IfSome o (λ i. (i ≡ j) × (t ≡ h) × (e ≡ d) × (h ≡ held_of j IsOut → ⊥)) → IfSome o (λ i. (i ≡ j) × (e ≡ d) × KeepsTable eq ps qs)
    back_some None i = tt
    back_some (Some x) i = (i.0, i.2, back_same eq equality k h t ps qs was i.1 writes)

    pub back_other : (o : Option (Assigned K V)) → IfSome o (λ i. (i ≡ j) × (t ≡ h) × (e ≡ d) × (h ≡ held_of j IsOut → ⊥)) → IfSome o (λ i. task_at eq ps j.name.key ≡ Some (held_of j IsOut) → ⊥)
    back_other None i = tt
    back_other (Some x) i = λ f. not_there eq equality k h (held_of j IsOut) ps was i.3 (ap (task_at eq ps) key ∙ f)

    -- one that came back
    pub back_none : (o : Option (Assigned K V)) → IfNone o ((h ≡ held_of j IsOut) × (t ≡ held_of j IsReady) × Returns (j.name.version, j.name.key) d e) → IfNone o (ReturnsJob eq j.name.version j.name.key j j ps qs d e)
    back_none (Some x) i = tt
    back_none None i = record {
      table = subst (λ z. IsTurned eq z (held_of j IsOut) (held_of j IsReady) ps qs) key (turned_by eq equality k (held_of j IsOut) (held_of j IsReady) t ps qs (was ∙ ap Some i.0) i.1 writes);
      desk = i.2;
    }

  pub back_kept : (m : Meaning K V) → IsLawful m → (j : Assigned K V) (ps qs : List (K × Share K (Held K V))) (d e : DeskSeen K V) (o : Option (Assigned K V)) → IfNone o (ReturnsJob eq j.name.version j.name.key j j ps qs d e)
      → IfNone o ((w : World K V) (W : List K) (owed : ℕ) → Working eq m j.name.version W w owed ps d → Working eq m j.name.version W w owed qs e)
  back_kept m law j ps qs d e (Some x) h = tt
  back_kept m law j ps qs d e None h = λ w W owed work. back_on eq equality m law j.name.version j.name.key j ps qs d e h W w owed work
