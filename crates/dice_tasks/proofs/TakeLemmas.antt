-- The ready task that is to be taken next, and what a take leaves.
use Rattle.std.proofs.Common.{◌≡◌, ◌<◌, ◌+◌, inl, ℕ, Bool, true, cond, List, [], ◌∷◌, ◌++◌, length, Option, Some, None, refl, sym, ap, ◌∙◌, subst, arith, length-append}
use Rattle.std.specs.Prelude.{IfSome, IfNone}
use Rattle.std.proofs.lemmas.Bool.{eq-eqb}
use Rattle.dice_key.specs.Meaning.{Meaning}
use Rattle.dice_jobs.specs.Jobs.{Assigned}
use Rattle.task_share.specs.Seen.{Share}
use Rattle.core_laws.specs.Tasks.{IsReady, IsOut}
use Rattle.core_laws.specs.Desk.{World, is_ready}
use Rattle.dice_tasks.specs.Helds.{Held, held_of}
use Rattle.dice_tasks.specs.Hands.{DeskSeen, tasks_of, seen_world, Takes, Working}
use Rattle.dice_tasks.specs.Waitings.{IsTurned, TakesJob}
use Rattle.dice_tasks.proofs.EndedLemmas.{last_same}
use Rattle.lists.proofs.Members.{has_right}
use Rattle.lists.specs.Lists.{Has}

-- what follows of each
pub some_so : {X : Type 0} (o : Option X) (P Q : X → Type 0) → ((x : X) → P x → Q x) → IfSome o P → IfSome o Q
some_so None P Q f h = h
some_so (Some x) P Q f h = f x h

pub none_so : {X : Type 0} (o : Option X) (P Q : Type 0) → (P → Q) → IfNone o P → IfNone o Q
none_so None P Q f h = f h
none_so (Some x) P Q f h = h

-- a list with a last element is not empty
pub some_last : {X : Type 0} (xs ys : List X) (x : X) → xs ≡ ys ++ x ∷ [] → 0 < length xs
some_last xs ys x e = let i : length xs ≡ length ys + 1 = ap length e ∙ length-append ys (x ∷ []) in omega arith

module _ {K V : Type 0} (eq : K → K → Bool) (m : Meaning K V) (v : ℕ) (k : K) (W : List K) (w : World K V) (owed : ℕ) (ps : List (K × Share K (Held K V))) (d : DeskSeen K V) (work : Working eq m v W w owed ps d) (xs : List (ℕ × K)) (next : d.ready ≡ xs ++ (v, k) ∷ []) where
  -- the task that the desk names is ready
  pub next_ready_is : (ys : List (ℕ × K)) (p : ℕ × K) → d.ready ≡ ys ++ p ∷ [] → is_ready (tasks_of eq ps p.1) ≡ true
  next_ready_is ys p e = subst (λ (z : ℕ × K). is_ready (tasks_of eq ps z.1) ≡ true) (last_same xs ys (v, k) p (sym next ∙ e)) (ap is_ready (sym same) ∙ work.stand.ready.passes (v, k) (subst (λ z. Has z (v, k)) (sym next) (has_right xs ((v, k) ∷ []) (v, k) (inl refl))))
    where
      same : (seen_world eq v ps w).tasks v k ≡ tasks_of eq ps k
      same = ap (λ b. cond b (tasks_of eq ps) (w.tasks v) k) (eq-eqb v v refl)

  -- its job was taken
  pub takes_so : (a : Assigned K V) (qs : List (K × Share K (Held K V))) (e : DeskSeen K V) (ys : List (ℕ × K)) (p r : ℕ × K) → d.ready ≡ ys ++ p ∷ [] → IsTurned eq p.1 (held_of a IsReady) (held_of a IsOut) ps qs → Takes r d e → TakesJob eq a.name.version a.name.key a ps qs d e
  takes_so a qs e ys p r named turned takes =
      let i : (v, k) ≡ p = last_same xs ys (v, k) p (sym next ∙ named) in
      let j : r ≡ (v, k) = last_same e.ready xs r (v, k) (sym takes.ready ∙ next) in
      let t : IsTurned eq k (held_of a IsReady) (held_of a IsOut) ps qs = subst (λ (z : ℕ × K). IsTurned eq z.1 (held_of a IsReady) (held_of a IsOut) ps qs) (sym i) turned in
      let n = work.named k (held_of a IsReady) t.was in
      subst (λ z. TakesJob eq z a.name.key a ps qs d e) (sym n.0) (subst (λ z. TakesJob eq v z a ps qs d e) (sym n.1) (record { table = t; desk = subst (λ (z : ℕ × K). Takes z d e) j takes }))
