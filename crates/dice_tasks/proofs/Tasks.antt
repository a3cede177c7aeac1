-- A task that is out, and one that waits and what it goes on with.
use Rattle.std.proofs.Common.{◌≡◌, ◌∙◌, List, length, sym, ap, subst}
use Rattle.dice_jobs.specs.Jobs.{Name, Assigned, Waits, answered_more}
use Rattle.core_laws.specs.Tasks.{Phase, IsOut, IsWaiting, Works}
use Rattle.dice_tasks.specs.Helds.{Held, Ahead, FollowsOn, works, held_of}
use Rattle.dice_tasks.specs.Loads.{IsKept, IsLoaded, IsWork, phase_of, standing_of}
use Rattle.dice_tasks.specs.declared.task.Kept.{Kept}
use Rattle.dice_tasks.specs.declared.task.Kept.TheVariants as kept
use Rattle.dice_tasks.specs.declared.task.Load.TheVariants.{Away, Parked}

module _ {K V : Type 0} where
  same_job : (a b : Assigned K V) → a.name ≡ b.name → a.answered ≡ b.answered → a.work ≡ b.work → a ≡ b
  same_job a b e f g = λ i. record { name = e i; answered = f i; work = g i }

  -- what a task at work is seen as says what its job is for
  pub held_job : (a b : Assigned K V) (p q : Phase K) → held_of a p ≡ held_of b q → a ≡ b
  held_job a b p q e =
      let s : Works a.work p a.answered ≡ Works b.work q b.answered = λ i. (e i).standing in
      let f : a.answered ≡ b.answered = cc in
      let g : a.work ≡ b.work = cc in
      same_job a b (λ i. (e i).name) f g

  -- and how far it is
  held_phase : (a b : Assigned K V) (p q : Phase K) → held_of a p ≡ held_of b q → p ≡ q
  held_phase a b p q e = let s : Works a.work p a.answered ≡ Works b.work q b.answered = λ i. (e i).standing in cc

  same_waits : (p w : Waits K V) → p.job ≡ w.job → IsWaiting p.keys ≡ IsWaiting w.keys → p ≡ w
  same_waits p w e f = let g : p.keys ≡ w.keys = cc in λ i. record { job = e i; keys = g i }

module _ {U K V R : Type 0} (n : Name K) where
  -- a task whose job is taken is seen as that job out
  pub out_seen : (k : Kept U K V R) (b : _) (h : Held K V) → k ≡ kept.Works b → IsKept n k → record { name = n; standing = standing_of k } ≡ h → b.value.load ≡ Away → h ≡ held_of b.value.own IsOut
  out_seen k b h e i v l =
      let at : IsWork n b.value = subst (IsKept n) e i in
      let seen : held_of b.value.own IsOut ≡ record { name = n; standing = standing_of (kept.Works b) } = λ j. record { name = at.name j; standing = works b.value.own (phase_of (sym l j)) } in
      sym (seen ∙ (λ j. record { name = n; standing = standing_of (sym e j) }) ∙ v)

  -- the job that a waiting task keeps is the one that it is seen with
  parked_is : (k : Kept U K V R) (b : _) (h : Held K V) (p w : Waits K V) → k ≡ kept.Works b → IsKept n k → record { name = n; standing = standing_of k } ≡ h → b.value.load ≡ Parked p → h ≡ held_of w.job (IsWaiting w.keys) → p ≡ w
  parked_is k b h p w e i v l is =
      let at : IsWork n b.value = subst (IsKept n) e i in
      let loaded : IsLoaded {U = U} {K = K} {V = V} {R = R} b.value.own (Parked p) b.value.state = subst (λ z. IsLoaded b.value.own z b.value.state) l at.loaded in
      let seen : held_of b.value.own (IsWaiting p.keys) ≡ record { name = n; standing = standing_of (kept.Works b) } = λ j. record { name = at.name j; standing = works b.value.own (phase_of (sym l j)) } in
      let same : held_of b.value.own (IsWaiting p.keys) ≡ held_of w.job (IsWaiting w.keys) = seen ∙ (λ j. record { name = n; standing = standing_of (sym e j) }) ∙ v ∙ is in
      same_waits p w (loaded.0 ∙ held_job b.value.own w.job (IsWaiting p.keys) (IsWaiting w.keys) same) (held_phase b.value.own w.job (IsWaiting p.keys) (IsWaiting w.keys) same)

  -- a waiting task goes on with the answers to its batch
  pub next_follows : (k : Kept U K V R) (b : _) (h : Held K V) (p : Waits K V) (xs : List V) → k ≡ kept.Works b → IsKept n k → record { name = n; standing = standing_of k } ≡ h → b.value.load ≡ Parked p → (w : Waits K V) → h ≡ held_of w.job (IsWaiting w.keys) → length xs ≡ length w.keys → (a : Ahead K V) → a ≡ record { job = answered_more p.job p.keys xs; values = xs } → FollowsOn h a × (a.values ≡ xs)
  next_follows k b h p xs e i v l w is count a q =
      let m : p ≡ w = parked_is k b h p w e i v l is in
      let values : a.values ≡ xs = λ i. (q i).values in
      (record { waits = w; held = is; count = ap length values ∙ count; job = (λ i. (q i).job) ∙ (λ i. answered_more (m i).job (m i).keys (sym values i)) }, values)
