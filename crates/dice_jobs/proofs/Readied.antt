-- Jobs that are ready, as they are kept.
use Rattle.std.proofs.Common.{◌≡◌, ◌≢◌, ◌∙◌, ◌++◌, ◌∷◌, ◌+◌, Bool, List, [], length, take, refl, sym, ap, subst}
use Rattle.std.proofs.lemmas.List.{map-append}
use Rattle.dice_key.specs.Meaning.{Meaning, Answered, Running, Step, Asks, Takes, next_of, resumed, answered_with}
use Rattle.dice_key.specs.declared.universe.Kind.TheVariants.{Injected}
use Rattle.dep_recorder.specs.Checks.{Checked, IsWantingOf, values_of}
use Rattle.dice_jobs.specs.Jobs.{Name, Computes, Assigned, Agrees, AsksThese, answered_more, stand_of}
use Rattle.dice_jobs.specs.Courses.{GoesWith, Begins, TakesUp, IsReady, IsParked, wanted}
use Rattle.dice_jobs.specs.declared.work.Course.{Course}
use Rattle.dice_jobs.specs.declared.work.Course.TheVariants.{Idle, Run, Check}
use Rattle.dice_jobs.specs.declared.work.Stand.{Stand}
use Rattle.dice_jobs.specs.declared.work.Stand.TheVariants as stand
use Rattle.dice_jobs.proofs.Agreed.{ready_agreed}
use Rattle.dice_jobs.proofs.Replayed.{asks_none}

module _ {U K V R : Type 0} (m : Meaning K V) (eq : V → V → Bool) (running : R → Running K V) where
  -- a run begins
  pub begins_ready : (a : Assigned K V) (k : Course U K V R) (s : Stand U K V R) (n : Name K) → a ≡ record { name = n; answered = []; work = Computes } → k ≡ Idle → s ≡ stand.Ready → m.kind n.key ≢ Injected → IsReady m eq running a k s
  begins_ready a k s n e f g h =
      subst (IsReady m eq running a k) (sym g)
      (subst (Begins m eq running a) (sym f)
      (subst (λ (b : Assigned K V). (b.work ≡ Computes) × (m.kind b.name.key ≢ Injected) × AsksThese m b.name.key b.name.version b.answered) (sym e) (refl, h, asks_none m _ _)))

  takes_up : (a : Assigned K V) (k : Course U K V R) (ks : List K) (xs : List V) → GoesWith m eq running a ks k → length xs ≡ length ks → TakesUp m eq running (answered_more a ks xs) k xs
  takes_up a Idle ks xs h l = absurd h
  takes_up a (Run r) ks xs h l =
      let e = h.1 in
      let z : next_of m (running r) ≡ Asks ks = ap (next_of m) e ∙ h.2 in
      let w : resumed m (running r) xs ≡ stand_of (answered_more a ks xs) = λ j. record { key = (e j).key; version = (e j).version; answered = answered_with (z j) (e j).answered xs } in
      (h.0, subst (λ (t : Step K V). Takes t (length xs)) (sym z) l, w)
  takes_up a (Check c) ks xs h l = (
    h.0,
    subst (λ f. IsWantingOf (length xs) f) (sym h.2) l,
    ap (λ f. f ++ xs ∷ []) h.1 ∙ sym (map-append (λ (b : Answered K V). b.values) a.answered (record { keys = ks; values = xs } ∷ [])),
  )

  parked_takes_up : (a : Assigned K V) (k : Course U K V R) (s : Stand U K V R) (xs : List V) → IsParked m eq running a k s → length xs ≡ length (wanted s) → TakesUp m eq running (answered_more a (wanted s) xs) k xs
  parked_takes_up a k stand.Ready xs h l = absurd h
  parked_takes_up a k (stand.Answered ys) xs h l = absurd h
  parked_takes_up a k (stand.Asks ks) xs h l = takes_up a k ks xs h l
  parked_takes_up a k (stand.Done x) xs h l = absurd h
  parked_takes_up a k stand.Same xs h l = absurd h
  parked_takes_up a k (stand.Differs d) xs h l = absurd h

  -- a job that waits goes on with the answers to its batch
  pub answered_ready : (a n : Assigned K V) (k : Course U K V R) (s t : Stand U K V R) (xs : List V) → IsParked m eq running a k s → n ≡ answered_more a (wanted s) xs → length xs ≡ length (wanted s) → t ≡ stand.Answered xs → IsReady m eq running n k t
  answered_ready a n k s t xs h e l f = subst (IsReady m eq running n k) (sym f) (subst (λ (b : Assigned K V). TakesUp m eq running b k xs) (sym e) (parked_takes_up a k s xs h l))

  -- the check of a job that waits wants its batch
  pub parked_check : (a : Assigned K V) (c : Checked K V) (s : Stand U K V R) → IsParked m eq running a (Check c) s → GoesWith {U = U} m eq running a (wanted s) (Check c)
  parked_check a c stand.Ready h = absurd h
  parked_check a c (stand.Answered ys) h = absurd h
  parked_check a c (stand.Asks ks) h = h
  parked_check a c (stand.Done x) h = absurd h
  parked_check a c stand.Same h = absurd h
  parked_check a c (stand.Differs d) h = absurd h

  -- it goes on, and is not fed answers that are known to be those of its trace
  pub agreed_ready : (a n : Assigned K V) (c d : Checked K V) (k : Course U K V R) (s t : Stand U K V R) (xs : List V) → IsParked m eq running a (Check c) s → n ≡ answered_more a (wanted s) xs → Agrees n → d ≡ record { trace = c.trace; fed = values_of (take (length c.fed + 1) c.trace) } → k ≡ Check d → t ≡ stand.Ready
      → IsReady m eq running n k t
  agreed_ready a n c d k s t xs h e agrees f p q =
      let w = parked_check a c s h in
      subst (IsReady m eq running n k) (sym q) (subst (Begins m eq running n) (sym p) (ready_agreed a n (wanted s) xs c d e agrees w.0 w.1 f))
