-- Rounds of a wait.
use Rattle.std.proofs.Common.{◌≡◌, [], Bool, refl, sym, subst}
use Rattle.std.specs.Prelude.{Result}
use Rattle.dice_key.specs.Meaning.{Meaning}
use Rattle.journal.specs.declared.event.Told.{Told}
use Rattle.dice_jobs.specs.Jobs.{Name, Assigned, Stepped}
use Rattle.dice_engine.specs.Seats.{SeatView, found_empty}
use Rattle.dice_engine.specs.Turns.{Turn, Works, rests, works}
use Rattle.dice_engine.specs.Calls.{AddsNothing}
use Rattle.dice_engine.specs.Replies.{Reply}
use Rattle.dice_engine.specs.Jobs.{CameOf}
use Rattle.dice_engine.specs.declared.promise.Promise.{Promise}
use Rattle.dice_engine.specs.declared.promise.Worked.{Worked}
use Rattle.dice_engine.specs.declared.promise.Worked.TheVariants as worked
use Rattle.dice_engine.specs.Doings.{TurnOver, Looks, FindsNothing, GetsJob, DoesJob, TellsOfCore, GivesAndTells, TellsLast, looked, gave, WaitsOn, begins, empty, looks, does}
use Rattle.dice_engine.proofs.Turned.{turn_so, turn_of_pass}
use Rattle.dice_engine.proofs.Jobs.{over_so, over_of_pass, job_home}

module _ {K V : Type 0} (eq : K → K → Bool) (m : Meaning K V) where
  -- a look that tells is a look
  pub only_looked : {U R : Type 0} (p : Promise U K V R) (r : Reply K V) (old new : SeatView (Told K V)) → TellsOfCore eq m p r old new → Looks eq m old new
  only_looked p r old new t = over_so eq m old new _ _ t (λ c d h. h.0)

  -- a look after the line was found empty
  module _ (old found new : SeatView (Told K V)) (e : found ≡ found_empty old) where
    pub looked_works : Turn eq m found new (λ found. AddsNothing) → Works eq m old new
    looked_works t =
        let after : Turn eq m (found_empty old) new (λ found. AddsNothing) = subst (λ z. Turn eq m z new (λ found. AddsNothing)) e t in
        works rests (turn_of_pass eq m old new old.places (found_empty old).empties (λ found own work. own ≡ []) (turn_so eq m (found_empty old) new (λ found. AddsNothing) (λ found own work. own ≡ []) after (λ found own work d. d.0)))

    pub looked_waits : {U R : Type 0} (veq : V → V → Bool) (p : Promise U K V R) (r : Reply K V) → TellsOfCore eq m p r found new → WaitsOn eq m veq old new
    looked_waits veq p r t = looks (empty begins) (subst (λ z. Looks eq m z new) e (only_looked p r found new t))

    pub looked_tells : {U R : Type 0} (veq : V → V → Bool) (p : Promise U K V R) (r q : Reply K V) → q ≡ r → TellsOfCore eq m p r found new → TellsLast eq m veq p q old new
    looked_tells veq p r q same t =
        subst (λ (x : Reply K V). TellsLast eq m veq p x old new) (sym same)
        (looked (over_of_pass eq m old new old.places (found_empty old).empties _ (subst (λ z. TellsOfCore eq m p r z new) e t)))

  module _ (veq : V → V → Bool) where
    pub nothing_found : (old new : SeatView (Told K V)) → FindsNothing eq m old new → WaitsOn eq m veq old new
    nothing_found old new t = looks (empty begins) (over_so eq m (found_empty old) new _ _ t (λ c d h. h.1))

    -- a call of `work`
    pub worked_waits : (w : Worked) (old new : SeatView (Told K V)) → (w ≡ worked.Did → DoesJob eq m veq old new) → (w ≡ worked.Idle → FindsNothing eq m old new) → WaitsOn eq m veq old new
    worked_waits worked.Did old new did none = does begins (did refl)
    worked_waits worked.Idle old new did none = nothing_found old new (none refl)

    -- one wait after another
    pub waits_both : (a b c : SeatView (Told K V)) → WaitsOn eq m veq a b → WaitsOn eq m veq b c → WaitsOn eq m veq a c
    waits_both a b _ w begins = w
    waits_both a b _ w (empty {mid} u) = empty (waits_both a b mid w u)
    waits_both a b c w (looks {mid} u t) = looks (waits_both a b mid w u) t
    waits_both a b c w (does {mid} u d) = does (waits_both a b mid w u) d

    -- a job was got, and the promise was polled in the turn in which what came of it came home
    module _ {U R : Type 0} (p : Promise U K V R) (r : Reply K V) (old mid new : SeatView (Told K V)) (job : Assigned K V) (came : Result (Stepped K V) (Name K))
        (gets : GetsJob eq m old mid job) (comes : CameOf eq m veq job came) (home : TurnOver eq m mid new (GivesAndTells eq m veq p r came)) where
      pub gave_tells : (q : Reply K V) → q ≡ r → TellsLast eq m veq p q old new
      gave_tells q same = subst (λ (x : Reply K V). TellsLast eq m veq p x old new) (sym same) (gave mid job came gets comes home)

      pub gave_does : DoesJob eq m veq old new
      gave_does = record { mid = mid; job = job; came = came; comes = comes; gets = gets; home = over_so eq m mid new _ _ home (λ c d h. (h.0, job_home eq m veq came job c d comes h.0)) }
