-- What becomes of a job in the core: it goes out, onto the line of jobs or into a hand, and what came of it outside is taken up.
use Rattle.std.specs.Prelude.{◌≡◌, ◌⊎◌, ◌≤◌, ◌^◌, slice_get, ℕ, Bool, List, [], ◌∷◌, ◌++◌, length, Option, Some, None, Result, Ok, Err}
use Rattle.dice_key.specs.Meaning.{Meaning}
use Rattle.std.specs.List.{AllByRecursion}
use Rattle.dice_jobs.specs.Alike.{IsAnsweredIn}
use Rattle.dice_jobs.specs.Jobs.{Name, Assigned, Stepped, IsStepOf}
use Rattle.dice_tasks.specs.Endings.{GivesUpAll}
use Rattle.dice_core.specs.Cores.{CoreSeen, events_of, Turned, IsAsBefore, IsJobOut, IsNameOut, TakesOut, GivesUpOnly}
use Rattle.dice_core.specs.Givings.{GivesStep, DoesStep}

module _ {K V : Type 0} where
  -- all that a core has beside its tasks is as before
  abbrev pub KeepsRest : CoreSeen K V → CoreSeen K V → Type 0
  KeepsRest c d = (events_of d ≡ events_of c) × (d.entries ≡ c.entries) × (d.cells ≡ c.cells) × (d.sessions ≡ c.sessions)

module _ {K V : Type 0} (eq : K → K → Bool) where
  -- a job that was ready goes out, and nothing else changes; or none was, and nothing changes
  abbrev pub GoesOut : Option (Assigned K V) → CoreSeen K V → CoreSeen K V → Type 0
  GoesOut None c d = (c.desk.ready ≡ []) × (d ≡ c)
  GoesOut (Some j) c d = TakesOut eq j c d

  -- these jobs, which were ready, went out one after another, and nothing else changed
  pub data GoOut (c : CoreSeen K V) : List (Assigned K V) → CoreSeen K V → Type 0 where
    none_goes : GoOut c [] c
    goes_too : {js : List (Assigned K V)} {d e : CoreSeen K V} (j : Assigned K V) → GoOut c js d → TakesOut eq j d e → KeepsRest d e → GoOut c (js ++ j ∷ []) e

  -- why no more jobs go on the line: no task is ready; so many were put that it takes no more; or
  -- there was no memory for one, which had gone out and is back
  pub data StopsAt (puts : ℕ) (c d : CoreSeen K V) : Type 0 where
    all_out : c.desk.ready ≡ [] → d ≡ c → StopsAt puts c d
    full : 2 ^ 62 ≤ puts → d ≡ c → StopsAt puts c d
    is_back : (j : Assigned K V) (e : CoreSeen K V) → TakesOut eq j c e → TakesOut eq j d e → KeepsRest c d → KeepsRest d e → StopsAt puts c d

  -- ready jobs go out and onto the line of jobs, in this order, until it stops
  pub record LinesUp (old new : List (Assigned K V)) (c d : CoreSeen K V) : Type 0 where
    pub jobs : List (Assigned K V)
    pub put : new ≡ old ++ jobs
    pub mid : CoreSeen K V
    pub out : GoOut c jobs mid
    pub stops : StopsAt (length new) mid d

module _ {K V : Type 0} (eq : K → K → Bool) (m : Meaning K V) where
  -- the job of this name, which was out, is given up: its task ends as lost, and with it each that
  -- waits for it; then those go that nobody asks for any more; and no job of the name is out
  pub record IsGivenUp (n : Name K) (c d : CoreSeen K V) : Type 0 where
    pub was : IsNameOut eq c n
    pub ends : Turned eq m n.version c.tables d.tables
        (λ ps qs. GivesUpAll eq n.version None n.key ps qs c.desk d.desk)
    pub only : GivesUpOnly eq c d
    pub rest : (d.entries ≡ c.entries) × (d.cells ≡ c.cells) × (d.sessions ≡ c.sessions)
    pub home : IsNameOut eq d n → ⊥

  -- there was no memory for the job of this name: it was out, and is given up; or no job of the
  -- name was out, and nothing changes
  pub data GivesUpJob (n : Name K) (c d : CoreSeen K V) : Type 0 where
    gives_up : IsGivenUp n c d → GivesUpJob n c d
    not_out : (IsNameOut eq c n → ⊥) → d ≡ c → GivesUpJob n c d

module _ {K V : Type 0} (eq : K → K → Bool) (m : Meaning K V) (veq : V → V → Bool) where
  -- the step's job was out and is out no more; and of its task, of those that wait for it and of
  -- the entries becomes what the step reports
  pub record IsStepTaken (s : Stepped K V) (c d : CoreSeen K V) : Type 0 where
    pub gives : GivesStep eq m veq s c d
    pub does : DoesStep eq m veq s c d
    pub rest : (d.cells ≡ c.cells) × (d.sessions ≡ c.sessions)

  -- the step's job was out; memory was refused for the step, which left all as before; and so the
  -- job was given up
  pub record IsStepLost (s : Stepped K V) (c d : CoreSeen K V) : Type 0 where
    pub was : IsJobOut eq c s.job
    pub refused : CoreSeen K V
    pub as_before : IsAsBefore eq c refused
    pub given_up : IsGivenUp eq m s.job.name refused d

  -- what becomes of a step: it is taken; or its job was not out, and nothing changes; or it is lost
  pub data TakesUpStep (s : Stepped K V) (c d : CoreSeen K V) : Type 0 where
    taken : IsStepTaken s c d → TakesUpStep s c d
    stale : (IsJobOut eq c s.job → ⊥) → d ≡ c → TakesUpStep s c d
    lost : IsStepLost s c d → TakesUpStep s c d

  -- what came of a job comes home: its step is taken up; or its name alone, if there was no
  -- memory for the work; and the job is out no more
  abbrev pub ComesHome : Result (Stepped K V) (Name K) → CoreSeen K V → CoreSeen K V → Type 0
  ComesHome (Ok s) c d = TakesUpStep s c d × (IsJobOut eq d s.job → ⊥)
  ComesHome (Err n) c d = GivesUpJob eq m n c d × (IsNameOut eq d n → ⊥)

  -- this is what comes of the job outside
  abbrev pub CameOf : Assigned K V → Result (Stepped K V) (Name K) → Type 0
  CameOf j (Ok s) = IsStepOf m veq s j
  CameOf j (Err n) = n ≡ j.name

module _ {K V : Type 0} (eq : K → K → Bool) (m : Meaning K V) (C : List (List (K × V))) where
  -- the answers of each of these jobs are the values at its version
  abbrev pub AreAnswered : List (Assigned K V) → Type 0
  AreAnswered js = AllByRecursion (IsAnsweredIn eq m C) js

  -- the answers of the job are the values at its version; or it was seen on the line
  abbrev pub IsKnown : List (Assigned K V) → Assigned K V → Type 0
  IsKnown seen j = IsAnsweredIn eq m C j ⊎ ((place : ℕ) × (slice_get seen place ≡ Some j))
