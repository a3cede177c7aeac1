-- How a job goes on, as it is kept, and how that goes with what the job is for.
use Rattle.std.specs.Prelude.{◌≡◌, ◌≢◌, ◌++◌, ◌∷◌, Bool, List, [], length}
use Rattle.std.specs.Arc.{arc_value}
use Rattle.dice_key.specs.Meaning.{Meaning, Answered, Running, Asks, Ends, Takes, next_of, resumed}
use Rattle.dice_key.specs.declared.universe.Kind.TheVariants.{Injected}
use Rattle.dep_recorder.specs.Checks.{Checked, Wants, IsSame, HasChanged, IsWantingOf, finding, values_of}
use Rattle.dice_jobs.specs.Jobs.{Work, Computes, Checks, Assigned, Outcome, Wanting, Valued, Unchanged, Changed, AsksThese, stand_of, outcome_of, Explains, IsExplained}
use Rattle.dice_jobs.specs.declared.work.Course.{Course}
use Rattle.dice_jobs.specs.declared.work.Course.TheVariants.{Idle, Run, Check}
use Rattle.dice_jobs.specs.declared.work.Stand.{Stand}
use Rattle.dice_jobs.specs.declared.work.Stand.TheVariants as stand
use Rattle.dice_jobs.specs.declared.step.Report.{Report}
use Rattle.dice_jobs.specs.declared.step.Report.TheVariants as report

-- what is checked has this trace
abbrev pub HasTrace : {K V : Type 0} → Work K V → List (Answered K V) → Type 0
HasTrace Computes T = ⊥
HasTrace (Checks x S b) T = S ≡ T

-- what a report, and what a job that stands so, says
abbrev pub reported : {K V : Type 0} → Report K V → Outcome K V
reported (report.Asks ks) = Wanting ks.now
reported (report.Done x) = Valued (arc_value x.now)
reported report.Same = Unchanged
reported (report.Differs d) = Changed (arc_value d.now)

abbrev pub ended : {U K V R : Type 0} → Stand U K V R → Outcome K V
ended stand.Ready = Unchanged
ended (stand.Answered xs) = Unchanged
ended (stand.Asks ks) = Wanting ks
ended (stand.Done x) = Valued (arc_value x)
ended stand.Same = Unchanged
ended (stand.Differs d) = Changed (arc_value d)

-- the keys that it wants
abbrev pub wanted : {U K V R : Type 0} → Stand U K V R → List K
wanted stand.Ready = []
wanted (stand.Answered xs) = []
wanted (stand.Asks ks) = ks
wanted (stand.Done x) = []
wanted stand.Same = []
wanted (stand.Differs d) = []

-- what a step of a run that stands here comes to is its next move
abbrev pub RunEnds : {U K V R : Type 0} → Meaning K V → Running K V → Stand U K V R → Type 0
RunEnds m p stand.Ready = ⊥
RunEnds m p (stand.Answered xs) = ⊥
RunEnds m p (stand.Asks ks) = next_of m p ≡ Asks ks
RunEnds m p (stand.Done x) = next_of m p ≡ Ends (arc_value x)
RunEnds m p stand.Same = ⊥
RunEnds m p (stand.Differs d) = ⊥

-- what a step of this check comes to is what it finds
abbrev pub Found : {U K V R : Type 0} → (V → V → Bool) → Checked K V → Stand U K V R → Type 0
Found eq c stand.Ready = ⊥
Found eq c (stand.Answered xs) = ⊥
Found eq c (stand.Asks ks) = finding eq c.trace c.fed ≡ Wants ks
Found eq c (stand.Done x) = ⊥
Found eq c stand.Same = finding eq c.trace c.fed ≡ IsSame
Found {V = V} eq c (stand.Differs d) = (x : V) × (y : V) × (finding eq c.trace c.fed ≡ HasChanged (arc_value d) x y)

pub record CheckEnds {U K V R : Type 0} (eq : V → V → Bool) (c : Checked K V) (s : Stand U K V R) : Type 0 where
  pub found : Found eq c s
  pub explained : Explains c.trace c.fed (ended s)

module _ {U K V R : Type 0} (m : Meaning K V) (eq : V → V → Bool) (running : R → Running K V) where
  -- a run, or a check, that goes on with this job when these keys are answered
  abbrev pub GoesWith : Assigned K V → List K → Course U K V R → Type 0
  GoesWith a ks Idle = ⊥
  GoesWith a ks (Run r) = (a.work ≡ Computes) × (running r ≡ stand_of a) × (m.next a.name.key a.answered a.name.version ≡ Asks ks)
  GoesWith a ks (Check c) = HasTrace a.work c.trace × (c.fed ≡ values_of a.answered) × (finding eq c.trace c.fed ≡ Wants ks)

  -- what the job goes on with when there is nothing to feed is ready for it: a run begins, and asks the batches that are answered; a check was fed all
  abbrev pub Begins : Assigned K V → Course U K V R → Type 0
  Begins a Idle = (a.work ≡ Computes) × (m.kind a.name.key ≢ Injected) × AsksThese m a.name.key a.name.version a.answered
  Begins a (Run r) = ⊥
  Begins a (Check c) = HasTrace a.work c.trace × (c.fed ≡ values_of a.answered)

  -- the answers to the batch last asked are at hand, which are the last that the job was answered
  abbrev pub TakesUp : Assigned K V → Course U K V R → List V → Type 0
  TakesUp a Idle xs = ⊥
  TakesUp a (Run r) xs = (a.work ≡ Computes) × Takes (next_of m (running r)) (length xs) × (resumed m (running r) xs ≡ stand_of a)
  TakesUp a (Check c) xs = HasTrace a.work c.trace × IsWantingOf (length xs) (finding eq c.trace c.fed) × (c.fed ++ xs ∷ [] ≡ values_of a.answered)

  -- the job is ready
  abbrev pub IsReady : Assigned K V → Course U K V R → Stand U K V R → Type 0
  IsReady a c stand.Ready = Begins a c
  IsReady a c (stand.Answered xs) = TakesUp a c xs
  IsReady a c (stand.Asks ks) = ⊥
  IsReady a c (stand.Done x) = ⊥
  IsReady a c stand.Same = ⊥
  IsReady a c (stand.Differs d) = ⊥

  -- a job that waits has what goes on when its keys are answered
  abbrev pub IsParked : Assigned K V → Course U K V R → Stand U K V R → Type 0
  IsParked a c stand.Ready = ⊥
  IsParked a c (stand.Answered xs) = ⊥
  IsParked a c (stand.Asks ks) = GoesWith a ks c
  IsParked a c (stand.Done x) = ⊥
  IsParked a c stand.Same = ⊥
  IsParked a c (stand.Differs d) = ⊥

  -- so has a step that wants keys
  abbrev pub GoesOn : Assigned K V → Course U K V R → Stand U K V R → Type 0
  GoesOn a c stand.Ready = ⊥
  GoesOn a c (stand.Answered xs) = ⊥
  GoesOn a c (stand.Asks ks) = GoesWith a ks c
  GoesOn a c (stand.Done x) = Unit {0}
  GoesOn a c stand.Same = Unit {0}
  GoesOn a c (stand.Differs d) = Unit {0}

  -- the step of a job has come to this
  pub record IsEnding (a : Assigned K V) (c : Course U K V R) (s : Stand U K V R) : Type 0 where
    pub outcome : ended s ≡ outcome_of m eq a
    pub explained : IsExplained a.work a.answered (ended s)
    pub goes_on : GoesOn a c s
