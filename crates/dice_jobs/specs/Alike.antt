-- Jobs that are as far, and answers that are the values at a job's version.
use Rattle.std.specs.Prelude.{◌≡◌, ◌≤◌, ℕ, Bool, List, [], length}
use Rattle.dice_key.specs.Meaning.{Meaning, Answered}
use Rattle.dice_model.specs.Eval.{HasValue}
use Rattle.dice_model.specs.Asks.{Goes, IsTrace, AllTrue}
use Rattle.dice_jobs.specs.Jobs.{Work, Computes, Checks, Assigned}
use Rattle.dice_jobs.specs.Truths.{Follows}

module _ {K V : Type 0} where
  -- both compute, or both check a value of one base
  abbrev pub WorksAlike : Work K V → Work K V → Type 0
  WorksAlike Computes Computes = Unit {0}
  WorksAlike Computes (Checks y S c) = ⊥
  WorksAlike (Checks x T b) Computes = ⊥
  WorksAlike (Checks x T b) (Checks y S c) = b ≡ c

  -- two jobs of one name that do alike, and are answered equally many batches
  pub record AreAlike (a b : Assigned K V) : Type 0 where
    pub name : a.name ≡ b.name
    pub work : WorksAlike a.work b.work
    pub answered : length a.answered ≡ length b.answered

module _ {K V : Type 0} (eq : K → K → Bool) (m : Meaning K V) (C : List (List (K × V))) where
  -- the answers are those at v: of a computation the batches that k asks there; of a check those to the first batches of its trace,
  -- by which k comes to the value at the base
  abbrev pub AreTrulyAnswered : ℕ → K → Work K V → List (Answered K V) → Type 0
  AreTrulyAnswered v k Computes A = Goes eq m C v k [] A
  AreTrulyAnswered v k (Checks x T b) A = (b ≤ length C) × IsTrace eq m C b k T x × Follows T A × AllTrue (HasValue eq m C v) A

  -- so are those of a job at its version
  abbrev pub AnsweredTruly : Assigned K V → Type 0
  AnsweredTruly a = AreTrulyAnswered a.name.version a.name.key a.work a.answered

  -- so it is with this job, whose version the log has
  pub record IsAnsweredIn (a : Assigned K V) : Type 0 where
    pub within : a.name.version ≤ length C
    pub truly : AnsweredTruly a
