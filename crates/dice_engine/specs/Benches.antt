-- What contracts see of a core with its line, and what it is to put ready jobs on the line.
use Rattle.std.specs.Prelude.{◌≡◌, Bool, List, []}
use Rattle.dice_key.specs.Meaning.{Meaning}
use Rattle.dice_jobs.specs.Jobs.{Assigned}
use Rattle.dice_core.specs.Cores.{CoreSeen, events_of}
use Rattle.job_line.specs.Ends.{LineId, PutterView}
use Rattle.dice_engine.specs.Turns.{log_of}
use Rattle.dice_engine.specs.Jobs.{KeepsRest, LinesUp, AreAnswered}

-- the core, which line it is, and all jobs that were put on it, in order
pub record BenchView (K V : Type 0) : Type 0 where
  pub core : CoreSeen K V
  pub line : LineId
  pub puts : List (Assigned K V)

module _ {K V : Type 0} (eq : K → K → Bool) (m : Meaning K V) where
  -- ready jobs of a core went on the line of a putter; if all that were put before were truly
  -- answered, so are all now
  pub record IsLinedUp (p q : PutterView (Assigned K V)) (c d : CoreSeen K V) : Type 0 where
    pub lines_up : LinesUp eq p.puts q.puts c d
    pub rest : KeepsRest c d
    pub none : c.desk.ready ≡ [] → d ≡ c
    pub line : q.line ≡ p.line
    pub answered : AreAnswered eq m (log_of (events_of c)) p.puts → AreAnswered eq m (log_of (events_of d)) q.puts
