use Rattle.std.proofs.Common.{length}
use Rattle.small_map.proofs.few.Few.+remove.Given as goal

-- one entry less at each step
abbrev pub decreases-remove : goal.decreases-remove
decreases-remove g l = length l.self.now
