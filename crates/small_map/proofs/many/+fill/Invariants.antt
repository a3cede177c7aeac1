use Rattle.std.proofs.Common.{length}
use Rattle.small_map.proofs.many.+fill.Given as goal

-- one entry less at each step
abbrev pub decreases-fill : goal.decreases-fill
decreases-fill g l = length l.few.now
