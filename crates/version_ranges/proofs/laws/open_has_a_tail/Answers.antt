use Rattle.std.proofs.Common.{subst}
use Rattle.version_ranges.specs.Order.{IsSeparate}
use Rattle.version_ranges.proofs.Canonical.{tail_of_open, open_of_tail}
use Rattle.version_ranges.proofs.laws.open_has_a_tail.Goals as goal

pub returns : goal.returns
returns c = (tail_of_open c.args.ranges.now, open_of_tail c.args.ranges.now (subst IsSeparate c.ranges-2.view_is c.ranges-2.invariant))
