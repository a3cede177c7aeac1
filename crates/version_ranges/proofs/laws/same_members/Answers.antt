use Rattle.std.proofs.Common.{subst}
use Rattle.version_ranges.specs.Order.{IsSeparate}
use Rattle.version_ranges.proofs.Canonical.{same_lists_from_members}
use Rattle.version_ranges.proofs.laws.same_members.Goals as goal

pub returns : goal.returns
returns c = same_lists_from_members c.args.a.now c.args.b.now (subst IsSeparate c.a.view_is c.a.invariant) (subst IsSeparate c.b.view_is c.b.invariant)
