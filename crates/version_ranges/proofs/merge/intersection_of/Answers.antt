-- Of the two ranges, the one that ends first has met all that it can.
use Rattle.std.proofs.Common.{None, arith}
use Rattle.std.proofs.lemmas.Bool.{not_from_false}
use Rattle.version_ranges.proofs.Merges.{meet_left, meet_right}
use Rattle.version_ranges.proofs.merge.intersection_of.Goals as goal

pub walk-preserved-then-ends_by : goal.walk-preserved-then-ends_by
walk-preserved-then-ends_by c = record {
  left = omega arith;
  right = omega arith;
  walked = meet_left c.args.a.now c.args.b.now c.walk.i c.walk.j record { from = 0; to = None } c.requires.left c.requires.right _ _ (omega arith) (omega arith) (c.ends_by.ensures.yes c.if-ends_by.true) c.walk.invariant.walked c.in_ok-append_common.ensures.separate c.in_ok-append_common.ensures.members c.in_ok-append_common.ensures.in_order;
}

pub walk-preserved : goal.walk-preserved
walk-preserved c = record {
  left = omega arith;
  right = omega arith;
  walked = meet_right c.args.a.now c.args.b.now c.walk.i c.walk.j record { from = 0; to = None } c.requires.left c.requires.right _ _ (omega arith) (omega arith) (c.ends_by.ensures.no (not_from_false _ c.if-ends_by.false)) c.walk.invariant.walked c.in_ok-append_common.ensures.separate c.in_ok-append_common.ensures.members c.in_ok-append_common.ensures.in_order;
}
