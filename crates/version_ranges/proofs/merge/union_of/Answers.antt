-- The range that begins first is taken from what is left.
use Rattle.std.proofs.Common.{None, ◌<◌, length, arith}
use Rattle.version_ranges.proofs.Merges.{has_at_left, has_at_right, step_left, step_right}
use Rattle.version_ranges.proofs.merge.union_of.Goals as goal

pub append-requires-clause-has_version : goal.append-requires-clause-has_version
append-requires-clause-has_version c = has_at_left c.args.a.now c.args.b.now c.walk.i c.walk.j record { from = 0; to = None } c.requires.left c.requires.right (c.is_left_next.ensures.yes c.if-is_left_next.true)

pub walk-preserved-then-is_left_next : goal.walk-preserved-then-is_left_next
walk-preserved-then-is_left_next c =
    let some : c.walk.i < length c.args.a.now = c.is_left_next.ensures.yes c.if-is_left_next.true in
    record {
      left = omega arith;
      right = omega arith;
      walked = step_left c.args.a.now c.args.b.now c.walk.i c.walk.j record { from = 0; to = None } c.requires.left c.requires.right _ _ some (c.is_left_next.ensures.first c.if-is_left_next.true record { from = 0; to = None }) c.walk.invariant.walked c.in_ok-append.ensures.separate c.in_ok-append.ensures.members c.in_ok-append.ensures.in_order;
    }

pub append-requires-then-j-b-clause-has_version : goal.append-requires-then-j-b-clause-has_version
append-requires-then-j-b-clause-has_version c = has_at_right c.args.a.now c.args.b.now c.walk.i c.walk.j record { from = 0; to = None } c.requires.left c.requires.right (omega arith)

pub walk-preserved : goal.walk-preserved
walk-preserved c = record {
  left = omega arith;
  right = omega arith;
  walked = step_right c.args.a.now c.args.b.now c.walk.i c.walk.j record { from = 0; to = None } c.requires.left c.requires.right _ _ (omega arith) (c.is_left_next.ensures.no c.if-is_left_next.false record { from = 0; to = None }) c.walk.invariant.walked c.in_ok-append-2.ensures.separate c.in_ok-append-2.ensures.members c.in_ok-append-2.ensures.in_order;
}
