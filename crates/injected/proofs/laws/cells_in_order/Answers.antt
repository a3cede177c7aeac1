-- No set lies above the last version.
use Rattle.std.proofs.Common.{◌+◌, arith, subst}
use Rattle.injected.specs.Seen.{sets_at, IsInOrder}
use Rattle.injected.proofs.Histories.{settled, below_more}
use Rattle.injected.proofs.laws.cells_in_order.Goals as goal

pub returns-clause-below : goal.returns-clause-below
returns-clause-below g c = λ v k l.
    let s = c.args.cells.now in
    let order : IsInOrder g.U.Key.PartialEq.eq s = subst (IsInOrder g.U.Key.PartialEq.eq) c.cells.view_is c.cells.invariant in
    below_more (sets_at g.U.Key.PartialEq.eq s k) (s.last + 1) v (omega arith) (order.bounded k)

pub returns-clause-newest : goal.returns-clause-newest
returns-clause-newest g c = λ w k l.
    let s = c.args.cells.now in
    let order : IsInOrder g.U.Key.PartialEq.eq s = subst (IsInOrder g.U.Key.PartialEq.eq) c.cells.view_is c.cells.invariant in
    settled (g.U.Universe.meaning.absent k) (sets_at g.U.Key.PartialEq.eq s k) w (below_more (sets_at g.U.Key.PartialEq.eq s k) (s.last + 1) (w + 1) (omega arith) (order.bounded k))
