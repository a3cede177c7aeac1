-- The versions on one side of the only set.
use Rattle.std.proofs.Common.{◌≡◌, ◌≤◌, true, false, arith}
use Rattle.std.specs.Arc.{arc_value}
use Rattle.injected.proofs.Singles.{all_sides, low_side, high_side}
use Rattle.injected.proofs.history.side_of.Goals as goal

pub returns-then-eq-clause-members : goal.returns-then-eq-clause-members
returns-then-eq-clause-members g c =
    let same : g.V.PartialEq.eq (arc_value c.args.absent.now) (arc_value c.args.value.now) ≡ true = cc in
    all_sides g.V.PartialEq.eq c.requires.laws (arc_value c.args.absent.now) (arc_value c.args.value.now) c.args.set c.args.version same

pub returns-then-version-set-clause-members : goal.returns-then-version-set-clause-members
returns-then-version-set-clause-members g c =
    let other : g.V.PartialEq.eq (arc_value c.args.absent.now) (arc_value c.args.value.now) ≡ false = cc in
    low_side g.V.PartialEq.eq c.requires.laws (arc_value c.args.absent.now) (arc_value c.args.value.now) c.args.set c.args.version other c.if-version-set.true

pub returns-clause-members : goal.returns-clause-members
returns-clause-members g c =
    let other : g.V.PartialEq.eq (arc_value c.args.absent.now) (arc_value c.args.value.now) ≡ false = cc in
    let l : c.args.set ≤ c.args.version = omega arith in
    high_side g.V.PartialEq.eq c.requires.laws (arc_value c.args.absent.now) (arc_value c.args.value.now) c.args.set c.args.version other l
