use Rattle.std.specs.Arc.{arc_value}
use Rattle.dice_session.proofs.Sole.{goes_nothing, ready_nothing, rests_goes}
use Rattle.dice_session.proofs.session.Session.point.Goals as goal

pub invariant_of-self : goal.invariant_of-self
invariant_of-self g c = ready_nothing g.U.Key.PartialEq.eq g.U.Universe.meaning (arc_value c.self.inside.engine) c.self.inside.seat c.event_count.new.seat c.self.invariant.sole c.self.inside.kept c.self.invariant.still c.event_count.ensures.turn

pub returns-clause-rests : goal.returns-clause-rests
returns-clause-rests g c =
    let id = arc_value c.self.inside.engine in
    rests_goes id c.self.inside.seat c.event_count.new.seat c.self.inside.changes c.args.self.now c.self.view_is (goes_nothing g.U.Key.PartialEq.eq g.U.Universe.meaning id c.self.inside.seat c.event_count.new.seat c.self.invariant.sole c.event_count.ensures.turn)
