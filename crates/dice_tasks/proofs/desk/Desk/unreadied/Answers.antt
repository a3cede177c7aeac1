use Rattle.std.proofs.Common.{ℕ, refl, arith}
use Rattle.std.specs.Arc.{arc_value}
use Rattle.dice_tasks.proofs.Desks.{some_ready, unreadied_is}
use Rattle.dice_tasks.proofs.desk.Desk.unreadied.Goals as goal

pub overflow_sub-self : goal.overflow_sub-self
overflow_sub-self g c =
    let p : ℕ × g.row.U-Key.Denot = (c.args.version, arc_value c.args.key.now) in
    let s = some_ready c.self.inside.ready c.self.inside.at_hand.keys _ c.args.self.now p c.self.view_is c.self.invariant.0 refl c.requires in
    omega (arith, s.0)

pub take_out-requires-clause-bound : goal.take_out-requires-clause-bound
take_out-requires-clause-bound g c =
    λ κ l. let p : ℕ × g.row.U-Key.Denot = (c.args.version, arc_value c.args.key.now) in
    (some_ready c.self.inside.ready c.self.inside.at_hand.keys _ c.args.self.now p c.self.view_is c.self.invariant.0 refl c.requires).1

pub take_out-requires-clause-ready : goal.take_out-requires-clause-ready
take_out-requires-clause-ready g c =
    λ κ l. let p : ℕ × g.row.U-Key.Denot = (c.args.version, arc_value c.args.key.now) in
    (some_ready c.self.inside.ready c.self.inside.at_hand.keys _ c.args.self.now p c.self.view_is c.self.invariant.0 refl c.requires).2

pub returns : goal.returns
returns g c =
    let p : ℕ × g.row.U-Key.Denot = (c.args.version, arc_value c.args.key.now) in
    unreadied_is c.self.inside.ready c.self.inside.at_hand.keys c.take_out.new.shelf.keys _ c.args.self.now p c.self.view_is c.self.invariant.0 refl refl c.requires c.take_out.ensures.ready c.take_out.ensures.out c.take_out.ensures.len
