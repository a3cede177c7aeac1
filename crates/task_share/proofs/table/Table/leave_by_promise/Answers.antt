use Rattle.std.proofs.Common.{◌≡◌, subst, not, ◌&&◌, List}
use Rattle.std.specs.Arc.{arc_value}
use Rattle.task_share.specs.Asked.{By, Promised, is_by}
use Rattle.task_share.specs.Seen.{Share, asks, KeepsTasks, KeepsRoom}
use Rattle.task_share.specs.Listed.{shares_of}
use Rattle.task_share.proofs.TableLemmas.{promise_left_asks, promise_left_tasks, promise_left_mirrored, promise_left_room}
use Rattle.task_share.proofs.table.Table.leave_by_promise.Goals as goal

pub invariant_of-self : goal.invariant_of-self
invariant_of-self g c = (c.self.invariant.0, record { listed = c.leave_promise.ensures.listed; mirrored = promise_left_mirrored g.K.PartialEq.eq c.self.invariant.0 (shares_of c.self.inside.places.entries) (shares_of c.leave_promise.new.places.entries) (arc_value c.args.key.now) c.args.number c.leave_promise.ensures.changed c.self.invariant.1.mirrored }, c.leave_promise.ensures.linked)

pub returns-clause-tasks : goal.returns-clause-tasks
returns-clause-tasks g c = subst (λ (ps : List (g.row.K.Denot × Share g.row.K.Denot g.row.T.Denot)). KeepsTasks g.K.PartialEq.eq ps (shares_of c.leave_promise.new.places.entries)) c.self.view_is
    (promise_left_tasks g.K.PartialEq.eq c.self.invariant.0 (shares_of c.self.inside.places.entries) (shares_of c.leave_promise.new.places.entries) (arc_value c.args.key.now) c.args.number c.leave_promise.ensures.changed)

pub returns-clause-asks : goal.returns-clause-asks
returns-clause-asks g c = subst (λ (ps : List (g.row.K.Denot × Share g.row.K.Denot g.row.T.Denot)). (q : g.row.K.Denot) (a : By g.row.K.Denot) → asks g.K.PartialEq.eq (shares_of c.leave_promise.new.places.entries) q a ≡ (asks g.K.PartialEq.eq ps q a && not (g.K.PartialEq.eq (arc_value c.args.key.now) q && is_by g.K.PartialEq.eq (Promised c.args.number) a))) c.self.view_is
    (promise_left_asks g.K.PartialEq.eq c.self.invariant.0 (shares_of c.self.inside.places.entries) (shares_of c.leave_promise.new.places.entries) (arc_value c.args.key.now) c.args.number c.leave_promise.ensures.changed)

pub returns-clause-room : goal.returns-clause-room
returns-clause-room g c = subst (λ (ps : List (g.row.K.Denot × Share g.row.K.Denot g.row.T.Denot)). KeepsRoom g.K.PartialEq.eq ps (shares_of c.leave_promise.new.places.entries)) c.self.view_is
    (promise_left_room g.K.PartialEq.eq c.self.invariant.0 (shares_of c.self.inside.places.entries) (shares_of c.leave_promise.new.places.entries) (arc_value c.args.key.now) c.args.number c.leave_promise.ensures.changed)
