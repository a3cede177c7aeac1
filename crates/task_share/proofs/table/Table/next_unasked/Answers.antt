use Rattle.std.proofs.Common.{◌≡◌, ◌<◌, cond, List, map, Some, None, subst}
use Rattle.std.specs.Arc.{arc_value}
use Rattle.std.specs.Map.{values_of}
use Rattle.task_share.specs.Asked.{IsDone, Takes}
use Rattle.task_share.specs.Seen.{Share, task_at, asked_of, live_count, KeepsTasks, KeepsAsks, KeepsRoom, KeepsOtherRoom}
use Rattle.task_share.specs.Listed.{shares_of}
use Rattle.task_share.proofs.TableLemmas.{mirrored_same, popped_takes, popped_task, popped_tasks, popped_mirrored, popped_room, popped_count, done_from}
use Rattle.task_share.proofs.table.Table.next_unasked.Goals as goal

pub invariant_of-self : goal.invariant_of-self
invariant_of-self g c = (c.self.invariant.0, record { listed = c.pop_idle.ensures.listed; mirrored = mirrored_same g.K.PartialEq.eq c.self.invariant.0 (shares_of c.self.inside.places.entries) (shares_of c.pop_idle.new.places.entries) c.in_default.ensures.none.0.asks c.in_default.ensures.none.0.waits c.self.invariant.1.mirrored }, c.pop_idle.ensures.linked)

pub invariant_of-self-2 : goal.invariant_of-self-2
invariant_of-self-2 g c = (c.self.invariant.0, record { listed = c.withdraw.ensures.listed; mirrored = popped_mirrored g.K.PartialEq.eq c.self.invariant.0 (shares_of c.self.inside.places.entries) (shares_of c.pop_idle.new.places.entries) (shares_of c.withdraw.new.places.entries) (arc_value c.in-Some.key) c.in-Some.task (map arc_value (values_of c.in-Some.waits.entries)) c.in-Some.ensures.some (c.withdraw.ensures.withdrawn (arc_value c.in-Some.key) c.in-Some.ensures.named) c.self.invariant.1.mirrored }, c.withdraw.ensures.linked)

pub withdraw-requires-clause-listed : goal.withdraw-requires-clause-listed
withdraw-requires-clause-listed g c = c.pop_idle.ensures.listed

pub returns-in_default-clause-none : goal.returns-in_default-clause-none
returns-in_default-clause-none g c = subst (λ (ps : List (g.row.K.Denot × Share g.row.K.Denot g.row.T.Denot)). IsDone (asked_of g.K.PartialEq.eq ps) × KeepsTasks g.K.PartialEq.eq ps (shares_of c.pop_idle.new.places.entries) × KeepsAsks g.K.PartialEq.eq ps (shares_of c.pop_idle.new.places.entries) × KeepsRoom g.K.PartialEq.eq ps (shares_of c.pop_idle.new.places.entries)) c.self.view_is
    (done_from g.K.PartialEq.eq c.self.invariant.0 (shares_of c.self.inside.places.entries) (shares_of c.pop_idle.new.places.entries) c.in_default.ensures.none.0 c.in_default.ensures.none.1, c.in_default.ensures.none.0.tasks, c.in_default.ensures.none.0.asks, c.in_default.ensures.none.0.room)

pub returns-clause-some : goal.returns-clause-some
returns-clause-some g c = subst (λ (ps : List (g.row.K.Denot × Share g.row.K.Denot g.row.T.Denot)). Takes g.K.PartialEq.eq (asked_of g.K.PartialEq.eq ps) (arc_value c.in-Some.key) (asked_of g.K.PartialEq.eq (shares_of c.withdraw.new.places.entries))) c.self.view_is
    (popped_takes g.K.PartialEq.eq c.self.invariant.0 (shares_of c.self.inside.places.entries) (shares_of c.pop_idle.new.places.entries) (shares_of c.withdraw.new.places.entries) (arc_value c.in-Some.key) c.in-Some.task (map arc_value (values_of c.in-Some.waits.entries)) c.in-Some.ensures.some (c.withdraw.ensures.withdrawn (arc_value c.in-Some.key) c.in-Some.ensures.named) c.self.invariant.1.mirrored)

pub returns-clause-task : goal.returns-clause-task
returns-clause-task g c = subst (λ (ps : List (g.row.K.Denot × Share g.row.K.Denot g.row.T.Denot)). task_at g.K.PartialEq.eq ps (arc_value c.in-Some.key) ≡ Some c.in-Some.task) c.self.view_is
    (popped_task g.K.PartialEq.eq c.self.invariant.0 (shares_of c.self.inside.places.entries) (shares_of c.pop_idle.new.places.entries) (shares_of c.withdraw.new.places.entries) (arc_value c.in-Some.key) c.in-Some.task (map arc_value (values_of c.in-Some.waits.entries)) c.in-Some.ensures.some (c.withdraw.ensures.withdrawn (arc_value c.in-Some.key) c.in-Some.ensures.named) c.self.invariant.1.mirrored)

pub returns-clause-tasks : goal.returns-clause-tasks
returns-clause-tasks g c = subst (λ (ps : List (g.row.K.Denot × Share g.row.K.Denot g.row.T.Denot)). (q : g.row.K.Denot) → task_at g.K.PartialEq.eq (shares_of c.withdraw.new.places.entries) q ≡ cond (g.K.PartialEq.eq (arc_value c.in-Some.key) q) None (task_at g.K.PartialEq.eq ps q)) c.self.view_is
    (popped_tasks g.K.PartialEq.eq c.self.invariant.0 (shares_of c.self.inside.places.entries) (shares_of c.pop_idle.new.places.entries) (shares_of c.withdraw.new.places.entries) (arc_value c.in-Some.key) c.in-Some.task (map arc_value (values_of c.in-Some.waits.entries)) c.in-Some.ensures.some (c.withdraw.ensures.withdrawn (arc_value c.in-Some.key) c.in-Some.ensures.named) c.self.invariant.1.mirrored)

pub returns-clause-room : goal.returns-clause-room
returns-clause-room g c = subst (λ (ps : List (g.row.K.Denot × Share g.row.K.Denot g.row.T.Denot)). KeepsOtherRoom g.K.PartialEq.eq (arc_value c.in-Some.key) ps (shares_of c.withdraw.new.places.entries)) c.self.view_is
    (popped_room g.K.PartialEq.eq c.self.invariant.0 (shares_of c.self.inside.places.entries) (shares_of c.pop_idle.new.places.entries) (shares_of c.withdraw.new.places.entries) (arc_value c.in-Some.key) c.in-Some.task (map arc_value (values_of c.in-Some.waits.entries)) c.in-Some.ensures.some (c.withdraw.ensures.withdrawn (arc_value c.in-Some.key) c.in-Some.ensures.named) c.self.invariant.1.mirrored)

pub returns-clause-fewer : goal.returns-clause-fewer
returns-clause-fewer g c = subst (λ (ps : List (g.row.K.Denot × Share g.row.K.Denot g.row.T.Denot)). live_count (shares_of c.withdraw.new.places.entries) < live_count ps) c.self.view_is
    (popped_count g.K.PartialEq.eq c.self.invariant.0 (shares_of c.self.inside.places.entries) (shares_of c.pop_idle.new.places.entries) (shares_of c.withdraw.new.places.entries) (arc_value c.in-Some.key) c.in-Some.task (map arc_value (values_of c.in-Some.waits.entries)) c.in-Some.ensures.some (c.withdraw.ensures.withdrawn (arc_value c.in-Some.key) c.in-Some.ensures.named) c.self.invariant.1.mirrored)
