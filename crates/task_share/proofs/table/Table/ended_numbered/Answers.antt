use Rattle.std.proofs.Common.{◌≡◌, ◌≤◌, ◌&&◌, not, List, map, ap, ◌∙◌, subst, slice_get}
use Rattle.std.specs.Arc.{arc_value}
use Rattle.std.specs.Map.{values_of}
use Rattle.task_share.specs.Asked.{By, Tasked, is_by}
use Rattle.task_share.specs.Seen.{Share, task_at, is_live, asks, live_count, KeepsOtherRoom}
use Rattle.task_share.specs.Listed.{shares_of}
use Rattle.task_share.proofs.TableLemmas.{ended_asks, ended_tasks, ended_live, ended_mirrored, ended_room, ended_count}
use Rattle.task_share.proofs.NumberLemmas.{number_names}
use Rattle.task_share.proofs.table.Table.ended_numbered.Goals as goal

pub withdraw-requires-clause-listed : goal.withdraw-requires-clause-listed
withdraw-requires-clause-listed g c = c.end_task-waits.ensures.listed _ _ c.self.invariant.1.listed

pub invariant_of-self : goal.invariant_of-self
invariant_of-self g c =
    let k = c.requires.0 in
    let named = number_names c.self.inside.places.entries _ c.args.number k c.self.view_is c.requires.1 in
    (c.self.invariant.0, record { listed = c.withdraw.ensures.listed; mirrored = ended_mirrored g.K.PartialEq.eq c.self.invariant.0 (shares_of c.self.inside.places.entries) (shares_of c.end_task-waits.new.places.entries) (shares_of c.withdraw.new.places.entries) k (map arc_value (values_of c.end_task-waits.result.entries)) (c.end_task-waits.ensures.changed.changed k named) (c.end_task-waits.ensures.waits k named) (c.withdraw.ensures.withdrawn k (ap (λ ns. slice_get ns c.args.number) c.end_task-waits.ensures.changed.names ∙ named)) c.self.invariant.1.mirrored }, c.withdraw.ensures.linked)

pub returns-clause-tasks : goal.returns-clause-tasks
returns-clause-tasks g c =
    let k = c.requires.0 in
    let named = number_names c.self.inside.places.entries _ c.args.number k c.self.view_is c.requires.1 in
    subst (λ (ps : List (g.row.K.Denot × Share g.row.K.Denot g.row.T.Denot)). (q : g.row.K.Denot) → task_at g.K.PartialEq.eq (shares_of c.withdraw.new.places.entries) q ≡ task_at g.K.PartialEq.eq ps q) c.self.view_is
    (ended_tasks g.K.PartialEq.eq c.self.invariant.0 (shares_of c.self.inside.places.entries) (shares_of c.end_task-waits.new.places.entries) (shares_of c.withdraw.new.places.entries) k (map arc_value (values_of c.end_task-waits.result.entries)) (c.end_task-waits.ensures.changed.changed k named) (c.end_task-waits.ensures.waits k named) (c.withdraw.ensures.withdrawn k (ap (λ ns. slice_get ns c.args.number) c.end_task-waits.ensures.changed.names ∙ named)) c.self.invariant.1.mirrored)

pub returns-clause-live : goal.returns-clause-live
returns-clause-live g c k at =
    let named = number_names c.self.inside.places.entries _ c.args.number k c.self.view_is at in
    subst (λ (ps : List (g.row.K.Denot × Share g.row.K.Denot g.row.T.Denot)). (q : g.row.K.Denot) → is_live g.K.PartialEq.eq (shares_of c.withdraw.new.places.entries) q ≡ (is_live g.K.PartialEq.eq ps q && not (g.K.PartialEq.eq k q))) c.self.view_is
    (ended_live g.K.PartialEq.eq c.self.invariant.0 (shares_of c.self.inside.places.entries) (shares_of c.end_task-waits.new.places.entries) (shares_of c.withdraw.new.places.entries) k (map arc_value (values_of c.end_task-waits.result.entries)) (c.end_task-waits.ensures.changed.changed k named) (c.end_task-waits.ensures.waits k named) (c.withdraw.ensures.withdrawn k (ap (λ ns. slice_get ns c.args.number) c.end_task-waits.ensures.changed.names ∙ named)) c.self.invariant.1.mirrored)

pub returns-clause-asks : goal.returns-clause-asks
returns-clause-asks g c k at =
    let named = number_names c.self.inside.places.entries _ c.args.number k c.self.view_is at in
    subst (λ (ps : List (g.row.K.Denot × Share g.row.K.Denot g.row.T.Denot)). (q : g.row.K.Denot) (a : By g.row.K.Denot) → asks g.K.PartialEq.eq (shares_of c.withdraw.new.places.entries) q a ≡ (asks g.K.PartialEq.eq ps q a && not (is_by g.K.PartialEq.eq (Tasked k) a))) c.self.view_is
    (ended_asks g.K.PartialEq.eq c.self.invariant.0 (shares_of c.self.inside.places.entries) (shares_of c.end_task-waits.new.places.entries) (shares_of c.withdraw.new.places.entries) k (map arc_value (values_of c.end_task-waits.result.entries)) (c.end_task-waits.ensures.changed.changed k named) (c.end_task-waits.ensures.waits k named) (c.withdraw.ensures.withdrawn k (ap (λ ns. slice_get ns c.args.number) c.end_task-waits.ensures.changed.names ∙ named)) c.self.invariant.1.mirrored)

pub returns-clause-room : goal.returns-clause-room
returns-clause-room g c k at =
    let named = number_names c.self.inside.places.entries _ c.args.number k c.self.view_is at in
    subst (λ (ps : List (g.row.K.Denot × Share g.row.K.Denot g.row.T.Denot)). KeepsOtherRoom g.K.PartialEq.eq k ps (shares_of c.withdraw.new.places.entries)) c.self.view_is
    (ended_room g.K.PartialEq.eq c.self.invariant.0 (shares_of c.self.inside.places.entries) (shares_of c.end_task-waits.new.places.entries) (shares_of c.withdraw.new.places.entries) k (map arc_value (values_of c.end_task-waits.result.entries)) (c.end_task-waits.ensures.changed.changed k named) (c.end_task-waits.ensures.waits k named) (c.withdraw.ensures.withdrawn k (ap (λ ns. slice_get ns c.args.number) c.end_task-waits.ensures.changed.names ∙ named)) c.self.invariant.1.mirrored)

pub returns-clause-count : goal.returns-clause-count
returns-clause-count g c =
    let k = c.requires.0 in
    let named = number_names c.self.inside.places.entries _ c.args.number k c.self.view_is c.requires.1 in
    subst (λ (ps : List (g.row.K.Denot × Share g.row.K.Denot g.row.T.Denot)). live_count (shares_of c.withdraw.new.places.entries) ≤ live_count ps) c.self.view_is
    (ended_count g.K.PartialEq.eq c.self.invariant.0 (shares_of c.self.inside.places.entries) (shares_of c.end_task-waits.new.places.entries) (shares_of c.withdraw.new.places.entries) k (map arc_value (values_of c.end_task-waits.result.entries)) (c.end_task-waits.ensures.changed.changed k named) (c.end_task-waits.ensures.waits k named) (c.withdraw.ensures.withdrawn k (ap (λ ns. slice_get ns c.args.number) c.end_task-waits.ensures.changed.names ∙ named)) c.self.invariant.1.mirrored)
