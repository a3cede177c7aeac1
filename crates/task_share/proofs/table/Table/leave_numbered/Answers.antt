use Rattle.std.proofs.Common.{◌≡◌, ◌&&◌, not, List, ap, ◌∙◌, subst, slice_get}
use Rattle.task_share.specs.Asked.{By, Tasked, is_by}
use Rattle.task_share.specs.Seen.{Share, asks, KeepsTasks, KeepsRoom}
use Rattle.task_share.specs.Listed.{shares_of}
use Rattle.task_share.specs.Numbers.{KeepsNumbers}
use Rattle.task_share.proofs.TableLemmas.{task_left_asks, task_left_tasks, task_left_mirrored, task_left_room}
use Rattle.task_share.proofs.NumberLemmas.{number_names, numbers_kept}
use Rattle.task_share.proofs.table.Table.leave_numbered.Goals as goal

pub invariant_of-self : goal.invariant_of-self
invariant_of-self g c =
    let k = c.requires.key.0 in
    let j = c.requires.asker.0 in
    let named = number_names c.self.inside.places.entries _ c.args.number k c.self.view_is c.requires.key.1 in
    let asking = number_names c.self.inside.places.entries _ c.args.asker j c.self.view_is c.requires.asker.1 in
    (c.self.invariant.0, record { listed = c.drop_wait.ensures.listed _ _ c.leave_task.ensures.listed; mirrored = task_left_mirrored g.K.PartialEq.eq c.self.invariant.0 (shares_of c.self.inside.places.entries) (shares_of c.leave_task.new.places.entries) (shares_of c.drop_wait.new.places.entries) k j ((c.leave_task.ensures.changed j asking).changed k named) ((c.drop_wait.ensures.changed k (ap (λ ns. slice_get ns c.args.number) c.leave_task.ensures.names ∙ named)).changed j (ap (λ ns. slice_get ns c.args.asker) c.leave_task.ensures.names ∙ asking)) c.self.invariant.1.mirrored }, (c.drop_wait.ensures.changed k (ap (λ ns. slice_get ns c.args.number) c.leave_task.ensures.names ∙ named)).linked)

pub returns-clause-tasks : goal.returns-clause-tasks
returns-clause-tasks g c =
    let k = c.requires.key.0 in
    let j = c.requires.asker.0 in
    let named = number_names c.self.inside.places.entries _ c.args.number k c.self.view_is c.requires.key.1 in
    let asking = number_names c.self.inside.places.entries _ c.args.asker j c.self.view_is c.requires.asker.1 in
    subst (λ (ps : List (g.row.K.Denot × Share g.row.K.Denot g.row.T.Denot)). KeepsTasks g.K.PartialEq.eq ps (shares_of c.drop_wait.new.places.entries)) c.self.view_is
    (task_left_tasks g.K.PartialEq.eq c.self.invariant.0 (shares_of c.self.inside.places.entries) (shares_of c.leave_task.new.places.entries) (shares_of c.drop_wait.new.places.entries) k j ((c.leave_task.ensures.changed j asking).changed k named) ((c.drop_wait.ensures.changed k (ap (λ ns. slice_get ns c.args.number) c.leave_task.ensures.names ∙ named)).changed j (ap (λ ns. slice_get ns c.args.asker) c.leave_task.ensures.names ∙ asking)))

pub returns-clause-asks : goal.returns-clause-asks
returns-clause-asks g c k j at by =
    let named = number_names c.self.inside.places.entries _ c.args.number k c.self.view_is at in
    let asking = number_names c.self.inside.places.entries _ c.args.asker j c.self.view_is by in
    subst (λ (ps : List (g.row.K.Denot × Share g.row.K.Denot g.row.T.Denot)). (q : g.row.K.Denot) (a : By g.row.K.Denot) → asks g.K.PartialEq.eq (shares_of c.drop_wait.new.places.entries) q a ≡ (asks g.K.PartialEq.eq ps q a && not (g.K.PartialEq.eq k q && is_by g.K.PartialEq.eq (Tasked j) a))) c.self.view_is
    (task_left_asks g.K.PartialEq.eq c.self.invariant.0 (shares_of c.self.inside.places.entries) (shares_of c.leave_task.new.places.entries) (shares_of c.drop_wait.new.places.entries) k j ((c.leave_task.ensures.changed j asking).changed k named) ((c.drop_wait.ensures.changed k (ap (λ ns. slice_get ns c.args.number) c.leave_task.ensures.names ∙ named)).changed j (ap (λ ns. slice_get ns c.args.asker) c.leave_task.ensures.names ∙ asking)))

pub returns-clause-room : goal.returns-clause-room
returns-clause-room g c =
    let k = c.requires.key.0 in
    let j = c.requires.asker.0 in
    let named = number_names c.self.inside.places.entries _ c.args.number k c.self.view_is c.requires.key.1 in
    let asking = number_names c.self.inside.places.entries _ c.args.asker j c.self.view_is c.requires.asker.1 in
    subst (λ (ps : List (g.row.K.Denot × Share g.row.K.Denot g.row.T.Denot)). KeepsRoom g.K.PartialEq.eq ps (shares_of c.drop_wait.new.places.entries)) c.self.view_is
    (task_left_room g.K.PartialEq.eq c.self.invariant.0 (shares_of c.self.inside.places.entries) (shares_of c.leave_task.new.places.entries) (shares_of c.drop_wait.new.places.entries) k j ((c.leave_task.ensures.changed j asking).changed k named) ((c.drop_wait.ensures.changed k (ap (λ ns. slice_get ns c.args.number) c.leave_task.ensures.names ∙ named)).changed j (ap (λ ns. slice_get ns c.args.asker) c.leave_task.ensures.names ∙ asking)))

pub returns-clause-numbers : goal.returns-clause-numbers
returns-clause-numbers g c =
    let d = c.drop_wait.ensures.changed c.requires.key.0 (ap (λ ns. slice_get ns c.args.number) c.leave_task.ensures.names ∙ number_names c.self.inside.places.entries _ c.args.number c.requires.key.0 c.self.view_is c.requires.key.1) in
    subst (λ (ps : List (g.row.K.Denot × Share g.row.K.Denot g.row.T.Denot)). KeepsNumbers ps (shares_of c.drop_wait.new.places.entries)) c.self.view_is
    (numbers_kept c.self.inside.places.entries c.drop_wait.new.places.entries (d.names ∙ c.leave_task.ensures.names))
