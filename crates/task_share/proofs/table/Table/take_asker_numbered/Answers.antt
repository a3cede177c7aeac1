use Rattle.std.proofs.Common.{◌≡◌, ◌<◌, ◌&&◌, not, true, false, List, ap, ◌∙◌, subst, arith, slice_get}
use Rattle.std.specs.Arc.{arc_value}
use Rattle.task_share.specs.Asked.{By, Tasked, is_by}
use Rattle.task_share.specs.Seen.{Share, asks, ask_count, KeepsTasks, KeepsAsks, KeepsRoom}
use Rattle.task_share.specs.Listed.{shares_of, UsesRoom, Stays}
use Rattle.task_share.specs.Numbers.{KeepsNumbers}
use Rattle.task_share.proofs.TurnLemmas.{count_kept, stays_kept}
use Rattle.task_share.proofs.TableLemmas.{mirrored_same, task_left_asks, task_left_tasks, task_left_mirrored, task_left_room}
use Rattle.task_share.proofs.NumberLemmas.{number_names, numbers_kept}
use Rattle.task_share.proofs.table.Table.take_asker_numbered.Goals as goal

pub invariant_of-self : goal.invariant_of-self
invariant_of-self g c =
    let k = c.requires.0 in
    let named = number_names c.self.inside.places.entries _ c.args.number k c.self.view_is c.requires.1 in
    (c.self.invariant.0, record { listed = c.pop_asker.ensures.listed; mirrored = (let s = stays_kept g.K.PartialEq.eq c.self.invariant.0 (shares_of c.self.inside.places.entries) (shares_of c.pop_asker.new.places.entries) k (λ p r. Stays g.K.PartialEq.eq p r × UsesRoom 0 0 0 p r) (c.in_default.ensures.none.changed k named) (λ p r x. x) in mirrored_same g.K.PartialEq.eq c.self.invariant.0 (shares_of c.self.inside.places.entries) (shares_of c.pop_asker.new.places.entries) s.asks s.waits c.self.invariant.1.mirrored) }, c.in_default.ensures.none.linked)

pub invariant_of-self-2 : goal.invariant_of-self-2
invariant_of-self-2 g c =
    let k = c.requires.0 in
    let named = number_names c.self.inside.places.entries _ c.args.number k c.self.view_is c.requires.1 in
    (c.self.invariant.0, record { listed = c.drop_wait.ensures.listed _ _ c.pop_asker.ensures.listed; mirrored = task_left_mirrored g.K.PartialEq.eq c.self.invariant.0 (shares_of c.self.inside.places.entries) (shares_of c.pop_asker.new.places.entries) (shares_of c.drop_wait.new.places.entries) k (arc_value c.in-Some.asker) (c.in-Some.ensures.some.changed k named) ((c.drop_wait.ensures.changed k (ap (λ ns. slice_get ns c.args.number) c.in-Some.ensures.some.names ∙ named)).changed (arc_value c.in-Some.asker) (ap (λ ns. slice_get ns c.in-Some.from) c.in-Some.ensures.some.names ∙ c.in-Some.ensures.named)) c.self.invariant.1.mirrored }, (c.drop_wait.ensures.changed k (ap (λ ns. slice_get ns c.args.number) c.in-Some.ensures.some.names ∙ named)).linked)

pub returns-in_default-clause-tasks : goal.returns-in_default-clause-tasks
returns-in_default-clause-tasks g c =
    let k = c.requires.0 in
    let named = number_names c.self.inside.places.entries _ c.args.number k c.self.view_is c.requires.1 in
    subst (λ (ps : List (g.row.K.Denot × Share g.row.K.Denot g.row.T.Denot)). KeepsTasks g.K.PartialEq.eq ps (shares_of c.pop_asker.new.places.entries)) c.self.view_is
    ((stays_kept g.K.PartialEq.eq c.self.invariant.0 (shares_of c.self.inside.places.entries) (shares_of c.pop_asker.new.places.entries) k (λ p r. Stays g.K.PartialEq.eq p r × UsesRoom 0 0 0 p r) (c.in_default.ensures.none.changed k named) (λ p r x. x)).tasks)

pub returns-in_default-clause-none : goal.returns-in_default-clause-none
returns-in_default-clause-none g c k at =
    let named = number_names c.self.inside.places.entries _ c.args.number k c.self.view_is at in
    subst (λ (ps : List (g.row.K.Denot × Share g.row.K.Denot g.row.T.Denot)). ((j : g.row.K.Denot) → asks g.K.PartialEq.eq ps k (Tasked j) ≡ false) × KeepsAsks g.K.PartialEq.eq ps (shares_of c.pop_asker.new.places.entries)) c.self.view_is
    ((c.in_default.ensures.alone k named), (stays_kept g.K.PartialEq.eq c.self.invariant.0 (shares_of c.self.inside.places.entries) (shares_of c.pop_asker.new.places.entries) k (λ p r. Stays g.K.PartialEq.eq p r × UsesRoom 0 0 0 p r) (c.in_default.ensures.none.changed k named) (λ p r x. x)).asks)

pub returns-in_default-clause-room : goal.returns-in_default-clause-room
returns-in_default-clause-room g c =
    let k = c.requires.0 in
    let named = number_names c.self.inside.places.entries _ c.args.number k c.self.view_is c.requires.1 in
    subst (λ (ps : List (g.row.K.Denot × Share g.row.K.Denot g.row.T.Denot)). KeepsRoom g.K.PartialEq.eq ps (shares_of c.pop_asker.new.places.entries)) c.self.view_is
    ((stays_kept g.K.PartialEq.eq c.self.invariant.0 (shares_of c.self.inside.places.entries) (shares_of c.pop_asker.new.places.entries) k (λ p r. Stays g.K.PartialEq.eq p r × UsesRoom 0 0 0 p r) (c.in_default.ensures.none.changed k named) (λ p r x. x)).room)

pub returns-clause-tasks : goal.returns-clause-tasks
returns-clause-tasks g c =
    let k = c.requires.0 in
    let named = number_names c.self.inside.places.entries _ c.args.number k c.self.view_is c.requires.1 in
    subst (λ (ps : List (g.row.K.Denot × Share g.row.K.Denot g.row.T.Denot)). KeepsTasks g.K.PartialEq.eq ps (shares_of c.drop_wait.new.places.entries)) c.self.view_is
    (task_left_tasks g.K.PartialEq.eq c.self.invariant.0 (shares_of c.self.inside.places.entries) (shares_of c.pop_asker.new.places.entries) (shares_of c.drop_wait.new.places.entries) k (arc_value c.in-Some.asker) (c.in-Some.ensures.some.changed k named) ((c.drop_wait.ensures.changed k (ap (λ ns. slice_get ns c.args.number) c.in-Some.ensures.some.names ∙ named)).changed (arc_value c.in-Some.asker) (ap (λ ns. slice_get ns c.in-Some.from) c.in-Some.ensures.some.names ∙ c.in-Some.ensures.named)))

pub returns-clause-asked : goal.returns-clause-asked
returns-clause-asked g c k at =
    let named = number_names c.self.inside.places.entries _ c.args.number k c.self.view_is at in
    subst (λ (ps : List (g.row.K.Denot × Share g.row.K.Denot g.row.T.Denot)). asks g.K.PartialEq.eq ps k (Tasked (arc_value c.in-Some.asker)) ≡ true) c.self.view_is
    ((c.in-Some.ensures.asked k named))

pub returns-clause-asks : goal.returns-clause-asks
returns-clause-asks g c k at =
    let named = number_names c.self.inside.places.entries _ c.args.number k c.self.view_is at in
    subst (λ (ps : List (g.row.K.Denot × Share g.row.K.Denot g.row.T.Denot)). (q : g.row.K.Denot) (a : By g.row.K.Denot) → asks g.K.PartialEq.eq (shares_of c.drop_wait.new.places.entries) q a ≡ (asks g.K.PartialEq.eq ps q a && not (g.K.PartialEq.eq k q && is_by g.K.PartialEq.eq (Tasked (arc_value c.in-Some.asker)) a))) c.self.view_is
    (task_left_asks g.K.PartialEq.eq c.self.invariant.0 (shares_of c.self.inside.places.entries) (shares_of c.pop_asker.new.places.entries) (shares_of c.drop_wait.new.places.entries) k (arc_value c.in-Some.asker) (c.in-Some.ensures.some.changed k named) ((c.drop_wait.ensures.changed k (ap (λ ns. slice_get ns c.args.number) c.in-Some.ensures.some.names ∙ named)).changed (arc_value c.in-Some.asker) (ap (λ ns. slice_get ns c.in-Some.from) c.in-Some.ensures.some.names ∙ c.in-Some.ensures.named)))

pub returns-clause-room : goal.returns-clause-room
returns-clause-room g c =
    let k = c.requires.0 in
    let named = number_names c.self.inside.places.entries _ c.args.number k c.self.view_is c.requires.1 in
    subst (λ (ps : List (g.row.K.Denot × Share g.row.K.Denot g.row.T.Denot)). KeepsRoom g.K.PartialEq.eq ps (shares_of c.drop_wait.new.places.entries)) c.self.view_is
    (task_left_room g.K.PartialEq.eq c.self.invariant.0 (shares_of c.self.inside.places.entries) (shares_of c.pop_asker.new.places.entries) (shares_of c.drop_wait.new.places.entries) k (arc_value c.in-Some.asker) (c.in-Some.ensures.some.changed k named) ((c.drop_wait.ensures.changed k (ap (λ ns. slice_get ns c.args.number) c.in-Some.ensures.some.names ∙ named)).changed (arc_value c.in-Some.asker) (ap (λ ns. slice_get ns c.in-Some.from) c.in-Some.ensures.some.names ∙ c.in-Some.ensures.named)))

pub returns-clause-fewer : goal.returns-clause-fewer
returns-clause-fewer g c =
    let k = c.requires.0 in
    let named = number_names c.self.inside.places.entries _ c.args.number k c.self.view_is c.requires.1 in
    subst (λ (ps : List (g.row.K.Denot × Share g.row.K.Denot g.row.T.Denot)). ask_count (shares_of c.drop_wait.new.places.entries) < ask_count ps) c.self.view_is
    (let l = count_kept g.K.PartialEq.eq c.self.invariant.0 (shares_of c.pop_asker.new.places.entries) (shares_of c.drop_wait.new.places.entries) (arc_value c.in-Some.asker) _ ((c.drop_wait.ensures.changed k (ap (λ ns. slice_get ns c.args.number) c.in-Some.ensures.some.names ∙ named)).changed (arc_value c.in-Some.asker) (ap (λ ns. slice_get ns c.in-Some.from) c.in-Some.ensures.some.names ∙ c.in-Some.ensures.named)) 0 (λ p r i. i.1.count) in let m = c.in-Some.ensures.fewer in omega arith)

pub returns-in_default-clause-numbers : goal.returns-in_default-clause-numbers
returns-in_default-clause-numbers g c =
    subst (λ (ps : List (g.row.K.Denot × Share g.row.K.Denot g.row.T.Denot)). KeepsNumbers ps (shares_of c.pop_asker.new.places.entries)) c.self.view_is
    (numbers_kept c.self.inside.places.entries c.pop_asker.new.places.entries c.in_default.ensures.none.names)

pub returns-clause-numbers : goal.returns-clause-numbers
returns-clause-numbers g c =
    let named = number_names c.self.inside.places.entries _ c.args.number c.requires.0 c.self.view_is c.requires.1 in
    let d = c.drop_wait.ensures.changed c.requires.0 (ap (λ ns. slice_get ns c.args.number) c.in-Some.ensures.some.names ∙ named) in
    subst (λ (ps : List (g.row.K.Denot × Share g.row.K.Denot g.row.T.Denot)). KeepsNumbers ps (shares_of c.drop_wait.new.places.entries)) c.self.view_is
    (numbers_kept c.self.inside.places.entries c.drop_wait.new.places.entries (d.names ∙ c.in-Some.ensures.some.names))
