use Rattle.std.proofs.Common.{sym, ap, ◌∙◌, subst}
use Rattle.std.specs.Arc.{arc_value}
use Rattle.journal.specs.Events.{commits_of}
use Rattle.dice_core.specs.Cores.{CoreSeen, CoreStands, past_of, decision_of, poll_of}
use Rattle.dice_core.proofs.PollLemmas.{poll_value, poll_cycle, poll_lost, poll_decided, poll_quiet, poll_asked}
use Rattle.dice_core.proofs.machine.Core.poll.Goals as goal

pub returns-clause-exact : goal.returns-clause-exact
returns-clause-exact g c =
    let eq = g.U.Key.PartialEq.eq in
    let m = g.U.Universe.meaning in
    let k = arc_value c.args.key.now in
    c.polled_at.ensures ∙ ap (λ (v : CoreSeen g.row.U-Key.Denot g.row.U-Value.Denot). poll_of eq m v c.args.version k) c.self.view_is

pub returns-clause-value : goal.returns-clause-value
returns-clause-value g c = λ x e.
    let eq = g.U.Key.PartialEq.eq in
    let m = g.U.Universe.meaning in
    let st = subst (λ (v : CoreSeen g.row.U-Key.Denot g.row.U-Value.Denot). CoreStands eq m v) c.self.view_is c.self.invariant in
    poll_value eq c.laws_of.ensures.keys m c.laws_of.ensures.lawful c.args.self.now st c.args.version (arc_value c.args.key.now) (λ w j. c.cells_are_the_inputs.ensures.inputs (commits_of (past_of c.args.self.now)) c.args.self.now.cells st.cells.are w j) x (sym (returns-clause-exact g c) ∙ e)

pub returns-clause-cycle : goal.returns-clause-cycle
returns-clause-cycle g c = λ p e.
    let eq = g.U.Key.PartialEq.eq in
    let m = g.U.Universe.meaning in
    let st = subst (λ (v : CoreSeen g.row.U-Key.Denot g.row.U-Value.Denot). CoreStands eq m v) c.self.view_is c.self.invariant in
    poll_cycle eq c.laws_of.ensures.keys m c.laws_of.ensures.lawful c.args.self.now st c.args.version (arc_value c.args.key.now) p (sym (returns-clause-exact g c) ∙ e)

pub returns-clause-decided : goal.returns-clause-decided
returns-clause-decided g c = λ some computed.
    let eq = g.U.Key.PartialEq.eq in
    let m = g.U.Universe.meaning in
    let st = subst (λ (v : CoreSeen g.row.U-Key.Denot g.row.U-Value.Denot). CoreStands eq m v) c.self.view_is c.self.invariant in
    poll_decided eq c.laws_of.ensures.keys m c.laws_of.ensures.lawful c.args.self.now st c.args.version (arc_value c.args.key.now) some computed ∙ ap decision_of (sym (returns-clause-exact g c))

pub returns-clause-lost : goal.returns-clause-lost
returns-clause-lost g c = λ e.
    let eq = g.U.Key.PartialEq.eq in
    let m = g.U.Universe.meaning in
    let st = subst (λ (v : CoreSeen g.row.U-Key.Denot g.row.U-Value.Denot). CoreStands eq m v) c.self.view_is c.self.invariant in
    poll_lost eq c.laws_of.ensures.keys m c.laws_of.ensures.lawful c.args.self.now st c.args.version (arc_value c.args.key.now) (sym (returns-clause-exact g c) ∙ e)

pub returns-clause-asked : goal.returns-clause-asked
returns-clause-asked g c = λ i a live at same e.
    let eq = g.U.Key.PartialEq.eq in
    let m = g.U.Universe.meaning in
    let st = subst (λ (v : CoreSeen g.row.U-Key.Denot g.row.U-Value.Denot). CoreStands eq m v) c.self.view_is c.self.invariant in
    poll_asked eq c.laws_of.ensures.keys m c.laws_of.ensures.lawful c.args.self.now st c.args.version (arc_value c.args.key.now) i a live at same (sym (returns-clause-exact g c) ∙ e)

pub returns-clause-quiet : goal.returns-clause-quiet
returns-clause-quiet g c = λ ready out e.
    let eq = g.U.Key.PartialEq.eq in
    let m = g.U.Universe.meaning in
    let st = subst (λ (v : CoreSeen g.row.U-Key.Denot g.row.U-Value.Denot). CoreStands eq m v) c.self.view_is c.self.invariant in
    poll_quiet eq c.laws_of.ensures.keys m c.laws_of.ensures.lawful c.args.self.now st c.args.version (arc_value c.args.key.now) ready out (sym (returns-clause-exact g c) ∙ e)
