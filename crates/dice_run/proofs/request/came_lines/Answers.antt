use Rattle.std.proofs.Common.{◌≡◌, ◌∙◌, ◌∷◌, Result, Ok, Err, IfOk, sym, ap, subst}
use Rattle.std.specs.Arc.{arc_value}
use Rattle.dice_model.specs.Asks.{IsCycle}
use Rattle.action_digest.specs.Buck.{buck}
use Rattle.action_digest.specs.Same.{key_equal}
use Rattle.action_digest.specs.Cycles.{ReachesFirst}
use Rattle.dice_run.specs.declared.client.Came.{Came}
use Rattle.dice_run.specs.Seats.{IsCome}
use Rattle.script_trace.specs.Output.{value_lines}
use Rattle.dice_run.specs.Answers.{IsToldOf, told_value}
use Rattle.dice_run.proofs.request.came_lines.Goals as goal

if_ok : {A E : Type 0} (r : Result A E) (P Q : A → Type 0) → ((a : A) → P a → Q a) → IfOk r P → IfOk r Q
if_ok (Ok a) P Q f p = f a p
if_ok (Err e) P Q f p = p

pub returns-in-Value : goal.returns-in-Value
returns-in-Value c = if_ok c.lines_of_value.result _ _
    (λ text e C v k h.
    let x = arc_value c.in-Value.value in
    subst (IsToldOf C v k) (sym (e ∙ ap value_lines c.deref.ensures)) (told_value x (subst (λ (t : Came). IsCome C v k t) c.in-Value.is h)))
    c.lines_of_value.ensures

pub returns-in-Cycle : goal.returns-in-Cycle
returns-in-Cycle c = if_ok c.line_of_cycle.result _ _
    (λ text f C v k h.
    let t = subst (λ (t : Came). IsCome C v k t) c.in-Cycle.is h in
    let p : c.deref-in-Cycle.result.now ≡ t.first ∷ t.rest = c.deref-in-Cycle.ensures ∙ t.path_is in
    f C v k (subst (IsCycle key_equal buck C v) (sym p) t.cycle) (subst (ReachesFirst C v k) (sym p) t.reaches))
    c.line_of_cycle.ensures
