use Rattle.std.proofs.Common.{◌≡◌, sym, subst, rules}
use Rattle.script_trace.specs.Output.{cycle_line}
use Rattle.dice_run.specs.Answers.{IsToldOf, told_cycle}
use Rattle.dice_run.proofs.request.line_of_cycle.Goals as goal

pub returns : goal.returns
returns c C v k cyc reach =
    let ls = c.in_ok-labels.labels.items in
    let e : c.cycle_line.new.out.items ≡ cycle_line ls = search rules in
    subst (IsToldOf C v k) (sym e) (told_cycle ls (c.in_ok-labels.ensures.cycle C v cyc) (c.in_ok-labels.ensures.reached C v k cyc reach))
