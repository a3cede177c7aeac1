use Rattle.std.proofs.Common.{◌≡◌, ◌+◌, sym, ap, subst, List, [], ◌∷◌, drop, rules}
use Rattle.script.specs.declared.line.Line.{Line}
use Rattle.script_trace.specs.Output.{IsOutput}
use Rattle.dice_run.proofs.Ending.{drop_whole}
use Rattle.dice_run.proofs.Printed.{Printing, printing_more, printing_end}
use Rattle.dice_run.proofs.printer.print.Goals as goal
use Rattle.lists.proofs.Places.{drop_item}

pub loop-line-preserved : goal.loop-line-preserved
loop-line-preserved c =
    let xs = c.lines-line-items.result.now in
    let i = c.loop-line.line-index in
    let l = c.line-item.result in
    let e : drop i xs ≡ l ∷ drop (i + 1) xs = drop_item xs i l c.loop-line-test.true (search rules) in
    printing_more c.args.script.now (drop (i + 1) xs) l c.args.driver.now c.loop-line.printer c.line.new.self (subst (λ (ls : List Line). Printing c.args.script.now ls c.args.driver.now c.loop-line.printer) e c.loop-line.invariant) c.in_ok-line.ensures

pub returns : goal.returns
returns c =
    let xs = c.lines-line-items.result.now in
    let e : drop c.loop-line.line-index xs ≡ [] = drop_whole xs c.loop-line.line-index c.loop-line-test.false in
    subst (IsOutput c.args.script.now) (ap (λ v. v.items) (sym c.into_output.ensures)) (printing_end c.args.script.now c.args.driver.now c.loop-line.printer (subst (λ (ls : List Line). Printing c.args.script.now ls c.args.driver.now c.loop-line.printer) e c.loop-line.invariant))
