use Rattle.std.proofs.Common.{◌≡◌, ◌+◌, sym, subst, List, [], ◌∷◌, drop, rules}
use Rattle.script.specs.declared.line.Line.{Line}
use Rattle.dice_run.specs.Driven.{Waiting}
use Rattle.dice_run.proofs.Ending.{waiting_first, waiting_end, drop_whole}
use Rattle.dice_run.proofs.driver.Driver.settle.Goals as goal
use Rattle.lists.proofs.Places.{drop_item}

pub loop-line-init : goal.loop-line-init
loop-line-init g c =
    subst (λ (ls : List Line). Waiting c.args.engine.now c.args.script.now ls c.args.self.now) (sym c.lines-line-items.ensures.lines) (waiting_first c.args.engine.now c.args.script.now c.args.self.now c.requires)

pub settle_line-requires-after_bounds : goal.settle_line-requires-after_bounds
settle_line-requires-after_bounds g c κs within =
    let xs = c.lines-line-items.result.now in
    let i = c.loop-line.line-index in
    let l = c.line-item.result in
    let e : drop i xs ≡ l ∷ drop (i + 1) xs = drop_item xs i l c.loop-line-test.true (search rules) in
    (drop (i + 1) xs, subst (λ (ls : List Line). Waiting c.args.engine.now c.args.script.now ls c.loop-line.self) e c.loop-line.invariant)

pub loop-line-preserved : goal.loop-line-preserved
loop-line-preserved g c =
    let xs = c.lines-line-items.result.now in
    let i = c.loop-line.line-index in
    let l = c.line-item.result in
    let e : drop i xs ≡ l ∷ drop (i + 1) xs = drop_item xs i l c.loop-line-test.true (search rules) in
    c.in_ok-settle_line.ensures.settles (drop (i + 1) xs) (subst (λ (ls : List Line). Waiting c.args.engine.now c.args.script.now ls c.loop-line.self) e c.loop-line.invariant)

pub returns-clause-settled : goal.returns-clause-settled
returns-clause-settled g c =
    let xs = c.lines-line-items.result.now in
    let e : drop c.loop-line.line-index xs ≡ [] = drop_whole xs c.loop-line.line-index c.loop-line-test.false in
    waiting_end c.args.engine.now c.args.script.now c.loop-line.self (subst (λ (ls : List Line). Waiting c.args.engine.now c.args.script.now ls c.loop-line.self) e c.loop-line.invariant)
