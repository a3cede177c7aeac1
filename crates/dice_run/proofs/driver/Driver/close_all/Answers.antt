use Rattle.std.proofs.Common.{◌≡◌, ◌+◌, sym, subst, List, [], ◌∷◌, drop, rules}
use Rattle.script.specs.declared.line.Line.{Line}
use Rattle.dice_run.specs.Driven.{Closing}
use Rattle.dice_run.proofs.Ending.{drop_whole}
use Rattle.dice_run.proofs.Closings.{closing_first}
use Rattle.dice_run.proofs.driver.Driver.close_all.Goals as goal
use Rattle.lists.proofs.Places.{drop_item}

pub loop-line-init : goal.loop-line-init
loop-line-init g c =
    subst (λ (ls : List Line). Closing c.args.engine.now c.args.script.now ls c.args.self.now) (sym c.lines-line-items.ensures.lines) (closing_first c.args.engine.now c.args.script.now c.args.self.now c.requires.settled c.requires.polled)

pub close_line-requires : goal.close_line-requires
close_line-requires g c =
    let xs = c.lines-line-items.result.now in
    let i = c.loop-line.line-index in
    let l = c.line-item.result in
    let e : drop i xs ≡ l ∷ drop (i + 1) xs = drop_item xs i l c.loop-line-test.true (search rules) in
    (drop (i + 1) xs, subst (λ (ls : List Line). Closing c.args.engine.now c.args.script.now ls c.loop-line.self) e c.loop-line.invariant)

pub loop-line-preserved : goal.loop-line-preserved
loop-line-preserved g c =
    let xs = c.lines-line-items.result.now in
    let i = c.loop-line.line-index in
    let l = c.line-item.result in
    let e : drop i xs ≡ l ∷ drop (i + 1) xs = drop_item xs i l c.loop-line-test.true (search rules) in
    c.close_line.ensures (drop (i + 1) xs) (subst (λ (ls : List Line). Closing c.args.engine.now c.args.script.now ls c.loop-line.self) e c.loop-line.invariant)

pub returns : goal.returns
returns g c =
    let xs = c.lines-line-items.result.now in
    let e : drop c.loop-line.line-index xs ≡ [] = drop_whole xs c.loop-line.line-index c.loop-line-test.false in
    subst (λ (ls : List Line). Closing c.args.engine.now c.args.script.now ls c.loop-line.self) e c.loop-line.invariant
