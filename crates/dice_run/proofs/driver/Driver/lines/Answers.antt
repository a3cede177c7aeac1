use Rattle.std.proofs.Common.{◌≡◌, ◌+◌, sym, subst, List, [], ◌∷◌, drop, rules}
use Rattle.script.specs.Past.{is_cancelled}
use Rattle.script.specs.declared.line.Line.{Line}
use Rattle.dice_run.proofs.Ending.{Going, going_first, going_more, going_ready, going_end, drop_whole}
use Rattle.dice_run.proofs.driver.Driver.lines.Goals as goal
use Rattle.lists.proofs.Places.{drop_item}

pub loop-line-init : goal.loop-line-init
loop-line-init g c =
    subst (λ (ls : List Line). Going c.args.engine.now c.args.script.now ls c.args.self.now) (sym c.lines-line-items.ensures.lines)
    (going_first c.args.engine.now c.args.script.now c.args.self.now c.requires c.lines-line-items.ensures.in_order)

pub line-requires-after_bounds : goal.line-requires-after_bounds
line-requires-after_bounds g c κs within =
    let xs = c.lines-line-items.result.now in
    let i = c.loop-line.line-index in
    let l = c.line-item.result in
    let e : drop i xs ≡ l ∷ drop (i + 1) xs = drop_item xs i l c.loop-line-test.true (search rules) in
    going_ready c.args.engine.now c.args.script.now (drop (i + 1) xs) l c.loop-line.self (subst (λ (ls : List Line). Going c.args.engine.now c.args.script.now ls c.loop-line.self) e c.loop-line.invariant)

pub loop-line-preserved : goal.loop-line-preserved
loop-line-preserved g c =
    let xs = c.lines-line-items.result.now in
    let i = c.loop-line.line-index in
    let l = c.line-item.result in
    let e : drop i xs ≡ l ∷ drop (i + 1) xs = drop_item xs i l c.loop-line-test.true (search rules) in
    let w = subst (λ (ls : List Line). Going c.args.engine.now c.args.script.now ls c.loop-line.self) e c.loop-line.invariant in
    going_more c.args.engine.now c.args.script.now (drop (i + 1) xs) l c.loop-line.self c.line.new.self w (c.in_ok-line.ensures.stands (is_cancelled c.args.script.now) w.plan w.past w.stands w.order.0) (c.in_ok-line.ensures.records w.plan w.past w.stands w.order.0)

pub returns-clause-carried : goal.returns-clause-carried
returns-clause-carried g c =
    let xs = c.lines-line-items.result.now in
    let e : drop c.loop-line.line-index xs ≡ [] = drop_whole xs c.loop-line.line-index c.loop-line-test.false in
    going_end c.args.engine.now c.args.script.now c.loop-line.self (subst (λ (ls : List Line). Going c.args.engine.now c.args.script.now ls c.loop-line.self) e c.loop-line.invariant)
