use Rattle.std.proofs.Common.{◌≡◌, ◌+◌, [], ◌∷◌, drop, rules, subst}
use Rattle.dice_run.proofs.Ending.{drop_whole}
use Rattle.dice_run.proofs.Polling.{DecidedBut, goes_none, goes_on, decided_first, decided_next, decided_all, live_still}
use Rattle.dice_run.proofs.client.wait_all.Goals as goal
use Rattle.lists.proofs.Places.{drop_item}

pub loop-promise-init : goal.loop-promise-init
loop-promise-init g c =
    (goes_none c.args.engine.now c.args.seat.now c.requires.ours, decided_first c.args.seat.now.seen c.args.promises.now)

pub wait-requires-clause-asked : goal.wait-requires-clause-asked
wait-requires-clause-asked g c κs within =
    let xs = c.args.promises.now in
    let i = c.loop-promise.promise-index in
    let x = c.promise-item.result in
    let live = live_still c.args.engine.now c.args.seat.now c.loop-promise.seat xs (drop (i + 1) xs) i x c.loop-promise.invariant.0 c.requires.live (drop_item xs i x c.loop-promise-test.true (search rules)) in
    live.asks

pub wait-requires-clause-open : goal.wait-requires-clause-open
wait-requires-clause-open g c κs within =
    let xs = c.args.promises.now in
    let i = c.loop-promise.promise-index in
    let x = c.promise-item.result in
    let live = live_still c.args.engine.now c.args.seat.now c.loop-promise.seat xs (drop (i + 1) xs) i x c.loop-promise.invariant.0 c.requires.live (drop_item xs i x c.loop-promise-test.true (search rules)) in
    live.open_

pub loop-promise-preserved : goal.loop-promise-preserved
loop-promise-preserved g c =
    let xs = c.args.promises.now in
    let i = c.loop-promise.promise-index in
    let x = c.promise-item.result in
    let s = c.args.seat.now in
    let m = c.loop-promise.seat in
    let u = c.wait.new.seat in
    let id = c.args.engine.now in
    let rest = drop (i + 1) xs in
    let e : drop i xs ≡ x ∷ rest = drop_item xs i x c.loop-promise-test.true (search rules) in
    let live = live_still id s m xs rest i x c.loop-promise.invariant.0 c.requires.live e in
    let before = subst (λ rest. DecidedBut m.seen rest xs) e c.loop-promise.invariant.1 in
    (goes_on id s m u [] c.loop-promise.invariant.0 c.wait.ensures.goes, decided_next id m u x rest xs c.wait.ensures.goes live c.in_ok-wait.ensures.decided before)

pub returns-clause-decided : goal.returns-clause-decided
returns-clause-decided g c =
    let xs = c.args.promises.now in
    let e : drop c.loop-promise.promise-index xs ≡ [] = drop_whole xs c.loop-promise.promise-index c.loop-promise-test.false in
    decided_all c.loop-promise.seat.seen xs (subst (λ rest. DecidedBut c.loop-promise.seat.seen rest xs) e c.loop-promise.invariant.1)
