use Rattle.std.proofs.Common.{[]}
use Rattle.dice_run.proofs.Turning.{later_goes}
use Rattle.dice_run.proofs.Polling.{goes_none, goes_on}
use Rattle.dice_run.proofs.client.help.Goals as goal

pub loop-init : goal.loop-init
loop-init g c = goes_none c.args.engine.now c.args.seat.now c.requires

pub returns-in-Idle : goal.returns-in-Idle
returns-in-Idle g c =
    let id = c.args.engine.now in
    goes_on id c.args.seat.now c.loop.seat c.work.new.seat [] c.loop.invariant (later_goes id c.loop.seat c.work.new.seat c.loop.invariant.ours c.work.ensures.later.0 c.work.ensures.later.1)

pub loop-preserved : goal.loop-preserved
loop-preserved g c =
    let id = c.args.engine.now in
    goes_on id c.args.seat.now c.loop.seat c.work.new.seat [] c.loop.invariant (later_goes id c.loop.seat c.work.new.seat c.loop.invariant.ours c.work.ensures.later.0 c.work.ensures.later.1)
