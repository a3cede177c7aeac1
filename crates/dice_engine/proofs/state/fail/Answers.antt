use Rattle.std.proofs.Common.{ap}
use Rattle.dice_core.specs.Cores.{CoreSeen, events_of}
use Rattle.dice_engine.proofs.Adding.{failed}
use Rattle.dice_engine.proofs.Jobs.{given_up_or_not, name_home}
use Rattle.dice_engine.proofs.state.fail.Goals as goal

pub returns-clause-works : goal.returns-clause-works
returns-clause-works g c =
    failed c.fail.result (events_of c.args.core.now) (events_of c.fail.new.self) c.args.name.now.version c.args.name.now.key c.fail.ensures.log (λ f. ap (λ (s : CoreSeen g.row.U-Key.Denot g.row.U-Value.Denot). events_of s) (c.fail.ensures.other f))

pub returns-clause-gives_up : goal.returns-clause-gives_up
returns-clause-gives_up g c =
    given_up_or_not g.U.Key.PartialEq.eq g.U.Universe.meaning c.fail.result c.args.name.now c.args.core.now c.fail.new.self c.fail.ensures.out c.fail.ensures.failed c.fail.ensures.home c.fail.ensures.tasks c.fail.ensures.other c.fail.ensures.rest

pub returns-clause-home : goal.returns-clause-home
returns-clause-home g c = name_home g.U.Key.PartialEq.eq g.U.Universe.meaning c.args.name.now c.args.core.now c.fail.new.self (returns-clause-gives_up g c)
