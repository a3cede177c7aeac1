use Rattle.std.proofs.Common.{rules, arith}
use Rattle.std.proofs.lemmas.Grind.{common_steps}
use Rattle.dice_core.proofs.SessionLemmas.{same_stands}
use Rattle.dice_core.proofs.sessions.Sessions.reserve_ask.Goals as goal

pub returns-in_err-reserve-clause-same : goal.returns-in_err-reserve-clause-same
returns-in_err-reserve-clause-same g c = first_of (search rules, grind (arith, common_steps))

pub returns-in_err-reserve-clause-stands : goal.returns-in_err-reserve-clause-stands
returns-in_err-reserve-clause-stands g c R st = same_stands R c.args.self.now _ (returns-in_err-reserve-clause-same g c) st

pub returns-clause-same : goal.returns-clause-same
returns-clause-same g c = first_of (search rules, grind (arith, common_steps))

pub returns-clause-stands : goal.returns-clause-stands
returns-clause-stands g c R st = same_stands R c.args.self.now _ (returns-clause-same g c) st
