use Rattle.std.proofs.Common.{rules, arith}
use Rattle.std.proofs.lemmas.Grind.{common_steps}
use Rattle.dice_core.proofs.SessionLemmas.{takes_closing_if}
use Rattle.dice_core.proofs.sessions.Sessions.take_ask.Goals as goal

pub returns-clause-some : goal.returns-clause-some
returns-clause-some g c = first_of (search rules, grind (arith, common_steps))

pub returns-clause-stands : goal.returns-clause-stands
returns-clause-stands g c = takes_closing_if _ c.remove.result c.args.ask c.args.self.now _ (returns-clause-some g c)
