use Rattle.std.proofs.Common.{rules, arith}
use Rattle.std.proofs.lemmas.Grind.{common_steps}
use Rattle.dice_core.proofs.SessionLemmas.{asks_stand}
use Rattle.dice_core.proofs.sessions.Sessions.ask.Goals as goal

pub returns-clause-exact : goal.returns-clause-exact
returns-clause-exact g c = first_of (search rules, grind (arith, common_steps))

pub returns-clause-stands : goal.returns-clause-stands
returns-clause-stands g c R st e = asks_stand R c.args.index c.args.asking.by c.args.asking.opened c.args.asking.key c.args.self.now _ (returns-clause-exact g c) st e
