use Rattle.std.proofs.Common.{rules, sym, arith}
use Rattle.std.proofs.lemmas.Grind.{common_steps}
use Rattle.dice_core.proofs.SessionLemmas.{leaves_stand}
use Rattle.dice_core.proofs.sessions.Sessions.leave.Goals as goal

pub returns-clause-result : goal.returns-clause-result
returns-clause-result g c = first_of (search rules, grind (arith, common_steps))

pub returns-clause-some : goal.returns-clause-some
returns-clause-some g c = first_of (search rules, grind (arith, common_steps))

pub returns-clause-stands : goal.returns-clause-stands
returns-clause-stands g c R by st = leaves_stand R c.args.ask by _ c.args.self.now _ (sym (returns-clause-result g c)) (returns-clause-some g c) st
