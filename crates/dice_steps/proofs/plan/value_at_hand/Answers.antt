use Rattle.std.specs.Arc.{arc_value}
use Rattle.std.specs.Option.{option_copied}
use Rattle.dice_steps.proofs.PlanLemmas.{matched_so}
use Rattle.dice_steps.proofs.plan.value_at_hand.Goals as goal

pub returns-in-Some-clause-some : goal.returns-in-Some-clause-some
returns-in-Some-clause-some g c = matched_so g.U.Key.PartialEq.eq g.U.Universe.meaning c.args.version c.args.tasks.now c.args.shared.now.graph c.args.shared.now.cells (arc_value c.args.key.now) (arc_value c.in-Some.value.now) (option_copied c.args.part) c.requires c.in-Some.ensures
