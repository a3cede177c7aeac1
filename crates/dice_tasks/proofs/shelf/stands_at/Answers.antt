use Rattle.std.proofs.Common.{sym, ap, ◌∙◌}
use Rattle.std.specs.Arc.{arc_value}
use Rattle.std.specs.Option.{option_copied}
use Rattle.dice_tasks.proofs.Laid.{place_from}
use Rattle.dice_tasks.proofs.shelf.stands_at.Goals as goal

pub returns-in-Some : goal.returns-in-Some
returns-in-Some g c = λ e. (c.in-Some.task.now, sym c.get_index.ensures.key ∙ ap option_copied c.in-Some.is, place_from g.U.Key.PartialEq.eq c.laws_of.ensures.keys c.args.version (arc_value c.args.key.now) c.in-Some.task.now (sym c.equivalent.ensures ∙ e))
