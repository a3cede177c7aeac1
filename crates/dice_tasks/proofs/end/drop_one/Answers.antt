use Rattle.std.proofs.Common.{ap, ◌∙◌}
use Rattle.std.specs.Arc.{arc_value}
use Rattle.journal.specs.declared.event.Told.TheVariants.{Drop}
use Rattle.dice_tasks.specs.Hands.{with_event}
use Rattle.dice_tasks.proofs.EndsLemmas.{dropped}
use Rattle.dice_tasks.proofs.end.drop_one.Goals as goal

pub returns-clause-some : goal.returns-clause-some
returns-clause-some g c e = (
  arc_value c.in-Some.key,
  c.in-Some.task,
  record {
    was = c.in-Some.ensures.task;
    takes = c.in-Some.ensures.some;
    tasks = c.in-Some.ensures.tasks;
    room = c.in-Some.ensures.room;
    left = c.quit.new.desk;
    quits = c.quit.ensures;
    desk = c.push.ensures ∙ ap (λ x. with_event x (Drop c.args.version (arc_value c.in-Some.key))) c.ended.ensures;
  },
)

pub returns-clause-kept : goal.returns-clause-kept
returns-clause-kept g c e w owed h after =
    let d = returns-clause-some g c e in
    dropped g.U.Key.PartialEq.eq c.laws_of.ensures.keys g.U.Universe.meaning c.laws_of.ensures.lawful c.args.version d.0 d.1 _ _ _ _ d.2 w owed h after
