use Rattle.std.specs.Arc.{arc_value}
use Rattle.journal.specs.Tell.{told}
use Rattle.core_laws.specs.Tasks.{WithValue}
use Rattle.dice_tasks.proofs.EndedLemmas.{value_on, kept_on}
use Rattle.dice_tasks.proofs.TaskedLemmas.{tasked_end}
use Rattle.dice_tasks.proofs.end.end_value.Goals as goal

pub returns-clause-ended : goal.returns-clause-ended
returns-clause-ended g c = let e = c.end_task.ensures.ended in (e.0, record { mid = c.end_task.new.desk; ends = e.1; desk = c.push.ensures })

pub returns-clause-tasked : goal.returns-clause-tasked
returns-clause-tasked g c = let e = returns-clause-ended g c in tasked_end g.U.Key.PartialEq.eq c.laws_of.ensures.keys c.args.version (arc_value c.args.key.now) e.0 (WithValue (arc_value c.args.value)) _ _ _ _ e.1.ends

pub returns-clause-computed : goal.returns-clause-computed
returns-clause-computed g c w W owed h A work is at stood done =
    let e = returns-clause-ended g c in
    value_on g.U.Key.PartialEq.eq c.laws_of.ensures.keys g.U.Universe.meaning c.laws_of.ensures.lawful c.args.version (arc_value c.args.key.now) e.0 _ _ _ _ (arc_value c.args.value) (told c.args.event) e.1 W w owed work is h A at stood done

pub returns-clause-checked : goal.returns-clause-checked
returns-clause-checked g c w W owed h T A base work is at stood equal =
    let e = returns-clause-ended g c in
    kept_on g.U.Key.PartialEq.eq c.laws_of.ensures.keys g.U.Universe.meaning c.laws_of.ensures.lawful c.args.version (arc_value c.args.key.now) e.0 _ _ _ _ (arc_value c.args.value) (told c.args.event) e.1 W w owed work base is h T A at stood equal
