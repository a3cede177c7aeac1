use Rattle.std.specs.Arc.{arc_value}
use Rattle.journal.specs.Events.{commits_of}
use Rattle.dice_tasks.proofs.EntriesLemmas.{stand_seen}
use Rattle.dice_tasks.proofs.value.seen.Goals as goal

pub returns-clause-kept : goal.returns-clause-kept
returns-clause-kept g c R x base h within found =
    stand_seen g.U.Key.PartialEq.eq c.laws_of.ensures.keys g.U.Universe.meaning R c.args.graph.now c.seen.new.self h c.args.version (arc_value c.args.key.now) base found.entry c.seen.ensures.entries found.known
    (c.seen.ensures.kept (commits_of R) found.entry h.entries_true within found.known found.has)
