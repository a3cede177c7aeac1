use Rattle.std.proofs.Common.{refl}
use Rattle.std.specs.Arc.{arc_value}
use Rattle.injected.specs.Seen.{cell_at}
use Rattle.versioned_graph.specs.Entries.{entry_at, finished}
use Rattle.journal.specs.Events.{commits_of}
use Rattle.dice_tasks.proofs.EntriesLemmas.{stand_end, stand_keep}
use Rattle.dice_tasks.proofs.value.finish.Goals as goal

pub returns-clause-ended : goal.returns-clause-ended
returns-clause-ended g c R h are within trace =
    let eq = g.U.Key.PartialEq.eq in
    let m = g.U.Universe.meaning in
    let veq = g.U.Value.PartialEq.eq in
    let es = c.args.graph.now in
    let cells = c.args.cells.now in
    let n = finished m veq (cell_at eq m cells) (entry_at eq es) c.args.version (arc_value c.args.value) (arc_value c.args.trace) in
    stand_end eq c.laws_of.ensures.keys m R es _ h c.args.version (arc_value c.args.key) veq c.laws_of.ensures.values.same n refl trace c.in_ok-finish.ensures.ok
    (c.in_ok-finish.ensures.kept (commits_of R) (c.cells_are_the_inputs.ensures.inputs (commits_of R) cells are) within trace h.entries_true)

pub returns-clause-kept : goal.returns-clause-kept
returns-clause-kept g c R base h are within trace =
    let eq = g.U.Key.PartialEq.eq in
    let m = g.U.Universe.meaning in
    let veq = g.U.Value.PartialEq.eq in
    let es = c.args.graph.now in
    let cells = c.args.cells.now in
    let n = finished m veq (cell_at eq m cells) (entry_at eq es) c.args.version (arc_value c.args.value) (arc_value c.args.trace) in
    stand_keep eq c.laws_of.ensures.keys m R es _ h c.args.version (arc_value c.args.key) veq c.laws_of.ensures.values.same n refl trace c.in_ok-finish.ensures.ok
    (c.in_ok-finish.ensures.kept (commits_of R) (c.cells_are_the_inputs.ensures.inputs (commits_of R) cells are) within trace h.entries_true) base
