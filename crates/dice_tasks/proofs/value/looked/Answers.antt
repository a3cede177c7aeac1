use Rattle.std.proofs.Common.{sym}
use Rattle.std.specs.Arc.{arc_value}
use Rattle.versioned_graph.specs.Looks.{look_of}
use Rattle.dice_tasks.proofs.LooksLemmas.{look_stands}
use Rattle.dice_tasks.proofs.value.looked.Goals as goal

pub returns-clause-says : goal.returns-clause-says
returns-clause-says g c R h within =
    look_stands g.U.Key.PartialEq.eq g.U.Universe.meaning R c.args.graph.now h (arc_value c.args.key.now) c.args.version (look_of c.lookup.result) within (sym c.lookup.ensures.exact)
