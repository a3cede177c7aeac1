use Rattle.std.proofs.Common.{sym, ap, ◌∙◌}
use Rattle.std.specs.List.{swap}
use Rattle.dice_tasks.proofs.Laid.{ready_eq, same_place}
use Rattle.dice_tasks.proofs.Parts.{distinct_places}
use Rattle.indexmap.proofs.IndexTableLemmas.Indexes.{swap_self}
use Rattle.dice_tasks.specs.Shelves.{place_of}
use Rattle.dice_tasks.proofs.shelf.swap_tasks.Goals as goal

pub returns-then-first-second-clause-distinct : goal.returns-then-first-second-clause-distinct
returns-then-first-second-clause-distinct g c =
    let eq = g.U.Key.PartialEq.eq in
    let law = c.laws_of.ensures.keys in
    distinct_places place_of (ready_eq eq law) (same_place eq law) c.swap_indices.new.self.keys c.swap_indices.ensures.unique

pub returns-else-first-second-clause-keys : goal.returns-else-first-second-clause-keys
returns-else-first-second-clause-keys g c = sym (swap_self c.args.shelf.now.keys c.args.first) ∙ ap (swap c.args.shelf.now.keys c.args.first) c.if-first-second.false
