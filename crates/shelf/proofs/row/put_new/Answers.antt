use Rattle.std.proofs.Common.{rules, ◌≡◌, None, Some, is_some, sym, ap, ◌∙◌}
use Rattle.indexmap.specs.Entry.{entry_value}
use Rattle.indexmap.specs.IndexMap.{get}
use Rattle.indexmap.proofs.CallerLemmas.{insert_entry-new}
use Rattle.shelf.proofs.RowLemmas.{same_again}
use Rattle.shelf.proofs.row.put_new.Goals as goal

pub returns-in-Ok-Vacant : goal.returns-in-Ok-Vacant
returns-in-Ok-Vacant g c =
    let eq = g.Q.PartialEq.eq in
    let none : get eq c.args.map.now c.args.key ≡ None = search rules in
    (none, search rules ∙ insert_entry-new eq c.args.map.now c.args.key c.args.value none)

pub returns-in-Ok-Occupied : goal.returns-in-Ok-Occupied
returns-in-Ok-Occupied g c =
    let eq = g.Q.PartialEq.eq in
    let some : get eq c.args.map.now c.args.key ≡ Some c.into_mut.result.now = sym c.in-Ok-Occupied.ensures.value ∙ (ap entry_value c.in-Ok-Occupied.field-0-is ∙ c.into_mut.ensures.value) in
    (search rules, ap is_some some, search rules ∙ same_again eq c.args.map.now.entries c.args.key c.into_mut.result.now some)
