use Rattle.std.proofs.Common.{subst}
use Rattle.std.specs.Arc.{arc_value}
use Rattle.shelf.specs.Rows.{PutsRow, woven}
use Rattle.shelf.proofs.RowLemmas.{row_kept, row_put}
use Rattle.shelf.proofs.store.Store.put_row.Goals as goal

pub invariant_of-self : goal.invariant_of-self
invariant_of-self g c = row_kept g.K.PartialEq.eq c.put_new.result c.self.inside.rows c.put_new.new.map c.self.inside.others.items _ c.args.value c.self.invariant c.put_new.ensures

pub returns : goal.returns
returns g c =
    let eq = g.K.PartialEq.eq in
    let others = c.self.inside.others.items in
    subst (λ old. PutsRow eq c.args.version (arc_value c.args.key) c.args.value c.put_new.result old (woven 0 c.put_new.new.map.entries others)) c.self.view_is
    (row_put eq c.put_new.result c.self.inside.rows c.put_new.new.map others _ c.args.value c.self.invariant c.put_new.ensures)
