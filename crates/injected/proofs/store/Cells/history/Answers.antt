use Rattle.std.proofs.Common.{◌∙◌, ap, sym}
use Rattle.std.specs.Arc.{arc_value}
use Rattle.std.specs.Map.{lookup}
use Rattle.injected.proofs.Maps.{lookup-named}
use Rattle.injected.proofs.store.Cells.history.Goals as goal

pub returns-clause-cell : goal.returns-clause-cell
returns-clause-cell g c =
    let eq = g.U.Key.PartialEq.eq in
    let k = arc_value c.args.key.now in
    c.get.ensures.value ∙ (sym (lookup-named eq k c.self.inside.histories.entries) ∙ ap (λ s. lookup (eq k) s.cells) c.self.view_is)
