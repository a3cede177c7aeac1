use Rattle.std.proofs.Common.{◌≡◌, refl, sym, ap, subst}
use Rattle.std.specs.Arc.{arc_value}
use Rattle.core_laws.specs.Tasks.{Outcome, WithCycle, WithNothing}
use Rattle.dice_tasks.specs.declared.end.How.{How}
use Rattle.dice_tasks.specs.Endings.{ends_so, path_of}
use Rattle.dice_tasks.proofs.end.end_one.Goals as goal

pub returns-in-Lost-clause-ended : goal.returns-in-Lost-clause-ended
returns-in-Lost-clause-ended g c =
    let e = c.end_lost.ensures.ended in
    let none : Outcome g.row.U-Key.Denot g.row.U-Value.Denot = WithNothing in
    (e.0, none, subst (λ (h : How g.row.U-Key.Denot). none ≡ ends_so (path_of h)) (sym c.in-Lost.is) refl, e.1)

pub returns-in-Cycle-clause-ended : goal.returns-in-Cycle-clause-ended
returns-in-Cycle-clause-ended g c =
    let e = c.end_cyclic.ensures.ended in
    let came : Outcome g.row.U-Key.Denot g.row.U-Value.Denot = WithCycle (arc_value c.give.result) in
    (e.0, came, subst (λ (h : How g.row.U-Key.Denot). came ≡ ends_so (path_of h)) (sym c.in-Cycle.is) (ap WithCycle c.give.ensures.given), e.1)
