use Rattle.std.proofs.Common.{sym, subst}
use Rattle.dice_core.specs.Cores.{CoreStands, core_of}
use Rattle.dice_core.proofs.CoreLemmas.{core_first}
use Rattle.dice_core.proofs.machine.Core.new.Goals as goal

pub invariant_of-result : goal.invariant_of-result
invariant_of-result g c =
    let eq = g.U.Key.PartialEq.eq in
    let m = g.U.Universe.meaning in
    let ts = c.new-versions.result.entries in
    let s = c.new-cells.result in
    let x = c.new-sessions.result in
    subst (λ d. CoreStands eq m (core_of d ts c.new-graph.result s x)) (sym c.new-desk.ensures)
    (subst (λ es. CoreStands eq m (core_of _ ts es s x)) (sym c.new-graph.ensures)
    (core_first eq c.laws_of.ensures.keys m c.laws_of.ensures.lawful ts s x c.new-versions.ensures.empty c.new-cells.ensures.sets c.new-cells.ensures.last c.new-sessions.ensures.owed c.new-sessions.ensures.stands))
