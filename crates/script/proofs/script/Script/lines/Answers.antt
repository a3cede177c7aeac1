use Rattle.std.proofs.Common.{subst, List}
use Rattle.script.specs.declared.line.Line.{Line}
use Rattle.script.specs.Past.{nothing}
use Rattle.script.specs.Order.{InOrder}
use Rattle.script.proofs.Laws.{in_order}
use Rattle.script.proofs.script.Script.lines.Goals as goal

pub returns-clause-in_order : goal.returns-clause-in_order
returns-clause-in_order c =
    let i = c.self.invariant in
    subst (λ (ls : List Line). InOrder nothing ls) c.self.view_is (in_order nothing i.0 c.self.inside.lines.items i.1.lines)
