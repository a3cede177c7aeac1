use Rattle.std.proofs.Common.{◌∙◌, ap}
use Rattle.std.specs.Arc.{arc_value}
use Rattle.dice_tasks.specs.Owned.{Owned}
use Rattle.dice_tasks.proofs.OwnersLemmas.{owners_rest}
use Rattle.dice_tasks.proofs.owners.Owners.give.Goals as goal

pub invariant_of-self : goal.invariant_of-self
invariant_of-self g c = (owners_rest (arc_value c.self.inside.path) c.in-Some.path c.self.inside.more.items c.pop.new.self.items c.self.invariant c.in-Some.ensures.items).0

pub returns-clause-given : goal.returns-clause-given
returns-clause-given g c =
    (owners_rest (arc_value c.self.inside.path) c.in-Some.path c.self.inside.more.items c.pop.new.self.items c.self.invariant c.in-Some.ensures.items).1
    ∙ ap (λ (o : Owned g.row.K.Denot). o.path) c.self.view_is
