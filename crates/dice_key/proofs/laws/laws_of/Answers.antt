use Rattle.dice_key.proofs.laws.laws_of.Goals as goal
use Rattle.dice_key.proofs.Orders.{equal_by_order}

pub returns : goal.returns
returns g c =
    let laws = g.met.U.Universe g.world.𝓛 g.world.𝓜 g.world.𝓡 ((λ s x. x), (λ x. x), (λ x. x), λ x. x) in
    let key = g.met.U.Key.Ord g.world.𝓛 g.world.𝓜 g.world.𝓡 ((λ s x. x), (λ x. x), (λ x. x), λ x. x) in
    let keys = g.met.U.Key.Eq g.world.𝓛 g.world.𝓜 g.world.𝓡 ((λ s x. x), (λ x. x), (λ x. x), λ x. x) in
    let values = g.met.U.Value.Eq g.world.𝓛 g.world.𝓜 g.world.𝓡 ((λ s x. x), (λ x. x), (λ x. x), λ x. x) in
    record {
      lawful = laws.lawful;
      same_keys = laws.same_keys;
      total = key.total;
      keys = record { same = equal_by_order _ _ key.matches_eq laws.same_keys; itself = keys.laws.refl };
      values = record { same = laws.equal_values; itself = values.laws.refl };
    }
