use Rattle.std.proofs.Common.{◌∙◌, ◌++◌, ◌∷◌, [], None, ap, rules}
use Rattle.small_map.specs.SmallMap.{Updates}
use Rattle.small_map.proofs.Ends.{updates_put_last}
use Rattle.small_map.proofs.many.Many.insert.Goals as goal

pub returns-then-len-lt-MOST-clause-updates : goal.returns-then-len-lt-MOST-clause-updates
returns-then-len-lt-MOST-clause-updates g c =
    let was : Updates c.args.self.now.entries c.remove-old.new.self c.args.number None = search rules in
    updates_put_last c.args.number c.args.self.now.entries c.remove-old.new.self c.push.new.self c.args.value was
    (c.push.ensures.entries ∙ ap (λ l. l ++ (c.args.number, c.args.value) ∷ []) c.deref_mut-then-len-lt-MOST.ensures.value)
