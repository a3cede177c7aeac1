use Rattle.std.proofs.Common.{ap, sym, ◌∙◌}
use Rattle.std.specs.Arc.{arc_value}
use Rattle.std.specs.Option.{option_map}
use Rattle.versioned_graph.specs.Users.{or_none, users_of}
use Rattle.versioned_graph.proofs.UsersLemmas.{keys_in, set-named, of_found}
use Rattle.versioned_graph.proofs.users.Users.of.Goals as goal

pub returns : goal.returns
returns g c =
    let eq = g.U.Key.PartialEq.eq in
    let k = arc_value c.args.key.now in
    let us = c.self.inside.sets.entries in
    of_found c.get.result (users_of eq c.args.self.now k) (ap (λ o. or_none (option_map keys_in o)) c.get.ensures.value ∙ (sym (set-named eq k us) ∙ ap (λ ls. users_of eq ls k) c.self.view_is))
