use Rattle.std.proofs.Common.{◌≡◌, ◌++◌, ◌∷◌, [], ap, ◌∙◌, map, true, rules}
use Rattle.std.proofs.lemmas.List.{map-append}
use Rattle.std.specs.Arc.{arc_value}
use Rattle.versioned_graph.specs.Edges.{is_edge}
use Rattle.versioned_graph.proofs.Walk.{filter_kept}
use Rattle.versioned_graph.proofs.reach.push_user.Goals as goal

pub returns : goal.returns
returns g c =
    let f = is_edge g.U.Key.PartialEq.eq c.args.store.now (arc_value c.args.key.now) in
    let e : f (arc_value c.args.user.now) ≡ true = search rules in
    ap (map arc_value) c.in_ok-push.ensures.items
    ∙ (map-append arc_value c.args.todo.now.items (c.in_ok-try_clone.field-0 ∷ [])
    ∙ (ap (λ k. map arc_value c.args.todo.now.items ++ k ∷ []) c.in_ok-try_clone.ensures ∙ filter_kept f (arc_value c.args.user.now) (map arc_value c.args.todo.now.items) e))
