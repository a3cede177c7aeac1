use Rattle.std.proofs.Common.{◌≡◌, List, Some, None, sym, ap, ◌∙◌, subst}
use Rattle.std.specs.Arc.{arc_value}
use Rattle.std.specs.Option.{option_map}
use Rattle.task_share.specs.Seen.{Share}
use Rattle.task_share.specs.Numbers.{key_at}
use Rattle.task_share.proofs.NumberLemmas.{key_found, named_at}
use Rattle.task_share.proofs.table.Table.key.Goals as goal

pub returns-in-Some : goal.returns-in-Some
returns-in-Some g c = subst (λ (ps : List (g.row.K.Denot × Share g.row.K.Denot g.row.T.Denot)). Some (arc_value c.in-Some.key.now) ≡ key_at ps c.args.number) c.self.view_is
    (sym (key_found c.self.inside.places.entries c.args.number ∙ (named_at g.K.PartialEq.eq c.self.invariant.0 c.self.inside.places.entries c.args.number ∙ ap (option_map (λ e. arc_value e.0)) (sym c.in-Some.ensures.entry))))

pub returns-in-None : goal.returns-in-None
returns-in-None g c = subst (λ (ps : List (g.row.K.Denot × Share g.row.K.Denot g.row.T.Denot)). None ≡ key_at ps c.args.number) c.self.view_is
    (sym (key_found c.self.inside.places.entries c.args.number ∙ (named_at g.K.PartialEq.eq c.self.invariant.0 c.self.inside.places.entries c.args.number ∙ ap (option_map (λ e. arc_value e.0)) (sym c.in-None.ensures.entry))))
