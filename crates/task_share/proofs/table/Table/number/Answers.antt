use Rattle.std.proofs.Common.{◌≡◌, List, Some, None, is_some, sym, ap, ◌∙◌, subst}
use Rattle.std.specs.Prelude.{IfSome, IfNone}
use Rattle.std.specs.Arc.{arc_value}
use Rattle.std.specs.Map.{lookup}
use Rattle.std.specs.Option.{option_map}
use Rattle.task_share.specs.Seen.{Share}
use Rattle.task_share.specs.Listed.{share_of}
use Rattle.task_share.specs.Numbers.{key_at}
use Rattle.task_share.proofs.PlaceLemmas.{lookup_shares}
use Rattle.lists.proofs.Options.{is_missing}
use Rattle.task_share.proofs.NumberLemmas.{found_number, key_found}
use Rattle.task_share.proofs.PlaceLemmas.{some_so, if_none}
use Rattle.task_share.proofs.table.Table.number.Goals as goal

pub returns-clause-some : goal.returns-clause-some
returns-clause-some g c =
    subst (λ (ps : List (g.row.K.Denot × Share g.row.K.Denot g.row.T.Denot)). IfSome c.get_index_of.result (λ n. key_at ps n ≡ Some (arc_value c.args.key.now))) c.self.view_is
    (some_so c.get_index_of.result (λ n e. key_found c.self.inside.places.entries n ∙ found_number g.K.PartialEq.eq c.self.invariant.0 c.self.inside.places.entries c.args.key.now n (sym e ∙ c.get_index_of.ensures.index)))

pub returns-clause-none : goal.returns-clause-none
returns-clause-none g c =
    subst (λ (ps : List (g.row.K.Denot × Share g.row.K.Denot g.row.T.Denot)). IfNone c.get_index_of.result (lookup (g.K.PartialEq.eq (arc_value c.args.key.now)) ps ≡ None)) c.self.view_is
    (if_none c.get_index_of.result (λ e. lookup_shares (g.K.PartialEq.eq (arc_value c.args.key.now)) c.self.inside.places.entries ∙ ap (option_map share_of) (is_missing _ (sym c.get_index_of.ensures.found ∙ ap is_some e))))
