use Rattle.std.proofs.Common.{◌≡◌, ◌∙◌, sym, ap, subst, List}
use Rattle.std.specs.Prelude.{option_and_then}
use Rattle.std.specs.Arc.{arc_value}
use Rattle.std.specs.Option.{option_copied, option_map}
use Rattle.task_share.specs.Seen.{Share, task_at}
use Rattle.task_share.specs.Listed.{share_of}
use Rattle.task_share.proofs.PlaceLemmas.{lookup_shares}
use Rattle.task_share.proofs.table.Table.task.Goals as goal

pub returns-in_err-place : goal.returns-in_err-place
returns-in_err-place g c =
    subst (λ (ps : List (g.row.K.Denot × Share g.row.K.Denot g.row.T.Denot)). option_copied c.from_residual.result ≡ task_at g.K.PartialEq.eq ps (arc_value c.args.key.now)) c.self.view_is
    (ap option_copied c.from_residual.ensures ∙ sym (ap (option_and_then (λ (p : Share g.row.K.Denot g.row.T.Denot). p.task)) (lookup_shares (g.K.PartialEq.eq (arc_value c.args.key.now)) c.self.inside.places.entries ∙ ap (option_map share_of) (sym c.get.ensures.value ∙ ap option_copied c.in_err-place.was))))

pub returns : goal.returns
returns g c =
    subst (λ (ps : List (g.row.K.Denot × Share g.row.K.Denot g.row.T.Denot)). option_copied c.as_ref.result ≡ task_at g.K.PartialEq.eq ps (arc_value c.args.key.now)) c.self.view_is
    (c.as_ref.ensures.value ∙ sym (ap (option_and_then (λ (p : Share g.row.K.Denot g.row.T.Denot). p.task)) (lookup_shares (g.K.PartialEq.eq (arc_value c.args.key.now)) c.self.inside.places.entries ∙ ap (option_map share_of) (sym c.get.ensures.value ∙ ap option_copied c.in_ok-place.was))))
