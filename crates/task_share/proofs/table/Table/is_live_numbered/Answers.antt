use Rattle.std.proofs.Common.{◌≡◌, List, sym, ap, ◌∙◌, subst}
use Rattle.task_share.specs.Seen.{Share, is_for, has_live, is_live}
use Rattle.task_share.proofs.NumberLemmas.{number_names, no_key, some_key, share_at}
use Rattle.task_share.proofs.table.Table.is_live_numbered.Goals as goal

pub returns-in-Some-clause-live : goal.returns-in-Some-clause-live
returns-in-Some-clause-live g c k at =
    subst (λ (ps : List (g.row.K.Denot × Share g.row.K.Denot g.row.T.Denot)). c.is_running.result ≡ is_live g.K.PartialEq.eq ps k) c.self.view_is
    (c.is_running.ensures ∙ sym (ap (is_for has_live) (share_at g.K.PartialEq.eq c.self.invariant.0 c.self.inside.places.entries c.args.number c.in-Some.field-0-0.now c.in-Some.place.now k c.self.invariant.2.distinct (sym c.in-Some.ensures.entry) (number_names c.self.inside.places.entries _ c.args.number k c.self.view_is at))))

pub returns-in-Some-clause-none : goal.returns-in-Some-clause-none
returns-in-Some-clause-none g c none = absurd (some_key c.self.inside.places.entries _ c.args.number (c.in-Some.field-0-0.now, c.in-Some.place.now) c.self.view_is (sym c.in-Some.ensures.entry) none)

pub returns-in-None-clause-live : goal.returns-in-None-clause-live
returns-in-None-clause-live g c k at = absurd (no_key c.self.inside.places.entries _ c.args.number k c.self.view_is (sym c.in-None.ensures.entry) at)
