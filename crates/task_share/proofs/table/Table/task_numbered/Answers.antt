use Rattle.std.proofs.Common.{◌≡◌, List, sym, ap, ◌∙◌, subst}
use Rattle.std.specs.Prelude.{option_and_then}
use Rattle.std.specs.Option.{option_copied}
use Rattle.task_share.specs.Seen.{Share, task_at}
use Rattle.task_share.proofs.NumberLemmas.{number_names, no_key, some_key, share_at}
use Rattle.task_share.proofs.table.Table.task_numbered.Goals as goal

pub returns-in-Some-clause-task : goal.returns-in-Some-clause-task
returns-in-Some-clause-task g c k at =
    subst (λ (ps : List (g.row.K.Denot × Share g.row.K.Denot g.row.T.Denot)). option_copied c.as_ref.result ≡ task_at g.K.PartialEq.eq ps k) c.self.view_is
    (c.as_ref.ensures.value ∙ sym (ap (option_and_then (λ (p : Share g.row.K.Denot g.row.T.Denot). p.task)) (share_at g.K.PartialEq.eq c.self.invariant.0 c.self.inside.places.entries c.args.number c.in-Some.field-0-0.now c.in-Some.place.now k c.self.invariant.2.distinct (sym c.in-Some.ensures.entry) (number_names c.self.inside.places.entries _ c.args.number k c.self.view_is at))))

pub returns-in-Some-clause-none : goal.returns-in-Some-clause-none
returns-in-Some-clause-none g c none = absurd (some_key c.self.inside.places.entries _ c.args.number (c.in-Some.field-0-0.now, c.in-Some.place.now) c.self.view_is (sym c.in-Some.ensures.entry) none)

pub returns-in-None-clause-task : goal.returns-in-None-clause-task
returns-in-None-clause-task g c k at = absurd (no_key c.self.inside.places.entries _ c.args.number k c.self.view_is (sym c.in-None.ensures.entry) at)
