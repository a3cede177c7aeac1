use Rattle.std.proofs.Common.{◌≡◌, List, map, sym, ap, ◌∙◌, subst}
use Rattle.std.specs.Arc.{arc_value}
use Rattle.task_share.specs.Seen.{Share, list_for, waits_at}
use Rattle.task_share.proofs.NumberLemmas.{number_names, no_key, some_key, share_at}
use Rattle.task_share.proofs.table.Table.waits_numbered.Goals as goal

pub returns-in-Some-clause-waits : goal.returns-in-Some-clause-waits
returns-in-Some-clause-waits g c k at =
    subst (λ (ps : List (g.row.K.Denot × Share g.row.K.Denot g.row.T.Denot)). map arc_value c.values.result.now ≡ waits_at g.K.PartialEq.eq ps k) c.self.view_is
    (ap (map arc_value) c.values.ensures ∙ sym (ap (list_for (λ (p : Share g.row.K.Denot g.row.T.Denot). p.waits)) (share_at g.K.PartialEq.eq c.self.invariant.0 c.self.inside.places.entries c.args.number c.in-Some.field-0-0.now c.in-Some.place.now k c.self.invariant.2.distinct (sym c.in-Some.ensures.entry) (number_names c.self.inside.places.entries _ c.args.number k c.self.view_is at))))

pub returns-in-Some-clause-none : goal.returns-in-Some-clause-none
returns-in-Some-clause-none g c none = absurd (some_key c.self.inside.places.entries _ c.args.number (c.in-Some.field-0-0.now, c.in-Some.place.now) c.self.view_is (sym c.in-Some.ensures.entry) none)

pub returns-in-None-clause-waits : goal.returns-in-None-clause-waits
returns-in-None-clause-waits g c k at = absurd (no_key c.self.inside.places.entries _ c.args.number k c.self.view_is (sym c.in-None.ensures.entry) at)
