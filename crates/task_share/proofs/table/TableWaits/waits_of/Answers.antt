use Rattle.std.proofs.Common.{◌≡◌, List, [], sym, ◌∙◌, subst}
use Rattle.task_share.specs.Seen.{Share}
use Rattle.task_share.specs.Numbers.{waits_by}
use Rattle.task_share.proofs.NumberLemmas.{waits_numbered, no_waits}
use Rattle.task_share.proofs.table.TableWaits.waits_of.Goals as goal

pub returns-in-Some : goal.returns-in-Some
returns-in-Some g c =
    subst (λ (ps : List (g.row.K.Denot × Share g.row.K.Denot g.row.T.Denot)). c.numbers.result.now ≡ waits_by g.K.PartialEq.eq ps c.args.number) c.self.view_is
    (c.numbers.ensures.numbers ∙ sym (waits_numbered g.K.PartialEq.eq c.self.invariant.0 c.self.inside.places.entries c.self.invariant.2.distinct c.self.invariant.2 c.args.number c.in-Some.field-0-0.now c.in-Some.place.now (sym c.in-Some.ensures.entry)))

pub returns-in-None : goal.returns-in-None
returns-in-None g c =
    subst (λ (ps : List (g.row.K.Denot × Share g.row.K.Denot g.row.T.Denot)). [] ≡ waits_by g.K.PartialEq.eq ps c.args.number) c.self.view_is
    (sym (no_waits g.K.PartialEq.eq c.self.invariant.0 c.self.inside.places.entries c.self.invariant.2.distinct c.args.number (sym c.in-None.ensures.entry)))
