use Rattle.std.proofs.Common.{ap, sym, ◌∙◌}
use Rattle.std.specs.Arc.{arc_value}
use Rattle.std.specs.Option.{option_map}
use Rattle.std.proofs.lemmas.Option.{none-some}
use Rattle.task_share.specs.Seen.{is_for}
use Rattle.task_share.specs.Listed.{is_idle}
use Rattle.task_share.proofs.NumberLemmas.{share_at, named_at}
use Rattle.task_share.proofs.idle.is_idle_at.Goals as goal

pub returns-in-Some : goal.returns-in-Some
returns-in-Some g c = λ k named.
    c.is_unasked.ensures ∙ sym (ap (is_for is_idle) (share_at g.K.PartialEq.eq c.requires.equality c.args.places.now.entries c.args.at c.in-Some.field-0-0.now c.in-Some.place.now k c.requires.linked.distinct (sym c.in-Some.ensures.entry) named))

pub returns-in-None : goal.returns-in-None
returns-in-None g c = λ k named.
    absurd (none-some k (sym (named_at g.K.PartialEq.eq c.requires.equality c.args.places.now.entries c.args.at ∙ ap (option_map (λ e. arc_value e.0)) (sym c.in-None.ensures.entry)) ∙ named))
