use Rattle.std.proofs.Common.{◌||◌, is_some, sym, ap, ◌∙◌}
use Rattle.std.specs.Arc.{arc_value}
use Rattle.std.specs.Option.{option_map}
use Rattle.task_share.specs.Seen.{is_for, takes_task}
use Rattle.task_share.specs.Listed.{share_of}
use Rattle.std.proofs.lemmas.Option.{none-some}
use Rattle.task_share.proofs.NumberLemmas.{share_at, named_at}
use Rattle.task_share.proofs.IdleLemmas.{still_some}
use Rattle.task_share.proofs.room.takes_task_at.Goals as goal

pub returns-then-is_some : goal.returns-then-is_some
returns-then-is_some g c = λ k named.
    let eq = g.K.PartialEq.eq in
    let es = c.args.places.now.entries in
    let h = c.in-Some.place.now in
    let t = c.is_some.ensures in
    let found = share_at eq c.requires.equality es c.args.at c.in-Some.field-0-0.now h k c.requires.linked.distinct (sym c.in-Some.ensures.entry) named in
    c.if-is_some.true ∙ sym (ap (is_for takes_task) found ∙ ap (λ b. b || is_some (share_of h).name) (sym c.is_some.ensures ∙ c.if-is_some.true))

pub returns-else-is_some : goal.returns-else-is_some
returns-else-is_some g c = λ k named.
    let eq = g.K.PartialEq.eq in
    let es = c.args.places.now.entries in
    let h = c.in-Some.place.now in
    let found = share_at eq c.requires.equality es c.args.at c.in-Some.field-0-0.now h k c.requires.linked.distinct (sym c.in-Some.ensures.entry) named in
    sym (ap (is_for takes_task) found ∙ (ap (λ b. b || is_some (share_of h).name) (sym c.is_some.ensures ∙ c.if-is_some.false) ∙ (still_some arc_value h.name ∙ sym c.is_some-else-is_some.ensures)))

pub returns-in-None : goal.returns-in-None
returns-in-None g c = λ k named.
    let eq = g.K.PartialEq.eq in
    absurd (none-some k (sym (named_at eq c.requires.equality c.args.places.now.entries c.args.at ∙ ap (option_map (λ e. arc_value e.0)) (sym c.in-None.ensures.entry)) ∙ named))
