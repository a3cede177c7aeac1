use Rattle.std.proofs.Common.{◌∙◌, ◌∷◌, sym, ap, subst, Option}
use Rattle.std.specs.Prelude.{IfSome, IfNone}
use Rattle.std.specs.Arc.{arc_value}
use Rattle.std.specs.Map.{keys_of}
use Rattle.task_share.specs.Asked.{Leads, stays}
use Rattle.task_share.specs.Seen.{asked_of}
use Rattle.task_share.specs.Numbers.{waits_by, names_at}
use Rattle.number_walk.specs.Reach.{Reaches, IsWay}
use Rattle.cycle_guard.proofs.WayLemmas.{number_in, below, within, leads_by_key, leads_by_number, cycle_of, no_asked, no_leads, apart_by, apart_numbers}
use Rattle.cycle_guard.proofs.guard.would_close_placed.Goals as goal

pub returns-then-eq-clause-some : goal.returns-then-eq-clause-some
returns-then-eq-clause-some g c =
    let e = c.table_in_order.ensures.equality.same (arc_value c.args.from.now) (arc_value c.args.to.now) (sym c.if-eq.ensures) in
    subst (Leads (asked_of g.K.PartialEq.eq c.args.table.now) (arc_value c.args.to.now)) (sym e) stays

pub way-requires-clause-below : goal.way-requires-clause-below
way-requires-clause-below g c = let o = c.table_in_order.ensures in below g.K.PartialEq.eq o.equality c.args.table.now o.distinct o.numbered o.waits

pub way-requires-clause-start : goal.way-requires-clause-start
way-requires-clause-start g c = within c.args.table.now c.in-Some.start (arc_value c.args.to.now) (number_in g.K.PartialEq.eq c.args.table.now (arc_value c.args.to.now) c.args.place c.in-Some.start c.in-Some.is c.requires)

pub way-requires-clause-other : goal.way-requires-clause-other
way-requires-clause-other g c =
    let o = c.table_in_order.ensures in
    apart_numbers g.K.PartialEq.eq o.equality c.args.table.now (arc_value c.args.from.now) (arc_value c.args.to.now) (sym c.if-eq.ensures) c.in-Some.start c.in-Some-number.goal (number_in g.K.PartialEq.eq c.args.table.now (arc_value c.args.to.now) c.args.place c.in-Some.start c.in-Some.is c.requires) c.in-Some-number.ensures.some

pub returns-then-is_empty-clause-none : goal.returns-then-is_empty-clause-none
returns-then-is_empty-clause-none g c l =
    let eq = g.K.PartialEq.eq in
    let o = c.table_in_order.ensures in
    no_leads eq o.equality c.args.table.now o.distinct o.numbered o.waits (arc_value c.args.to.now) (arc_value c.args.from.now) c.in-Some.start c.waits_of.result.now (number_in g.K.PartialEq.eq c.args.table.now (arc_value c.args.to.now) c.args.place c.in-Some.start c.in-Some.is c.requires) c.waits_of.ensures (sym c.if-is_empty.ensures) (λ e. apart_by eq o.equality (arc_value c.args.from.now) (arc_value c.args.to.now) (sym c.if-eq.ensures) (sym e)) l

pub returns-in_default-number-clause-none : goal.returns-in_default-number-clause-none
returns-in_default-number-clause-none g c =
    let o = c.table_in_order.ensures in
    no_asked g.K.PartialEq.eq o.equality c.args.table.now o.distinct o.numbered o.waits (arc_value c.args.from.now) (arc_value c.args.to.now) c.in_default-number.ensures.none (apart_by g.K.PartialEq.eq o.equality (arc_value c.args.from.now) (arc_value c.args.to.now) (sym c.if-eq.ensures))

pub returns-in_default-2-clause-none : goal.returns-in_default-2-clause-none
returns-in_default-2-clause-none g c l =
    let eq = g.K.PartialEq.eq in
    let o = c.table_in_order.ensures in
    let none = subst (λ (w : Option _). IfNone w (Reaches (waits_by eq c.args.table.now) c.in-Some.start c.in-Some-number.goal → ⊥)) c.in_default-2.is c.in_ok-way.ensures.none in
    none (leads_by_number eq o.equality c.args.table.now o.distinct o.numbered o.waits c.in-Some.start c.in-Some-number.goal (arc_value c.args.to.now) (arc_value c.args.from.now) (number_in g.K.PartialEq.eq c.args.table.now (arc_value c.args.to.now) c.args.place c.in-Some.start c.in-Some.is c.requires) c.in-Some-number.ensures.some l)

pub returns-clause-path : goal.returns-clause-path
returns-clause-path g c =
    let eq = g.K.PartialEq.eq in
    let o = c.table_in_order.ensures in
    let ps = c.args.table.now in
    let way = subst (λ w. IfSome w (λ v. IsWay (waits_by eq ps) c.in-Some.start c.in-Some-number.goal v.items)) c.in-Some-2.is c.in_ok-way.ensures.way in
    cycle_of eq o.equality ps o.distinct o.numbered o.waits (arc_value c.args.from.now) (arc_value c.args.to.now) c.in-Some.start c.in-Some-number.goal c.in-Some-2.way.items c.in_ok-path_of-2.field-0 (number_in g.K.PartialEq.eq c.args.table.now (arc_value c.args.to.now) c.args.place c.in-Some.start c.in-Some.is c.requires) c.in-Some-number.ensures.some way (c.in_ok-path_of-2.ensures ∙ ap (λ ns. arc_value c.args.from.now ∷ names_at (keys_of ps) ns) c.deref.ensures.value)

pub returns-clause-some : goal.returns-clause-some
returns-clause-some g c =
    let eq = g.K.PartialEq.eq in
    let o = c.table_in_order.ensures in
    let led = subst (λ w. IfSome w (λ v. Reaches (waits_by eq c.args.table.now) c.in-Some.start c.in-Some-number.goal)) c.in-Some-2.is c.in_ok-way.ensures.some in
    leads_by_key eq o.equality c.args.table.now o.distinct o.numbered o.waits c.in-Some.start c.in-Some-number.goal (arc_value c.args.to.now) (arc_value c.args.from.now) (number_in g.K.PartialEq.eq c.args.table.now (arc_value c.args.to.now) c.args.place c.in-Some.start c.in-Some.is c.requires) c.in-Some-number.ensures.some led
