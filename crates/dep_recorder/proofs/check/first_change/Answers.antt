use Rattle.std.proofs.Common.{◌∙◌, sym, arith, map, drop}
use Rattle.std.specs.Arc.{arc_value}
use Rattle.dep_recorder.proofs.Findings.{change_here, change_past}
use Rattle.dep_recorder.proofs.check.first_change.Goals as goal
use Rattle.std.proofs.lemmas.Bool.{not-true, not-false}
use Rattle.std.proofs.lemmas.List.{drop_all}
use Rattle.dep_recorder.specs.Recordings.{keys_in, values_in}
use Rattle.dep_recorder.specs.Checks.{first_change}

pub returns-then-ne-clause-some : goal.returns-then-ne-clause-some
returns-then-ne-clause-some g c =
    let eq = g.V.PartialEq.eq in
    let f = not-true (eq c.deref.result.now c.deref-in-loop-i.result.now) (sym c.ne.ensures ∙ c.if-ne.true) in (
      c.loop-i-test.true,
      c.loop-i.invariant
          ∙ change_here eq c.loop-i.i c.args.was.now c.args.now.now c.index-was-i.result c.index-now-i.result c.loop-i-test.true (omega (arith, c.requires, c.loop-i-test.true)) c.index-was-i.is c.index-now-i.is
          ((λ i. eq (arc_value (c.index-was-i.is i).1) (arc_value c.index-now-i.result)) ∙ ((λ i. eq (sym c.deref.ensures i) (sym c.deref-in-loop-i.ensures i)) ∙ f)),
    )

pub loop-i-preserved : goal.loop-i-preserved
loop-i-preserved g c =
    let eq = g.V.PartialEq.eq in
    let t = not-false (eq c.deref.result.now c.deref-in-loop-i.result.now) (sym c.ne.ensures ∙ c.if-ne.false) in
    c.loop-i.invariant
    ∙ change_past eq c.loop-i.i c.args.was.now c.args.now.now c.index-was-i.result c.index-now-i.result c.loop-i-test.true (omega (arith, c.requires, c.loop-i-test.true)) c.index-was-i.is c.index-now-i.is
    ((λ i. eq (arc_value (c.index-was-i.is i).1) (arc_value c.index-now-i.result)) ∙ ((λ i. eq (sym c.deref.ensures i) (sym c.deref-in-loop-i.ensures i)) ∙ t))

pub returns-clause-none : goal.returns-clause-none
returns-clause-none g c =
    let none = drop_all c.loop-i.i c.args.was.now c.loop-i-test.false in
    c.loop-i.invariant ∙ (λ j. first_change g.V.PartialEq.eq (keys_in (none j)) (values_in (none j)) (map arc_value (drop c.loop-i.i c.args.now.now)))
