use Rattle.std.proofs.Common.{◌≡◌, ◌<◌, ◌≤◌, ◌+◌, refl, sym, length, drop, arith, subst, IfSome}
use Rattle.std.specs.Arc.{arc_value}
use Rattle.dep_recorder.specs.Checks.{HasChange, IsWantingOf}
use Rattle.dep_recorder.proofs.Findings.{wanting, fed_own}
use Rattle.dep_recorder.proofs.check.Check.agree.Goals as goal

pub unreachable-requires : goal.unreachable-requires
unreachable-requires g c =
    let s = c.self.inside in
    let T = arc_value s.trace in
    let w = wanting g.U.Value.PartialEq.eq c.laws_of.ensures.values (λ d. d.answers) (λ d. d.at) T s.agreed (length c.requires.0) s.change c.args.self.now c.self.view_is c.self.invariant.1 (subst (IsWantingOf (length c.requires.0)) (sym c.requires.1) refl) in
    let less = w.less in
    let past : length T ≤ s.agreed = subst (λ t. length t ≤ s.agreed) c.deref.ensures (omega (arith, c.len.ensures, c.if-self-len.true)) in
    omega arith

pub invariant_of-self : goal.invariant_of-self
invariant_of-self g c =
    let s = c.self.inside in
    let T = arc_value s.trace in
    let w = wanting g.U.Value.PartialEq.eq c.laws_of.ensures.values (λ d. d.answers) (λ d. d.at) T s.agreed (length c.requires.0) s.change c.args.self.now c.self.view_is c.self.invariant.1 (subst (IsWantingOf (length c.requires.0)) (sym c.requires.1) refl) in
    (let h = w.less in omega arith, subst (λ o. IfSome o (λ d. HasChange g.U.Value.PartialEq.eq (drop (s.agreed + 1) T) d.answers d.at)) (sym w.none) tt)

pub returns : goal.returns
returns g c =
    let s = c.self.inside in
    let T = arc_value s.trace in
    let w = wanting g.U.Value.PartialEq.eq c.laws_of.ensures.values (λ d. d.answers) (λ d. d.at) T s.agreed (length c.requires.0) s.change c.args.self.now c.self.view_is c.self.invariant.1 (subst (IsWantingOf (length c.requires.0)) (sym c.requires.1) refl) in
    fed_own g.U.Value.PartialEq.eq c.laws_of.ensures.values (λ d. d.answers) T s.agreed s.change c.args.self.now c.self.view_is w.none c.self.invariant.0
