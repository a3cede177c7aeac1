-- What the check needs or finds: at each of the three exits, with what the finding there cannot be.
use Rattle.std.proofs.Common.{◌≡◌, ◌+◌, ◌≤◌, ◌<◌, length, drop, arith, subst, ◌∷◌, Some, IfSome}
use Rattle.std.specs.Arc.{arc_value}
use Rattle.std.proofs.lemmas.List.{length-map}
use Rattle.dep_recorder.specs.Recordings.{keys_in, values_in, answered_in}
use Rattle.dep_recorder.specs.Checks.{HasChange, changed_at}
use Rattle.dep_recorder.proofs.Findings.{seen_change, seen_wanted, seen_same, heads_got, change_within, changed_wants_not, changed_is_not_same, wants_is_not_same, wants_is_no_change, same_wants_not, same_is_no_change}
use Rattle.dep_recorder.proofs.check.Check.next.Goals as goal

pub returns-in-Some : goal.returns-in-Some
returns-in-Some g c =
    let s = c.self.inside in
    let T = arc_value s.trace in
    let eq = g.U.Value.PartialEq.eq in
    let law = c.laws_of.ensures.values in
    let ps = c.batch.result.now in
    let e : drop s.agreed T ≡ answered_in ps ∷ drop (s.agreed + 1) T = subst (λ t. drop s.agreed t ≡ answered_in ps ∷ drop (s.agreed + 1) t) c.deref.ensures c.batch.ensures.batch in
    let h : HasChange eq (drop s.agreed T) c.in-Some.change.answers c.in-Some.change.at = subst (λ o. IfSome o (λ d. HasChange eq (drop s.agreed T) d.answers d.at)) c.in-Some.is c.self.invariant.1 in
    let l = change_within eq T s.agreed c.in-Some.change.at c.in-Some.change.answers ps (drop (s.agreed + 1) T) c.values.result.now e c.values.ensures h in
    let a : changed_at c.in-Some.change.at (keys_in ps) (values_in ps) c.in-Some.change.answers ≡ Some (arc_value c.index-batch-change.result.0, arc_value c.index-batch-change.result.1, arc_value c.index-values-change.result) = subst (λ ys. changed_at c.in-Some.change.at (keys_in ps) (values_in ps) ys ≡ Some (arc_value c.index-batch-change.result.0, arc_value c.index-batch-change.result.1, arc_value c.index-values-change.result)) c.values.ensures (heads_got c.in-Some.change.at ps c.values.result.now c.index-batch-change.result c.index-values-change.result l.0 l.1 c.index-batch-change.is c.index-values-change.is) in
    let r = seen_change eq law (λ d. d.answers) T s.agreed s.change c.args.self.now c.self.view_is c.in-Some.change c.in-Some.change.at (answered_in ps) (drop (s.agreed + 1) T) (arc_value c.index-batch-change.result.0) (arc_value c.index-batch-change.result.1) (arc_value c.index-values-change.result) c.in-Some.is e h a in
    record { finding = r.0; wants = λ ks p. absurd (changed_wants_not p); pairs = tt; same = λ p. absurd (changed_is_not_same p); differs = r.1 }

pub returns-then-self-len : goal.returns-then-self-len
returns-then-self-len g c =
    let s = c.self.inside in
    let T = arc_value s.trace in
    let eq = g.U.Value.PartialEq.eq in
    let law = c.laws_of.ensures.values in
    let ps = c.batch-then-self-len.result.now in
    let e : drop s.agreed T ≡ answered_in ps ∷ drop (s.agreed + 1) T = subst (λ t. drop s.agreed t ≡ answered_in ps ∷ drop (s.agreed + 1) t) c.deref-then-self-len.ensures c.batch-then-self-len.ensures.batch in
    let r = seen_wanted eq law (λ d. d.answers) T s.agreed s.change c.args.self.now c.self.view_is c.in_default.is (answered_in ps) (drop (s.agreed + 1) T) e in
    let some : 0 < length (keys_in ps) = (let h = c.batch-then-self-len.ensures.some in let n = length-map ps (λ q. arc_value q.0) in omega arith) in
    record { finding = r.0; wants = λ ks p. r.1 ks some p; pairs = r.2; same = λ p. absurd (wants_is_not_same p); differs = λ d x y p. absurd (wants_is_no_change p) }

pub returns-else-self-len : goal.returns-else-self-len
returns-else-self-len g c =
    let s = c.self.inside in
    let T = arc_value s.trace in
    let eq = g.U.Value.PartialEq.eq in
    let law = c.laws_of.ensures.values in
    let past : length T ≤ s.agreed = subst (λ t. length t ≤ s.agreed) c.deref-2.ensures (omega (arith, c.len.ensures, c.if-self-len.false)) in
    let r = seen_same eq law (λ d. d.answers) T s.agreed s.change c.args.self.now c.self.view_is c.in_default.is past in
    record { finding = r.0; wants = λ ks p. absurd (same_wants_not p); pairs = tt; same = λ p. r.1; differs = λ d x y p. absurd (same_is_no_change p) }
