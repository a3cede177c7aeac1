use Rattle.std.proofs.Common.{◌≡◌, ◌∙◌, ◌+◌, ◌<◌, sym, length, drop, ap, arith, subst, ◌∷◌, IfSome}
use Rattle.std.specs.Arc.{arc_value}
use Rattle.std.proofs.lemmas.List.{length-map}
use Rattle.dep_recorder.specs.Recordings.{answered_in}
use Rattle.dep_recorder.specs.Checks.{HasChange}
use Rattle.dep_recorder.proofs.Findings.{wanting, as_many, has_change, fed_more, fed_next}
use Rattle.dep_recorder.proofs.check.Check.feed.Goals as goal
use Rattle.dep_recorder.proofs.check.Check.feed.Goals.{in-Some-1, in-None-1}

pub batch-requires-after_bounds : goal.batch-requires-after_bounds
batch-requires-after_bounds g c κs within =
    let s = c.self.inside in
    let T = arc_value s.trace in
    let w = wanting g.U.Value.PartialEq.eq c.laws_of.ensures.values (λ d. d.answers) (λ d. d.at) T s.agreed (length c.args.answers) s.change c.args.self.now c.self.view_is c.self.invariant.1 c.requires in
    subst (λ t. s.agreed < length t) (sym c.deref.ensures) w.less

pub first_change-found-requires : goal.first_change-found-requires
first_change-found-requires g c =
    let s = c.self.inside in
    let T = arc_value s.trace in
    let w = wanting g.U.Value.PartialEq.eq c.laws_of.ensures.values (λ d. d.answers) (λ d. d.at) T s.agreed (length c.args.answers) s.change c.args.self.now c.self.view_is c.self.invariant.1 c.requires in
    let ps = c.batch.result.now in
    let e : drop s.agreed T ≡ answered_in ps ∷ drop (s.agreed + 1) T = subst (λ t. drop s.agreed t ≡ answered_in ps ∷ drop (s.agreed + 1) t) c.deref.ensures c.batch.ensures.batch in
    let m = as_many g.U.Value.PartialEq.eq c.laws_of.ensures.values T s.agreed (length c.args.answers) s.change ps (drop (s.agreed + 1) T) w e in
    let n = ap length c.values.ensures in
    let k = length-map c.values.result.now arc_value in
    omega arith

pub invariant_of-self : goal.invariant_of-self
invariant_of-self g c =
    let s = c.self.inside in
    let T = arc_value s.trace in
    let w = wanting g.U.Value.PartialEq.eq c.laws_of.ensures.values (λ d. d.answers) (λ d. d.at) T s.agreed (length c.args.answers) s.change c.args.self.now c.self.view_is c.self.invariant.1 c.requires in
    let ps = c.batch.result.now in
    let e : drop s.agreed T ≡ answered_in ps ∷ drop (s.agreed + 1) T = subst (λ t. drop s.agreed t ≡ answered_in ps ∷ drop (s.agreed + 1) t) c.deref.ensures c.batch.ensures.batch in
    let m = as_many g.U.Value.PartialEq.eq c.laws_of.ensures.values T s.agreed (length c.args.answers) s.change ps (drop (s.agreed + 1) T) w e in
    let n = ap length c.values.ensures in
    let k = length-map c.values.result.now arc_value in
    (c.self.invariant.0, has_change g.U.Value.PartialEq.eq c.laws_of.ensures.values T s.agreed c.in-Some.at ps (drop (s.agreed + 1) T) c.values.result.now c.args.answers e c.values.ensures (omega arith) c.in-Some.ensures.some.0 c.in-Some.ensures.some.1)

pub invariant_of-self-in-Some-2 : goal.invariant_of-self-in-Some-2
invariant_of-self-in-Some-2 g c =
    let s = c.self.inside in
    let T = arc_value s.trace in
    let w = wanting g.U.Value.PartialEq.eq c.laws_of.ensures.values (λ d. d.answers) (λ d. d.at) T s.agreed (length c.args.answers) s.change c.args.self.now c.self.view_is c.self.invariant.1 c.requires in
    let ps = c.batch.result.now in
    let e : drop s.agreed T ≡ answered_in ps ∷ drop (s.agreed + 1) T = subst (λ t. drop s.agreed t ≡ answered_in ps ∷ drop (s.agreed + 1) t) c.deref.ensures c.batch.ensures.batch in
    let m = as_many g.U.Value.PartialEq.eq c.laws_of.ensures.values T s.agreed (length c.args.answers) s.change ps (drop (s.agreed + 1) T) w e in
    let n = ap length c.values.ensures in
    let k = length-map c.values.result.now arc_value in
    (c.self.invariant.0, has_change g.U.Value.PartialEq.eq c.laws_of.ensures.values T s.agreed c.in-Some.at ps (drop (s.agreed + 1) T) c.values.result.now c.args.answers e c.values.ensures (omega arith) c.in-Some.ensures.some.0 c.in-Some.ensures.some.1)

pub invariant_of-self-in-None-found : goal.invariant_of-self-in-None-found
invariant_of-self-in-None-found g c =
    let s = c.self.inside in
    let T = arc_value s.trace in
    let w = wanting g.U.Value.PartialEq.eq c.laws_of.ensures.values (λ d. d.answers) (λ d. d.at) T s.agreed (length c.args.answers) s.change c.args.self.now c.self.view_is c.self.invariant.1 c.requires in
    (let h = w.less in omega arith, subst (λ o. IfSome o (λ d. HasChange g.U.Value.PartialEq.eq (drop (s.agreed + 1) T) d.answers d.at)) (sym w.none) tt)

pub returns-in-Some : goal.returns-in-Some
returns-in-Some g c =
    let s = c.self.inside in
    let T = arc_value s.trace in
    let w = wanting g.U.Value.PartialEq.eq c.laws_of.ensures.values (λ d. d.answers) (λ d. d.at) T s.agreed (length c.args.answers) s.change c.args.self.now c.self.view_is c.self.invariant.1 c.requires in
    let f = fed_more g.U.Value.PartialEq.eq c.laws_of.ensures.values (λ d. d.answers) T s.agreed s.change c.args.self.now c.args.answers c.self.view_is w.none in
    elim c.match-self.branch [ in-Some-1 w ↦ w.self-is ∙ f | in-None-1 w ↦ w.self-is ∙ f ]

pub returns-in-None : goal.returns-in-None
returns-in-None g c =
    let s = c.self.inside in
    let T = arc_value s.trace in
    let w = wanting g.U.Value.PartialEq.eq c.laws_of.ensures.values (λ d. d.answers) (λ d. d.at) T s.agreed (length c.args.answers) s.change c.args.self.now c.self.view_is c.self.invariant.1 c.requires in
    let ps = c.batch.result.now in
    let e : drop s.agreed T ≡ answered_in ps ∷ drop (s.agreed + 1) T = subst (λ t. drop s.agreed t ≡ answered_in ps ∷ drop (s.agreed + 1) t) c.deref.ensures c.batch.ensures.batch in
    let m = as_many g.U.Value.PartialEq.eq c.laws_of.ensures.values T s.agreed (length c.args.answers) s.change ps (drop (s.agreed + 1) T) w e in
    let n = ap length c.values.ensures in
    let k = length-map c.values.result.now arc_value in
    fed_next g.U.Value.PartialEq.eq c.laws_of.ensures.values (λ d. d.answers) T s.agreed s.change c.args.self.now ps (drop (s.agreed + 1) T) c.values.result.now c.args.answers c.self.view_is w.none e c.values.ensures (omega arith) c.in-None.ensures.none
