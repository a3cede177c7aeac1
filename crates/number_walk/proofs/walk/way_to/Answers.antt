use Rattle.std.proofs.Common.{◌∙◌, slice_get, slice_index_or, sym, ap, subst, List, ℕ, arith}
use Rattle.std.proofs.lemmas.Option.{slice_get-get_or}
use Rattle.number_walk.specs.Reach.{IsTrail}
use Rattle.number_walk.proofs.TrailLemmas.{parent_there, back_more, back_over}
use Rattle.number_walk.proofs.walk.way_to.Goals as goal

pub bounds-met-at : goal.bounds-met-at
bounds-met-at g c =
    let W = g.W.Waits.waits c.args.graph.now in
    let t = subst (λ xs. IsTrail W c.args.goal xs c.as_slice-parents.result.now) (sym c.as_slice-met.ensures.keys) (subst (IsTrail W c.args.goal c.args.trail.now.met.keys) (sym c.as_slice-parents.ensures.value) c.requires.trail) in
    (parent_there W c.args.goal c.as_slice-met.result.now c.as_slice-parents.result.now t c.loop-at.at c.loop-at.invariant.from c.loop-at.invariant.there c.loop-at-test.true).2

pub offset_bounds-met-at : goal.offset_bounds-met-at
offset_bounds-met-at g c =
    let W = g.W.Waits.waits c.args.graph.now in
    let t = subst (λ xs. IsTrail W c.args.goal xs c.as_slice-parents.result.now) (sym c.as_slice-met.ensures.keys) (subst (IsTrail W c.args.goal c.args.trail.now.met.keys) (sym c.as_slice-parents.ensures.value) c.requires.trail) in
    let b = (parent_there W c.args.goal c.as_slice-met.result.now c.as_slice-parents.result.now t c.loop-at.at c.loop-at.invariant.from c.loop-at.invariant.there c.loop-at-test.true).2 in
    omega arith

pub loop-at-smaller : goal.loop-at-smaller
loop-at-smaller g c =
    let W = g.W.Waits.waits c.args.graph.now in
    let t = subst (λ xs. IsTrail W c.args.goal xs c.as_slice-parents.result.now) (sym c.as_slice-met.ensures.keys) (subst (IsTrail W c.args.goal c.args.trail.now.met.keys) (sym c.as_slice-parents.ensures.value) c.requires.trail) in
    (parent_there W c.args.goal c.as_slice-met.result.now c.as_slice-parents.result.now t c.loop-at.at c.loop-at.invariant.from c.loop-at.invariant.there c.loop-at-test.true).0

pub loop-at-preserved : goal.loop-at-preserved
loop-at-preserved g c =
    let W = g.W.Waits.waits c.args.graph.now in
    let met = c.as_slice-met.result.now in
    let parents = c.as_slice-parents.result.now in
    let p = slice_index_or parents c.loop-at.at 0 in
    let t = subst (λ xs. IsTrail W c.args.goal xs parents) (sym c.as_slice-met.ensures.keys) (subst (IsTrail W c.args.goal c.args.trail.now.met.keys) (sym c.as_slice-parents.ensures.value) c.requires.trail) in
    let x = parent_there W c.args.goal met parents t c.loop-at.at c.loop-at.invariant.from c.loop-at.invariant.there c.loop-at-test.true in
    back_more W c.args.goal met parents t c.loop-at.at p (slice_index_or met p 0) c.loop-at.way.items c.push-in-loop-at.new.self.items c.loop-at.invariant c.loop-at-test.true x.3 (slice_get-get_or met p 0 x.2) c.in_ok-push-2.ensures.items

pub returns : goal.returns
returns g c =
    let W = g.W.Waits.waits c.args.graph.now in
    let met = c.as_slice-met.result.now in
    let parents = c.as_slice-parents.result.now in
    let t = subst (λ xs. IsTrail W c.args.goal xs parents) (sym c.as_slice-met.ensures.keys) (subst (IsTrail W c.args.goal c.args.trail.now.met.keys) (sym c.as_slice-parents.ensures.value) c.requires.trail) in
    back_over W c.args.start c.args.goal met parents c.loop-at.way.items c.reverse.new.self.items t (ap (λ (xs : List ℕ). slice_get xs 0) c.as_slice-met.ensures.keys ∙ c.requires.begun) c.loop-at.at c.loop-at-test.false c.loop-at.invariant c.reverse.ensures.items
