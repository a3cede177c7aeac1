use Rattle.std.proofs.Common.{sym, arith}
use Rattle.std.proofs.lemmas.Option.{slice_get_within}
use Rattle.number_walk.proofs.TrailLemmas.{few_met, never, followed_on, way_leads, longer, past, still_got}
use Rattle.number_walk.proofs.walk.way.Goals as goal

pub returns-then-branch-clause-some : goal.returns-then-branch-clause-some
returns-then-branch-clause-some g c = way_leads (g.W.Waits.waits c.args.graph.now) c.args.start c.args.goal c.in_ok-way_to.field-0.items c.in_ok-way_to.ensures

pub loop-number-smaller : goal.loop-number-smaller
loop-number-smaller g c =
    let i = c.loop-number.invariant in
    let met = c.loop-number.trail.met.keys in
    let f = few_met (g.W.Waits.waits c.args.graph.now) c.args.start c.args.goal (g.W.Waits.count c.args.graph.now) met c.loop-number.trail.parents.items i.trail i.begun c.requires.below c.requires.start in
    let w = slice_get_within met c.loop-number.head c.in-Some.number.now (sym c.in-Some.ensures.key) in
    omega arith

pub loop-number-preserved : goal.loop-number-preserved
loop-number-preserved g c =
    let W = g.W.Waits.waits c.args.graph.now in
    let i = c.loop-number.invariant in
    let old = c.loop-number.trail.met.keys in
    let new = c.follow.new.trail.met.keys in
    let n = c.in-Some.number.now in
    let e = c.in_ok-follow.ensures in record {
      trail = e.trail;
      begun = still_got old new 0 c.args.start e.grows i.begun;
      followed = followed_on W old new c.loop-number.head n i.followed e.grows (sym c.in-Some.ensures.key) (e.followed c.if-branch.false);
      within = longer old new c.loop-number.head n e.grows (sym c.in-Some.ensures.key);
    }

pub returns-clause-none : goal.returns-clause-none
returns-clause-none g c =
    let i = c.loop-number.invariant in
    never (g.W.Waits.waits c.args.graph.now) c.args.start c.args.goal c.loop-number.trail.met.keys c.loop-number.trail.parents.items c.loop-number.head i.trail i.begun i.followed (past c.loop-number.trail.met.keys c.loop-number.head (sym c.in_default.ensures.key))
