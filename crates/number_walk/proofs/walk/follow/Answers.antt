use Rattle.std.proofs.Common.{slice_index_or, List, ℕ, sym, subst, arith}
use Rattle.std.proofs.lemmas.Option.{slice_get_within}
use Rattle.lists.specs.Lists.{Has}
use Rattle.number_walk.proofs.TrailLemmas.{wait_there, waited_there, noted, done_on, got_has, grows_on}
use Rattle.number_walk.proofs.walk.follow.Goals as goal

pub returns-then-wait-goal-clause-met : goal.returns-then-wait-goal-clause-met
returns-then-wait-goal-clause-met g c _ =
    let ws = c.waits_of-wait-items.result.now in
    wait_there (g.W.Waits.waits c.args.graph.now) ws c.loop-wait.wait-index c.args.number c.args.goal c.waits_of-wait-items.ensures (omega (arith, c.loop-wait-test.true)) (omega (arith, c.if-wait-goal.true))

pub loop-wait-preserved : goal.loop-wait-preserved
loop-wait-preserved g c =
    let W = g.W.Waits.waits c.args.graph.now in
    let ws = c.waits_of-wait-items.result.now in
    let i = c.loop-wait.wait-index in
    let m = slice_index_or ws i 0 in
    let met = c.loop-wait.trail.met.keys in
    let n = noted W c.args.goal m c.args.head met c.loop-wait.trail.parents.items c.loop-wait.invariant.trail c.if-wait-goal.false (waited_there W ws c.args.trail.now.met.keys met i c.args.number c.args.head c.waits_of-wait-items.ensures (omega (arith, c.loop-wait-test.true)) c.loop-wait.invariant.grows c.requires.there) c.note.new.self.met.keys c.note.new.self.parents.items c.in_ok-note.ensures in record {
      trail = n.trail;
      grows = grows_on c.args.trail.now.met.keys met c.note.new.self.met.keys c.loop-wait.invariant.grows n.grows;
      done = done_on ws met c.note.new.self.met.keys i 0 (omega (arith, c.loop-wait-test.true)) c.loop-wait.invariant.done n.grows n.has;
    }

pub returns-clause-followed : goal.returns-clause-followed
returns-clause-followed g c _ m h =
    let ws = c.waits_of-wait-items.result.now in
    let r = got_has ws m (subst (λ (xs : List ℕ). Has xs m) (sym c.waits_of-wait-items.ensures) h) in
    c.loop-wait.invariant.done r.0 m (let w = slice_get_within ws r.0 m r.1 in omega (arith, c.loop-wait-test.false)) r.1
