use Rattle.std.proofs.Common.{slice_index_or, refl, arith}
use Rattle.number_walk.proofs.AllLemmas.{inserted, noted_none, noted_more, noted_all}
use Rattle.number_walk.proofs.walk.note_all.Goals as goal

pub loop-awaited-init : goal.loop-awaited-init
loop-awaited-init g c = noted_none _ _

pub loop-awaited-preserved : goal.loop-awaited-preserved
loop-awaited-preserved g c =
    let ws = c.waits_of-awaited-items.result.now in
    let i = c.loop-awaited.awaited-index in
    let n = slice_index_or ws i 0 in
    noted_more ws c.args.met.now.keys c.loop-awaited.met.keys c.insert.new.self.keys i n c.loop-awaited.invariant (omega (arith, c.loop-awaited-test.true)) refl
    (inserted n c.loop-awaited.met.keys c.insert.new.self.keys c.in_ok-insert.ensures.keys)

pub returns : goal.returns
returns g c =
    noted_all (g.W.Waits.waits c.args.graph.now c.args.number) c.waits_of-awaited-items.result.now c.args.met.now.keys c.loop-awaited.met.keys c.loop-awaited.awaited-index c.waits_of-awaited-items.ensures c.loop-awaited.invariant (omega (arith, c.loop-awaited-test.false))
