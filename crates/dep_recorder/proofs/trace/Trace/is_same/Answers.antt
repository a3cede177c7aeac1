use Rattle.std.proofs.Common.{rules, ◌≡◌, ◌+◌, true, false, sym, ◌∙◌, drop}
use Rattle.dep_recorder.proofs.Sameness.{traces_differ, traces_same}
use Rattle.dep_recorder.proofs.trace.Trace.is_same.Goals as goal

pub returns-then-not-are_same-clause-differs : goal.returns-then-not-are_same-clause-differs
returns-then-not-are_same-clause-differs g c = λ _.
    let r : c.are_same.result ≡ false = search rules in
    traces_differ g.U.Key.PartialEq.eq g.U.Value.PartialEq.eq c.laws_of.ensures.keys c.laws_of.ensures.values c.args.self.now c.args.other.now c.loop-i.i c.batch.result.now c.batch-in-loop-i.result.now (drop (c.loop-i.i + 1) c.args.self.now) (drop (c.loop-i.i + 1) c.args.other.now) c.batch.ensures.batch c.batch-in-loop-i.ensures.batch (sym c.are_same.ensures ∙ r)

pub loop-i-preserved : goal.loop-i-preserved
loop-i-preserved g c =
    let r : c.are_same.result ≡ true = search rules in
    traces_same g.U.Key.PartialEq.eq g.U.Value.PartialEq.eq c.laws_of.ensures.keys c.laws_of.ensures.values c.args.self.now c.args.other.now c.loop-i.i c.batch.result.now c.batch-in-loop-i.result.now (drop (c.loop-i.i + 1) c.args.self.now) (drop (c.loop-i.i + 1) c.args.other.now) c.loop-i.invariant c.batch.ensures.batch c.batch-in-loop-i.ensures.batch (sym c.are_same.ensures ∙ r)
