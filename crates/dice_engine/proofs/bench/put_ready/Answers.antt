use Rattle.std.proofs.Common.{◌≡◌, ◌<◌, ◌≤◌, ◌^◌, length, ap, sym, subst, arith}
use Rattle.dice_core.specs.Cores.{TakesOut}
use Rattle.dice_engine.specs.Jobs.{KeepsRest}
use Rattle.dice_engine.proofs.Lining.{lining_begins, lining_more, lined_all, lined_full, lined_back, out_is_out, came_back}
use Rattle.dice_engine.proofs.bench.put_ready.Goals as goal

pub loop-init : goal.loop-init
loop-init g c = lining_begins g.U.Key.PartialEq.eq g.U.Universe.meaning c.args.putter.now c.args.core.now

pub returns-then-puts-ge-MOST_PUTS : goal.returns-then-puts-ge-MOST_PUTS
returns-then-puts-ge-MOST_PUTS g c =
    let before : c.loop.counter < length c.args.core.now.desk.ready = (let a = c.loop-test.true in let b = c.ready-end.ensures in omega arith) in
    let many : 2 ^ 62 ≤ length c.loop.putter.puts = (let a = c.if-puts-ge-MOST_PUTS.true in let b = c.puts.ensures in omega arith) in
    lined_full g.U.Key.PartialEq.eq g.U.Universe.meaning c.args.putter.now c.args.core.now c.loop.counter c.loop.putter c.loop.core c.loop.invariant before many

pub unreachable-requires : goal.unreachable-requires
unreachable-requires g c =
    let none : length c.loop.core.desk.ready ≡ 0 = ap length c.in_default.ensures.none.0 in
    let count = c.loop.invariant.count in
    let a = c.loop-test.true in
    let b = c.ready-end.ensures in
    omega arith

pub returns-in-Err : goal.returns-in-Err
returns-in-Err g c =
    let eq = g.U.Key.PartialEq.eq in
    let before : c.loop.counter < length c.args.core.now.desk.ready = (let a = c.loop-test.true in let b = c.ready-end.ensures in omega arith) in
    let d = c.loop.core in
    let e = c.take_job.new.self in
    let f = c.back.new.self in
    let j = c.in-Err.job in
    let out : TakesOut eq j d e = subst (λ x. TakesOut eq x d e) (sym c.in-Err.ensures.refused.0) c.in-Some.ensures.some in
    let there : KeepsRest d e = (c.in-Some.ensures.events, c.in-Some.ensures.rest.0, c.in-Some.ensures.rest.1, c.in-Some.ensures.rest.2) in
    let here : KeepsRest e f = (c.back.ensures.events, c.back.ensures.rest.0, c.back.ensures.rest.1, c.back.ensures.rest.2) in
    let back : TakesOut eq j f e = came_back eq c.back.result j e f c.back.ensures.other c.back.ensures.back (out_is_out eq c.laws_of.ensures.keys j d e out) in
    lined_back eq g.U.Universe.meaning c.args.putter.now c.args.core.now c.loop.counter c.loop.putter c.put.new.putter d e f j c.loop.invariant before c.in-Err.ensures.refused.1 out back there here

pub loop-preserved : goal.loop-preserved
loop-preserved g c =
    lining_more g.U.Key.PartialEq.eq g.U.Universe.meaning c.args.putter.now c.args.core.now c.loop.counter c.loop.putter c.put.new.putter c.loop.core c.take_job.new.self c.in-Some.job c.loop.invariant
    c.in-Some.ensures.some (c.in-Some.ensures.events, c.in-Some.ensures.rest.0, c.in-Some.ensures.rest.1, c.in-Some.ensures.rest.2) c.in-Some.ensures.answered c.in_default-put.ensures.put

pub returns : goal.returns
returns g c =
    lined_all g.U.Key.PartialEq.eq g.U.Universe.meaning c.args.putter.now c.args.core.now c.loop.counter c.loop.putter c.loop.core c.loop.invariant
    (let a = c.loop-test.false in let b = c.loop.auto.counter-end in let d = c.ready-end.ensures in omega arith)
