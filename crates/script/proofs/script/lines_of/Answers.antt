use Rattle.std.proofs.Common.{◌≡◌, ◌≤◌, ◌+◌, ◌++◌, sym, subst, length, drop, List, arith, rules, option_to_list}
use Rattle.script.specs.declared.line.Line.{Line}
use Rattle.script.specs.Known.{past_of}
use Rattle.script.specs.Taking.{IsBroken, broken_at}
use Rattle.script.specs.declared.script.Broken.{Broken}
use Rattle.script.proofs.Reached.{Reached, step, stopped_by, finished}
use Rattle.script.proofs.script.lines_of.Goals as goal

pub loop-at-preserved : goal.loop-at-preserved
loop-at-preserved c =
    let text = c.args.bytes.now in
    let k : c.keep.new.lines.items ≡ c.loop-at.lines.items ++ option_to_list c.in-Ok.made = search rules in
    record {
      fits = search (rules, arith);
      reached = subst (λ (ls : List Line). Reached text (past_of c.line.new.self) ls (drop (c.loop-at.at + c.in-Ok.taken) text)) (sym k)
          (step text (past_of c.loop-at.known) (past_of c.line.new.self) c.loop-at.lines.items c.loop-at.at c.in-Ok.taken c.in-Ok.made c.loop-at-test.true c.loop-at.invariant.reached c.in-Ok.ensures.taken);
    }

pub returns-in-Err : goal.returns-in-Err
returns-in-Err c =
    let e : c.broken_at.result ≡ broken_at c.loop-at.at c.in-Err.stop = search rules in
    subst (λ (b : Broken). IsBroken c.args.bytes.now b) (sym e)
    (stopped_by c.args.bytes.now (past_of c.loop-at.known) (past_of c.line.new.self) c.loop-at.lines.items c.loop-at.at c.in-Err.stop c.loop-at.invariant.fits c.loop-at.invariant.reached c.in-Err.ensures.taken)

pub returns : goal.returns
returns c =
    let h : length c.args.bytes.now ≤ c.loop-at.at = omega arith in
    (finished c.args.bytes.now (past_of c.loop-at.known) c.loop-at.lines.items c.loop-at.at h c.loop-at.invariant.reached, c.loop-at.invariant.reached.past)
