use Rattle.std.proofs.Common.{◌≡◌, ◌++◌, rules}
use Rattle.script_trace.specs.Tracing.{trace_text}
use Rattle.dice_run.proofs.Traced.{trace_of}
use Rattle.dice_run.proofs.driver.Driver.with_trace.Goals as goal

pub returns-clause-traced : goal.returns-clause-traced
returns-clause-traced g c =
    let ls = c.in_ok-lines.lines.items in
    let e : c.trace.new.out.items ≡ c.args.output.items ++ trace_text ls = search rules in
    (trace_text ls, trace_of c.log.new.seat.seen ls c.in_ok-lines.ensures.lines, e)
