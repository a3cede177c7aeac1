use Rattle.std.proofs.Common.{◌≡◌, ◌+◌, take, drop, rules}
use Rattle.script.specs.Known.{past_of}
use Rattle.script.proofs.Taken.{put_taken}
use Rattle.script.proofs.known.Known.put.Goals as goal

pub returns-clause-taken : goal.returns-clause-taken
returns-clause-taken c =
    let e : c.in_ok-bytes.bytes ≡ take c.in_ok-path.count c.args.behind.now = search rules in
    let d : drop c.past_byte-taken.result c.args.behind.now ≡ drop (c.in_ok-path.count + 1) c.args.behind.now = search rules in
    put_taken (past_of c.args.self.now) _ c.args.path.now c.args.number.now c.args.behind.now c.in_ok-path.path c.in_ok-bytes.bytes c.in_ok-path.count c.past_byte-taken.result c.in_ok-path.ensures.tested e d
    c.in_ok-path.ensures.noted
