use Rattle.std.proofs.Common.{◌≡◌, ◌+◌, suc, get_or, arith, subst}
use Rattle.dep_recorder.specs.Recordings.{begins}
use Rattle.dep_recorder.proofs.Parts.{begins_get, rise_at}
use Rattle.dep_recorder.proofs.trace.bounds.Goals as goal

pub returns : goal.returns
returns c =
    let ends = c.args.ends.now in
    let at = c.args.at in
    let n : suc at ≡ at + 1 = omega arith in
    let e : get_or ends at 0 ≡ begins 0 ends (suc at) = begins_get 0 at ends 0 c.requires.within in
    let s : c.start_of.result ≡ begins 0 ends at = c.start_of.ensures in
    let r = rise_at 0 c.args.len at ends c.requires.rise c.requires.within in
    record {
      start = s;
      end = subst (λ i. get_or ends at 0 ≡ begins 0 ends i) n e;
      some = let a = r.0 in omega arith;
      within = let a = r.1 in omega arith;
    }
