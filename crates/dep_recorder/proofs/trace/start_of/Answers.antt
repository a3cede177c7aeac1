use Rattle.std.proofs.Common.{◌≡◌, ◌-◌, suc, slice_index_or, arith, subst}
use Rattle.dep_recorder.specs.Recordings.{begins}
use Rattle.dep_recorder.proofs.Parts.{begins_get}
use Rattle.dep_recorder.proofs.trace.start_of.Goals as goal

pub returns-else-at-eq0 : goal.returns-else-at-eq0
returns-else-at-eq0 c =
    let e : suc (c.args.at - 1) ≡ c.args.at = omega arith in
    subst (λ n. slice_index_or c.args.ends.now (c.args.at - 1) 0 ≡ begins 0 c.args.ends.now n) e (begins_get 0 (c.args.at - 1) c.args.ends.now 0 (omega arith))
