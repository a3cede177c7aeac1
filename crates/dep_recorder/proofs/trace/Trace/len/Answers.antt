use Rattle.std.proofs.Common.{◌≡◌, length, ap, arith}
use Rattle.dep_recorder.specs.Recordings.{keys_in, values_in, parted}
use Rattle.dep_recorder.proofs.Parts.{parted_length}
use Rattle.dep_recorder.proofs.trace.Trace.len.Goals as goal

pub returns : goal.returns
returns g c =
    let t = c.self.inside in
    let e : length (parted (keys_in t.pairs.items) (values_in t.pairs.items) 0 t.ends.items) ≡ length c.args.self.now = ap length c.self.view_is in
    let p = parted_length (keys_in t.pairs.items) (values_in t.pairs.items) 0 t.ends.items in
    omega (arith, c.len.ensures, p, e)
