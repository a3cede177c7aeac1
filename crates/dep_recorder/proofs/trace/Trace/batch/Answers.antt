use Rattle.std.proofs.Common.{◌≡◌, ◌<◌, sym, length, ap, arith, subst}
use Rattle.dep_recorder.specs.Recordings.{keys_in, values_in, parted, RiseTo}
use Rattle.dep_recorder.proofs.Parts.{parted_length, part_of}
use Rattle.dep_recorder.proofs.trace.Trace.batch.Goals as goal

pub part-requires : goal.part-requires
part-requires g c =
    let t = c.self.inside in
    let v : length (parted (keys_in t.pairs.items) (values_in t.pairs.items) 0 t.ends.items) ≡ length c.args.self.now = ap length c.self.view_is in
    let p = parted_length (keys_in t.pairs.items) (values_in t.pairs.items) 0 t.ends.items in
    let l : length c.as_slice.result.now ≡ length t.ends.items = ap length c.as_slice.ensures in
    let h : c.args.at < length c.args.self.now = c.requires in
    let a : RiseTo 0 t.ends.items (length t.pairs.items) = c.self.invariant in
    record {
      rise = subst (λ es. RiseTo 0 es (length c.deref.result.now)) (sym c.as_slice.ensures) (subst (λ ps. RiseTo 0 t.ends.items (length ps)) (sym c.deref.ensures.value) a);
      within = omega arith;
    }

pub returns-clause-batch : goal.returns-clause-batch
returns-clause-batch g c =
    let t = c.self.inside in
    let v : parted (keys_in t.pairs.items) (values_in t.pairs.items) 0 t.ends.items ≡ c.args.self.now = c.self.view_is in
    let p = parted_length (keys_in t.pairs.items) (values_in t.pairs.items) 0 t.ends.items in
    let l = ap length v in
    let h : c.args.at < length c.args.self.now = c.requires in
    part_of t.pairs.items c.deref.result.now c.part.result.now t.ends.items c.as_slice.result.now c.args.at c.args.self.now v c.deref.ensures.value c.as_slice.ensures c.part.ensures.part (omega arith)

pub returns-clause-room : goal.returns-clause-room
returns-clause-room g c =
    let t = c.self.inside in
    let v : length (parted (keys_in t.pairs.items) (values_in t.pairs.items) 0 t.ends.items) ≡ length c.args.self.now = ap length c.self.view_is in
    let p = parted_length (keys_in t.pairs.items) (values_in t.pairs.items) 0 t.ends.items in
    let l : length c.as_slice.result.now ≡ length t.ends.items = ap length c.as_slice.ensures in
    let h : c.args.at < length c.args.self.now = c.requires in
    let b = c.as_slice.type_inv.0 in
    omega arith
