use Rattle.std.proofs.Common.{◌<◌, length, arith, ap, ◌∙◌}
use Rattle.std.specs.Arc.{arc_value}
use Rattle.std.proofs.lemmas.List.{length-map, take_all}
use Rattle.dep_recorder.specs.Recordings.{keys_in}
use Rattle.dep_recorder.proofs.check.copied_keys.Goals as goal

pub from_keys-requires : goal.from_keys-requires
from_keys-requires g c =
    let e = c.loop-key.invariant ∙ ap keys_in (take_all c.loop-key.key-index c.args.wanted.now c.loop-key-test.false) in
    let n = ap length e in
    let a = length-map c.loop-key.keys.items arc_value in
    let b = length-map c.args.wanted.now (λ p. arc_value p.0) in
    let h : 0 < length c.args.wanted.now = c.requires in
    omega arith
