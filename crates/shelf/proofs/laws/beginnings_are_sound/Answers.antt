use Rattle.std.proofs.Common.{[], sym, subst}
use Rattle.shelf.specs.Ops.{IsSound}
use Rattle.shelf.proofs.Keeps.{sound_before}
use Rattle.shelf.proofs.laws.beginnings_are_sound.Goals as goal

pub returns : goal.returns
returns g c =
    let eq = g.U.Key.PartialEq.eq in
    let m = g.U.Universe.meaning in
    λ xs ys p sound. sound_before eq m [] xs p.0 (subst (IsSound eq m) (sym p.1) sound)
