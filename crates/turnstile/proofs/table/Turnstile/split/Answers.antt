use Rattle.std.proofs.Common.{rules, ℕ, ◌-◌, ◌<◌, ap, sym, subst, arith}
use Rattle.turnstile.specs.Seats.{spare}
use Rattle.turnstile.proofs.Keeps.{splits}
use Rattle.turnstile.proofs.table.Turnstile.split.Goals as goal

pub split_seat-new-requires : goal.split_seat-new-requires
split_seat-new-requires g c =
    let e = ap spare c.lift-raw.ensures.view in
    let left : 0 < c.lift-raw.result.0.me.0.spare_end - c.lift-raw.result.0.me.0.spare_start = subst (λ (n : ℕ). 0 < n) (sym e) c.requires.spare in
    (search rules, search rules, splits g.S.Tale.list g.S.Tale.by g.S.Tale.version g.S.Tale.mark _ _ _ _ c.lift-raw.ensures.free.0 (omega arith))
