-- Room that is made leaves the sets as they were.
use Rattle.std.proofs.Common.{◌≡◌, ◌++◌, ◌∷◌, ◌∙◌, [], cond, ap}
use Rattle.std.specs.Arc.{arc_value}
use Rattle.injected.specs.Seen.{sets_at}
use Rattle.injected.proofs.store.Cells.set.Goals as goal
use Rattle.injected.proofs.store.Cells.set.Goals.{then-not-has_room+in_ok-try_clone+in_ok-reserve, else-not-has_room}

pub returns-clause-sets : goal.returns-clause-sets
returns-clause-sets g c = λ q.
    let eq = g.U.Key.PartialEq.eq in
    let x = arc_value c.args.value in
    let between : sets_at eq c.if-not-has_room.self q ≡ sets_at eq c.args.self.now q = elim c.if-not-has_room.branch as (λ _. sets_at eq c.if-not-has_room.self q ≡ sets_at eq c.args.self.now q) [
      | then-not-has_room+in_ok-try_clone+in_ok-reserve w ↦ ap (λ s. sets_at eq s q) w.self-is ∙ w.reserve.ensures.sets q
      | else-not-has_room w ↦ ap (λ s. sets_at eq s q) w.self-is
    ] in
    c.write.ensures.sets q ∙ ap (λ h. cond (eq (arc_value c.args.key) q) (h ++ (c.args.version, x) ∷ []) h) between
