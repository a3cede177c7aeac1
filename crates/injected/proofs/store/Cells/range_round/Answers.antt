-- The value of a key that was never set stays.
use Rattle.std.proofs.Common.{◌≡◌, ◌∙◌, ℕ, ap, sym, true}
use Rattle.std.specs.Arc.{arc_value}
use Rattle.std.proofs.lemmas.Result.{IfOk-weaker}
use Rattle.version_ranges.specs.Members.{contains}
use Rattle.injected.specs.History.{value_at}
use Rattle.injected.specs.Rounds.{stays}
use Rattle.injected.specs.Seen.{sets_in, cell_at}
use Rattle.injected.proofs.Rounds.{stays_always}
use Rattle.injected.proofs.store.Cells.range_round.Goals as goal

pub returns-in_default : goal.returns-in_default
returns-in_default g c =
    let eq = g.U.Value.PartialEq.eq in
    let k = arc_value c.args.key.now in
    let absent = g.U.Universe.meaning.absent k in
    let at = λ (u : ℕ). cell_at g.U.Key.PartialEq.eq g.U.Universe.meaning c.args.self.now u k in
    let all : (u : ℕ) → at u ≡ absent = λ u. sym (ap (λ o. value_at absent (sets_in o) u) c.in_default.ensures.cell) in
    IfOk-weaker c.always.result (λ r. (w : ℕ) → contains r w ≡ true) (λ r. (w : ℕ) → contains r w ≡ stays eq at c.args.version w)
    (λ r m w. m w ∙ sym (stays_always eq c.laws_of.ensures.values.itself at absent all c.args.version w))
    c.always.ensures.members
