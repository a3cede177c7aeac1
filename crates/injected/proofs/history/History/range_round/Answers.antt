-- Without a set all versions have the absent value; a single set splits them.
use Rattle.std.proofs.Common.{◌≡◌, ◌∙◌, ℕ, ap, sym, true}
use Rattle.std.specs.Arc.{arc_value}
use Rattle.std.proofs.lemmas.Result.{IfOk-weaker}
use Rattle.version_ranges.specs.Members.{contains, is_in}
use Rattle.injected.specs.History.{value_at}
use Rattle.injected.specs.Kept.{cell_in}
use Rattle.injected.specs.Rounds.{stays}
use Rattle.injected.proofs.Singles.{never_set}
use Rattle.injected.proofs.history.History.range_round.Goals as goal

pub returns-in-Empty : goal.returns-in-Empty
returns-in-Empty g c =
    let eq = g.V.PartialEq.eq in
    let a = arc_value c.args.absent.now in
    let v = c.args.version in
    let same = sym (ap cell_in c.in-Empty.is) ∙ c.self.view_is in
    IfOk-weaker c.always.result (λ r. (w : ℕ) → contains r w ≡ true) (λ r. (w : ℕ) → contains r w ≡ stays eq (value_at a c.args.self.now.sets) v w)
    (λ r m w. m w ∙ (sym (never_set eq c.requires.laws a v w) ∙ ap (λ s. stays eq (value_at a s.sets) v w) same))
    c.always.ensures.members

pub returns-in-Single : goal.returns-in-Single
returns-in-Single g c =
    let eq = g.V.PartialEq.eq in
    let a = arc_value c.args.absent.now in
    let v = c.args.version in
    let q = c.side_of.result in
    let same = sym (ap cell_in c.in-Single.is) ∙ c.self.view_is in
    IfOk-weaker c.one_range.result (λ r. (w : ℕ) → contains r w ≡ is_in q w) (λ r. (w : ℕ) → contains r w ≡ stays eq (value_at a c.args.self.now.sets) v w)
    (λ r m w. m w ∙ (c.side_of.ensures.members w ∙ ap (λ s. stays eq (value_at a s.sets) v w) same))
    c.one_range.ensures
