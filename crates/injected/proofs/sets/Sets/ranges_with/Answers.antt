-- The numbers are those of the wanted value if the values are.
use Rattle.std.proofs.Common.{◌≡◌, ◌∙◌, ℕ, ap, sym, subst}
use Rattle.std.specs.Arc.{arc_value}
use Rattle.std.proofs.lemmas.Result.{IfOk-weaker}
use Rattle.version_ranges.specs.Members.{contains, is_open}
use Rattle.injected.specs.History.{value_at, newest_of, IsRising}
use Rattle.injected.specs.Numbers.{sets_of, tests}
use Rattle.injected.proofs.Numbered.{rising_numbers, tests_value, tests_newest}
use Rattle.injected.proofs.Lookups.{agrees}
use Rattle.injected.proofs.sets.Sets.ranges_with.Goals as goal

pub versions_of-requires : goal.versions_of-requires
versions_of-requires g c =
    let rising : IsRising (sets_of c.self.inside.values.keys c.self.inside.sets.items) = subst (λ s. IsRising s.sets) (sym c.self.view_is) c.requires.rising in
    subst IsRising (sym c.deref-3.ensures.value) (rising_numbers c.self.inside.values.keys c.self.inside.sets.items c.self.invariant.named rising)

pub returns-clause-members : goal.returns-clause-members
returns-clause-members g c =
    let eq = g.V.PartialEq.eq in
    let xs = c.self.inside.values.keys in
    let ss = c.self.inside.sets.items in
    let a = arc_value c.args.absent.now in
    let wanted = arc_value c.args.wanted.now in
    let o = c.get_index_of-number.result in
    let first : c.eq-first.result ≡ eq a wanted = cc in
    let agree = agrees eq c.requires.laws wanted xs o c.get_index_of-number.ensures.index c.self.invariant.distinct in
    IfOk-weaker c.versions_of.result (λ r. (w : ℕ) → contains r w ≡ value_at c.eq-first.result (tests o c.deref-3.result.now) w) (λ r. (w : ℕ) → contains r w ≡ eq (value_at a c.args.self.now.sets w) wanted)
    (λ r m w. m w ∙ (ap (λ b. value_at b (tests o c.deref-3.result.now) w) first ∙ (ap (λ ts. value_at (eq a wanted) (tests o ts) w) c.deref-3.ensures.value ∙ (tests_value xs o (λ x. eq x wanted) agree a ss w c.self.invariant.named ∙ ap (λ s. eq (value_at a s.sets w) wanted) c.self.view_is))))
    c.versions_of.ensures.members

pub returns-clause-tail : goal.returns-clause-tail
returns-clause-tail g c =
    let eq = g.V.PartialEq.eq in
    let xs = c.self.inside.values.keys in
    let ss = c.self.inside.sets.items in
    let a = arc_value c.args.absent.now in
    let wanted = arc_value c.args.wanted.now in
    let o = c.get_index_of-number.result in
    let first : c.eq-first.result ≡ eq a wanted = cc in
    let agree = agrees eq c.requires.laws wanted xs o c.get_index_of-number.ensures.index c.self.invariant.distinct in
    IfOk-weaker c.versions_of.result (λ r. is_open r ≡ newest_of c.eq-first.result (tests o c.deref-3.result.now)) (λ r. is_open r ≡ eq (newest_of a c.args.self.now.sets) wanted)
    (λ r m. m ∙ (ap (λ b. newest_of b (tests o c.deref-3.result.now)) first ∙ (ap (λ ts. newest_of (eq a wanted) (tests o ts)) c.deref-3.ensures.value ∙ (tests_newest xs o (λ x. eq x wanted) agree a ss c.self.invariant.named ∙ ap (λ s. eq (newest_of a s.sets) wanted) c.self.view_is))))
    c.versions_of.ensures.tail
