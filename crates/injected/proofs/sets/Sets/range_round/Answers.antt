-- The sets round a version that name the number of its value.
use Rattle.std.proofs.Common.{◌≡◌, ◌<◌, ◌∙◌, ◌-◌, ℕ, ap, sym, subst, get_or, Some}
use Rattle.std.specs.Arc.{arc_value}
use Rattle.std.proofs.lemmas.Result.{IfOk-weaker}
use Rattle.version_ranges.specs.Members.{contains, is_in}
use Rattle.injected.specs.History.{value_at, IsRising}
use Rattle.injected.specs.Numbers.{sets_of, tests, AreBegun}
use Rattle.version_ranges.specs.Rounds.{all_between}
use Rattle.injected.specs.Rounds.{stays}
use Rattle.injected.proofs.Lookups.{agrees}
use Rattle.injected.proofs.Numbered.{rising_numbers, tests_value, value_of_begun, number_of_begun}
use Rattle.injected.proofs.Rounds.{ends_above}
use Rattle.injected.proofs.sets.Sets.range_round.Goals as goal

pub begun_by-begun-requires : goal.begun_by-begun-requires
begun_by-begun-requires g c =
    let rising : IsRising (sets_of c.self.inside.values.keys c.self.inside.sets.items) = subst (λ s. IsRising s.sets) (sym c.self.view_is) c.requires.rising in
    subst IsRising (sym c.deref-3.ensures.value) (rising_numbers c.self.inside.values.keys c.self.inside.sets.items c.self.invariant.named rising)

pub range_of-requires-clause-rising : goal.range_of-requires-clause-rising
range_of-requires-clause-rising g c =
    let rising : IsRising (sets_of c.self.inside.values.keys c.self.inside.sets.items) = subst (λ s. IsRising s.sets) (sym c.self.view_is) c.requires.rising in
    subst IsRising (sym c.deref-5.ensures.value) (rising_numbers c.self.inside.values.keys c.self.inside.sets.items c.self.invariant.named rising)

pub range_of-requires-clause-none : goal.range_of-requires-clause-none
range_of-requires-clause-none g c = λ e.
    let eq = g.V.PartialEq.eq in
    let xs = c.self.inside.values.keys in
    let ss = c.self.inside.sets.items in
    let v = c.args.version in
    let a = arc_value c.args.absent.now in
    let k = c.begun_by-begun.result in
    let rising : IsRising (sets_of xs ss) = subst (λ s. IsRising s.sets) (sym c.self.view_is) c.requires.rising in
    let begun : AreBegun v ss k = subst (λ us. AreBegun v us k) c.deref-3.ensures.value c.begun_by-begun.ensures in
    let at : arc_value c.at.result.now ≡ value_at a (sets_of xs ss) v = c.at.ensures ∙ sym (ap (λ s. value_at a s.sets v) c.self.view_is) in
    let first : c.eq-first.result ≡ eq a (arc_value c.at.result.now) = cc in
    first ∙ (ap (eq a) (at ∙ sym (value_of_begun xs ss c.self.invariant.named rising a v k begun e)) ∙ c.requires.laws.itself a)

pub one_range-requires : goal.one_range-requires
one_range-requires g c =
    let v = c.args.version in
    let begun : AreBegun v c.deref-5.result.now c.begun_by-begun.result = subst (λ us. AreBegun v us c.begun_by-begun.result) (c.deref-3.ensures.value ∙ sym c.deref-5.ensures.value) c.begun_by-begun.ensures in
    ends_above c.range_of.result v (c.range_of.ensures.here v begun)

pub returns : goal.returns
returns g c =
    let eq = g.V.PartialEq.eq in
    let xs = c.self.inside.values.keys in
    let ss = c.self.inside.sets.items in
    let v = c.args.version in
    let a = arc_value c.args.absent.now in
    let k = c.begun_by-begun.result in
    let o = c.number_after-number.result in
    let q = c.range_of.result in
    let rising : IsRising (sets_of xs ss) = subst (λ s. IsRising s.sets) (sym c.self.view_is) c.requires.rising in
    let begun : AreBegun v ss k = subst (λ us. AreBegun v us k) c.deref-3.ensures.value c.begun_by-begun.ensures in
    let wanted = value_at a (sets_of xs ss) v in
    let at : arc_value c.at.result.now ≡ wanted = c.at.ensures ∙ sym (ap (λ s. value_at a s.sets v) c.self.view_is) in
    let first : c.eq-first.result ≡ eq a wanted = (let f : c.eq-first.result ≡ eq a (arc_value c.at.result.now) = cc in f ∙ ap (eq a) at) in
    let last = λ (d : ℕ × ℕ) (p : 0 < k). subst (λ us. o ≡ Some (get_or us (k - 1) d).1) c.deref-4.ensures.value (c.number_after-number.ensures.last d p) in
    let number = number_of_begun xs ss c.self.invariant.named rising a v k begun eq c.requires.laws c.self.invariant.distinct o c.number_after-number.ensures.none last in
    let agree = agrees eq c.requires.laws wanted xs o number c.self.invariant.distinct in
    let same : (u : ℕ) → value_at c.eq-first.result (tests o ss) u ≡ eq (value_at a (sets_of xs ss) u) wanted = λ u. ap (λ b. value_at b (tests o ss) u) first ∙ tests_value xs o (λ x. eq x wanted) agree a ss u c.self.invariant.named in
    let places : AreBegun v c.deref-5.result.now k = subst (λ us. AreBegun v us k) (sym c.deref-5.ensures.value) begun in
    let members : (w : ℕ) → is_in q w ≡ stays eq (value_at a c.args.self.now.sets) v w = λ w.
    c.range_of.ensures.members v places w
    ∙ (ap (λ us. all_between (value_at c.eq-first.result (tests o us)) v w) c.deref-5.ensures.value
    ∙ ((λ i. all_between (λ u. same u i) v w) ∙ ap (λ s. stays eq (value_at a s.sets) v w) c.self.view_is)) in
    IfOk-weaker c.one_range.result (λ r. (w : ℕ) → contains r w ≡ is_in q w) (λ r. (w : ℕ) → contains r w ≡ stays eq (value_at a c.args.self.now.sets) v w)
    (λ r m w. m w ∙ members w)
    c.one_range.ensures
