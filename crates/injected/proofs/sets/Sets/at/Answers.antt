-- The last set at or below the version names the value.
use Rattle.std.proofs.Common.{◌≡◌, ◌<◌, ◌∙◌, ◌-◌, ap, sym, subst, length, get_or, slice_get, Some, arith}
use Rattle.std.specs.Arc.{arc_value}
use Rattle.injected.specs.History.{value_at, IsRising}
use Rattle.injected.specs.Numbers.{sets_of, AreBegun}
use Rattle.injected.proofs.Numbered.{rising_numbers, numbered_at, value_of_begun, value_of_last}
use Rattle.injected.proofs.sets.Sets.at.Goals as goal

pub begun_by-count-requires : goal.begun_by-count-requires
begun_by-count-requires g c =
    let rising : IsRising (sets_of c.self.inside.values.keys c.self.inside.sets.items) = subst (λ s. IsRising s.sets) (sym c.self.view_is) c.requires in
    subst IsRising (sym c.deref.ensures.value) (rising_numbers c.self.inside.values.keys c.self.inside.sets.items c.self.invariant.named rising)

pub returns-then-count-eq0 : goal.returns-then-count-eq0
returns-then-count-eq0 g c =
    let xs = c.self.inside.values.keys in
    let ss = c.self.inside.sets.items in
    let v = c.args.version in
    let a = arc_value c.args.absent.now in
    let rising : IsRising (sets_of xs ss) = subst (λ s. IsRising s.sets) (sym c.self.view_is) c.requires in
    let begun : AreBegun v ss c.begun_by-count.result = subst (λ us. AreBegun v us c.begun_by-count.result) c.deref.ensures.value c.begun_by-count.ensures in
    value_of_begun xs ss c.self.invariant.named rising a v c.begun_by-count.result begun (omega arith) ∙ ap (λ s. value_at a s.sets v) c.self.view_is

pub index-requires-2 : goal.index-requires-2
index-requires-2 g c =
    let ss = c.self.inside.sets.items in
    let d = c.index.result.now in
    let begun : AreBegun c.args.version ss c.begun_by-count.result = subst (λ us. AreBegun c.args.version us c.begun_by-count.result) c.deref.ensures.value c.begun_by-count.ensures in
    subst (λ s. s.1 < length c.self.inside.values.keys) (sym c.index.ensures) (numbered_at c.self.inside.values.keys ss c.self.invariant.named (c.begun_by-count.result - 1) d (let l = begun.bound in omega arith))

pub returns : goal.returns
returns g c =
    let xs = c.self.inside.values.keys in
    let ss = c.self.inside.sets.items in
    let v = c.args.version in
    let a = arc_value c.args.absent.now in
    let k = c.begun_by-count.result in
    let d = c.index.result.now in
    let rising : IsRising (sets_of xs ss) = subst (λ s. IsRising s.sets) (sym c.self.view_is) c.requires in
    let begun : AreBegun v ss k = subst (λ us. AreBegun v us k) c.deref.ensures.value c.begun_by-count.ensures in
    let named : slice_get xs (get_or ss (k - 1) d).1 ≡ Some c.index-2.result.now = subst (λ s. slice_get xs s.1 ≡ Some c.index-2.result.now) c.index.ensures c.index-2.ensures in
    value_of_last xs a ss k v d c.index-2.result.now c.self.invariant.named rising (omega arith) begun.bound (begun.low d (omega arith)) (begun.high d) named ∙ ap (λ s. value_at a s.sets v) c.self.view_is
