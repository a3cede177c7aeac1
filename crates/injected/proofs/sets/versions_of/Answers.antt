-- Each set ends the versions of the number before it.
use Rattle.std.proofs.Common.{◌≡◌, ◌+◌, ◌∷◌, sym, subst, drop, get_or, nat_eq, Some, arith}
use Rattle.std.specs.Option.{option_eq}
use Rattle.std.proofs.lemmas.List.{drop_more, drop_all}
use Rattle.injected.specs.Numbers.{tests}
use Rattle.injected.proofs.Walks.{Walked, start, step, walked_members, walked_tail}
use Rattle.injected.proofs.Numbered.{rising_tests}
use Rattle.injected.proofs.sets.versions_of.Goals as goal

pub loop-version-init : goal.loop-version-init
loop-version-init c =
    let h = tests c.args.number c.args.sets.now in
    subst (λ r. Walked c.args.first h r 0 c.args.first h) (sym c.new-ranges.ensures) (start c.args.first h (rising_tests c.args.number c.args.sets.now c.requires))

pub loop-version-preserved : goal.loop-version-preserved
loop-version-preserved c =
    let n = c.args.number in
    let ss = c.args.sets.now in
    let i = c.loop-version.version-index in
    let s = get_or ss i (0, 0) in
    let e : drop i ss ≡ s ∷ drop (i + 1) ss = drop_more ss i (0, 0) c.loop-version-test.true in
    let k : Walked c.args.first (tests n ss) c.loop-version.ranges c.loop-version.from c.loop-version.belongs (tests n (s ∷ drop (i + 1) ss)) = subst (λ ts. Walked c.args.first (tests n ss) c.loop-version.ranges c.loop-version.from c.loop-version.belongs (tests n ts)) e c.loop-version.invariant in
    subst (λ b. Walked c.args.first (tests n ss) c.add_if.new.ranges s.0 b (tests n (drop (i + 1) ss))) (sym c.eq-belongs.ensures)
    (step c.args.first (tests n ss) c.loop-version.ranges c.add_if.new.ranges c.loop-version.from c.loop-version.belongs (s.0, option_eq nat_eq n (Some s.1)) (tests n (drop (i + 1) ss)) k c.in_ok-add_if.ensures)

pub returns-clause-members : goal.returns-clause-members
returns-clause-members c =
    let n = c.args.number in
    let ss = c.args.sets.now in
    let k = subst (λ ts. Walked c.args.first (tests n ss) c.loop-version.ranges c.loop-version.from c.loop-version.belongs (tests n ts)) (drop_all c.loop-version.version-index ss (omega arith)) c.loop-version.invariant in
    walked_members c.args.first (tests n ss) c.loop-version.ranges c.add_if-2.new.ranges c.loop-version.from c.loop-version.belongs k c.in_ok-add_if-2.ensures

pub returns-clause-tail : goal.returns-clause-tail
returns-clause-tail c =
    let n = c.args.number in
    let ss = c.args.sets.now in
    let k = subst (λ ts. Walked c.args.first (tests n ss) c.loop-version.ranges c.loop-version.from c.loop-version.belongs (tests n ts)) (drop_all c.loop-version.version-index ss (omega arith)) c.loop-version.invariant in
    walked_tail c.args.first (tests n ss) c.loop-version.ranges c.add_if-2.new.ranges c.loop-version.from c.loop-version.belongs k
    (walked_members c.args.first (tests n ss) c.loop-version.ranges c.add_if-2.new.ranges c.loop-version.from c.loop-version.belongs k c.in_ok-add_if-2.ensures)
    c.open_has_a_tail.ensures
