-- A single member comes into a list, a list takes one more, or all of it comes into a hash set.
use Rattle.std.proofs.Common.{◌≡◌, ◌++◌, ◌∷◌, [], false, subst, sym, ap, ◌∙◌, if◌then◌else◌, rules}
use Rattle.std.specs.List.{list_any, IsDistinct}
use Rattle.std.proofs.lemmas.Map.Keys.{IsDistinct-push}
use Rattle.indexmap.specs.IndexSet.{insert_key}
use Rattle.small_set.specs.Members.{members_in, AreKept}
use Rattle.small_set.proofs.Distinct.{distinct_one, one_more, updated}
use Rattle.small_set.proofs.set.SmallSet.insert.Goals as goal

pub invariant_of-self-then-len-lt-FEW : goal.invariant_of-self-then-len-lt-FEW
invariant_of-self-then-len-lt-FEW g c =
    let eq = g.T.PartialEq.eq in
    let kept = subst (AreKept eq) c.in-Few.is c.self.invariant in
    let new : list_any (eq c.args.value) c.in-Few.list.items ≡ false = ap (list_any (eq c.args.value)) (sym c.deref.ensures.value) ∙ (sym c.is_among.ensures ∙ c.if-is_among.false) in
    let distinct = subst (IsDistinct eq) (sym c.in_ok-push-in-Few.ensures.items) (IsDistinct-push g.met.T.Eq.laws c.in-Few.list.items c.args.value kept.0 new) in
    (distinct, search rules)

pub many-requires : goal.many-requires
many-requires g c = (subst (AreKept g.T.PartialEq.eq) c.in-Few.is c.self.invariant).1

pub invariant_of-self-in-Few : goal.invariant_of-self-in-Few
invariant_of-self-in-Few g c =
    let eq = g.T.PartialEq.eq in
    let kept = subst (AreKept eq) c.in-Few.is c.self.invariant in
    let new : list_any (eq c.args.value) c.in-Few.list.items ≡ false = ap (list_any (eq c.args.value)) (sym c.deref.ensures.value) ∙ (sym c.is_among.ensures ∙ c.if-is_among.false) in
    (subst (IsDistinct eq) (sym (c.in_ok-many-in-Few.ensures.ok ∙ one_more g.met.T.Eq.laws c.in-Few.list.items c.args.value kept.0 new)) (IsDistinct-push g.met.T.Eq.laws c.in-Few.list.items c.args.value kept.0 new), tt)

pub returns-in_ok-many-in-Few-clause-ok : goal.returns-in_ok-many-in-Few-clause-ok
returns-in_ok-many-in-Few-clause-ok g c =
    let eq = g.T.PartialEq.eq in
    let x = c.args.value in
    let kept = subst (AreKept eq) c.in-Few.is c.self.invariant in
    let new : list_any (eq x) c.in-Few.list.items ≡ false = ap (list_any (eq x)) (sym c.deref.ensures.value) ∙ (sym c.is_among.ensures ∙ c.if-is_among.false) in
    let was = sym (ap members_in c.in-Few.is) ∙ c.self.view_is in
    c.in_ok-many-in-Few.ensures.ok ∙ (one_more g.met.T.Eq.laws c.in-Few.list.items x kept.0 new
    ∙ (ap (λ b. if b then c.in-Few.list.items else c.in-Few.list.items ++ x ∷ []) (sym new)
    ∙ ap (λ l. insert_key eq l x) was))

pub returns-in_ok-many-in-Few-clause-updates : goal.returns-in_ok-many-in-Few-clause-updates
returns-in_ok-many-in-Few-clause-updates g c = λ q.
    let eq = g.T.PartialEq.eq in
    ap (list_any (eq q)) (returns-in_ok-many-in-Few-clause-ok g c) ∙ updated g.met.T.Eq.laws c.args.self.now c.args.value q

pub invariant_of-self-then-capacity-eq0 : goal.invariant_of-self-then-capacity-eq0
invariant_of-self-then-capacity-eq0 g c = (distinct_one g.T.PartialEq.eq c.args.value, tt)

pub invariant_of-self-else-contains : goal.invariant_of-self-else-contains
invariant_of-self-else-contains g c =
    let eq = g.T.PartialEq.eq in
    let was = members_in c.self.inside.members in
    let new : list_any (eq c.args.value) was ≡ false = sym c.contains.ensures ∙ c.if-contains.false in
    let put = c.in_ok-put_beside-in-Single.ensures in
    (subst (IsDistinct eq) (sym put.ok) (IsDistinct-push g.met.T.Eq.laws was c.args.value c.self.invariant.0 new), put.few)
