-- Two lists with the same members are the same, and a list is open if it has a tail.
use Rattle.std.proofs.Common.{◌≡◌, ◌≤◌, ◌<◌, ◌-◌, ℕ, suc, Bool, true, false, ◌||◌, List, [], ◌∷◌, length, get_or, max, Option, Some, None, is_none, refl, ap, sym, ◌∙◌, subst, inl, inr, arith, IsTrue}
use Rattle.std.proofs.lemmas.Bool.{ltb-true, lt-ltb, or_cases, or_left, or_right, cases_order, cases_Bool}
use Rattle.version_ranges.specs.declared.half_open.Range.{Range}
use Rattle.version_ranges.specs.Members.{is_before, is_in, contains, is_open}
use Rattle.version_ranges.specs.Order.{ends_below, IsSeparate}
use Rattle.version_ranges.proofs.Ends.{before_below, in_before, in_by, above, apart}
use Rattle.version_ranges.proofs.Searches.{members_from, first_member}

abbrev SameMembers : List Range → List Range → Type 0
SameMembers rs ss = (w : ℕ) → contains rs w ≡ contains ss w

-- the end of one range is no member, so it is not before the end of the other
no_longer : (r s : Range) (rs ss : List Range) → IsSeparate (r ∷ rs) → r.from ≡ s.from → SameMembers (r ∷ rs) (s ∷ ss) → (t : ℕ) → r.to ≡ Some t → is_before t s.to ≡ true → ⊥
no_longer r s rs ss p q e t end b =
    let from : r.from < t = ltb-true r.from t (subst (λ x. is_before r.from x ≡ true) end p.0) in
    let other : contains (s ∷ ss) t ≡ true = or_left (is_in s t) (contains ss t) (in_by s t (omega arith) b) in
    elim (or_cases (is_in r t) (contains rs t) (e t ∙ other)) as (λ _. ⊥) [
      | inl i ↦ absurd (omega (arith, ltb-true t t (subst (λ x. is_before t x ≡ true) end (in_before r t i))))
      | inr j ↦ absurd (omega (arith, ltb-true t t (subst (λ x. ends_below x t ≡ true) end (above r.to rs p.1 p.2 t j))))
    ]

same_ends : (a b : Option ℕ) → ((t : ℕ) → a ≡ Some t → is_before t b ≡ true → ⊥) → ((t : ℕ) → b ≡ Some t → is_before t a ≡ true → ⊥) → a ≡ b
same_ends None None f g = refl
same_ends (Some t) None f g = absurd (f t refl refl)
same_ends None (Some u) f g = absurd (g u refl refl)
same_ends (Some t) (Some u) f g =
    elim (cases_order t u) as (λ _. Some t ≡ Some u) [
      | inl e ↦ ap Some e
      | inr o ↦ elim o as (λ _. Some t ≡ Some u) [ inl l ↦ absurd (f t refl (lt-ltb t u l)) | inr l ↦ absurd (g u refl (lt-ltb u t l)) ]
    ]

pub same_lists_from_members : (rs ss : List Range) → IsSeparate rs → IsSeparate ss → SameMembers rs ss → rs ≡ ss
same_lists_from_members [] [] p q e = refl
same_lists_from_members [] (s ∷ ss) p q e = (let h : false ≡ true = e s.from ∙ first_member s ss q.0 in cc)
same_lists_from_members (r ∷ rs) [] p q e = (let h : false ≡ true = sym (e r.from) ∙ first_member r rs p.0 in cc)
same_lists_from_members (r ∷ rs) (s ∷ ss) p q e =
    let low : s.from ≤ r.from = members_from s.from (s ∷ ss) (omega arith) q r.from (sym (e r.from) ∙ first_member r rs p.0) in
    let high : r.from ≤ s.from = members_from r.from (r ∷ rs) (omega arith) p s.from (e s.from ∙ first_member s ss q.0) in
    let from : r.from ≡ s.from = omega arith in
    let to : r.to ≡ s.to = same_ends r.to s.to (no_longer r s rs ss p from e) (no_longer s r ss rs q (sym from) (λ w. sym (e w))) in
    let first : r ≡ s = ap (λ x. record { from = x; to = r.to }) from ∙ ap (λ y. record { from = s.from; to = y }) to in
    let rest : SameMembers rs ss = λ w. elim (cases_Bool (is_in r w)) as (λ _. contains rs w ≡ contains ss w) [
      | inl i ↦ neither (contains rs w) (contains ss w) (λ x. apart r.to rs p.1 p.2 w (in_before r w i) x) (λ x. apart s.to ss q.1 q.2 w (subst (λ z. is_before w z ≡ true) to (in_before r w i)) x)
      | inr n ↦ only (is_in r w) (is_in s w) (contains rs w) (contains ss w) n (ap (λ x. is_in x w) first) (e w)
    ] in
    pair first (same_lists_from_members rs ss p.2 q.2 rest)
  where
    neither : (a b : Bool) → (a ≡ true → ⊥) → (b ≡ true → ⊥) → a ≡ b
    neither true b f g = absurd (f refl)
    neither false true f g = absurd (g refl)
    neither false false f g = refl

    only : (x y a b : Bool) → x ≡ false → x ≡ y → (x || a) ≡ (y || b) → a ≡ b
    only true y a b n q e = cc
    only false true a b n q e = cc
    only false false a b n q e = e

    pair : {x y : Range} {xs ys : List Range} → x ≡ y → xs ≡ ys → (x ∷ xs) ≡ (y ∷ ys)
    pair f g = cc

pub open_last : (rs : List Range) (d : Range) → 0 < length rs → is_open rs ≡ is_none (get_or rs (length rs - 1) d).to
open_last [] d h = absurd (omega arith)
open_last (r ∷ []) d h = refl
open_last (r ∷ s ∷ rs) d h =
    let here : suc (length rs) - 1 ≡ length rs = omega arith in
    let there : suc (suc (length rs)) - 1 ≡ suc (length rs) = omega arith in
    open_last (s ∷ rs) d (omega arith) ∙ (ap (λ i. is_none (get_or (s ∷ rs) i d).to) here ∙ sym (ap (λ i. is_none (get_or (r ∷ s ∷ rs) i d).to) there))

abbrev HasTail : List Range → Type 0
HasTail rs = (v : ℕ) × ((w : ℕ) → v ≤ w → contains rs w ≡ true)

before_none : (e : Option ℕ) (w : ℕ) → IsTrue (is_none e) → is_before w e ≡ true
before_none None w h = refl
before_none (Some t) w h = cc

pub tail_of_open : (rs : List Range) → IsTrue (is_open rs) → HasTail rs
tail_of_open [] h = cc
tail_of_open (r ∷ []) h = (r.from, λ w l. or_left (is_in r w) false (in_by r w l (before_none r.to w h)))
tail_of_open (r ∷ s ∷ rs) h = (let t = tail_of_open (s ∷ rs) h in (t.0, λ w l. or_right (is_in r w) (contains (s ∷ rs) w) (t.1 w l)))

none_from : (e : Option ℕ) (v : ℕ) → ((w : ℕ) → v ≤ w → is_before w e ≡ true) → IsTrue (is_none e)
none_from None v f = refl
none_from (Some t) v f = absurd (omega (arith, ltb-true (max v t) t (f (max v t) (omega arith))))

pub open_of_tail : (rs : List Range) → IsSeparate rs → HasTail rs → IsTrue (is_open rs)
open_of_tail [] s t = (let h : false ≡ true = t.1 t.0 (omega arith) in cc)
open_of_tail (r ∷ []) s t = none_from r.to t.0 (λ w l. elim (or_cases (is_in r w) false (t.1 w l)) as (λ _. is_before w r.to ≡ true) [ inl i ↦ in_before r w i | inr n ↦ cc ])
open_of_tail (r ∷ q ∷ rs) s t = open_of_tail (q ∷ rs) s.2 (
  max t.0 q.from,
  λ w l. elim (or_cases (is_in r w) (contains (q ∷ rs) w) (t.1 w (omega arith))) as (λ _. contains (q ∷ rs) w ≡ true) [
    | inl i ↦ absurd (omega (arith, before_below r.to w q.from (in_before r w i) s.1))
    | inr j ↦ j
  ],
)
