-- The longest range round a version in which a test holds.
use Rattle.std.proofs.Common.{◌≡◌, ◌≤◌, ◌<◌, ◌+◌, ◌-◌, ℕ, zero, suc, Bool, true, false, leb, ltb, List, ◌∷◌, length, get_or, drop, Option, Some, None, refl, ap, sym, ◌∙◌, subst, inl, inr, arith}
use Rattle.std.proofs.lemmas.Bool.{and_from, and_parts, cases_lt, le-leb, lt-ltb, le-ltb, ltb-true}
use Rattle.std.proofs.lemmas.List.{drop_more}
use Rattle.version_ranges.specs.declared.half_open.Range.{Range}
use Rattle.version_ranges.specs.Members.{is_before, is_in, contains}
use Rattle.version_ranges.specs.Order.{ends_below, IsSeparate}
use Rattle.version_ranges.specs.Rounds.{all_from, all_between}
use Rattle.version_ranges.proofs.Bools.{same_tests}
use Rattle.version_ranges.proofs.Ends.{in_from, in_before, in_by, before_below, separate-drop}
use Rattle.version_ranges.proofs.Searches.{found, found_none, has_at}

module _ (f : ℕ → Bool) where
  at_each : (v n : ℕ) → all_from f v n ≡ true → (u : ℕ) → v ≤ u → u < v + n → f u ≡ true
  at_each v zero h u l m = absurd (omega arith)
  at_each v (suc n) h u l m = let p = and_parts (f v) (all_from f (suc v) n) h in elim (cases_lt v u) as (λ _. f u ≡ true) [
    | inl i ↦ at_each (suc v) n p.1 u (omega arith) (omega arith)
    | inr i ↦ let e : v ≡ u = omega arith in subst (λ x. f x ≡ true) e p.0
  ]

  from_each : (v n : ℕ) → ((u : ℕ) → v ≤ u → u < v + n → f u ≡ true) → all_from f v n ≡ true
  from_each v zero g = refl
  from_each v (suc n) g = and_from (f v) (all_from f (suc v) n) (g v (omega arith) (omega arith)) (from_each (suc v) n (λ u l m. g u (omega arith) (omega arith)))

  -- a test that holds between two versions holds at each of them
  pub between_up : (v w : ℕ) → all_between f v w ≡ true → (u : ℕ) → v ≤ u → u ≤ w → f u ≡ true
  between_up v w h u l m = at_each v (suc (w - v)) (and_parts (all_from f v (suc (w - v))) (all_from f w (suc (v - w))) h).0 u l (omega arith)

  pub between_down : (v w : ℕ) → all_between f v w ≡ true → (u : ℕ) → w ≤ u → u ≤ v → f u ≡ true
  between_down v w h u l m = at_each w (suc (v - w)) (and_parts (all_from f v (suc (w - v))) (all_from f w (suc (v - w))) h).1 u l (omega arith)

  pub from_between : (v w : ℕ) → ((u : ℕ) → v ≤ u → u ≤ w → f u ≡ true) → ((u : ℕ) → w ≤ u → u ≤ v → f u ≡ true) → all_between f v w ≡ true
  from_between v w up down = and_from (all_from f v (suc (w - v))) (all_from f w (suc (v - w)))
      (from_each v (suc (w - v)) (λ u l m. elim (cases_lt w u) as (λ _. f u ≡ true) [ inl i ↦ down u (omega arith) (omega arith) | inr i ↦ up u l i ]))
      (from_each w (suc (v - w)) (λ u l m. elim (cases_lt v u) as (λ _. f u ≡ true) [ inl i ↦ up u (omega arith) (omega arith) | inr i ↦ down u l i ]))

  -- a test that holds from one version to another holds there
  pub there : (v w : ℕ) → all_between f v w ≡ true → f w ≡ true
  there v w h = elim (cases_lt v w) as (λ _. f w ≡ true) [
    | inl l ↦ between_up v w h w (omega arith) (omega arith)
    | inr l ↦ between_down v w h w (omega arith) l
  ]

  -- if a test holds from n on, and from v, which is not above n, to a version above n, it holds
  -- from v on
  pub longer : (n v w u : ℕ) → v ≤ n → n < w → n ≤ u → ((z : ℕ) → n ≤ z → f z ≡ true) → all_between f v w ≡ true → all_between f v u ≡ true
  longer n v w u hv hw hu on h = from_between v u
      (λ z p q. elim (cases_lt n z) as (λ _. f z ≡ true) [
        | inl l ↦ on z (omega arith)
        | inr l ↦ between_up v w h z p (omega arith)
      ])
      (λ z p q. between_up v w h z (omega arith) (omega arith))

-- what lies in a range
pub in_to : (a t w : ℕ) → is_in record { from = a; to = Some t } w ≡ true → w < t
in_to a t w h = ltb-true w t (and_parts (leb a w) (ltb w t) h).1

pub is_open_in : (a w : ℕ) → a ≤ w → is_in record { from = a; to = None } w ≡ true
is_open_in a w l = and_from (leb a w) true (le-leb a w l) refl

pub is_closed_in : (a t w : ℕ) → a ≤ w → w < t → is_in record { from = a; to = Some t } w ≡ true
is_closed_in a t w l m = and_from (leb a w) (ltb w t) (le-leb a w l) (lt-ltb w t m)

pub not_both : (b : Bool) → b ≡ true → b ≡ false → ⊥
not_both true p q = cc
not_both false p q = cc

module _ (f : ℕ → Bool) (a v : ℕ) (low : a ≤ v) (below : (u : ℕ) → suc u ≡ a → f u ≡ false) where
  first_true : (w : ℕ) → all_between f v w ≡ true → a ≤ w
  first_true w h = elim (cases_lt w a) as (λ _. a ≤ w) [
    | inl i ↦ (let z = not_both (f (a - 1)) (between_down f v w h (a - 1) (omega arith) (omega arith)) (below (a - 1) (omega arith)) in absurd z)
    | inr i ↦ i
  ]

  -- a range in which a test holds, and at whose ends it does not, has the versions up to which it holds from each that it has
  pub round_is : (o : Option ℕ) → is_in record { from = a; to = o } v ≡ true → ((u : ℕ) → is_in record { from = a; to = o } u ≡ true → f u ≡ true) → ((t : ℕ) → o ≡ Some t → f t ≡ false)
      → (w : ℕ) → is_in record { from = a; to = o } w ≡ all_between f v w
  round_is None h g end w = same_tests (is_in record { from = a; to = None } w) (all_between f v w)
      (λ i. let l = in_from record { from = a; to = None } w i in from_between f v w (λ u p q. g u (is_open_in a u (omega arith))) (λ u p q. g u (is_open_in a u (omega arith))))
      (λ i. is_open_in a w (first_true w i))
  round_is (Some t) h g end w = same_tests (is_in record { from = a; to = Some t } w) (all_between f v w)
      (λ i. let l = in_from record { from = a; to = Some t } w i in let m = in_to a t w i in let n = in_to a t v h in
      from_between f v w (λ u p q. g u (is_closed_in a t u (omega arith) (omega arith))) (λ u p q. g u (is_closed_in a t u (omega arith) (omega arith))))
      (λ i. is_closed_in a t w (first_true w i) (elim (cases_lt w t) as (λ _. w < t) [
        | inl j ↦ j
        | inr j ↦ (let n = in_to a t v h in absurd (not_both (f t) (between_up f v w i t (omega arith) j) (end t refl)))
      ]))

ends_apart : (e : Option ℕ) (v : ℕ) → ends_below e v ≡ true → (u : ℕ) → suc u ≡ v → is_before u e ≡ false
ends_apart None v h u q = absurd (let z : false ≡ true = h in cc)
ends_apart (Some t) v h u q = le-ltb u t (let z = ltb-true t v h in omega arith)

-- in a list of ranges, the one before the place k
module _ (rs : List Range) (s : IsSeparate rs) (k : ℕ) (d : Range) (p : 0 < k) (l : k ≤ length rs) where
  abbrev pub q : Range
  q = get_or rs (k - 1) d

  next_above : k < length rs → ends_below q.to (get_or rs k d).from ≡ true
  next_above h =
      let e : suc (k - 1) ≡ k = omega arith in
      let here = drop_more rs (k - 1) d (omega arith) in
      let there = subst (λ n. drop n rs ≡ get_or rs k d ∷ drop (k + 1) rs) (sym (let z : (k - 1) + 1 ≡ k = omega arith in z)) (drop_more rs k d h) in
      let two : IsSeparate (q ∷ get_or rs k d ∷ drop (k + 1) rs) = subst (λ xs. IsSeparate (q ∷ xs)) there (subst IsSeparate here (separate-drop (k - 1) rs s)) in
      two.1

  decides : (w : ℕ) → q.from ≤ w → (k < length rs → w < (get_or rs k d).from) → is_before w q.to ≡ contains rs w
  decides w f g = found rs s k w d p l f (λ h. let z = g h in omega arith)

  among : (u : ℕ) → is_in q u ≡ true → contains rs u ≡ true
  among u i = sym (decides u (in_from q u i) (λ h. before_below q.to u (get_or rs k d).from (in_before q u i) (next_above h))) ∙ in_before q u i

  ends : (t : ℕ) → q.to ≡ Some t → q.from < t → contains rs t ≡ false
  ends t e m = sym (decides t (omega arith) (λ h. ltb-true t (get_or rs k d).from (subst (λ o. ends_below o (get_or rs k d).from ≡ true) e (next_above h)))) ∙ (ap (is_before t) e ∙ le-ltb t t (omega arith))

-- what the range that a binary search finds has
module _ (rs : List Range) (s : IsSeparate rs) (k : ℕ) (d : Range) (p : 0 < k) (l : k ≤ length rs) where
  before : (u : ℕ) → suc u ≡ (get_or rs (k - 1) d).from → contains rs u ≡ false
  before u e = elim (cases_lt 0 (k - 1)) as (λ _. contains rs u ≡ false) [
    | inl i ↦
        let up = next_above rs s (k - 1) d i (omega arith) (omega arith) in
        let low : (get_or rs (k - 1 - 1) d).from ≤ u = (let z = before_below (get_or rs (k - 1 - 1) d).to (get_or rs (k - 1 - 1) d).from (get_or rs (k - 1) d).from (has_at rs s (k - 1 - 1) d (omega arith)) up in omega arith) in
        sym (decides rs s (k - 1) d i (omega arith) u low (λ h. omega arith)) ∙ ends_apart (get_or rs (k - 1 - 1) d).to (get_or rs (k - 1) d).from up u e
    | inr i ↦ (let none : k - 1 ≡ 0 = omega arith in sym (found_none rs s u d (λ h. (let z : suc u ≡ (get_or rs 0 d).from = subst (λ n. suc u ≡ (get_or rs n d).from) none e in omega arith))))
  ]

  pub round_at : (v : ℕ) → (get_or rs (k - 1) d).from ≤ v → is_before v (get_or rs (k - 1) d).to ≡ true → (w : ℕ) → is_in (get_or rs (k - 1) d) w ≡ all_between (contains rs) v w
  round_at v f h = round_is (contains rs) (get_or rs (k - 1) d).from v f before (get_or rs (k - 1) d).to (in_by (get_or rs (k - 1) d) v f h) (among rs s k d p l)
      (λ t e. ends rs s k d p l t e (let z : v < t = ltb-true v t (subst (λ o. is_before v o ≡ true) e h) in omega arith))
