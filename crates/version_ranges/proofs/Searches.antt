-- A list of ranges on both sides of a place.
use Rattle.std.proofs.Common.{◌≡◌, ◌≤◌, ◌<◌, ◌+◌, ◌-◌, ℕ, true, false, ◌&&◌, ◌||◌, ltb, List, [], ◌∷◌, ◌++◌, length, get_or, set, take, drop, Option, ap, sym, ◌∙◌, subst, inl, inr, arith}
use Rattle.std.specs.List.{AllAdjacentBelow}
use Rattle.std.specs.List.Sorted.{IsNonDecreasingBy}
use Rattle.std.proofs.lemmas.Bool.{ltb-true, lt-ltb, or_cases, or_left, or_right, and_parts, and_from, false_from_ne_true}
use Rattle.std.proofs.lemmas.List.{drop_more, take_more, take-append-drop, take-take, append_assoc, length-take-le}
use Rattle.std.proofs.lemmas.List.Sorted.{IsNonDecreasingBy-from_all_adjacent}
use Rattle.version_ranges.specs.declared.half_open.Range.{Range}
use Rattle.version_ranges.specs.Members.{is_before, is_in, contains}
use Rattle.version_ranges.specs.Order.{ends_below, BeginAbove, IsSeparate}
use Rattle.version_ranges.proofs.Bools.{same_tests}
use Rattle.version_ranges.proofs.Ends.{before_below, in_from, in_before, in_by, above, separate-drop, contains-append}
use Rattle.version_ranges.proofs.Appends.{set_last}
use Rattle.version_ranges.proofs.Merges.{BeginFrom, begin_from_at}

-- members of ranges lie at the first start or later
pub members_from : (v : ℕ) (rs : List Range) → BeginFrom v rs → IsSeparate rs → (w : ℕ) → contains rs w ≡ true → v ≤ w
members_from v [] b s w h = cc
members_from v (r ∷ rs) b s w h =
    elim (or_cases (is_in r w) (contains rs w) h) as (λ _. v ≤ w) [
      | inl i ↦ omega (arith, in_from r w i)
      | inr j ↦ omega (arith, before_below r.to r.from w s.0 (above r.to rs s.1 s.2 w j))
    ]

pub first_member : (r : Range) (rs : List Range) → is_before r.from r.to ≡ true → contains (r ∷ rs) r.from ≡ true
first_member r rs p = or_left (is_in r r.from) (contains rs r.from) (in_by r r.from (omega arith) p)

separate_back : (zs : List Range) (l : Range) (rest : List Range) → IsSeparate (zs ++ l ∷ rest) → IsSeparate (l ∷ rest)
separate_back [] l rest s = s
separate_back (z ∷ zs) l rest s = separate_back zs l rest s.2

begin_front : (e : Option ℕ) (zs : List Range) (l m : Range) (rest : List Range) → m.from ≡ l.from → BeginAbove e (zs ++ l ∷ rest) → BeginAbove e (zs ++ m ∷ [])
begin_front e [] l m rest q h = subst (λ v. ends_below e v ≡ true) (sym q) h
begin_front e (z ∷ zs) l m rest q h = h

pub separate_cut : (zs : List Range) (l m : Range) (rest : List Range) → m.from ≡ l.from → is_before m.from m.to ≡ true → IsSeparate (zs ++ l ∷ rest) → IsSeparate (zs ++ m ∷ [])
separate_cut [] l m rest q p s = (p, tt, tt)
separate_cut (z ∷ zs) l m rest q p s = (s.0, begin_front z.to zs l m rest q s.1, separate_cut zs l m rest q p s.2)

front_below : (zs : List Range) (l : Range) (rest : List Range) → IsSeparate (zs ++ l ∷ rest) → (w : ℕ) → contains zs w ≡ true → w < l.from
front_below [] l rest s w h = cc
front_below (z ∷ zs) l rest s w h =
    elim (or_cases (is_in z w) (contains zs w) h) as (λ _. w < l.from) [
      | inl i ↦
          (let back : IsSeparate (l ∷ rest) = separate_back zs l rest s.2 in
          let m : contains (zs ++ l ∷ rest) l.from ≡ true = contains-append zs (l ∷ rest) l.from ∙ or_right (contains zs l.from) (contains (l ∷ rest) l.from) (first_member l rest back.0) in
          before_below z.to w l.from (in_before z w i) (above z.to (zs ++ l ∷ rest) s.1 s.2 l.from m))
      | inr j ↦ front_below zs l rest s.2 w j
    ]

module _ (zs : List Range) (l : Range) (rest : List Range) (s : IsSeparate (zs ++ l ∷ rest)) where
  in_middle : (w : ℕ) → contains (zs ++ l ∷ rest) w ≡ true → (w < l.from → ⊥) → (contains rest w ≡ true → ⊥) → is_in l w ≡ true
  in_middle w h f r =
      elim (or_cases (contains zs w) (contains (l ∷ rest) w) (sym (contains-append zs (l ∷ rest) w) ∙ h)) as (λ _. is_in l w ≡ true) [
        | inl i ↦ absurd (f (front_below zs l rest s w i))
        | inr j ↦ elim (or_cases (is_in l w) (contains rest w) j) as (λ _. is_in l w ≡ true) [ inl p ↦ p | inr q ↦ absurd (r q) ]
      ]

  -- the last range that begins by w decides whether w is a member
  pub member_here : (w : ℕ) → l.from ≤ w → BeginFrom (w + 1) rest → is_before w l.to ≡ contains (zs ++ l ∷ rest) w
  member_here w f b = same_tests (is_before w l.to) (contains (zs ++ l ∷ rest) w) (λ h. contains-append zs (l ∷ rest) w ∙ or_right (contains zs w) (contains (l ∷ rest) w) (or_left (is_in l w) (contains rest w) (in_by l w f h))) (λ h. in_before l w (in_middle w h (λ u. omega arith) beyond))
    where
      beyond : contains rest w ≡ true → ⊥
      beyond j = absurd (omega (arith, members_from (w + 1) rest b (separate_back zs l rest s).2 w j))

  -- the last range that begins below an end is cut there, and what follows falls away
  pub cut_members : (m : Range) (end : ℕ) → l.from < end → BeginFrom end rest → m.from ≡ l.from → ((w : ℕ) → is_before w m.to ≡ (is_before w l.to && ltb w end)) → (w : ℕ) → contains (zs ++ m ∷ []) w ≡ (contains (zs ++ l ∷ rest) w && ltb w end)
  cut_members m end f b q e w = same_tests (contains (zs ++ m ∷ []) w) (contains (zs ++ l ∷ rest) w && ltb w end) forth back
    where
      forth : contains (zs ++ m ∷ []) w ≡ true → (contains (zs ++ l ∷ rest) w && ltb w end) ≡ true
      forth h = elim (or_cases (contains zs w) (is_in m w || false) (sym (contains-append zs (m ∷ []) w) ∙ h)) as (λ _. (contains (zs ++ l ∷ rest) w && ltb w end) ≡ true) [
        | inl i ↦ and_from (contains (zs ++ l ∷ rest) w) (ltb w end) (contains-append zs (l ∷ rest) w ∙ or_left (contains zs w) (contains (l ∷ rest) w) i) (lt-ltb w end (omega (arith, front_below zs l rest s w i)))
        | inr j ↦ elim (or_cases (is_in m w) false j) as (λ _. (contains (zs ++ l ∷ rest) w && ltb w end) ≡ true) [
          | inl p ↦
              (let both = and_parts (is_before w l.to) (ltb w end) (sym (e w) ∙ in_before m w p) in
              and_from (contains (zs ++ l ∷ rest) w) (ltb w end) (contains-append zs (l ∷ rest) w ∙ or_right (contains zs w) (contains (l ∷ rest) w) (or_left (is_in l w) (contains rest w) (in_by l w (omega (arith, in_from m w p, q)) both.0))) both.1)
          | inr n ↦ cc
        ]
      ]

      back : (contains (zs ++ l ∷ rest) w && ltb w end) ≡ true → contains (zs ++ m ∷ []) w ≡ true
      back h =
          let both = and_parts (contains (zs ++ l ∷ rest) w) (ltb w end) h in
          let below : w < end = ltb-true w end both.1 in
          contains-append zs (m ∷ []) w ∙ elim (or_cases (contains zs w) (contains (l ∷ rest) w) (sym (contains-append zs (l ∷ rest) w) ∙ both.0)) as (λ _. (contains zs w || (is_in m w || false)) ≡ true) [
            | inl i ↦ or_left (contains zs w) (is_in m w || false) i
            | inr j ↦ elim (or_cases (is_in l w) (contains rest w) j) as (λ _. (contains zs w || (is_in m w || false)) ≡ true) [
              | inl p ↦ or_right (contains zs w) (is_in m w || false) (or_left (is_in m w) false (in_by m w (omega (arith, in_from l w p, q)) (e w ∙ and_from (is_before w l.to) (ltb w end) (in_before l w p) both.1)))
              | inr n ↦ absurd (omega (arith, members_from end rest b (separate_back zs l rest s).2 w n))
            ]
          ]

-- a list around its place before k
pub around : (rs : List Range) (k : ℕ) (d : Range) → 0 < k → k ≤ length rs → rs ≡ take (k - 1) rs ++ get_or rs (k - 1) d ∷ drop k rs
around rs k d p h =
    let e : (k - 1) + 1 ≡ k = omega arith in
    let lt : k - 1 < length rs = omega arith in
    let t : take k rs ≡ take (k - 1) rs ++ get_or rs (k - 1) d ∷ [] = subst (λ n. take n rs ≡ take (k - 1) rs ++ get_or rs (k - 1) d ∷ []) e (take_more rs (k - 1) d lt) in
    sym (take-append-drop k rs) ∙ (ap (λ xs. xs ++ drop k rs) t ∙ append_assoc (take (k - 1) rs) (get_or rs (k - 1) d ∷ []) (drop k rs))

pub starts_rise : (rs : List Range) → IsSeparate rs → IsNonDecreasingBy (λ (r : Range). r.from) rs
starts_rise rs s = IsNonDecreasingBy-from_all_adjacent (λ (r : Range). r.from) rs adjacent
  where
    adjacent : AllAdjacentBelow (λ (x : Range) (y : Range). x.from ≤ y.from) rs (length rs)
    adjacent k d h =
        let here : drop k rs ≡ get_or rs k d ∷ drop (k + 1) rs = drop_more rs k d (omega arith) in
        let next : drop (k + 1) rs ≡ get_or rs (k + 1) d ∷ drop ((k + 1) + 1) rs = drop_more rs (k + 1) d (omega arith) in
        let two : IsSeparate (get_or rs k d ∷ get_or rs (k + 1) d ∷ drop ((k + 1) + 1) rs) = subst (λ xs. IsSeparate (get_or rs k d ∷ xs)) next (subst IsSeparate here (separate-drop k rs s)) in
        let below : (get_or rs k d).from < (get_or rs (k + 1) d).from = before_below (get_or rs k d).to (get_or rs k d).from (get_or rs (k + 1) d).from two.0 two.1 in
        omega arith

module _ (rs : List Range) (s : IsSeparate rs) where
  -- if the first k ranges begin by w, and no other, the last of these decides
  pub found : (k w : ℕ) (d : Range) → 0 < k → k ≤ length rs → (get_or rs (k - 1) d).from ≤ w → (k < length rs → w + 1 ≤ (get_or rs k d).from) → is_before w (get_or rs (k - 1) d).to ≡ contains rs w
  found k w d p h f g =
      let e = around rs k d p h in
      member_here (take (k - 1) rs) (get_or rs (k - 1) d) (drop k rs) (subst IsSeparate e s) w f (begin_from_at rs k d (w + 1) g) ∙ sym (ap (λ xs. contains xs w) e)

  pub found_none : (w : ℕ) (d : Range) → (0 < length rs → w + 1 ≤ (get_or rs 0 d).from) → false ≡ contains rs w
  found_none w d g = sym (false_from_ne_true (contains rs w) (λ h. absurd (omega (arith, members_from (w + 1) rs (begin_from_at rs 0 d (w + 1) g) s w h))))

  cut_is : (k : ℕ) (d m : Range) → 0 < k → k ≤ length rs → set (take k rs) (k - 1) m ≡ take (k - 1) rs ++ m ∷ []
  cut_is k d m p h = set_last (take k rs) (k - 1) m (omega (arith, length-take-le k rs h)) ∙ ap (λ xs. xs ++ m ∷ []) (take-take (k - 1) k rs (omega arith))

  pub cut_separate_at : (k : ℕ) (d m : Range) → 0 < k → k ≤ length rs → m.from ≡ (get_or rs (k - 1) d).from → is_before m.from m.to ≡ true → IsSeparate (set (take k rs) (k - 1) m)
  cut_separate_at k d m p h q t = subst IsSeparate (sym (cut_is k d m p h)) (separate_cut (take (k - 1) rs) (get_or rs (k - 1) d) m (drop k rs) q t (subst IsSeparate (around rs k d p h) s))

  pub cut_members_at : (k : ℕ) (d m : Range) (end : ℕ) → 0 < k → k ≤ length rs → (get_or rs (k - 1) d).from < end → (k < length rs → end ≤ (get_or rs k d).from) → m.from ≡ (get_or rs (k - 1) d).from → ((w : ℕ) → is_before w m.to ≡ (is_before w (get_or rs (k - 1) d).to && ltb w end)) → (w : ℕ) → contains (set (take k rs) (k - 1) m) w ≡ (contains rs w && ltb w end)
  cut_members_at k d m end p h f g q t w =
      let e = around rs k d p h in
      ap (λ xs. contains xs w) (cut_is k d m p h) ∙ (cut_members (take (k - 1) rs) (get_or rs (k - 1) d) (drop k rs) (subst IsSeparate e s) m end f (begin_from_at rs k d end g) q t w ∙ sym (ap (λ xs. contains xs w && ltb w end) e))

  pub cut_none : (w end : ℕ) (d : Range) → (0 < length rs → end ≤ (get_or rs 0 d).from) → false ≡ (contains rs w && ltb w end)
  cut_none w end d g = sym (false_from_ne_true (contains rs w && ltb w end) (λ h. (let both = and_parts (contains rs w) (ltb w end) h in absurd (omega (arith, ltb-true w end both.1, members_from end rs (begin_from_at rs 0 d end g) s w both.0)))))

  pub has_at : (i : ℕ) (d : Range) → i < length rs → is_before (get_or rs i d).from (get_or rs i d).to ≡ true
  has_at i d h = (let t : IsSeparate (get_or rs i d ∷ drop (i + 1) rs) = subst IsSeparate (drop_more rs i d h) (separate-drop i rs s) in t.0)
