-- A range put between two others.
use Rattle.std.proofs.Common.{◌≡◌, ◌≤◌, ◌<◌, ◌-◌, ℕ, ◌+◌, zero, suc, Bool, true, false, ◌||◌, min, List, [], ◌∷◌, ◌++◌, length, get_or, set, take, drop, Option, refl, ap, sym, ◌∙◌, subst, inl, inr, arith}
use Rattle.std.proofs.lemmas.Bool.{cases_lt, or_left, or_right}
use Rattle.std.proofs.lemmas.List.{drop_more, drop_all, take-append-drop, set_split}
use Rattle.version_ranges.specs.declared.half_open.Range.{Range}
use Rattle.version_ranges.specs.Members.{is_before, is_in, contains}
use Rattle.version_ranges.specs.Order.{ends_below, BeginAbove, IsSeparate}
use Rattle.version_ranges.proofs.Ends.{separate-drop, contains-append}
use Rattle.version_ranges.proofs.Searches.{has_at}
use Rattle.version_ranges.proofs.Appends.{joined}

-- the last of the ranges, if there is one, ends below a version
abbrev EndBelow : List Range → ℕ → Type 0
EndBelow [] v = Unit {0}
EndBelow (r ∷ []) v = ends_below r.to v ≡ true
EndBelow (r ∷ s ∷ rs) v = EndBelow (s ∷ rs) v

begin_take : (e : Option ℕ) (n : ℕ) (rs : List Range) → BeginAbove e rs → BeginAbove e (take n rs)
begin_take e zero rs h = tt
begin_take e (suc n) [] h = tt
begin_take e (suc n) (r ∷ rs) h = h

separate_take : (n : ℕ) (rs : List Range) → IsSeparate rs → IsSeparate (take n rs)
separate_take zero rs s = tt
separate_take (suc n) [] s = tt
separate_take (suc n) (r ∷ rs) s = (s.0, begin_take r.to n rs s.1, separate_take n rs s.2)

between : (xs ys : List Range) (m : Range) → IsSeparate xs → EndBelow xs m.from → is_before m.from m.to ≡ true → BeginAbove m.to ys → IsSeparate ys → IsSeparate (xs ++ m ∷ ys)
between [] ys m s l p b t = (p, b, t)
between (x ∷ []) ys m s l p b t = (s.0, l, (p, b, t))
between (x ∷ z ∷ zs) ys m s l p b t = (s.0, s.1, between (z ∷ zs) ys m s.2 l p b t)

end_at : (rs : List Range) (i v : ℕ) (d : Range) → i < length rs → ends_below (get_or rs i d).to v ≡ true → EndBelow (take (suc i) rs) v
end_at [] i v d l h = absurd (omega arith)
end_at (r ∷ rs) zero v d l h = h
end_at (r ∷ []) (suc i) v d l h = absurd (omega arith)
end_at (r ∷ s ∷ rs) (suc i) v d l h = end_at (s ∷ rs) i v d (omega arith) h

end_before : (rs : List Range) (k v : ℕ) (d : Range) → k ≤ length rs → (0 < k → ends_below (get_or rs (k - 1) d).to v ≡ true) → EndBelow (take k rs) v
end_before rs zero v d l h = tt
end_before rs (suc i) v d l h = let e : suc i - 1 ≡ i = omega arith in end_at rs i v d (omega arith) (subst (λ n. ends_below (get_or rs n d).to v ≡ true) e (h (omega arith)))

begin_at : (rs : List Range) (i : ℕ) (d : Range) (e : Option ℕ) → (i < length rs → ends_below e (get_or rs i d).from ≡ true) → BeginAbove e (drop i rs)
begin_at rs i d e f = elim (cases_lt i (length rs)) as (λ _. BeginAbove e (drop i rs)) [
  | inl h ↦ subst (λ xs. BeginAbove e xs) (sym (drop_more rs i d h)) (f h)
  | inr h ↦ subst (λ xs. BeginAbove e xs) (sym (drop_all i rs h)) tt
]

module _ (rs : List Range) (s : IsSeparate rs) (i j : ℕ) (d m : Range) (li : i ≤ length rs) (p : is_before m.from m.to ≡ true)
    (below : 0 < i → ends_below (get_or rs (i - 1) d).to m.from ≡ true) (above : j < length rs → ends_below m.to (get_or rs j d).from ≡ true) where
  pub put_separate : IsSeparate (take i rs ++ m ∷ drop j rs)
  put_separate = between (take i rs) (drop j rs) m (separate_take i rs s) (end_before rs i m.from d li below) p (begin_at rs j d m.to above) (separate-drop j rs s)

pub put_members : (rs : List Range) (i : ℕ) (m : Range) (w : ℕ) → contains (take i rs ++ m ∷ drop i rs) w ≡ (contains rs w || is_in m w)
put_members rs i m w =
    contains-append (take i rs) (m ∷ drop i rs) w
    ∙ (regroup (contains (take i rs) w) (is_in m w) (contains (drop i rs) w)
    ∙ ap (λ b. b || is_in m w) (sym (contains-append (take i rs) (drop i rs) w) ∙ ap (λ xs. contains xs w) (take-append-drop i rs)))
  where
    regroup : (a b c : Bool) → (a || (b || c)) ≡ ((a || c) || b)
    regroup true b c = refl
    regroup false true true = refl
    regroup false true false = refl
    regroup false false true = refl
    regroup false false false = refl

-- two ranges that touch are one, whichever begins first
touching : (a b m : Range) → (ends_below a.to b.from || ends_below b.to a.from) ≡ false → m.from ≡ min a.from b.from → ((w : ℕ) → is_before w m.to ≡ (is_before w a.to || is_before w b.to)) → (w : ℕ) → is_in m w ≡ (is_in a w || is_in b w)
touching a b m t q e w = by_parts (ends_below a.to b.from) (ends_below b.to a.from) refl refl t
  where
    turned : (x y : Bool) → (x || y) ≡ (y || x)
    turned true true = refl
    turned true false = refl
    turned false true = refl
    turned false false = refl

    by_parts : (x y : Bool) → ends_below a.to b.from ≡ x → ends_below b.to a.from ≡ y → (x || y) ≡ false → is_in m w ≡ (is_in a w || is_in b w)
    by_parts true y f g h = cc
    by_parts false true f g h = cc
    by_parts false false f g h = elim (cases_lt a.from b.from) as (λ _. is_in m w ≡ (is_in a w || is_in b w)) [
      | inl l ↦ joined a b m (omega arith) f (omega arith) e w
      | inr l ↦ joined b a m (omega arith) g (omega arith) (λ v. e v ∙ turned (is_before v a.to) (is_before v b.to)) w ∙ turned (is_in b w) (is_in a w)
    ]

-- one range is joined with another that it touches
module _ (rs : List Range) (s : IsSeparate rs) (i : ℕ) (own range m : Range) (l : i < length rs) (o : own ≡ get_or rs i own) (p : is_before range.from range.to ≡ true) (q : m.from ≡ min own.from range.from)
    (e : (w : ℕ) → is_before w m.to ≡ (is_before w own.to || is_before w range.to)) where
  set_is : set rs i m ≡ take i rs ++ m ∷ drop (i + 1) rs
  set_is = set_split rs i m l ∙ ap (λ n. take i rs ++ m ∷ drop n rs) (let n : suc i ≡ i + 1 = omega arith in n)

  own_has : is_before own.from own.to ≡ true
  own_has = subst (λ (r : Range). is_before r.from r.to ≡ true) (sym o) (has_at rs s i own l)

  has_version : is_before m.from m.to ≡ true
  has_version = e m.from ∙ elim (cases_lt own.from range.from) as (λ _. (is_before m.from own.to || is_before m.from range.to) ≡ true) [
    | inl h ↦ or_left (is_before m.from own.to) (is_before m.from range.to) (let n : own.from ≡ m.from = omega arith in subst (λ v. is_before v own.to ≡ true) n own_has)
    | inr h ↦ or_right (is_before m.from own.to) (is_before m.from range.to) (let n : range.from ≡ m.from = omega arith in subst (λ v. is_before v range.to ≡ true) n p)
  ]

  pub joined_separate : ((d : Range) → 0 < i → ends_below (get_or rs (i - 1) d).to m.from ≡ true) → ((d : Range) → i + 1 < length rs → ends_below m.to (get_or rs (i + 1) d).from ≡ true) → IsSeparate (set rs i m)
  joined_separate below above = subst IsSeparate (sym set_is) (put_separate rs s i (i + 1) own m (omega arith) has_version (below own) (above own))

  pub joined_members : (ends_below own.to range.from || ends_below range.to own.from) ≡ false → (w : ℕ) → contains (set rs i m) w ≡ (contains rs w || is_in range w)
  joined_members t w =
      let there : drop i rs ≡ own ∷ drop (i + 1) rs = drop_more rs i own l ∙ ap (λ r. r ∷ drop (i + 1) rs) (sym o) in
      let whole : contains rs w ≡ (contains (take i rs) w || (is_in own w || contains (drop (i + 1) rs) w)) =
      sym (ap (λ xs. contains xs w) (take-append-drop i rs)) ∙ (contains-append (take i rs) (drop i rs) w ∙ ap (λ xs. contains (take i rs) w || contains xs w) there) in
      ap (λ xs. contains xs w) set_is
      ∙ (contains-append (take i rs) (m ∷ drop (i + 1) rs) w
      ∙ (ap (λ b. contains (take i rs) w || (b || contains (drop (i + 1) rs) w)) (touching own range m t q e w)
      ∙ (regroup (contains (take i rs) w) (is_in own w) (is_in range w) (contains (drop (i + 1) rs) w)
      ∙ ap (λ b. b || is_in range w) (sym whole))))
    where
      regroup : (a b c d : Bool) → (a || ((b || c) || d)) ≡ ((a || (b || d)) || c)
      regroup true b c d = refl
      regroup false true c d = refl
      regroup false false true true = refl
      regroup false false true false = refl
      regroup false false false true = refl
      regroup false false false false = refl
