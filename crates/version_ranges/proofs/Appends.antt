-- A range added at the end, or joined with the last.
use Rattle.std.proofs.Common.{◌≡◌, ◌≤◌, ◌+◌, ℕ, suc, Bool, true, false, ◌||◌, List, [], ◌∷◌, ◌++◌, length, get_or, set, take, Option, refl, ap, sym, ◌∙◌, subst, inl, inr, arith}
use Rattle.std.proofs.lemmas.Bool.{or_cases, or_left, or_right, cases_Bool}
use Rattle.std.proofs.lemmas.List.{take_more, take_all, drop_all, set_split}
use Rattle.version_ranges.specs.declared.half_open.Range.{Range}
use Rattle.version_ranges.specs.Members.{is_before, is_in, contains}
use Rattle.version_ranges.specs.Order.{ends_below, BeginAbove, IsSeparate}
use Rattle.version_ranges.proofs.Bools.{same_tests}
use Rattle.version_ranges.proofs.Ends.{not_below, in_from, in_before, in_by, contains-append}

begin_keeps : (e : Option ℕ) (ys : List Range) (l : Range) (zs : List Range) → BeginAbove e (ys ++ l ∷ []) → BeginAbove e ((ys ++ l ∷ []) ++ zs)
begin_keeps e [] l zs h = h
begin_keeps e (y ∷ ys) l zs h = h

begin_changed : (e : Option ℕ) (ys : List Range) (l m : Range) → m.from ≡ l.from → BeginAbove e (ys ++ l ∷ []) → BeginAbove e (ys ++ m ∷ [])
begin_changed e [] l m q h = subst (λ v. ends_below e v ≡ true) (sym q) h
begin_changed e (y ∷ ys) l m q h = h

separate_push : (ys : List Range) (l n : Range) → IsSeparate (ys ++ l ∷ []) → ends_below l.to n.from ≡ true → is_before n.from n.to ≡ true → IsSeparate ((ys ++ l ∷ []) ++ n ∷ [])
separate_push [] l n s h p = (s.0, h, (p, tt, tt))
separate_push (y ∷ ys) l n s h p = (s.0, begin_keeps y.to ys l (n ∷ []) s.1, separate_push ys l n s.2 h p)

separate_changed : (ys : List Range) (l m : Range) → IsSeparate (ys ++ l ∷ []) → m.from ≡ l.from → is_before m.from m.to ≡ true → IsSeparate (ys ++ m ∷ [])
separate_changed [] l m s q p = (p, tt, tt)
separate_changed (y ∷ ys) l m s q p = (s.0, begin_changed y.to ys l m q s.1, separate_changed ys l m s.2 q p)

last_has : (ys : List Range) (l : Range) → IsSeparate (ys ++ l ∷ []) → is_before l.from l.to ≡ true
last_has [] l s = s.0
last_has (y ∷ ys) l s = last_has ys l s.2

-- two ranges that touch are one
pub joined : (l n m : Range) → l.from ≤ n.from → ends_below l.to n.from ≡ false → m.from ≡ l.from → ((w : ℕ) → is_before w m.to ≡ (is_before w l.to || is_before w n.to)) → (w : ℕ) → is_in m w ≡ (is_in l w || is_in n w)
joined l n m o t q e w = same_tests (is_in m w) (is_in l w || is_in n w) forth back
  where
    split : l.from ≤ w → (is_before w l.to || is_before w n.to) ≡ true → (is_in l w || is_in n w) ≡ true
    split f h = elim (cases_Bool (is_before w l.to)) as (λ _. (is_in l w || is_in n w) ≡ true) [
      | inl b ↦ or_left (is_in l w) (is_in n w) (in_by l w f b)
      | inr b ↦ (let later : is_before w n.to ≡ true = rw b at h in or_right (is_in l w) (is_in n w) (in_by n w (not_below l.to n.from w t b) later))
    ]

    forth : is_in m w ≡ true → (is_in l w || is_in n w) ≡ true
    forth h = split (omega (arith, in_from m w h, q)) (sym (e w) ∙ in_before m w h)

    back : (is_in l w || is_in n w) ≡ true → is_in m w ≡ true
    back h = elim (or_cases (is_in l w) (is_in n w) h) as (λ _. is_in m w ≡ true) [
      | inl i ↦ in_by m w (omega (arith, in_from l w i, q)) (e w ∙ or_left (is_before w l.to) (is_before w n.to) (in_before l w i))
      | inr j ↦ in_by m w (omega (arith, in_from n w j, q, o)) (e w ∙ or_right (is_before w l.to) (is_before w n.to) (in_before n w j))
    ]

-- the last range of a list, and the ranges before it
pub split_last : (rs : List Range) (i : ℕ) (d : Range) → i + 1 ≡ length rs → rs ≡ take i rs ++ get_or rs i d ∷ []
split_last rs i d h = sym (take_all (i + 1) rs (omega arith)) ∙ take_more rs i d (omega arith)

pub set_last : (rs : List Range) (i : ℕ) (m : Range) → i + 1 ≡ length rs → set rs i m ≡ take i rs ++ m ∷ []
set_last rs i m h = set_split rs i m (omega arith) ∙ ap (λ zs. take i rs ++ m ∷ zs) (drop_all (suc i) rs (omega arith))

pub push_separate : (rs : List Range) (i : ℕ) (l n : Range) → i + 1 ≡ length rs → l ≡ get_or rs i l → IsSeparate rs → ends_below l.to n.from ≡ true → is_before n.from n.to ≡ true → IsSeparate (rs ++ n ∷ [])
push_separate rs i l n h g s b p =
    let e : rs ≡ take i rs ++ l ∷ [] = split_last rs i l h ∙ ap (λ x. take i rs ++ x ∷ []) (sym g) in
    subst (λ zs. IsSeparate (zs ++ n ∷ [])) (sym e) (separate_push (take i rs) l n (subst IsSeparate e s) b p)

pub join_separate : (rs : List Range) (i : ℕ) (l m : Range) → i + 1 ≡ length rs → l ≡ get_or rs i l → IsSeparate rs → m.from ≡ l.from → (is_before l.from l.to ≡ true → is_before m.from m.to ≡ true) → IsSeparate (set rs i m)
join_separate rs i l m h g s q p =
    let e : rs ≡ take i rs ++ l ∷ [] = split_last rs i l h ∙ ap (λ x. take i rs ++ x ∷ []) (sym g) in
    let t : IsSeparate (take i rs ++ l ∷ []) = subst IsSeparate e s in
    subst IsSeparate (sym (set_last rs i m h)) (separate_changed (take i rs) l m t q (p (last_has (take i rs) l t)))

pub join_members : (rs : List Range) (i : ℕ) (l n m : Range) → i + 1 ≡ length rs → l ≡ get_or rs i l → l.from ≤ n.from → ends_below l.to n.from ≡ false → m.from ≡ l.from → ((w : ℕ) → is_before w m.to ≡ (is_before w l.to || is_before w n.to)) → (w : ℕ) → contains (set rs i m) w ≡ (contains rs w || is_in n w)
join_members rs i l n m h g o t q b w =
    let e : rs ≡ take i rs ++ l ∷ [] = split_last rs i l h ∙ ap (λ x. take i rs ++ x ∷ []) (sym g) in
    let front : contains rs w ≡ (contains (take i rs) w || (is_in l w || false)) = ap (λ zs. contains zs w) e ∙ contains-append (take i rs) (l ∷ []) w in
    let whole : contains (set rs i m) w ≡ (contains (take i rs) w || (is_in m w || false)) = ap (λ zs. contains zs w) (set_last rs i m h) ∙ contains-append (take i rs) (m ∷ []) w in
    whole ∙ (ap (λ c. contains (take i rs) w || (c || false)) (joined l n m o t q b w) ∙ (regroup (contains (take i rs) w) (is_in l w) (is_in n w) ∙ ap (λ c. c || is_in n w) (sym front)))
  where
    regroup : (a b c : Bool) → (a || ((b || c) || false)) ≡ ((a || (b || false)) || c)
    regroup true b c = refl
    regroup false true c = refl
    regroup false false true = refl
    regroup false false false = refl

pub push_members : (rs : List Range) (n : Range) (w : ℕ) → contains (rs ++ n ∷ []) w ≡ (contains rs w || is_in n w)
push_members rs n w = contains-append rs (n ∷ []) w ∙ ap (λ c. contains rs w || c) (or_nothing (is_in n w))
  where
    or_nothing : (b : Bool) → (b || false) ≡ b
    or_nothing true = refl
    or_nothing false = refl
