-- What a walk over two lists of ranges keeps: what is done, and what is left of each list.
use Rattle.std.proofs.Common.{◌≡◌, ◌≤◌, ◌<◌, ◌+◌, ◌-◌, ℕ, true, ◌&&◌, ◌||◌, List, [], ◌∷◌, length, get_or, drop, max, ap, sym, ◌∙◌, subst, arith, inl, inr}
use Rattle.std.proofs.lemmas.Bool.{cases_lt}
use Rattle.std.proofs.lemmas.List.{drop_more, drop_all}
use Rattle.version_ranges.specs.declared.half_open.Range.{Range}
use Rattle.version_ranges.specs.Members.{is_before, is_in, contains}
use Rattle.version_ranges.specs.Order.{IsSeparate, LastBeginsBy}
use Rattle.version_ranges.proofs.Bools.{or_left_done, or_right_done, and_left_done, and_right_done}
use Rattle.version_ranges.proofs.Ends.{before_below, in_before, apart, separate-drop}

-- what is done begins by the first range that is left
abbrev pub LastBefore : List Range → List Range → Type 0
LastBefore out [] = Unit {0}
LastBefore out (r ∷ rs) = LastBeginsBy out r.from

-- the first range that is left, if there is one, begins at a version or later
abbrev pub BeginFrom : ℕ → List Range → Type 0
BeginFrom v [] = Unit {0}
BeginFrom v (r ∷ rs) = v ≤ r.from

begin_after : (r : Range) (rs : List Range) → IsSeparate (r ∷ rs) → BeginFrom r.from rs
begin_after r [] s = tt
begin_after r (t ∷ rs) s = (let h : r.from < t.from = before_below r.to r.from t.from s.0 s.1 in omega arith)

later_first : (out rs : List Range) (v : ℕ) → LastBeginsBy out v → BeginFrom v rs → LastBefore out rs
later_first out [] v l b = tt
later_first out (r ∷ rs) v l b = λ d h. (let p : (get_or out (length out - 1) d).from ≤ v = l d h in omega arith)

pub begin_from_at : (rs : List Range) (i : ℕ) (d : Range) (v : ℕ) → (i < length rs → v ≤ (get_or rs i d).from) → BeginFrom v (drop i rs)
begin_from_at rs i d v f = elim (cases_lt i (length rs)) as (λ _. BeginFrom v (drop i rs)) [
  | inl h ↦ subst (λ xs. BeginFrom v xs) (sym (drop_more rs i d h)) (f h)
  | inr h ↦ subst (λ xs. BeginFrom v xs) (sym (drop_all i rs h)) tt
]

-- a union: done and left together are what either list has
pub record Joining (a b out left right : List Range) : Type 0 where
  pub separate : IsSeparate out
  pub members : (w : ℕ) → (contains out w || (contains left w || contains right w)) ≡ (contains a w || contains b w)
  pub before_left : LastBefore out left
  pub before_right : LastBefore out right

module _ (a b out next left right : List Range) (r : Range) where
  pub joining_left : Joining a b out (r ∷ left) right → IsSeparate (r ∷ left) → BeginFrom r.from right → IsSeparate next → ((w : ℕ) → contains next w ≡ (contains out w || is_in r w)) → LastBeginsBy next r.from → Joining a b next left right
  joining_left j s f t m l = record {
    separate = t;
    members = λ w. ap (λ c. c || (contains left w || contains right w)) (m w) ∙ (or_left_done (contains out w) (is_in r w) (contains left w) (contains right w) ∙ j.members w);
    before_left = later_first next left r.from l (begin_after r left s);
    before_right = later_first next right r.from l f;
  }

  pub joining_right : Joining a b out left (r ∷ right) → IsSeparate (r ∷ right) → BeginFrom r.from left → IsSeparate next → ((w : ℕ) → contains next w ≡ (contains out w || is_in r w)) → LastBeginsBy next r.from → Joining a b next left right
  joining_right j s f t m l = record {
    separate = t;
    members = λ w. ap (λ c. c || (contains left w || contains right w)) (m w) ∙ (or_right_done (contains out w) (is_in r w) (contains left w) (contains right w) ∙ j.members w);
    before_left = later_first next left r.from l f;
    before_right = later_first next right r.from l (begin_after r right s);
  }

-- what is done begins by the place where the first ranges that are left may meet
abbrev pub LastBeforeBoth : List Range → List Range → List Range → Type 0
LastBeforeBoth out [] right = Unit {0}
LastBeforeBoth out (r ∷ left) [] = Unit {0}
LastBeforeBoth out (r ∷ left) (s ∷ right) = LastBeginsBy out (max r.from s.from)

-- an intersection: done and what is common in the rest are what both lists have
pub record Meeting (a b out left right : List Range) : Type 0 where
  pub separate : IsSeparate out
  pub members : (w : ℕ) → (contains out w || (contains left w && contains right w)) ≡ (contains a w && contains b w)
  pub before_both : LastBeforeBoth out left right

further_left : (out left : List Range) (r s : Range) (right : List Range) → IsSeparate (r ∷ left) → LastBeginsBy out (max r.from s.from) → LastBeforeBoth out left (s ∷ right)
further_left out [] r s right p l = tt
further_left out (t ∷ left) r s right p l = λ d h. (let q : (get_or out (length out - 1) d).from ≤ max r.from s.from = l d h in let b : r.from < t.from = before_below r.to r.from t.from p.0 p.1 in omega arith)

further_right : (out left : List Range) (r s : Range) (right : List Range) → IsSeparate (s ∷ right) → LastBeginsBy out (max r.from s.from) → LastBeforeBoth out (r ∷ left) right
further_right out left r s [] p l = tt
further_right out left r s (t ∷ right) p l = λ d h. (let q : (get_or out (length out - 1) d).from ≤ max r.from s.from = l d h in let b : s.from < t.from = before_below s.to s.from t.from p.0 p.1 in omega arith)

module _ (a b out next left right : List Range) (r s : Range) where
  pub meeting_left : Meeting a b out (r ∷ left) (s ∷ right) → IsSeparate (r ∷ left) → IsSeparate (s ∷ right) → ((w : ℕ) → is_before w r.to ≡ true → is_before w s.to ≡ true) → IsSeparate next → ((w : ℕ) → contains next w ≡ (contains out w || (is_in r w && is_in s w))) → LastBeginsBy next (max r.from s.from) → Meeting a b next left (s ∷ right)
  meeting_left j p q f t m l = record {
    separate = t;
    members = λ w. ap (λ c. c || (contains left w && (is_in s w || contains right w))) (m w) ∙ (and_left_done (contains out w) (is_in r w) (contains left w) (is_in s w) (contains right w) (λ x y. apart s.to right q.1 q.2 w (f w (in_before r w x)) y) ∙ j.members w);
    before_both = further_left next left r s right p l;
  }

  pub meeting_right : Meeting a b out (r ∷ left) (s ∷ right) → IsSeparate (r ∷ left) → IsSeparate (s ∷ right) → ((w : ℕ) → is_before w s.to ≡ true → is_before w r.to ≡ true) → IsSeparate next → ((w : ℕ) → contains next w ≡ (contains out w || (is_in r w && is_in s w))) → LastBeginsBy next (max r.from s.from) → Meeting a b next (r ∷ left) right
  meeting_right j p q f t m l = record {
    separate = t;
    members = λ w. ap (λ c. c || ((is_in r w || contains left w) && contains right w)) (m w) ∙ (and_right_done (contains out w) (is_in r w) (contains left w) (is_in s w) (contains right w) (λ x y. apart r.to left p.1 p.2 w (f w (in_before s w x)) y) ∙ j.members w);
    before_both = further_right next left r s right q l;
  }

-- the same at places in the two lists
module _ (a b : List Range) (i j : ℕ) (d : Range) (left : IsSeparate a) (right : IsSeparate b) where
  left_is : i < length a → IsSeparate (get_or a i d ∷ drop (i + 1) a)
  left_is h = subst IsSeparate (drop_more a i d h) (separate-drop i a left)

  right_is : j < length b → IsSeparate (get_or b j d ∷ drop (j + 1) b)
  right_is h = subst IsSeparate (drop_more b j d h) (separate-drop j b right)

  pub has_at_left : i < length a → is_before (get_or a i d).from (get_or a i d).to ≡ true
  has_at_left h = (left_is h).0

  pub has_at_right : j < length b → is_before (get_or b j d).from (get_or b j d).to ≡ true
  has_at_right h = (right_is h).0

  pub step_left : (out next : List Range) → i < length a → (j < length b → (get_or a i d).from ≤ (get_or b j d).from) → Joining a b out (drop i a) (drop j b) → IsSeparate next → ((w : ℕ) → contains next w ≡ (contains out w || is_in (get_or a i d) w)) → LastBeginsBy next (get_or a i d).from → Joining a b next (drop (i + 1) a) (drop j b)
  step_left out next h f w s m l = joining_left a b out next (drop (i + 1) a) (drop j b) (get_or a i d) (subst (λ xs. Joining a b out xs (drop j b)) (drop_more a i d h) w) (left_is h) (begin_from_at b j d (get_or a i d).from f) s m l

  pub step_right : (out next : List Range) → j < length b → (i < length a → (get_or b j d).from ≤ (get_or a i d).from) → Joining a b out (drop i a) (drop j b) → IsSeparate next → ((w : ℕ) → contains next w ≡ (contains out w || is_in (get_or b j d) w)) → LastBeginsBy next (get_or b j d).from → Joining a b next (drop i a) (drop (j + 1) b)
  step_right out next h f w s m l = joining_right a b out next (drop i a) (drop (j + 1) b) (get_or b j d) (subst (λ xs. Joining a b out (drop i a) xs) (drop_more b j d h) w) (right_is h) (begin_from_at a i d (get_or b j d).from f) s m l

  both_left : (out : List Range) → i < length a → j < length b → Meeting a b out (drop i a) (drop j b) → Meeting a b out (get_or a i d ∷ drop (i + 1) a) (get_or b j d ∷ drop (j + 1) b)
  both_left out h k w = subst (λ xs. Meeting a b out xs (get_or b j d ∷ drop (j + 1) b)) (drop_more a i d h) (subst (λ xs. Meeting a b out (drop i a) xs) (drop_more b j d k) w)

  pub meet_left : (out next : List Range) → i < length a → j < length b → ((w : ℕ) → is_before w (get_or a i d).to ≡ true → is_before w (get_or b j d).to ≡ true) → Meeting a b out (drop i a) (drop j b) → IsSeparate next → ((w : ℕ) → contains next w ≡ (contains out w || (is_in (get_or a i d) w && is_in (get_or b j d) w))) → LastBeginsBy next (max (get_or a i d).from (get_or b j d).from) → Meeting a b next (drop (i + 1) a) (drop j b)
  meet_left out next h k f w s m l = subst (λ xs. Meeting a b next (drop (i + 1) a) xs) (sym (drop_more b j d k)) (meeting_left a b out next (drop (i + 1) a) (drop (j + 1) b) (get_or a i d) (get_or b j d) (both_left out h k w) (left_is h) (right_is k) f s m l)

  pub meet_right : (out next : List Range) → i < length a → j < length b → ((w : ℕ) → is_before w (get_or b j d).to ≡ true → is_before w (get_or a i d).to ≡ true) → Meeting a b out (drop i a) (drop j b) → IsSeparate next → ((w : ℕ) → contains next w ≡ (contains out w || (is_in (get_or a i d) w && is_in (get_or b j d) w))) → LastBeginsBy next (max (get_or a i d).from (get_or b j d).from) → Meeting a b next (drop i a) (drop (j + 1) b)
  meet_right out next h k f w s m l = subst (λ xs. Meeting a b next xs (drop (j + 1) b)) (sym (drop_more a i d h)) (meeting_right a b out next (drop (i + 1) a) (drop (j + 1) b) (get_or a i d) (get_or b j d) (both_left out h k w) (left_is h) (right_is k) f s m l)
