-- Ends of ranges, and lists of ranges in order.
use Rattle.std.proofs.Common.{◌≡◌, ◌≤◌, ◌<◌, ℕ, zero, suc, true, false, ◌||◌, leb, List, [], ◌∷◌, ◌++◌, drop, Option, Some, None, refl, ap, sym, ◌∙◌, inl, inr, arith}
use Rattle.std.proofs.lemmas.Bool.{ltb-true, leb-true, ltb-false, lt-ltb, le-leb, or_cases, and_parts, and_from}
use Rattle.version_ranges.specs.declared.half_open.Range.{Range}
use Rattle.version_ranges.specs.Members.{is_before, is_in, contains}
use Rattle.version_ranges.specs.Order.{ends_below, BeginAbove, IsSeparate}
use Rattle.std.proofs.Math.Bool.{or_assoc}

pub below_up : (e : Option ℕ) (v w : ℕ) → ends_below e v ≡ true → v ≤ w → ends_below e w ≡ true
below_up None v w h l = cc
below_up (Some t) v w h l = lt-ltb t w (omega (arith, ltb-true t v h))

-- a version before an end that lies below another
pub before_below : (e : Option ℕ) (v w : ℕ) → is_before v e ≡ true → ends_below e w ≡ true → v < w
before_below None v w b h = cc
before_below (Some t) v w b h = omega (arith, ltb-true v t b, ltb-true t w h)

-- an end that does not lie below a version: what comes after that version begins by the end
pub not_below : (e : Option ℕ) (v w : ℕ) → ends_below e v ≡ false → is_before w e ≡ false → v ≤ w
not_below None v w h b = cc
not_below (Some t) v w h b = omega (arith, ltb-false t v h, ltb-false w t b)

pub before_down : (e : Option ℕ) (v w : ℕ) → v ≤ w → is_before w e ≡ true → is_before v e ≡ true
before_down None v w l h = refl
before_down (Some t) v w l h = lt-ltb v t (omega (arith, ltb-true w t h))

pub in_from : (r : Range) (w : ℕ) → is_in r w ≡ true → r.from ≤ w
in_from r w h = leb-true r.from w (and_parts (leb r.from w) (is_before w r.to) h).0

pub in_before : (r : Range) (w : ℕ) → is_in r w ≡ true → is_before w r.to ≡ true
in_before r w h = (and_parts (leb r.from w) (is_before w r.to) h).1

pub in_by : (r : Range) (w : ℕ) → r.from ≤ w → is_before w r.to ≡ true → is_in r w ≡ true
in_by r w l h = and_from (leb r.from w) (is_before w r.to) (le-leb r.from w l) h

-- all members lie above an end that the first range begins above
pub above : (e : Option ℕ) (rs : List Range) → BeginAbove e rs → IsSeparate rs → (w : ℕ) → contains rs w ≡ true → ends_below e w ≡ true
above e [] b s w h = cc
above e (r ∷ rs) b s w h =
    elim (or_cases (is_in r w) (contains rs w) h) as (λ _. ends_below e w ≡ true) [
      | inl i ↦ below_up e r.from w b (in_from r w i)
      | inr j ↦ below_up e r.from w b (omega (arith, before_below r.to r.from w s.0 (above r.to rs s.1 s.2 w j)))
    ]

-- no version is both before an end and among ranges above it
pub apart : (e : Option ℕ) (rs : List Range) → BeginAbove e rs → IsSeparate rs → (w : ℕ) → is_before w e ≡ true → contains rs w ≡ true → ⊥
apart e rs b s w i j = absurd (omega (arith, before_below e w w i (above e rs b s w j)))

pub separate-drop : (n : ℕ) (rs : List Range) → IsSeparate rs → IsSeparate (drop n rs)
separate-drop zero rs s = s
separate-drop (suc n) [] s = s
separate-drop (suc n) (r ∷ rs) s = separate-drop n rs s.2

pub contains-append : (rs ss : List Range) (w : ℕ) → contains (rs ++ ss) w ≡ (contains rs w || contains ss w)
contains-append [] ss w = refl
contains-append (r ∷ rs) ss w = ap (λ b. is_in r w || b) (contains-append rs ss w) ∙ sym (or_assoc (is_in r w) (contains rs w) (contains ss w))
