-- A walk over sets that say from which version on versions belong, and collects those that do.
use Rattle.std.proofs.Common.{◌≡◌, ◌≤◌, ◌<◌, ℕ, Bool, true, false, ◌&&◌, ◌||◌, ◌↔◌, IsTrue, cond, leb, ltb, List, [], ◌∷◌, max, Some, None, refl, ap, sym, ◌∙◌, inl, inr, arith}
use Rattle.std.proofs.lemmas.Bool.{le-leb, lt-leb, lt-ltb, le-ltb, cases_lt}
use Rattle.version_ranges.specs.declared.half_open.Range.{Range}
use Rattle.version_ranges.specs.Members.{contains, is_in, is_open}
use Rattle.injected.specs.History.{value_at, newest_of, IsRising}
use Rattle.injected.proofs.Histories.{unmoved}

-- the first set that is left, if there is one, lies at a version or above
abbrev pub FirstFrom : {V : Type 0} → ℕ → List (ℕ × V) → Type 0
FirstFrom v [] = Unit {0}
FirstFrom v (s ∷ ss) = v ≤ s.0

-- below `from` the ranges have the versions that belong, and from there on none; there x says whether they belong, until the next set
pub record Walked (a : Bool) (h : List (ℕ × Bool)) (ranges : List Range) (from : ℕ) (x : Bool) (rest : List (ℕ × Bool)) : Type 0 where
  pub done : (w : ℕ) → w < from → contains ranges w ≡ value_at a h w
  pub clear : (w : ℕ) → from ≤ w → contains ranges w ≡ false
  pub ahead : (w : ℕ) → from ≤ w → value_at a h w ≡ value_at x rest w
  pub newest : newest_of a h ≡ newest_of x rest
  pub first : FirstFrom from rest
  pub rising : IsRising rest

pub start : (a : Bool) (h : List (ℕ × Bool)) → IsRising h → Walked a h [] 0 a h
start a h r = record {
  done = λ w l. absurd (omega arith);
  clear = λ w l. refl;
  ahead = λ w l. refl;
  newest = refl;
  first = from_none h;
  rising = r;
}
  where
    from_none : (h : List (ℕ × Bool)) → FirstFrom 0 h
    from_none [] = tt
    from_none (s ∷ ss) = omega arith

in_part : (from to w : ℕ) → from ≤ w → w < to → is_in record { from = from; to = Some to } w ≡ true
in_part from to w l h = ap (λ b. b && ltb w to) (le-leb from w l) ∙ lt-ltb w to h

not_yet : (r : Range) (w : ℕ) → w < r.from → is_in r w ≡ false
not_yet r w l = ap (λ b. b && Rattle.version_ranges.specs.Members.is_before w r.to) (lt-leb r.from w l)

no_more : (from to w : ℕ) → to ≤ w → is_in record { from = from; to = Some to } w ≡ false
no_more from to w l = ap (λ b. leb from w && b) (le-ltb w to l) ∙ none (leb from w)
  where
    none : (b : Bool) → (b && false) ≡ false
    none true = refl
    none false = refl

or_none : (a b : Bool) → (a || (b && false)) ≡ a
or_none true b = refl
or_none false true = refl
or_none false false = refl

and_all : (a b : Bool) → a ≡ false → (a || (b && true)) ≡ b
and_all true b e = cc
and_all false true e = refl
and_all false false e = refl

module _ (a : Bool) (h : List (ℕ × Bool)) (ranges next : List Range) (from : ℕ) (x : Bool) where
  pub step : (s : ℕ × Bool) (rest : List (ℕ × Bool)) → Walked a h ranges from x (s ∷ rest) → ((w : ℕ) → contains next w ≡ (contains ranges w || (x && is_in record { from = from; to = Some s.0 } w))) → Walked a h next s.0 s.1 rest
  step s rest k e = record {
    done = λ w l. elim (cases_lt w from) as (λ _. contains next w ≡ value_at a h w) [
      | inl b ↦ e w ∙ (ap (λ c. contains ranges w || (x && c)) (not_yet record { from = from; to = Some s.0 } w b) ∙ (or_none (contains ranges w) x ∙ k.done w b))
      | inr b ↦ e w ∙ (ap (λ c. contains ranges w || (x && c)) (in_part from s.0 w b l) ∙ (and_all (contains ranges w) x (k.clear w b) ∙ sym (k.ahead w b ∙ unmoved x (s ∷ rest) w l k.rising)))
    ];
    clear = λ w l. e w ∙ (ap (λ c. contains ranges w || (x && c)) (no_more from s.0 w l) ∙ (or_none (contains ranges w) x ∙ k.clear w (later w l)));
    ahead = λ w l. k.ahead w (later w l) ∙ ap (λ c. value_at (cond c s.1 x) rest w) (le-leb s.0 w l);
    newest = k.newest;
    first = first_from rest k.rising;
    rising = k.rising.1;
  }
    where
      later : (w : ℕ) → s.0 ≤ w → from ≤ w
      later w l = omega (arith, k.first)

      first_from : (rest : List (ℕ × Bool)) → IsRising (s ∷ rest) → FirstFrom s.0 rest
      first_from [] r = tt
      first_from (t ∷ ts) r = omega (arith, r.0)

  -- the last value goes on for ever
  pub walked_members : Walked a h ranges from x [] → ((w : ℕ) → contains next w ≡ (contains ranges w || (x && is_in record { from = from; to = None } w))) → (w : ℕ) → contains next w ≡ value_at a h w
  walked_members k e w = elim (cases_lt w from) as (λ _. contains next w ≡ value_at a h w) [
    | inl b ↦ e w ∙ (ap (λ c. contains ranges w || (x && c)) (not_yet record { from = from; to = None } w b) ∙ (or_none (contains ranges w) x ∙ k.done w b))
    | inr b ↦ e w ∙ (ap (λ c. contains ranges w || (x && c)) (in_tail w b) ∙ (and_all (contains ranges w) x (k.clear w b) ∙ sym (k.ahead w b)))
  ]
    where
      in_tail : (w : ℕ) → from ≤ w → is_in record { from = from; to = None } w ≡ true
      in_tail w l = ap (λ b. b && true) (le-leb from w l)

  pub walked_tail : Walked a h ranges from x [] → ((w : ℕ) → contains next w ≡ value_at a h w) → (IsTrue (is_open next) ↔ ((v : ℕ) × ((w : ℕ) → v ≤ w → contains next w ≡ true))) → is_open next ≡ newest_of a h
  walked_tail k m o = by_tests (is_open next) (newest_of a h) (λ t. forth (o.0 t)) (λ t. o.1 (from, λ w l. at_end w l ∙ t))
    where
      at_end : (w : ℕ) → from ≤ w → contains next w ≡ newest_of a h
      at_end w l = m w ∙ (k.ahead w l ∙ sym k.newest)

      forth : (v : ℕ) × ((w : ℕ) → v ≤ w → contains next w ≡ true) → newest_of a h ≡ true
      forth t = sym (at_end (max t.0 from) (omega arith)) ∙ t.1 (max t.0 from) (omega arith)

      by_tests : (p q : Bool) → (p ≡ true → q ≡ true) → (q ≡ true → p ≡ true) → p ≡ q
      by_tests true q f g = sym (f refl)
      by_tests false true f g = g refl
      by_tests false false f g = refl
