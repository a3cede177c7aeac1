-- The versions round one up to which a value stays, if there is no set or one.
use Rattle.std.proofs.Common.{◌≡◌, ◌≤◌, ◌<◌, ℕ, Bool, true, false, cond, leb, [], ◌∷◌, Some, None, refl, ap, sym, ◌∙◌, subst, inl, inr, arith}
use Rattle.std.proofs.lemmas.Bool.{cases_Bool, le-leb, lt-leb}
use Rattle.dice_key.specs.Lawful.{IsEquality}
use Rattle.version_ranges.specs.Members.{is_in}
use Rattle.version_ranges.proofs.Ends.{in_from}
use Rattle.version_ranges.proofs.Rounds.{from_between, in_to, is_open_in, is_closed_in, round_is}
use Rattle.injected.specs.History.{value_at}
use Rattle.injected.specs.Rounds.{stays}

-- there is no set
pub never_set : {V : Type 0} (eq : V → V → Bool) → IsEquality eq → (a : V) (v w : ℕ) → stays eq (value_at a []) v w ≡ true
never_set eq laws a v w = from_between (λ u. eq a a) v w (λ u p q. laws.itself a) (λ u p q. laws.itself a)

-- there is one
module _ {V : Type 0} (eq : V → V → Bool) (laws : IsEquality eq) (a x : V) (s v : ℕ) where
  abbrev at : ℕ → V
  at = value_at a ((s, x) ∷ [])

  abbrev test : ℕ → Bool
  test u = eq (at u) (at v)

  before : (u : ℕ) → u < s → at u ≡ a
  before u l = ap (λ c. cond c x a) (lt-leb s u l)

  after : (u : ℕ) → s ≤ u → at u ≡ x
  after u l = ap (λ c. cond c x a) (le-leb s u l)

  tested : (u : ℕ) (y z : V) → at u ≡ y → at v ≡ z → test u ≡ eq y z
  tested u y z p q = ap (λ c. eq c (at v)) p ∙ ap (eq y) q

  flipped : eq a x ≡ false → eq x a ≡ false
  flipped n = elim (cases_Bool (eq x a)) as (λ _. eq x a ≡ false) [
    | inl t ↦ (let e : eq a x ≡ true = ap (eq a) (laws.same x a t) ∙ laws.itself a in absurd (let z : true ≡ false = sym e ∙ n in cc))
    | inr f ↦ f
  ]

  -- the set changes nothing
  pub all_sides : eq a x ≡ true → (w : ℕ) → is_in record { from = 0; to = None } w ≡ stays eq at v w
  all_sides e = round_is test 0 v (omega arith) (λ u q. absurd (omega arith)) None (is_open_in 0 v (omega arith)) (λ u i. tested u x x (same u) (same v) ∙ laws.itself x) (λ t q. absurd (let z : None ≡ Some t = q in cc))
    where
      either : (b : Bool) → cond b x a ≡ x
      either true = refl
      either false = laws.same a x e

      same : (u : ℕ) → at u ≡ x
      same u = either (leb s u)

  pub low_side : eq a x ≡ false → v < s → (w : ℕ) → is_in record { from = 0; to = Some s } w ≡ stays eq at v w
  low_side n l = round_is test 0 v (omega arith) (λ u q. absurd (omega arith)) (Some s) (is_closed_in 0 s v (omega arith) l)
      (λ u i. tested u a a (before u (in_to 0 s u i)) (before v l) ∙ laws.itself a)
      (λ t q. let e : s ≡ t = (let z : Some s ≡ Some t = q in cc) in subst (λ n. test n ≡ false) e (tested s x a (after s (omega arith)) (before v l) ∙ flipped n))

  pub high_side : eq a x ≡ false → s ≤ v → (w : ℕ) → is_in record { from = s; to = None } w ≡ stays eq at v w
  high_side n l = round_is test s v l (λ u q. tested u a x (before u (omega arith)) (after v l) ∙ n) None (is_open_in s v l)
      (λ u i. tested u x x (after u (in_from record { from = s; to = None } u i)) (after v l) ∙ laws.itself x)
      (λ t q. absurd (let z : None ≡ Some t = q in cc))
