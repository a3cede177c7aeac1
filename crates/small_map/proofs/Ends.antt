-- Look-ups where an entry is put or taken at the end.
use Rattle.std.proofs.Common.{◌≡◌, ◌∙◌, ◌++◌, ℕ, Bool, true, false, cond, nat_eq, List, [], ◌∷◌, Option, None, Some, refl, sym, ap}
use Rattle.std.proofs.lemmas.Cmp.{nat_eq_equiv}
use Rattle.std.proofs.lemmas.Bool.{eqb-true}
use Rattle.std.specs.Map.{lookup}
use Rattle.small_map.specs.SmallMap.{Updates}

abbrev or_last : {X : Type 0} → Option X → Option X → Option X
or_last None y = y
or_last (Some x) y = Some x

or_last-cond : {X : Type 0} (b : Bool) (x : X) (o y : Option X) → cond b (Some x) (or_last o y) ≡ or_last (cond b (Some x) o) y
or_last-cond true x o y = refl
or_last-cond false x o y = refl

module _ {V : Type 0} where
  found_last : (test : ℕ → Bool) (es : List (ℕ × V)) (m : ℕ) (w : V) → lookup test (es ++ (m, w) ∷ []) ≡ or_last (lookup test es) (cond (test m) (Some w) None)
  found_last test [] m w = refl
  found_last test (e ∷ es) m w = ap (cond (test e.0) (Some e.1)) (found_last test es m w) ∙ or_last-cond (test e.0) e.1 (lookup test es) (cond (test m) (Some w) None)

  -- the last entry is that of the number
  pub value_of_last : (n : ℕ) (es fs : List (ℕ × V)) (w : V) → fs ≡ es ++ (n, w) ∷ [] → lookup (nat_eq n) es ≡ None → Some w ≡ lookup (nat_eq n) fs
  value_of_last n es fs w e a =
      sym (ap (lookup (nat_eq n)) e ∙ (found_last (nat_eq n) es n w
      ∙ ((λ i. or_last (a i) (cond (nat_eq_equiv.refl n i) (Some w) None)))))

  by_same : (b c : Bool) → b ≡ c → (o : Option V) (w : V) → (b ≡ true → o ≡ None) → o ≡ cond b None (or_last o (cond c (Some w) None))
  by_same true c e o w n = n refl
  by_same false true e o w n = cc
  by_same false false e None w n = refl
  by_same false false e (Some x) w n = refl

  pub updates_of_last : (n : ℕ) (es fs : List (ℕ × V)) (w : V) → fs ≡ es ++ (n, w) ∷ [] → lookup (nat_eq n) es ≡ None → Updates fs es n None
  updates_of_last n es fs w e a = λ q.
      by_same (nat_eq n q) (nat_eq q n) (nat_eq_equiv.symm n q) (lookup (nat_eq q) es) w (λ s. ap (λ k. lookup (nat_eq k) es) (sym (eqb-true n q s)) ∙ a)
      ∙ ap (cond (nat_eq n q) None) (sym (ap (lookup (nat_eq q)) e ∙ found_last (nat_eq q) es n w))

  -- the last entry is another number's
  pub value_before_last : (n m : ℕ) (es fs : List (ℕ × V)) (w : V) → fs ≡ es ++ (m, w) ∷ [] → nat_eq n m ≡ false → lookup (nat_eq n) es ≡ lookup (nat_eq n) fs
  value_before_last n m es fs w e d =
      sym (ap (lookup (nat_eq n)) e ∙ (found_last (nat_eq n) es m w ∙ (ap (λ b. or_last (lookup (nat_eq n) es) (cond b (Some w) None)) d ∙ or_none (lookup (nat_eq n) es))))
    where
      or_none : (o : Option V) → or_last o None ≡ o
      or_none None = refl
      or_none (Some x) = refl

  by_other : (b c : Bool) → (b ≡ true → c ≡ false) → (o : Option V) (w : V) → or_last (cond b None o) (cond c (Some w) None) ≡ cond b None (or_last o (cond c (Some w) None))
  by_other false c n o w = refl
  by_other true c n o w = ap (λ d. cond d (Some w) None) (n refl)

  pub updates_before_last : (n m : ℕ) (es ds fs gs : List (ℕ × V)) (w : V) → fs ≡ es ++ (m, w) ∷ [] → gs ≡ ds ++ (m, w) ∷ [] → nat_eq n m ≡ false → Updates es ds n None → Updates fs gs n None
  updates_before_last n m es ds fs gs w e f d u = λ q.
      ap (lookup (nat_eq q)) f ∙ (found_last (nat_eq q) ds m w
      ∙ (ap (λ o. or_last o (cond (nat_eq q m) (Some w) None)) (u q)
      ∙ (by_other (nat_eq n q) (nat_eq q m) (λ s. sym (nat_eq_equiv.congr n q m s) ∙ d) (lookup (nat_eq q) es) w
      ∙ ap (cond (nat_eq n q) None) (sym (ap (lookup (nat_eq q)) e ∙ found_last (nat_eq q) es m w)))))

  -- a number is put last, after it was taken out
  by_put : (b c : Bool) → b ≡ c → (o : Option V) (v : V) → or_last (cond b None o) (cond c (Some v) None) ≡ cond b (Some v) o
  by_put true true e o v = refl
  by_put true false e o v = cc
  by_put false true e o v = cc
  by_put false false e None v = refl
  by_put false false e (Some x) v = refl

  pub updates_put_last : (n : ℕ) (es ds gs : List (ℕ × V)) (v : V) → Updates es ds n None → gs ≡ ds ++ (n, v) ∷ [] → Updates es gs n (Some v)
  updates_put_last n es ds gs v u f = λ q.
      ap (lookup (nat_eq q)) f ∙ (found_last (nat_eq q) ds n v
      ∙ (ap (λ o. or_last o (cond (nat_eq q n) (Some v) None)) (u q)
      ∙ by_put (nat_eq n q) (nat_eq q n) (nat_eq_equiv.symm n q) (lookup (nat_eq q) es) v))

  -- a number that was taken out is not there
  pub absent_after : (n : ℕ) (es ds : List (ℕ × V)) → Updates es ds n None → lookup (nat_eq n) ds ≡ None
  absent_after n es ds u = u n ∙ ap (λ b. cond b None (lookup (nat_eq n) es)) (nat_eq_equiv.refl n)
