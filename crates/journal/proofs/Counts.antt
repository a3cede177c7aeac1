-- The number of open transactions at a version is 0 exactly if none is open there.
use Rattle.std.proofs.Common.{◌≡◌, ◌≤◌, ◌<◌, ◌+◌, ℕ, zero, suc, Bool, true, false, cond, eqb, List, [], ◌∷◌, length, Option, Some, None, refl, sym, ap, ◌∙◌, subst, arith, eqb-true, eq-eqb, leb, ltb, leb-true, leb-false, ltb-true, ltb-false}
use Rattle.std.proofs.lemmas.Option.{none-some}
use Rattle.journal.specs.declared.event.Told.{Told}
use Rattle.journal.specs.declared.event.Told.TheVariants.{Commit, Open, Close, Ask, Leave, Start, Keep, End, Cyclic, Drop, Lost}
use Rattle.journal.specs.Events.{Opened, ClosesOpen, is_for, one_if, open_at, opened_at, open_count}

-- how many of the first n pass
abbrev pub passing : (ℕ → Bool) → ℕ → ℕ
passing f zero = 0
passing f (suc n) = passing f n + one_if (f n)

passing_same : (f g : ℕ → Bool) (n : ℕ) → ((i : ℕ) → i < n → f i ≡ g i) → passing f n ≡ passing g n
passing_same f g zero h = refl
passing_same f g (suc n) h = let a = passing_same f g n (λ i l. h i (omega arith)) in let b : one_if (f n) ≡ one_if (g n) = ap one_if (h n (omega arith)) in omega arith

passing_less : (f g : ℕ → Bool) (t n : ℕ) → t < n → g t ≡ false → ((i : ℕ) → (t ≡ i → ⊥) → g i ≡ f i) → passing g n + one_if (f t) ≡ passing f n
passing_less f g t zero l z h = absurd (omega arith)
passing_less f g t (suc n) l z h = by_place (eqb t n) refl (λ k. passing_less f g t n k z h)
  where
    by_place : (b : Bool) → eqb t n ≡ b → (t < n → passing g n + one_if (f t) ≡ passing f n) → passing g (suc n) + one_if (f t) ≡ passing f (suc n)
    by_place true e again =
        let a : t ≡ n = eqb-true t n e in
        let b = passing_same g f n (λ i k. h i (λ q. omega arith)) in
        let c : one_if (g n) ≡ 0 = ap one_if (subst (λ x. g x ≡ false) a z) in
        let d : one_if (f t) ≡ one_if (f n) = ap (λ x. one_if (f x)) a in
        omega arith
    by_place false e again =
        let n_is : t ≡ n → ⊥ = λ q. (let x : true ≡ false = sym (eq-eqb t n q) ∙ e in cc) in
        let r = again (not_last n_is) in
        let c : one_if (g n) ≡ one_if (f n) = ap one_if (h n n_is) in
        omega arith
      where
        not_last : (t ≡ n → ⊥) → t < n
        not_last q = by_leb (leb t n) refl
          where
            by_leb : (b : Bool) → leb t n ≡ b → t < n
            by_leb true x = strictly (ltb t n) refl
              where
                strictly : (b : Bool) → ltb t n ≡ b → t < n
                strictly true y = ltb-true t n y
                strictly false y = absurd (q (let u = ltb-false t n y in let w = leb-true t n x in omega arith))
            by_leb false x = absurd (let u = leb-false t n x in omega arith)

passing_none : (f : ℕ → Bool) (n : ℕ) → ((i : ℕ) → f i ≡ false) → passing f n ≡ 0
passing_none f zero h = refl
passing_none f (suc n) h = let a = passing_none f n h in let b : one_if (f n) ≡ 0 = ap one_if (h n) in omega arith

passing_some : (f : ℕ → Bool) (i n : ℕ) → i < n → f i ≡ true → 1 ≤ passing f n
passing_some f i n l e =
    let r = passing_less f (λ j. cond (eqb i j) false (f j)) i n l (ap (λ b. cond b false (f i)) (eq-eqb i i refl)) (λ j q. by_test j (eqb i j) refl q) in
    let o : one_if (f i) ≡ 1 = ap one_if e in omega arith
  where
    by_test : (j : ℕ) (b : Bool) → eqb i j ≡ b → (i ≡ j → ⊥) → cond b false (f j) ≡ f j
    by_test j true e q = absurd (q (eqb-true i j e))
    by_test j false e q = refl

shorter : (n i : ℕ) → suc n ≤ i → n ≤ i
shorter n i l = omega arith

module _ {K V : Type 0} where
  -- no transaction of an index that is not reached yet
  beyond : (R : List (Told K V)) (i : ℕ) → length R ≤ i → open_at R i ≡ None
  beyond [] i l = refl
  beyond (Open by v ∷ R) i l = by_test (eqb (length R) i) refl (beyond R i (let z : length (Open by v ∷ R) ≡ suc (length R) = refl in omega arith))
    where
      by_test : (b : Bool) → eqb (length R) i ≡ b → open_at R i ≡ None → cond b (Some (record { by = by; version = v })) (open_at R i) ≡ None
      by_test true e n = absurd (let a = eqb-true (length R) i e in let z : length (Open by v ∷ R) ≡ suc (length R) = refl in omega arith)
      by_test false e n = n
  beyond (Close by t ∷ R) i l = by_test (eqb t i) (beyond R i (let z : length (Close by t ∷ R) ≡ suc (length R) = refl in omega arith))
    where
      by_test : (b : Bool) → open_at R i ≡ None → cond b None (open_at R i) ≡ None
      by_test true n = refl
      by_test false n = n
  beyond (Commit by c ∷ R) i l = beyond R i (shorter (length R) i l)
  beyond (Ask by t k ∷ R) i l = beyond R i (shorter (length R) i l)
  beyond (Leave by a ∷ R) i l = beyond R i (shorter (length R) i l)
  beyond (Start v k c ∷ R) i l = beyond R i (shorter (length R) i l)
  beyond (Keep v k b ∷ R) i l = beyond R i (shorter (length R) i l)
  beyond (End v k ∷ R) i l = beyond R i (shorter (length R) i l)
  beyond (Cyclic v k ∷ R) i l = beyond R i (shorter (length R) i l)
  beyond (Drop v k ∷ R) i l = beyond R i (shorter (length R) i l)
  beyond (Lost v k ∷ R) i l = beyond R i (shorter (length R) i l)

  module _ (v : ℕ) where
    other : (R S : List (Told K V)) → length S ≡ suc (length R) → ((i : ℕ) → open_at S i ≡ open_at R i) → open_count R v ≡ passing (opened_at R v) (length R) → open_count R v ≡ passing (opened_at S v) (length S)
    other R S l o h =
        let a : passing (opened_at S v) (length S) ≡ passing (opened_at S v) (suc (length R)) = ap (passing (opened_at S v)) l in
        let b : passing (opened_at S v) (length R) ≡ passing (opened_at R v) (length R) = passing_same (opened_at S v) (opened_at R v) (length R) (λ i k. ap (is_for (λ o. eqb o.version v)) (o i)) in
        let c : one_if (opened_at S v (length R)) ≡ 0 = ap (λ x. one_if (is_for (λ o. eqb o.version v) x)) (o (length R) ∙ beyond R (length R) (omega arith)) in
        let d : passing (opened_at S v) (suc (length R)) ≡ passing (opened_at S v) (length R) + one_if (opened_at S v (length R)) = refl in
        omega arith

    -- the count is that of the indices of open transactions
    pub count_is : (R : List (Told K V)) → ClosesOpen R → open_count R v ≡ passing (opened_at R v) (length R)
    count_is [] c = refl
    count_is (Open by w ∷ R) c =
        let h = count_is R c in
        let f = opened_at (Open by w ∷ R) v in
        let b : passing f (length R) ≡ passing (opened_at R v) (length R) = passing_same f (opened_at R v) (length R) (λ i k. ap (λ x. is_for (λ o. eqb o.version v) (cond x (Some (record { by = by; version = w })) (open_at R i))) (apart i k)) in
        let d : one_if (f (length R)) ≡ one_if (eqb w v) = ap (λ x. one_if (is_for (λ (o : Opened). eqb o.version v) (cond x (Some (record { by = by; version = w })) (open_at R (length R))))) (eq-eqb (length R) (length R) refl) in
        omega arith
      where
        apart : (i : ℕ) → i < length R → eqb (length R) i ≡ false
        apart i k = by_bool (eqb (length R) i) refl
          where
            by_bool : (b : Bool) → eqb (length R) i ≡ b → b ≡ false
            by_bool true e = absurd (let a = eqb-true (length R) i e in omega arith)
            by_bool false e = refl
    count_is (Close by t ∷ R) c =
        let h = count_is R c.1 in
        let f = opened_at R v in
        let g = opened_at (Close by t ∷ R) v in
        let r = passing_less f g t (length R) (known (open_at R t) refl c.0) (ap (λ b. is_for (λ (o : Opened). eqb o.version v) (cond b None (open_at R t))) (eq-eqb t t refl)) (λ i q. by_test i (eqb t i) refl q) in
        let d : one_if (g (length R)) ≡ 0 = by_last (eqb t (length R)) in
        omega arith
      where
        known : (o : Option Opened) → open_at R t ≡ o → (x : Opened) × (open_at R t ≡ Some x) → t < length R
        known o e x = by_ltb (ltb t (length R)) refl
          where
            by_ltb : (b : Bool) → ltb t (length R) ≡ b → t < length R
            by_ltb true y = ltb-true t (length R) y
            by_ltb false y = absurd (none-some x.0 (sym (beyond R t (let u = ltb-false t (length R) y in omega arith)) ∙ x.1))

        by_test : (i : ℕ) (b : Bool) → eqb t i ≡ b → (t ≡ i → ⊥) → is_for (λ (o : Opened). eqb o.version v) (cond b None (open_at R i)) ≡ opened_at R v i
        by_test i true e q = absurd (q (eqb-true t i e))
        by_test i false e q = refl

        by_last : (b : Bool) → one_if (is_for (λ (o : Opened). eqb o.version v) (cond b None (open_at R (length R)))) ≡ 0
        by_last true = refl
        by_last false = ap (λ x. one_if (is_for (λ (o : Opened). eqb o.version v) x)) (beyond R (length R) (omega arith))
    count_is (Commit by c ∷ R) d = other R (Commit by c ∷ R) refl (λ i. refl) (count_is R d)
    count_is (Ask by t k ∷ R) d = other R (Ask by t k ∷ R) refl (λ i. refl) (count_is R d)
    count_is (Leave by a ∷ R) d = other R (Leave by a ∷ R) refl (λ i. refl) (count_is R d)
    count_is (Start v k c ∷ R) d = other R (Start v k c ∷ R) refl (λ i. refl) (count_is R d)
    count_is (Keep v k b ∷ R) d = other R (Keep v k b ∷ R) refl (λ i. refl) (count_is R d)
    count_is (End v k ∷ R) d = other R (End v k ∷ R) refl (λ i. refl) (count_is R d)
    count_is (Cyclic v k ∷ R) d = other R (Cyclic v k ∷ R) refl (λ i. refl) (count_is R d)
    count_is (Drop v k ∷ R) d = other R (Drop v k ∷ R) refl (λ i. refl) (count_is R d)
    count_is (Lost v k ∷ R) d = other R (Lost v k ∷ R) refl (λ i. refl) (count_is R d)

    -- an Open finds no open transaction at v exactly if the count is 0
    pub none_open : (R : List (Told K V)) → ClosesOpen R → open_count R v ≡ 0 → (i : ℕ) → opened_at R v i ≡ false
    none_open R c z i = by_bool (opened_at R v i) refl
      where
        within : opened_at R v i ≡ true → i < length R
        within e = by_ltb (ltb i (length R)) refl
          where
            by_ltb : (b : Bool) → ltb i (length R) ≡ b → i < length R
            by_ltb true y = ltb-true i (length R) y
            by_ltb false y = absurd (let n = beyond R i (let u = ltb-false i (length R) y in omega arith) in let f : false ≡ true = sym (ap (is_for (λ (o : Opened). eqb o.version v)) n) ∙ e in cc)

        by_bool : (b : Bool) → opened_at R v i ≡ b → b ≡ false
        by_bool true e = absurd (let a = passing_some (opened_at R v) i (length R) (within e) e in let h = count_is R c in omega arith)
        by_bool false e = refl

    pub open_none : (R : List (Told K V)) → ClosesOpen R → ((i : ℕ) → opened_at R v i ≡ false) → open_count R v ≡ 0
    open_none R c h = count_is R c ∙ passing_none (opened_at R v) (length R) h
