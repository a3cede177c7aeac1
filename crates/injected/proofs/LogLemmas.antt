-- The cells of a log are its inputs.
use Rattle.std.proofs.Common.{◌≡◌, ◌≤◌, ◌+◌, ◌++◌, ℕ, zero, suc, Bool, cond, List, [], ◌∷◌, length, take, Option, Some, None, refl, ap, sym, ◌∙◌, arith, unwrap_or}
use Rattle.std.specs.Map.{lookup}
use Rattle.std.proofs.lemmas.Bool.{le-leb, lt-leb}
use Rattle.std.proofs.lemmas.List.{append_assoc, take_all}
use Rattle.dice_key.specs.Meaning.{Meaning}
use Rattle.dice_model.specs.Log.{input, last_value_of}
use Rattle.injected.specs.History.{value_at, newest_of}
use Rattle.injected.specs.Seen.{Seen, sets_at, cell_at, newest_at}
use Rattle.injected.specs.Inputs.{set_if, sets_from, AreOf}

module _ {K V : Type 0} (eq : K → K → Bool) where
  sets_more : (n : ℕ) (C : List (List (K × V))) (c : List (K × V)) (k : K) → sets_from eq n (C ++ c ∷ []) k ≡ sets_from eq n C k ++ set_if (suc (n + length C)) (lookup (eq k) c)
  sets_more n [] c k = last (lookup (eq k) c) (n + 0) (omega arith)
    where
      last : (o : Option V) (m : ℕ) → m ≡ n → set_if (suc n) o ++ [] ≡ set_if (suc m) o
      last None m e = refl
      last (Some x) m e = ap (λ i. (suc i, x) ∷ []) (sym e)
  sets_more n (d ∷ ds) c k =
      let e : suc n + length ds ≡ n + suc (length ds) = omega arith in
      ap (λ ss. set_if (suc n) (lookup (eq k) d) ++ ss) (sets_more (suc n) ds c k ∙ ap (λ i. sets_from eq (suc n) ds k ++ set_if (suc i) (lookup (eq k) c)) e)
      ∙ sym (append_assoc (set_if (suc n) (lookup (eq k) d)) (sets_from eq (suc n) ds k) (set_if (suc (n + length (d ∷ ds))) (lookup (eq k) c)))

  pub log_more : (C : List (List (K × V))) (c : List (K × V)) (s t : Seen K V) → AreOf eq C s → ((k : K) → sets_at eq t k ≡ sets_at eq s k ++ set_if (suc (length C)) (lookup (eq k) c)) → AreOf eq (C ++ c ∷ []) t
  log_more C c s t a f k =
      let e : length C ≡ 0 + length C = omega arith in
      f k ∙ (ap (λ ss. ss ++ set_if (suc (length C)) (lookup (eq k) c)) (a k) ∙ (ap (λ i. sets_from eq 0 C k ++ set_if (suc i) (lookup (eq k) c)) e ∙ sym (sets_more 0 C c k)))

  -- sets of later commits do not matter at a version
  later_sets : (n : ℕ) (C : List (List (K × V))) (k : K) (x : V) (v : ℕ) → v ≤ n → value_at x (sets_from eq n C k) v ≡ x
  later_sets n [] k x v l = refl
  later_sets n (c ∷ cs) k x v l = skip (lookup (eq k) c) ∙ later_sets (suc n) cs k x v (omega arith)
    where
      skip : (o : Option V) → value_at x (set_if (suc n) o ++ sets_from eq (suc n) cs k) v ≡ value_at x (sets_from eq (suc n) cs k) v
      skip None = refl
      skip (Some y) = ap (λ b. value_at (cond b y x) (sets_from eq (suc n) cs k) v) (lt-leb (suc n) v (omega arith))

  -- at version n + i, if n commits came before, the first i commits decide
  value_is : (n i : ℕ) (C : List (List (K × V))) (k : K) (x : V) (v : ℕ) → v ≡ n + i → value_at x (sets_from eq n C k) v ≡ last_value_of (eq k) x (take i C)
  value_is n zero C k x v e = later_sets n C k x v (omega arith)
  value_is n (suc i) [] k x v e = refl
  value_is n (suc i) (c ∷ cs) k x v e = by_commit (lookup (eq k) c) (λ y. value_is (suc n) i cs k y v (omega arith))
    where
      by_commit : (o : Option V) → ((y : V) → value_at y (sets_from eq (suc n) cs k) v ≡ last_value_of (eq k) y (take i cs)) → value_at x (set_if (suc n) o ++ sets_from eq (suc n) cs k) v ≡ last_value_of (eq k) (unwrap_or o x) (take i cs)
      by_commit None again = again x
      by_commit (Some y) again = ap (λ b. value_at (cond b y x) (sets_from eq (suc n) cs k) v) (le-leb (suc n) v (omega arith)) ∙ again y

  newest_is : (n : ℕ) (C : List (List (K × V))) (k : K) (x : V) → newest_of x (sets_from eq n C k) ≡ last_value_of (eq k) x C
  newest_is n [] k x = refl
  newest_is n (c ∷ cs) k x = by_commit (lookup (eq k) c) (newest_is (suc n) cs k)
    where
      by_commit : (o : Option V) → ((y : V) → newest_of y (sets_from eq (suc n) cs k) ≡ last_value_of (eq k) y cs) → newest_of x (set_if (suc n) o ++ sets_from eq (suc n) cs k) ≡ last_value_of (eq k) (unwrap_or o x) cs
      by_commit None again = again x
      by_commit (Some y) again = again y

  module _ (m : Meaning K V) where
    pub log_inputs : (C : List (List (K × V))) (s : Seen K V) → AreOf eq C s → (v : ℕ) (k : K) → cell_at eq m s v k ≡ input eq m C v k
    log_inputs C s a v k = ap (λ h. value_at (m.absent k) h v) (a k) ∙ value_is 0 v C k (m.absent k) v (omega arith)

    pub log_newest : (C : List (List (K × V))) (s : Seen K V) → AreOf eq C s → (k : K) → newest_at eq m s k ≡ input eq m C (length C) k
    log_newest C s a k = ap (newest_of (m.absent k)) (a k) ∙ (newest_is 0 C k (m.absent k) ∙ ap (last_value_of (eq k) (m.absent k)) (sym (take_all (length C) C (omega arith))))
