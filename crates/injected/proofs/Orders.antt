-- Cells stay in order, and read as before if nothing was written.
use Rattle.std.proofs.Common.{◌≡◌, ◌<◌, ◌≤◌, ◌+◌, ◌++◌, ℕ, Bool, true, false, cond, max, List, [], ◌∷◌, Some, Result, OnOk, OnErr, refl, ap, sym, ◌∙◌, subst, inl, inr, arith}
use Rattle.std.specs.Map.{lookup}
use Rattle.std.proofs.lemmas.Bool.{cases_Bool}
use Rattle.std.proofs.lemmas.Result.{on_ok_weaker, on_err_weaker}
use Rattle.dice_key.specs.Lawful.{AreSame}
use Rattle.injected.specs.History.{AllBelow, IsRising}
use Rattle.injected.specs.Seen.{Cell, Seen, sets_in, room_in, sets_at, IsInOrder, Writes}
use Rattle.injected.proofs.Maps.{either_way}
use Rattle.injected.proofs.Histories.{rising_push, below_push, below_more}

-- a choice that goes the same way both times
cond_same : {X : Type 0} (b : Bool) (x y z : X) → (b ≡ true → x ≡ z) → (b ≡ false → y ≡ z) → cond b x y ≡ z
cond_same true x y z f g = f refl
cond_same false x y z f g = g refl

module _ {K V : Type 0} (eq : K → K → Bool) (s t : Seen K V) where
  pub kept_order : IsInOrder eq s → ((q : K) → sets_at eq t q ≡ sets_at eq s q) → s.last ≤ t.last → IsInOrder eq t
  kept_order o f l = record {
    rising = λ q. subst IsRising (sym (f q)) (o.rising q);
    bounded = λ q. subst (λ h. AllBelow h (t.last + 1)) (sym (f q)) (below_more (sets_at eq s q) (s.last + 1) (t.last + 1) (omega arith) (o.bounded q));
  }

  pub pushed_order : AreSame eq → IsInOrder eq s → (k : K) (v : ℕ) (x : V) → AllBelow (sets_at eq s k) v → ((q : K) → sets_at eq t q ≡ cond (eq k q) (sets_at eq s q ++ (v, x) ∷ []) (sets_at eq s q)) → t.last ≡ max s.last v → IsInOrder eq t
  pushed_order same o k v x b f l = record {
    rising = λ q. elim (cases_Bool (eq k q)) as (λ _. IsRising (sets_at eq t q)) [
      | inl e ↦ subst IsRising (sym (f q ∙ ap (λ c. cond c (sets_at eq s q ++ (v, x) ∷ []) (sets_at eq s q)) e)) (rising_push (sets_at eq s q) (v, x) (o.rising q) (subst (λ j. AllBelow (sets_at eq s j) v) (same k q e) b))
      | inr e ↦ subst IsRising (sym (f q ∙ ap (λ c. cond c (sets_at eq s q ++ (v, x) ∷ []) (sets_at eq s q)) e)) (o.rising q)
    ];
    bounded = λ q. (
        let old : AllBelow (sets_at eq s q) (t.last + 1) = below_more (sets_at eq s q) (s.last + 1) (t.last + 1) (omega arith) (o.bounded q) in
        elim (cases_Bool (eq k q)) as (λ _. AllBelow (sets_at eq t q) (t.last + 1)) [
          | inl e ↦ subst (λ h. AllBelow h (t.last + 1)) (sym (f q ∙ ap (λ c. cond c (sets_at eq s q ++ (v, x) ∷ []) (sets_at eq s q)) e)) (below_push (sets_at eq s q) (v, x) (t.last + 1) old (omega arith))
          | inr e ↦ subst (λ h. AllBelow h (t.last + 1)) (sym (f q ∙ ap (λ c. cond c (sets_at eq s q ++ (v, x) ∷ []) (sets_at eq s q)) e)) old
        ]
        );
  }

-- what is read after a write at a key
module _ {K V : Type 0} (eq : K → K → Bool) (same : AreSame eq) (es fs : List (K × Cell V)) (k : K) where
  pub room_written : (c : Cell V) → AreSame eq → eq k k ≡ true → Writes eq es fs k c → room_in (lookup (eq k) fs) ≡ c.room
  room_written c same i w = ap room_in (w.at k ∙ ap (λ b. cond b (Some c) (lookup (eq k) es)) i)

  pub room_others : (c : Cell V) → Writes eq es fs k c → (q : K) → eq k q ≡ false → room_in (lookup (eq q) fs) ≡ room_in (lookup (eq q) es)
  room_others c w q e = ap room_in (w.at q ∙ ap (λ b. cond b (Some c) (lookup (eq q) es)) e)

  pub sets_kept : (c : Cell V) → c.sets ≡ sets_in (lookup (eq k) es) → Writes eq es fs k c → (q : K) → sets_in (lookup (eq q) fs) ≡ sets_in (lookup (eq q) es)
  sets_kept c n w q = ap sets_in (w.at q) ∙ elim (cases_Bool (eq k q)) as (λ _. sets_in (cond (eq k q) (Some c) (lookup (eq q) es)) ≡ sets_in (lookup (eq q) es)) [
    | inl e ↦ ap (λ b. sets_in (cond b (Some c) (lookup (eq q) es))) e ∙ (n ∙ ap (λ j. sets_in (lookup (eq j) es)) (same k q e))
    | inr e ↦ ap (λ b. sets_in (cond b (Some c) (lookup (eq q) es))) e
  ]

  pub sets_pushed : (c : Cell V) (n : ℕ × V) → c.sets ≡ sets_in (lookup (eq k) es) ++ n ∷ [] → Writes eq es fs k c → (q : K) → sets_in (lookup (eq q) fs) ≡ cond (eq k q) (sets_in (lookup (eq q) es) ++ n ∷ []) (sets_in (lookup (eq q) es))
  sets_pushed c n p w q = ap sets_in (w.at q) ∙ elim (cases_Bool (eq k q)) as (λ _. sets_in (cond (eq k q) (Some c) (lookup (eq q) es)) ≡ cond (eq k q) (sets_in (lookup (eq q) es) ++ n ∷ []) (sets_in (lookup (eq q) es))) [
    | inl e ↦ ap (λ b. sets_in (cond b (Some c) (lookup (eq q) es))) e ∙ (p ∙ (ap (λ j. sets_in (lookup (eq j) es) ++ n ∷ []) (same k q e) ∙ sym (ap (λ b. cond b (sets_in (lookup (eq q) es) ++ n ∷ []) (sets_in (lookup (eq q) es))) e)))
    | inr e ↦ ap (λ b. sets_in (cond b (Some c) (lookup (eq q) es))) e ∙ sym (ap (λ b. cond b (sets_in (lookup (eq q) es) ++ n ∷ []) (sets_in (lookup (eq q) es))) e)
  ]

-- what making room for a set of k leaves
module _ {K V T E : Type 0} (eq : K → K → Bool) (same : AreSame eq) (itself : (k : K) → eq k k ≡ true) (es fs : List (K × Cell V)) (k : K) (r : Result T E)
    (ok : OnOk r ((room : ℕ) × (0 < room) × Writes eq es fs k record { room = room; sets = sets_in (lookup (eq k) es) })) (err : OnErr r (fs ≡ es)) where
  pub roomy_sets : (q : K) → sets_in (lookup (eq q) fs) ≡ sets_in (lookup (eq q) es)
  roomy_sets q = either_way r (on_ok_weaker r (λ w. sets_kept eq same es fs k record { room = w.0; sets = sets_in (lookup (eq k) es) } refl w.2 q) ok) (on_err_weaker r (λ e. ap (λ xs. sets_in (lookup (eq q) xs)) e) err)

  pub roomy_others : (q : K) → eq k q ≡ false → room_in (lookup (eq q) fs) ≡ room_in (lookup (eq q) es)
  roomy_others q n = either_way r (on_ok_weaker r (λ w. room_others eq same es fs k record { room = w.0; sets = sets_in (lookup (eq k) es) } w.2 q n) ok) (on_err_weaker r (λ e. ap (λ xs. room_in (lookup (eq q) xs)) e) err)

  pub roomy_ok : OnOk r (0 < room_in (lookup (eq k) fs))
  roomy_ok = on_ok_weaker r (λ w. subst (λ n. 0 < n) (sym (room_written eq same es fs k record { room = w.0; sets = sets_in (lookup (eq k) es) } same (itself k) w.2)) w.1) ok

  pub roomy_err : OnErr r ((q : K) → room_in (lookup (eq q) fs) ≡ room_in (lookup (eq q) es))
  roomy_err = on_err_weaker r (λ e q. ap (λ xs. room_in (lookup (eq q) xs)) e) err
