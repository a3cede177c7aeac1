-- If finitely many keys are reached, a key has a value or reaches a cycle.
use Rattle.std.proofs.Common.{◌≡◌, ◌≢◌, ◌≤◌, ◌<◌, ◌+◌, ◌⊎◌, inl, inr, ℕ, Bool, zero, suc, List, [], ◌∷◌, ◌++◌, length, Option, Some, None, refl, sym, ap, ◌∙◌, subst, arith, append_assoc, append-nil, length-append}
use Rattle.std.specs.Option.{option_and_then}
use Rattle.std.specs.List.{AllZip}
use Rattle.std.proofs.lemmas.Option.{none-some}
use Rattle.dice_key.specs.Meaning.{Meaning, Answered, Step, Asks, Ends}
use Rattle.dice_key.specs.Lawful.{IsLawful, IsEquality}
use Rattle.dice_key.proofs.KeySets.{has_or_not}
use Rattle.dice_key.specs.declared.universe.Kind.{Kind}
use Rattle.dice_key.specs.declared.universe.Kind.TheVariants.{Injected, Computed, Projection}
use Rattle.dice_model.specs.Log.{input}
use Rattle.dice_model.specs.Eval.{answers, on_step, reached, by_kind, eval, HasValue}
use Rattle.dice_model.specs.Asks.{Goes, AsksFor, Reaches, here, through, GoesRound, IsCycle, IsClosed, ReachesCycle}
use Rattle.lists.proofs.Distinct.{few}
use Rattle.lists.specs.Lists.{AreDistinct, Has}

-- ---- what has no value asks something that has none

module _ {K V : Type 0} (f : K → Option V) where
  -- each key has a value, or one of them has none
  given : (R : K → V → Type 0) → ((k : K) (x : V) → f k ≡ Some x → R k x) → (ks : List K) → ((xs : List V) × (answers f ks ≡ Some xs) × AllZip R ks xs) ⊎ ((j : K) × Has ks j × (f j ≡ None))
  given R r [] = inl ([], refl, tt)
  given R r (k ∷ ks) = at_head (f k) refl (given R r ks)
    where
      at_head : (o : Option V) → f k ≡ o → ((xs : List V) × (answers f ks ≡ Some xs) × AllZip R ks xs) ⊎ ((j : K) × Has ks j × (f j ≡ None)) → ((xs : List V) × (answers f (k ∷ ks) ≡ Some xs) × AllZip R (k ∷ ks) xs) ⊎ ((j : K) × Has (k ∷ ks) j × (f j ≡ None))
      at_head None e _ = inr (k, inl refl, e)
      at_head (Some x) e (inl h) = inl (x ∷ h.0, rw (e, h.1) refl, (r k x e, h.2))
      at_head (Some x) e (inr h) = inr (h.0, inr h.1, h.2)

module _ {K V : Type 0} (eq : K → K → Bool) (m : Meaning K V) (law : IsLawful m) (C : List (List (K × V))) (v : ℕ) where
  pub goes_last : (k : K) (before rest : List (Answered K V)) (b : Answered K V) → Goes eq m C v k before rest → m.next k (before ++ rest) v ≡ Asks b.keys → AllZip (HasValue eq m C v) b.keys b.values → Goes eq m C v k before (rest ++ b ∷ [])
  goes_last k before [] b g n z = (subst (λ A. m.next k A v ≡ Asks b.keys) (append-nil before) n, z, tt)
  goes_last k before (c ∷ cs) b g n z = (g.0, g.1, goes_last k (before ++ c ∷ []) cs b g.2 (subst (λ A. m.next k A v ≡ Asks b.keys) (sym (append_assoc before (c ∷ []) cs)) n) z)

  unanswered : (n : ℕ) (k : K) → m.kind k ≢ Injected → (l : ℕ) (A : List (Answered K V)) → Goes eq m C v k [] A → m.most k ≤ length A + l → reached (eval eq m n C v) (λ A. m.next k A v) l A ≡ None → (j : K) × AsksFor eq m C v k j × (eval eq m n C v j ≡ None)
  unanswered n k c zero A g room e = at_end (m.next k A v) refl e
    where
      at_end : (s : Step K V) → m.next k A v ≡ s → on_step (λ ks. None) (m.next k A v) ≡ None → (j : K) × AsksFor eq m C v k j × (eval eq m n C v j ≡ None)
      at_end s p q = let h = law.ends k A v (omega arith) in let r : Some h.0 ≡ None = sym (ap (on_step (λ ks. None)) h.1) ∙ q in absurd (none-some h.0 (sym r))
  unanswered n k c (suc l) A g room e = at_step (λ B. unanswered n k c l B) (m.next k A v) refl e
    where
      at_step : ((B : List (Answered K V)) → Goes eq m C v k [] B → m.most k ≤ length B + l → reached (eval eq m n C v) (λ A. m.next k A v) l B ≡ None → (j : K) × AsksFor eq m C v k j × (eval eq m n C v j ≡ None)) → (s : Step K V) → m.next k A v ≡ s → on_step (λ ks. option_and_then (λ xs. reached (eval eq m n C v) (λ A. m.next k A v) l (A ++ record { keys = ks; values = xs } ∷ [])) (answers (eval eq m n C v) ks)) s ≡ None → (j : K) × AsksFor eq m C v k j × (eval eq m n C v j ≡ None)
      at_step again (Ends x) p q = absurd (none-some x (sym q))
      at_step again (Asks ks) p q =
          elim (given (eval eq m n C v) (HasValue eq m C v) (λ j x e. record { depth = n; gives = e }) ks) as (λ _. (j : K) × AsksFor eq m C v k j × (eval eq m n C v j ≡ None)) [
            | inl h ↦ again (A ++ record { keys = ks; values = h.0 } ∷ []) (goes_last k [] A (record { keys = ks; values = h.0 }) g p h.2) (let e = length-append A (record { keys = ks; values = h.0 } ∷ []) in omega arith)
                (sym (ap (option_and_then (λ xs. reached (eval eq m n C v) (λ A. m.next k A v) l (A ++ record { keys = ks; values = xs } ∷ []))) h.1) ∙ q)
            | inr h ↦ (h.0, record { computed = c; before = A; goes = g; keys = ks; asks = p; among = h.1 }, h.2)
          ]

  -- what has no value within n + 1 asks something that has none within n
  pub none_below : (n : ℕ) (k : K) → eval eq m (suc n) C v k ≡ None → (j : K) × AsksFor eq m C v k j × (eval eq m n C v j ≡ None)
  none_below n k e = by_kinds (m.kind k) refl (Some _) (reached (eval eq m n C v) (λ A. m.next k A v) (m.most k) []) refl refl e
    where
      by_kinds : (kd : Kind) → m.kind k ≡ kd → (a b : Option V) → (a ≡ Some (input eq m C v k)) → reached (eval eq m n C v) (λ A. m.next k A v) (m.most k) [] ≡ b → by_kind kd a b ≡ None → (j : K) × AsksFor eq m C v k j × (eval eq m n C v j ≡ None)
      by_kinds Injected p a b i r q = absurd (none-some _ (sym q ∙ i))
      by_kinds Computed p a b i r q = unanswered n k (λ e. let h : Computed ≡ Injected = sym p ∙ e in cc) (m.most k) [] tt (omega arith) (r ∙ q)
      by_kinds Projection p a b i r q = unanswered n k (λ e. let h : Projection ≡ Injected = sym p ∙ e in cc) (m.most k) [] tt (omega arith) (r ∙ q)

  -- each key asks the one before it
  abbrev pub Chain : List K → Type 0
  Chain [] = Unit {0}
  Chain (k ∷ []) = Unit {0}
  Chain (k ∷ j ∷ js) = AsksFor eq m C v j k × Chain (j ∷ js)

  reaches_on : (a k j : K) → Reaches eq m C v a k → AsksFor eq m C v k j → Reaches eq m C v a j
  reaches_on a k j here q = through q here
  reaches_on a k j (through p r) q = through p (reaches_on _ k j r q)

  -- the keys up to j are a cycle
  closes : (j i : K) (path acc : List K) → Chain (i ∷ path) → AreDistinct (i ∷ path) → Has (i ∷ path) j → AreDistinct (i ∷ acc) → ((x : K) → Has acc x → Has path x → ⊥) → GoesRound eq m C v j i acc → (rest : List K) × IsCycle eq m C v (j ∷ rest)
  closes j i path acc ch d (inl e) da apart cycle = (acc, (subst AreDistinct (ap (λ x. x ∷ acc) e) da, subst (λ x. GoesRound eq m C v j x acc) e cycle))
  closes j i [] acc ch d (inr h) da apart cycle = absurd h
  closes j i (l ∷ ls) acc ch d (inr h) da apart cycle =
      closes j l ls (i ∷ acc) ch.1 d.1 h
      ((λ g. elim g as (λ _. ⊥) [ inl e ↦ d.0 (inl (sym e)) | inr a ↦ apart l a (inl refl) ]), da)
      (λ x g a. elim g as (λ _. ⊥) [ inl e ↦ d.0 (inr (subst (Has ls) (sym e) a)) | inr b ↦ apart x b (inr a) ])
      (ch.0, cycle)

  module _ (equal : IsEquality eq) (all : List K) (closed : IsClosed eq m C v all) where
    walks : (n : ℕ) (a k : K) (path : List K) → Chain (k ∷ path) → AreDistinct (k ∷ path) → ((x : K) → Has (k ∷ path) x → Has all x) → ((x : K) → Has (k ∷ path) x → Reaches eq m C v a x) → length all < length (k ∷ path) + n → eval eq m n C v k ≡ None → ReachesCycle eq m C v a
    walks zero a k path ch d h r room e = absurd (let p = few (k ∷ path) all d h in omega arith)
    walks (suc n) a k path ch d h r room e =
        let b = none_below n k e in
        elim (has_or_not eq equal (k ∷ path) b.0) as (λ _. ReachesCycle eq m C v a) [
          | inl found ↦ (let z = closes b.0 k path [] ch d found ((λ g. g), tt) (λ x g _. g) b.1 in record { first = b.0; rest = z.0; cycle = z.1; reaches = r b.0 found })
          | inr fresh ↦ walks n a b.0 (k ∷ path) (b.1, ch) (fresh, d)
              (λ x g. elim g as (λ _. Has all x) [ inl q ↦ subst (Has all) q (closed k b.0 (h k (inl refl)) b.1) | inr q ↦ h x q ])
              (λ x g. elim g as (λ _. Reaches eq m C v a x) [ inl q ↦ subst (Reaches eq m C v a) q (reaches_on a k b.0 (r k (inl refl)) b.1) | inr q ↦ r x q ])
              (let l : length (b.0 ∷ k ∷ path) ≡ suc (length (k ∷ path)) = refl in omega arith) b.2
        ]

    -- a key of finitely many has a value or reaches a cycle
    pub settled : (k : K) → Has all k → ((x : V) × HasValue eq m C v k x) ⊎ ReachesCycle eq m C v k
    settled k h = by_value (eval eq m (length all) C v k) refl
      where
        by_value : (o : Option V) → eval eq m (length all) C v k ≡ o → ((x : V) × HasValue eq m C v k x) ⊎ ReachesCycle eq m C v k
        by_value (Some x) e = inl (x, record { depth = length all; gives = e })
        by_value None e = inr (walks (length all) k k [] tt ((λ g. g), tt) (λ x g. elim g as (λ _. Has all x) [ inl q ↦ subst (Has all) q h | inr q ↦ absurd q ]) (λ x g. elim g as (λ _. Reaches eq m C v k x) [ inl q ↦ subst (Reaches eq m C v k) q here | inr q ↦ absurd q ]) (omega arith) e)
