-- A run on its way to a value.
use Rattle.std.proofs.Common.{◌≡◌, ◌<◌, ◌-◌, ℕ, zero, suc, List, [], ◌∷◌, ◌++◌, length, Global, Option, Some, None, refl, sym, ap, ◌∙◌, subst, arith, sub-one, Bool}
use Rattle.std.specs.Arc.{arc_value}
use Rattle.std.specs.Option.{option_map}
use Rattle.std.specs.declared.sync.Arc.{Arc}
use Rattle.std.proofs.lemmas.List.{append-nil}
use Rattle.std.proofs.lemmas.Option.{same_Some}
use Rattle.dice_key.specs.Meaning.{Meaning, Answered, Running, Step, Asks, Ends, next_of, resumed, Takes, answered_with}
use Rattle.dice_key.specs.Lawful.{IsStep}
use Rattle.dice_key.specs.declared.universe.Kind.{Kind}
use Rattle.dice_key.specs.declared.universe.Kind.TheVariants.{Injected, Computed, Projection}
use Rattle.dice_key.specs.declared.batch.Move.{Move}
use Rattle.dice_key.specs.declared.batch.Move.TheVariants.{Ask, Done}
use Rattle.dice_model.specs.Eval.{answers, reached, by_kind, eval}
use Rattle.dice_model.proofs.EvalLaws.{mapped}
use Rattle.lists.proofs.Options.{chained}

pub of_computed : {V : Type 0} (kd : Kind) (a b : Option V) → (kd ≡ Injected → ⊥) → by_kind kd a b ≡ b
of_computed Injected a b h = absurd (h refl)
of_computed Computed a b h = refl
of_computed Projection a b h = refl

-- evaluation of a key that is not injected
pub eval_computed : {K V : Type 0} (eq : K → K → Bool) (m : Meaning K V) (n : ℕ) (C : List (List (K × V))) (v : ℕ) (k : K) → 0 < n → (m.kind k ≡ Injected → ⊥) → reached (eval eq m (n - 1) C v) (λ A. m.next k A v) (m.most k) [] ≡ eval eq m n C v k
eval_computed eq m zero C v k h c = absurd (omega arith)
eval_computed eq m (suc n) C v k h c = rw (sub-one) (sym (of_computed (m.kind k) _ _ c))

-- the run is that of k at v, s is its next step, and within n batches it leads to o
pub record Stands {K V : Type 0} (m : Meaning K V) (f : K → Option V) (k : K) (v : ℕ) (n : ℕ) (o : Option V) (s : Move K V) (r : Running K V) : Type 0 where
  pub key : r.key ≡ k
  pub version : r.version ≡ v
  pub says : IsStep s (next_of m r)
  pub rest : reached f (λ A. m.next k A v) n r.answered ≡ o

module _ {K V : Type 0} (f : K → Option V) where
  -- the values of keys one after another: none is asked yet; all have one
  pub answers_begin : (ys : List V) (ks js : List K) → ys ≡ [] → ks ≡ js → option_map (λ zs. ys ++ zs) (answers f ks) ≡ answers f js
  answers_begin ys ks js e h = ap (λ xs. option_map (λ zs. xs ++ zs) (answers f ks)) e ∙ (itself (answers f ks) ∙ ap (answers f) h)
    where
      itself : (o : Option (List V)) → option_map (λ zs. [] ++ zs) o ≡ o
      itself None = refl
      itself (Some zs) = refl

  pub answers_done : (ys : List V) (ks : List K) (o : Option (List V)) → ks ≡ [] → option_map (λ zs. ys ++ zs) (answers f ks) ≡ o → Some ys ≡ o
  answers_done ys ks o e h = sym (ap (λ j. option_map (λ zs. ys ++ zs) (answers f j)) e ∙ ap Some (append-nil ys)) ∙ h

module _ {K V : Type 0} (f : K → Option V) (next : List (Answered K V) → Step K V) where
  pub reached_end : (n : ℕ) (A : List (Answered K V)) (x : V) → next A ≡ Ends x → reached f next n A ≡ Some x
  reached_end zero A x e = rw e refl
  reached_end (suc n) A x e = rw e refl

  reached_none : (n : ℕ) (A : List (Answered K V)) (ks : List K) → next A ≡ Asks ks → answers f ks ≡ None → reached f next n A ≡ None
  reached_none zero A ks e h = rw e refl
  reached_none (suc n) A ks e h = rw (e, h) refl

  reached_last : (A : List (Answered K V)) (ks : List K) → next A ≡ Asks ks → reached f next 0 A ≡ None
  reached_last A ks e = rw e refl

  pub reached_more : (n : ℕ) (A : List (Answered K V)) (ks : List K) (xs : List V) → next A ≡ Asks ks → answers f ks ≡ Some xs → reached f next (suc n) A ≡ reached f next n (A ++ record { keys = ks; values = xs } ∷ [])
  reached_more n A ks xs e h = rw (e, h) refl

  answers_length : (ks : List K) (xs : List V) → answers f ks ≡ Some xs → length xs ≡ length ks
  answers_length [] xs e = ap length (sym (same_Some _ _ e))
  answers_length (k ∷ ks) xs e =
      let a = chained (λ x. option_map (λ xs. x ∷ xs) (answers f ks)) (f k) xs e in
      let r = mapped (λ ys. a.0 ∷ ys) (answers f ks) xs a.2 in
      sym (ap length r.2) ∙ ap suc (answers_length ks r.0 r.1)

module _ {K V : Type 0} {m : Meaning K V} {f : K → Option V} {k : K} {v n : ℕ} {o : Option V} {s : Move K V} {r : Running K V} (h : Stands m f k v n o s r) where
  next_is : next_of m r ≡ m.next k r.answered v
  next_is = ap (λ j. m.next j r.answered r.version) h.key ∙ ap (λ w. m.next k r.answered w) h.version

  asks_is : (ks : List K) → s ≡ Ask ks → m.next k r.answered v ≡ Asks ks
  asks_is ks e = sym next_is ∙ sym (subst (λ s. IsStep s (next_of m r)) e h.says)

  pub ended : (a : Arc V Global) → s ≡ Done a → Some (arc_value a) ≡ o
  ended a e = sym (reached_end f (λ A. m.next k A v) n r.answered (arc_value a) (sym next_is ∙ sym (subst (λ s. IsStep s (next_of m r)) e h.says))) ∙ h.rest

  pub stopped : (ks : List K) → s ≡ Ask ks → answers f ks ≡ None → None ≡ o
  stopped ks e a = sym (reached_none f (λ A. m.next k A v) n r.answered ks (asks_is ks e) a) ∙ h.rest

  pub out : (ks : List K) → n ≡ 0 → s ≡ Ask ks → None ≡ o
  out ks z e = sym (reached_last f (λ A. m.next k A v) r.answered ks (asks_is ks e)) ∙ (ap (λ i. reached f (λ A. m.next k A v) i r.answered) (sym z) ∙ h.rest)

  pub takes : (ks : List K) (xs : List V) → s ≡ Ask ks → answers f ks ≡ Some xs → Takes (next_of m r) (length xs)
  takes ks xs e a = subst (λ t. Takes t (length xs)) (sym (next_is ∙ asks_is ks e)) (answers_length f (λ A. m.next k A v) ks xs a)

  pub goes_on : (i : ℕ) (s' : Move K V) (r' : Running K V) (ks : List K) (xs : List V) → n ≡ suc i → s ≡ Ask ks → answers f ks ≡ Some xs → r' ≡ resumed m r xs → IsStep s' (next_of m r') → Stands m f k v i o s' r'
  goes_on i s' r' ks xs z e a q t =
      let b : r'.answered ≡ r.answered ++ record { keys = ks; values = xs } ∷ [] = ap (λ (r : Running K V). r.answered) q ∙ ap (λ t. answered_with t r.answered xs) (next_is ∙ asks_is ks e) in
      record {
        key = ap (λ (r : Running K V). r.key) q ∙ h.key;
        version = ap (λ (r : Running K V). r.version) q ∙ h.version;
        says = t;
        rest = ap (λ A. reached f (λ A. m.next k A v) i A) b ∙ (sym (reached_more f (λ A. m.next k A v) i r.answered ks xs (asks_is ks e) a) ∙ (ap (λ i. reached f (λ A. m.next k A v) i r.answered) (sym z) ∙ h.rest));
      }

-- a run as it begins
pub starts : {K V : Type 0} (eq : K → K → Bool) (m : Meaning K V) (d : ℕ) (C : List (List (K × V))) (v : ℕ) (k : K) (n : ℕ) (s : Move K V) (r : Running K V) → r ≡ record { key = k; version = v; answered = [] } → IsStep s (m.next k [] v) → n ≡ m.most k → 0 < d → (m.kind k ≡ Injected → ⊥) → Stands m (eval eq m (d - 1) C v) k v n (eval eq m d C v k) s r
starts eq m d C v k n s r q p z h c =
    let a : r.answered ≡ [] = ap (λ (r : Running _ _). r.answered) q in
    record {
      key = ap (λ (r : Running _ _). r.key) q;
      version = ap (λ (r : Running _ _). r.version) q;
      says = subst (λ r. IsStep s (next_of m r)) (sym q) p;
      rest = rw (a, z) (eval_computed eq m d C v k h c);
    }
