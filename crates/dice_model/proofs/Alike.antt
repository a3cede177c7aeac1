-- Two versions of two logs at which some keys are alike.
use Rattle.std.proofs.Common.{◌≡◌, ◌≢◌, ℕ, zero, suc, false, List, [], ◌∷◌, ◌++◌, Option, Some, refl, sym, ◌∙◌, subst, Bool}
use Rattle.std.specs.List.{AllZip}
use Rattle.std.proofs.lemmas.Option.{none-some}
use Rattle.dice_key.specs.Meaning.{Meaning, Answered, Ends}
use Rattle.dice_key.specs.Lawful.{IsLawful}
use Rattle.dice_key.specs.declared.universe.Kind.{Kind}
use Rattle.dice_key.specs.declared.universe.Kind.TheVariants.{Injected, Computed, Projection}
use Rattle.dice_model.specs.Log.{input}
use Rattle.dice_model.specs.Eval.{answers, by_kind, reached, eval, HasValue}
use Rattle.dice_model.specs.Asks.{AllTrue, Goes, AsksFor, Reaches, here, through}
use Rattle.dice_model.proofs.EvalLaws.{one_value, value_below}
use Rattle.dice_model.proofs.Finite.{goes_last}
use Rattle.dice_model.proofs.Traces.{AllGiven, zip_map, given_zip, trace_value, value_trace}

module _ {K V : Type 0} (eq : K → K → Bool) (m : Meaning K V) (law : IsLawful m) where
  pub goes_alike : (C D : List (List (K × V))) (v w : ℕ) (k : K) (before rest : List (Answered K V)) → Goes eq m C v k before rest → AllTrue (HasValue eq m D w) rest → Goes eq m D w k before rest
  goes_alike C D v w k before [] g t = tt
  goes_alike C D v w k before (b ∷ bs) g t = (law.asks_alike k before v w b.keys g.0, t.0, goes_alike C D v w k (before ++ b ∷ []) bs g.2 t.1)

  -- a key that lasts, whose trace has the same answers at another version, has the same trace and value there
  pub same_answers : (C D : List (List (K × V))) (v w : ℕ) (k : K) (A : List (Answered K V)) (x : V) → m.kind k ≢ Injected → Goes eq m C v k [] A → m.next k A v ≡ Ends x → m.is_transient x ≡ false → AllTrue (HasValue eq m D w) A
      → Goes eq m D w k [] A × (m.next k A w ≡ Ends x) × HasValue eq m D w k x
  same_answers C D v w k A x c g e l t =
      let h = goes_alike C D v w k [] A g t in
      let f = law.ends_alike k A v w x e l in
      (h, f, trace_value eq m D w law k A x c h f)

  -- what a lasting key asks at the other version is what it asks here
  module _ (C D : List (List (K × V))) (v w : ℕ) (S : K → Type 0)
      (closed : (k j : K) → S k → AsksFor eq m C v k j → S j)
      (valued : (k : K) → S k → (x : V) × HasValue eq m C v k x)
      (inputs : (k : K) → S k → m.kind k ≡ Injected → input eq m D w k ≡ input eq m C v k)
      (lasting : (k : K) (x : V) → S k → m.kind k ≢ Injected → HasValue eq m C v k x → m.is_transient x ≡ false) where
    all_true : (n : ℕ) (A : List (Answered K V)) → AllTrue (λ j y. S j × (eval eq m n C v j ≡ Some y)) A → ((j : K) (y : V) → S j → eval eq m n C v j ≡ Some y → HasValue eq m D w j y) → AllTrue (HasValue eq m D w) A
    all_true n [] t f = tt
    all_true n (b ∷ bs) t f = (zip_map (λ j y. S j × (eval eq m n C v j ≡ Some y)) (HasValue eq m D w) b.keys b.values (λ j y h p. f j y p.0 p.1) t.0, all_true n bs t.1 f)

    both : (n : ℕ) (k : K) → S k → (before rest : List (Answered K V)) → m.kind k ≢ Injected → Goes eq m C v k [] before → Goes eq m C v k before rest → AllGiven (eval eq m n C v) rest → AllTrue (λ j y. S j × (eval eq m n C v j ≡ Some y)) rest
    both n k s before [] c gb g a = tt
    both n k s before (b ∷ bs) c gb g a = (
      zip_map (λ j y. eval eq m n C v j ≡ Some y) (λ j y. S j × (eval eq m n C v j ≡ Some y)) b.keys b.values
          (λ j y h e. (closed k j s (record { computed = c; before = before; goes = gb; keys = b.keys; asks = g.0; among = h }), e))
          (given_here (eval eq m n C v) b.keys b.values a.0),
      both n k s (before ++ b ∷ []) bs c (goes_last eq m law C v k [] before b gb g.0 g.1) g.2 a.1,
    )
      where
        given_here : (f : K → Option V) (ks : List K) (xs : List V) → answers f ks ≡ Some xs → AllZip (λ j y. f j ≡ Some y) ks xs
        given_here f ks xs e = given_zip f (λ j y. f j ≡ Some y) (λ j y p. p) ks xs e

    -- each of them has the same value
    pub alike : (n : ℕ) (k : K) (x : V) → S k → eval eq m n C v k ≡ Some x → HasValue eq m D w k x
    alike zero k x s e = absurd (none-some x e)
    alike (suc n) k x s e = by_kinds (λ j y t. alike n j y t) (m.kind k) refl e
      where
        computed : (again : (j : K) (y : V) → S j → eval eq m n C v j ≡ Some y → HasValue eq m D w j y) → m.kind k ≢ Injected → HasValue eq m D w k x
        computed again c =
            let t = value_trace eq m C v n k x c e in
            (same_answers C D v w k t.0 x c t.1 t.3 (lasting k x s c (record { depth = suc n; gives = e })) (all_true n t.0 (both n k s [] t.0 c tt t.1 t.2) again)).2

        by_kinds : (again : (j : K) (y : V) → S j → eval eq m n C v j ≡ Some y → HasValue eq m D w j y) → (kd : Kind) → m.kind k ≡ kd → by_kind (m.kind k) (Some (input eq m C v k)) (reached (eval eq m n C v) (λ A. m.next k A v) (m.most k) []) ≡ Some x → HasValue eq m D w k x
        by_kinds again Injected p q =
            let a : Some (input eq m C v k) ≡ Some x = rw p at q in
            record { depth = 1; gives = rw (p, inputs k s p) a }
        by_kinds again Computed p q = computed again (λ h. let z : Computed ≡ Injected = sym p ∙ h in cc)
        by_kinds again Projection p q = computed again (λ h. let z : Projection ≡ Injected = sym p ∙ h in cc)

    back : (k : K) → S k → m.kind k ≢ Injected → (before rest : List (Answered K V)) → Goes eq m C v k [] before → Goes eq m D w k before rest → Goes eq m C v k before rest
    back k s c before [] gb g = tt
    back k s c before (b ∷ bs) gb g =
        let q = law.asks_alike k before w v b.keys g.0 in
        let z = zip_map (HasValue eq m D w) (HasValue eq m C v) b.keys b.values (λ j y h i.
        let sj = closed k j s (record { computed = c; before = before; goes = gb; keys = b.keys; asks = q; among = h }) in
        let x = valued j sj in
        subst (HasValue eq m C v j) (one_value eq m D w j x.0 y (alike x.1.depth j x.0 sj x.1.gives) i) x.1) g.1 in
        (q, z, back k s c (before ++ b ∷ []) bs (goes_last eq m law C v k [] before b gb q z) g.2)

    -- each of them asks the same keys
    pub asks_back : (k j : K) → S k → AsksFor eq m D w k j → AsksFor eq m C v k j
    asks_back k j s a = record {
      computed = a.computed;
      before = a.before;
      goes = back k s a.computed [] a.before tt a.goes;
      keys = a.keys;
      asks = law.asks_alike k a.before w v a.keys a.asks;
      among = a.among;
    }

    pub reaches_back : (k j : K) → S k → Reaches eq m D w k j → Reaches eq m C v k j × S j
    reaches_back k j s here = (here, s)
    reaches_back k j s (through {i = i} a r) =
        let b = asks_back k i s a in
        let h = reaches_back i j (closed k i s b) r in
        (through b h.0, h.1)

  -- what a key with a value reaches has a value
  pub reached_valued : (C : List (List (K × V))) (v : ℕ) (n : ℕ) (k j : K) (x : V) → Reaches eq m C v k j → eval eq m n C v k ≡ Some x → (y : V) × HasValue eq m C v j y
  reached_valued C v n k j x here e = (x, record { depth = n; gives = e })
  reached_valued C v zero k j x (through a r) e = absurd (none-some x e)
  reached_valued C v (suc n) k j x (through {i = i} a r) e = let b = value_below eq m C v n k i x a e in reached_valued C v n i j b.0 r b.1
