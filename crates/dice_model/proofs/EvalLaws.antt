-- Laws of evaluation from nothing.
use Rattle.std.proofs.Common.{◌≡◌, ◌≢◌, ◌≤◌, ◌+◌, inl, inr, ℕ, zero, suc, List, [], ◌∷◌, ◌++◌, length, Option, Some, None, refl, sym, ap, ◌∙◌, subst, arith, append_assoc, append-nil, zero-add, Bool}
use Rattle.std.specs.Option.{option_map, option_and_then}
use Rattle.std.specs.List.{AllZip}
use Rattle.std.proofs.lemmas.Option.{same_Some, none-some}
use Rattle.std.proofs.lemmas.List.{take-append-le}
use Rattle.std.proofs.Math.Nat.{suc-add}
use Rattle.dice_key.specs.Meaning.{Meaning, Answered, Step, Asks, Ends}
use Rattle.dice_key.specs.declared.universe.Kind.{Kind}
use Rattle.dice_key.specs.declared.universe.Kind.TheVariants.{Injected, Computed, Projection}
use Rattle.dice_model.specs.Log.{input}
use Rattle.dice_model.specs.Eval.{answers, on_step, reached, by_kind, eval, HasValue}
use Rattle.dice_model.specs.Asks.{Goes, AsksFor, Reaches, here, through, GoesRound, IsCycle, ReachesCycle}
use Rattle.lists.proofs.Options.{chained}
use Rattle.lists.specs.Lists.{Has}

pub mapped : {A B : Type 0} (f : A → B) (o : Option A) (y : B) → option_map f o ≡ Some y → (x : A) × (o ≡ Some x) × (f x ≡ y)
mapped f None y e = absurd (none-some y e)
mapped f (Some x) y e = (x, refl, same_Some _ _ e)

module _ {K V : Type 0} where
  -- g has each value that f has
  abbrev pub Below : (K → Option V) → (K → Option V) → Type 0
  Below f g = (k : K) (x : V) → f k ≡ Some x → g k ≡ Some x

  pub answers_grow : (f g : K → Option V) → Below f g → (ks : List K) (xs : List V) → answers f ks ≡ Some xs → answers g ks ≡ Some xs
  answers_grow f g b [] xs e = e
  answers_grow f g b (k ∷ ks) xs e =
      let h = chained (λ x. option_map (λ xs. x ∷ xs) (answers f ks)) (f k) xs e in
      let r = mapped (λ ys. h.0 ∷ ys) (answers f ks) xs h.2 in
      rw (b k h.0 h.1, answers_grow f g b ks r.0 r.1) (ap Some r.2)

  on_step_grow : (p q : List K → Option V) (s : Step K V) (x : V) → ((ks : List K) → p ks ≡ Some x → q ks ≡ Some x) → on_step p s ≡ Some x → on_step q s ≡ Some x
  on_step_grow p q (Asks ks) x h e = h ks e
  on_step_grow p q (Ends y) x h e = e

  pub reached_grow : (f g : K → Option V) → Below f g → (next : List (Answered K V) → Step K V) (n : ℕ) (A : List (Answered K V)) (x : V) → reached f next n A ≡ Some x → reached g next n A ≡ Some x
  reached_grow f g b next zero A x e = e
  reached_grow f g b next (suc n) A x e =
      on_step_grow _ _ (next A) x (λ ks p.
      let h = chained (λ xs. reached f next n (A ++ record { keys = ks; values = xs } ∷ [])) (answers f ks) x p in
      rw (answers_grow f g b ks h.0 h.1) (reached_grow f g b next n (A ++ record { keys = ks; values = h.0 } ∷ []) x h.2)) e

by_kind_grow : {V : Type 0} (kd : Kind) (a b c : Option V) (x : V) → (b ≡ Some x → c ≡ Some x) → by_kind kd a b ≡ Some x → by_kind kd a c ≡ Some x
by_kind_grow Injected a b c x h e = e
by_kind_grow Computed a b c x h e = h e
by_kind_grow Projection a b c x h e = h e

module _ {K V : Type 0} (eq : K → K → Bool) (m : Meaning K V) (C : List (List (K × V))) (v : ℕ) where
  pub eval_grows : (n : ℕ) → Below (eval eq m n C v) (eval eq m (suc n) C v)
  eval_grows zero k x e = absurd (none-some x e)
  eval_grows (suc n) k x e =
      by_kind_grow (m.kind k) _ _ _ x (reached_grow (eval eq m n C v) (eval eq m (suc n) C v) (eval_grows n) (λ A. m.next k A v) (m.most k) [] x) e

  pub eval_more : (d n : ℕ) → Below (eval eq m n C v) (eval eq m (d + n) C v)
  eval_more zero n k x e = rw zero-add e
  eval_more (suc d) n k x e = rw suc-add (eval_grows (d + n) k x (eval_more d n k x e))

  -- a key has at most one value
  pub one_value : (k : K) (x y : V) → HasValue eq m C v k x → HasValue eq m C v k y → x ≡ y
  one_value k x y p q =
      let a : p.depth + q.depth ≡ q.depth + p.depth = omega arith in
      same_Some x y (sym (eval_more q.depth p.depth k x p.gives) ∙ (ap (λ n. eval eq m n C v k) (sym a) ∙ eval_more p.depth q.depth k y q.gives))

-- evaluation at a version of a log is that over each log that it begins
module _ {K V : Type 0} (eq : K → K → Bool) (m : Meaning K V) (C D : List (List (K × V))) (v : ℕ) (h : v ≤ length C) where
  pub input_stable : (k : K) → input eq m (C ++ D) v k ≡ input eq m C v k
  input_stable k = rw (take-append-le v C D h) refl

  pub eval_stable : (n : ℕ) (k : K) → eval eq m n (C ++ D) v k ≡ eval eq m n C v k
  eval_stable zero k = refl
  eval_stable (suc n) k =
      let f : eval eq m n (C ++ D) v ≡ eval eq m n C v = λ i j. eval_stable n j i in
      ap (λ x. by_kind (m.kind k) (Some x) (reached (eval eq m n (C ++ D) v) (λ A. m.next k A v) (m.most k) [])) (input_stable k)
      ∙ ap (λ (g : K → Option V). by_kind (m.kind k) (Some (input eq m C v k)) (reached g (λ A. m.next k A v) (m.most k) [])) f

-- ---- a key that reaches a cycle has no value

no-asks : {K V : Type 0} (f : List K → Option V) (s : Step K V) (ks : List K) (x : V) → s ≡ Asks ks → on_step f s ≡ Some x → f ks ≡ Some x
no-asks f s ks x e h = rw e at h

module _ {K V : Type 0} (f : K → Option V) where
  -- each key that was answered has a value
  pub answers_has : (ks : List K) (xs : List V) (j : K) → answers f ks ≡ Some xs → Has ks j → (y : V) × (f j ≡ Some y)
  answers_has [] xs j e h = absurd h
  answers_has (k ∷ ks) xs j e h =
      let a = chained (λ x. option_map (λ xs. x ∷ xs) (answers f ks)) (f k) xs e in
      let r = mapped (λ ys. a.0 ∷ ys) (answers f ks) xs a.2 in
      elim h as (λ _. (y : V) × (f j ≡ Some y)) [ inl p ↦ (a.0, rw (sym p) a.1) | inr q ↦ answers_has ks r.0 j r.1 q ]

  -- the answers of f are the ones that R allows, if R allows one
  pub answers_are : (R : K → V → Type 0) → ((k : K) (x y : V) → f k ≡ Some x → R k y → x ≡ y) → (ks : List K) (xs ys : List V) → answers f ks ≡ Some xs → AllZip R ks ys → xs ≡ ys
  answers_are R u [] xs [] e z = sym (same_Some _ _ e)
  answers_are R u [] xs (y ∷ ys) e z = absurd z
  answers_are R u (k ∷ ks) xs [] e z = absurd z
  answers_are R u (k ∷ ks) xs (y ∷ ys) e z =
      let a = chained (λ x. option_map (λ xs. x ∷ xs) (answers f ks)) (f k) xs e in
      let r = mapped (λ ys. a.0 ∷ ys) (answers f ks) xs a.2 in
      let p : a.0 ≡ y = u k a.0 y a.1 z.0 in
      let q : r.0 ≡ ys = answers_are R u ks r.0 ys r.1 z.1 in
      let s : a.0 ∷ r.0 ≡ xs = r.2 in
      cc

module _ {K V : Type 0} (eq : K → K → Bool) (m : Meaning K V) (C : List (List (K × V))) (v : ℕ) where
  -- what is reached from nothing goes through each batch that k goes through
  reached_along : (n : ℕ) (k : K) (x : V) (rest before : List (Answered K V)) (l : ℕ) → Goes eq m C v k before rest → reached (eval eq m n C v) (λ A. m.next k A v) l before ≡ Some x → (j : ℕ) × (reached (eval eq m n C v) (λ A. m.next k A v) j (before ++ rest) ≡ Some x)
  reached_along n k x [] before l g e = (l, rw append-nil e)
  reached_along n k x (b ∷ bs) before zero g e = absurd (none-some x (no-asks (λ _. None) (m.next k before v) b.keys x g.0 e))
  reached_along n k x (b ∷ bs) before (suc l) g e =
      let h = chained (λ xs. reached (eval eq m n C v) (λ A. m.next k A v) l (before ++ record { keys = b.keys; values = xs } ∷ [])) (answers (eval eq m n C v) b.keys) x
      (no-asks (λ ks. option_and_then (λ xs. reached (eval eq m n C v) (λ A. m.next k A v) l (before ++ record { keys = ks; values = xs } ∷ [])) (answers (eval eq m n C v) ks)) (m.next k before v) b.keys x g.0 e) in
      let same : h.0 ≡ b.values = answers_are (eval eq m n C v) (HasValue eq m C v) (λ k x y p q. one_value eq m C v k x y (record { depth = n; gives = p }) q) b.keys h.0 b.values h.1 g.1 in
      let e' : reached (eval eq m n C v) (λ A. m.next k A v) l (before ++ b ∷ []) ≡ Some x = subst (λ xs. reached (eval eq m n C v) (λ A. m.next k A v) l (before ++ record { keys = b.keys; values = xs } ∷ []) ≡ Some x) same h.2 in
      let r = reached_along n k x bs (before ++ b ∷ []) l g.2 e' in
      (r.0, rw append_assoc at r.1)

  pub computed_value : (kd : Kind) (a b : Option V) → kd ≢ Injected → by_kind kd a b ≡ b
  computed_value Injected a b h = absurd (h refl)
  computed_value Computed a b h = refl
  computed_value Projection a b h = refl

  asked_has : (n : ℕ) (k j : K) (x : V) → (a : AsksFor eq m C v k j) → (l : ℕ) → reached (eval eq m n C v) (λ A. m.next k A v) l a.before ≡ Some x → (y : V) × (eval eq m n C v j ≡ Some y)
  asked_has n k j x a zero e = absurd (none-some x (no-asks (λ _. None) (m.next k a.before v) a.keys x a.asks e))
  asked_has n k j x a (suc l) e =
      let h = chained (λ xs. reached (eval eq m n C v) (λ A. m.next k A v) l (a.before ++ record { keys = a.keys; values = xs } ∷ [])) (answers (eval eq m n C v) a.keys) x
      (no-asks (λ ks. option_and_then (λ xs. reached (eval eq m n C v) (λ A. m.next k A v) l (a.before ++ record { keys = ks; values = xs } ∷ [])) (answers (eval eq m n C v) ks)) (m.next k a.before v) a.keys x a.asks e) in
      answers_has (eval eq m n C v) a.keys h.0 j h.1 a.among

  -- what is asked has a value one level below
  pub value_below : (n : ℕ) (k j : K) (x : V) → AsksFor eq m C v k j → eval eq m (suc n) C v k ≡ Some x → (y : V) × (eval eq m n C v j ≡ Some y)
  value_below n k j x a e =
      let r = reached_along n k x a.before [] (m.most k) a.goes (sym (computed_value (m.kind k) _ _ a.computed) ∙ e) in
      asked_has n k j x a r.0 r.1

  -- the key asks a key of which the same holds, so it has no value
  pub endless : (P : K → Type 0) → ((k : K) → P k → (j : K) × AsksFor eq m C v k j × P j) → (n : ℕ) (k : K) (x : V) → P k → eval eq m n C v k ≡ Some x → ⊥
  endless P step zero k x p e = none-some x e
  endless P step (suc n) k x p e =
      let s = step k p in
      let b = value_below n k s.0 x s.1 e in
      endless P step n s.0 b.0 s.2 b.1

  -- each key of a cycle asks a key of it
  round_asks : (first k : K) (rest : List K) (P : K → Type 0) → GoesRound eq m C v first k rest → P first → ((j : K) → Has rest j → P j) → (j : K) → Has (k ∷ rest) j → (i : K) × AsksFor eq m C v j i × P i
  round_asks first k [] P c p q j (inl e) = (first, subst (λ i. AsksFor eq m C v i first) e c, p)
  round_asks first k [] P c p q j (inr h) = absurd h
  round_asks first k (i ∷ is) P c p q j (inl e) = (i, subst (λ l. AsksFor eq m C v l i) e c.0, q i (inl refl))
  round_asks first k (i ∷ is) P c p q j (inr h) = round_asks first i is P c.1 p (λ l z. q l (inr z)) j h

  on_cycle : (n : ℕ) (k : K) (rest : List K) (x : V) → IsCycle eq m C v (k ∷ rest) → eval eq m n C v k ≡ Some x → ⊥
  on_cycle n k rest x c e =
      endless (Has (k ∷ rest)) (λ j h. round_asks k k rest (Has (k ∷ rest)) c.1 (inl refl) (λ l z. inr z) j h) n k x (inl refl) e

  reaching : (n : ℕ) (k j : K) (x : V) → Reaches eq m C v k j → ((l : ℕ) (y : V) → eval eq m l C v j ≡ Some y → ⊥) → eval eq m n C v k ≡ Some x → ⊥
  reaching n k j x here f e = f n x e
  reaching zero k j x (through a r) f e = none-some x e
  reaching (suc n) k j x (through {i = i} a r) f e = let b = value_below n k i x a e in reaching n i j b.0 r f b.1

  -- a key that reaches a cycle has no value
  pub cyclic-no-value : (k : K) (x : V) → ReachesCycle eq m C v k → HasValue eq m C v k x → ⊥
  cyclic-no-value k x r i = reaching i.depth k r.first x r.reaches (λ l y e. on_cycle l r.first r.rest y r.cycle e) i.gives
