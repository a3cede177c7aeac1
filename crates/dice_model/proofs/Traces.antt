-- Traces: what they lead to, and what a key with the same answers at another version has there.
use Rattle.std.proofs.Common.{◌≡◌, ◌≢◌, ◌≤◌, ◌<◌, ◌+◌, ◌-◌, inl, inr, ℕ, zero, suc, List, [], ◌∷◌, ◌++◌, length, Option, Some, None, refl, sym, ap, ◌∙◌, subst, arith, append_assoc, append-nil, length-append, Bool}
use Rattle.std.specs.Option.{option_map, option_and_then}
use Rattle.std.specs.List.{AllZip}
use Rattle.std.proofs.lemmas.Option.{same_Some, none-some}
use Rattle.dice_key.specs.Meaning.{Meaning, Answered, Step, Asks, Ends}
use Rattle.dice_key.specs.Lawful.{IsLawful}
use Rattle.dice_key.specs.declared.universe.Kind.TheVariants.{Injected}
use Rattle.dice_model.specs.Log.{input}
use Rattle.dice_model.specs.Eval.{answers, on_step, reached, eval, HasValue}
use Rattle.dice_model.specs.Asks.{AllTrue, Goes, AsksFor, IsTrace}
use Rattle.dice_model.proofs.EvalLaws.{mapped, answers_grow, eval_more, one_value}
use Rattle.dice_model.proofs.Runs.{reached_end, reached_more, of_computed}
use Rattle.dice_model.proofs.Finite.{goes_last}
use Rattle.lists.proofs.Options.{chained}
use Rattle.lists.specs.Lists.{Has}

pub not_le : (a b : ℕ) → (a ≤ b → ⊥) → b < a
not_le zero b h = absurd (h (omega arith))
not_le (suc a) zero h = omega arith
not_le (suc a) (suc b) h = let r = not_le a b (λ l. h (omega arith)) in omega arith

-- if R is kept by each answer, so is it by all
pub zip_map : {A B : Type 0} (P Q : A → B → Type 0) (xs : List A) (ys : List B) → ((x : A) (y : B) → Has xs x → P x y → Q x y) → AllZip P xs ys → AllZip Q xs ys
zip_map P Q [] [] f z = tt
zip_map P Q [] (y ∷ ys) f z = z
zip_map P Q (x ∷ xs) [] f z = z
zip_map P Q (x ∷ xs) (y ∷ ys) f z = (f x y (inl refl) z.0, zip_map P Q xs ys (λ a b h p. f a b (inr h) p) z.1)

module _ {K V : Type 0} where
  -- each batch is answered so by f
  abbrev pub AllGiven : (K → Option V) → List (Answered K V) → Type 0
  AllGiven f [] = Unit {0}
  AllGiven f (b ∷ bs) = (answers f b.keys ≡ Some b.values) × AllGiven f bs

  given_grow : (f g : K → Option V) → ((k : K) (x : V) → f k ≡ Some x → g k ≡ Some x) → (A : List (Answered K V)) → AllGiven f A → AllGiven g A
  given_grow f g b [] a = tt
  given_grow f g b (c ∷ cs) a = (answers_grow f g b c.keys c.values a.0, given_grow f g b cs a.1)

  pub given_zip : (f : K → Option V) (R : K → V → Type 0) → ((k : K) (x : V) → f k ≡ Some x → R k x) → (ks : List K) (xs : List V) → answers f ks ≡ Some xs → AllZip R ks xs
  given_zip f R r [] [] e = tt
  given_zip f R r [] (x ∷ xs) e = let h = same_Some _ _ e in cc
  given_zip f R r (k ∷ ks) [] e =
      let a = chained (λ x. option_map (λ xs. x ∷ xs) (answers f ks)) (f k) [] e in
      let r = mapped (λ ys. a.0 ∷ ys) (answers f ks) [] a.2 in let h = r.2 in cc
  given_zip f R r (k ∷ ks) (x ∷ xs) e =
      let a = chained (λ x. option_map (λ xs. x ∷ xs) (answers f ks)) (f k) (x ∷ xs) e in
      let b = mapped (λ ys. a.0 ∷ ys) (answers f ks) (x ∷ xs) a.2 in
      let h : a.0 ∷ b.0 ≡ x ∷ xs = b.2 in
      let p : a.0 ≡ x = cc in
      let q : b.0 ≡ xs = cc in
      (r k x (rw p at a.1), given_zip f R r ks xs (rw q at b.1))

module _ {K V : Type 0} (eq : K → K → Bool) (m : Meaning K V) (C : List (List (K × V))) (v : ℕ) where
  pub eval_up : (n l : ℕ) → n ≤ l → (k : K) (x : V) → eval eq m n C v k ≡ Some x → eval eq m l C v k ≡ Some x
  eval_up n l h k x e = let s : (l - n) + n ≡ l = omega arith in subst (λ i. eval eq m i C v k ≡ Some x) s (eval_more eq m C v (l - n) n k x e)

  answers_deep : (ks : List K) (xs : List V) → AllZip (HasValue eq m C v) ks xs → (n : ℕ) × (answers (eval eq m n C v) ks ≡ Some xs)
  answers_deep [] [] z = (0, refl)
  answers_deep [] (x ∷ xs) z = absurd z
  answers_deep (k ∷ ks) [] z = absurd z
  answers_deep (k ∷ ks) (x ∷ xs) z =
      let r = answers_deep ks xs z.1 in
      let d = z.0.depth in
      (d + r.0, rw (eval_up d (d + r.0) (omega arith) k x z.0.gives, answers_grow (eval eq m r.0 C v) (eval eq m (d + r.0) C v) (eval_up r.0 (d + r.0) (omega arith)) ks xs r.1) refl)

  goes_deep : (k : K) (before rest : List (Answered K V)) → Goes eq m C v k before rest → (n : ℕ) × AllGiven (eval eq m n C v) rest
  goes_deep k before [] g = (0, tt)
  goes_deep k before (b ∷ bs) g =
      let a = answers_deep b.keys b.values g.1 in
      let r = goes_deep k (before ++ b ∷ []) bs g.2 in (
        a.0 + r.0,
        (
          answers_grow (eval eq m a.0 C v) (eval eq m (a.0 + r.0) C v) (eval_up a.0 (a.0 + r.0) (omega arith)) b.keys b.values a.1,
          given_grow (eval eq m r.0 C v) (eval eq m (a.0 + r.0) C v) (eval_up r.0 (a.0 + r.0) (omega arith)) bs r.1,
        ),
      )

  reached_to : (n : ℕ) (k : K) (x : V) (before rest : List (Answered K V)) (l : ℕ) → Goes eq m C v k before rest → AllGiven (eval eq m n C v) rest → m.next k (before ++ rest) v ≡ Ends x → length rest ≤ l → reached (eval eq m n C v) (λ A. m.next k A v) l before ≡ Some x
  reached_to n k x before [] l g a e h = reached_end (eval eq m n C v) (λ A. m.next k A v) l before x (rw append-nil at e)
  reached_to n k x before (b ∷ bs) zero g a e h = absurd (omega arith)
  reached_to n k x before (b ∷ bs) (suc l) g a e h =
      reached_more (eval eq m n C v) (λ A. m.next k A v) l before b.keys b.values g.0 a.0
      ∙ reached_to n k x (before ++ b ∷ []) bs l g.2 a.1 (subst (λ A. m.next k A v ≡ Ends x) (sym (append_assoc before (b ∷ []) bs)) e) (omega arith)

  -- what a trace goes through are no more batches than the key's most
  goes_few : IsLawful m → (k : K) (before rest : List (Answered K V)) → Goes eq m C v k before rest → length before ≤ m.most k → length before + length rest ≤ m.most k
  goes_few law k before [] g h = omega arith
  goes_few law k before (b ∷ bs) g h =
      let s : length before < m.most k = not_le (m.most k) (length before) (λ l. let r = law.ends k before v l in let q : Ends r.0 ≡ Asks b.keys = sym r.1 ∙ g.0 in cc) in
      let l = length-append before (b ∷ []) in
      let r = goes_few law k (before ++ b ∷ []) bs g.2 (omega arith) in
      omega arith

  -- a trace leads to the value
  pub trace_value : IsLawful m → (k : K) (A : List (Answered K V)) (x : V) → m.kind k ≢ Injected → Goes eq m C v k [] A → m.next k A v ≡ Ends x → HasValue eq m C v k x
  trace_value law k A x c g e =
      let d = goes_deep k [] A g in
      let s = goes_few law k [] A g (omega arith) in
      record { depth = suc d.0; gives = of_computed (m.kind k) (Some (input eq m C v k)) (reached (eval eq m d.0 C v) (λ A. m.next k A v) (m.most k) []) c ∙ reached_to d.0 k x [] A (m.most k) g d.1 e (omega arith) }

  -- what is reached goes through a trace
  reached_from : (n : ℕ) (k : K) (x : V) (l : ℕ) (before : List (Answered K V)) → reached (eval eq m n C v) (λ A. m.next k A v) l before ≡ Some x → (rest : List (Answered K V)) × Goes eq m C v k before rest × AllGiven (eval eq m n C v) rest × (m.next k (before ++ rest) v ≡ Ends x)
  reached_from n k x zero before e = at_step (m.next k before v) refl e
    where
      at_step : (s : Step K V) → m.next k before v ≡ s → on_step (λ ks. None) s ≡ Some x → (rest : List (Answered K V)) × Goes eq m C v k before rest × AllGiven (eval eq m n C v) rest × (m.next k (before ++ rest) v ≡ Ends x)
      at_step (Asks ks) p q = absurd (none-some x q)
      at_step (Ends y) p q = ([], tt, tt, rw append-nil (p ∙ ap Ends (same_Some y x q)))
  reached_from n k x (suc l) before e = at_step (λ B. reached_from n k x l B) (m.next k before v) refl e
    where
      at_step : ((B : List (Answered K V)) → reached (eval eq m n C v) (λ A. m.next k A v) l B ≡ Some x → (rest : List (Answered K V)) × Goes eq m C v k B rest × AllGiven (eval eq m n C v) rest × (m.next k (B ++ rest) v ≡ Ends x))
          → (s : Step K V) → m.next k before v ≡ s → on_step (λ ks. option_and_then (λ xs. reached (eval eq m n C v) (λ A. m.next k A v) l (before ++ record { keys = ks; values = xs } ∷ [])) (answers (eval eq m n C v) ks)) s ≡ Some x
          → (rest : List (Answered K V)) × Goes eq m C v k before rest × AllGiven (eval eq m n C v) rest × (m.next k (before ++ rest) v ≡ Ends x)
      at_step again (Ends y) p q = ([], tt, tt, rw append-nil (p ∙ ap Ends (same_Some y x q)))
      at_step again (Asks ks) p q =
          let h = chained (λ xs. reached (eval eq m n C v) (λ A. m.next k A v) l (before ++ record { keys = ks; values = xs } ∷ [])) (answers (eval eq m n C v) ks) x q in
          let b : Answered K V = record { keys = ks; values = h.0 } in
          let r = again (before ++ b ∷ []) h.2 in
          (b ∷ r.0, (p, given_zip (eval eq m n C v) (HasValue eq m C v) (λ j y e. record { depth = n; gives = e }) ks h.0 h.1, r.1), (h.1, r.2), subst (λ A. m.next k A v ≡ Ends x) (append_assoc before (b ∷ []) r.0) r.3)

  -- a key with a value has a trace, whose answers come one level below
  pub value_trace : (n : ℕ) (k : K) (x : V) → m.kind k ≢ Injected → eval eq m (suc n) C v k ≡ Some x → (A : List (Answered K V)) × Goes eq m C v k [] A × AllGiven (eval eq m n C v) A × (m.next k A v ≡ Ends x)
  value_trace n k x c e = reached_from n k x (m.most k) [] (sym (of_computed (m.kind k) (Some (input eq m C v k)) (reached (eval eq m n C v) (λ A. m.next k A v) (m.most k) []) c) ∙ e)

  -- each key of a trace is asked
  pub trace_asks : IsLawful m → (R : K → V → Type 0) (k : K) → m.kind k ≢ Injected → (before rest : List (Answered K V)) → Goes eq m C v k [] before → Goes eq m C v k before rest
      → ((j : K) (y : V) → AsksFor eq m C v k j → HasValue eq m C v j y → R j y) → AllTrue R rest
  trace_asks law R k c before [] gb g f = tt
  trace_asks law R k c before (b ∷ bs) gb g f = (
    zip_map (HasValue eq m C v) R b.keys b.values (λ j y h i. f j y (record { computed = c; before = before; goes = gb; keys = b.keys; asks = g.0; among = h }) i) g.1,
    trace_asks law R k c (before ++ b ∷ []) bs (goes_last eq m law C v k [] before b gb g.0 g.1) g.2 f,
  )

  -- what is answered by values is answered in one way
  one_zip : (ks : List K) (xs ys : List V) → AllZip (HasValue eq m C v) ks xs → AllZip (HasValue eq m C v) ks ys → xs ≡ ys
  one_zip [] [] [] p q = refl
  one_zip [] [] (y ∷ ys) p q = absurd q
  one_zip [] (x ∷ xs) ys p q = absurd p
  one_zip (k ∷ ks) [] ys p q = absurd p
  one_zip (k ∷ ks) (x ∷ xs) [] p q = absurd q
  one_zip (k ∷ ks) (x ∷ xs) (y ∷ ys) p q =
      let a : x ≡ y = one_value eq m C v k x y p.0 q.0 in
      let b : xs ≡ ys = one_zip ks xs ys p.1 q.1 in
      cc

  -- from any batches on, a key goes on in one way
  one_way : (k : K) (x y : V) (before A B : List (Answered K V)) → Goes eq m C v k before A → m.next k (before ++ A) v ≡ Ends x → Goes eq m C v k before B → m.next k (before ++ B) v ≡ Ends y → A ≡ B
  one_way k x y before [] [] g e h f = refl
  one_way k x y before [] (b ∷ bs) g e h f = let p : Ends x ≡ Asks b.keys = sym (rw append-nil at e) ∙ h.0 in cc
  one_way k x y before (a ∷ as') [] g e h f = let p : Ends y ≡ Asks a.keys = sym (rw append-nil at f) ∙ g.0 in cc
  one_way k x y before (a ∷ as') (b ∷ bs) g e h f =
      let p : Asks a.keys ≡ Asks b.keys = sym g.0 ∙ h.0 in
      let q : a.keys ≡ b.keys = cc in
      let z : a.values ≡ b.values = one_zip b.keys a.values b.values (subst (λ ks. AllZip (HasValue eq m C v) ks a.values) q g.1) h.1 in
      let s : a ≡ b = λ i. record { keys = q i; values = z i } in
      let r : as' ≡ bs = one_way k x y (before ++ b ∷ []) as' bs
      (subst (λ c. Goes eq m C v k (before ++ c ∷ []) as') s g.2)
      (subst (λ A. m.next k A v ≡ Ends x) (sym (append_assoc before (b ∷ []) as')) (subst (λ c. m.next k (before ++ c ∷ as') v ≡ Ends x) s e))
      h.2 (subst (λ A. m.next k A v ≡ Ends y) (sym (append_assoc before (b ∷ []) bs)) f) in
      λ i. s i ∷ r i

  -- a key has one trace
  pub one_trace : (k : K) (A B : List (Answered K V)) (x y : V) → IsTrace eq m C v k A x → IsTrace eq m C v k B y → A ≡ B
  one_trace k A B x y p q = one_way k x y [] A B p.goes p.ends q.goes q.ends

  -- a key with a value that is not injected has a trace that ends in it
  pub some_trace : (k : K) (x : V) → m.kind k ≢ Injected → HasValue eq m C v k x → (A : List (Answered K V)) × IsTrace eq m C v k A x
  some_trace k x c i = at_depth i.depth i.gives
    where
      at_depth : (n : ℕ) → eval eq m n C v k ≡ Some x → (A : List (Answered K V)) × IsTrace eq m C v k A x
      at_depth zero e = absurd (none-some x e)
      at_depth (suc n) e = let t = value_trace n k x c e in (t.0, record { computed = c; goes = t.1; ends = t.3 })
