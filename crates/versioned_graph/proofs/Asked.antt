-- What a key asks stands in its trace.
use Rattle.std.proofs.Common.{◌≡◌, inl, inr, ℕ, Bool, true, List, [], ◌∷◌, ◌++◌, refl, sym, ap, ◌∙◌, subst, append_assoc, append-nil}
use Rattle.std.specs.List.{AllZip, list_any}
use Rattle.dice_key.specs.Lawful.{IsEquality}
use Rattle.dice_key.specs.Meaning.{Meaning, Answered, Asks, Ends}
use Rattle.dice_model.specs.Eval.{HasValue}
use Rattle.dice_model.specs.Asks.{Goes, AsksFor}
use Rattle.dice_model.proofs.EvalLaws.{one_value}
use Rattle.versioned_graph.specs.Edges.{is_asked}
use Rattle.versioned_graph.proofs.Bools.{HasKey}
use Rattle.dice_key.proofs.KeySets.{has_any}
use Rattle.lists.specs.Lists.{Has}
use Rattle.std.proofs.lemmas.Bool.{or_left, or_right}

-- an answer to each key, and only one
zip_same : {K V : Type 0} (R : K → V → Type 0) → ((k : K) (x y : V) → R k x → R k y → x ≡ y) → (ks : List K) (xs ys : List V) → AllZip R ks xs → AllZip R ks ys → xs ≡ ys
zip_same R u [] [] [] p q = refl
zip_same R u [] [] (y ∷ ys) p q = absurd q
zip_same R u [] (x ∷ xs) ys p q = absurd p
zip_same R u (k ∷ ks) [] ys p q = absurd p
zip_same R u (k ∷ ks) (x ∷ xs) [] p q = absurd q
zip_same R u (k ∷ ks) (x ∷ xs) (y ∷ ys) p q = let a = u k x y p.0 q.0 in let b = zip_same R u ks xs ys p.1 q.1 in cc

module _ {K V : Type 0} (eq : K → K → Bool) (m : Meaning K V) (C : List (List (K × V))) (v : ℕ) where
  asked_from : (k j : K) (x : V) (keys : List K) (before rest went : List (Answered K V)) → Goes eq m C v k before rest → m.next k (before ++ rest) v ≡ Ends x → Goes eq m C v k before went → m.next k (before ++ went) v ≡ Asks keys → Has keys j → HasKey rest j
  asked_from k j x keys before [] [] g e h a i = let z : Ends x ≡ Asks keys = sym e ∙ a in cc
  asked_from k j x keys before [] (c ∷ cs) g e h a i = let z : Ends x ≡ Asks c.keys = sym (rw append-nil at e) ∙ h.0 in cc
  asked_from k j x keys before (b ∷ bs) [] g e h a i =
      let z : Asks b.keys ≡ Asks keys = sym g.0 ∙ (rw append-nil at a) in
      let s : b.keys ≡ keys = cc in
      inl (subst (λ ks. Has ks j) (sym s) i)
  asked_from k j x keys before (b ∷ bs) (c ∷ cs) g e h a i =
      let z : Asks b.keys ≡ Asks c.keys = sym g.0 ∙ h.0 in
      let s : b.keys ≡ c.keys = cc in
      let t : b.values ≡ c.values = zip_same (HasValue eq m C v) (one_value eq m C v) b.keys b.values c.values g.1 (rw (sym s) at h.1) in
      let u : c ≡ b = ap (λ ks. record { keys = ks; values = c.values }) (sym s) ∙ ap (λ xs. record { keys = b.keys; values = xs }) (sym t) in
      inr (asked_from k j x keys (before ++ b ∷ []) bs cs g.2
      (subst (λ A. m.next k A v ≡ Ends x) (sym (append_assoc before (b ∷ []) bs)) e)
      (subst (λ d. Goes eq m C v k (before ++ d ∷ []) cs) u h.2)
      (subst (λ A. m.next k A v ≡ Asks keys) (sym (append_assoc before (b ∷ []) cs)) (subst (λ d. m.next k (before ++ d ∷ cs) v ≡ Asks keys) u a)) i)

  pub asked_in_trace : (k j : K) (x : V) (A : List (Answered K V)) → Goes eq m C v k [] A → m.next k A v ≡ Ends x → AsksFor eq m C v k j → HasKey A j
  asked_in_trace k j x A g e a = asked_from k j x a.keys [] A a.before g e a.goes a.asks a.among

module _ {K V : Type 0} (eq : K → K → Bool) (law : IsEquality eq) where
  pub is_asked_of : (A : List (Answered K V)) (j : K) → HasKey A j → is_asked eq A j ≡ true
  is_asked_of [] j h = absurd h
  is_asked_of (b ∷ bs) j (inl h) = or_left (list_any (eq j) b.keys) (is_asked eq bs j) (has_any eq law b.keys j h)
  is_asked_of (b ∷ bs) j (inr h) = or_right (list_any (eq j) b.keys) (is_asked eq bs j) (is_asked_of bs j h)
