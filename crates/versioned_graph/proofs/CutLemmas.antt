-- What a commit cuts.
use Rattle.std.proofs.Common.{◌≡◌, ◌⊎◌, ◌<◌, ◌&&◌, inl, inr, ℕ, ◌+◌, suc, Bool, true, false, cond, nat_lt, List, [], ◌∷◌, ◌++◌, map, take, length, get_or, Option, Some, None, unwrap_or, refl, sym, ap, ◌∙◌, subst, arith, length-append}
use Rattle.std.specs.Arc.{arc_value}
use Rattle.std.specs.declared.sync.Arc.{Arc}
use Rattle.std.specs.List.{list_any}
use Rattle.std.specs.Map.{lookup, keys_of}
use Rattle.std.specs.Option.{option_map}
use Rattle.std.proofs.lemmas.List.{take_more, map-append, take_all}
use Rattle.std.proofs.lemmas.Option.{none-some, same_Some}
use Rattle.dice_key.specs.Meaning.{Meaning}
use Rattle.dice_key.specs.Lawful.{IsLawful, IsEquality}
use Rattle.dice_key.specs.declared.universe.Kind.TheVariants.{Injected}
use Rattle.dice_model.specs.Log.{input, last_value_of}
use Rattle.versioned_graph.specs.Entries.{Stored, Kept, entry_at, cut_at}
use Rattle.versioned_graph.specs.Edges.{is_edge, CutBy, CommitReaches, changes, leads, IsCut}
use Rattle.versioned_graph.specs.Sound.{IsTrue, IsTailed, Edges, AreTrue}
use Rattle.versioned_graph.specs.Users.{users_of, IsIndexed}
use Rattle.versioned_graph.proofs.Tails.{more_edges, cut_true, cut_tailed, left_true, left_tailed}
use Rattle.dice_key.proofs.KeySets.{any_end, any_has, has_any}
use Rattle.lists.specs.Lists.{Has}
use Rattle.std.proofs.lemmas.Bool.{cases_Bool}

pub none_of : {X : Type 0} (a b : Bool) (xs : List X) → cond a [] (cond b [] xs) ≡ cond (cond a true b) [] xs
none_of true b xs = refl
none_of false b xs = refl

module _ {K A : Type 0} (eq : K → K → Bool) (law : IsEquality eq) where
  -- one key more was taken
  pub any_more : (ks : List (Arc K A)) (i : ℕ) (k : Arc K A) → i < length ks → k ≡ get_or ks i k → (q : K) → list_any (eq q) (map arc_value (take (i + 1) ks)) ≡ cond (eq (arc_value k) q) true (list_any (eq q) (map arc_value (take i ks)))
  any_more ks i k l e q =
      ap (λ xs. list_any (eq q) (map arc_value xs)) (take_more ks i k l ∙ ap (λ x. take i ks ++ x ∷ []) (sym e))
      ∙ (ap (list_any (eq q)) (map-append arc_value (take i ks) (k ∷ [])) ∙ any_end eq law q (arc_value k) (map arc_value (take i ks)))

and_again : (a b : Bool) → ((a && b) && b) ≡ (a && b)
and_again true true = refl
and_again true false = refl
and_again false b = refl

cut_again : {K V : Type 0} (v : ℕ) (o : Option (Kept K V)) → option_map (cut_at v) (option_map (cut_at v) o) ≡ option_map (cut_at v) o
cut_again v None = refl
cut_again v (Some e) = λ i. Some (record { value = e.value; trace = e.trace; ranges = λ w. and_again (e.ranges w) (nat_lt w v) i; version = e.version })

module _ {K V : Type 0} (eq : K → K → Bool) (law : IsEquality eq) (v : ℕ) where
  pub cut_none : (es : List (K × Stored K V)) → CutBy eq v (λ q. false) es es
  cut_none es = record { entries = λ q. refl; edges = λ j q. refl }

  -- one entry more
  pub cut_more : (R R' : K → Bool) (k : K) (es fs gs : List (K × Stored K V)) → CutBy eq v R es fs
      → ((q : K) → entry_at eq gs q ≡ cond (eq k q) (option_map (cut_at v) (entry_at eq fs k)) (entry_at eq fs q))
      → ((j q : K) → is_edge eq gs j q ≡ cond (eq k q) false (is_edge eq fs j q))
      → ((q : K) → R' q ≡ cond (eq k q) true (R q)) → CutBy eq v R' es gs
  cut_more R R' k es fs gs h entries edges more = record {
    entries = λ q. entries q ∙ (entry_by q (eq k q) refl ∙ ap (λ b. cond b (option_map (cut_at v) (entry_at eq es q)) (entry_at eq es q)) (sym (more q)));
    edges = λ j q. edges j q ∙ (edge_by j q (eq k q) ∙ ap (λ b. cond b false (is_edge eq es j q)) (sym (more q)));
  }
    where
      cut_by : (q : K) (b : Bool) → option_map (cut_at v) (cond b (option_map (cut_at v) (entry_at eq es q)) (entry_at eq es q)) ≡ option_map (cut_at v) (entry_at eq es q)
      cut_by q true = cut_again v (entry_at eq es q)
      cut_by q false = refl

      entry_by : (q : K) (b : Bool) → eq k q ≡ b → cond b (option_map (cut_at v) (entry_at eq fs k)) (entry_at eq fs q) ≡ cond (cond b true (R q)) (option_map (cut_at v) (entry_at eq es q)) (entry_at eq es q)
      entry_by q true e = ap (λ n. option_map (cut_at v) (entry_at eq fs n)) (law.same k q e) ∙ (ap (option_map (cut_at v)) (h.entries q) ∙ cut_by q (R q))
      entry_by q false e = h.entries q

      edge_by : (j q : K) (b : Bool) → cond b false (is_edge eq fs j q) ≡ cond (cond b true (R q)) false (is_edge eq es j q)
      edge_by j q true = refl
      edge_by j q false = h.edges j q

module _ {K V : Type 0} (eq : K → K → Bool) (law : IsEquality eq) (es : List (K × Stored K V)) (changed rs : List K)
    (all : (q : K) → CommitReaches eq es changed q → Has rs q) (only : (q : K) → Has rs q → CommitReaches eq es changed q) where
  abbrev pub R : K → Bool
  R q = list_any (eq q) rs

  reached_test : (q : K) → CommitReaches eq es changed q → R q ≡ true
  reached_test q h = has_any eq law rs q (all q h)

  test_reached : (q : K) → R q ≡ true → CommitReaches eq es changed q
  test_reached q h = only q (any_has eq law rs q h)

  unreached_test : (q : K) → (CommitReaches eq es changed q → ⊥) → R q ≡ false
  unreached_test q n = elim (cases_Bool (R q)) as (λ _. R q ≡ false) [ inl t ↦ absurd (n (test_reached q t)) | inr f ↦ f ]

  -- what was cut is what the commit reaches
  pub is_cut : (v : ℕ) (fs : List (K × Stored K V)) → CutBy eq v R es fs → IsCut eq es changed v fs
  is_cut v fs h = record {
    decided = λ q. elim (cases_Bool (R q)) as (λ _. CommitReaches eq es changed q ⊎ (CommitReaches eq es changed q → ⊥)) [
      | inl t ↦ inl (test_reached q t)
      | inr f ↦ inr (λ h. let z : true ≡ false = sym (reached_test q h) ∙ f in cc)
    ];
    reached = λ q r. h.entries q ∙ ap (λ b. cond b (option_map (cut_at v) (entry_at eq es q)) (entry_at eq es q)) (reached_test q r);
    others = λ q n. h.entries q ∙ ap (λ b. cond b (option_map (cut_at v) (entry_at eq es q)) (entry_at eq es q)) (unreached_test q n);
    taken = λ j q r. h.edges j q ∙ ap (λ b. cond b false (is_edge eq es j q)) (reached_test q r);
    left = λ j q n. h.edges j q ∙ ap (λ b. cond b false (is_edge eq es j q)) (unreached_test q n);
  }

  closed : (i j : K) → is_edge eq es i j ≡ true → R i ≡ true → R j ≡ true
  closed i j e r = reached_test j (leads (test_reached i r) e)

  -- the lists of what was not reached have all edges that are left
  pub still_indexed : (v : ℕ) (fs : List (K × Stored K V)) (us vs : List (K × List K)) → CutBy eq v R es fs → IsIndexed eq es us → ((j q : K) → R j ≡ false → Has (users_of eq us j) q → Has (users_of eq vs j) q) → IsIndexed eq fs vs
  still_indexed v fs us vs h indexed stay j k e = by_test (R k) refl (sym (h.edges j k) ∙ e)
    where
      from : R k ≡ false → R j ≡ true → is_edge eq es j k ≡ true → ⊥
      from f t d = let z : true ≡ false = sym (closed j k d t) ∙ f in cc

      by_test : (b : Bool) → R k ≡ b → cond b false (is_edge eq es j k) ≡ true → Has (users_of eq vs j) k
      by_test true r d = cc
      by_test false r d = elim (cases_Bool (R j)) as (λ _. Has (users_of eq vs j) k) [ inl t ↦ absurd (from r t d) | inr f ↦ stay j k f (indexed j k d) ]

  module _ (m : Meaning K V) (lawful : IsLawful m) (C : List (List (K × V))) (c : List (K × V)) (covers : (k : K) → Has (keys_of c) k → Has changed k) where
    last_more : (t : K → Bool) (B : List (List (K × V))) (y : V) → last_value_of t y (B ++ c ∷ []) ≡ unwrap_or (lookup t c) (last_value_of t y B)
    last_more t [] y = refl
    last_more t (b ∷ B) y = last_more t B (unwrap_or (lookup t b) y)

    unset : (d : List (K × V)) (k : K) → (Has (keys_of d) k → ⊥) → lookup (eq k) d ≡ None
    unset [] k n = refl
    unset (p ∷ d) k n = at (eq k p.0) refl (unset d k (λ h. n (inr h)))
      where
        at : (r : Bool) → eq k p.0 ≡ r → lookup (eq k) d ≡ None → lookup (eq k) (p ∷ d) ≡ None
        at true e r = absurd (n (inl (sym (law.same k p.0 e))))
        at false e r = rw e r

    inputs : (d : K) → m.kind d ≡ Injected → R d ≡ false → input eq m (C ++ c ∷ []) (suc (length C)) d ≡ input eq m C (length C) d
    inputs d i f =
        let l = length-append C (c ∷ []) in
        let a : take (suc (length C)) (C ++ c ∷ []) ≡ C ++ c ∷ [] = take_all (suc (length C)) (C ++ c ∷ []) (omega arith) in
        let b : take (length C) C ≡ C = take_all (length C) C (omega arith) in
        let n : lookup (eq d) c ≡ None = unset c d (λ h. let z : true ≡ false = sym (reached_test d (changes (covers d h))) ∙ f in cc) in
        ap (last_value_of (eq d) (m.absent d)) a
        ∙ (last_more (eq d) C (m.absent d)
        ∙ (ap (λ o. unwrap_or o (last_value_of (eq d) (m.absent d) C)) n
        ∙ ap (last_value_of (eq d) (m.absent d)) (sym b)))

    -- all entries are true after the commit
    pub cut_stands : (v : ℕ) (fs : List (K × Stored K V)) → v ≡ suc (length C) → CutBy eq v R es fs → AreTrue eq m C es → AreTrue eq m (C ++ c ∷ []) fs
    cut_stands v fs n h t k e p = by_test (R k) refl (sym (h.entries k) ∙ p)
      where
        N : ℕ
        N = length C

        D : List (List (K × V))
        D = C ++ c ∷ []

        last : length D ≡ suc N
        last = let l = length-append C (c ∷ []) in omega arith

        reached_one : (o : Option (Kept K V)) → entry_at eq es k ≡ o → option_map (cut_at v) o ≡ Some e → IsTrue eq m D k e × IsTailed eq m D (length D) (Edges eq m fs) k e
        reached_one None q r = absurd (none-some e r)
        reached_one (Some f) q r =
            let s = t k f q in
            let u : cut_at (suc N) f ≡ e = ap (λ x. cut_at x f) (sym n) ∙ same_Some (cut_at v f) e r in
            subst (λ x. IsTrue eq m D k x × IsTailed eq m D (length D) (Edges eq m fs) k x) u
            (cut_true eq m C c k f s.0, subst (λ x. IsTailed eq m D x (Edges eq m fs) k (cut_at (suc N) f)) (sym last) (cut_tailed eq m C c k f s.0 (Edges eq m fs)))

        left_edges : (i j : K) → Edges eq m es i j × (R j ≡ false) → Edges eq m fs i j
        left_edges i j d = h.edges i j ∙ (ap (λ b. cond b false (is_edge eq es i j)) d.1 ∙ d.0)

        left_one : R k ≡ false → entry_at eq es k ≡ Some e → IsTrue eq m D k e × IsTailed eq m D (length D) (Edges eq m fs) k e
        left_one f q =
            let s = t k e q in (
              left_true eq m C c k e s.0 lawful (Edges eq m es) R closed inputs s.1 f,
              subst (λ x. IsTailed eq m D x (Edges eq m fs) k e) (sym last) (more_edges eq m D (suc N) e _ (Edges eq m fs) k left_edges (left_tailed eq m C c k e s.0 lawful (Edges eq m es) R closed inputs s.1 f)),
            )

        by_test : (b : Bool) → R k ≡ b → cond b (option_map (cut_at v) (entry_at eq es k)) (entry_at eq es k) ≡ Some e → IsTrue eq m D k e × IsTailed eq m D (length D) (Edges eq m fs) k e
        by_test true r q = reached_one (entry_at eq es k) refl q
        by_test false r q = left_one r q

module _ {K V : Type 0} (eq : K → K → Bool) (es fs : List (K × Stored K V)) (changed : List K) (v : ℕ) (h : IsCut eq es changed v fs) where
  -- an entry after the commit is one from before it, as it was or cut
  pub cut_from : (k : K) (e : Kept K V) → entry_at eq fs k ≡ Some e → (f : Kept K V) × (entry_at eq es k ≡ Some f) × ((e ≡ f) ⊎ (e ≡ cut_at v f))
  cut_from k e p = elim (h.decided k) as (λ _. (f : Kept K V) × (entry_at eq es k ≡ Some f) × ((e ≡ f) ⊎ (e ≡ cut_at v f))) [
    | inl r ↦ by_entry (entry_at eq es k) refl (sym (h.reached k r) ∙ p)
    | inr n ↦ (e, sym (h.others k n) ∙ p, inl refl)
  ]
    where
      by_entry : (o : Option (Kept K V)) → entry_at eq es k ≡ o → option_map (cut_at v) o ≡ Some e → (f : Kept K V) × (entry_at eq es k ≡ Some f) × ((e ≡ f) ⊎ (e ≡ cut_at v f))
      by_entry None q r = absurd (none-some e r)
      by_entry (Some f) q r = (f, q, inr (sym (same_Some (cut_at v f) e r)))

  -- and each entry from before is there after it
  pub still_there : (k : K) (e : Kept K V) → entry_at eq es k ≡ Some e → (f : Kept K V) × (entry_at eq fs k ≡ Some f)
  still_there k e p = elim (h.decided k) as (λ _. (f : Kept K V) × (entry_at eq fs k ≡ Some f)) [
    | inl r ↦ (cut_at v e, h.reached k r ∙ ap (option_map (cut_at v)) p)
    | inr n ↦ (e, h.others k n ∙ p)
  ]
