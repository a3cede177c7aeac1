-- Each step keeps the rule of the shelf.
use Rattle.std.proofs.Common.{◌≡◌, ◌≢◌, Bool, ℕ, List, [], ◌∷◌, ◌++◌, map, fold, set, refl, sym, ap, ◌∙◌, subst, ⊎_elim, append_assoc, append-nil, Result, Ok, Err, MatchResult, IfOk}
use Rattle.std.proofs.lemmas.List.Sums.{fold-append}
use mathlib.Core.List.{IsPrefix}
use mathlib.Core.Option.{some, some-ne-none}
use lib.ListN.{get_elem?}
use Rattle.crossbeam_utils.specs.Register.{Admits, TurnsAt, Forks, Merges}
use Rattle.atomic_table.proofs.Lists.{at_set, at_snoc, set_again}
use Rattle.dice_key.specs.Meaning.{Meaning}
use Rattle.shelf.specs.declared.op.ShelfOp.{ShelfOp}
use Rattle.shelf.specs.declared.op.Plain.{Plain}
use Rattle.shelf.specs.declared.rule.Seen.{Seen}
use Rattle.shelf.specs.Ops.{plain, commits_in, MayFollow, SoundAfter, IsSound}
use Rattle.shelf.specs.Rule.{with_op, newcomer, informed, Shelved, Saw}

module _ {K V : Type 0} where
  further : (seen xs ys : List (Plain K V)) → IsPrefix seen xs → IsPrefix seen (xs ++ ys)
  further seen xs ys s = (s.0 ++ ys, sym (append_assoc seen s.0 ys) ∙ ap (λ (l : List (Plain K V)). l ++ ys) s.1)

  seats_set : (P : Seen K V → Type 0) (vs : List (Seen K V)) (me : ℕ) (w : Seen K V) → P w → ((j : ℕ) (u : Seen K V) → j ≢ me → get_elem? vs j ≡ some u → P u)
      → (j : ℕ) (u : Seen K V) → get_elem? (set vs me w) j ≡ some u → P u
  seats_set P vs me w mine others j u e =
      ⊎_elim (λ (t : (j ≡ me) × (w ≡ u)). subst P t.1 mine) (λ (t : (j ≢ me) × (get_elem? vs j ≡ some u)). others j u t.0 t.1) (at_set vs me j w u e)

  -- operations that are taken in one after the other
  pub folded : (zs : List (Plain K V)) (xs : List (ShelfOp K V)) → fold (λ l x. l ++ plain x ∷ []) zs xs ≡ zs ++ map plain xs
  folded zs [] = sym (append-nil zs)
  folded zs (x ∷ xs) = folded (zs ++ plain x ∷ []) xs ∙ append_assoc zs (plain x ∷ []) (map plain xs)

  -- the list once an operation is appended, or comes back
  abbrev pub Appended : {A : Type 0} → Result A (ShelfOp K V) → List (ShelfOp K V) → ShelfOp K V → List (ShelfOp K V) → Type 0
  Appended r old op new = MatchResult r (λ _. new ≡ old ++ op ∷ []) (λ x. (x ≡ op) × (new ≡ old))

  one_more : (xs ys : List (Plain K V)) (old new : List (ShelfOp K V)) (op : ShelfOp K V) → ys ≡ xs → new ≡ old ++ op ∷ [] → fold with_op ys new ≡ fold with_op xs old ++ plain op ∷ []
  one_more xs ys old new op same h = (λ i. fold with_op (same i) (h i)) ∙ fold-append with_op xs old (op ∷ [])

  pub appended : {A : Type 0} (r : Result A (ShelfOp K V)) (xs ys : List (Plain K V)) (old new : List (ShelfOp K V)) (op : ShelfOp K V) → ys ≡ xs → Appended r old op new → IfOk r (λ _. fold with_op ys new ≡ fold with_op xs old ++ plain op ∷ [])
  appended (Ok a) xs ys old new op same h = one_more xs ys old new op same h
  appended (Err b) xs ys old new op same h = tt

module _ {K V : Type 0} (eq : K → K → Bool) (m : Meaning K V) where
  sound_more : (before xs : List (Plain K V)) (x : Plain K V) → SoundAfter eq m before xs → MayFollow eq m (commits_in (before ++ xs)) x → SoundAfter eq m before (xs ++ x ∷ [])
  sound_more before [] x s may = (subst (λ (l : List (Plain K V)). MayFollow eq m (commits_in l) x) (append-nil before) may, tt)
  sound_more before (y ∷ xs) x s may =
      (s.0, sound_more (before ++ y ∷ []) xs x s.1 (subst (λ (l : List (Plain K V)). MayFollow eq m (commits_in l) x) (sym (append_assoc before (y ∷ []) xs)) may))

  pub sound_next : (xs : List (Plain K V)) (x : Plain K V) → IsSound eq m xs → MayFollow eq m (commits_in xs) x → IsSound eq m (xs ++ x ∷ [])
  sound_next xs x s may = sound_more [] xs x s may

  -- a beginning of a sound list is sound
  pub sound_before : (before xs ys : List (Plain K V)) → SoundAfter eq m before (xs ++ ys) → SoundAfter eq m before xs
  sound_before before [] ys s = tt
  sound_before before (x ∷ xs) ys s = (s.0, sound_before (before ++ x ∷ []) xs ys s.1)

  pub still_sound : {A : Type 0} (r : Result A (ShelfOp K V)) (xs ys : List (Plain K V)) (old new : List (ShelfOp K V)) (op : ShelfOp K V) → ys ≡ xs → Appended r old op new → IsSound eq m (fold with_op xs old)
      → MayFollow eq m (commits_in (fold with_op xs old)) (plain op) → IsSound eq m (fold with_op ys new)
  still_sound (Ok a) xs ys old new op same h s may = subst (IsSound eq m) (sym (one_more xs ys old new op same h)) (sound_next (fold with_op xs old) (plain op) s may)
  still_sound (Err b) xs ys old new op same h s may = subst (IsSound eq m) (sym (λ i. fold with_op (same i) (h.1 i))) s

  pub begins : (s : List (Plain K V)) → s ≡ [] → Shelved eq m s (newcomer ∷ [])
  begins s empty = (subst (IsSound eq m) (sym empty) tt, one)
    where
      one : (id : ℕ) (v : Seen K V) → get_elem? (newcomer ∷ []) id ≡ some v → IsPrefix v.seen s
      one id v e =
          ⊎_elim (λ (t : get_elem? [] id ≡ some v). absurd (some-ne-none v (sym t))) (λ (t : newcomer ≡ v). subst (λ (y : Seen K V). IsPrefix y.seen s) t (s, refl)) (at_snoc [] newcomer v id e)

  pub admits : Admits {T = List (Plain K V)} (Shelved eq m) newcomer
  admits s views h = (h.0, λ j u e. ⊎_elim (h.1 j u) (λ (t : newcomer ≡ u). subst (λ (y : Seen K V). IsPrefix y.seen s) t (s, refl)) (at_snoc views newcomer u j e))

  -- a step that only adds, and keeps the list sound
  rises : (id : ℕ) (v : Seen K V) (s t : List (Plain K V)) (rest : List (Plain K V)) → t ≡ s ++ rest → (IsSound eq m s → IsSound eq m t) → TurnsAt (Shelved eq m) id v s t (Saw eq m)
  rises id v s t rest is sound views h at =
      let w : Seen K V = record { seen = t } in
      let up : (ys : List (Plain K V)) → IsPrefix ys s → IsPrefix ys t = λ ys p. subst (IsPrefix ys) (sym is) (further ys s rest p) in (
        w,
        (sound h.0, seats_set (λ u. IsPrefix u.seen t) views id w ([], append-nil t) (λ j u _ e. up u.seen (h.1 j u e))),
        (refl, up v.seen (h.1 id v at), sound h.0),
      )

  pub looks : (id : ℕ) (v : Seen K V) (s : List (Plain K V)) → TurnsAt (Shelved eq m) id v s s (Saw eq m)
  looks id v s = rises id v s s [] (sym (append-nil s)) (λ x. x)

  pub publishes : (id : ℕ) (v : Seen K V) (s t : List (Plain K V)) (xs : List (ShelfOp K V)) → t ≡ fold with_op s xs → IsSound eq m (fold with_op s xs) → TurnsAt (Shelved eq m) id v s t (Saw eq m)
  publishes id v s t xs is sound = rises id v s t (map plain xs) (is ∙ folded s xs) (λ _. subst (IsSound eq m) (sym is) sound)

  pub forks : (id : ℕ) (v : Seen K V) → Forks {T = List (Plain K V)} (Shelved eq m) id v v v
  forks id v s views h at = (
    h.0,
    λ j u e. ⊎_elim (λ was. h.1 j u (subst (λ (l : List (Seen K V)). get_elem? l j ≡ some u) (set_again views id v at) was))
        (λ (t : v ≡ u). subst (λ (y : Seen K V). IsPrefix y.seen s) t (h.1 id v at)) (at_snoc (set views id v) v u j e),
  )

  pub merges : (id : ℕ) (v : Seen K V) (other : ℕ) (u : Seen K V) → Merges {T = List (Plain K V)} (Shelved eq m) id v other u (informed v u) newcomer
  merges id v other u s views h at apart there =
      let P : Seen K V → Type 0 = λ y. IsPrefix y.seen s in
      let was : get_elem? views other ≡ some u = ⊎_elim (λ (t : (other ≡ id) × (u ≡ u)). absurd (apart t.0)) (λ (t : (other ≢ id) × (get_elem? views other ≡ some u)). t.1) (at_set views id other u u there) in
      (h.0, seats_set P (set views id u) other newcomer (s, refl) (λ j y _ e. seats_set P views id u (h.1 other u was) (λ i z _ e'. h.1 i z e') j y e))
