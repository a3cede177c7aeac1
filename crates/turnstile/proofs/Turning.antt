-- What the steps come to in a turn.
use Rattle.std.proofs.Common.{◌≡◌, ◌≢◌, ℕ, ◌+◌, ◌%◌, ◌^◌, ◌≤◌, max, true, true≢false, List, [], ◌∷◌, ◌++◌, Option, Some, None, MatchOption, refl, sym, ap, ◌∙◌, subst}
use mathlib.Core.Option as core
use mathlib.Core.Option.{none, some, some-injective}
use lib.ListN.{get_elem?}
use Rattle.atomic_table.specs.Table.{step, rest, Allows, Final, Seen}
use Rattle.turnstile.specs.declared.view.View.{View}
use Rattle.turnstile.specs.declared.view.Stage.{Stage}
use Rattle.turnstile.specs.declared.view.Stage.TheVariants.{Away, Waits, Serves, Raises, Empties, Spent}
use Rattle.turnstile.specs.Events.{Grows}
use Rattle.turnstile.specs.Rule.{Turns}
use Rattle.turnstile.specs.Steps.{Seated, serving, back, Found, Agrees, LookedFor, left, raised, in_hand, Waiting, Taken, is_serving, IsTurn, Left}
use Rattle.turnstile.proofs.Keeps.{leaves, raises, nothing_left}

module _ {S E : Type 0} (list : S → List E) (by : E → Option ℕ) (version : List E → ℕ) (mark : S → ℕ × ℕ) where
  -- what the seat has if its ticket was found
  pub finds : (m m' : Seated S E) (n ticket : ℕ) → Waiting ticket m.0.stage → m.1 ≡ [] → n ≡ ticket → ((t : ℕ) → m.0.stage ≡ Waits t → LookedFor list by version mark t m n m')
      → (t : ℕ) × (x : S) × (m' ≡ (serving m.0 t (list x), in_hand x)) × Found by version m.0 (list x) × (mark x ≡ m.0.mark)
  finds m m' n ticket waits empty same told =
      let t : ℕ = waits.0 in
      let h = (told t waits.1).0 (same ∙ waits.2) in
      (t, h.0, subst (λ (l : List (ℕ × Option S)). m' ≡ (serving m.0 t (list h.0), (0, Some h.0) ∷ l)) empty h.1, h.2, h.3)

  pub misses : (m m' : Seated S E) (n ticket : ℕ) → Waiting ticket m.0.stage → n ≢ ticket → ((t : ℕ) → m.0.stage ≡ Waits t → LookedFor list by version mark t m n m') → m' ≡ m
  misses m m' n ticket waits other told = (told waits.0 waits.1).1 (λ e. other (e ∙ sym waits.2))

  abbrev held : List (ℕ × Option S) → Option S → Option S
  held (x ∷ _) d = x.1
  held [] d = d

  pub has_one : (m m' : Seated S E) (t : ℕ) (x : S) → m' ≡ (serving m.0 t (list x), in_hand x) → (old : Option S) × (m'.1 ≡ (0, old) ∷ rest m'.1)
  has_one m m' t x is = (Some x, subst (λ (q : Seated S E). q.1 ≡ (0, Some x) ∷ rest q.1) (sym is) refl)

  -- the same, once the state was moved out of the slot
  pub takes_out : (m m' m'' : Seated S E) (t : ℕ) (x : S) (found : Option S) → m' ≡ (serving m.0 t (list x), in_hand x) → Found by version m.0 (list x) × (mark x ≡ m.0.mark)
      → m'.1 ≡ (0, found) ∷ rest m'.1 → m'' ≡ (m'.0, (0, None) ∷ rest m'.1) → MatchOption found (m'' ≡ m) (Taken list by version mark m m'')
  takes_out m m' m'' t x found is known got now =
      let same : Some x ≡ found = ap (λ (l : List (ℕ × Option S)). held l found) (sym (ap (λ (q : Seated S E). q.1) is) ∙ got) in
      let after : m'' ≡ (serving m.0 t (list x), (0, None) ∷ []) = now ∙ ap (λ (q : Seated S E). (q.0, (0, None) ∷ rest q.1)) is in
      subst (λ (o : Option S). MatchOption o (m'' ≡ m) (Taken list by version mark m m'')) same (t, after, known.0, known.1)

  served : (st : Stage) → is_serving st ≡ true → (t : ℕ) × (st ≡ Serves t)
  served (Serves t) e = (t, refl)
  served Away e = absurd (true≢false (sym e))
  served (Waits t) e = absurd (true≢false (sym e))
  served Raises e = absurd (true≢false (sym e))
  served (Empties t) e = absurd (true≢false (sym e))
  served Spent e = absurd (true≢false (sym e))

  -- the state goes back into the slot, and then the turn ends
  pub hands_back : (m m' : Seated S E) (x : S) → IsTurn m → m' ≡ (m.0, (0, Some x) ∷ rest m.1) → m' ≡ (m.0, in_hand x)
  hands_back m m' x turn is = is ∙ ap (λ (l : List (ℕ × Option S)). (m.0, (0, Some x) ∷ rest l)) turn.1

  pub leaves_as : (writers : ℕ) (k : ℕ × ℕ) (law : (xs ys : List E) → version xs ≤ version (xs ++ ys)) (tally : S → ℕ × ℕ × ℕ) (slots id : ℕ) (m m' : Seated S E) (x : S) → IsTurn m → mark x ≡ m.0.mark → Grows by m.0.number m.0.writers m.0.seen (list x) → m' ≡ (m.0, (0, Some x) ∷ rest m.1)
      → Allows (Turns list by version mark writers k) slots id m' 1 (λ n. (n + 1) % 2 ^ 64) (left list by tally (step slots 1 1 0 none) m')
  leaves_as writers k law tally slots id m m' x turn kept grows is =
      let at = served m.0.stage turn.0 in
      subst (λ (q : Seated S E). Allows (Turns list by version mark writers k) slots id q 1 (λ n. (n + 1) % 2 ^ 64) (left list by tally (step slots 1 1 0 none) q)) (sym (hands_back m m' x turn is))
      (leaves list by version mark writers k law tally slots id (m.0, in_hand x) at.0 x at.1 refl kept grows)

  pub has_left : (tally : S → ℕ × ℕ × ℕ) (m m' m'' : Seated S E) (x : S) → IsTurn m → m' ≡ (m.0, (0, Some x) ∷ rest m.1) → ((y : S) → m'.1 ≡ in_hand y → (m'' ≡ (back by m'.0 (list y) (tally y), [])) × Agrees by m'.0 (list y))
      → (m'' ≡ (back by m.0 (list x) (tally x), [])) × Agrees by m.0 (list x)
  has_left tally m m' m'' x turn is told = let e = hands_back m m' x turn is in
      let t = told x (ap (λ (q : Seated S E). q.1) e) in
      (t.0 ∙ ap (λ (q : Seated S E). (back by q.0 (list x) (tally x), [])) e, subst (λ (q : Seated S E). Agrees by q.0 (list x)) e t.1)

  -- the turn has ended, and the version k is to be shown
  pub raises_as : (writers : ℕ) (b : ℕ × ℕ) (law : (xs ys : List E) → version xs ≤ version (xs ++ ys)) (slots id : ℕ) (m m' : Seated S E) (xs : List E) (counts : ℕ × ℕ × ℕ) (k : ℕ) → m' ≡ (back by m.0 xs counts, []) → k ≡ version xs
      → Allows (Turns list by version mark writers b) slots id m' 2 (λ n. max n k) (raised version (step slots 2 k 0 none) m')
  raises_as writers b law slots id m m' xs counts k is same =
      raises list by version mark writers b law slots id m' k (ap (λ (q : Seated S E). q.0.stage) is) (same ∙ ap (λ (q : Seated S E). version q.0.seen) (sym is))

  pub has_raised : (slots k : ℕ) (m m' m'' : Seated S E) (xs : List E) (counts : ℕ × ℕ × ℕ) (n : ℕ) → m' ≡ (back by m.0 xs counts, []) → raised version (step {S = Option S} slots 2 k 0 none) m' n m''
      → Left by version m m'' xs counts
  has_raised slots k m m' m'' xs counts n is told =
      subst (λ (q : Seated S E). raised version (step slots 2 k 0 none) q n m'') is told

  -- the state was taken out for good
  pub has_emptied : (m m' m'' : Seated S E) (x : S) (taken : Taken list by version mark m m' x) → ((t : ℕ) → m'.0.stage ≡ Serves t → m'' ≡ (record (m'.0) { stage = Empties t }, [])) → m''.0.stage ≡ Empties taken.0
  has_emptied m m' m'' x taken told = ap (λ (q : Seated S E). q.0.stage) (told taken.0 (ap (λ (q : Seated S E). q.0.stage) taken.1))

  pub slot_is_empty : (writers : ℕ) (k : ℕ × ℕ) (id : ℕ) (v : View E) (t : ℕ) (ws : List ℕ) (xs : List (Option S)) (found : Option S) → v.stage ≡ Empties t → Final (Seen (Turns list by version mark writers k) id v) ws xs → get_elem? xs 0 ≡ some found → found ≡ None
  slot_is_empty writers k id v t ws xs found is last here =
      let home = nothing_left list by version mark writers k last.0 last.1.0 id v t last.1.1 is in
      let there : get_elem? xs 0 ≡ some None = last.4 0 None (ap (λ (hs : List (core.Option (Option S))). get_elem? hs 0) home) in
      some-injective _ _ (sym here ∙ there)
