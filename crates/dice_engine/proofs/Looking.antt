-- What a look finds once the reader was told of a journal.
use Rattle.std.proofs.Common.{◌≡◌, ◌≤◌, ℕ, Bool, true, false, cond, eqb, ◌&&◌, nat_eq, List, [], ◌∷◌, ◌++◌, length, map, Some, None, inl, inr, refl, sym, ap, ◌∙◌, subst, arith, append_assoc, length-append, eqb-true, if◌then◌else◌}
use Rattle.std.specs.Prelude.{reverse}
use Rattle.std.proofs.lemmas.Bool.{eq-eqb, and_parts}
use Rattle.std.proofs.lemmas.List.{reverse-append, reverse-reverse}
use Rattle.std.proofs.lemmas.Option.{none-some, same_Some}
use Rattle.dice_key.specs.Lawful.{IsEquality}
use Rattle.dice_key.specs.Meaning.{Meaning}
use Rattle.dice_model.specs.Eval.{eval, HasValue}
use Rattle.dice_model.proofs.EvalLaws.{eval_stable}
use Rattle.dice_model.proofs.Stable.{value_stable}
use Rattle.journal.specs.declared.event.Told.{Told}
use Rattle.journal.specs.declared.event.Told.TheVariants.{Commit, Open, Close, Ask, Leave, Start, Keep, End, Cyclic, Drop, Lost}
use Rattle.journal.specs.Events.{ByValue, ByCycle, names_by, begins, decided, commits_of}
use Rattle.journal.specs.Law.{IsWanted, IsLawfulBack, IsLawfulJournal}
use Rattle.core_laws.proofs.Opens.{open_there, open_within}
use Rattle.shelf.specs.declared.op.Plain.{Plain}
use Rattle.shelf.specs.declared.op.Plain.TheVariants as bare
use Rattle.shelf.specs.Ops.{commits_in, row_at, SoundAfter, IsSound}
use Rattle.dice_engine.specs.Turns.{log_of}
use Rattle.dice_engine.specs.Rows.{Item, Finished, item_of, items_of, BeginsWithRows}
use Rattle.dice_engine.proofs.Shelved.{items_of-append, same_commits}
use Rattle.lists.proofs.Members.{has_left, has_end}
use Rattle.lists.specs.Lists.{Has}

module _ {K V : Type 0} where
  commits_in-append : (xs ys : List (Plain K V)) → commits_in (xs ++ ys) ≡ commits_in xs ++ commits_in ys
  commits_in-append [] ys = refl
  commits_in-append (bare.Commit c ∷ xs) ys = ap (λ l. c ∷ l) (commits_in-append xs ys)
  commits_in-append (bare.Row v k x ∷ xs) ys = commits_in-append xs ys

  -- the first row of a beginning is the first one
  row_longer : (test : K → Bool) (v : ℕ) (x : V) (xs ys : List (Plain K V)) → row_at test v xs ≡ Some x → row_at test v (xs ++ ys) ≡ Some x
  row_longer test v x [] ys h = absurd (none-some x h)
  row_longer test v x (bare.Commit c ∷ xs) ys h = row_longer test v x xs ys h
  row_longer test v x (bare.Row w k y ∷ xs) ys h = by_test (nat_eq v w && test k) (row_longer test v x xs ys) h
    where
      by_test : (b : Bool) → (row_at test v xs ≡ Some x → row_at test v (xs ++ ys) ≡ Some x) → (if b then Some y else row_at test v xs) ≡ Some x → (if b then Some y else row_at test v (xs ++ ys)) ≡ Some x
      by_test true again e = e
      by_test false again e = again e

  -- fewer commits do not fall below a version
  more_commits : (e : Told K V) (R : List (Told K V)) (v : ℕ) → v ≤ length (commits_of R) → v ≤ length (commits_of (e ∷ R))
  more_commits (Commit by c) R v h = (let l = length-append (commits_of R) (c ∷ []) in omega arith)
  more_commits (Open by w) R v h = h
  more_commits (Close by t) R v h = h
  more_commits (Ask by t q) R v h = h
  more_commits (Leave by a) R v h = h
  more_commits (Start w q c) R v h = h
  more_commits (Keep w q b) R v h = h
  more_commits (End w q) R v h = h
  more_commits (Cyclic w q) R v h = h
  more_commits (Drop w q) R v h = h
  more_commits (Lost w q) R v h = h

module _ {K V : Type 0} (eq : K → K → Bool) (equality : IsEquality eq) (m : Meaning K V) (v : ℕ) (k : K) where
  -- a row of a sound list has the value of its key over the commits of the list
  row_value : (before ys : List (Plain K V)) (x : V) → SoundAfter eq m before ys → row_at (eq k) v ys ≡ Some x → (v ≤ length (commits_in (before ++ ys))) × HasValue eq m (commits_in (before ++ ys)) v k x
  row_value before [] x s h = absurd (none-some x h)
  row_value before (bare.Commit c ∷ ys) x s h =
      subst (λ l. (v ≤ length (commits_in l)) × HasValue eq m (commits_in l) v k x) (append_assoc before (bare.Commit c ∷ []) ys) (row_value (before ++ bare.Commit c ∷ []) ys x s.1 h)
  row_value before (bare.Row w q y ∷ ys) x s h = by_test (nat_eq v w && eq k q) refl (row_value (before ++ bare.Row w q y ∷ []) ys x s.1) h
    where
      all : List (Plain K V)
      all = before ++ bare.Row w q y ∷ ys

      here : nat_eq v w && eq k q ≡ true → y ≡ x → (v ≤ length (commits_in all)) × HasValue eq m (commits_in all) v k x
      here t e =
          let p = and_parts (nat_eq v w) (eq k q) t in
          let C = commits_in before in
          let D = commits_in (bare.Row w q y ∷ ys) in
          let whole : commits_in all ≡ C ++ D = commits_in-append before (bare.Row w q y ∷ ys) in
          let f : (w ≤ length C) × HasValue eq m C w q y = s.0 in
          let g : (v ≤ length C) × HasValue eq m C v q y = subst (λ n. (n ≤ length C) × HasValue eq m C n q y) (sym (eqb-true v w p.0)) f in
          let i : HasValue eq m C v k x = subst (λ z. HasValue eq m C v k z) e (subst (λ j. HasValue eq m C v j y) (sym (equality.same k q p.1)) g.1) in
          subst (λ L. (v ≤ length L) × HasValue eq m L v k x) (sym whole) ((let l = length-append C D in let b = g.0 in omega arith), value_stable eq m C D v g.0 k x i)

      by_test : (b : Bool) → nat_eq v w && eq k q ≡ b → (row_at (eq k) v ys ≡ Some x → (v ≤ length (commits_in ((before ++ bare.Row w q y ∷ []) ++ ys))) × HasValue eq m (commits_in ((before ++ bare.Row w q y ∷ []) ++ ys)) v k x) → (if b then Some y else row_at (eq k) v ys) ≡ Some x → (v ≤ length (commits_in all)) × HasValue eq m (commits_in all) v k x
      by_test true t again e = here t (same_Some y x e)
      by_test false t again e = subst (λ l. (v ≤ length (commits_in l)) × HasValue eq m (commits_in l) v k x) (append_assoc before (bare.Row w q y ∷ []) ys) (again e)

  -- so it has over the journal of which the reader was told, if the version is one of its
  pub value_seen : (J : List (Told K V)) (ys : List (Plain K V)) (x : V) → BeginsWithRows J ys → IsSound eq m ys → v ≤ length (log_of J) → row_at (eq k) v ys ≡ Some x → HasValue eq m (log_of J) v k x
  value_seen J ys x s sound n h =
      let r = row_value [] ys x sound h in
      let C = log_of J in
      let D = commits_in s.begins.0 in
      let whole : commits_in ys ≡ C ++ D =
      ap commits_in (sym s.begins.1) ∙ (commits_in-append s.told s.begins.0 ∙ ap (λ L. L ++ D) (same_commits s.told J s.has)) in
      record { depth = r.1.depth; gives = sym (eval_stable eq m C D v n r.1.depth k) ∙ (ap (λ L. eval eq m r.1.depth L v k) (sym whole) ∙ r.1.gives) }

  abbrev finish : ℕ → K → Item K V
  finish n j = Finished n j

  -- a list that has the finish of a key has a row of it
  row_there : (ops : List (Plain K V)) → Has (map item_of ops) (Finished v k) → (x : V) × (row_at (eq k) v ops ≡ Some x)
  row_there [] h = absurd h
  row_there (bare.Commit c ∷ ops) (inl e) = absurd (cc)
  row_there (bare.Commit c ∷ ops) (inr h) = row_there ops h
  row_there (bare.Row w q y ∷ ops) (inl e) = (y, ap (λ b. if b then Some y else row_at (eq k) v ops) (here e))
    where
      version_in : Item K V → ℕ
      version_in (Finished n j) = n
      version_in _ = v

      key_in : Item K V → K
      key_in (Finished n j) = j
      key_in _ = k

      here : finish w q ≡ finish v k → nat_eq v w && eq k q ≡ true
      here e = (λ i. eq-eqb v w (ap version_in (sym e)) i && (ap (eq k) (ap key_in e) ∙ equality.itself k) i)
  row_there (bare.Row w q y ∷ ops) (inr h) = by_test (nat_eq v w && eq k q) (row_there ops h)
    where
      by_test : (b : Bool) → (x : V) × (row_at (eq k) v ops ≡ Some x) → (x : V) × ((if b then Some y else row_at (eq k) v ops) ≡ Some x)
      by_test true r = (y, refl)
      by_test false r = r

  abbrev Finds : List (Told K V) → Type 0
  Finds R = (v ≤ length (commits_of R)) × Has (items_of (reverse R)) (Finished v k)

  finds_more : (e : Told K V) (R : List (Told K V)) → Finds R → Finds (e ∷ R)
  finds_more e R f = (
    more_commits e R v f.0,
    subst (λ l. Has l (Finished v k)) (sym (ap items_of (reverse-append (e ∷ []) R) ∙ items_of-append (reverse R) (e ∷ []))) (has_left (items_of (reverse R)) (items_of (e ∷ [])) (Finished v k) f.1),
  )

  finds_here : (e : Told K V) (w : ℕ) (q : K) (R : List (Told K V)) → names_by eq w q v k ≡ true → items_of (e ∷ []) ≡ Finished w q ∷ [] → IsLawfulBack eq m R → IsWanted eq m R w q → Finds (e ∷ R)
  finds_here e w q R t i l wanted =
      let p = and_parts (eqb w v) (eq k q) t in
      let o = open_there R w wanted.asking.opened wanted.at in
      let b : w ≤ length (commits_of R) = subst (λ n. n ≤ length (commits_of R)) o.2 (open_within eq m R wanted.asking.opened o.0 l o.1) in
      let same : finish w q ≡ finish v k = (λ j. Finished (eqb-true w v p.0 j) (sym (equality.same k q p.1) j)) in (
        more_commits e R v (subst (λ n. n ≤ length (commits_of R)) (eqb-true w v p.0) b),
        subst (λ l. Has l (Finished v k)) (sym (ap items_of (reverse-append (e ∷ []) R) ∙ (items_of-append (reverse R) (e ∷ []) ∙ ap (λ l. items_of (reverse R) ++ l) (i ∙ ap (λ z. z ∷ []) same))))
            (has_end (items_of (reverse R)) (Finished v k)),
      )

  -- a key that was decided to have a value was finished
  finds : (R : List (Told K V)) → IsLawfulBack eq m R → decided eq R v k ≡ Some ByValue → Finds R
  finds [] l h = absurd (none-some ByValue h)
  finds (Open by w ∷ R) l h = finds_more (Open by w) R (finds R l.1 (by_epoch (begins R w v) h))
    where
      by_epoch : (b : Bool) → cond b None (decided eq R v k) ≡ Some ByValue → decided eq R v k ≡ Some ByValue
      by_epoch true e = absurd (none-some ByValue e)
      by_epoch false e = e
  finds (Keep w q b ∷ R) l h = by_name (names_by eq w q v k) refl (finds R l.1) h
    where
      by_name : (c : Bool) → names_by eq w q v k ≡ c → (decided eq R v k ≡ Some ByValue → Finds R) → cond c (Some ByValue) (decided eq R v k) ≡ Some ByValue → Finds (Keep w q b ∷ R)
      by_name true t again e = finds_here (Keep w q b) w q R t refl l.1 l.0.0
      by_name false t again e = finds_more (Keep w q b) R (again e)
  finds (End w q ∷ R) l h = by_name (names_by eq w q v k) refl (finds R l.1) h
    where
      by_name : (c : Bool) → names_by eq w q v k ≡ c → (decided eq R v k ≡ Some ByValue → Finds R) → cond c (Some ByValue) (decided eq R v k) ≡ Some ByValue → Finds (End w q ∷ R)
      by_name true t again e = finds_here (End w q) w q R t refl l.1 l.0.0
      by_name false t again e = finds_more (End w q) R (again e)
  finds (Cyclic w q ∷ R) l h = finds_more (Cyclic w q) R (finds R l.1 (by_name (names_by eq w q v k) h))
    where
      by_name : (c : Bool) → cond c (Some ByCycle) (decided eq R v k) ≡ Some ByValue → decided eq R v k ≡ Some ByValue
      by_name true e = (let z : Some ByCycle ≡ Some ByValue = e in cc)
      by_name false e = e
  finds (Commit by c ∷ R) l h = finds_more (Commit by c) R (finds R l.1 h)
  finds (Close by t ∷ R) l h = finds_more (Close by t) R (finds R l.1 h)
  finds (Ask by t q ∷ R) l h = finds_more (Ask by t q) R (finds R l.1 h)
  finds (Leave by a ∷ R) l h = finds_more (Leave by a) R (finds R l.1 h)
  finds (Start w q c ∷ R) l h = finds_more (Start w q c) R (finds R l.1 h)
  finds (Drop w q ∷ R) l h = finds_more (Drop w q) R (finds R l.1 h)
  finds (Lost w q ∷ R) l h = finds_more (Lost w q) R (finds R l.1 h)

  -- of a key that the journal shows decided there is a row, with its value
  pub decided_seen : (J : List (Told K V)) (ys : List (Plain K V)) → BeginsWithRows J ys → IsSound eq m ys → IsLawfulJournal eq m J → decided eq (reverse J) v k ≡ Some ByValue → (x : V) × (row_at (eq k) v ys ≡ Some x) × HasValue eq m (log_of J) v k x
  decided_seen J ys s sound l d =
      let f = finds (reverse J) l d in
      let back : reverse (reverse J) ≡ J = reverse-reverse J in
      let has : Has (map item_of s.told) (Finished v k) = subst (λ l. Has l (Finished v k)) (ap items_of back ∙ sym s.has) f.1 in
      let r = row_there s.told has in
      let there : row_at (eq k) v ys ≡ Some r.0 = subst (λ l. row_at (eq k) v l ≡ Some r.0) s.begins.1 (row_longer (eq k) v r.0 s.told s.begins.0 r.1) in
      (r.0, there, value_seen J ys r.0 s sound f.0 there)
