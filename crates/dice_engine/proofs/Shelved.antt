-- What a journal has for a shelf, and what may be put up next.
use Rattle.std.proofs.Common.{◌≡◌, ◌≢◌, ◌≤◌, ◌+◌, ℕ, zero, suc, Bool, true, cond, ◌&&◌, List, [], ◌∷◌, ◌++◌, length, map, take, drop, Option, Some, None, refl, sym, ap, ◌∙◌, subst, arith, append_assoc, append-nil, length-append}
use Rattle.std.specs.Prelude.{false, reverse, slice_get, IfSome, IsSome, MatchOption}
use Rattle.std.specs.List.{AllByRecursion}
use Rattle.std.proofs.lemmas.List.{reverse-append, take-append-drop, length-map}
use Rattle.std.proofs.lemmas.Bool.{eq-eqb}
use Rattle.std.proofs.lemmas.Option.{none-some, same_Some}
use Rattle.std.proofs.Math.Seq.{take-append_seam, take-length}
use Rattle.dice_key.specs.Lawful.{IsEquality}
use Rattle.dice_key.specs.Meaning.{Meaning}
use Rattle.dice_key.specs.declared.universe.Kind.TheVariants.{Injected}
use Rattle.dice_model.specs.Log.{IsCommit}
use Rattle.dice_model.specs.Eval.{eval, HasValue}
use Rattle.dice_model.proofs.EvalLaws.{eval_stable}
use Rattle.journal.specs.declared.event.Told.{Told}
use Rattle.journal.specs.declared.event.Told.TheVariants.{Commit, Open, Close, Ask, Leave, Start, Keep, End, Cyclic, Drop, Lost}
use Rattle.journal.specs.Events.{event_of, ByValue, names_by, decided, opened_at, commits_of}
use Rattle.journal.specs.Law.{IsWanted, IsAllowed, IsLawfulBack, IsLawfulJournal}
use Rattle.journal.specs.Tell.{event_by}
use Rattle.journal.proofs.Lawful.{lawful_front}
use Rattle.journal.proofs.Indices.{opened_counts}
use Rattle.core_laws.proofs.Opens.{open_there, open_within}
use Rattle.shelf.specs.declared.op.Plain.{Plain}
use Rattle.shelf.specs.declared.op.Plain.TheVariants as bare
use Rattle.shelf.specs.Ops.{commits_in, MayFollow}
use Rattle.shelf.specs.Ends.{ReaderView, door_to}
use Rattle.dice_core.specs.Cores.{CoreSeen, IsWorkAt}
use Rattle.dice_engine.specs.Turns.{log_of, left_of, AreBy, WorksOn}
use Rattle.dice_engine.proofs.Adding.{commit_by}
use Rattle.dice_engine.specs.Rises.{log_of-append}
use Rattle.dice_engine.specs.Rows.{Item, Committed, Finished, LedgeView, item_of, event_items, items_of, ShelfHas, Keeps, Grows, Follows, HasCome, IsFinished, AreFinished, IsTrueRow, Gives}
use Rattle.dice_engine.proofs.Deciding.{decided_more}

module _ {K V : Type 0} where
  pub items_of-append : (J D : List (Told K V)) → items_of (J ++ D) ≡ items_of J ++ items_of D
  items_of-append [] D = refl
  items_of-append (e ∷ J) D = ap (λ l. event_items e ++ l) (items_of-append J D) ∙ sym (append_assoc (event_items e) (items_of J) (items_of D))

  -- the commits among items
  abbrev committed : List (Item K V) → List (List (K × V))
  committed [] = []
  committed (Committed c ∷ xs) = c ∷ committed xs
  committed (Finished v k ∷ xs) = committed xs

  committed-append : (xs ys : List (Item K V)) → committed (xs ++ ys) ≡ committed xs ++ committed ys
  committed-append [] ys = refl
  committed-append (Committed c ∷ xs) ys = ap (λ l. c ∷ l) (committed-append xs ys)
  committed-append (Finished v k ∷ xs) ys = committed-append xs ys

  commits_put : (ops : List (Plain K V)) → commits_in ops ≡ committed (map item_of ops)
  commits_put [] = refl
  commits_put (bare.Commit c ∷ ops) = ap (λ l. c ∷ l) (commits_put ops)
  commits_put (bare.Row v k x ∷ ops) = commits_put ops

  of_event : (e : Told K V) → committed (event_items e) ≡ log_of (e ∷ [])
  of_event (Commit by c) = refl
  of_event (Open by v) = refl
  of_event (Close by t) = refl
  of_event (Ask by t k) = refl
  of_event (Leave by a) = refl
  of_event (Start v k c) = refl
  of_event (Keep v k b) = refl
  of_event (End v k) = refl
  of_event (Cyclic v k) = refl
  of_event (Drop v k) = refl
  of_event (Lost v k) = refl

  committed_items : (J : List (Told K V)) → committed (items_of J) ≡ log_of J
  committed_items [] = refl
  committed_items (e ∷ J) = committed-append (event_items e) (items_of J) ∙ ((λ i. of_event e i ++ committed_items J i) ∙ sym (log_of-append (e ∷ []) J))

  -- what stands on the shelf has the commits of the journal that it was taken from
  pub same_commits : (ops : List (Plain K V)) (J : List (Told K V)) → map item_of ops ≡ items_of J → commits_in ops ≡ log_of J
  same_commits ops J e = commits_put ops ∙ (ap committed e ∙ committed_items J)

module _ {E : Type 0} where
  pub take_more : (J : List E) (i : ℕ) (e : E) → slice_get J i ≡ Some e → take (suc i) J ≡ take i J ++ e ∷ []
  take_more [] i e h = absurd (none-some e h)
  take_more (x ∷ J) zero e h = ap (λ y. y ∷ []) (same_Some x e h)
  take_more (x ∷ J) (suc i) e h = ap (λ l. x ∷ l) (take_more J i e h)

  pub split_at : (J : List E) (i : ℕ) (e : E) → slice_get J i ≡ Some e → (take i J ++ e ∷ []) ++ drop (suc i) J ≡ J
  split_at J i e h = ap (λ l. l ++ drop (suc i) J) (sym (take_more J i e h)) ∙ take-append-drop (suc i) J

module _ {K V : Type 0} where
  -- a beginning of items, as so many of them
  by_length : (ops : List (Plain K V)) (xs rest : List (Item K V)) → xs ≡ map item_of ops ++ rest → map item_of ops ≡ take (length ops) xs
  by_length ops xs rest e =
      sym (ap (λ n. take n xs) (sym (length-map ops item_of)) ∙ (ap (take (length (map item_of ops))) e ∙ take-append_seam (map item_of ops) rest))

  pub begun : (J : List (Told K V)) (i : ℕ) (ops : List (Plain K V)) → map item_of ops ≡ items_of (take i J) → map item_of ops ≡ take (length ops) (items_of J)
  begun J i ops e = by_length ops (items_of J) (items_of (drop i J))
      (sym (ap items_of (take-append-drop i J)) ∙ (items_of-append (take i J) (drop i J) ∙ ap (λ l. l ++ items_of (drop i J)) (sym e)))

  pub all_begun : (J : List (Told K V)) (ops : List (Plain K V)) → map item_of ops ≡ items_of J → map item_of ops ≡ take (length ops) (items_of J)
  all_begun J ops e = by_length ops (items_of J) [] (sym e ∙ sym (append-nil (map item_of ops)))

  pub longer : (J I es : List (Told K V)) (ops : List (Plain K V)) → I ≡ J ++ es → map item_of ops ≡ take (length ops) (items_of J) → map item_of ops ≡ take (length ops) (items_of I)
  longer J I es ops j e =
      let rest = drop (length ops) (items_of J) in
      let whole : items_of J ≡ map item_of ops ++ rest = sym (take-append-drop (length ops) (items_of J)) ∙ ap (λ l. l ++ rest) (sym e) in
      by_length ops (items_of I) (rest ++ items_of es)
      (ap items_of j ∙ (items_of-append J es ∙ (ap (λ l. l ++ items_of es) whole ∙ append_assoc (map item_of ops) rest (items_of es))))

  -- one event more is taken up
  pub put_more : (J : List (Told K V)) (i n : ℕ) (e : Told K V) (ops new : List (Plain K V)) → n ≡ suc i → slice_get J i ≡ Some e → map item_of ops ≡ items_of (take i J)
      → map item_of new ≡ map item_of ops ++ event_items e → map item_of new ≡ items_of (take n J)
  put_more J i n e ops new s h o p =
      p ∙ (ap (λ l. l ++ event_items e) o ∙ (ap (λ l. items_of (take i J) ++ l) (sym (append-nil (event_items e)))
      ∙ (sym (items_of-append (take i J) (e ∷ [])) ∙ (ap items_of (sym (take_more J i e h)) ∙ ap (λ n. items_of (take n J)) (sym s)))))

  -- all are taken up
  pub put_all : (J : List (Told K V)) (n : ℕ) (ops : List (Plain K V)) → n ≡ length J → map item_of ops ≡ items_of (take n J) → map item_of ops ≡ items_of J
  put_all J n ops e o = o ∙ ap items_of (ap (λ n. take n J) e ∙ take-length J)

module _ {K V : Type 0} (eq : K → K → Bool) (m : Meaning K V) where
  -- an event is allowed by those before it
  allowed_at : (J : List (Told K V)) (i : ℕ) (e : Told K V) → IsLawfulJournal eq m J → slice_get J i ≡ Some e → IsLawfulBack eq m (e ∷ reverse (take i J))
  allowed_at J i e lawful there = subst (IsLawfulBack eq m) (reverse-append (take i J) (e ∷ []))
      (lawful_front eq m (take i J ++ e ∷ []) (drop (suc i) J) (subst (IsLawfulJournal eq m) (sym (split_at J i e there)) lawful))

-- what may be put up next
module _ {K V : Type 0} (eq : K → K → Bool) (m : Meaning K V) (J : List (Told K V)) (i : ℕ) (e : Told K V) (ops : List (Plain K V)) (lawful : IsLawfulJournal eq m J)
    (there : slice_get J i ≡ Some e) (put : map item_of ops ≡ items_of (take i J)) where
  abbrev earlier : List (Told K V)
  earlier = reverse (take i J)

  allowed : IsLawfulBack eq m (e ∷ earlier)
  allowed = allowed_at eq m J i e lawful there

  -- what an event that is allowed has for the shelf
  abbrev Wants : List (Item K V) → Type 0
  Wants [] = Unit {0}
  Wants (Committed c ∷ xs) = IsCommit m c
  Wants (Finished v k ∷ xs) = IsWanted eq m earlier v k

  wants : (f : Told K V) → IsAllowed eq m earlier f → Wants (event_items f)
  wants (Commit by c) a = a.0
  wants (Keep v k b) a = a.0
  wants (End v k) a = a.0
  wants (Open by v) a = tt
  wants (Close by t) a = tt
  wants (Ask by t k) a = tt
  wants (Leave by x) a = tt
  wants (Start v k c) a = tt
  wants (Cyclic v k) a = tt
  wants (Drop v k) a = tt
  wants (Lost v k) a = tt

  within : (v : ℕ) (k : K) → IsWanted eq m earlier v k → v ≤ length (log_of (take i J))
  within v k w =
      let o = open_there earlier v w.asking.opened w.at in
      subst (λ n. n ≤ length (commits_of earlier)) o.2 (open_within eq m earlier w.asking.opened o.0 allowed.1 o.1)

  value : (v : ℕ) (k : K) (x : V) → v ≤ length (log_of (take i J)) → HasValue eq m (log_of J) v k x → HasValue eq m (log_of (take i J)) v k x
  value v k x h g =
      let C = log_of (take i J) in
      let D = log_of (drop i J) in
      let whole : log_of J ≡ C ++ D = sym (ap log_of (take-append-drop i J)) ∙ log_of-append (take i J) (drop i J) in
      record { depth = g.depth; gives = sym (eval_stable eq m C D v h g.depth k) ∙ (ap (λ L. eval eq m g.depth L v k) (sym whole) ∙ g.gives) }

  fits : (x : Plain K V) → Wants (item_of x ∷ []) → IsTrueRow eq m (log_of J) x → MayFollow eq m (commits_in ops) x
  fits (bare.Commit c) w t = w
  fits (bare.Row v k x) w t =
      let h = within v k w in
      subst (λ C. (v ≤ length C) × HasValue eq m C v k x) (sym (same_commits ops (take i J) put)) (h, value v k x h t)

  pub may_put : (x : Plain K V) → Gives eq m (log_of J) e (Some x) → MayFollow eq m (commits_in ops) x
  may_put x g = fits x (subst Wants g.0 (wants e allowed.0)) g.1

-- events of tasks
module _ {K V : Type 0} where
  abbrev IsOfTask : Told K V → Type 0
  IsOfTask e = event_by e ≡ None

  abbrev AreTasks : List (Told K V) → Type 0
  AreTasks es = AllByRecursion IsOfTask es

  of_task : (v : ℕ) (e : Told K V) → IsWorkAt v e → IsOfTask e
  of_task v (Start w k c) h = refl
  of_task v (Keep w k b) h = refl
  of_task v (End w k) h = refl
  of_task v (Cyclic w k) h = refl
  of_task v (Drop w k) h = refl
  of_task v (Lost w k) h = refl
  of_task v (Commit by c) h = absurd h
  of_task v (Open by w) h = absurd h
  of_task v (Close by t) h = absurd h
  of_task v (Ask by t k) h = absurd h
  of_task v (Leave by a) h = absurd h

  are_tasks : (v : ℕ) (es : List (Told K V)) → AllByRecursion (IsWorkAt v) es → AreTasks es
  are_tasks v [] h = tt
  are_tasks v (e ∷ es) h = (of_task v e h.0, are_tasks v es h.1)

  -- behind an event of a task
  in_work : (work : List (Told K V)) (i : ℕ) → AreTasks work → AreTasks (drop i work)
  in_work [] zero h = tt
  in_work [] (suc i) h = tt
  in_work (x ∷ work) zero h = h
  in_work (x ∷ work) (suc i) h = in_work work i h.1

  in_turn : (n : ℕ) (own work : List (Told K V)) (i : ℕ) (e : Told K V) → AreBy n own → AreTasks work → slice_get (own ++ work) i ≡ Some e → IsOfTask e → AreTasks (drop (suc i) (own ++ work))
  in_turn n [] work i e o w h t = in_work work (suc i) w
  in_turn n (x ∷ own) work zero e o w h t = absurd (none-some n (sym t ∙ (ap event_by (sym (same_Some x e h)) ∙ o.0)))
  in_turn n (x ∷ own) work (suc i) e o w h t = in_turn n own work i e o.1 w h t

  later_ones : (n : ℕ) (J own work : List (Told K V)) (i : ℕ) (e : Told K V) → AreBy n own → AreTasks work → length J ≤ i → slice_get (J ++ (own ++ work)) i ≡ Some e → IsOfTask e
      → AreTasks (drop (suc i) (J ++ (own ++ work)))
  later_ones n [] own work i e o w l h t = in_turn n own work i e o w h t
  later_ones n (x ∷ J) own work zero e o w l h t = absurd (omega arith)
  later_ones n (x ∷ J) own work (suc i) e o w l h t = later_ones n J own work i e o w (omega arith) h t

  opened_on : (d : Told K V) (R : List (Told K V)) (v t : ℕ) → IsOfTask d → opened_at (d ∷ R) v t ≡ opened_at R v t
  opened_on (Start w k c) R v t h = refl
  opened_on (Keep w k b) R v t h = refl
  opened_on (End w k) R v t h = refl
  opened_on (Cyclic w k) R v t h = refl
  opened_on (Drop w k) R v t h = refl
  opened_on (Lost w k) R v t h = refl
  opened_on (Commit by c) R v t h = refl
  opened_on (Open by w) R v t h = absurd (none-some by (sym h))
  opened_on (Close by u) R v t h = absurd (none-some by (sym h))
  opened_on (Ask by u k) R v t h = refl
  opened_on (Leave by a) R v t h = refl

module _ {K V : Type 0} (eq : K → K → Bool) (equality : IsEquality eq) (m : Meaning K V) where
  lawful_back : (E R : List (Told K V)) → IsLawfulBack eq m (E ++ R) → IsLawfulBack eq m R
  lawful_back [] R l = l
  lawful_back (x ∷ E) R l = lawful_back E R l.1

  -- as a key is decided, with a transaction open there, so it is after more events of tasks
  stays : (D R : List (Told K V)) (v t : ℕ) (k : K) → AreTasks D → IsLawfulBack eq m (reverse D ++ R) → opened_at R v t ≡ true → decided eq R v k ≡ Some ByValue
      → (opened_at (reverse D ++ R) v t ≡ true) × (decided eq (reverse D ++ R) v k ≡ Some ByValue)
  stays [] R v t k w l o d = (o, d)
  stays (x ∷ D) R v t k w l o d =
      let back : reverse (x ∷ D) ++ R ≡ reverse D ++ (x ∷ R) = ap (λ l. l ++ R) (reverse-append (x ∷ []) D) ∙ append_assoc (reverse D) (x ∷ []) R in
      let whole : IsLawfulBack eq m (reverse D ++ (x ∷ R)) = subst (IsLawfulBack eq m) back l in
      subst (λ S. (opened_at S v t ≡ true) × (decided eq S v k ≡ Some ByValue)) (sym back)
      (stays D (x ∷ R) v t k w.1 whole (opened_on x R v t w.0 ∙ o) (decided_more eq equality m x R v t k ByValue (lawful_back (reverse D) (x ∷ R) whole) o d))

  named : (v : ℕ) (k : K) → names_by eq v k v k ≡ true
  named v k = (λ i. eq-eqb v v refl i && equality.itself k i)

  -- a key that an event finishes, behind which all events are of tasks
  come : (J : List (Told K V)) (i v : ℕ) (k : K) (e : Told K V) → IsLawfulJournal eq m J → slice_get J i ≡ Some e → AreTasks (drop (suc i) J) → m.kind k ≢ Injected
      → IsWanted eq m (reverse (take i J)) v k → ((t : ℕ) → opened_at (reverse (take i J)) v t ≡ true → opened_at (e ∷ reverse (take i J)) v t ≡ true) → decided eq (e ∷ reverse (take i J)) v k ≡ Some ByValue
      → HasCome eq m (reverse J) v k
  come J i v k e l h w c wanted o d =
      let R = e ∷ reverse (take i J) in
      let D = drop (suc i) J in
      let back : reverse J ≡ reverse D ++ R =
      ap reverse (sym (split_at J i e h)) ∙ (reverse-append (take i J ++ e ∷ []) D ∙ ap (λ l. reverse D ++ l) (reverse-append (take i J) (e ∷ []))) in
      let t = wanted.asking.opened in
      let whole : IsLawfulBack eq m (reverse D ++ R) = subst (IsLawfulBack eq m) back l in
      let s = stays D R v t k w whole (o t wanted.at) d in
      subst (λ S. HasCome eq m S v k) (sym back) (c, opened_counts eq m (reverse D ++ R) v t whole s.0, s.1)

  -- each key that a turn finishes has come to its value at the turn's end
  pub finished : (J I : List (Told K V)) (start : ℕ) → IsLawfulJournal eq m I → Grows J I → start ≡ length J → AreFinished eq m start I
  finished J I start l g s i e from h = by_event e h (lawful_at e h)
    where
      lawful_at : (e : Told K V) → slice_get I i ≡ Some e → IsAllowed eq m (reverse (take i I)) e
      lawful_at e h = (allowed_at eq m I i e l h).0

      behind : (e : Told K V) → slice_get I i ≡ Some e → IsOfTask e → AreTasks (drop (suc i) I)
      behind e h t = subst (λ L. AreTasks (drop (suc i) L)) (sym g.journal)
          (later_ones g.seat J g.own g.work i e g.by (are_tasks g.of_tasks.0 g.work g.of_tasks.1) (subst (λ n. n ≤ i) s from) (subst (λ L. slice_get L i ≡ Some e) g.journal h) t)

      here : (v : ℕ) (k : K) → cond (names_by eq v k v k) (Some ByValue) (decided eq (reverse (take i I)) v k) ≡ Some ByValue
      here v k = ap (λ b. cond b (Some ByValue) (decided eq (reverse (take i I)) v k)) (named v k)

      by_event : (e : Told K V) → slice_get I i ≡ Some e → IsAllowed eq m (reverse (take i I)) e → IsFinished eq m (reverse I) e
      by_event (Keep v k b) h a = come I i v k (Keep v k b) l h (behind (Keep v k b) h refl) a.3 a.0 (λ t o. o) (here v k)
      by_event (End v k) h a = come I i v k (End v k) l h (behind (End v k) h refl) a.4 a.0 (λ t o. o) (here v k)
      by_event (Commit by c) h a = tt
      by_event (Open by v) h a = tt
      by_event (Close by t) h a = tt
      by_event (Ask by t k) h a = tt
      by_event (Leave by x) h a = tt
      by_event (Start v k c) h a = tt
      by_event (Cyclic v k) h a = tt
      by_event (Drop v k) h a = tt
      by_event (Lost v k) h a = tt

-- a journal that grew in one turn, and the shelf that follows it
module _ {K V : Type 0} (J I : List (Told K V)) where
  pub grew_nothing : I ≡ J → Grows J I
  grew_nothing e = record { seat = 0; own = []; work = []; journal = e ∙ sym (append-nil J); by = tt; of_tasks = (0, tt) }

  pub grew_work : WorksOn J I → Grows J I
  grew_work w = record { seat = 0; own = []; work = w.0; journal = w.1; by = tt; of_tasks = w.2 }

  pub grew_one : (n v : ℕ) (e : Told K V) (work : List (Told K V)) → event_by e ≡ Some n → AllByRecursion (IsWorkAt v) work → I ≡ J ++ (e ∷ work) → Grows J I
  grew_one n v e work by tasks j = record { seat = n; own = e ∷ []; work = work; journal = j; by = (by, tt); of_tasks = (v, tasks) }

  pub grew_commit : (n : ℕ) (c : List (K × V)) → I ≡ J ++ event_of n c → Grows J I
  grew_commit n c j = record { seat = n; own = event_of n c; work = []; journal = j ∙ ap (λ l. J ++ l) (sym (append-nil (event_of n c))); by = commit_by n c; of_tasks = (0, tt) }

  pub follows : (mark : ℕ) (b : LedgeView K V) → Keeps J mark b → Grows J I → Follows I mark b
  follows mark b k g = record { before = J; kept = k; grown = g }

module _ {K V : Type 0} (I : List (Told K V)) (mark : ℕ) (b : LedgeView K V) (f : Follows I mark b) where
  -- with a mark nothing more is put up
  pub kept_marked : (mark ≡ 0 → ⊥) → Keeps I mark b
  kept_marked n = (longer f.before I (f.grown.own ++ f.grown.work) b.list f.grown.journal f.kept.0, λ z. absurd (n z))

  pub taken_within : mark ≡ 0 → b.taken ≤ length I
  taken_within z =
      let t : b.taken ≡ length f.before = (f.kept.1 z).2 in
      let l : length I ≡ length f.before + length (f.grown.own ++ f.grown.work) = ap length f.grown.journal ∙ length-append f.before (f.grown.own ++ f.grown.work) in
      omega arith

  pub list_there : mark ≡ 0 → map item_of b.list ≡ items_of (take b.taken I)
  list_there z =
      let back : take b.taken I ≡ f.before = ap (λ n. take n I) (f.kept.1 z).2 ∙ (ap (take (length f.before)) f.grown.journal ∙ take-append_seam f.before (f.grown.own ++ f.grown.work)) in
      (f.kept.1 z).0 ∙ ap items_of (sym back)

module _ {K V : Type 0} (eq : K → K → Bool) (equality : IsEquality eq) (m : Meaning K V) (I : List (Told K V)) (mark : ℕ) (b : LedgeView K V) (f : Follows I mark b) where
  pub finished_since : mark ≡ 0 → IsLawfulJournal eq m I → AreFinished eq m b.taken I
  finished_since z l = finished eq equality m f.before I b.taken l f.grown (f.kept.1 z).2

-- what is told of a core and what a mark says
module _ {K V : Type 0} where
  pub mark_is : (left : ℕ × ℕ × ℕ) (mark : ℕ) (c : CoreSeen K V) → left ≡ left_of mark c → left.2 ≡ mark
  mark_is left mark c e = ap (λ (l : ℕ × ℕ × ℕ). l.2) e

pub map_some : {X : Type 0} (o : Option X) (P Q : X → Type 0) → IfSome o P → ((x : X) → P x → Q x) → IfSome o Q
map_some (Some x) P Q p f = f x p
map_some None P Q p f = tt

-- what a reader has learnt
module _ {K V : Type 0} where
  pub told_so : (J : List (Told K V)) (Z : Type 0) → Z → (o : Option (Option (List (Plain K V)))) (r s : ReaderView K V) → MatchOption o (s ≡ r) (λ t. s ≡ door_to t r.refused)
      → IfSome o (λ t. IfSome t (λ xs. Z → ShelfHas J xs)) → IsSome o → s.shut ≡ false → ShelfHas J s.seen
  told_so J Z z None r s e f some free = absurd (cc)
  told_so J Z z (Some None) r s e f some free = absurd (let shut : s.shut ≡ true = ap (λ (x : ReaderView K V). x.shut) e in cc)
  told_so J Z z (Some (Some xs)) r s e f some free = subst (λ (x : ReaderView K V). ShelfHas J x.seen) (sym e) (f z)

  pub same_refusals : (o : Option (Option (List (Plain K V)))) (r s : ReaderView K V) → MatchOption o (s ≡ r) (λ t. s ≡ door_to t r.refused) → s.refused ≡ r.refused
  same_refusals None r s e = ap (λ (x : ReaderView K V). x.refused) e
  same_refusals (Some None) r s e = ap (λ (x : ReaderView K V). x.refused) e
  same_refusals (Some (Some xs)) r s e = ap (λ (x : ReaderView K V). x.refused) e
