-- Steps of a walk over numbers.
use Rattle.std.proofs.Common.{◌≡◌, ◌<◌, ◌≤◌, ◌+◌, ◌⊎◌, ◌||◌, inl, inr, ℕ, suc, zero, Bool, true, false, cond, List, [], ◌∷◌, ◌++◌, Some, None, length, refl, sym, ap, ◌∙◌, subst, arith, slice_get, slice_index_or as get_or, reverse, append_assoc, append-nil}
use Rattle.std.proofs.Common.{eqb}
use Rattle.std.specs.List.{list_any, IsDistinct, AllByRecursion}
use Rattle.std.proofs.lemmas.Map.Steps.{length-le_from_distinct_below}
use Rattle.std.proofs.lemmas.Option.{slice_get_within, same_Some, none-some, slice_get-get_or, get_or_from_slice_get}
use Rattle.std.proofs.lemmas.List.{reverse-append, length-append}
use Rattle.std.proofs.lemmas.Bool.{eqb-true, eq-eqb, cases_lt}
use Rattle.lists.specs.Lists.{Has, AreDistinct}
use Rattle.lists.proofs.Members.{has_left, has_end}
use Rattle.lists.proofs.Distinct.{distinct_end}
use Rattle.lists.proofs.Places.{get_longer}
use Rattle.number_walk.specs.Reach.{Reaches, stays, waits_on, Grows, IsNoted, AreBelow, CameBy, IsTrail, IsFollowed, IsWaited, IsChain, IsWay, IsBack}

-- lists by index
got_last : {X : Type 0} (xs : List X) (x : X) → slice_get (xs ++ x ∷ []) (length xs) ≡ Some x
got_last [] x = refl
got_last (z ∷ xs) x = got_last xs x

got_push : {X : Type 0} (xs : List X) (y : X) (i : ℕ) (x : X) → slice_get (xs ++ y ∷ []) i ≡ Some x → (slice_get xs i ≡ Some x) ⊎ ((i ≡ length xs) × (y ≡ x))
got_push [] y zero x h = inr (refl, same_Some y x h)
got_push [] y (suc i) x h = absurd (none-some x h)
got_push (z ∷ xs) y zero x h = inl h
got_push (z ∷ xs) y (suc i) x h = elim (got_push xs y i x h) as (λ _. (slice_get (z ∷ xs) (suc i) ≡ Some x) ⊎ ((suc i ≡ length (z ∷ xs)) × (y ≡ x))) [ inl a ↦ inl a | inr b ↦ inr (ap suc b.0, b.1) ]

pub has_got : {X : Type 0} (xs : List X) (i : ℕ) (x : X) → slice_get xs i ≡ Some x → Has xs x
has_got [] i x h = absurd (none-some x h)
has_got (z ∷ xs) zero x h = inl (same_Some z x h)
has_got (z ∷ xs) (suc i) x h = inr (has_got xs i x h)

pub got_has : {X : Type 0} (xs : List X) (x : X) → Has xs x → (i : ℕ) × (slice_get xs i ≡ Some x)
got_has [] x h = absurd h
got_has (z ∷ xs) x (inl e) = (0, ap Some e)
got_has (z ∷ xs) x (inr h) = let r = got_has xs x h in (suc r.0, r.1)

same_index : (xs : List ℕ) (i j x : ℕ) → AreDistinct xs → slice_get xs i ≡ Some x → slice_get xs j ≡ Some x → i ≡ j
same_index [] i j x d g h = absurd (none-some x g)
same_index (z ∷ xs) zero zero x d g h = refl
same_index (z ∷ xs) zero (suc j) x d g h = absurd (d.0 (subst (Has xs) (sym (same_Some z x g)) (has_got xs j x h)))
same_index (z ∷ xs) (suc i) zero x d g h = absurd (d.0 (subst (Has xs) (sym (same_Some z x h)) (has_got xs i x g)))
same_index (z ∷ xs) (suc i) (suc j) x d g h = ap suc (same_index xs i j x d.1 g h)

pub past : {X : Type 0} (xs : List X) (i : ℕ) → slice_get xs i ≡ None → length xs ≤ i
past [] i e = omega arith
past (x ∷ xs) zero e = cc
past (x ∷ xs) (suc i) e = let l = past xs i e in let f : length (x ∷ xs) ≡ suc (length xs) = refl in omega arith

-- membership by test
pub any_has : (xs : List ℕ) (q : ℕ) → list_any (eqb q) xs ≡ true → Has xs q
any_has [] q h = absurd (let z : false ≡ true = h in cc)
any_has (x ∷ xs) q h = by_test (any_has xs q) (eqb q x) refl h
  where
    by_test : (list_any (eqb q) xs ≡ true → Has xs q) → (b : Bool) → eqb q x ≡ b → (b || list_any (eqb q) xs) ≡ true → Has (x ∷ xs) q
    by_test f true e g = inl (sym (eqb-true q x e))
    by_test f false e g = inr (f g)

pub not_any : (xs : List ℕ) (q : ℕ) → list_any (eqb q) xs ≡ false → Has xs q → ⊥
not_any [] q e h = h
not_any (x ∷ xs) q e (inl s) = let t : eqb q x ≡ true = ap (eqb q) s ∙ eq-eqb q q refl in (let z : true ≡ false = sym (ap (λ b. b || list_any (eqb q) xs) t) ∙ e in cc)
not_any (x ∷ xs) q e (inr h) = by_test (not_any xs q) (eqb q x) e h
  where
    by_test : (list_any (eqb q) xs ≡ false → Has xs q → ⊥) → (b : Bool) → (b || list_any (eqb q) xs) ≡ false → Has xs q → ⊥
    by_test f true e h = cc
    by_test f false e h = f e h

-- distinct numbers below a bound are no more than it
pub fits : (xs : List ℕ) (n : ℕ) → AreDistinct xs → ((q : ℕ) → Has xs q → q < n) → length xs ≤ n
unfolding IsDistinct
fits xs n d below = length-le_from_distinct_below xs n (distinct xs d) (λ q h. below q (any_has xs q h))
  where
    other : (x : ℕ) (ys : List ℕ) → (Has ys x → ⊥) → AllByRecursion (λ y. eqb x y ≡ false) ys
    other x [] f = tt
    other x (y ∷ ys) f = (by_test (eqb x y) refl, other x ys (λ h. f (inr h)))
      where
        by_test : (b : Bool) → eqb x y ≡ b → b ≡ false
        by_test true e = absurd (f (inl (sym (eqb-true x y e))))
        by_test false e = refl

    distinct : (ys : List ℕ) → AreDistinct ys → IsDistinct eqb ys
    distinct [] e = tt
    distinct (y ∷ ys) e = (other y ys e.0, distinct ys e.1)

pub grows_not : (xs : List ℕ) → Grows xs xs
grows_not xs = ([], sym (append-nil xs))

pub grows_on : (xs ys zs : List ℕ) → Grows xs ys → Grows ys zs → Grows xs zs
grows_on xs ys zs f g = (f.0 ++ g.0, g.1 ∙ (ap (λ ws. ws ++ g.0) f.1 ∙ append_assoc xs f.0 g.0))

pub still_has : (xs ys : List ℕ) (x : ℕ) → Grows xs ys → Has xs x → Has ys x
still_has xs ys x g h = subst (λ (zs : List ℕ). Has zs x) (sym g.1) (has_left xs g.0 x h)

pub still_got : (xs ys : List ℕ) (i x : ℕ) → Grows xs ys → slice_get xs i ≡ Some x → slice_get ys i ≡ Some x
still_got xs ys i x g h = ap (λ (zs : List ℕ). slice_get zs i) g.1 ∙ get_longer xs g.0 i x h

-- one more wait was noted
pub done_on : (ws old new : List ℕ) (i d : ℕ) → i < length ws → ((j m : ℕ) → j < i → slice_get ws j ≡ Some m → Has old m) → Grows old new → Has new (get_or ws i d) → (j m : ℕ) → j < i + 1 → slice_get ws j ≡ Some m → Has new m
done_on ws old new i d within f grows h j m below g = by_cases (cases_lt j i)
  where
    by_cases : (j < i) ⊎ (i ≤ j) → Has new m
    by_cases (inl l) = still_has old new m grows (f j m l g)
    by_cases (inr e) = let q : j ≡ i = omega arith in subst (Has new) (get_or_from_slice_get ws i m d (ap (slice_get ws) (sym q) ∙ g)) h

pub longer : (old new : List ℕ) (head n : ℕ) → Grows old new → slice_get old head ≡ Some n → head + 1 ≤ length new
longer old new head n grows there = let w = slice_get_within new head n (still_got old new head n grows there) in omega arith

module _ (waits : ℕ → List ℕ) where
  -- the wait at an index
  pub wait_there : (ws : List ℕ) (i n m : ℕ) → ws ≡ waits n → i < length ws → get_or ws i 0 ≡ m → Has (waits n) m
  wait_there ws i n m e below f = subst (λ (xs : List ℕ). Has xs m) e (has_got ws i m (slice_get-get_or ws i 0 below ∙ ap Some f))

  -- it is what the number at `head` waits for
  pub waited_there : (ws old met : List ℕ) (i n head : ℕ) → ws ≡ waits n → i < length ws → Grows old met → slice_get old head ≡ Some n → IsWaited waits met head (get_or ws i 0)
  waited_there ws old met i n head e below grows there = record { by = n; there = still_got old met head n grows there; wait = wait_there ws i n (get_or ws i 0) e below refl }

  -- a walk that has just begun
  pub trail_begun : (start goal : ℕ) (met parents : List ℕ) → met ≡ start ∷ [] → parents ≡ 0 ∷ [] → (start ≡ goal → ⊥) → IsTrail waits goal met parents
  trail_begun start goal met parents e f other = record {
    same = ap length f ∙ sym (ap length e);
    distinct = subst AreDistinct (sym e) ((λ h. h), tt);
    came = λ i n g. elim (got_push [] start i n (ap (λ (xs : List ℕ). slice_get xs i) (sym e) ∙ g)) as (λ _. (i ≡ 0) ⊎ CameBy waits met parents i n) [ inl h ↦ absurd (none-some n h) | inr h ↦ inl h.0 ];
    fresh = λ h. elim (subst (λ (xs : List ℕ). Has xs goal) e h) as (λ _. ⊥) [ inl s ↦ other s | inr z ↦ z ];
  }

  module _ (goal number parent : ℕ) (met parents : List ℕ) (t : IsTrail waits goal met parents) (other : number ≡ goal → ⊥) (wait : IsWaited waits met parent number) where
    noted_new : (Has met number → ⊥) → IsTrail waits goal (met ++ number ∷ []) (parents ++ parent ∷ [])
    noted_new absent = record {
      same = length-append parents (parent ∷ []) ∙ (ap (λ n. n + 1) t.same ∙ sym (length-append met (number ∷ [])));
      distinct = distinct_end met number t.distinct absent;
      came = λ i n g. elim (got_push met number i n g) as (λ _. (i ≡ 0) ⊎ CameBy waits (met ++ number ∷ []) (parents ++ parent ∷ []) i n) [
        | inl h ↦ elim (t.came i n h) as (λ _. (i ≡ 0) ⊎ CameBy waits (met ++ number ∷ []) (parents ++ parent ∷ []) i n) [
          | inl z ↦ inl z
          | inr c ↦ inr (record { parent = c.parent; by = c.by; noted = get_longer parents (parent ∷ []) i c.parent c.noted; earlier = c.earlier; there = get_longer met (number ∷ []) c.parent c.by c.there; wait = c.wait })
        ]
        | inr h ↦ inr (record {
          parent = parent;
          by = wait.by;
          noted = subst (λ j. slice_get (parents ++ parent ∷ []) j ≡ Some parent) (t.same ∙ sym h.0) (got_last parents parent);
          earlier = (let w = slice_get_within met parent wait.by wait.there in let e = h.0 in omega arith);
          there = get_longer met (number ∷ []) parent wait.by wait.there;
          wait = subst (λ m. Has (waits wait.by) m) h.1 wait.wait;
        })
      ];
      fresh = λ h. elim (last_of met h) as (λ _. ⊥) [ inl g ↦ t.fresh g | inr e ↦ other e ];
    }
      where
        last_of : (xs : List ℕ) → Has (xs ++ number ∷ []) goal → Has xs goal ⊎ (number ≡ goal)
        last_of [] (inl e) = inr e
        last_of [] (inr h) = absurd h
        last_of (x ∷ xs) (inl e) = inl (inl e)
        last_of (x ∷ xs) (inr h) = elim (last_of xs h) as (λ _. Has (x ∷ xs) goal ⊎ (number ≡ goal)) [ inl g ↦ inl (inr g) | inr e ↦ inr e ]

    -- a number was noted
    pub record Noted (later later_parents : List ℕ) : Type 0 where
      pub trail : IsTrail waits goal later later_parents
      pub grows : Grows met later
      pub has : Has later number

    pub noted : (later later_parents : List ℕ) → IsNoted number parent met parents later later_parents → Noted later later_parents
    noted later later_parents n = by_test (list_any (eqb number) met) refl n.numbers n.indices
      where
        by_test : (b : Bool) → list_any (eqb number) met ≡ b → later ≡ met ++ cond b [] (number ∷ []) → later_parents ≡ parents ++ cond b [] (parent ∷ []) → Noted later later_parents
        by_test true e f g = record {
          trail = subst (λ xs. IsTrail waits goal xs later_parents) (sym (f ∙ append-nil met)) (subst (IsTrail waits goal met) (sym (g ∙ append-nil parents)) t);
          grows = ([], f);
          has = subst (λ (xs : List ℕ). Has xs number) (sym (f ∙ append-nil met)) (any_has met number e);
        }
        by_test false e f g = record {
          trail = subst (λ xs. IsTrail waits goal xs later_parents) (sym f) (subst (IsTrail waits goal (met ++ number ∷ [])) (sym g) (noted_new (not_any met number e)));
          grows = (number ∷ [], f);
          has = subst (λ (xs : List ℕ). Has xs number) (sym f) (has_end met number);
        }

  -- one more number was followed
  pub followed_on : (old new : List ℕ) (head number : ℕ) → IsFollowed waits old head → Grows old new → slice_get old head ≡ Some number → ((m : ℕ) → Has (waits number) m → Has new m) → IsFollowed waits new (head + 1)
  followed_on old new head number f grows there last i n m below g h = by_cases (cases_lt i head)
    where
      within : i ≤ head → (x : ℕ) × (slice_get old i ≡ Some x)
      within l = let w = slice_get_within old head number there in at old i (omega arith)
        where
          at : (xs : List ℕ) (j : ℕ) → j < length xs → (x : ℕ) × (slice_get xs j ≡ Some x)
          at [] j l = absurd (omega arith)
          at (x ∷ xs) zero l = (x, refl)
          at (x ∷ xs) (suc j) l = at xs j (let e : length (x ∷ xs) ≡ suc (length xs) = refl in omega arith)

      by_cases : (i < head) ⊎ (head ≤ i) → Has new m
      by_cases (inl l) =
          let x = within (omega arith) in
          let e = same_Some x.0 n (sym (still_got old new i x.0 grows x.1) ∙ g) in
          still_has old new m grows (f i n m l (x.1 ∙ ap Some e) h)
      by_cases (inr l) =
          let e : head ≡ i = omega arith in
          last m (subst (λ x. Has (waits x) m) (same_Some n number (sym g ∙ (ap (slice_get new) (sym e) ∙ still_got old new head number grows there))) h)

  -- a walk meets no more numbers than there are
  pub few_met : (start goal count : ℕ) (met parents : List ℕ) → IsTrail waits goal met parents → slice_get met 0 ≡ Some start → AreBelow waits count → start < count → length met ≤ count
  few_met start goal count met parents t begun below first = fits met count t.distinct (λ q h. let i = got_has met q h in by_index i.0 q i.1 (t.came i.0 q i.1))
    where
      by_index : (i q : ℕ) → slice_get met i ≡ Some q → (i ≡ 0) ⊎ CameBy waits met parents i q → q < count
      by_index i q g (inl z) = subst (λ x. x < count) (same_Some start q (sym begun ∙ (ap (slice_get met) (sym z) ∙ g))) first
      by_index i q g (inr c) = below c.by q c.wait

  -- if all that was met was followed, nothing leads to the goal
  pub never : (start goal : ℕ) (met parents : List ℕ) (head : ℕ) → IsTrail waits goal met parents → slice_get met 0 ≡ Some start → IsFollowed waits met head → length met ≤ head → Reaches waits start goal → ⊥
  never start goal met parents head t begun f past r = t.fresh (from start goal (has_got met 0 start begun) r)
    where
      from : (n m : ℕ) → Has met n → Reaches waits n m → Has met m
      from n m h stays = h
      from n m h (waits_on {m = j} w r) = let i = got_has met n h in from j m (f i.0 n j (let l = slice_get_within met i.0 n i.1 in omega arith) i.1 w) r

  pub leads_end : (a b c : ℕ) → Reaches waits a b → Has (waits b) c → Reaches waits a c
  leads_end a b c stays h = waits_on h stays
  leads_end a b c (waits_on {m = i} w r) h = waits_on w (leads_end i b c r h)

  -- a way leads to its goal
  pub way_leads : (start goal : ℕ) (way : List ℕ) → IsWay waits start goal way → Reaches waits start goal
  way_leads start goal way w = on start w.rest w.chain
    where
      on : (n : ℕ) (ms : List ℕ) → IsChain waits goal n ms → Reaches waits n goal
      on n [] c = waits_on c stays
      on n (m ∷ ms) c = waits_on c.0 (on m ms c.1)

  -- the way back begins at a number that waits for the goal
  pub back_begins : (goal head : ℕ) (met back : List ℕ) (w : IsWaited waits met head goal) → back ≡ w.by ∷ [] → IsBack waits met goal head back
  back_begins goal head met back w e = record { from = w.by; rest = []; there = w.there; turned = ap reverse e; distinct = ((λ z. z), tt); chain = w.wait; later = λ m z. absurd z }

  -- the parent of a number that is not the first one
  pub parent_there : (goal : ℕ) (met parents : List ℕ) → IsTrail waits goal met parents → (i n : ℕ) → slice_get met i ≡ Some n → (i ≡ 0 → ⊥) → (get_or parents i 0 < i) × (i < length parents) × (get_or parents i 0 < length met) × (slice_get parents i ≡ Some (get_or parents i 0))
  parent_there goal met parents t i n g apart = elim (t.came i n g) as (λ _. (get_or parents i 0 < i) × (i < length parents) × (get_or parents i 0 < length met) × (slice_get parents i ≡ Some (get_or parents i 0))) [
    | inl z ↦ absurd (apart z)
    | inr c ↦ (let e = get_or_from_slice_get parents i c.parent 0 c.noted in let w = slice_get_within met i n g in let l = c.earlier in let s = t.same in (omega arith, omega arith, omega arith, c.noted ∙ ap Some (sym e)))
  ]

  -- one number more, from which the first one came
  pub back_more : (goal : ℕ) (met parents : List ℕ) → IsTrail waits goal met parents → (i p m : ℕ) (back later : List ℕ) → IsBack waits met goal i back → (i ≡ 0 → ⊥) → slice_get parents i ≡ Some p → slice_get met p ≡ Some m → later ≡ back ++ m ∷ [] → IsBack waits met goal p later
  back_more goal met parents t i p m back later b apart g h e = elim (t.came i b.from b.there) as (λ _. IsBack waits met goal p later) [ inl z ↦ absurd (apart z) | inr c ↦ by_parent c ]
    where
      by_parent : CameBy waits met parents i b.from → IsBack waits met goal p later
      by_parent c =
          let q : c.parent ≡ p = same_Some c.parent p (sym c.noted ∙ g) in
          let r : c.by ≡ m = same_Some c.by m (sym c.there ∙ (ap (slice_get met) q ∙ h)) in
          let below : p < i = subst (λ x. x < i) q c.earlier in record {
            from = m;
            rest = b.from ∷ b.rest;
            there = h;
            turned = ap reverse e ∙ (reverse-append back (m ∷ []) ∙ ap (λ xs. m ∷ xs) b.turned);
            distinct = ((λ z. not_later z below), b.distinct);
            chain = (subst (λ x. Has (waits x) b.from) r c.wait, b.chain);
            later = λ x z. elim z as (λ _. (j : ℕ) × (p < j) × (slice_get met j ≡ Some x)) [
              | inl s ↦ (i, below, b.there ∙ ap Some s)
              | inr s ↦ (let y = b.later x s in (y.0, (let l = y.1 in omega arith), y.2))
            ];
          }
        where
          clash : (j : ℕ) → slice_get met j ≡ Some m → p < j → ⊥
          clash j s l = let u = same_index met p j m t.distinct h s in omega arith

          not_later : Has (b.from ∷ b.rest) m → p < i → ⊥
          not_later (inl s) l = clash i (b.there ∙ ap Some s) l
          not_later (inr s) l = let y = b.later m s in clash y.0 y.2 (let k = y.1 in omega arith)

  -- the way back to the start, turned
  pub back_over : (start goal : ℕ) (met parents back way : List ℕ) → IsTrail waits goal met parents → slice_get met 0 ≡ Some start → (at : ℕ) → at ≡ 0 → IsBack waits met goal at back → way ≡ reverse back → IsWay waits start goal way
  back_over start goal met parents back way t begun at z b e =
      let s : b.from ≡ start = same_Some b.from start (sym b.there ∙ (ap (slice_get met) z ∙ begun)) in
      let w : way ≡ start ∷ b.rest = e ∙ (b.turned ∙ ap (λ x. x ∷ b.rest) s) in record {
        rest = b.rest;
        begins = w;
        distinct = subst AreDistinct (sym (e ∙ b.turned)) b.distinct;
        apart = λ h. t.fresh (in_met goal (subst (λ (xs : List ℕ). Has xs goal) (e ∙ b.turned) h));
        chain = subst (λ x. IsChain waits goal x b.rest) s b.chain;
      }
    where
      in_met : (m : ℕ) → Has (b.from ∷ b.rest) m → Has met m
      in_met m (inl s) = has_got met at m (b.there ∙ ap Some s)
      in_met m (inr h) = let y = b.later m h in has_got met y.0 m y.2
