-- What each call makes of a table, from what it makes of its places.
use Rattle.std.proofs.Common.{◌≡◌, ◌≤◌, ◌<◌, ◌+◌, inl, inr, ◌⊎◌, ℕ, Bool, true, false, not, cond, map, ◌&&◌, ◌||◌, List, [], ◌∷◌, length, Option, Some, None, is_some, nat_eq, eq-eqb, refl, sym, ap, ◌∙◌, subst, arith}
use Rattle.std.specs.Prelude.{option_and_then, IsSome, OnSome}
use Rattle.std.specs.Option.{option_map}
use Rattle.std.specs.Map.{lookup}
use Rattle.std.specs.Arc.{arc_value}
use Rattle.std.specs.declared.sync.Arc.{Arc}
use Rattle.std.specs.List.{list_any, IsDistinct, AllByRecursion}
use Rattle.std.proofs.lemmas.Map.Keys.{IsDistinct-head, IsDistinct-tail}
use Rattle.std.proofs.lemmas.List.{map-id}
use Rattle.dice_key.specs.Lawful.{IsEquality}
use Rattle.task_share.specs.Asked.{By, Promised, Tasked, is_by, Takes, IsDone}
use Rattle.task_share.specs.Seen.{Share, takes_task, room_in, is_for, list_for, number_for, has_by, has_live, task_at, is_live, asks, waits_at, asked_of, has_place, promise_room, asker_room, wait_room, ask_count, one_if, live_count, KeepsTasks, KeepsAsks, KeepsRoom, KeepsOtherRoom, UsesRoomOf}
use Rattle.task_share.specs.Lent.{WritesTask}
use Rattle.task_share.specs.Listed.{is_idle, IsListed, AreIn, IsChanged, Turns, Joined, Left, UsesRoom, IsKept, IsMirrored, Withdraws, IsPopped, NoneIdle}
use Rattle.task_share.proofs.PlaceLemmas.{idle_unasked}
use Rattle.task_share.proofs.TurnLemmas.{same_cond, asks_turned, waits_turned, task_turned, test_turned, tasks_kept, count_kept, room_kept, place_kept, room_left, by_key, tasks_on, room_on}
use Rattle.lists.specs.Lists.{AreDistinct, Has}
use Rattle.std.proofs.lemmas.Bool.{and_parts}

no_number : (b : Bool) (m n : ℕ) → m ≤ n + cond b 0 0 → m ≤ n + 0
no_number true m n h = omega arith
no_number false m n h = omega arith

join_bools : (b x y : Bool) → cond b (x || y) x ≡ (x || (b && y))
join_bools true x y = refl
join_bools false true y = refl
join_bools false false y = refl

and_true : (x : Bool) → x ≡ (x && true)
and_true true = refl
and_true false = refl

module _ {K T : Type 0} (eq : K → K → Bool) (law : IsEquality eq) where
  -- if askers and waits are as before, they still agree
  pub mirrored_same : (ps qs : List (K × Share K T)) → KeepsAsks eq ps qs → ((k d : K) → list_any (eq d) (waits_at eq qs k) ≡ list_any (eq d) (waits_at eq ps k)) → IsMirrored eq ps → IsMirrored eq qs
  mirrored_same ps qs a w m d k = a d (Tasked k) ∙ (m d k ∙ sym (w k d))

  -- a key whose task has not ended has one
  pub live_there : (ps : List (K × Share K T)) (cs : List K) (room : ℕ) → IsListed eq ps cs room → (k : K) → is_live eq ps k ≡ true → IsSome (task_at eq ps k)
  live_there ps cs room l k e = by_place (lookup (eq k) ps) refl e
    where
      by_place : (o : Option (Share K T)) → lookup (eq k) ps ≡ o → is_for has_live o ≡ true → IsSome (option_and_then (λ (p : Share K T). p.task) o)
      by_place None i f = cc
      by_place (Some p) i f = (l.each k p i).runs f

  -- a task is put to the place of k
  module _ (ps qs : List (K × Share K T)) (k : K) (t : T) (c : IsChanged eq k (λ p r. Turns eq (λ o. Some t) (λ e. true) (λ x b. b) (λ d b. b) p r × UsesRoom 0 0 0 p r) ps qs) where
    pub put_tasks : has_place eq ps k ≡ true → (q : K) → task_at eq qs q ≡ cond (eq k q) (Some t) (task_at eq ps q)
    put_tasks h q = task_turned eq law ps qs k _ c (λ o. Some t) (λ e. true) (λ x b. b) (λ d b. b) (λ p r i. i.0) (λ n. absurd (let f : true ≡ false = sym h ∙ ap (is_for takes_task) n in cc)) q

    pub put_live : has_place eq ps k ≡ true → (q : K) → is_live eq qs q ≡ (eq k q || is_live eq ps q)
    put_live h q = test_turned eq law ps qs k _ c has_live (λ b. true) (λ n. absurd (let f : true ≡ false = sym h ∙ ap (is_for takes_task) n in cc)) (λ p r i. i.0.live) q ∙ by_bools (eq k q) (is_live eq ps q)
      where
        by_bools : (b x : Bool) → cond b true x ≡ (b || x)
        by_bools true x = refl
        by_bools false x = refl

    pub put_asks : KeepsAsks eq ps qs
    put_asks q a = asks_turned eq law ps qs k _ c (λ o. Some t) (λ e. true) (λ x b. b) (λ d b. b) (λ p r i. i.0) a (λ n. refl) q ∙ same_cond (eq k q) (asks eq ps q a)

    pub put_mirrored : IsMirrored eq ps → IsMirrored eq qs
    put_mirrored = mirrored_same ps qs put_asks (λ i d. waits_turned eq law ps qs k _ c (λ o. Some t) (λ e. true) (λ x b. b) (λ d b. b) (λ p r i. i.0) d (λ n. refl) i ∙ same_cond (eq k i) (list_any (eq d) (waits_at eq ps i)))

    pub put_room : KeepsRoom eq ps qs
    put_room = room_kept eq law ps qs k _ c (λ p r i. i.1)

  -- a promise leaves
  module _ (ps qs : List (K × Share K T)) (k : K) (n : ℕ) (c : IsChanged eq k (λ p r. Left eq (Promised n) p r × UsesRoom 0 0 0 p r) ps qs) where
    pub promise_left_asks : (q : K) (a : By K) → asks eq qs q a ≡ (asks eq ps q a && not (eq k q && is_by eq (Promised n) a))
    promise_left_asks q a = asks_turned eq law ps qs k _ c (λ t. t) (λ e. e) (λ x b. b && not (is_by eq (Promised n) x)) (λ d b. b) (λ p r i. i.0) a (λ n. refl) q ∙ by_bools (eq k q) (asks eq ps q a) (is_by eq (Promised n) a)
      where
        by_bools : (b x y : Bool) → cond b (x && not y) x ≡ (x && not (b && y))
        by_bools true x y = refl
        by_bools false true y = refl
        by_bools false false y = refl

    pub promise_left_tasks : KeepsTasks eq ps qs
    promise_left_tasks = tasks_kept eq law ps qs k _ c (λ p r i. (i.0.task, i.0.live))

    pub promise_left_mirrored : IsMirrored eq ps → IsMirrored eq qs
    promise_left_mirrored m d j = promise_left_asks d (Tasked j) ∙ (by_bools (eq k d) (asks eq ps d (Tasked j)) ∙ (m d j ∙ sym (waits_turned eq law ps qs k _ c (λ t. t) (λ e. e) (λ x b. b && not (is_by eq (Promised n) x)) (λ d b. b) (λ p r i. i.0) d (λ n. refl) j ∙ same_cond (eq k j) (list_any (eq d) (waits_at eq ps j)))))
      where
        by_bools : (b x : Bool) → (x && not (b && false)) ≡ x
        by_bools true true = refl
        by_bools true false = refl
        by_bools false true = refl
        by_bools false false = refl

    pub promise_left_room : KeepsRoom eq ps qs
    promise_left_room = room_kept eq law ps qs k _ c (λ p r i. i.1)

  -- a task leaves, which waits no more
  module _ (ps qs rs : List (K × Share K T)) (k j : K) (c : IsChanged eq k (λ p r. Left eq (Tasked j) p r × UsesRoom 0 0 0 p r) ps qs) (w : IsChanged eq j (λ p r. Turns eq (λ t. t) (λ e. e) (λ x b. b) (λ d b. b && not (eq k d)) p r × UsesRoom 0 0 0 p r) qs rs) where
    pub task_left_asks : (q : K) (a : By K) → asks eq rs q a ≡ (asks eq ps q a && not (eq k q && is_by eq (Tasked j) a))
    task_left_asks q a =
        asks_turned eq law qs rs j _ w (λ t. t) (λ e. e) (λ x b. b) (λ d b. b && not (eq k d)) (λ p r i. i.0) a (λ n. refl) q ∙ (same_cond (eq j q) (asks eq qs q a)
        ∙ (asks_turned eq law ps qs k _ c (λ t. t) (λ e. e) (λ x b. b && not (is_by eq (Tasked j) x)) (λ d b. b) (λ p r i. i.0) a (λ n. refl) q ∙ by_bools (eq k q) (asks eq ps q a) (is_by eq (Tasked j) a)))
      where
        by_bools : (b x y : Bool) → cond b (x && not y) x ≡ (x && not (b && y))
        by_bools true x y = refl
        by_bools false true y = refl
        by_bools false false y = refl

    pub task_left_tasks : KeepsTasks eq ps rs
    task_left_tasks = tasks_on eq ps qs rs (tasks_kept eq law ps qs k _ c (λ p r i. (i.0.task, i.0.live))) (tasks_kept eq law qs rs j _ w (λ p r i. (i.0.task, i.0.live)))

    pub task_left_mirrored : IsMirrored eq ps → IsMirrored eq rs
    task_left_mirrored m d i = task_left_asks d (Tasked i) ∙ (ap (λ b. b && not (eq k d && eq j i)) (m d i) ∙ (by_bools (eq j i) (eq k d) (list_any (eq d) (waits_at eq ps i))
        ∙ sym (waits_turned eq law qs rs j _ w (λ t. t) (λ e. e) (λ x b. b) (λ d b. b && not (eq k d)) (λ p r i. i.0) d (λ n. refl) i
        ∙ ap (λ b. cond (eq j i) (b && not (eq k d)) b) (waits_turned eq law ps qs k _ c (λ t. t) (λ e. e) (λ x b. b && not (is_by eq (Tasked j) x)) (λ d b. b) (λ p r i. i.0) d (λ n. refl) i ∙ same_cond (eq k i) (list_any (eq d) (waits_at eq ps i))))))
      where
        by_bools : (b c x : Bool) → (x && not (c && b)) ≡ cond b (x && not c) x
        by_bools true true true = refl
        by_bools true true false = refl
        by_bools true false true = refl
        by_bools true false false = refl
        by_bools false true true = refl
        by_bools false true false = refl
        by_bools false false true = refl
        by_bools false false false = refl

    pub task_left_room : KeepsRoom eq ps rs
    task_left_room = room_on eq ps qs rs (room_kept eq law ps qs k _ c (λ p r i. i.1)) (room_kept eq law qs rs j _ w (λ p r i. i.1))

  missing_asks : (ps : List (K × Share K T)) (k : K) (a : By K) (r : Share K T → ℕ) → (asks eq ps k a ≡ true) ⊎ (0 < number_for r (lookup (eq k) ps)) → lookup (eq k) ps ≡ None → ⊥
  missing_asks ps k a r (inl e) n = let f : true ≡ false = sym e ∙ ap (is_for (λ p. has_by eq p a)) n in cc
  missing_asks ps k a r (inr e) n = let f : number_for r (lookup (eq k) ps) ≡ 0 = ap (number_for r) n in omega arith

  missing_waits : (ps : List (K × Share K T)) (k d : K) → (list_any (eq d) (waits_at eq ps k) ≡ true) ⊎ (0 < wait_room eq ps k) → lookup (eq k) ps ≡ None → ⊥
  missing_waits ps k d (inl e) n = let f : true ≡ false = sym e ∙ ap (λ o. list_any (eq d) (list_for (λ (p : Share K T). p.waits) o)) n in cc
  missing_waits ps k d (inr e) n = let f : wait_room eq ps k ≡ 0 = ap (number_for (room_in (λ (p : Share K T). p.wait_room))) n in omega arith

  -- a promise joins
  module _ (ps qs : List (K × Share K T)) (k : K) (n : ℕ) (c : IsChanged eq k (λ p r. Joined eq (Promised n) p r × UsesRoom 1 0 0 p r) ps qs) (space : (asks eq ps k (Promised n) ≡ true) ⊎ (0 < promise_room eq ps k)) where
    pub promise_joined_asks : (q : K) (a : By K) → asks eq qs q a ≡ (asks eq ps q a || (eq k q && is_by eq (Promised n) a))
    promise_joined_asks q a = asks_turned eq law ps qs k _ c (λ t. t) (λ e. e) (λ x b. b || is_by eq (Promised n) x) (λ d b. b) (λ p r i. i.0) a (λ z. absurd (missing_asks ps k (Promised n) (room_in (λ p. p.promise_room)) space z)) q
        ∙ join_bools (eq k q) (asks eq ps q a) (is_by eq (Promised n) a)

    pub promise_joined_tasks : KeepsTasks eq ps qs
    promise_joined_tasks = tasks_kept eq law ps qs k _ c (λ p r i. (i.0.task, i.0.live))

    pub promise_joined_mirrored : IsMirrored eq ps → IsMirrored eq qs
    promise_joined_mirrored m d j = promise_joined_asks d (Tasked j) ∙ (by_bools (eq k d) (asks eq ps d (Tasked j)) ∙ (m d j ∙ sym (waits_turned eq law ps qs k _ c (λ t. t) (λ e. e) (λ x b. b || is_by eq (Promised n) x) (λ d b. b) (λ p r i. i.0) d (λ z. refl) j ∙ same_cond (eq k j) (list_any (eq d) (waits_at eq ps j)))))
      where
        by_bools : (b x : Bool) → (x || (b && false)) ≡ x
        by_bools true true = refl
        by_bools true false = refl
        by_bools false true = refl
        by_bools false false = refl

    pub promise_joined_count : ask_count qs ≤ ask_count ps
    promise_joined_count = let a = count_kept eq law ps qs k _ c 0 (λ p r i. i.1.count) in omega arith

    pub promise_joined_room : UsesRoomOf eq (λ q. cond (eq k q) 1 0) (λ q. 0) (λ q. 0) ps qs
    promise_joined_room = record {
      places = place_kept eq law ps qs k _ c (λ p r i. i.1.stays);
      promises = λ q. room_left eq law ps qs k _ c (λ (p : Share K T). p.promise_room) 1 (λ p r i. i.1.promises) (λ p r i. i.1.stays) q;
      askers = λ q. no_number (eq k q) _ _ (room_left eq law ps qs k _ c (λ (p : Share K T). p.asker_room) 0 (λ p r i. i.1.askers) (λ p r i. i.1.stays) q);
      waits = λ q. no_number (eq k q) _ _ (room_left eq law ps qs k _ c (λ (p : Share K T). p.wait_room) 0 (λ p r i. i.1.waits) (λ p r i. i.1.stays) q);
    }

  -- a task joins, which waits from then on
  module _ (ps qs : List (K × Share K T)) (k j : K) (c : IsChanged eq k (λ p r. Joined eq (Tasked j) p r × UsesRoom 0 1 0 p r) ps qs) (asker_space : (asks eq ps k (Tasked j) ≡ true) ⊎ (0 < asker_room eq ps k)) where
    waits_now : (i d : K) → list_any (eq d) (waits_at eq qs i) ≡ list_any (eq d) (waits_at eq ps i)
    waits_now i d = waits_turned eq law ps qs k _ c (λ t. t) (λ e. e) (λ x b. b || is_by eq (Tasked j) x) (λ d b. b) (λ p r i. i.0) d (λ z. refl) i ∙ same_cond (eq k i) (list_any (eq d) (waits_at eq ps i))

    -- the room for the wait is still there
    pub wait_space : IsMirrored eq ps → (asks eq ps k (Tasked j) ≡ true) ⊎ (0 < wait_room eq ps j) → (list_any (eq k) (waits_at eq qs j) ≡ true) ⊎ (0 < wait_room eq qs j)
    wait_space m (inl e) = inl (waits_now j k ∙ (sym (m k j) ∙ e))
    wait_space m (inr e) = inr (let a = no_number (eq k j) _ _ (room_left eq law ps qs k _ c (λ (p : Share K T). p.wait_room) 0 (λ p r i. i.1.waits) (λ p r i. i.1.stays) j) in omega arith)

    module _ (rs : List (K × Share K T)) (w : IsChanged eq j (λ p r. Turns eq (λ t. t) (λ e. e) (λ x b. b) (λ d b. b || eq k d) p r × UsesRoom 0 0 1 p r) qs rs) (space : (list_any (eq k) (waits_at eq qs j) ≡ true) ⊎ (0 < wait_room eq qs j)) where
      pub task_joined_asks : (q : K) (a : By K) → asks eq rs q a ≡ (asks eq ps q a || (eq k q && is_by eq (Tasked j) a))
      task_joined_asks q a =
          asks_turned eq law qs rs j _ w (λ t. t) (λ e. e) (λ x b. b) (λ d b. b || eq k d) (λ p r i. i.0) a (λ z. refl) q ∙ (same_cond (eq j q) (asks eq qs q a)
          ∙ (asks_turned eq law ps qs k _ c (λ t. t) (λ e. e) (λ x b. b || is_by eq (Tasked j) x) (λ d b. b) (λ p r i. i.0) a (λ z. absurd (missing_asks ps k (Tasked j) (room_in (λ p. p.asker_room)) asker_space z)) q ∙ join_bools (eq k q) (asks eq ps q a) (is_by eq (Tasked j) a)))

      pub task_joined_tasks : KeepsTasks eq ps rs
      task_joined_tasks = tasks_on eq ps qs rs (tasks_kept eq law ps qs k _ c (λ p r i. (i.0.task, i.0.live))) (tasks_kept eq law qs rs j _ w (λ p r i. (i.0.task, i.0.live)))

      pub task_joined_mirrored : IsMirrored eq ps → IsMirrored eq rs
      task_joined_mirrored m d i = task_joined_asks d (Tasked i) ∙ (ap (λ b. b || (eq k d && eq j i)) (m d i) ∙ (by_bools (eq j i) (eq k d) (list_any (eq d) (waits_at eq ps i))
          ∙ sym (waits_turned eq law qs rs j _ w (λ t. t) (λ e. e) (λ x b. b) (λ d b. b || eq k d) (λ p r i. i.0) d (λ z. absurd (missing_waits qs j k space z)) i ∙ ap (λ b. cond (eq j i) (b || eq k d) b) (waits_now i d))))
        where
          by_bools : (b c x : Bool) → (x || (c && b)) ≡ cond b (x || c) x
          by_bools true true true = refl
          by_bools true true false = refl
          by_bools true false true = refl
          by_bools true false false = refl
          by_bools false true true = refl
          by_bools false true false = refl
          by_bools false false true = refl
          by_bools false false false = refl

      pub task_joined_count : ask_count rs ≤ ask_count ps + 1
      task_joined_count = let a = count_kept eq law ps qs k _ c 1 (λ p r i. i.1.count) in let b = count_kept eq law qs rs j _ w 0 (λ p r i. i.1.count) in omega arith

      pub task_joined_room : UsesRoomOf eq (λ q. 0) (λ q. cond (eq k q) 1 0) (λ q. cond (eq j q) 1 0) ps rs
      task_joined_room = record {
        places = λ q h. place_kept eq law qs rs j _ w (λ p r i. i.1.stays) q (place_kept eq law ps qs k _ c (λ p r i. i.1.stays) q h);
        promises = λ q. (let a = no_number (eq k q) _ _ (room_left eq law ps qs k _ c (λ (p : Share K T). p.promise_room) 0 (λ p r i. i.1.promises) (λ p r i. i.1.stays) q) in let b = no_number (eq j q) _ _ (room_left eq law qs rs j _ w (λ (p : Share K T). p.promise_room) 0 (λ p r i. i.1.promises) (λ p r i. i.1.stays) q) in omega arith);
        askers = λ q. (let a = room_left eq law ps qs k _ c (λ (p : Share K T). p.asker_room) 1 (λ p r i. i.1.askers) (λ p r i. i.1.stays) q in let b = no_number (eq j q) _ _ (room_left eq law qs rs j _ w (λ (p : Share K T). p.asker_room) 0 (λ p r i. i.1.askers) (λ p r i. i.1.stays) q) in omega arith);
        waits = λ q. (let a = no_number (eq k q) _ _ (room_left eq law ps qs k _ c (λ (p : Share K T). p.wait_room) 0 (λ p r i. i.1.waits) (λ p r i. i.1.stays) q) in let b = room_left eq law qs rs j _ w (λ (p : Share K T). p.wait_room) 1 (λ p r i. i.1.waits) (λ p r i. i.1.stays) q in omega arith);
      }

  -- who asks with the task of k asks for what it waits for
  withdrawn_at : (ps : List (K × Share K T)) (k : K) (W : List K) → ((q : K) → list_any (eq q) W ≡ asks eq ps q (Tasked k)) → (x : Bool) (q : K) (a : By K) → asks eq ps q a ≡ x → (x && not (is_by eq (Tasked k) a && list_any (eq q) W)) ≡ (x && not (is_by eq (Tasked k) a))
  withdrawn_at ps k W m false q a e = refl
  withdrawn_at ps k W m true q (Promised n) e = refl
  withdrawn_at ps k W m true q (Tasked j) e = by_test (eq k j) refl
    where
      by_test : (b : Bool) → eq k j ≡ b → not (b && list_any (eq q) W) ≡ not b
      by_test true t = ap not (m q ∙ subst (λ x. asks eq ps q (Tasked x) ≡ true) (sym (law.same k j t)) e)
      by_test false t = refl

  -- a task has ended, as it is or another one that is put: its waits are taken out, and then withdrawn
  module _ {t : Option T → Option T} (ps qs rs : List (K × Share K T)) (k : K) (W : List K) (c : IsChanged eq k (λ p r. Turns eq t (λ e. false) (λ x b. b) (λ d b. false) p r × UsesRoom 0 0 p.wait_room p r) ps qs) (waited : W ≡ waits_at eq ps k) (w : Withdraws eq k W qs rs) (m : IsMirrored eq ps) where
    asks_now : (q : K) (a : By K) → asks eq qs q a ≡ asks eq ps q a
    asks_now q a = asks_turned eq law ps qs k _ c t (λ e. false) (λ x b. b) (λ d b. false) (λ p r i. i.0) a (λ z. refl) q ∙ same_cond (eq k q) (asks eq ps q a)

    pub ended_asks : (q : K) (a : By K) → asks eq rs q a ≡ (asks eq ps q a && not (is_by eq (Tasked k) a))
    ended_asks q a = w.asks q a ∙ (ap (λ b. b && not (is_by eq (Tasked k) a && list_any (eq q) W)) (asks_now q a) ∙ withdrawn_at ps k W (λ x. ap (list_any (eq x)) waited ∙ sym (m x k)) (asks eq ps q a) q a refl)

    pub ended_task : (lookup (eq k) ps ≡ None → t None ≡ None) → (q : K) → task_at eq rs q ≡ cond (eq k q) (t (task_at eq ps q)) (task_at eq ps q)
    ended_task none q = w.tasks.tasks q ∙ task_turned eq law ps qs k _ c t (λ e. false) (λ x b. b) (λ d b. false) (λ p r i. i.0) none q

    pub ended_live : (q : K) → is_live eq rs q ≡ (is_live eq ps q && not (eq k q))
    ended_live q = w.tasks.live q ∙ (test_turned eq law ps qs k _ c has_live (λ b. false) (λ z. refl) (λ p r i. i.0.live) q ∙ by_bools (eq k q) (is_live eq ps q))
      where
        by_bools : (b x : Bool) → cond b false x ≡ (x && not b)
        by_bools true true = refl
        by_bools true false = refl
        by_bools false true = refl
        by_bools false false = refl

    pub ended_count : live_count rs ≤ live_count ps
    ended_count = let a = w.tasks.count in let b = by_places (lookup (eq k) ps) (lookup (eq k) qs) c.here (c.sums (λ (p : Share K T). one_if p.live)) in omega arith
      where
        by_places : (o r : Option (Share K T)) → AreIn (λ p r. Turns eq t (λ e. false) (λ x b. b) (λ d b. false) p r × UsesRoom 0 0 p.wait_room p r) o r → live_count qs + number_for (λ (p : Share K T). one_if p.live) o ≡ live_count ps + number_for (λ (p : Share K T). one_if p.live) r → live_count qs ≤ live_count ps
        by_places None None i e = omega arith
        by_places None (Some r) i e = absurd i
        by_places (Some p) None i e = absurd i
        by_places (Some p) (Some r) i e = let l : one_if r.live ≡ 0 = ap one_if i.0.live in omega arith

    pub ended_mirrored : IsMirrored eq rs
    ended_mirrored d i = ended_asks d (Tasked i) ∙ (ap (λ b. b && not (eq k i)) (m d i) ∙ (by_bools (eq k i) (list_any (eq d) (waits_at eq ps i))
        ∙ sym (w.waits i d ∙ waits_turned eq law ps qs k _ c t (λ e. false) (λ x b. b) (λ d b. false) (λ p r i. i.0) d (λ z. refl) i)))
      where
        by_bools : (b x : Bool) → (x && not b) ≡ cond b false x
        by_bools true true = refl
        by_bools true false = refl
        by_bools false true = refl
        by_bools false false = refl

    pub ended_room : KeepsOtherRoom eq k ps rs
    ended_room = record {
      places = λ q n h. w.room.places q (place_kept eq law ps qs k _ c (λ p r i. i.1.stays) q h);
      promises = λ q n. (let a = ap (number_for (room_in (λ (p : Share K T). p.promise_room))) (c.others q n) in let b = w.room.promises q in omega arith);
      askers = λ q n. (let a = ap (number_for (room_in (λ (p : Share K T). p.asker_room))) (c.others q n) in let b = w.room.askers q in omega arith);
      waits = λ q n. (let a = ap (number_for (room_in (λ (p : Share K T). p.wait_room))) (c.others q n) in let b = w.room.waits q in omega arith);
      count = (let a = count_kept eq law ps qs k _ c 0 (λ p r i. i.1.count) in let b = w.room.count in omega arith);
    }

  -- a task has ended as it is
  module _ (ps qs rs : List (K × Share K T)) (k : K) (W : List K) (c : IsChanged eq k (λ p r. Turns eq (λ t. t) (λ e. false) (λ x b. b) (λ d b. false) p r × UsesRoom 0 0 p.wait_room p r) ps qs) (waited : W ≡ waits_at eq ps k) (w : Withdraws eq k W qs rs) (m : IsMirrored eq ps) where
    pub ended_tasks : (q : K) → task_at eq rs q ≡ task_at eq ps q
    ended_tasks q = ended_task ps qs rs k W c waited w m (λ z. refl) q ∙ same_cond (eq k q) (task_at eq ps q)

  -- a task that has ended is put to the place of k
  module _ (ps qs rs : List (K × Share K T)) (k : K) (t : T) (W : List K) (c : IsChanged eq k (λ p r. Turns eq (λ o. Some t) (λ e. false) (λ x b. b) (λ d b. false) p r × UsesRoom 0 0 p.wait_room p r) ps qs) (waited : W ≡ waits_at eq ps k) (w : Withdraws eq k W qs rs) (m : IsMirrored eq ps) where
    pub put_ended_tasks : has_place eq ps k ≡ true → (q : K) → task_at eq rs q ≡ cond (eq k q) (Some t) (task_at eq ps q)
    put_ended_tasks h q = ended_task ps qs rs k W c waited w m (λ n. absurd (let f : true ≡ false = sym h ∙ ap (is_for takes_task) n in cc)) q

  -- an idle task is popped, and its asks are withdrawn
  module _ (ps qs rs : List (K × Share K T)) (k : K) (t : T) (W : List K) (p : IsPopped eq k t W ps qs) (w : Withdraws eq k W qs rs) (m : IsMirrored eq ps) where
    mid_mirrored : IsMirrored eq p.mid
    mid_mirrored = mirrored_same ps p.mid p.kept.asks p.kept.waits m

    no_asker : (a : By K) → asks eq p.mid k a ≡ false
    no_asker a = ap (is_for (λ r. has_by eq r a)) p.taken.there ∙ idle_unasked eq law p.place p.taken.idle a

    -- what is read of the places is as before, at other keys than k
    gone_at : {X : Type 0} (f : Option (Share K T) → X) → f (Some p.taken.left) ≡ f None → (q : K) → f (lookup (eq q) qs) ≡ cond (eq k q) (f None) (f (lookup (eq q) p.mid))
    gone_at f s q = ap f (p.taken.gone q) ∙ by_test (eq k q) (lookup (eq q) p.mid)
      where
        by_test : (b : Bool) (o : Option (Share K T)) → f (cond b (Some p.taken.left) o) ≡ cond b (f None) (f o)
        by_test true o = s
        by_test false o = refl

    vacant_asks : (a : By K) → has_by eq p.taken.left a ≡ false
    vacant_asks (Promised n) = ap (list_any (nat_eq n)) p.taken.vacant.promises
    vacant_asks (Tasked j) = ap (list_any (eq j)) p.taken.vacant.askers

    asks_then : (q : K) (a : By K) → asks eq qs q a ≡ asks eq ps q a
    asks_then q a = gone_at (is_for (λ r. has_by eq r a)) (vacant_asks a) q ∙ (by_test (eq k q) refl ∙ p.kept.asks q a)
      where
        by_test : (b : Bool) → eq k q ≡ b → cond b false (asks eq p.mid q a) ≡ asks eq p.mid q a
        by_test true e = sym (subst (λ x. asks eq p.mid x a ≡ false) (law.same k q e) (no_asker a))
        by_test false e = refl

    waited : (q : K) → list_any (eq q) W ≡ asks eq ps q (Tasked k)
    waited q = ap (list_any (eq q)) p.waited ∙ (sym (ap (λ o. list_any (eq q) (list_for (λ (r : Share K T). r.waits) o)) p.taken.there) ∙ (sym (mid_mirrored q k) ∙ p.kept.asks q (Tasked k)))

    pub popped_asks : (q : K) (a : By K) → asks eq rs q a ≡ (asks eq ps q a && not (is_by eq (Tasked k) a))
    popped_asks q a = w.asks q a ∙ (ap (λ b. b && not (is_by eq (Tasked k) a && list_any (eq q) W)) (asks_then q a) ∙ withdrawn_at ps k W waited (asks eq ps q a) q a refl)

    live_here : is_live eq ps k ≡ true
    live_here = sym (p.kept.tasks.live k) ∙ (ap (is_for has_live) p.taken.there ∙ (and_parts (has_live p.place) _ p.taken.idle).0)

    pub popped_live : (q : K) → is_live eq rs q ≡ (is_live eq ps q && not (eq k q))
    popped_live q = w.tasks.live q ∙ (gone_at (is_for has_live) p.taken.vacant.live q ∙ (ap (λ b. cond (eq k q) false b) (p.kept.tasks.live q) ∙ by_bools (eq k q) (is_live eq ps q)))
      where
        by_bools : (b x : Bool) → cond b false x ≡ (x && not b)
        by_bools true true = refl
        by_bools true false = refl
        by_bools false true = refl
        by_bools false false = refl

    pub popped_takes : Takes eq (asked_of eq ps) k (asked_of eq rs)
    popped_takes = record { taken = live_here; unasked = λ a. sym (p.kept.asks k a) ∙ no_asker a; live = popped_live; asks = popped_asks }

    pub popped_count : live_count rs < live_count ps
    popped_count = let a = w.tasks.count in let b = p.taken.fewer in let d = p.kept.tasks.count in omega arith

    pub popped_task : task_at eq ps k ≡ Some t
    popped_task = sym (p.kept.tasks.tasks k) ∙ (ap (option_and_then (λ (r : Share K T). r.task)) p.taken.there ∙ p.task)

    pub popped_tasks : (q : K) → task_at eq rs q ≡ cond (eq k q) None (task_at eq ps q)
    popped_tasks q = w.tasks.tasks q ∙ (gone_at (option_and_then (λ (r : Share K T). r.task)) p.taken.vacant.task q ∙ ap (cond (eq k q) None) (p.kept.tasks.tasks q))

    pub popped_mirrored : IsMirrored eq rs
    popped_mirrored d i = popped_asks d (Tasked i) ∙ (ap (λ b. b && not (eq k i)) (m d i) ∙ (by_bools (eq k i) (list_any (eq d) (waits_at eq ps i))
        ∙ sym (w.waits i d ∙ (gone_at (λ o. list_any (eq d) (list_for (λ (r : Share K T). r.waits) o)) (ap (list_any (eq d)) p.taken.vacant.waits) i ∙ ap (cond (eq k i) false) (p.kept.waits i d)))))
      where
        by_bools : (b x : Bool) → (x && not b) ≡ cond b false x
        by_bools true true = refl
        by_bools true false = refl
        by_bools false true = refl
        by_bools false false = refl

    other : (q : K) → eq k q ≡ false → lookup (eq q) qs ≡ lookup (eq q) p.mid
    other q n = p.taken.gone q ∙ ap (λ b. cond b (Some p.taken.left) (lookup (eq q) p.mid)) n

    pub popped_room : KeepsOtherRoom eq k ps rs
    popped_room = record {
      places = λ q n h. w.room.places q (ap (is_for takes_task) (other q n) ∙ p.kept.room.places q h);
      promises = λ q n. (let a = ap (number_for (room_in (λ (r : Share K T). r.promise_room))) (other q n) in let b = w.room.promises q in let d = p.kept.room.promises q in omega arith);
      askers = λ q n. (let a = ap (number_for (room_in (λ (r : Share K T). r.asker_room))) (other q n) in let b = w.room.askers q in let d = p.kept.room.askers q in omega arith);
      waits = λ q n. (let a = ap (number_for (room_in (λ (r : Share K T). r.wait_room))) (other q n) in let b = w.room.waits q in let d = p.kept.room.waits q in omega arith);
      count = (let a = p.taken.count in let b = w.room.count in let d = p.kept.room.count in omega arith);
    }

  -- if no task is idle, each that has not ended has an asker
  pub done_from : (ps qs : List (K × Share K T)) → IsKept eq ps qs → NoneIdle eq qs → IsDone (asked_of eq ps)
  done_from ps qs kept none k v = by_place (lookup (eq k) qs) refl (kept.tasks.live k ∙ v)
    where
      by_lists : (r : Share K T) (ns : List ℕ) (js : List K) → r.promises ≡ ns → r.askers ≡ js → has_live r ≡ true → is_idle r ≡ false → (a : By K) × (has_by eq r a ≡ true)
      by_lists r (n ∷ ns) js e f l i = (Promised n, ap (list_any (nat_eq n)) e ∙ ap (λ b. b || list_any (nat_eq n) ns) (eq-eqb n n refl))
      by_lists r [] (j ∷ js) e f l i = (Tasked j, ap (list_any (eq j)) f ∙ ap (λ b. b || list_any (eq j) js) (law.itself j))
      by_lists r [] [] e f l i = absurd (let a : is_idle r ≡ true = rw (e, f, l) refl in let b : true ≡ false = sym a ∙ i in cc)

      by_place : (o : Option (Share K T)) → lookup (eq k) qs ≡ o → is_for has_live (lookup (eq k) qs) ≡ true → (a : By K) × (asks eq ps k a ≡ true)
      by_place None e l = absurd (let f : false ≡ true = sym (ap (is_for has_live) e) ∙ l in cc)
      by_place (Some r) e l =
          let z = by_lists r r.promises r.askers refl refl (sym (ap (is_for has_live) e) ∙ l) (none k r e) in
          (z.0, sym (kept.asks k z.0) ∙ (ap (is_for (λ p. has_by eq p z.0)) e ∙ z.1))

  -- another task is written in the place of the one of k
  module _ (ps qs : List (K × Share K T)) (k : K) (t : T) (c : IsChanged eq k (λ p r. r ≡ record p { task = Some t }) ps qs) where
    at_place : {X : Type 0} (f : Option (Share K T) → X) → ((p : Share K T) → f (Some (record p { task = Some t })) ≡ f (Some p)) → (q : K) → f (lookup (eq q) qs) ≡ f (lookup (eq q) ps)
    at_place f s q = by_key eq law ps qs k _ c f (λ x. x) (by_places (lookup (eq k) ps) (lookup (eq k) qs) c.here) q ∙ same_cond (eq k q) (f (lookup (eq q) ps))
      where
        by_places : (o r : Option (Share K T)) → AreIn (λ p r. r ≡ record p { task = Some t }) o r → f r ≡ f o
        by_places None None i = refl
        by_places None (Some r) i = absurd i
        by_places (Some p) None i = absurd i
        by_places (Some p) (Some r) i = ap (λ x. f (Some x)) i ∙ s p

    by_asker : (a : By K) (p : Share K T) → has_by eq (record p { task = Some t }) a ≡ has_by eq p a
    by_asker (Promised n) p = refl
    by_asker (Tasked j) p = refl

    pub written_asks : KeepsAsks eq ps qs
    written_asks q a = at_place (is_for (λ p. has_by eq p a)) (by_asker a) q

    pub written_waits : (q : K) → waits_at eq qs q ≡ waits_at eq ps q
    written_waits = at_place (list_for (λ (p : Share K T). p.waits)) (λ p. refl)

    pub written_mirrored : IsMirrored eq ps → IsMirrored eq qs
    written_mirrored = mirrored_same ps qs written_asks (λ i d. ap (list_any (eq d)) (written_waits i))

    same_number : (m n : ℕ) → n ≡ m → m ≤ n + 0
    same_number m n e = omega arith

    no_more : (b : Bool) (m n : ℕ) → m ≤ n + cond b 0 0 → m ≤ n
    no_more true m n h = omega arith
    no_more false m n h = omega arith

    takes_on : (p r : Share K T) → r ≡ record p { task = Some t } → takes_task p ≡ true → takes_task r ≡ true
    takes_on p r i e = ap takes_task i

    -- if there was a task
    pub written : ((p : Share K T) → lookup (eq k) ps ≡ Some p → is_some p.task ≡ true) → WritesTask eq k ps qs t
    written had = record {
      tasks = by_key eq law ps qs k _ c (option_and_then (λ (p : Share K T). p.task)) (option_map (λ _. t)) (by_places (lookup (eq k) ps) (lookup (eq k) qs) refl c.here);
      live = at_place (is_for has_live) (λ p. refl);
      asks = written_asks;
      waits = written_waits;
      room = record {
        places = place_kept eq law ps qs k _ c takes_on;
        promises = λ q. no_more (eq k q) _ _ (room_left eq law ps qs k _ c (λ (p : Share K T). p.promise_room) 0 (λ p r i. same_number p.promise_room r.promise_room (ap (λ (x : Share K T). x.promise_room) i)) takes_on q);
        askers = λ q. no_more (eq k q) _ _ (room_left eq law ps qs k _ c (λ (p : Share K T). p.asker_room) 0 (λ p r i. same_number p.asker_room r.asker_room (ap (λ (x : Share K T). x.asker_room) i)) takes_on q);
        waits = λ q. no_more (eq k q) _ _ (room_left eq law ps qs k _ c (λ (p : Share K T). p.wait_room) 0 (λ p r i. same_number p.wait_room r.wait_room (ap (λ (x : Share K T). x.wait_room) i)) takes_on q);
        count = (let a = c.sums (λ (p : Share K T). length p.askers) in let b = at_place (number_for (λ (p : Share K T). length p.askers)) (λ p. refl) k in omega arith);
      };
    }
      where
        by_task : (o : Option T) → is_some o ≡ true → Some t ≡ option_map (λ _. t) o
        by_task None e = cc
        by_task (Some x) e = refl

        by_places : (o r : Option (Share K T)) → lookup (eq k) ps ≡ o → AreIn (λ p r. r ≡ record p { task = Some t }) o r → option_and_then (λ (p : Share K T). p.task) r ≡ option_map (λ _. t) (option_and_then (λ (p : Share K T). p.task) o)
        by_places None None e i = refl
        by_places None (Some r) e i = absurd i
        by_places (Some p) None e i = absurd i
        by_places (Some p) (Some r) e i = ap (λ (x : Share K T). x.task) i ∙ by_task p.task (had p e)

pub on_some : {X : Type 0} {P : Type 0} (o : Option X) → (is_some o ≡ true → P) → OnSome o P
on_some None f = tt
on_some (Some x) f = f refl

-- things that are apart by their images have distinct images
distinct_images : {X Y : Type 0} (eq : Y → Y → Bool) → ((y : Y) → eq y y ≡ true) → (f : X → Y) (xs : List X) → IsDistinct (λ x y. eq (f x) (f y)) xs → AreDistinct (map f xs)
distinct_images eq itself f [] d = tt
distinct_images {X} {Y} eq itself f (x ∷ xs) d = (λ h. clash xs (IsDistinct-head (λ (a b : X). eq (f a) (f b)) x xs d) h, distinct_images eq itself f xs (IsDistinct-tail (λ (a b : X). eq (f a) (f b)) x xs d))
  where
    clash : (ys : List X) → AllByRecursion (λ y. eq (f x) (f y) ≡ false) ys → Has (map f ys) (f x) → ⊥
    clash [] a h = h
    clash (y ∷ ys) a (inl q) = let e : eq (f x) (f y) ≡ true = subst (λ z. eq (f x) z ≡ true) (sym q) (itself (f x)) in let c : false ≡ true = sym a.0 ∙ e in cc
    clash (y ∷ ys) a (inr h) = clash ys a.1 h

-- pointers that are apart by what they point to point to distinct things
pub distinct_values : {K A : Type 0} (eq : K → K → Bool) → IsEquality eq → (xs : List (Arc K A)) → IsDistinct (λ x y. eq (arc_value x) (arc_value y)) xs → AreDistinct (map arc_value xs)
distinct_values eq law xs d = distinct_images eq law.itself arc_value xs d

-- numbers that are apart are distinct
pub distinct_numbers : (ns : List ℕ) → IsDistinct nat_eq ns → AreDistinct ns
distinct_numbers ns d = subst AreDistinct (map-id ns) (distinct_images nat_eq (λ n. eq-eqb n n refl) (λ n. n) ns d)

-- a key without a place is not asked for, and asks for nothing
module _ {K T : Type 0} (eq : K → K → Bool) (law : IsEquality eq) (ps : List (K × Share K T)) (k : K) (none : lookup (eq k) ps ≡ None) where
  pub none_left : (b : By K) (q : K) (a : By K) → asks eq ps q a ≡ (asks eq ps q a && not (eq k q && is_by eq b a))
  none_left b q a = by_test (eq k q) refl
    where
      by_test : (t : Bool) → eq k q ≡ t → asks eq ps q a ≡ (asks eq ps q a && not (t && is_by eq b a))
      by_test true e = let f : asks eq ps q a ≡ false = subst (λ x. asks eq ps x a ≡ false) (law.same k q e) (ap (is_for (λ p. has_by eq p a)) none) in rw f refl
      by_test false e = and_true (asks eq ps q a)

  pub none_asks : IsMirrored eq ps → (q : K) (a : By K) → asks eq ps q a ≡ (asks eq ps q a && not (is_by eq (Tasked k) a))
  none_asks m q (Promised n) = and_true (asks eq ps q (Promised n))
  none_asks m q (Tasked j) = by_test (eq k j) refl
    where
      by_test : (t : Bool) → eq k j ≡ t → asks eq ps q (Tasked j) ≡ (asks eq ps q (Tasked j) && not t)
      by_test true e = let f : asks eq ps q (Tasked j) ≡ false = subst (λ x. asks eq ps q (Tasked x) ≡ false) (law.same k j e) (m q k ∙ ap (λ o. list_any (eq q) (list_for (λ (p : Share K T). p.waits) o)) none) in rw f refl
      by_test false e = and_true (asks eq ps q (Tasked j))

  pub none_leaves : IsMirrored eq ps → (d q : K) (a : By K) → asks eq ps q a ≡ (asks eq ps q a && not (eq d q && is_by eq (Tasked k) a))
  none_leaves m d q a = by_bools (eq d q) (is_by eq (Tasked k) a) (asks eq ps q a) (none_asks m q a)
    where
      by_bools : (t b x : Bool) → x ≡ (x && not b) → x ≡ (x && not (t && b))
      by_bools true b x e = e
      by_bools false b x e = and_true x

  pub none_lives : (q : K) → is_live eq ps q ≡ (is_live eq ps q && not (eq k q))
  none_lives q = by_test (eq k q) refl
    where
      by_test : (t : Bool) → eq k q ≡ t → is_live eq ps q ≡ (is_live eq ps q && not t)
      by_test true e = let f : is_live eq ps q ≡ false = subst (λ x. is_live eq ps x ≡ false) (law.same k q e) (ap (is_for has_live) none) in rw f refl
      by_test false e = and_true (is_live eq ps q)

  pub other_itself : KeepsOtherRoom eq k ps ps
  other_itself = record { places = λ q n h. h; promises = λ q n. omega arith; askers = λ q n. omega arith; waits = λ q n. omega arith; count = omega arith }

  -- what waits for a key or has room has a place
  pub asked_there : (a : By K) (r : Share K T → ℕ) → (asks eq ps k a ≡ true) ⊎ (0 < number_for r (lookup (eq k) ps)) → ⊥
  asked_there a r s = missing_asks eq law ps k a r s none

  pub asking_there : IsMirrored eq ps → (d : K) → (asks eq ps d (Tasked k) ≡ true) ⊎ (0 < wait_room eq ps k) → ⊥
  asking_there m d (inl e) = let f : true ≡ false = sym e ∙ (m d k ∙ ap (λ o. list_any (eq d) (list_for (λ (p : Share K T). p.waits) o)) none) in cc
  asking_there m d (inr e) = let f : wait_room eq ps k ≡ 0 = ap (number_for (room_in (λ (p : Share K T). p.wait_room))) none in omega arith
