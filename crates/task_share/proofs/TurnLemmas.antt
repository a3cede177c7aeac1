-- What a change at one key makes of tasks, askers, waits and room.
use Rattle.std.proofs.Common.{◌≡◌, ◌≤◌, ◌+◌, ℕ, Bool, true, false, cond, List, length, Option, Some, None, refl, sym, ap, ◌∙◌, subst, arith}
use Rattle.std.specs.Prelude.{option_and_then}
use Rattle.std.specs.Map.{lookup, values_of}
use Rattle.std.specs.List.{list_any, sum_by}
use Rattle.dice_key.specs.Lawful.{IsEquality}
use Rattle.task_share.specs.Asked.{By}
use Rattle.task_share.specs.Seen.{Share, takes_task, room_in, is_for, list_for, number_for, has_by, has_live, task_at, is_live, asks, waits_at, has_place, ask_count, one_if, KeepsTasks, KeepsRoom}
use Rattle.task_share.specs.Listed.{AreIn, IsChanged, Turns, Stays, UsesRoom, IsKept}

pub same_cond : {X : Type 0} (b : Bool) (x : X) → cond b x x ≡ x
same_cond true x = refl
same_cond false x = refl

-- a test of the things of a list that may not be there
pub any_for : {X Y : Type 0} (test : Y → Bool) (f : X → List Y) (o : Option X) → list_any test (list_for f o) ≡ is_for (λ x. list_any test (f x)) o
any_for test f None = refl
any_for test f (Some x) = refl

module _ {K T : Type 0} (eq : K → K → Bool) (law : IsEquality eq) (ps qs : List (K × Share K T)) (k : K) (R : Share K T → Share K T → Type 0) (c : IsChanged eq k R ps qs) where
  -- at the key by `here`, at another one as before
  pub by_key : {X : Type 0} (f : Option (Share K T) → X) (x : X → X) → f (lookup (eq k) qs) ≡ x (f (lookup (eq k) ps)) → (q : K) → f (lookup (eq q) qs) ≡ cond (eq k q) (x (f (lookup (eq q) ps))) (f (lookup (eq q) ps))
  by_key {X} f x here q = by_test (eq k q) refl
    where
      by_test : (b : Bool) → eq k q ≡ b → f (lookup (eq q) qs) ≡ cond b (x (f (lookup (eq q) ps))) (f (lookup (eq q) ps))
      by_test true e = subst (λ y. f (lookup (eq y) qs) ≡ x (f (lookup (eq y) ps))) (law.same k q e) here
      by_test false e = ap f (c.others q e)

  pub test_turned : (P : Share K T → Bool) (G : Bool → Bool) → (lookup (eq k) ps ≡ None → G false ≡ false) → ((p r : Share K T) → R p r → P r ≡ G (P p)) → (q : K) → is_for P (lookup (eq q) qs) ≡ cond (eq k q) (G (is_for P (lookup (eq q) ps))) (is_for P (lookup (eq q) ps))
  test_turned P G none step q = by_key (is_for P) G (by_places (lookup (eq k) ps) (lookup (eq k) qs) refl c.here) q
    where
      by_places : (o r : Option (Share K T)) → lookup (eq k) ps ≡ o → AreIn R o r → is_for P r ≡ G (is_for P o)
      by_places None None e i = sym (none e)
      by_places None (Some r) e i = absurd i
      by_places (Some p) None e i = absurd i
      by_places (Some p) (Some r) e i = step p r i

  pub place_kept : ((p r : Share K T) → R p r → takes_task p ≡ true → takes_task r ≡ true) → (q : K) → has_place eq ps q ≡ true → has_place eq qs q ≡ true
  place_kept step q h = by_test (eq k q) refl
    where
      by_places : (o r : Option (Share K T)) → AreIn R o r → is_for takes_task o ≡ true → is_for takes_task r ≡ true
      by_places None None i e = e
      by_places None (Some r) i e = absurd i
      by_places (Some p) None i e = absurd i
      by_places (Some p) (Some r) i e = step p r i e

      by_test : (b : Bool) → eq k q ≡ b → has_place eq qs q ≡ true
      by_test true e = subst (λ y. has_place eq qs y ≡ true) (law.same k q e) (by_places (lookup (eq k) ps) (lookup (eq k) qs) c.here (subst (λ y. has_place eq ps y ≡ true) (sym (law.same k q e)) h))
      by_test false e = ap (is_for takes_task) (c.others q e) ∙ h

  -- a number of a place, of which m were used at most
  pub number_kept : (f : Share K T → ℕ) (m : ℕ) → ((p r : Share K T) → R p r → f p ≤ f r + m) → (q : K) → number_for f (lookup (eq q) ps) ≤ number_for f (lookup (eq q) qs) + cond (eq k q) m 0
  number_kept f m step q = by_test (eq k q) refl
    where
      by_places : (o r : Option (Share K T)) → AreIn R o r → number_for f o ≤ number_for f r + m
      by_places None None i = omega arith
      by_places None (Some r) i = absurd i
      by_places (Some p) None i = absurd i
      by_places (Some p) (Some r) i = step p r i

      by_test : (b : Bool) → eq k q ≡ b → number_for f (lookup (eq q) ps) ≤ number_for f (lookup (eq q) qs) + cond b m 0
      by_test true e = subst (λ y. number_for f (lookup (eq y) ps) ≤ number_for f (lookup (eq y) qs) + m) (law.same k q e) (by_places (lookup (eq k) ps) (lookup (eq k) qs) c.here)
      by_test false e = let s = ap (number_for f) (c.others q e) in omega arith

  -- the same of what there is room for
  pub room_left : (f : Share K T → ℕ) (m : ℕ) → ((p r : Share K T) → R p r → f p ≤ f r + m) → ((p r : Share K T) → R p r → takes_task p ≡ true → takes_task r ≡ true) → (q : K) → number_for (room_in f) (lookup (eq q) ps) ≤ number_for (room_in f) (lookup (eq q) qs) + cond (eq k q) m 0
  room_left f m step stays q = number_kept (room_in f) m (λ p r i. by_tests (takes_task p) (takes_task r) (f p) (f r) (step p r i) (stays p r i)) q
    where
      by_tests : (a b : Bool) (x y : ℕ) → x ≤ y + m → (a ≡ true → b ≡ true) → cond a x 0 ≤ cond b y 0 + m
      by_tests false b x y le s = omega arith
      by_tests true true x y le s = le
      by_tests true false x y le s = absurd (let f : false ≡ true = s refl in cc)

  module _ (t : Option T → Option T) (e : Bool → Bool) (A : By K → Bool → Bool) (W : K → Bool → Bool) (turn : (p r : Share K T) → R p r → Turns eq t e A W p r) where
    pub asks_turned : (a : By K) → (lookup (eq k) ps ≡ None → A a false ≡ false) → (q : K) → asks eq qs q a ≡ cond (eq k q) (A a (asks eq ps q a)) (asks eq ps q a)
    asks_turned a none q = test_turned (λ p. has_by eq p a) (A a) none (λ p r i. (turn p r i).asks a) q

    pub waits_turned : (d : K) → (lookup (eq k) ps ≡ None → W d false ≡ false) → (q : K) → list_any (eq d) (waits_at eq qs q) ≡ cond (eq k q) (W d (list_any (eq d) (waits_at eq ps q))) (list_any (eq d) (waits_at eq ps q))
    waits_turned d none q =
        any_for (eq d) (λ (p : Share K T). p.waits) (lookup (eq q) qs)
        ∙ (test_turned (λ p. list_any (eq d) p.waits) (W d) none (λ p r i. (turn p r i).waits d) q
        ∙ sym (ap (λ b. cond (eq k q) (W d b) b) (any_for (eq d) (λ (p : Share K T). p.waits) (lookup (eq q) ps))))

    pub task_turned : (lookup (eq k) ps ≡ None → t None ≡ None) → (q : K) → task_at eq qs q ≡ cond (eq k q) (t (task_at eq ps q)) (task_at eq ps q)
    task_turned none q = by_key (option_and_then (λ (p : Share K T). p.task)) t (by_places (lookup (eq k) ps) (lookup (eq k) qs) refl c.here) q
      where
        by_places : (o r : Option (Share K T)) → lookup (eq k) ps ≡ o → AreIn R o r → option_and_then (λ (p : Share K T). p.task) r ≡ t (option_and_then (λ (p : Share K T). p.task) o)
        by_places None None e i = sym (none e)
        by_places None (Some r) e i = absurd i
        by_places (Some p) None e i = absurd i
        by_places (Some p) (Some r) e i = (turn p r i).task

  -- the sum of a number over all places stays if that of the place does
  pub sum_kept : (f : Share K T → ℕ) → ((p r : Share K T) → R p r → f r ≡ f p) → sum_by f (values_of qs) ≡ sum_by f (values_of ps)
  sum_kept f step = by_places (lookup (eq k) ps) (lookup (eq k) qs) c.here (c.sums f)
    where
      by_places : (o r : Option (Share K T)) → AreIn R o r → sum_by f (values_of qs) + number_for f o ≡ sum_by f (values_of ps) + number_for f r → sum_by f (values_of qs) ≡ sum_by f (values_of ps)
      by_places None None i e = omega arith
      by_places None (Some r) i e = absurd i
      by_places (Some p) None i e = absurd i
      by_places (Some p) (Some r) i e = let l = step p r i in omega arith

  -- the task of each place stays
  pub tasks_kept : ((p r : Share K T) → R p r → (r.task ≡ p.task) × (r.live ≡ p.live)) → KeepsTasks eq ps qs
  tasks_kept step = record {
    tasks = λ q. by_key (option_and_then (λ (p : Share K T). p.task)) (λ o. o) (by_places (lookup (eq k) ps) (lookup (eq k) qs) c.here) q ∙ same_cond (eq k q) (task_at eq ps q);
    live = λ q. test_turned has_live (λ b. b) (λ n. refl) (λ p r i. (step p r i).1) q ∙ same_cond (eq k q) (is_live eq ps q);
    count = sum_kept (λ (p : Share K T). one_if p.live) (λ p r i. ap one_if (step p r i).1);
  }
    where
      by_places : (o r : Option (Share K T)) → AreIn R o r → option_and_then (λ (p : Share K T). p.task) r ≡ option_and_then (λ (p : Share K T). p.task) o
      by_places None None i = refl
      by_places None (Some r) i = absurd i
      by_places (Some p) None i = absurd i
      by_places (Some p) (Some r) i = (step p r i).0

  -- at most n asks of tasks more
  pub count_kept : (n : ℕ) → ((p r : Share K T) → R p r → length r.askers ≤ length p.askers + n) → ask_count qs ≤ ask_count ps + n
  count_kept n step = by_places (lookup (eq k) ps) (lookup (eq k) qs) c.here (c.sums (λ (p : Share K T). length p.askers))
    where
      by_places : (o r : Option (Share K T)) → AreIn R o r → ask_count qs + number_for (λ (p : Share K T). length p.askers) o ≡ ask_count ps + number_for (λ (p : Share K T). length p.askers) r → ask_count qs ≤ ask_count ps + n
      by_places None None i e = omega arith
      by_places None (Some r) i e = absurd i
      by_places (Some p) None i e = absurd i
      by_places (Some p) (Some r) i e = let l = step p r i in omega arith

  pub room_kept : ((p r : Share K T) → R p r → UsesRoom 0 0 0 p r) → KeepsRoom eq ps qs
  room_kept step = record {
    places = place_kept (λ p r i. (step p r i).stays);
    promises = λ q. drop_cond (eq k q) _ _ (room_left (λ (p : Share K T). p.promise_room) 0 (λ p r i. (step p r i).promises) (λ p r i. (step p r i).stays) q);
    askers = λ q. drop_cond (eq k q) _ _ (room_left (λ (p : Share K T). p.asker_room) 0 (λ p r i. (step p r i).askers) (λ p r i. (step p r i).stays) q);
    waits = λ q. drop_cond (eq k q) _ _ (room_left (λ (p : Share K T). p.wait_room) 0 (λ p r i. (step p r i).waits) (λ p r i. (step p r i).stays) q);
    count = (let n = count_kept 0 (λ p r i. (step p r i).count) in omega arith);
  }
    where
      drop_cond : (b : Bool) (m n : ℕ) → m ≤ n + cond b 0 0 → m ≤ n
      drop_cond true m n h = omega arith
      drop_cond false m n h = omega arith

  -- if a place stays but for its room and its key, all is kept
  pub stays_kept : ((p r : Share K T) → R p r → Stays eq p r × UsesRoom 0 0 0 p r) → IsKept eq ps qs
  stays_kept step = record {
    tasks = tasks_kept (λ p r i. ((step p r i).0.task, (step p r i).0.live));
    asks = λ q a. asks_turned (λ t. t) (λ e. e) (λ x b. b) (λ d b. b) (λ p r i. (step p r i).0) a (λ n. refl) q ∙ same_cond (eq k q) (asks eq ps q a);
    waits = λ q d. waits_turned (λ t. t) (λ e. e) (λ x b. b) (λ d b. b) (λ p r i. (step p r i).0) d (λ n. refl) q ∙ same_cond (eq k q) (list_any (eq d) (waits_at eq ps q));
    room = room_kept (λ p r i. (step p r i).1);
  }

module _ {K T : Type 0} (eq : K → K → Bool) where
  pub room_itself : (ps : List (K × Share K T)) → KeepsRoom eq ps ps
  room_itself ps = record { places = λ q h. h; promises = λ q. omega arith; askers = λ q. omega arith; waits = λ q. omega arith; count = omega arith }

  pub room_on : (ps qs rs : List (K × Share K T)) → KeepsRoom eq ps qs → KeepsRoom eq qs rs → KeepsRoom eq ps rs
  room_on ps qs rs a b = record {
    places = λ q h. b.places q (a.places q h);
    promises = λ q. (let x = a.promises q in let y = b.promises q in omega arith);
    askers = λ q. (let x = a.askers q in let y = b.askers q in omega arith);
    waits = λ q. (let x = a.waits q in let y = b.waits q in omega arith);
    count = (let x = a.count in let y = b.count in omega arith);
  }

  pub tasks_on : (ps qs rs : List (K × Share K T)) → KeepsTasks eq ps qs → KeepsTasks eq qs rs → KeepsTasks eq ps rs
  tasks_on ps qs rs a b = record { tasks = λ q. b.tasks q ∙ a.tasks q; live = λ q. b.live q ∙ a.live q; count = b.count ∙ a.count }

  pub kept_itself : (ps : List (K × Share K T)) → IsKept eq ps ps
  kept_itself ps = record { tasks = record { tasks = λ q. refl; live = λ q. refl; count = refl }; asks = λ q a. refl; waits = λ k d. refl; room = room_itself ps }

  pub kept_on : (ps qs rs : List (K × Share K T)) → IsKept eq ps qs → IsKept eq qs rs → IsKept eq ps rs
  kept_on ps qs rs a b = record {
    tasks = tasks_on ps qs rs a.tasks b.tasks;
    asks = λ q x. b.asks q x ∙ a.asks q x;
    waits = λ k d. b.waits k d ∙ a.waits k d;
    room = room_on ps qs rs a.room b.room;
  }
