-- A transaction that closes, with its version in hand; and the end of a version.
use Rattle.std.proofs.Common.{◌≡◌, ◌<◌, ◌≤◌, ◌+◌, ◌-◌, ℕ, Bool, true, false, cond, not, ◌&&◌, nat_eq, eqb, List, [], ◌∷◌, ◌++◌, map, reverse, Option, Some, None, unwrap_or, is_some, refl, sym, ap, ◌∙◌, subst, arith, append_assoc}
use Rattle.std.specs.List.{list_any}
use Rattle.std.specs.Map.{lookup}
use Rattle.std.proofs.lemmas.Bool.{eqb-true, and_right, and_parts}
use Rattle.dice_key.specs.Meaning.{Meaning}
use Rattle.dice_key.specs.Lawful.{IsEquality, IsLawful}
use Rattle.task_share.specs.Asked.{By, Promised, Tasked, is_by, IsDone}
use Rattle.task_share.specs.Seen.{Share, is_live, asks, asked_of, KeepsTasks}
use Rattle.injected.specs.Seen.{Seen}
use Rattle.journal.specs.declared.event.Told.{Told}
use Rattle.journal.specs.declared.event.Told.TheVariants.{Close, Drop}
use Rattle.journal.specs.Events.{Opened, Asking, is_for, one_if, open_at, open_count, live_at, ended_at}
use Rattle.versioned_graph.specs.Entries.{Stored}
use Rattle.core_laws.specs.Stands.{VersionStands}
use Rattle.core_laws.specs.Promises.{is_promise_in, nobody}
use Rattle.core_laws.specs.Desk.{World, Rests, AreAll, with_version, is_out}
use Rattle.core_laws.proofs.Counts.{all_alike}
use Rattle.core_laws.proofs.Empties.{idle}
use Rattle.core_laws.proofs.StepsAsks.{closed_stand}
use Rattle.core_laws.proofs.StepsRests.{idle_out, live_stand, rests_emptied}
use Rattle.core_laws.proofs.Turns.{stands_here}
use Rattle.dice_core.specs.Askings.{DropsAfter}
use Rattle.dice_steps.specs.AtHand.{AtHand}
use Rattle.dice_core.specs.Closings.{LeftHand, is_promise_of, ArePromised, TakesPromise, TakesPromises}
use Rattle.dice_steps.specs.Cells.{CellsStand}
use Rattle.dice_tasks.specs.Endings.{DropsTasks, AreTasked}
use Rattle.dice_tasks.specs.Entries.{EntriesStand}
use Rattle.dice_tasks.specs.Hands.{DeskSeen, desk_of, tasks_of, seen_world, AreNamed, with_event, Working, Cleaning}
use Rattle.dice_tasks.specs.Helds.{Held}
use Rattle.dice_core.specs.Sessions.{SessionSeen, SessionsSeen, has_ask, asks_in, owed, session_at, SessionsStand, Closing}
use Rattle.dice_core.specs.Cores.{CoreSeen, table_at, has_table, world_of, WorksOn, CoreStands}
use Rattle.dice_core.proofs.AskingLemmas.{dropped_live, cleaning_by}
use Rattle.dice_tasks.proofs.EndsLemmas.{back_more}
use Rattle.dice_tasks.proofs.EntriesLemmas.{stand_close}
use Rattle.dice_core.proofs.EventLemmas.{all_drops, all_works, entries_given_up, cells_works, count_works, sessions_works}
use Rattle.dice_tasks.proofs.Dropped.{cascade_distinct}
use Rattle.dice_core.proofs.SessionLemmas.{closing_end, eqb_flips}
use Rattle.lists.specs.Lists.{Has}
use Rattle.std.proofs.Math.Bool.{and-true}

-- ---- the asks of a transaction that go

-- who lists his asks so, when it is closed
pub listed_all : {K V : Type 0} (R : List (Told K V)) (s : SessionsSeen K) (t : ℕ) (x : SessionSeen) → SessionsStand R s → session_at s t ≡ Some x → (i : ℕ) → has_ask x.asks i ≡ asks_in R t i
listed_all R s t x st e i = ap (is_for (λ (y : SessionSeen). has_ask y.asks i)) (sym e) ∙ st.among t i

-- the asks that are left are among these; the others of these are gone
abbrev pub is_gone : {K : Type 0} → List ℕ → List ℕ → By K → Bool
is_gone xs ys a = is_promise_of xs a && not (is_promise_of ys a)

gone_none : (x b : Bool) → (x && not (b && not b)) ≡ x
gone_none true true = refl
gone_none true false = refl
gone_none false b = refl

module _ {K V : Type 0} (eq : K → K → Bool) where
  -- some of the asks of the transaction t are taken out: ys are left
  pub record TakesSome (R : List (Told K V)) (by t : ℕ) (xs ys : List ℕ) (ps qs : List (K × Share K (Held K V))) (u : SessionsSeen K) : Type 0 where
    pub closing : Closing R by t ys u
    pub promised : ArePromised eq R qs
    pub fewer : (i : ℕ) → has_ask ys i ≡ true → has_ask xs i ≡ true
    pub asks : (q : K) (a : By K) → asks eq qs q a ≡ (asks eq ps q a && not (is_gone xs ys a))

  pub takes_none : (R : List (Told K V)) (by t : ℕ) (xs : List ℕ) (ps : List (K × Share K (Held K V))) (u : SessionsSeen K) → Closing R by t xs u → ArePromised eq R ps → TakesSome R by t xs xs ps ps u
  takes_none R by t xs ps u c p = record { closing = c; promised = p; fewer = λ i e. e; asks = λ q a. sym (gone_none (asks eq ps q a) (is_promise_of xs a)) }

  -- one more
  pub takes_more : (R : List (Told K V)) (by t : ℕ) (xs ys zs : List ℕ) (ps qs rs : List (K × Share K (Held K V))) (s u : SessionsSeen K) → TakesSome R by t xs ys ps qs s → TakesPromise eq R by t ys zs qs rs u → TakesSome R by t xs zs ps rs u
  takes_more R by t xs ys zs ps qs rs s u h one = record {
    closing = one.closing;
    promised = λ k i e. h.promised k i (and_parts (asks eq qs k (Promised i)) _ (sym (one.asks k (Promised i)) ∙ e)).0;
    fewer = λ i e. h.fewer i (still (nat_eq one.index i) (has_ask ys i) (sym (one.left i) ∙ e));
    asks = λ q a. one.asks q a ∙ (ap (λ b. b && not (is_by eq (Promised one.index) a)) (h.asks q a) ∙ by_asker (asks eq ps q a) a);
  }
    where
      still : (b c : Bool) → cond b false c ≡ true → c ≡ true
      still true c e = cc
      still false c e = e

      known : has_ask xs one.index ≡ true
      known = h.fewer one.index one.had

      by_index : (x : Bool) (i : ℕ) (b : Bool) → nat_eq one.index i ≡ b → ((x && not (has_ask xs i && not (has_ask ys i))) && not b) ≡ (x && not (has_ask xs i && not (cond b false (has_ask ys i))))
      by_index x i true e =
          let j : one.index ≡ i = eqb-true one.index i e in
          let l : has_ask xs i ≡ true = subst (λ n. has_ask xs n ≡ true) j known in
          rw l (and_right (x && not (not (has_ask ys i))) false refl ∙ sym (and_right x false refl))
      by_index x i false e = and-true (x && not (has_ask xs i && not (has_ask ys i)))

      by_asker : (x : Bool) (a : By K) → ((x && not (is_gone xs ys a)) && not (is_by eq (Promised one.index) a)) ≡ (x && not (is_gone xs zs a))
      by_asker x (Promised i) = by_index x i (nat_eq one.index i) refl ∙ ap (λ b. x && not (has_ask xs i && not b)) (sym (one.left i))
      by_asker x (Tasked k) = and-true (x && true)

  -- then none is left
  pub takes_all : (R : List (Told K V)) (by t : ℕ) (xs ys : List ℕ) (ps qs rs : List (K × Share K (Held K V))) (s u : SessionsSeen K) → TakesSome R by t xs ys ps qs s → ys ≡ [] → u ≡ s → rs ≡ qs → TakesPromises eq R by t xs ps rs u
  takes_all R by t xs ys ps qs rs s u h none i j = record {
    closing = subst (λ z. Closing R by t [] z) (sym i) (subst (λ z. Closing R by t z s) none h.closing);
    asks = λ q a. ap (λ z. asks eq z q a) j ∙ (h.asks q a ∙ (ap (λ z. asks eq ps q a && not (is_gone xs z a)) none ∙ by_asker (asks eq ps q a) a));
  }
    where
      by_asker : (x : Bool) (a : By K) → (x && not (is_gone xs [] a)) ≡ (x && not (is_promise_of xs a))
      by_asker x (Promised i) = ap (λ b. x && not b) (and-true (has_ask xs i))
      by_asker x (Tasked k) = refl

  -- an ask that is taken out was a promise of its key alone
  pub takes_one : (R : List (Told K V)) (by t i : ℕ) (xs ys : List ℕ) (ps qs : List (K × Share K (Held K V))) (s u : SessionsSeen K) (a : Asking K) → IsEquality eq → Closing R by t xs s → ArePromised eq R ps → has_ask xs i ≡ true
      → ((q : ℕ) → has_ask ys q ≡ cond (nat_eq i q) false (has_ask xs q)) → Closing R by t ys u → live_at R i ≡ Some a
      → ((q : K) (b : By K) → asks eq qs q b ≡ (asks eq ps q b && not (eq a.key q && is_by eq (Promised i) b))) → TakesPromise eq R by t xs ys ps qs u
  takes_one R by t i xs ys ps qs s u a equality c promised had left closing live asked = record {
    index = i;
    had = had;
    left = left;
    closing = closing;
    asks = λ q b. asked q b ∙ by_asker q b;
  }
    where
      by_test : (q : K) (j : ℕ) (x : Bool) → asks eq ps q (Promised j) ≡ x → (y : Bool) → nat_eq i j ≡ y → (x && not (eq a.key q && y)) ≡ (x && not y)
      by_test q j false e y p = refl
      by_test q j true e false p = ap not (and_right (eq a.key q) false refl)
      by_test q j true e true p =
          let l : i ≡ j = eqb-true i j p in
          let b = promised q j e in
          let same : a ≡ b.0 = some_same (sym live ∙ (ap (live_at R) l ∙ b.1)) in
          let z : eq a.key q ≡ true = ap (λ (y : Asking K). eq y.key q) same ∙ subst (λ k. eq b.0.key k ≡ true) b.2 (equality.itself b.0.key) in
          rw z refl
        where
          some_same : {x y : Asking K} → Some x ≡ Some y → x ≡ y
          some_same e = cc

      by_asker : (q : K) (b : By K) → (asks eq ps q b && not (eq a.key q && is_by eq (Promised i) b)) ≡ (asks eq ps q b && not (is_by eq (Promised i) b))
      by_asker q (Promised j) = by_test q j (asks eq ps q (Promised j)) refl (nat_eq i j) refl
      by_asker q (Tasked k) = ap (λ b. asks eq ps q (Tasked k) && not b) (and_right (eq a.key q) false refl)

-- the tasks are the same after both
pub keeps_on : {K T : Type 0} (eq : K → K → Bool) (ps qs rs : List (K × Share K T)) → KeepsTasks eq ps qs → KeepsTasks eq qs rs → KeepsTasks eq ps rs
keeps_on eq ps qs rs a b = record { tasks = λ q. b.tasks q ∙ a.tasks q; live = λ q. b.live q ∙ a.live q; count = b.count ∙ a.count }

-- ---- the Close

-- how many are is_open then
pub closed_count : {K V : Type 0} (R : List (Told K V)) (v by t : ℕ) (o : Opened) → open_at R t ≡ Some o → o.version ≡ v → (u : ℕ) → open_count (Close by t ∷ R) u ≡ cond (nat_eq v u) (open_count R u - 1) (open_count R u)
closed_count R v by t o is_open at u = ap (λ b. open_count R u - one_if b) (ap (is_for (λ (x : Opened). eqb x.version u)) is_open ∙ ap (λ n. eqb n u) at) ∙ by_test (eqb v u)
  where
    by_test : (b : Bool) → open_count R u - one_if b ≡ cond b (open_count R u - 1) (open_count R u)
    by_test true = refl
    by_test false = omega arith

module _ {K V : Type 0} (eq : K → K → Bool) (equality : IsEquality eq) (m : Meaning K V) (law : IsLawful m) (v : ℕ) where
  -- while a call works each promise is a live ask of its key
  pub promised_here : (w : World K V) (owes : ℕ) (ps : List (K × Share K (Held K V))) (d : DeskSeen K V) → Working eq m v [] w owes ps d → ArePromised eq (reverse d.events) ps
  promised_here w owes ps d h k i e =
      let here = stands_here eq equality m (reverse d.events) v [] (asked_of eq ps) (tasks_of eq ps) w (desk_of d) owes h.stand in
      let p = here.promised k i e in (p.0, p.1, p.3)

  -- the asks of the transaction are gone: all is there for the cascade
  pub closed_cleaning : (by t owes less : ℕ) (o : Opened) (xs : List ℕ) (ps qs : List (K × Share K (Held K V))) (d : DeskSeen K V) → less ≤ owes → open_at (reverse d.events) t ≡ Some o → o.by ≡ by → o.version ≡ v → ((i : ℕ) → has_ask xs i ≡ asks_in (reverse d.events) t i)
      → KeepsTasks eq ps qs → ((q : K) (a : By K) → asks eq qs q a ≡ (asks eq ps q a && not (is_promise_of xs a))) → (w : World K V) → Working eq m v [] w (owes + 1) ps d
      → Cleaning eq m v w less qs (with_event d (Close by t)) × (ended_at (reverse (d.events ++ Close by t ∷ [])) ≡ Some v)
  closed_cleaning by t owes less o xs ps qs d fewer is_open his at listed keeps asked w work =
      let r = closed_stand eq equality m law (reverse d.events) v w [] (asked_of eq ps) (asked_of eq qs) (tasks_of eq ps) by t o (desk_of d) (desk_of (with_event d (Close by t))) (owes + 1) less work.stand is_open his at leaves keeps.live
      (record { ready = refl; out = refl; live = refl }) (let n = work.stand.room in omega arith) in
      (cleaning_by eq equality m law v (Close by t) less ps qs d keeps w r.1 work.outs work.named, ap ended_at (back_more d.events (Close by t)) ∙ r.2)
    where
      leaves : (q : K) (a : By K) → asks eq qs q a ≡ (asks eq ps q a && not (is_promise_in (reverse d.events) t a))
      leaves q (Promised i) = asked q (Promised i) ∙ ap (λ b. asks eq ps q (Promised i) && not b) (listed i)
      leaves q (Tasked k) = asked q (Tasked k)

  -- what was told
  pub closed_log : (x : Told K V) (ks : List K) (ps qs rs : List (K × Share K (Held K V))) (d e : DeskSeen K V) → KeepsTasks eq ps qs → DropsTasks eq v ks qs rs (with_event d x) e → DropsAfter eq v (x ∷ []) ks ps rs d e
  closed_log x ks ps qs rs d e keeps drops = record {
    events = drops.events ∙ append_assoc d.events (x ∷ []) (map (Drop v) ks);
    distinct = cascade_distinct eq equality ks (asked_of eq qs) (asked_of eq rs) drops.cascade;
    at_work = λ q h. sym (keeps.live q) ∙ dropped_live eq ks (asked_of eq qs) (asked_of eq rs) drops.cascade q h;
    tasks = λ q. drops.tasks q ∙ ap (λ o. cond (list_has q) None o) (keeps.tasks q);
  }
    where
      list_has : K → Bool
      list_has q = list_any (eq q) ks

  works_after : (x : Told K V) (ks : List K) (qs rs : List (K × Share K (Held K V))) (d e : DeskSeen K V) → DropsTasks eq v ks qs rs (with_event d x) e → WorksOn v (d.events ++ x ∷ []) e.events
  works_after x ks qs rs d e drops = (map (Drop v) ks, drops.events, all_works v (map (Drop v) ks) (all_drops V v ks))

  pub closed_sessions : (by t : ℕ) (ks : List K) (qs rs : List (K × Share K (Held K V))) (d e : DeskSeen K V) (s : SessionsSeen K) → DropsTasks eq v ks qs rs (with_event d (Close by t)) e → Closing (reverse d.events) by t [] s → SessionsStand (reverse e.events) s
  closed_sessions by t ks qs rs d e s drops c =
      sessions_works v (d.events ++ Close by t ∷ []) e.events s (works_after (Close by t) ks qs rs d e drops)
      (subst (λ R. SessionsStand R s) (sym (back_more d.events (Close by t))) (closing_end (reverse d.events) by t s c))

  pub closed_counts : (by t : ℕ) (o : Opened) (ks : List K) (qs rs : List (K × Share K (Held K V))) (d e : DeskSeen K V) → DropsTasks eq v ks qs rs (with_event d (Close by t)) e → open_at (reverse d.events) t ≡ Some o → o.version ≡ v
      → (u : ℕ) → open_count (reverse e.events) u ≡ cond (nat_eq v u) (open_count (reverse d.events) u - 1) (open_count (reverse d.events) u)
  closed_counts by t o ks qs rs d e drops is_open at u =
      count_works v (d.events ++ Close by t ∷ []) e.events u (works_after (Close by t) ks qs rs d e drops) ∙ (ap (λ R. open_count R u) (back_more d.events (Close by t)) ∙ closed_count (reverse d.events) v by t o is_open at u)

  -- after the cascade
  pub left_again : (by t : ℕ) (ks : List K) (owes : ℕ) (qs rs : List (K × Share K (Held K V))) (d e : DeskSeen K V) (es : List (K × Stored K V)) (s : Seen K V) (w : World K V) → DropsTasks eq v ks qs rs (with_event d (Close by t)) e
      → d.ended ≡ [] → EntriesStand eq m (reverse d.events) es → CellsStand eq (reverse d.events) s → Working eq m v [] w owes rs e → AreTasked eq rs → IsDone (asked_of eq rs) → LeftHand eq m v w owes rs e es s
  left_again by t ks owes qs rs d e es s w drops told entries cells work tasked done = record {
    working = work;
    told = drops.ended ∙ told;
    tasked = tasked;
    done = done;
    entries = subst (λ X. EntriesStand eq m (reverse X) es) (sym drops.events)
        (entries_given_up v eq m es (d.events ++ Close by t ∷ []) (map (Drop v) ks) (all_drops V v ks) (subst (λ R. EntriesStand eq m R es) (sym (back_more d.events (Close by t))) (stand_close eq m (reverse d.events) es entries by t)));
    cells = cells_works v eq s (d.events ++ Close by t ∷ []) e.events (works_after (Close by t) ks qs rs d e drops) (subst (λ R. CellsStand eq R s) (sym (back_more d.events (Close by t))) (record { are = cells.are; newest = cells.newest }));
  }

-- ---- the version put back, or ended

-- a version with an is_open transaction is in hand still
pub hand_of_left : {K V : Type 0} (eq : K → K → Bool) (m : Meaning K V) (v : ℕ) (w : World K V) (owes : ℕ) (ps : List (K × Share K (Held K V))) (d : DeskSeen K V) (es : List (K × Stored K V)) (s : Seen K V) → LeftHand eq m v w owes ps d es s → 0 < open_count (reverse d.events) v → AtHand eq m v w owes ps d es s
hand_of_left eq m v w owes ps d es s h is_open = record { working = h.working; told = h.told; tasked = h.tasked; done = h.done; opened = is_open; entries = h.entries; cells = h.cells }

module _ {K V : Type 0} (ts us : List (ℕ × List (K × Share K (Held K V)))) (v : ℕ) (gone : (u : ℕ) → lookup (nat_eq u) us ≡ cond (nat_eq v u) None (lookup (nat_eq u) ts)) where
  -- the table of v is thrown away
  table_gone : (n : ℕ) → table_at us n ≡ cond (eqb n v) [] (table_at ts n)
  table_gone n = ap (λ (o : Option (List (K × Share K (Held K V)))). unwrap_or o []) (gone n) ∙ (by_test (nat_eq v n) ∙ ap (λ b. cond b [] (table_at ts n)) (eqb_flips v n))
    where
      by_test : (b : Bool) → unwrap_or (cond b None (lookup (nat_eq n) ts)) [] ≡ cond b [] (table_at ts n)
      by_test true = refl
      by_test false = refl

  world_gone : (eq : K → K → Bool) → world_of eq us ≡ with_version v nobody (λ q. None) (world_of eq ts)
  world_gone eq = λ i. record { asked = λ n. same_asked n i; tasks = λ n. same_tasks n i }
    where
      same_asked : (n : ℕ) → asked_of eq (table_at us n) ≡ cond (eqb n v) nobody (asked_of eq (table_at ts n))
      same_asked n = ap (asked_of eq) (table_gone n) ∙ by_test (eqb n v)
        where
          by_test : (b : Bool) → asked_of eq (cond b [] (table_at ts n)) ≡ cond b nobody (asked_of eq (table_at ts n))
          by_test true = refl
          by_test false = refl

      same_tasks : (n : ℕ) → tasks_of eq (table_at us n) ≡ cond (eqb n v) (λ q. None) (tasks_of eq (table_at ts n))
      same_tasks n = ap (tasks_of eq) (table_gone n) ∙ by_test (eqb n v)
        where
          by_test : (b : Bool) → tasks_of eq (cond b [] (table_at ts n)) ≡ cond b (λ q. None) (tasks_of eq (table_at ts n))
          by_test true = refl
          by_test false = refl

  named_gone : (eq : K → K → Bool) → ((n : ℕ) → AreNamed eq n (table_at ts n)) → (n : ℕ) → AreNamed eq n (table_at us n)
  named_gone eq there n = subst (AreNamed eq n) (sym (table_gone n)) (by_test (eqb n v))
    where
      by_test : (b : Bool) → AreNamed eq n (cond b [] (table_at ts n))
      by_test true = λ k h e. (let y : None ≡ Some h = e in cc)
      by_test false = there n

  has_left : (n : ℕ) → nat_eq v n ≡ false → has_table ts n ≡ true → has_table us n ≡ true
  has_left n other h = ap is_some (gone n) ∙ (ap (λ b. is_some (cond b None (lookup (nat_eq n) ts))) other ∙ h)

module _ {K V : Type 0} (eq : K → K → Bool) (equality : IsEquality eq) (m : Meaning K V) (law : IsLawful m) (c : CoreSeen K V) (st : CoreStands eq m c) (v : ℕ) where
  -- without an is_open transaction the table of v is thrown away
  pub thrown_away_so : (us : List (ℕ × List (K × Share K (Held K V)))) (qs : List (K × Share K (Held K V))) (e : DeskSeen K V) (es : List (K × Stored K V)) (s : Seen K V) (x : SessionsSeen K) → ((u : ℕ) → lookup (nat_eq u) us ≡ cond (nat_eq v u) None (lookup (nat_eq u) c.tables))
      → LeftHand eq m v (world_of eq c.tables) (owed x) qs e es s → open_count (reverse e.events) v ≡ 0 → SessionsStand (reverse e.events) x → ((u : ℕ) → 0 < open_count (reverse e.events) u → has_table c.tables u ≡ true)
      → CoreStands eq m (record { desk = e; tables = us; entries = es; cells = s; sessions = x })
  thrown_away_so us qs e es s x gone hand none stands tabled = record {
    rests = subst (λ (y : World K V). Rests eq m R y (desk_of e) (owed x)) (sym same) (rests_emptied eq equality m law R v w (asked_of eq qs) (tasks_of eq qs) (desk_of e) (owed x) hand.working.stand hand.done none);
    outs = subst (λ (y : World K V). AreAll (λ (p : ℕ × K). is_out (y.tasks p.0 p.1)) e.out) (sym same) (all_alike _ _ home e.out hand.working.outs);
    named = named_gone c.tables us v gone eq st.named;
    told = hand.told;
    entries = hand.entries;
    cells = hand.cells;
    sessions = stands;
    tabled = λ u n. has_left c.tables us v gone u (other u n) (tabled u n);
  }
    where
      R : List (Told K V)
      R = reverse e.events

      w : World K V
      w = world_of eq c.tables

      same : world_of eq us ≡ with_version v nobody (λ q. None) (world_of eq c.tables)
      same = world_gone c.tables us v gone eq

      here : VersionStands eq m (reverse e.events) v [] (asked_of eq qs) (tasks_of eq qs)
      here = stands_here eq equality m (reverse e.events) v [] (asked_of eq qs) (tasks_of eq qs) (world_of eq c.tables) (desk_of e) (owed x) hand.working.stand

      finite : (all : List K) × ((q : K) → is_live eq qs q ≡ true → Has all q)
      finite = live_stand eq equality m law (reverse e.events) v (world_of eq c.tables) [] (asked_of eq qs) (tasks_of eq qs) (desk_of e) (owed x) hand.working.stand

      home : (p : ℕ × K) → is_out ((with_version v nobody (λ q. None) (world_of eq c.tables)).tasks p.0 p.1) ≡ is_out ((seen_world eq v qs (world_of eq c.tables)).tasks p.0 p.1)
      home p = by_number (eqb p.0 v)
        where
          by_number : (b : Bool) → is_out (cond b (λ q. None) ((world_of eq c.tables).tasks p.0) p.1) ≡ is_out (cond b (tasks_of eq qs) ((world_of eq c.tables).tasks p.0) p.1)
          by_number true = sym (idle_out (tasks_of eq qs p.1) (sym (here.live p.1) ∙ idle eq equality m (reverse e.events) hand.working.stand.lawful v none (asked_of eq qs) (tasks_of eq qs) here hand.done finite.0 finite.1 p.1))
          by_number false = refl

      other : (u : ℕ) → 0 < open_count (reverse e.events) u → nat_eq v u ≡ false
      other u n = by_test (nat_eq v u) refl
        where
          by_test : (b : Bool) → nat_eq v u ≡ b → nat_eq v u ≡ false
          by_test true i = absurd (let j : open_count (reverse e.events) u ≡ 0 = ap (open_count (reverse e.events)) (sym (eqb-true v u i)) ∙ none in omega arith)
          by_test false i = i
