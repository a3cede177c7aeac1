-- The core between calls: its first state; one version taken in hand and put back; and calls that leave all as before.
use Rattle.std.proofs.Common.{◌≡◌, ◌<◌, ℕ, zero, Bool, true, false, cond, nat_eq, eqb, List, [], suc, length, reverse, Option, Some, None, unwrap_or, is_some, refl, sym, ap, ◌∙◌, subst, arith}
use Rattle.std.specs.Map.{lookup}
use Rattle.std.specs.Option.{option_map}
use Rattle.std.proofs.lemmas.Bool.{eqb-true}
use Rattle.dice_key.specs.Meaning.{Meaning}
use Rattle.dice_key.specs.Lawful.{IsEquality, IsLawful}
use Rattle.task_share.specs.Asked.{By}
use Rattle.task_share.specs.Seen.{Share, task_at, asks, asked_of}
use Rattle.injected.specs.Seen.{Seen, sets_at}
use Rattle.journal.specs.Events.{open_count}
use Rattle.versioned_graph.specs.Entries.{Stored}
use Rattle.core_laws.specs.Tasks.{Task}
use Rattle.core_laws.specs.Desk.{World, Rests, AreAll, with_version, is_out}
use Rattle.core_laws.proofs.StepsRests.{same_world, stand_with, wanted_here, rests_of, rests_room, rests_first}
use Rattle.dice_steps.specs.AtHand.{AtHand}
use Rattle.dice_steps.specs.Cells.{CellsStand}
use Rattle.dice_tasks.specs.Entries.{EntriesStand}
use Rattle.dice_tasks.specs.Hands.{DeskSeen, desk_of, tasks_of, AreNamed, Working}
use Rattle.dice_tasks.specs.Helds.{Held, task_of}
use Rattle.dice_core.specs.Sessions.{SessionsSeen, owed, SessionsStand}
use Rattle.dice_core.specs.Cores.{CoreSeen, past_of, table_at, has_table, held_in, world_of, IsAsBefore, CoreStands}
use Rattle.dice_tasks.proofs.EntriesLemmas.{none_stand}
use Rattle.dice_core.proofs.SessionLemmas.{eqb_flips, same_stands}

-- ---- tables

module _ {K V : Type 0} where
  -- a task that stands for one is kept
  held_there : (o : Option (Held K V)) (t : Task K V) → option_map task_of o ≡ Some t → (h : Held K V) × (o ≡ Some h)
  held_there None t e = let x : None ≡ Some t = e in cc
  held_there (Some h) t e = (h, refl)

  pub task_there : (o : Option (Held K V)) (h : Held K V) → o ≡ Some h → option_map task_of o ≡ Some (task_of h)
  task_there o h e = ap (option_map task_of) e

  -- the table of v is qs, and all others are as they were
  module _ (ts us : List (ℕ × List (K × Share K (Held K V)))) (v : ℕ) (qs : List (K × Share K (Held K V))) (put : (u : ℕ) → lookup (nat_eq u) us ≡ cond (nat_eq v u) (Some qs) (lookup (nat_eq u) ts)) where
    pub table_put : (n : ℕ) → table_at us n ≡ cond (eqb n v) qs (table_at ts n)
    table_put n = ap (λ (o : Option (List (K × Share K (Held K V)))). unwrap_or o []) (put n) ∙ (by_test (nat_eq v n) ∙ ap (λ b. cond b qs (table_at ts n)) (eqb_flips v n))
      where
        by_test : (b : Bool) → unwrap_or (cond b (Some qs) (lookup (nat_eq n) ts)) [] ≡ cond b qs (table_at ts n)
        by_test true = refl
        by_test false = refl

    pub has_put : (n : ℕ) → has_table ts n ≡ true → has_table us n ≡ true
    has_put n h = ap is_some (put n) ∙ by_test (nat_eq v n)
      where
        by_test : (b : Bool) → is_some (cond b (Some qs) (lookup (nat_eq n) ts)) ≡ true
        by_test true = refl
        by_test false = h

    pub world_put : (eq : K → K → Bool) → world_of eq us ≡ with_version v (asked_of eq qs) (tasks_of eq qs) (world_of eq ts)
    world_put eq = λ i. record { asked = λ n. same_asked n i; tasks = λ n. same_tasks n i }
      where
        same_asked : (n : ℕ) → asked_of eq (table_at us n) ≡ cond (eqb n v) (asked_of eq qs) (asked_of eq (table_at ts n))
        same_asked n = ap (asked_of eq) (table_put n) ∙ by_test (eqb n v)
          where
            by_test : (b : Bool) → asked_of eq (cond b qs (table_at ts n)) ≡ cond b (asked_of eq qs) (asked_of eq (table_at ts n))
            by_test true = refl
            by_test false = refl

        same_tasks : (n : ℕ) → tasks_of eq (table_at us n) ≡ cond (eqb n v) (tasks_of eq qs) (tasks_of eq (table_at ts n))
        same_tasks n = ap (tasks_of eq) (table_put n) ∙ by_test (eqb n v)
          where
            by_test : (b : Bool) → tasks_of eq (cond b qs (table_at ts n)) ≡ cond b (tasks_of eq qs) (tasks_of eq (table_at ts n))
            by_test true = refl
            by_test false = refl

    pub named_put_in : (eq : K → K → Bool) → AreNamed eq v qs → ((n : ℕ) → AreNamed eq n (table_at ts n)) → (n : ℕ) → AreNamed eq n (table_at us n)
    named_put_in eq here there n = subst (AreNamed eq n) (sym (table_put n)) (by_test (eqb n v) refl)
      where
        by_test : (b : Bool) → eqb n v ≡ b → AreNamed eq n (cond b qs (table_at ts n))
        by_test true e = subst (λ z. AreNamed eq z qs) (sym (eqb-true n v e)) here
        by_test false e = there n

module _ {K V : Type 0} (eq : K → K → Bool) (equality : IsEquality eq) (m : Meaning K V) (law : IsLawful m) where
  -- ---- the first state

  pub core_first : (tables : List (ℕ × List (K × Share K (Held K V)))) (s : Seen K V) (x : SessionsSeen K) → tables ≡ [] → ((k : K) → sets_at eq s k ≡ []) → s.last ≡ 0 → owed x ≡ 0 → SessionsStand {K = K} {V = V} [] x
      → CoreStands eq m (record { desk = record { events = []; ready = []; out = []; live = 0; ended = []; spare = 0; ready_room = 0; live_room = 0 }; tables = tables; entries = []; cells = s; sessions = x })
  core_first tables s x none sets last nothing stands = rw none (record {
    rests = rests_first eq m 0 (owed x) (omega arith);
    outs = no_outs;
    named = λ v k h e. (let y : None ≡ Some h = e in cc);
    told = refl;
    entries = none_stand eq m;
    cells = record { are = sets; newest = last };
    sessions = stands;
    tabled = λ v n. absurd (let z : 0 < 0 = n in omega arith);
  })
    where
      no_outs : AreAll (λ (p : ℕ × K). is_out ((world_of {V = V} eq []).tasks p.0 p.1)) []
      no_outs = record { passes = λ p h. absurd h; found = λ p e. (let y : false ≡ true = e in cc); distinct = tt }

  -- ---- one version in hand

  module _ (c : CoreSeen K V) (st : CoreStands eq m c) (v : ℕ) where
    -- a version is taken in hand
    pub working_in : Working eq m v [] (world_of eq c.tables) (owed c.sessions) (table_at c.tables v) c.desk
    working_in = record {
      stand = stand_with eq equality m law (past_of c) v (world_of eq c.tables) (desk_of c.desk) (owed c.sessions) st.rests;
      outs = subst (λ (x : World K V). AreAll (λ (p : ℕ × K). is_out (x.tasks p.0 p.1)) c.desk.out) (sym (same_world v (world_of eq c.tables))) st.outs;
      named = st.named v;
      wanted = λ k l. wanted_here eq equality m law (past_of c) v (world_of eq c.tables) (desk_of c.desk) (owed c.sessions) st.rests k l;
    }

    -- with an open transaction all is there
    pub in_hand : 0 < open_count (past_of c) v → AtHand eq m v (world_of eq c.tables) (owed c.sessions) (table_at c.tables v) c.desk c.entries c.cells
    in_hand some = record {
      working = working_in;
      told = st.told;
      tasked = λ k a i. (let t = (st.rests.each v).tasked k a i in held_there (task_at eq (table_at c.tables v) k) t.0 t.1);
      done = (st.rests.each v).wanted;
      opened = some;
      entries = st.entries;
      cells = st.cells;
    }

    -- a task of v is one in the hand: then a transaction is open at v
    pub open_by_task : (k : K) (h : Held K V) → held_in eq c v k ≡ Some h → 0 < open_count (past_of c) v
    open_by_task k h e = by_number (open_count (past_of c) v) refl
      where
        by_number : (n : ℕ) → open_count (past_of c) v ≡ n → 0 < n
        by_number zero z = absurd (let x : None ≡ Some (task_of h) = sym ((st.rests.each v).closed z k) ∙ task_there (task_at eq (table_at c.tables v) k) h e in (let y : ⊥ = cc in y))
        by_number (suc n) z = omega arith

    -- and is put back, with other tasks
    pub put_back_so : (us : List (ℕ × List (K × Share K (Held K V)))) (qs : List (K × Share K (Held K V))) (e : DeskSeen K V) (es : List (K × Stored K V)) (s : Seen K V) (x : SessionsSeen K) → ((u : ℕ) → lookup (nat_eq u) us ≡ cond (nat_eq v u) (Some qs) (lookup (nat_eq u) c.tables))
        → AtHand eq m v (world_of eq c.tables) (owed x) qs e es s → SessionsStand (reverse e.events) x → ((u : ℕ) → 0 < open_count (reverse e.events) u → has_table c.tables u ≡ true)
        → CoreStands eq m (record { desk = e; tables = us; entries = es; cells = s; sessions = x })
    put_back_so us qs e es s x put hand stands tabled = record {
      rests = subst (λ (w : World K V). Rests eq m (reverse e.events) w (desk_of e) (owed x)) (sym same) (rests_of eq equality m law (reverse e.events) v (world_of eq c.tables) (asked_of eq qs) (tasks_of eq qs) (desk_of e) (owed x) hand.working.stand hand.done tasked (λ z. absurd (let n = hand.opened in omega arith)));
      outs = subst (λ (w : World K V). AreAll (λ (p : ℕ × K). is_out (w.tasks p.0 p.1)) e.out) (sym same) hand.working.outs;
      named = named_put_in c.tables us v qs put eq hand.working.named st.named;
      told = hand.told;
      entries = hand.entries;
      cells = hand.cells;
      sessions = stands;
      tabled = λ u n. has_put c.tables us v qs put u (tabled u n);
    }
      where
        same : world_of eq us ≡ with_version v (asked_of eq qs) (tasks_of eq qs) (world_of eq c.tables)
        same = world_put c.tables us v qs put eq

        tasked : (k : K) (a : By K) → asks eq qs k a ≡ true → (t : Task K V) × (tasks_of eq qs k ≡ Some t)
        tasked k a i = let h = hand.tasked k a i in (task_of h.0, task_there (task_at eq qs k) h.0 h.1)

  -- ---- calls that leave all as before

  -- so does the world
  pub world_same : (c d : CoreSeen K V) → IsAsBefore eq c d → world_of eq d.tables ≡ world_of eq c.tables
  world_same c d b = λ i. record {
    asked = λ n. record { live = λ q. b.live n q i; asks = λ q a. b.asks n q a i };
    tasks = λ n q. option_map task_of (b.tasks n q i);
  }

  pub stands_same : (c d : CoreSeen K V) → IsAsBefore eq c d → CoreStands eq m c → CoreStands eq m d
  stands_same c d b st = record {
    rests = rests;
    outs = subst (λ (w : World K V). AreAll (λ (p : ℕ × K). is_out (w.tasks p.0 p.1)) d.desk.out) (sym (world_same c d b)) (subst (λ xs. AreAll (λ (p : ℕ × K). is_out ((world_of eq c.tables).tasks p.0 p.1)) xs) (sym b.hands.out) st.outs);
    named = λ v k h e. st.named v k h (sym (b.tasks v k) ∙ e);
    told = b.hands.ended ∙ st.told;
    entries = subst (λ es. EntriesStand eq m (past_of d) es) (sym b.entries) (subst (λ R. EntriesStand eq m R c.entries) (sym past) st.entries);
    cells = subst (λ R. CellsStand eq R d.cells) (sym past) (record { are = λ k. b.cells k ∙ st.cells.are k; newest = b.newest ∙ st.cells.newest });
    sessions = subst (λ R. SessionsStand R d.sessions) (sym past) (same_stands (past_of c) c.sessions d.sessions b.sessions st.sessions);
    tabled = λ v n. b.tabled v (st.tabled v (subst (λ R. 0 < open_count R v) past n));
  }
    where
      past : past_of d ≡ past_of c
      past = ap reverse b.hands.events

      rests : Rests eq m (past_of d) (world_of eq d.tables) (desk_of d.desk) (owed d.sessions)
      rests =
          subst (λ (w : World K V). Rests eq m (past_of d) w (desk_of d.desk) (owed d.sessions)) (sym (world_same c d b))
          (subst (λ R. Rests eq m R (world_of eq c.tables) (desk_of d.desk) (owed d.sessions)) (sym past)
          (rests_room eq equality m law (past_of c) (world_of eq c.tables) (desk_of c.desk) (desk_of d.desk) (owed c.sessions) (owed d.sessions) st.rests
          (record { ready = b.hands.ready; out = ap length b.hands.out; live = b.hands.live })
          (let r = st.rests.room in let s = b.room.spare in let l = b.hands.live in let o = b.sessions.owed in omega arith)))
