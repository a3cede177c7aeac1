-- A job that is taken or comes back, over all versions.
use Rattle.std.proofs.Common.{◌≡◌, ◌↔◌, IsTrue, ◌<◌, ℕ, Bool, true, false, cond, nat_eq, eqb, List, [], ◌∷◌, ◌++◌, reverse, Option, Some, None, is_some, unwrap_or, refl, sym, ap, ◌∙◌, subst, arith, ◌≤◌}
use Rattle.std.proofs.lemmas.Bool.{eqb-true}
use Rattle.std.specs.Map.{lookup}
use Rattle.std.specs.Option.{option_map}
use Rattle.dice_key.specs.Meaning.{Meaning}
use Rattle.dice_key.specs.Lawful.{IsEquality, IsLawful}
use Rattle.task_share.specs.Asked.{By}
use Rattle.task_share.specs.Seen.{Share, task_at, is_live, asks}
use Rattle.injected.specs.Seen.{Seen}
use Rattle.journal.specs.Events.{open_count}
use Rattle.versioned_graph.specs.Entries.{Stored}
use Rattle.core_laws.specs.Tasks.{Phase, IsOut, IsReady, IsWaiting}
use Rattle.core_laws.specs.Desk.{World, is_ready, out_in}
use Rattle.dice_jobs.specs.Jobs.{Name, Assigned}
use Rattle.dice_steps.specs.AtHand.{AtHand}
use Rattle.dice_steps.specs.Cells.{CellsStand}
use Rattle.dice_tasks.specs.Endings.{Knows, IsJobNamed}
use Rattle.dice_tasks.specs.Entries.{EntriesStand}
use Rattle.dice_tasks.specs.Hands.{DeskSeen, tasks_of, AreNamed, Working}
use Rattle.std.specs.Prelude.{IfSome, IfNone}
use Rattle.dice_tasks.specs.Helds.{Held, held_of, task_of}
use Rattle.dice_core.specs.Sessions.{SessionsSeen, owed, SessionsStand}
use Rattle.dice_tasks.specs.Waitings.{IsTurned, KeepsTable, TakesJob, ReturnsJob}
use Rattle.dice_core.specs.Cores.{CoreSeen, table_at, has_table, world_of, core_of, PutsTable, Turned, IsAsBefore, CoreStands, WorksOn}
use Rattle.dice_core.proofs.TurnLemmas.{worked_stands}
use Rattle.dice_core.proofs.CoreLemmas.{working_in, in_hand, open_by_task, put_back_so, stands_same, table_put, has_put}
use Rattle.dice_tasks.proofs.EndsLemmas.{working_knows}
use Rattle.dice_core.proofs.OpeningLemmas.{same_sessions}
use Rattle.lists.proofs.Members.{has_end}
use Rattle.lists.specs.Lists.{Has}

module _ {K V : Type 0} where
  -- the table that is found is that of the version
  pub table_found : (ts : List (ℕ × List (K × Share K (Held K V)))) (v : ℕ) (ps : List (K × Share K (Held K V))) → lookup (nat_eq v) ts ≡ Some ps → table_at ts v ≡ ps
  table_found ts v ps e = ap (λ (o : Option (List (K × Share K (Held K V)))). unwrap_or o []) e

  pub none_found : (ts : List (ℕ × List (K × Share K (Held K V)))) (v : ℕ) → lookup (nat_eq v) ts ≡ None → has_table ts v ≡ true → ⊥
  none_found ts v e h = let x : false ≡ true = ap is_some (sym e) ∙ h in cc

  -- no task is there without a table
  pub none_held : (eq : K → K → Bool) (ts : List (ℕ × List (K × Share K (Held K V)))) (v : ℕ) (k : K) (h : Held K V) → lookup (nat_eq v) ts ≡ None → task_at eq (table_at ts v) k ≡ Some h → ⊥
  none_held eq ts v k h e t = let x : None ≡ Some h = sym (ap (λ (o : Option (List (K × Share K (Held K V)))). task_at eq (unwrap_or o []) k) e) ∙ t in cc

-- the table of v is as it was
pub kept_stands : {K V : Type 0} (eq : K → K → Bool) (d : DeskSeen K V) (ts : List (ℕ × List (K × Share K (Held K V)))) (es : List (K × Stored K V)) (s : Seen K V) (x : SessionsSeen K) (v : ℕ) (us : List (ℕ × List (K × Share K (Held K V)))) (qs : List (K × Share K (Held K V))) → PutsTable v qs ts us → KeepsTable eq (table_at ts v) qs → IsAsBefore eq (core_of d ts es s x) (core_of d us es s x)
kept_stands {K} {V} eq d ts es s x v us qs put keeps = record {
  hands = record { events = refl; ready = refl; out = refl; live = refl; ended = refl };
  room = record { spare = below d.spare; ready = below d.ready_room; live = below d.live_room };
  tasks = λ u q. ap (λ ps. task_at eq ps q) (table_put ts us v qs put u) ∙ by_task u q (eqb u v) refl;
  live = λ u q. ap (λ ps. is_live eq ps q) (table_put ts us v qs put u) ∙ by_live u q (eqb u v) refl;
  asks = λ u q a. ap (λ ps. asks eq ps q a) (table_put ts us v qs put u) ∙ by_asks u q a (eqb u v) refl;
  tabled = λ u h. has_put ts us v qs put u h;
  entries = refl;
  cells = λ k. refl;
  newest = refl;
  sessions = same_sessions x;
}
  where
    below : (n : ℕ) → n ≤ n
    below n = omega arith

    by_task : (u : ℕ) (q : K) (b : Bool) → eqb u v ≡ b → task_at eq (cond b qs (table_at ts u)) q ≡ task_at eq (table_at ts u) q
    by_task u q true i = keeps.tasks q ∙ ap (λ z. task_at eq (table_at ts z) q) (sym (eqb-true u v i))
    by_task u q false i = refl

    by_live : (u : ℕ) (q : K) (b : Bool) → eqb u v ≡ b → is_live eq (cond b qs (table_at ts u)) q ≡ is_live eq (table_at ts u) q
    by_live u q true i = keeps.live q ∙ ap (λ z. is_live eq (table_at ts z) q) (sym (eqb-true u v i))
    by_live u q false i = refl

    by_asks : (u : ℕ) (q : K) (a : By K) (b : Bool) → eqb u v ≡ b → asks eq (cond b qs (table_at ts u)) q a ≡ asks eq (table_at ts u) q a
    by_asks u q a true i = keeps.asks q a ∙ ap (λ z. asks eq (table_at ts z) q a) (sym (eqb-true u v i))
    by_asks u q a false i = refl

module _ {K V : Type 0} (eq : K → K → Bool) (equality : IsEquality eq) (m : Meaning K V) (law : IsLawful m) where
  -- one task changed, and nothing was told
  pub turned_hand : (v : ℕ) (k : K) (h g : Held K V) (ps qs : List (K × Share K (Held K V))) (d e : DeskSeen K V) (es : List (K × Stored K V)) (s : Seen K V) (w : World K V) (n : ℕ) → IsTurned eq k h g ps qs → e.events ≡ d.events → e.ended ≡ d.ended
      → Working eq m v [] w n qs e → AtHand eq m v w n ps d es s → AtHand eq m v w n qs e es s
  turned_hand v k h g ps qs d e es s w n turned events ended work hand = record {
    working = work;
    told = ended ∙ hand.told;
    tasked = λ q a i. (let r = hand.tasked q a (sym (turned.asks q a) ∙ i) in by_test q r.0 r.1 (eq k q) (turned.tasks q));
    done = λ q l. (let r = hand.done q (sym (turned.live q) ∙ l) in (r.0, turned.asks q r.0 ∙ r.1));
    opened = subst (λ X. 0 < open_count (reverse X) v) (sym events) hand.opened;
    entries = subst (λ X. EntriesStand eq m (reverse X) es) (sym events) hand.entries;
    cells = subst (λ X. CellsStand eq (reverse X) s) (sym events) hand.cells;
  }
    where
      by_test : (q : K) (r : Held K V) → task_at eq ps q ≡ Some r → (b : Bool) → task_at eq qs q ≡ cond b (Some g) (task_at eq ps q) → (t : Held K V) × (task_at eq qs q ≡ Some t)
      by_test q r e true t = (g, t)
      by_test q r e false t = (r, t ∙ e)

  module _ (d : DeskSeen K V) (ts : List (ℕ × List (K × Share K (Held K V)))) (es : List (K × Stored K V)) (s : Seen K V) (x : SessionsSeen K) (st : CoreStands eq m (core_of d ts es s x)) (v : ℕ) where
    -- at the version of a ready task a transaction is open
    pub next_open : (k : K) (ps : List (ℕ × K)) → d.ready ≡ ps ++ (v, k) ∷ [] → 0 < open_count (reverse d.events) v
    next_open k ps e = by_held (task_at eq (table_at ts v) k) refl
      where
        passes : is_ready (tasks_of eq (table_at ts v) k) ≡ true
        passes = st.rests.ready.passes (v, k) (subst (λ xs. Has xs (v, k)) (sym e) (has_end ps (v, k)))

        by_held : (o : Option (Held K V)) → task_at eq (table_at ts v) k ≡ o → 0 < open_count (reverse d.events) v
        by_held None i = absurd (let y : false ≡ true = sym (ap (λ (z : Option (Held K V)). is_ready (option_map task_of z)) i) ∙ passes in (let z : ⊥ = cc in z))
        by_held (Some h) i = open_by_task eq equality m law (core_of d ts es s x) st v k h i

    -- the desk knows the tasks of v
    pub knows_at : Knows eq v (table_at ts v) d
    knows_at = working_knows eq equality m v [] (world_of eq ts) (owed x) (table_at ts v) d (working_in eq equality m law (core_of d ts es s x) st v)

    -- one task of v changed
    pub turned_stands : (k : K) (h g : Held K V) (us : List (ℕ × List (K × Share K (Held K V)))) (qs : List (K × Share K (Held K V))) (e : DeskSeen K V) → PutsTable v qs ts us → IsTurned eq k h g (table_at ts v) qs → e.events ≡ d.events → e.ended ≡ d.ended
        → ((w : World K V) (W : List K) (n : ℕ) → Working eq m v W w n (table_at ts v) d → Working eq m v W w n qs e) → CoreStands eq m (core_of e us es s x)
    turned_stands k h g us qs e put turned events ended kept =
        let hand = in_hand eq equality m law (core_of d ts es s x) st v (open_by_task eq equality m law (core_of d ts es s x) st v k h turned.was) in
        put_back_so eq equality m law (core_of d ts es s x) st v us qs e es s x put
        (turned_hand v k h g (table_at ts v) qs d e es s (world_of eq ts) (owed x) turned events ended (kept (world_of eq ts) [] (owed x) hand.working) hand)
        (subst (λ X. SessionsStand (reverse X) x) (sym events) st.sessions)
        (λ u l. st.tabled u (subst (λ X. 0 < open_count (reverse X) u) events l))

-- a job that is taken is of the version whose table was in hand
pub take_turned : {K V : Type 0} (eq : K → K → Bool) (m : Meaning K V) (ts us : List (ℕ × List (K × Share K (Held K V)))) (v : ℕ) (ps qs : List (K × Share K (Held K V))) (d e : DeskSeen K V) (o : Option (Assigned K V)) → table_at ts v ≡ ps → PutsTable v qs ts us → AreNamed eq v ps
    → IfSome o (λ j. TakesJob eq j.name.version j.name.key j ps qs d e) → IfSome o (λ j. Turned eq m j.name.version ts us (λ a b. TakesJob eq j.name.version j.name.key j a b d e))
take_turned eq m ts us v ps qs d e None found put named h = tt
take_turned eq m ts us v ps qs d e (Some j) found put named h =
    let same : j.name.version ≡ v = (named j.name.key (held_of j IsReady) h.table.was).0 in
    record {
      tasks = qs;
      put = subst (λ z. PutsTable z qs ts us) (sym same) put;
      turned = subst (λ a. TakesJob eq j.name.version j.name.key j a qs d e) (sym (ap (table_at ts) same ∙ found)) h;
    }

-- so the core stands after it
pub take_stands : {K V : Type 0} (eq : K → K → Bool) → IsEquality eq → (m : Meaning K V) → IsLawful m → (d e : DeskSeen K V) (ts us : List (ℕ × List (K × Share K (Held K V)))) (es : List (K × Stored K V)) (s : Seen K V) (x : SessionsSeen K) → CoreStands eq m (core_of d ts es s x)
    → (v : ℕ) (ps qs : List (K × Share K (Held K V))) (o : Option (Assigned K V)) → table_at ts v ≡ ps → PutsTable v qs ts us → IfSome o (λ j. TakesJob eq j.name.version j.name.key j ps qs d e)
    → IfSome o (λ j. (w : World K V) (W : List K) (n : ℕ) → Working eq m j.name.version W w n ps d → Working eq m j.name.version W w n qs e) → IfNone o ⊥ → CoreStands eq m (core_of e us es s x)
take_stands eq equality m law d e ts us es s x st v ps qs None found put h kept some = absurd some
take_stands eq equality m law d e ts us es s x st v ps qs (Some j) found put h kept some =
    let named : AreNamed eq v ps = subst (AreNamed eq v) found (st.named v) in
    let same : j.name.version ≡ v = (named j.name.key (held_of j IsReady) h.table.was).0 in
    let at : table_at ts j.name.version ≡ ps = ap (table_at ts) same ∙ found in
    turned_stands eq equality m law d ts es s x st j.name.version j.name.key (held_of j IsReady) (held_of j IsOut) us qs e (subst (λ z. PutsTable z qs ts us) (sym same) put)
    (subst (λ a. IsTurned eq j.name.key (held_of j IsReady) (held_of j IsOut) a qs) (sym at) h.table) h.desk.rest.events h.desk.rest.ended
    (λ w W n work. kept w W n (subst (λ a. Working eq m j.name.version W w n a d) at work))

module _ {K V : Type 0} (eq : K → K → Bool) (equality : IsEquality eq) (m : Meaning K V) (law : IsLawful m) where
  -- a job that comes back, or is handed back: so the core stands after it
  pub back_stands : (j : Assigned K V) (d e : DeskSeen K V) (ts us : List (ℕ × List (K × Share K (Held K V)))) (es : List (K × Stored K V)) (s : Seen K V) (x : SessionsSeen K) → CoreStands eq m (core_of d ts es s x) → (ps qs : List (K × Share K (Held K V))) → {Y : Type 0} (o : Option Y) (B : Y → Type 0)
      → table_at ts j.name.version ≡ ps → PutsTable j.name.version qs ts us → IfSome o (λ y. B y × (e ≡ d) × KeepsTable eq ps qs) → IfNone o (ReturnsJob eq j.name.version j.name.key j j ps qs d e)
      → IfNone o ((w : World K V) (W : List K) (n : ℕ) → Working eq m j.name.version W w n ps d → Working eq m j.name.version W w n qs e) → CoreStands eq m (core_of e us es s x)
  back_stands j d e ts us es s x st ps qs (Some y) B found put same back kept =
      subst (λ z. CoreStands eq m (core_of z us es s x)) (sym same.1)
      (stands_same eq equality m law (core_of d ts es s x) (core_of d us es s x) (kept_stands eq d ts es s x j.name.version us qs put (subst (λ a. KeepsTable eq a qs) (sym found) same.2)) st)
  back_stands j d e ts us es s x st ps qs None B found put same back kept =
      turned_stands eq equality m law d ts es s x st j.name.version j.name.key (held_of j IsOut) (held_of j IsReady) us qs e put
      (subst (λ a. IsTurned eq j.name.key (held_of j IsOut) (held_of j IsReady) a qs) (sym found) back.table) back.desk.rest.events back.desk.rest.ended
      (λ w W n work. kept w W n (subst (λ a. Working eq m j.name.version W w n a d) found work))

  -- tasks that are given up: so the core stands after it
  pub failed_stands : (d e : DeskSeen K V) (ts us : List (ℕ × List (K × Share K (Held K V)))) (es : List (K × Stored K V)) (s : Seen K V) (x : SessionsSeen K) → CoreStands eq m (core_of d ts es s x) → (v : ℕ) (k : K) (h : Held K V) (ps qs : List (K × Share K (Held K V)))
      → table_at ts v ≡ ps → PutsTable v qs ts us → task_at eq ps k ≡ Some h → WorksOn v d.events e.events
      → ((w : World K V) (n : ℕ) (fs : List (K × Stored K V)) (t : Seen K V) → AtHand eq m v w n ps d fs t → AtHand eq m v w n qs e fs t) → CoreStands eq m (core_of e us es s x)
  failed_stands d e ts us es s x st v k h ps qs found put there works kept =
      let at : task_at eq (table_at ts v) k ≡ Some h = ap (λ a. task_at eq a k) found ∙ there in
      let hand = in_hand eq equality m law (core_of d ts es s x) st v (open_by_task eq equality m law (core_of d ts es s x) st v k h at) in
      worked_stands eq equality m law d ts es s x st v us qs e es put works (kept (world_of eq ts) (owed x) es s (subst (λ a. AtHand eq m v (world_of eq ts) (owed x) a d es s) found hand))

  -- a version at which a job is out may be in hand
  pub hand_there : (d : DeskSeen K V) (ts : List (ℕ × List (K × Share K (Held K V)))) (es : List (K × Stored K V)) (s : Seen K V) (x : SessionsSeen K) → CoreStands eq m (core_of d ts es s x) → (v : ℕ) (k : K) (h : Held K V) (ps : List (K × Share K (Held K V))) → table_at ts v ≡ ps → task_at eq (table_at ts v) k ≡ Some h
      → AtHand eq m v (world_of eq ts) (owed x) ps d es s
  hand_there d ts es s x st v k h ps found there = subst (λ a. AtHand eq m v (world_of eq ts) (owed x) a d es s) found (in_hand eq equality m law (core_of d ts es s x) st v (open_by_task eq equality m law (core_of d ts es s x) st v k h there))

-- nothing changed at all
pub unchanged : {K V : Type 0} (eq : K → K → Bool) (c : CoreSeen K V) → IsAsBefore eq c c
unchanged eq c = record {
  hands = record { events = refl; ready = refl; out = refl; live = refl; ended = refl };
  room = record { spare = below c.desk.spare; ready = below c.desk.ready_room; live = below c.desk.live_room };
  tasks = λ u q. refl;
  live = λ u q. refl;
  asks = λ u q a. refl;
  tabled = λ u h. h;
  entries = refl;
  cells = λ k. refl;
  newest = refl;
  sessions = same_sessions c.sessions;
}
  where
    below : (n : ℕ) → n ≤ n
    below n = omega arith

module _ {K V : Type 0} (eq : K → K → Bool) where
  -- a job that is handed back leaves all as it was
  pub back_same_core : {Y : Type 0} (j : Assigned K V) (d e : DeskSeen K V) (ts us : List (ℕ × List (K × Share K (Held K V)))) (ps qs : List (K × Share K (Held K V))) (o : Option Y) (B : Y → Type 0) → table_at ts j.name.version ≡ ps → PutsTable j.name.version qs ts us
      → IfSome o (λ y. B y × (e ≡ d) × KeepsTable eq ps qs) → IfSome o (λ y. task_at eq ps j.name.key ≡ Some (held_of j IsOut) → ⊥)
      → IfSome o (λ y. B y × ((es : List (K × Stored K V)) (s : Seen K V) (x : SessionsSeen K) → IsAsBefore eq (core_of d ts es s x) (core_of e us es s x)) × (task_at eq (table_at ts j.name.version) j.name.key ≡ Some (held_of j IsOut) → ⊥))
  back_same_core j d e ts us ps qs None B found put same other = tt
  back_same_core j d e ts us ps qs (Some y) B found put same other = (
    same.0,
    λ es s x. subst (λ z. IsAsBefore eq (core_of d ts es s x) (core_of z us es s x)) (sym same.1) (kept_stands eq d ts es s x j.name.version us qs put (subst (λ a. KeepsTable eq a qs) (sym found) same.2)),
    λ out. other (ap (λ a. task_at eq a j.name.key) (sym found) ∙ out),
  )

  -- that it came back
  pub back_turned : (m : Meaning K V) {Y : Type 0} (j : Assigned K V) (d e : DeskSeen K V) (ts us : List (ℕ × List (K × Share K (Held K V)))) (ps qs : List (K × Share K (Held K V))) (o : Option Y) → table_at ts j.name.version ≡ ps → PutsTable j.name.version qs ts us
      → IfNone o (ReturnsJob eq j.name.version j.name.key j j ps qs d e) → IfNone o (Turned eq m j.name.version ts us (λ a b. ReturnsJob eq j.name.version j.name.key j j a b d e))
  back_turned m j d e ts us ps qs (Some y) found put back = tt
  back_turned m j d e ts us ps qs None found put back = record { tasks = qs; put = put; turned = subst (λ a. ReturnsJob eq j.name.version j.name.key j j a qs d e) (sym found) back }

  -- nothing is told of a job that comes back
  pub back_events : {Y : Type 0} (j : Assigned K V) (d e : DeskSeen K V) (ps qs : List (K × Share K (Held K V))) (o : Option Y) (B : Y → Type 0) → IfSome o (λ y. B y × (e ≡ d) × KeepsTable eq ps qs) → IfNone o (ReturnsJob eq j.name.version j.name.key j j ps qs d e) → e.events ≡ d.events
  back_events j d e ps qs (Some y) B h back = ap (λ (z : DeskSeen K V). z.events) h.1
  back_events j d e ps qs None B h back = back.desk.rest.events

  -- the task that was found, by its version and key
  pub held_found : (ts : List (ℕ × List (K × Share K (Held K V)))) (u v : ℕ) (k l : K) (ps : List (K × Share K (Held K V))) (o : Option (Held K V)) → u ≡ v → k ≡ l → lookup (nat_eq u) ts ≡ Some ps → task_at eq ps k ≡ o → task_at eq (table_at ts v) l ≡ o
  held_found ts u v k l ps o at key found there = subst (λ z. task_at eq (table_at ts z) l ≡ o) at (subst (λ z. task_at eq (table_at ts u) z ≡ o) key (ap (λ a. task_at eq a k) (table_found ts u ps found) ∙ there))

  pub held_missing : (ts : List (ℕ × List (K × Share K (Held K V)))) (u v : ℕ) (l : K) → u ≡ v → lookup (nat_eq u) ts ≡ None → task_at eq (table_at ts v) l ≡ None
  held_missing ts u v l at none = subst (λ z. task_at eq (table_at ts z) l ≡ None) at (ap (λ (o : Option (List (K × Share K (Held K V)))). task_at eq (unwrap_or o []) l) none)

-- a test of what was found
pub found_iff : {H : Type 0} (b : Bool) (o : Option H) (t h : H) → o ≡ Some t → (IsTrue b ↔ (t ≡ h)) → IsTrue b ↔ (o ≡ Some h)
found_iff b o t h e f = (λ i. e ∙ ap Some (f.0 i), λ g. f.1 (let x : Some t ≡ Some h = sym e ∙ g in cc))

pub none_iff : {H : Type 0} (o : Option H) (h : H) → o ≡ None → IsTrue false ↔ (o ≡ Some h)
none_iff o h e = (λ i. (let x : false ≡ true = i in cc), λ g. (let x : None ≡ Some h = sym e ∙ g in cc))

-- a phase that is out
pub phase_out : {K V : Type 0} (a : Assigned K V) (p : Phase K) → out_in (held_of a p).standing ≡ true → p ≡ IsOut
phase_out a IsReady e = let x : false ≡ true = e in cc
phase_out a IsOut e = refl
phase_out a (IsWaiting ks) e = let x : false ≡ true = e in cc

pub job_named : {K V : Type 0} (eq : K → K → Bool) (n : Name K) (ps : List (K × Share K (Held K V))) (t : Held K V) (a : Assigned K V) (p : Phase K) (b : Bool) → task_at eq ps n.key ≡ Some t → t ≡ held_of a p → out_in t.standing ≡ true → (IsTrue b ↔ (a.name ≡ n)) → IsTrue b ↔ IsJobNamed eq n ps
job_named {K} {V} eq n ps t a p b there is out same = (
  λ i. (a, there ∙ (ap Some is ∙ ap (λ q. Some (held_of a q)) (phase_out a p (subst (λ (z : Held K V). out_in z.standing ≡ true) is out))), same.0 i),
  λ w. same.1 (let x : Some (held_of a p) ≡ Some (held_of w.0 IsOut) = sym (there ∙ ap Some is) ∙ w.1 in let y : held_of a p ≡ held_of w.0 IsOut = cc in ap (λ (z : Held K V). z.name) y ∙ w.2),
)
