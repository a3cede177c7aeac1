-- A transaction that is opened, and an ask that is left, over all versions.
use Rattle.std.proofs.Common.{◌≡◌, ◌<◌, ◌+◌, ◌++◌, ℕ, Bool, true, false, cond, nat_eq, eqb, List, [], ◌∷◌, length, map, reverse, Option, Some, None, is_some, unwrap_or, refl, sym, ap, ◌∙◌, subst, arith, append_assoc}
use Rattle.std.specs.Map.{lookup}
use Rattle.std.specs.Option.{option_map}
use Rattle.std.proofs.lemmas.Bool.{eqb-true}
use Rattle.dice_key.specs.Meaning.{Meaning}
use Rattle.dice_key.specs.Lawful.{IsEquality, IsLawful}
use Rattle.task_share.specs.Seen.{Share, task_at, is_live, asks, asked_of}
use Rattle.injected.specs.Seen.{Seen}
use Rattle.journal.specs.declared.event.Told.{Told}
use Rattle.journal.specs.declared.event.Told.TheVariants.{Open, Leave, Drop}
use Rattle.journal.specs.Events.{Opened, Asking, one_if, open_at, opened_at, open_count, live_at}
use Rattle.versioned_graph.specs.Entries.{Stored}
use Rattle.core_laws.specs.Desk.{World, Rests, AreAll, is_out}
use Rattle.journal.proofs.Indices.{opened_counts}
use Rattle.core_laws.proofs.Opens.{there_open}
use Rattle.core_laws.proofs.StepsRests.{rests_open}
use Rattle.dice_core.specs.Askings.{DropsAfter, StaysAtHand}
use Rattle.dice_steps.specs.AtHand.{AtHand}
use Rattle.dice_steps.specs.Cells.{CellsStand}
use Rattle.dice_tasks.specs.Entries.{EntriesStand}
use Rattle.dice_tasks.specs.Hands.{DeskSeen, desk_of, tasks_of, with_event, KeepsHands, KeepsDeskRoom, HasDeskRoom}
use Rattle.dice_tasks.specs.Helds.{Held}
use Rattle.dice_core.specs.Sessions.{SessionSeen, SessionsSeen, opened_of, session_at, transaction_at, ask_at, owed, IsSame, Leaves, SessionsStand}
use Rattle.dice_core.specs.Cores.{table_at, has_table, world_of, core_of, PutsTable, Turned, IsAsBefore, KeepsTasksOf, CoreStands, WorksOn}
use Rattle.dice_core.proofs.CoreLemmas.{in_hand, put_back_so}
use Rattle.dice_tasks.proofs.EndsLemmas.{back_more}
use Rattle.dice_tasks.proofs.EntriesLemmas.{stand_open}
use Rattle.dice_core.proofs.EventLemmas.{all_drops, all_works, sessions_works, count_works}
use Rattle.dice_core.proofs.SessionLemmas.{asking_opened}

-- other asks and transactions of the sessions are as they were
pub same_sessions : {K : Type 0} (x : SessionsSeen K) → IsSame x x
same_sessions x = record { transactions = λ i. refl; asks = λ i. refl; among = λ t i. refl; epochs = refl; owed = refl }

module _ {K V : Type 0} (eq : K → K → Bool) where
  -- tables with the same tasks
  pub as_before : (d e : DeskSeen K V) (ts us : List (ℕ × List (K × Share K (Held K V)))) (es : List (K × Stored K V)) (s : Seen K V) (x y : SessionsSeen K) → KeepsHands d e → KeepsDeskRoom d e → ((v : ℕ) → table_at us v ≡ table_at ts v) → ((v : ℕ) → has_table ts v ≡ true → has_table us v ≡ true) → IsSame x y
      → IsAsBefore eq (core_of d ts es s x) (core_of e us es s y)
  as_before d e ts us es s x y hands room tables tabled sessions = record {
    hands = hands;
    room = room;
    tasks = λ v q. ap (λ ps. task_at eq ps q) (tables v);
    live = λ v q. ap (λ ps. is_live eq ps q) (tables v);
    asks = λ v q a. ap (λ ps. asks eq ps q a) (tables v);
    tabled = tabled;
    entries = refl;
    cells = λ k. refl;
    newest = refl;
    sessions = sessions;
  }

  pub keeps_tables : (d e : DeskSeen K V) (ts us : List (ℕ × List (K × Share K (Held K V)))) (es fs : List (K × Stored K V)) (s t : Seen K V) (x y : SessionsSeen K) → e.ready ≡ d.ready → e.out ≡ d.out → ((v : ℕ) → table_at us v ≡ table_at ts v)
      → KeepsTasksOf eq (core_of d ts es s x) (core_of e us fs t y)
  keeps_tables d e ts us es fs s t x y ready out tables = record {
    tasks = λ v q. ap (λ ps. task_at eq ps q) (tables v);
    asks = λ v q a. ap (λ ps. asks eq ps q a) (tables v);
    ready = ready;
    out = out;
  }

module _ {K V : Type 0} (eq : K → K → Bool) (equality : IsEquality eq) (m : Meaning K V) (law : IsLawful m) where
  pub same_tables : (ts us : List (ℕ × List (K × Share K (Held K V)))) → ((v : ℕ) → table_at us v ≡ table_at ts v) → world_of eq us ≡ world_of eq ts
  same_tables ts us same = λ i. record { asked = λ v. asked_of eq (same v i); tasks = λ v. tasks_of eq (same v i) }

  -- a transaction is opened at the newest version
  pub opened_stands : (by n index : ℕ) (d f : DeskSeen K V) (ts us : List (ℕ × List (K × Share K (Held K V)))) (es : List (K × Stored K V)) (s : Seen K V) (x y : SessionsSeen K) → CoreStands eq m (core_of d ts es s x) → KeepsHands d f → HasDeskRoom (owed x) 2 0 f
      → world_of eq us ≡ world_of eq ts → ((v : ℕ) → table_at us v ≡ table_at ts v) → ((v : ℕ) → has_table ts v ≡ true → has_table us v ≡ true) → has_table us n ≡ true → owed y ≡ owed x + 1 → SessionsStand (Open by n ∷ reverse d.events) y → s.last ≡ n
      → CoreStands eq m (core_of (with_event f (Open by n)) us es s y)
  opened_stands by n index d f ts us es s x y st hands room world tables stays placed owes stands newest = record {
    rests = subst (λ S. Rests eq m S (world_of eq us) (desk_of (with_event f (Open by n))) (owed y)) (sym past)
        (subst (λ (w : World K V). Rests eq m (Open by n ∷ R) w (desk_of (with_event f (Open by n))) (owed y)) (sym world)
        (rests_open eq equality m law R (world_of eq ts) (desk_of d) (desk_of (with_event f (Open by n))) (owed x) (owed y) st.rests (record { ready = hands.ready; out = ap length hands.out; live = hands.live })
        (let r = room.spare in let o = owes in omega arith) by n (sym newest ∙ st.cells.newest)).1);
    outs = subst (λ (w : World K V). AreAll (λ (p : ℕ × K). is_out (w.tasks p.0 p.1)) f.out) (sym world) (subst (λ xs. AreAll (λ (p : ℕ × K). is_out ((world_of eq ts).tasks p.0 p.1)) xs) (sym hands.out) st.outs);
    named = λ v k h e. st.named v k h (ap (λ ps. task_at eq ps k) (sym (tables v)) ∙ e);
    told = hands.ended ∙ st.told;
    entries = subst (λ S. EntriesStand eq m S es) (sym past) (stand_open eq m R es st.entries by n);
    cells = subst (λ S. CellsStand eq S s) (sym past) (record { are = st.cells.are; newest = st.cells.newest });
    sessions = subst (λ S. SessionsStand S y) (sym past) stands;
    tabled = λ v l. tabled v (subst (λ S. 0 < open_count S v) past l);
  }
    where
      R : List (Told K V)
      R = reverse d.events

      past : reverse (f.events ++ Open by n ∷ []) ≡ Open by n ∷ R
      past = back_more f.events (Open by n) ∙ ap (λ z. Open by n ∷ reverse z) hands.events

      tabled : (v : ℕ) → 0 < open_count R v + one_if (eqb n v) → has_table us v ≡ true
      tabled v l = by_test (eqb n v) refl l
        where
          by_test : (b : Bool) → eqb n v ≡ b → 0 < open_count R v + one_if b → has_table us v ≡ true
          by_test true e i = subst (λ z. has_table us z ≡ true) (eqb-true n v e) placed
          by_test false e i = stays v (st.tabled v (let j : one_if false ≡ 0 = refl in omega arith))

  -- an ask is left
  module _ (v by i : ℕ) (ks : List K) (a : Asking K) (d e : DeskSeen K V) (ts us : List (ℕ × List (K × Share K (Held K V)))) (es : List (K × Stored K V)) (s : Seen K V) (x y : SessionsSeen K) (st : CoreStands eq m (core_of d ts es s x)) (at : opened_at (reverse d.events) v a.opened ≡ true) where
    open_there : 0 < open_count (reverse d.events) v
    open_there = opened_counts eq m (reverse d.events) v a.opened st.rests.lawful at

    pub left_hand : owed y + 1 ≡ owed x → AtHand eq m v (world_of eq ts) (owed y + 1) (table_at ts v) d es s
    left_hand less = subst (λ n. AtHand eq m v (world_of eq ts) n (table_at ts v) d es s) (sym less) (in_hand eq equality m law (core_of d ts es s x) st v open_there)

    pub left_stands : (qs : List (K × Share K (Held K V))) → PutsTable v qs ts us → DropsAfter eq v (Leave by i ∷ []) ks (table_at ts v) qs d e → StaysAtHand eq m v 1 (table_at ts v) d qs e → owed y + 1 ≡ owed x → SessionsStand (Leave by i ∷ reverse d.events) y
        → CoreStands eq m (core_of e us es s y)
    left_stands qs put drops stays less stands = put_back_so eq equality m law (core_of d ts es s x) st v us qs e es s y put
        (stays (world_of eq ts) (owed y) es s (left_hand less))
        (sessions_works v (d.events ++ Leave by i ∷ []) e.events y works (subst (λ S. SessionsStand S y) (sym (back_more d.events (Leave by i))) stands))
        (λ u l. st.tabled u (subst (λ n. 0 < n) (count_works v (d.events ++ Leave by i ∷ []) e.events u works ∙ ap (λ S. open_count S u) (back_more d.events (Leave by i))) l))
      where
        works : WorksOn v (d.events ++ Leave by i ∷ []) e.events
        works = (map (Drop v) ks, drops.events ∙ sym (append_assoc d.events (Leave by i ∷ []) (map (Drop v) ks)), all_works v (map (Drop v) ks) (all_drops V v ks))

-- an empty table was put if there was none
module _ {K V : Type 0} (ts us : List (ℕ × List (K × Share K (Held K V)))) (n : ℕ) (t : List (K × Share K (Held K V))) (empty : t ≡ []) (none : is_some (lookup (nat_eq n) ts) ≡ false) (put : (q : ℕ) → lookup (nat_eq q) us ≡ cond (nat_eq n q) (Some t) (lookup (nat_eq q) ts)) where
  none_is : (o : Option (List (K × Share K (Held K V)))) → is_some o ≡ false → unwrap_or o [] ≡ []
  none_is None e = refl
  none_is (Some x) e = let c : true ≡ false = e in cc

  pub placed_same : (v : ℕ) → table_at us v ≡ table_at ts v
  placed_same v = ap (λ (o : Option (List (K × Share K (Held K V)))). unwrap_or o []) (put v) ∙ by_test (nat_eq n v) refl
    where
      by_test : (b : Bool) → nat_eq n v ≡ b → unwrap_or (cond b (Some t) (lookup (nat_eq v) ts)) [] ≡ table_at ts v
      by_test true e = empty ∙ sym (subst (λ z. table_at ts z ≡ []) (eqb-true n v e) (none_is (lookup (nat_eq n) ts) none))
      by_test false e = refl

  pub placed_stays : (v : ℕ) → has_table ts v ≡ true → has_table us v ≡ true
  placed_stays v h = ap is_some (put v) ∙ by_test (nat_eq n v)
    where
      by_test : (b : Bool) → is_some (cond b (Some t) (lookup (nat_eq v) ts)) ≡ true
      by_test true = refl
      by_test false = h

-- the session that is found has the version of its transaction
pub session_version : {K : Type 0} (y : SessionsSeen K) (t : ℕ) (o : Opened) (z : SessionSeen) → transaction_at y t ≡ Some o → session_at y t ≡ Some z → o.version ≡ z.version
session_version y t o z e f = let g : Some (opened_of z) ≡ Some o = sym (ap (option_map opened_of) f) ∙ e in let h : opened_of z ≡ o = cc in ap (λ (p : Opened). p.version) (sym h)

pub no_session : {K : Type 0} (y : SessionsSeen K) (t : ℕ) (o : Opened) → transaction_at y t ≡ Some o → session_at y t ≡ None → ⊥
no_session y t o e f = let g : None ≡ Some o = sym (ap (option_map opened_of) f) ∙ e in cc

module _ {K V : Type 0} where
  -- an ask that is left was in an open transaction, which stays
  pub left_session : (R : List (Told K V)) (i : ℕ) (a : Asking K) (x y : SessionsSeen K) → SessionsStand R x → ask_at x i ≡ Some a → Leaves i a x y → (o : Opened) × (transaction_at y a.opened ≡ Some o) × (open_at R a.opened ≡ Some o) × (live_at R i ≡ Some a)
  left_session R i a x y st e l = let w = asking_opened R x i a st e in (w.0, l.transactions a.opened ∙ w.1, sym (st.transactions a.opened) ∙ w.1, sym (st.asks i) ∙ e)

  -- at the version of its session
  pub leave_at : (R : List (Told K V)) (i : ℕ) (a : Asking K) (x y : SessionsSeen K) (z : SessionSeen) (t v : ℕ) → SessionsStand R x → ask_at x i ≡ Some a → Leaves i a x y → t ≡ a.opened → session_at y t ≡ Some z → v ≡ z.version
      → (o : Opened) × (live_at R i ≡ Some a) × (open_at R a.opened ≡ Some o) × (o.version ≡ v) × (opened_at R v a.opened ≡ true)
  leave_at R i a x y z t v st e l same found at =
      let w = left_session R i a x y st e l in
      let version : w.0.version ≡ v = session_version y a.opened w.0 z w.1 (subst (λ n. session_at y n ≡ Some z) same found) ∙ sym at in
      (w.0, w.3, w.2, version, there_open R v a.opened w.0 w.2 version)

  -- if no session is found nothing was asked
  pub leave_none : (R : List (Told K V)) (i : ℕ) (a : Asking K) (x y : SessionsSeen K) (t : ℕ) → SessionsStand R x → ask_at x i ≡ Some a → Leaves i a x y → t ≡ a.opened → session_at y t ≡ None → ⊥
  leave_none R i a x y t st e l same none = let w = left_session R i a x y st e l in no_session y a.opened w.0 w.1 (subst (λ n. session_at y n ≡ None) same none)

-- what is told when an ask is left
pub left_log : {K V : Type 0} (eq : K → K → Bool) (m : Meaning K V) (R : List (Told K V)) (v by i : ℕ) (a : Asking K) (o : Opened) (ks : List K) (d e : DeskSeen K V) (ts us : List (ℕ × List (K × Share K (Held K V)))) (ps qs : List (K × Share K (Held K V)))
    → live_at R i ≡ Some a → open_at R a.opened ≡ Some o → o.version ≡ v → by ≡ a.by → table_at ts v ≡ ps → PutsTable v qs ts us → DropsAfter eq v (Leave by i ∷ []) ks ps qs d e
    → (b : Asking K) × (p : Opened) × (ls : List K) × (live_at R i ≡ Some b) × (open_at R b.opened ≡ Some p) × Turned eq m p.version ts us (λ x y. DropsAfter eq p.version (Leave b.by i ∷ []) ls x y d e)
left_log eq m R v by i a o ks d e ts us ps qs live op at his found put drops = (
  a,
  o,
  ks,
  live,
  op,
  subst (λ z. Turned eq m z ts us (λ x y. DropsAfter eq z (Leave a.by i ∷ []) ks x y d e)) (sym at) (record {
    tasks = qs;
    put = put;
    turned = subst (λ n. DropsAfter eq v (Leave n i ∷ []) ks (table_at ts v) qs d e) his (subst (λ x. DropsAfter eq v (Leave by i ∷ []) ks x qs d e) (sym found) drops);
  }),
)
