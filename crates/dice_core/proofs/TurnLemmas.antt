-- A version that was in hand is put back after events of its tasks.
use Rattle.std.proofs.Common.{◌≡◌, ◌<◌, ◌+◌, ◌++◌, ℕ, Bool, true, false, cond, eqb, List, [], ◌∷◌, reverse, Some, refl, sym, ap, ◌∙◌, subst, append_assoc}
use Rattle.std.specs.List.{AllByRecursion}
use Rattle.dice_key.specs.Meaning.{Meaning}
use Rattle.dice_key.specs.Lawful.{IsEquality, IsLawful}
use Rattle.std.proofs.lemmas.Bool.{eqb-true}
use Rattle.std.specs.Option.{option_map}
use Rattle.task_share.specs.Asked.{By}
use Rattle.task_share.specs.Seen.{Share, task_at, is_live, asks}
use Rattle.injected.specs.Seen.{Seen}
use Rattle.journal.specs.declared.event.Told.{Told}
use Rattle.journal.specs.declared.event.Told.TheVariants.{Ask, Start, Keep}
use Rattle.journal.specs.Events.{Opened, open_at, open_count}
use Rattle.versioned_graph.specs.Entries.{Stored}
use Rattle.journal.proofs.Indices.{opened_counts}
use Rattle.core_laws.proofs.Opens.{there_open}
use Rattle.dice_steps.specs.AtHand.{AtHand}
use Rattle.dice_tasks.specs.Hands.{DeskSeen}
use Rattle.dice_tasks.specs.Helds.{Held}
use Rattle.dice_core.specs.Joinings.{IsToldOfMake, AsksForKey, KeepsAtHand}
use Rattle.dice_tasks.specs.Makings.{IsOfMake}
use Rattle.dice_core.specs.Sessions.{SessionSeen, SessionsSeen, opened_of, session_at, owed, IsSame, SessionsStand}
use Rattle.dice_core.specs.Cores.{table_at, world_of, core_of, PutsTable, Turned, IsAsBefore, CoreStands, IsWorkAt, WorksOn}
use Rattle.dice_core.proofs.CoreLemmas.{in_hand, put_back_so, table_put, has_put}
use Rattle.dice_tasks.proofs.EndsLemmas.{back_more}
use Rattle.dice_core.proofs.EventLemmas.{sessions_works, count_works}

module _ {K V : Type 0} (v : ℕ) (k : K) where
  -- what is told of a task that is made, is of a task at v
  made_work : (e : Told K V) → IsOfMake v k e → IsWorkAt v e
  made_work (Start w q c) h = h.0
  made_work (Keep w q b) h = h.0
  made_work _ h = absurd h

  pub made_works : (es : List (Told K V)) → IsToldOfMake v k es → AllByRecursion (IsWorkAt v) es
  made_works [] h = tt
  made_works (e ∷ []) h = (made_work e h, tt)
  made_works (e ∷ f ∷ es) h = absurd h

module _ {K V : Type 0} (eq : K → K → Bool) (equality : IsEquality eq) (m : Meaning K V) (law : IsLawful m) (d : DeskSeen K V) (ts : List (ℕ × List (K × Share K (Held K V)))) (es : List (K × Stored K V)) (s : Seen K V) (x : SessionsSeen K) (st : CoreStands eq m (core_of d ts es s x)) (v : ℕ) where
  -- a transaction at v is open
  pub opened_some : (t : ℕ) (o : Opened) → open_at (reverse d.events) t ≡ Some o → o.version ≡ v → 0 < open_count (reverse d.events) v
  opened_some t o e at = opened_counts eq m (reverse d.events) v t st.rests.lawful (there_open (reverse d.events) v t o e at)

  module _ (us : List (ℕ × List (K × Share K (Held K V)))) (qs : List (K × Share K (Held K V))) (e : DeskSeen K V) (fs : List (K × Stored K V)) (put : PutsTable v qs ts us) where
    -- after events of tasks at v
    pub worked_stands : WorksOn v d.events e.events → AtHand eq m v (world_of eq ts) (owed x) qs e fs s → CoreStands eq m (core_of e us fs s x)
    worked_stands works hand = put_back_so eq equality m law (core_of d ts es s x) st v us qs e fs s x put hand
        (sessions_works v d.events e.events x works st.sessions)
        (λ u l. st.tabled u (subst (λ n. 0 < n) (count_works v d.events e.events u works) l))

    -- after an Ask, and events of tasks at v
    pub asked_stands : (by t : ℕ) (k : K) (y : SessionsSeen K) → AsksForKey eq m v by t k (table_at ts v) qs es fs d e → AtHand eq m v (world_of eq ts) (owed y) qs e fs s → SessionsStand (Ask by t k ∷ reverse d.events) y → CoreStands eq m (core_of e us fs s y)
    asked_stands by t k y asks hand stands = put_back_so eq equality m law (core_of d ts es s x) st v us qs e fs s y put hand
        (sessions_works v (d.events ++ Ask by t k ∷ []) e.events y works (subst (λ S. SessionsStand S y) (sym (back_more d.events (Ask by t k))) stands))
        (λ u l. st.tabled u (subst (λ n. 0 < n) (count_works v (d.events ++ Ask by t k ∷ []) e.events u works ∙ ap (λ S. open_count S u) (back_more d.events (Ask by t k))) l))
      where
        works : WorksOn v (d.events ++ Ask by t k ∷ []) e.events
        works = (asks.made, asks.events ∙ sym (append_assoc d.events (Ask by t k ∷ []) asks.made), made_works v k asks.made asks.told)

module _ {K V : Type 0} where
  -- the session that is found is that of an open transaction
  pub session_open : (R : List (Told K V)) (x : SessionsSeen K) (t : ℕ) (z : SessionSeen) (v : ℕ) → SessionsStand R x → session_at x t ≡ Some z → v ≡ z.version → (open_at R t ≡ Some (opened_of z)) × ((opened_of z).version ≡ v)
  session_open R x t z v st e at = (sym (st.transactions t) ∙ ap (option_map opened_of) e, sym at)

module _ {K V : Type 0} (eq : K → K → Bool) (equality : IsEquality eq) (m : Meaning K V) (law : IsLawful m) (d : DeskSeen K V) (ts : List (ℕ × List (K × Share K (Held K V)))) (es : List (K × Stored K V)) (s : Seen K V) (x : SessionsSeen K) (st : CoreStands eq m (core_of d ts es s x)) (v t : ℕ) (o : Opened) (op : open_at (reverse d.events) t ≡ Some o) (at : o.version ≡ v) (ps : List (K × Share K (Held K V))) (found : table_at ts v ≡ ps) (n : ℕ) (owes : n ≡ owed x) where
  -- the version of an open transaction may be in hand
  pub hand_open : AtHand eq m v (world_of eq ts) n ps d es s
  hand_open = subst (λ a. AtHand eq m v (world_of eq ts) n a d es s) found (subst (λ k. AtHand eq m v (world_of eq ts) k (table_at ts v) d es s) (sym owes) (in_hand eq equality m law (core_of d ts es s x) st v (opened_some eq equality m law d ts es s x st v t o op at)))

  -- a key was asked for there
  pub asked_in_stands : (us : List (ℕ × List (K × Share K (Held K V)))) (qs : List (K × Share K (Held K V))) (e : DeskSeen K V) (fs : List (K × Stored K V)) (by : ℕ) (k : K) (y : SessionsSeen K) → PutsTable v qs ts us → AsksForKey eq m v by t k ps qs es fs d e → owed y ≡ n + 1
      → (AtHand eq m v (world_of eq ts) n ps d es s → AtHand eq m v (world_of eq ts) (n + 1) qs e fs s) → SessionsStand (Ask by t k ∷ reverse d.events) y → CoreStands eq m (core_of e us fs s y)
  asked_in_stands us qs e fs by k y put asks more kept stands = asked_stands eq equality m law d ts es s x st v us qs e fs put by t k y (subst (λ a. AsksForKey eq m v by t k a qs es fs d e) (sym found) asks)
      (subst (λ i. AtHand eq m v (world_of eq ts) i qs e fs s) (sym more) (kept hand_open)) stands

-- what is told of the ask
pub asked_turned : {K V : Type 0} (eq : K → K → Bool) (m : Meaning K V) (R : List (Told K V)) (d e : DeskSeen K V) (ts us : List (ℕ × List (K × Share K (Held K V)))) (v by t : ℕ) (k : K) (o : Opened) (ps qs : List (K × Share K (Held K V))) (es fs : List (K × Stored K V)) → open_at R t ≡ Some o → o.version ≡ v → table_at ts v ≡ ps → PutsTable v qs ts us → AsksForKey eq m v by t k ps qs es fs d e
    → (p : Opened) × (open_at R t ≡ Some p) × Turned eq m p.version ts us (λ a b. AsksForKey eq m p.version by t k a b es fs d e)
asked_turned eq m R d e ts us v by t k o ps qs es fs op at found put asks = (o, op, subst (λ z. Turned eq m z ts us (λ a b. AsksForKey eq m z by t k a b es fs d e)) (sym at) (record { tasks = qs; put = put; turned = subst (λ a. AsksForKey eq m v by t k a qs es fs d e) (sym found) asks }))

-- a call on one version that changed nothing that is seen
pub kept_core : {K V : Type 0} (eq : K → K → Bool) (d e : DeskSeen K V) (ts us : List (ℕ × List (K × Share K (Held K V)))) (es : List (K × Stored K V)) (s : Seen K V) (x y : SessionsSeen K) (v : ℕ) (ps qs : List (K × Share K (Held K V))) → table_at ts v ≡ ps → PutsTable v qs ts us → KeepsAtHand eq ps qs d e → IsSame x y
    → IsAsBefore eq (core_of d ts es s x) (core_of e us es s y)
kept_core {K} {V} eq d e ts us es s x y v ps qs found put keeps same = record {
  hands = keeps.hands;
  room = keeps.room;
  tasks = λ u q. ap (λ a. task_at eq a q) (table_put ts us v qs put u) ∙ by_task u q (eqb u v) refl;
  live = λ u q. ap (λ a. is_live eq a q) (table_put ts us v qs put u) ∙ by_live u q (eqb u v) refl;
  asks = λ u q b. ap (λ a. asks eq a q b) (table_put ts us v qs put u) ∙ by_asks u q b (eqb u v) refl;
  tabled = λ u h. has_put ts us v qs put u h;
  entries = refl;
  cells = λ k. refl;
  newest = refl;
  sessions = same;
}
  where
    at : (u : ℕ) → eqb u v ≡ true → ps ≡ table_at ts u
    at u i = sym found ∙ ap (table_at ts) (sym (eqb-true u v i))

    by_task : (u : ℕ) (q : K) (b : Bool) → eqb u v ≡ b → task_at eq (cond b qs (table_at ts u)) q ≡ task_at eq (table_at ts u) q
    by_task u q true i = keeps.tasks q ∙ ap (λ a. task_at eq a q) (at u i)
    by_task u q false i = refl

    by_live : (u : ℕ) (q : K) (b : Bool) → eqb u v ≡ b → is_live eq (cond b qs (table_at ts u)) q ≡ is_live eq (table_at ts u) q
    by_live u q true i = keeps.live q ∙ ap (λ a. is_live eq a q) (at u i)
    by_live u q false i = refl

    by_asks : (u : ℕ) (q : K) (a : By K) (b : Bool) → eqb u v ≡ b → asks eq (cond b qs (table_at ts u)) q a ≡ asks eq (table_at ts u) q a
    by_asks u q a true i = keeps.asks q a ∙ ap (λ z. asks eq z q a) (at u i)
    by_asks u q a false i = refl
