-- A key that is asked for, with its version in hand.
use Rattle.std.proofs.Common.{◌≡◌, ◌≢◌, ◌<◌, ◌≤◌, inl, inr, ◌+◌, ◌-◌, ◌*◌, ℕ, suc, Bool, true, false, cond, not, ◌&&◌, ◌||◌, List, [], ◌∷◌, ◌++◌, length, reverse, Option, Some, None, refl, sym, ap, ◌∙◌, subst, arith, append_assoc, eq-eqb}
use Rattle.std.specs.List.{AllByRecursion}
use Rattle.std.specs.Map.{lookup}
use Rattle.std.proofs.lemmas.Bool.{and_from, or_left, or_right, or_cases, and_parts}
use Rattle.std.proofs.lemmas.List.{length-reverse}
use Rattle.std.proofs.lemmas.Option.{same_Some}
use Rattle.dice_jobs.specs.Jobs.{Assigned}
use Rattle.dice_key.specs.Meaning.{Meaning}
use Rattle.dice_key.specs.Lawful.{IsEquality, IsLawful}
use Rattle.dice_key.specs.declared.universe.Kind.TheVariants.{Injected}
use Rattle.task_share.specs.Asked.{By, Promised, Tasked, is_by, IsDone}
use Rattle.task_share.specs.Seen.{Share, is_for, takes_task, room_in, number_for, task_at, is_live, asks, asked_of, has_place, promise_room, KeepsTasks, KeepsAsks, UsesRoomOf}
use Rattle.injected.specs.Seen.{Seen}
use Rattle.journal.specs.declared.event.Told.{Told}
use Rattle.journal.specs.declared.event.Told.TheVariants.{Ask, Start, Keep}
use Rattle.journal.specs.Events.{open_count, commits_of}
use Rattle.journal.specs.Law.{IsWanted, IsLawfulBack}
use Rattle.journal.specs.Tell.{reason_of}
use Rattle.versioned_graph.specs.Entries.{Stored}
use Rattle.versioned_graph.specs.Looks.{Look, Matches, Computes, Checks}
use Rattle.core_laws.specs.Changes.{SameAsks, Joins}
use Rattle.core_laws.specs.Tasks.{Ended, IsOut, WithValue, WithNothing, is_going}
use Rattle.core_laws.specs.Stands.{VersionStands, IsAtRest}
use Rattle.core_laws.specs.Desk.{World, Stand, AreAll, IsCount, with_version, is_ready, is_out, ready_in}
use Rattle.core_laws.proofs.Held.{wanted_asked}
use Rattle.core_laws.proofs.Opens.{there_open, open_within}
use Rattle.core_laws.proofs.Shapes.{not_both, same_or_other}
use Rattle.core_laws.proofs.StepsAsks.{asked_stand}
use Rattle.core_laws.proofs.StepsWanted.{all_wanted_on_ask}
use Rattle.dice_steps.specs.AtHand.{AtHand}
use Rattle.dice_steps.specs.Cells.{CellsStand}
use Rattle.dice_core.specs.Cores.{IsWorkAt, WorksOn}
use Rattle.dice_tasks.specs.Endings.{AreTasked}
use Rattle.dice_tasks.specs.Entries.{EntriesStand}
use Rattle.dice_tasks.specs.Hands.{DeskSeen, desk_of, tasks_of, seen_world, with_event, Stays, KeepsHands, KeepsDeskRoom, HasDeskRoom, Working}
use Rattle.dice_tasks.specs.Helds.{Held, held_of, held_ended, works as work_of}
use Rattle.dice_core.specs.Joinings.{KeepsAtHand, IsMadeBy, AsksForKey, IsOpenAt}
use Rattle.dice_tasks.specs.Makings.{IsFree, HasTask, IsOfMake, MayMake, IsMaking, CanMake, IsMade, MakesAlone, held_run, held_check}
use Rattle.dice_tasks.specs.declared.making.Making.{Making}
use Rattle.dice_tasks.specs.declared.making.Making.TheVariants.{Join, Match, Run, Check}
use Rattle.dice_tasks.proofs.EndsLemmas.{back_more, same_tasks, same_table, working_knows}
use Rattle.dice_tasks.proofs.EntriesLemmas.{stand_ask}
use Rattle.dice_core.proofs.EventLemmas.{cells_works, count_works}
use Rattle.dice_tasks.proofs.MakeFrames.{can_make, made_has}
use Rattle.dice_tasks.proofs.MakeLemmas.{idle_at_hand}
use Rattle.lists.specs.Lists.{AreDistinct, Has}

-- room for a promise is at a place
pub place_of_room : {K T : Type 0} (eq : K → K → Bool) (ps : List (K × Share K T)) (k : K) → 0 < promise_room eq ps k → has_place eq ps k ≡ true
place_of_room {K} {T} eq ps k n = by_share (lookup (eq k) ps) n
  where
    by_bool : (b : Bool) (m : ℕ) → 0 < cond b m 0 → b ≡ true
    by_bool true m n = refl
    by_bool false m n = absurd (let z : 0 < 0 = n in omega arith)

    by_share : (o : Option (Share K T)) → 0 < number_for (room_in (λ p. p.promise_room)) o → is_for takes_task o ≡ true
    by_share None n = absurd (let z : 0 < 0 = n in omega arith)
    by_share (Some p) n = by_bool (takes_task p) p.promise_room n

has_there : {K V : Type 0} (o : Option (Held K V)) → HasTask o → (h : Held K V) × (o ≡ Some h)
has_there None h = absurd h
has_there (Some x) h = (x, refl)

module _ {K V : Type 0} (eq : K → K → Bool) where
  -- nothing has changed yet
  pub kept_self : (ps : List (K × Share K (Held K V))) (d : DeskSeen K V) → KeepsAtHand eq ps ps d d
  kept_self ps d = record {
    hands = record { events = refl; ready = refl; out = refl; live = refl; ended = refl };
    room = record { spare = omega arith; ready = omega arith; live = omega arith };
    tasks = λ q. refl;
    live = λ q. refl;
    asks = λ q a. refl;
  }

  pub kept_room : (ps qs : List (K × Share K (Held K V))) (d e : DeskSeen K V) → KeepsTasks eq ps qs → KeepsAsks eq ps qs → KeepsHands d e → KeepsDeskRoom d e → KeepsAtHand eq ps qs d e
  kept_room ps qs d e t a h r = record { hands = h; room = r; tasks = t.tasks; live = t.live; asks = a }

module _ {K V : Type 0} (eq : K → K → Bool) (equality : IsEquality eq) (m : Meaning K V) (law : IsLawful m) (v : ℕ) where
  -- what holds while a call works holds over the same tasks, and over a desk with the same hands and other room
  pub working_room : (w : World K V) (owed less : ℕ) (ps : List (K × Share K (Held K V))) (d e : DeskSeen K V) → KeepsHands d e → 2 * e.live + less ≤ e.spare → Working eq m v [] w owed ps d → Working eq m v [] w less ps e
  working_room w owed less ps d e h room work = record {
    stand = record {
      lawful = subst (λ R. IsLawfulBack eq m R) (sym past) st.lawful;
      here = subst (λ R. VersionStands eq m R v [] ((seen_world eq v ps w).asked v) ((seen_world eq v ps w).tasks v)) (sym past) st.here;
      there = λ n f. subst (λ R. IsAtRest eq m R n ((seen_world eq v ps w).asked n) ((seen_world eq v ps w).tasks n)) (sym past) (st.there n f);
      ready = subst (λ xs. AreAll (λ (p : ℕ × K). is_ready ((seen_world eq v ps w).tasks p.0 p.1)) xs) (sym h.ready) st.ready;
      out = subst (λ n. IsCount (λ (p : ℕ × K). is_out ((seen_world eq v ps w).tasks p.0 p.1)) n) (sym (ap length h.out)) st.out;
      live = subst (λ n. IsCount (λ (p : ℕ × K). is_going ((seen_world eq v ps w).tasks p.0 p.1)) n) (sym h.live) st.live;
      room = room;
    };
    outs = subst (λ xs. AreAll (λ (p : ℕ × K). is_out ((seen_world eq v ps w).tasks p.0 p.1)) xs) (sym h.out) work.outs;
    named = work.named;
    wanted = λ k l. subst (λ R. IsWanted eq m R v k) (sym past) (work.wanted k l);
  }
    where
      past : reverse e.events ≡ reverse d.events
      past = ap reverse h.events

      st : Stand eq m (reverse d.events) v [] (seen_world eq v ps w) (desk_of d) owed
      st = work.stand

  -- a key is asked for: one event more, and one promise more if the key is not injected
  pub asked_works : (w : World K V) (owed less : ℕ) (ps qs : List (K × Share K (Held K V))) (d : DeskSeen K V) (by t : ℕ) (k : K) → IsOpenAt (reverse d.events) v t → KeepsTasks eq ps qs
      → (m.kind k ≡ Injected → SameAsks eq (asked_of eq ps) (asked_of eq qs)) → (m.kind k ≢ Injected → Joins eq k (Promised (length (reverse d.events))) (asked_of eq ps) (asked_of eq qs))
      → 2 * d.live + less ≤ d.spare - 1 → Working eq m v [] w owed ps d → Working eq m v [] w less qs (with_event d (Ask by t k))
  asked_works w owed less ps qs d by t k is_open keeps same joins room work =
      let r = asked_stand eq equality m law (reverse d.events) v w [] (asked_of eq ps) (asked_of eq qs) (tasks_of eq ps) by t k is_open.0 (desk_of d) (desk_of (with_event d (Ask by t k))) owed less work.stand is_open.1 is_open.2 same joins keeps.live
      (record { ready = refl; out = refl; live = refl }) room in
      record {
        stand = subst (λ R. Stand eq m R v [] (seen_world eq v qs w) (desk_of (with_event d x)) less) (sym told)
            (subst (λ ts. Stand eq m (x ∷ reverse d.events) v [] (with_version v (asked_of eq qs) ts w) (desk_of (with_event d x)) less) (sym alike) r.1);
        outs = subst (λ ts. AreAll (λ (p : ℕ × K). is_out ((with_version v (asked_of eq qs) ts w).tasks p.0 p.1)) d.out) (sym alike) work.outs;
        named = λ q h e. work.named q h (sym (keeps.tasks q) ∙ e);
        wanted = λ q l. subst (λ R. IsWanted eq m R v q) (sym told) (all_wanted_on_ask eq equality m law (reverse d.events) v (asked_of eq ps) by t k work.wanted q (sym (keeps.live q) ∙ l));
      }
    where
      x : Told K V
      x = Ask by t k

      told : reverse (d.events ++ Ask by t k ∷ []) ≡ Ask by t k ∷ reverse d.events
      told = back_more d.events (Ask by t k)

      alike : tasks_of eq qs ≡ tasks_of eq ps
      alike = same_tasks eq ps qs keeps

  -- the same tasks, if all that is seen is as before
  pub working_kept : (w : World K V) (W : List K) (owed : ℕ) (ps qs : List (K × Share K (Held K V))) (d : DeskSeen K V) → KeepsTasks eq ps qs → KeepsAsks eq ps qs → Working eq m v W w owed ps d → Working eq m v W w owed qs d
  working_kept w W owed ps qs d t a h = record {
    stand = subst (λ (y : World K V). Stand eq m (reverse d.events) v W y (desk_of d) owed) same h.stand;
    outs = subst (λ (y : World K V). AreAll (λ (p : ℕ × K). is_out (y.tasks p.0 p.1)) d.out) same h.outs;
    named = λ k g there. h.named k g (sym (t.tasks k) ∙ there);
    wanted = λ k l. h.wanted k (sym (t.live k) ∙ l);
  }
    where
      same : seen_world eq v ps w ≡ seen_world eq v qs w
      same = same_table eq v w ps qs t a

  module _ (by t : ℕ) (k : K) (ps qs : List (K × Share K (Held K V))) (d e : DeskSeen K V) (hands : KeepsHands d e) (tasks : (q : K) → task_at eq qs q ≡ task_at eq ps q) (live : (q : K) → is_live eq qs q ≡ is_live eq ps q) where
    -- what holds after the Ask, but for what is still to be made
    pub asked_first : (w : World K V) (owed less : ℕ) → KeepsTasks eq ps qs → IsOpenAt (reverse d.events) v t → (m.kind k ≡ Injected → SameAsks eq (asked_of eq ps) (asked_of eq qs)) → (m.kind k ≢ Injected → Joins eq k (Promised (length d.events)) (asked_of eq ps) (asked_of eq qs))
        → 2 * e.live + less ≤ e.spare - 1 → Working eq m v [] w owed ps d → Working eq m v [] w less qs (with_event e (Ask by t k))
    asked_first w owed less keeps is_open same joins room work =
        asked_works w less less ps qs e by t k (subst (λ R. IsOpenAt R v t) (sym past) is_open) keeps same (λ n. subst (λ i. Joins eq k (Promised i) (asked_of eq ps) (asked_of eq qs)) (sym index) (joins n)) room
        (working_room w owed less ps d e hands (omega arith) work)
      where
        past : reverse e.events ≡ reverse d.events
        past = ap reverse hands.events

        index : length (reverse e.events) ≡ length d.events
        index = length-reverse e.events ∙ ap length hands.events

    -- entries, cells and what is open after the Ask
    told : reverse (e.events ++ Ask by t k ∷ []) ≡ Ask by t k ∷ reverse d.events
    told = back_more e.events (Ask by t k) ∙ ap (λ (X : List (Told K V)). Ask by t k ∷ reverse X) hands.events

    pub entries_asked : (es : List (K × Stored K V)) → EntriesStand eq m (reverse d.events) es → EntriesStand eq m (reverse (e.events ++ Ask by t k ∷ [])) es
    entries_asked es h = subst (λ R. EntriesStand eq m R es) (sym told) (stand_ask eq m (reverse d.events) es h by t k)

    pub cells_asked : (s : Seen K V) → CellsStand eq (reverse d.events) s → CellsStand eq (reverse (e.events ++ Ask by t k ∷ [])) s
    cells_asked s h = subst (λ R. CellsStand eq R s) (sym told) (record { are = h.are; newest = h.newest })

    pub count_asked : open_count (reverse (e.events ++ Ask by t k ∷ [])) v ≡ open_count (reverse d.events) v
    count_asked = ap (λ R. open_count R v) told

    -- what may be made then
    pub may_asked : (w : World K V) (owed index : ℕ) → index ≡ length d.events → IsOpenAt (reverse d.events) v t → m.kind k ≢ Injected → Working eq m v [] w owed ps d → MayMake eq m (reverse (e.events ++ Ask by t k ∷ [])) v k (index + 1)
    may_asked w owed index at is_open computed work = subst (λ R. MayMake eq m R v k (index + 1)) (sym told) (record {
      computed = computed;
      wanted = wanted_asked eq m (reverse d.events) v by t k (there_open (reverse d.events) v t is_open.0 is_open.1 is_open.2);
      within = subst (λ n. n ≤ length (commits_of (reverse d.events))) is_open.2 (open_within eq m (reverse d.events) t is_open.0 work.stand.lawful is_open.1);
      born = (let a = length-reverse d.events in let b : length (Ask by t k ∷ reverse d.events) ≡ suc (length (reverse d.events)) = refl in omega arith);
    })

    -- an injected key was asked for
    pub hand_injected : (w : World K V) (owed : ℕ) (es : List (K × Stored K V)) (s : Seen K V) → KeepsAtHand eq ps qs d e → KeepsTasks eq ps qs → m.kind k ≡ Injected → IsOpenAt (reverse d.events) v t → HasDeskRoom owed 3 1 e
        → AtHand eq m v w owed ps d es s → AtHand eq m v w (owed + 1) qs (with_event e (Ask by t k)) es s
    hand_injected w owed es s kept keeps injected is_open room h = record {
      working = asked_first w owed (owed + 1) keeps is_open (λ i. kept.asks) (λ n. absurd (n injected)) (let r = room.spare in omega arith) h.working;
      told = hands.ended ∙ h.told;
      tasked = λ q a i. (let r = h.tasked q a (sym (kept.asks q a) ∙ i) in (r.0, tasks q ∙ r.1));
      done = λ q l. (let r = h.done q (sym (live q) ∙ l) in (r.0, kept.asks q r.0 ∙ r.1));
      opened = (let n = count_asked in let o = h.opened in omega arith);
      entries = entries_asked es h.entries;
      cells = cells_asked s h.cells;
    }

-- ---- what is made after the Ask

module _ {U K V A : Type 0} (eq : K → K → Bool) (m : Meaning K V) (v : ℕ) (k : K) (born : ℕ) (es : List (K × Stored K V)) (ps qs : List (K × Share K (Held K V))) (same : task_at eq qs k ≡ task_at eq ps k) where
  -- what is to be made goes by the task of the key alone
  pub making_same : (p : Making U K V A) → IsMaking eq m v k born ps es p → IsMaking eq m v k born qs es p
  making_same Join i = subst HasTask (sym same) i
  making_same (Match event base task) i = (subst IsFree (sym same) i.0, i.1)
  making_same (Run event cause ready task) i = (subst IsFree (sym same) i.0, i.1)
  making_same (Check ready task) i = (subst IsFree (sym same) i.0, i.1)

module _ {K V : Type 0} (v : ℕ) (k : K) where
  of_make_works : (x : Told K V) → IsOfMake v k x → IsWorkAt v x
  of_make_works (Start w q c) h = h.0
  of_make_works (Keep w q b) h = h.0
  of_make_works _ h = absurd h

  all_of_make : (xs : List (Told K V)) → AllByRecursion (IsOfMake v k) xs → AllByRecursion (IsWorkAt v) xs
  all_of_make [] a = tt
  all_of_make (x ∷ xs) a = (of_make_works x a.0, all_of_make xs a.1)

module _ {U K V A : Type 0} (eq : K → K → Bool) (equality : IsEquality eq) (m : Meaning K V) (law : IsLawful m) (v : ℕ) (k : K) (qs rs : List (K × Share K (Held K V))) (d e : DeskSeen K V) (es fs : List (K × Stored K V)) (w : World K V) (W : List K) (owed : ℕ) (work : Working eq m v W w owed qs d) (born : ℕ) where
  -- nobody's ask is withdrawn: a key without a task at work asks for nothing
  made_asks : (p : Making U K V A) → IsMaking eq m v k born qs es p → IsMade eq v k qs d es p rs e fs → (q : K) (a : By K) → asks eq rs q a ≡ asks eq qs q a
  made_asks Join i r q a = ap (λ z. asks eq z q a) r.0
  made_asks (Run event cause ready task) i r q a = r.0.asks q a
  made_asks (Check ready task) i r q a = r.0.asks q a
  made_asks (Match event base task) i r q a = r.0.asks q a ∙ by_asker a
    where
      kept : (b : Bool) → (b && true) ≡ b
      kept true = refl
      kept false = refl

      idle : is_live eq qs k ≡ false
      idle = (idle_at_hand eq equality m law v k qs qs d d w W owed work i.0).0

      by_test : (j : K) (b c : Bool) → asks eq qs q (Tasked j) ≡ b → eq k j ≡ c → (b && not c) ≡ b
      by_test j b false x y = kept b
      by_test j false true x y = refl
      by_test j true true x y = absurd (not_both ((working_knows eq equality m v W w owed qs d work).askers q j x) (subst (λ z. is_live eq qs z ≡ false) (equality.same k j y) idle))

      by_asker : (a : By K) → (asks eq qs q a && not (is_by eq (Tasked k) a)) ≡ asks eq qs q a
      by_asker (Promised n) = kept (asks eq qs q (Promised n))
      by_asker (Tasked j) = by_test j (asks eq qs q (Tasked j)) (eq k j) refl refl

module _ {U K V A : Type 0} (eq : K → K → Bool) (equality : IsEquality eq) (m : Meaning K V) (law : IsLawful m) (v by t : ℕ) (k : K) (index : ℕ) (ps os qs rs : List (K × Share K (Held K V))) (c d e : DeskSeen K V) (es fs : List (K × Stored K V)) (p : Making U K V A)
    (at : index ≡ length c.events) (kept : KeepsAtHand eq ps os c d) (keeps : KeepsTasks eq ps qs) (room : UsesRoomOf eq (λ q. cond (eq k q) 1 0) (λ q. 0) (λ q. 0) os qs)
    (joins : (q : K) (a : By K) → asks eq qs q a ≡ (asks eq os q a || (eq k q && is_by eq (Promised index) a)))
    (place : 0 < promise_room eq os k) (is_open : IsOpenAt (reverse c.events) v t) (computed : m.kind k ≢ Injected) (making : IsMaking eq m v k (index + 1) os es p) where
  joined : Joins eq k (Promised (length c.events)) (asked_of eq ps) (asked_of eq qs)
  joined = subst (λ i. Joins eq k (Promised i) (asked_of eq ps) (asked_of eq qs)) at (λ q a. joins q a ∙ ap (λ b. b || (eq k q && is_by eq (Promised index) a)) (kept.asks q a))

  asked_now : (w : World K V) (owed : ℕ) → HasDeskRoom owed 3 1 d → Working eq m v [] w owed ps c → Working eq m v [] w (owed + 1 + 3) qs (with_event d (Ask by t k))
  asked_now w owed desk work = asked_first eq equality m law v by t k ps qs c d kept.hands keeps.tasks keeps.live w owed (owed + 1 + 3) keeps is_open (λ i. absurd (computed i)) (λ n. joined) (let r = desk.spare in omega arith) work

  making_now : IsMaking eq m v k (index + 1) qs es p
  making_now = making_same eq m v k (index + 1) es os qs (keeps.tasks k ∙ sym (kept.tasks k)) p making

  making_first : IsMaking eq m v k (index + 1) ps es p
  making_first = making_same eq m v k (index + 1) es os ps (sym (kept.tasks k)) p making

  -- there is room to make it
  pub can_make_now : (w : World K V) (owed : ℕ) → HasDeskRoom owed 3 1 d → Working eq m v [] w owed ps c → CanMake eq v k qs (with_event d (Ask by t k)) p
  can_make_now w owed desk work =
      can_make eq equality m law v k qs (with_event d (Ask by t k)) w [] (owed + 1 + 3) (index + 1) es (asked_now w owed desk work) (let r = desk.spare in omega arith) (let r = desk.ready in omega arith) (let r = desk.live in omega arith)
      (room.places k (place_of_room eq os k place)) p making_now

  module _ (made : IsMade eq v k qs (with_event d (Ask by t k)) es p rs e fs) (alone : MakesAlone eq v k qs (with_event d (Ask by t k)) es rs e fs) where
    works : WorksOn v (d.events ++ Ask by t k ∷ []) e.events
    works = (alone.events, alone.told, all_of_make v k alone.events alone.of_make)

    -- all stands again, and one event more is owed
    pub hand_joined : (w : World K V) (owed : ℕ) (s : Seen K V) → HasDeskRoom owed 3 1 d
        → ((w : World K V) (W : List K) (owed born : ℕ) → Working eq m v W w (owed + 3) qs (with_event d (Ask by t k)) → EntriesStand eq m (reverse (d.events ++ Ask by t k ∷ [])) es → MayMake eq m (reverse (d.events ++ Ask by t k ∷ [])) v k born → IsMaking eq m v k born qs es p → Working eq m v W w owed rs e × EntriesStand eq m (reverse e.events) fs)
        → AtHand eq m v w owed ps c es s → AtHand eq m v w (owed + 1) rs e fs s
    hand_joined w owed s desk makes h = record {
      working = after.0;
      told = alone.ended ∙ (kept.hands.ended ∙ h.told);
      tasked = tasked;
      done = done;
      opened = (let n = count_works v (d.events ++ Ask by t k ∷ []) e.events v works in let o = h.opened in let z = count_asked eq equality m law v by t k ps os c d kept.hands kept.tasks kept.live in omega arith);
      entries = after.1;
      cells = cells_works v eq s (d.events ++ Ask by t k ∷ []) e.events works (cells_asked eq equality m law v by t k ps os c d kept.hands kept.tasks kept.live s h.cells);
    }
      where
        now : Working eq m v [] w (owed + 1 + 3) qs (with_event d (Ask by t k))
        now = asked_now w owed desk h.working

        after : Working eq m v [] w (owed + 1) rs e × EntriesStand eq m (reverse e.events) fs
        after = makes w [] (owed + 1) (index + 1) now (entries_asked eq equality m law v by t k ps os c d kept.hands kept.tasks kept.live es h.entries) (may_asked eq equality m law v by t k ps os c d kept.hands kept.tasks kept.live w owed index at is_open computed h.working) making_now

        same : (q : K) (a : By K) → asks eq rs q a ≡ asks eq qs q a
        same = made_asks eq equality m law v k qs rs (with_event d (Ask by t k)) e es fs w [] (owed + 1 + 3) now (index + 1) p making_now made

        own : (q : K) → k ≡ q → (r : Held K V) × (task_at eq rs q ≡ Some r)
        own q i = subst (λ z. (r : Held K V) × (task_at eq rs z ≡ Some r)) i (has_there (task_at eq rs k) (made_has eq equality m law v k qs (with_event d (Ask by t k)) (index + 1) es fs rs e p making_now made))

        tasked : AreTasked eq rs
        tasked q a i = elim (same_or_other eq equality k q) as (λ _. (r : Held K V) × (task_at eq rs q ≡ Some r)) [
          | inl j ↦ own q j
          | inr n ↦ other n
        ]
          where
            other : eq k q ≡ false → (r : Held K V) × (task_at eq rs q ≡ Some r)
            other n =
                let b : asks eq os q a ≡ true = elim (or_cases (asks eq os q a) _ (sym (joins q a) ∙ (sym (same q a) ∙ i))) as (λ _. asks eq os q a ≡ true) [ inl l ↦ l | inr z ↦ absurd (not_both (and_parts (eq k q) _ z).0 n) ] in
                let r = h.tasked q a (sym (kept.asks q a) ∙ b) in
                (r.0, alone.tasks q n ∙ (keeps.tasks q ∙ r.1))

        done : IsDone (asked_of eq rs)
        done q l = elim (same_or_other eq equality k q) as (λ _. (a : By K) × (asks eq rs q a ≡ true)) [
          | inl j ↦ (Promised index, same q (Promised index) ∙ (joins q (Promised index) ∙ or_right (asks eq os q (Promised index)) _ (and_from (eq k q) _ (subst (λ z. eq k z ≡ true) j (equality.itself k)) (eq-eqb index index refl))))
          | inr n ↦ other n
        ]
          where
            other : eq k q ≡ false → (a : By K) × (asks eq rs q a ≡ true)
            other n =
                let r = h.done q (sym (keeps.live q) ∙ (sym (alone.lives q n) ∙ l)) in
                (r.0, same q r.0 ∙ (joins q r.0 ∙ or_left (asks eq os q r.0) _ (kept.asks q r.0 ∙ r.1)))

    -- what was told and made
    pub asks_joined : (w : World K V) (owed : ℕ) → Working eq m v [] w owed ps c → AsksForKey eq m v by t k ps rs es fs c e
    asks_joined w owed h = by_making p making_first made
      where
        x : Told K V
        x = Ask by t k

        start : d.events ++ Ask by t k ∷ [] ≡ c.events ++ Ask by t k ∷ []
        start = ap (λ (X : List (Told K V)). X ++ Ask by t k ∷ []) kept.hands.events

        others : (q : K) → eq k q ≡ false → task_at eq rs q ≡ task_at eq ps q
        others q n = alone.tasks q n ∙ keeps.tasks q

        stays : (f : DeskSeen K V) → Stays d.out f.out → Stays c.out f.out
        stays f o = subst (λ xs. Stays xs f.out) kept.hands.out o

        outs_same : (xs : List (ℕ × K)) → xs ≡ d.out → Stays c.out xs
        outs_same xs i = let j : xs ≡ c.out = i ∙ kept.hands.out in record { kept = λ y a. subst (λ ys. Has ys y) (sym j) a; only = λ y a. subst (λ ys. Has ys y) j a; distinct = subst (λ ys. AreDistinct ys) (sym j) h.outs.distinct }

        put : (task : Held K V) → ((q : K) → task_at eq rs q ≡ cond (eq k q) (Some task) (task_at eq qs q)) → task_at eq rs k ≡ Some task
        put task i = i k ∙ ap (λ b. cond b (Some task) (task_at eq qs k)) (equality.itself k)

        named : (b : ℕ) → b ≡ index + 1 → b ≡ length c.events + 1
        named b i = let z = at in omega arith

        by_making : (y : Making U K V A) → IsMaking eq m v k (index + 1) ps es y → IsMade eq v k qs (with_event d (Ask by t k)) es y rs e fs → AsksForKey eq m v by t k ps rs es fs c e
        by_making Join i r = record {
          made = [];
          told = tt;
          events = ap (λ (z : DeskSeen K V). z.events) r.1 ∙ start;
          others = others;
          own = inl (record { there = inr i; task = ap (λ z. task_at eq z k) r.0 ∙ keeps.tasks k; entries = r.2; silent = refl });
          outs = outs_same e.out (ap (λ (z : DeskSeen K V). z.out) r.1);
        }
        by_making (Match event base task) i r = record {
          made = Keep v k base ∷ [];
          told = (refl, refl);
          events = ap (λ (z : DeskSeen K V). z.events) r.1 ∙ (append_assoc d.events (Ask by t k ∷ []) (Keep v k base ∷ []) ∙ ap (λ (X : List (Told K V)). X ++ (Ask by t k ∷ Keep v k base ∷ [])) kept.hands.events);
          others = others;
          own = inr (record {
            free = i.0;
            held = task;
            task = put task r.0.tasks;
            by_look = subst (IsMadeBy eq v k (length c.events + 1) es fs task (Keep v k base ∷ [])) (sym i.1.1) (i.1.2 ∙ ap (λ b. held_ended (record { version = v; key = k; born = b }) (WithValue i.1.0)) (named (index + 1) refl), refl, r.2, r.3);
          });
          outs = outs_same e.out (ap (λ (z : DeskSeen K V). z.out) r.1);
        }
        by_making (Run event cause ready task) i r = record {
          made = Start v k (reason_of cause) ∷ [];
          told = (refl, refl);
          events = r.1.rest.events ∙ (append_assoc d.events (Ask by t k ∷ []) (Start v k (reason_of cause) ∷ []) ∙ ap (λ (X : List (Told K V)). X ++ (Ask by t k ∷ Start v k (reason_of cause) ∷ [])) kept.hands.events);
          others = others;
          own = inr (record {
            free = i.0;
            held = task;
            task = put task r.0.tasks;
            by_look = subst (IsMadeBy eq v k (length c.events + 1) es fs task (Start v k (reason_of cause) ∷ [])) (sym i.1.1) (i.1.3 ∙ ap (λ b. held_run (record { version = v; key = k; born = b })) (named (index + 1) refl), ap (λ y. Start v k y ∷ []) i.1.2, r.2);
          });
          outs = stays e r.1.out;
        }
        by_making (Check ready task) i r = record {
          made = [];
          told = tt;
          events = r.1.rest.events ∙ start;
          others = others;
          own = inr (record {
            free = i.0;
            held = task;
            task = put task r.0.tasks;
            by_look = subst (IsMadeBy eq v k (length c.events + 1) es fs task []) (sym i.1.3) (i.1.4 ∙ ap (λ b. held_check (record { version = v; key = k; born = b }) i.1.0 i.1.1 i.1.2) (named (index + 1) refl), refl, r.2);
          });
          outs = stays e r.1.out;
        }

  -- the same, with the desk f after the Ask
  abbrev pub MakesFrom : DeskSeen K V → Type 0
  MakesFrom f = (w : World K V) (W : List K) (owed born : ℕ) → Working eq m v W w (owed + 3) qs f → EntriesStand eq m (reverse f.events) es → MayMake eq m (reverse f.events) v k born → IsMaking eq m v k born qs es p → Working eq m v W w owed rs e × EntriesStand eq m (reverse e.events) fs

  module _ (f : DeskSeen K V) (told : f ≡ with_event d (Ask by t k)) where
    pub can_make_there : (w : World K V) (owed : ℕ) → HasDeskRoom owed 3 1 d → Working eq m v [] w owed ps c → CanMake eq v k qs f p
    can_make_there w owed desk work = subst (λ z. CanMake eq v k qs z p) (sym told) (can_make_now w owed desk work)

    module _ (made : IsMade eq v k qs f es p rs e fs) (alone : MakesAlone eq v k qs f es rs e fs) where
      pub hand_made : (w : World K V) (owed : ℕ) (s : Seen K V) → HasDeskRoom owed 3 1 d → MakesFrom f → AtHand eq m v w owed ps c es s → AtHand eq m v w (owed + 1) rs e fs s
      hand_made w owed s desk makes h = hand_joined (subst (λ z. IsMade eq v k qs z es p rs e fs) told made) (subst (λ z. MakesAlone eq v k qs z es rs e fs) told alone) w owed s desk (subst MakesFrom told makes) h

      pub asks_made : (w : World K V) (owed : ℕ) → Working eq m v [] w owed ps c → AsksForKey eq m v by t k ps rs es fs c e
      asks_made w owed work = asks_joined (subst (λ z. IsMade eq v k qs z es p rs e fs) told made) (subst (λ z. MakesAlone eq v k qs z es rs e fs) told alone) w owed work

-- no job that is out changes then
module _ {K V : Type 0} (eq : K → K → Bool) (equality : IsEquality eq) (m : Meaning K V) (v by t : ℕ) (k : K) (ps qs : List (K × Share K (Held K V))) (es fs : List (K × Stored K V)) (d e : DeskSeen K V) (asked : AsksForKey eq m v by t k ps qs es fs d e) (a : Assigned K V) where
  new_home : (born : ℕ) (made : List (Told K V)) (h : Held K V) (o : Look K V) → IsMadeBy eq v k born es fs h made o → h ≡ held_of a IsOut → ⊥
  new_home born made h (Matches x b) n i = let z : work_of a IsOut ≡ Ended (WithValue x) = ap (λ (x : Held K V). x.standing) (sym i ∙ n.0) in cc
  new_home born made h (Computes y) n i = let z : false ≡ true = ap (λ (x : Held K V). ready_in x.standing) (sym i ∙ n.0) in cc
  new_home born made h (Checks x T b) n i = let z : false ≡ true = ap (λ (x : Held K V). ready_in x.standing) (sym i ∙ n.0) in cc

  free_home : (o : Option (Held K V)) → IsFree o → o ≡ Some (held_of a IsOut) → ⊥
  free_home None f i = let z : None ≡ Some (held_of a IsOut) = i in cc
  free_home (Some h) f i = let z : work_of a IsOut ≡ Ended WithNothing = ap (λ (x : Held K V). x.standing) (sym (same_Some h (held_of a IsOut) i)) ∙ f in cc

  own_out : (task_at eq qs k ≡ Some (held_of a IsOut) → task_at eq ps k ≡ Some (held_of a IsOut)) × (task_at eq ps k ≡ Some (held_of a IsOut) → task_at eq qs k ≡ Some (held_of a IsOut))
  own_out = elim asked.own as (λ _. (task_at eq qs k ≡ Some (held_of a IsOut) → task_at eq ps k ≡ Some (held_of a IsOut)) × (task_at eq ps k ≡ Some (held_of a IsOut) → task_at eq qs k ≡ Some (held_of a IsOut))) [
    | inl s ↦ ((λ i. sym s.task ∙ i), (λ i. s.task ∙ i))
    | inr n ↦ ((λ i. absurd (new_home _ asked.made n.held _ n.by_look (same_Some n.held (held_of a IsOut) (sym n.task ∙ i)))), (λ i. absurd (free_home (task_at eq ps k) n.free i)))
  ]

  pub out_stays : (q : K) → (task_at eq qs q ≡ Some (held_of a IsOut) → task_at eq ps q ≡ Some (held_of a IsOut)) × (task_at eq ps q ≡ Some (held_of a IsOut) → task_at eq qs q ≡ Some (held_of a IsOut))
  out_stays q = elim (same_or_other eq equality k q) as (λ _. (task_at eq qs q ≡ Some (held_of a IsOut) → task_at eq ps q ≡ Some (held_of a IsOut)) × (task_at eq ps q ≡ Some (held_of a IsOut) → task_at eq qs q ≡ Some (held_of a IsOut))) [
    | inl i ↦ subst (λ z. (task_at eq qs z ≡ Some (held_of a IsOut) → task_at eq ps z ≡ Some (held_of a IsOut)) × (task_at eq ps z ≡ Some (held_of a IsOut) → task_at eq qs z ≡ Some (held_of a IsOut))) i own_out
    | inr n ↦ (let s = asked.others q n in ((λ i. sym s ∙ i), (λ i. s ∙ i)))
  ]
