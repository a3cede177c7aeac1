-- Steps that ask no batch keep what holds while a call works.
use Rattle.std.proofs.Common.{◌≡◌, ◌≢◌, ◌≤◌, ◌<◌, ◌⊎◌, inl, inr, ◌+◌, ◌*◌, ℕ, Bool, true, false, cond, not, ◌&&◌, List, [], ◌∷◌, ◌++◌, length, map, reverse, Option, Some, refl, sym, ap, ◌∙◌, subst, arith}
use Rattle.std.proofs.lemmas.Option.{same_Some, none-some}
use Rattle.std.specs.Option.{option_map}
use Rattle.dice_key.specs.Lawful.{IsEquality, IsLawful}
use Rattle.dice_key.specs.Meaning.{Meaning, Answered, Step, Asks, Ends}
use Rattle.dice_key.specs.declared.universe.Kind.TheVariants.{Injected}
use Rattle.dice_model.specs.Asks.{AllTrue, Goes, IsTrace}
use Rattle.dice_model.specs.Eval.{HasValue}
use Rattle.dice_model.proofs.Traces.{trace_value}
use Rattle.dep_recorder.specs.Checks.{Finding, Wants, IsSame, HasChanged, finding, values_of}
use Rattle.dice_jobs.specs.Jobs.{Name, Work, Computes, Checks, Assigned, Stepped, Wanting, Valued, Unchanged, Changed, Explains, IsExplained, IsStepOf, AsksThese, comes, outcome_of, of_move, of_finding}
use Rattle.dice_jobs.specs.Truths.{Follows}
use Rattle.dice_jobs.proofs.Followed.{changed_front, goes_changed, asks_these}
use Rattle.task_share.specs.Asked.{By, Promised, Tasked, is_by}
use Rattle.task_share.specs.Seen.{Share, task_at, is_live, asks, asked_of}
use Rattle.injected.specs.Seen.{Seen}
use Rattle.injected.specs.Inputs.{AreOf}
use Rattle.journal.specs.declared.event.Told.{Told}
use Rattle.journal.specs.declared.event.Told.TheVariants.{Start, Keep, End}
use Rattle.journal.specs.declared.event.Reason.{Reason}
use Rattle.journal.specs.Events.{commits_of, open_count}
use Rattle.versioned_graph.specs.Entries.{Stored}
use Rattle.core_laws.specs.Tasks.{IsReady, IsOut, WithValue, Works, batch_of, waits_for, goes_on}
use Rattle.core_laws.specs.Stands.{WorkStands, VersionStands}
use Rattle.core_laws.specs.Changes.{ChangesFirst}
use Rattle.core_laws.specs.Desk.{World, ready_in}
use Rattle.core_laws.proofs.Shapes.{same_or_other}
use Rattle.core_laws.proofs.Turns.{stands_here}
use Rattle.dice_tasks.specs.Helds.{Held, Ahead, task_of, held_of, held_ended}
use Rattle.dice_tasks.specs.Hands.{DeskSeen, desk_of, tasks_of, KeepsHands, KeepsDeskRoom, Working}
use Rattle.dice_tasks.specs.Endings.{TellsEnd, BeginsAnew, AreTasked}
use Rattle.dice_tasks.specs.Entries.{EntriesStand}
use Rattle.dice_steps.specs.Cells.{CellsStand}
use Rattle.dice_steps.specs.AtHand.{AtHand}
use Rattle.dice_tasks.specs.Waitings.{Wakes, MayWake}
use Rattle.dice_steps.specs.Wokens.{AsksAlone, IsAnswered, AreWoken, WakesSo}
use Rattle.dice_steps.specs.Finishings.{EndsWith, EndsAndWakes}
use Rattle.dice_tasks.proofs.EndsLemmas.{back_more}
use Rattle.dice_tasks.proofs.EndedLemmas.{value_on, kept_on}
use Rattle.dice_tasks.proofs.EntriesLemmas.{stand_start}
use Rattle.dice_tasks.proofs.TellLemmas.{told_events, told_ended}
use Rattle.dice_steps.proofs.WokenLemmas.{may_wake}
use Rattle.lists.specs.Lists.{Has}
use Rattle.std.proofs.Math.Bool.{and-true}
use Rattle.std.proofs.lemmas.Bool.{and_parts}

-- ---- more room

module _ {K V : Type 0} where
  -- a desk with other room
  abbrev roomy : DeskSeen K V → DeskSeen K V → DeskSeen K V
  roomy d e = record { events = d.events; ready = d.ready; out = d.out; live = d.live; ended = d.ended; spare = e.spare; ready_room = e.ready_room; live_room = e.live_room }

  same_desk : (d e : DeskSeen K V) → KeepsHands d e → roomy d e ≡ e
  same_desk d e h = λ i. record { events = sym h.events i; ready = sym h.ready i; out = sym h.out i; live = sym h.live i; ended = sym h.ended i; spare = e.spare; ready_room = e.ready_room; live_room = e.live_room }

module _ {K V : Type 0} (eq : K → K → Bool) (m : Meaning K V) (v : ℕ) where
  pub working_room : (W : List K) (w : World K V) (owed owed2 : ℕ) (ps : List (K × Share K (Held K V))) (d e : DeskSeen K V) → KeepsHands d e → 2 * e.live + owed2 ≤ e.spare → Working eq m v W w owed ps d → Working eq m v W w owed2 ps e
  working_room W w owed owed2 ps d e h room work = subst (λ (y : DeskSeen K V). Working eq m v W w owed2 ps y) (same_desk d e h) (record {
    stand = record { lawful = work.stand.lawful; here = work.stand.here; there = work.stand.there; ready = work.stand.ready; out = work.stand.out; live = work.stand.live; room = (let l = h.live in omega arith) };
    outs = work.outs;
    named = work.named;
    wanted = work.wanted;
  })

  pub at_room : (w : World K V) (owed : ℕ) (ps : List (K × Share K (Held K V))) (d e : DeskSeen K V) (es : List (K × Stored K V)) (s : Seen K V) → KeepsHands d e → KeepsDeskRoom d e → AtHand eq m v w owed ps d es s → AtHand eq m v w owed ps e es s
  at_room w owed ps d e es s h more at = record {
    working = working_room [] w owed owed ps d e h (let l = h.live in let r = at.working.stand.room in let n = more.spare in omega arith) at.working;
    told = h.ended ∙ at.told;
    tasked = at.tasked;
    done = at.done;
    opened = subst (λ (J : List (Told K V)). 0 < open_count (reverse J) v) (sym h.events) at.opened;
    entries = subst (λ (J : List (Told K V)). EntriesStand eq m (reverse J) es) (sym h.events) at.entries;
    cells = subst (λ (J : List (Told K V)). CellsStand eq (reverse J) s) (sym h.events) at.cells;
  }

-- ---- what a step says

module _ {K V : Type 0} (m : Meaning K V) (veq : V → V → Bool) (a : Assigned K V) where
  done_step : (s : Step K V) (x : V) → of_move s ≡ Valued x → s ≡ Ends x
  done_step (Asks ks) x e = let c : Wanting ks ≡ Valued x = e in cc
  done_step (Ends y) x e = let c : Valued y ≡ Valued x = e in let i : y ≡ x = cc in ap Ends i

  no_value : (f : Finding K V) (x : V) → of_finding f ≡ Valued x → ⊥
  no_value (Wants ks) x e = let c : Wanting ks ≡ Valued x = e in cc
  no_value IsSame x e = let c : Unchanged ≡ Valued x = e in cc
  no_value (HasChanged d y z) x e = let c : Changed d ≡ Valued x = e in cc

  -- a run is done with a value
  pub valued : (x : V) → outcome_of m veq a ≡ Valued x → (a.work ≡ Computes) × (m.next a.name.key a.answered a.name.version ≡ Ends x)
  valued x e = by_work a.work refl e
    where
      by_work : (w : Work K V) → a.work ≡ w → comes m veq w a.name a.answered ≡ Valued x → (a.work ≡ Computes) × (m.next a.name.key a.answered a.name.version ≡ Ends x)
      by_work Computes i f = (i, done_step (m.next a.name.key a.answered a.name.version) x f)
      by_work (Checks y T b) i f = absurd (no_value (finding veq T (values_of a.answered)) x f)

  no_change : (s : Step K V) (d : K) → of_move s ≡ Changed d → ⊥
  no_change (Asks ks) d e = let c : Wanting ks ≡ Changed d = e in cc
  no_change (Ends x) d e = let c : Valued x ≡ Changed d = e in cc

  -- what finds a change is a check
  pub found_by_check : (d : K) → outcome_of m veq a ≡ Changed d → (x : V) × (T : List (Answered K V)) × (b : ℕ) × (a.work ≡ Checks x T b)
  found_by_check d e = by_work a.work refl e
    where
      by_work : (w : Work K V) → a.work ≡ w → comes m veq w a.name a.answered ≡ Changed d → (x : V) × (T : List (Answered K V)) × (b : ℕ) × (a.work ≡ Checks x T b)
      by_work Computes i f = absurd (no_change (m.next a.name.key a.answered a.name.version) d f)
      by_work (Checks x T b) i f = (x, T, b, i)

  module _ (s : Stepped K V) (step : IsStepOf m veq s a) (y : V) (T : List (Answered K V)) (b : ℕ) (work : a.work ≡ Checks y T b) where
    explained : Explains T (values_of a.answered) s.outcome
    explained = subst (λ w. IsExplained w a.answered s.outcome) work step.explained

    -- a check found all the same
    pub unchanged : s.outcome ≡ Unchanged → map (λ c. c.values) a.answered ≡ map (λ c. c.values) T
    unchanged e = subst (Explains T (values_of a.answered)) e explained

    -- a check found a change, which is the first
    pub changed_first : (d : K) → s.outcome ≡ Changed d → ChangesFirst T a.answered d
    changed_first d e =
        let r = subst (Explains T (values_of a.answered)) e explained in
        let f = r.2 in
        record { before = f.before; batch = f.batch; later = f.after; trace_is = f.trace_is; answers = f.answers; answered = f.fed_is; keys_before = f.keys_before; keys_later = f.keys_after; same = f.same; was_later = f.was_after; now_later = f.now_after; was = r.0; now = r.1; keys_are = f.keys_are; values_are = f.values_are; answers_are = f.answers_are; counted = f.counted; changed = f.changed }

-- ---- the event that tells an end, and what the graph keeps then

module _ {K V : Type 0} where
  pub told_of : (v : ℕ) (k : K) (s : Stepped K V) (x : V) (t : Told K V) → EndsWith v k s x t → (t ≡ End v k) ⊎ ((b : ℕ) × (t ≡ Keep v k b))
  told_of v k s x t ends = elim ends as (λ _. (t ≡ End v k) ⊎ ((b : ℕ) × (t ≡ Keep v k b))) [ inl i ↦ inl i.1 | inr i ↦ inr (i.2, i.4) ]

module _ {K V : Type 0} (eq : K → K → Bool) (m : Meaning K V) (v : ℕ) (R : List (Told K V)) (fs : List (K × Stored K V)) (k i : K) (x y : V) (A B : List (Answered K V)) (key : i ≡ k) (value : y ≡ x) (trace : B ≡ A) where
  -- the graph was given a copy of the key, of the value and of the trace
  traced_so : IsTrace eq m (commits_of R) v k A x → IsTrace eq m (commits_of R) v i B y
  traced_so t = subst (λ z. IsTrace eq m (commits_of R) v z B y) (sym key) (subst (λ z. IsTrace eq m (commits_of R) v k z y) (sym trace) (subst (λ z. IsTrace eq m (commits_of R) v k A z) (sym value) t))

  pub entries_ended : (t : Told K V) → t ≡ End v k → (IsTrace eq m (commits_of R) v i B y → EntriesStand eq m (End v i ∷ R) fs) → IsTrace eq m (commits_of R) v k A x → EntriesStand eq m (t ∷ R) fs
  entries_ended t is f trace_is = subst (λ (z : Told K V). EntriesStand eq m (z ∷ R) fs) (ap (λ z. End v z) key ∙ sym is) (f (traced_so trace_is))

  pub entries_kept : (t : Told K V) (b : ℕ) → t ≡ Keep v k b → (IsTrace eq m (commits_of R) v i B y → EntriesStand eq m (Keep v i b ∷ R) fs) → IsTrace eq m (commits_of R) v k A x → EntriesStand eq m (t ∷ R) fs
  entries_kept t b is f trace_is = subst (λ (z : Told K V). EntriesStand eq m (z ∷ R) fs) (ap (λ z. Keep v z b) key ∙ sym is) (f (traced_so trace_is))

-- ---- the task of a key, which is out

module _ {K V : Type 0} (eq : K → K → Bool) (equality : IsEquality eq) (m : Meaning K V) (law : IsLawful m) (v : ℕ) (k : K) where
  module _ (R : List (Told K V)) (W : List K) (ps : List (K × Share K (Held K V))) (stands : VersionStands eq m R v W (asked_of eq ps) (tasks_of eq ps)) (a : Assigned K V) (out : task_at eq ps k ≡ Some (held_of a IsOut)) where
    -- it asks for nothing
    pub out_asks : (q : K) → asks eq ps q (Tasked k) ≡ false
    out_asks q = by_test (asks eq ps q (Tasked k)) refl
      where
        by_test : (b : Bool) → asks eq ps q (Tasked k) ≡ b → b ≡ false
        by_test false e = refl
        by_test true e = let r = stands.waiting q k e in absurd (none-some r.0 (sym (ap (λ (z : Option (Held K V)). batch_of (option_map task_of z)) out) ∙ r.1))

    -- so nothing is withdrawn when it ends
    pub asks_same : (qs : List (K × Share K (Held K V))) → ((q : K) (b : By K) → asks eq qs q b ≡ (asks eq ps q b && not (is_by eq (Tasked k) b))) → (q : K) (b : By K) → asks eq qs q b ≡ asks eq ps q b
    asks_same qs gone q (Promised n) = gone q (Promised n) ∙ and-true (asks eq ps q (Promised n))
    asks_same qs gone q (Tasked j) = elim (same_or_other eq equality k j) as (λ _. asks eq qs q (Tasked j) ≡ asks eq ps q (Tasked j)) [
      | inl i ↦ (let n : asks eq ps q (Tasked j) ≡ false = subst (λ z. asks eq ps q (Tasked z) ≡ false) i (out_asks q) in gone q (Tasked j) ∙ (ap (λ b. b && not (eq k j)) n ∙ sym n))
      | inr o ↦ gone q (Tasked j) ∙ (ap (λ b. asks eq ps q (Tasked j) && not b) o ∙ and-true (asks eq ps q (Tasked j)))
    ]

    pub within : v ≤ length (commits_of R)
    within = (stands.each k (task_of (held_of a IsOut)) (ap (option_map task_of) out)).within

    pub computed : m.kind k ≢ Injected
    computed = (stands.each k (task_of (held_of a IsOut)) (ap (option_map task_of) out)).computed

    -- if a check found a change, the key asks the batches that the check was answered
    pub turned_asks : (x : V) (T : List (Answered K V)) (b : ℕ) (d : K) → a.work ≡ Checks x T b → ChangesFirst T a.answered d → AsksThese m k v a.answered
    turned_asks x T b d work f =
        let C = commits_of R in
        let t = stands.each k (task_of (held_of a IsOut)) (ap (option_map task_of) out) in
        let h : WorkStands eq m R v k (Checks x T b) a.answered = subst (λ z. WorkStands eq m R v k z a.answered) work t.standing.work in
        let l : Answered K V = record { keys = f.batch.keys; values = f.answers } in
        let e : a.answered ≡ f.before ++ l ∷ [] = changed_front f.before f.later a.answered f.batch f.answers (subst (λ B. Follows B a.answered) f.trace_is h.1) f.answered in
        let was : Goes eq m C b k [] (f.before ++ f.batch ∷ f.later) = subst (Goes eq m C b k []) f.trace_is h.0.traced.goes in
        let g = goes_changed eq m law C b v k f.before f.later f.batch f.answers was (subst (AllTrue (HasValue eq m C v)) e h.2) in
        asks_these eq m C v k a.answered (subst (Goes eq m C v k []) (sym e) g)

  pub stands_at : (w : World K V) (owed : ℕ) (ps : List (K × Share K (Held K V))) (d : DeskSeen K V) (es : List (K × Stored K V)) (s : Seen K V) → AtHand eq m v w owed ps d es s → VersionStands eq m (reverse d.events) v [] (asked_of eq ps) (tasks_of eq ps)
  stands_at w owed ps d es s at = stands_here eq equality m (reverse d.events) v [] (asked_of eq ps) (tasks_of eq ps) w (desk_of d) owed at.working.stand

  -- ---- it ends with a value

  module _ (x : V) (t : Told K V) (ps qs : List (K × Share K (Held K V))) (d e : DeskSeen K V) (h : Held K V) (tells : TellsEnd eq v k h (WithValue x) t ps qs d e) (a : Assigned K V) (out : task_at eq ps k ≡ Some (held_of a IsOut)) where
    is_it : h ≡ held_of a IsOut
    is_it = same_Some h (held_of a IsOut) (sym tells.ends.was ∙ out)

    -- the step says so
    pub ends_on : (veq : V → V → Bool) (s : Stepped K V) → s.job ≡ a → IsStepOf m veq s a → EndsWith v k s x t → (W : List K) (w : World K V) (owed : ℕ) → Working eq m v W w owed ps d
        → Working eq m v (k ∷ W) w owed qs e × IsTrace eq m (commits_of (reverse d.events)) v k a.answered x
    ends_on veq s job step ends W w owed work = elim ends as (λ _. Working eq m v (k ∷ W) w owed qs e × IsTrace eq m (commits_of (reverse d.events)) v k a.answered x) [
      | inl i ↦ (
          let z = valued m veq a x (sym step.outcome ∙ i.0) in
          let n = work.named k (held_of a IsOut) out in
          value_on eq equality m law v k h ps qs d e x t tells W w owed work i.1 (held_of a IsOut) a.answered out (ap (λ o. Works o IsOut a.answered) z.0)
          (subst (λ q. m.next q a.answered v ≡ Ends x) n.1 (subst (λ u. m.next a.name.key a.answered u ≡ Ends x) n.0 z.1)))
      | inr i ↦ (
          let work_is : a.work ≡ Checks x i.1 i.2 = subst (λ (z : Assigned K V). z.work ≡ Checks x i.1 i.2) job i.3 in
          kept_on eq equality m law v k h ps qs d e x t tells W w owed work i.2 i.4 (held_of a IsOut) i.1 a.answered out (ap (λ o. Works o IsOut a.answered) work_is)
          (unchanged m veq a s step x i.1 i.2 work_is i.0))
    ]

    module _ (is : (t ≡ End v k) ⊎ ((b : ℕ) × (t ≡ Keep v k b))) where
      quiet_open : (R : List (Told K V)) (n : ℕ) → open_count (t ∷ R) n ≡ open_count R n
      quiet_open R n = elim is as (λ _. open_count (t ∷ R) n ≡ open_count R n) [ inl i ↦ ap (λ (z : Told K V). open_count (z ∷ R) n) i | inr i ↦ ap (λ (z : Told K V). open_count (z ∷ R) n) i.1 ]

      quiet_commits : (R : List (Told K V)) → commits_of (t ∷ R) ≡ commits_of R
      quiet_commits R = elim is as (λ _. commits_of (t ∷ R) ≡ commits_of R) [ inl i ↦ ap (λ (z : Told K V). commits_of (z ∷ R)) i | inr i ↦ ap (λ (z : Told K V). commits_of (z ∷ R)) i.1 ]

      -- those that waited for it alone may be woken
      pub may_wake_now : (w : World K V) (owed : ℕ) (es : List (K × Stored K V)) (s : Seen K V) → AtHand eq m v w owed ps d es s → IsTrace eq m (commits_of (reverse d.events)) v k a.answered x → (ys : List (Wakes K V)) → AreWoken eq m s v k x ps ys → MayWake eq m (reverse e.events) v k ys qs
      may_wake_now w owed es s at trace ys woken =
          may_wake eq equality m (reverse d.events) v [] ps (stands_at w owed ps d es s at) k h x qs d tells.mid tells.ends (ap (λ (z : Held K V). waits_for z.standing) is_it) s (reverse e.events) ys
          (ap (λ (J : List (Told K V)). commits_of (reverse J)) (told_events eq v k h (WithValue x) t ps qs d e tells) ∙ (ap commits_of (back_more d.events t) ∙ quiet_commits (reverse d.events)))
          at.cells (trace_value eq m (commits_of (reverse d.events)) v law k a.answered x trace.computed trace.goes trace.ends) woken

      module _ (rs : List (K × Share K (Held K V))) (f : DeskSeen K V) (ys : List (Wakes K V)) (so : WakesSo eq k ys qs rs e f) (told : (j : K) → asks eq rs k (Tasked j) ≡ false) where
        pub ended_events : f.events ≡ d.events ++ t ∷ []
        ended_events = so.desk.events ∙ told_events eq v k h (WithValue x) t ps qs d e tells

        back : reverse f.events ≡ t ∷ reverse d.events
        back = ap reverse ended_events ∙ back_more d.events t

        module _ (w : World K V) (owed : ℕ) (es : List (K × Stored K V)) (s : Seen K V) (at : AtHand eq m v w owed ps d es s) where
          asked : (q : K) (b : By K) → asks eq qs q b ≡ asks eq ps q b
          asked = asks_same (reverse d.events) [] ps (stands_at w owed ps d es s at) a out qs tells.ends.asks

          pub at_ended : Working eq m v [] w owed rs f → AreTasked eq rs → (fs : List (K × Stored K V)) → EntriesStand eq m (t ∷ reverse d.events) fs → AtHand eq m v w owed rs f fs s
          at_ended work tasked fs entries = record {
            working = work;
            told = so.desk.ended ∙ (told_ended eq v k h (WithValue x) t ps qs d e tells ∙ at.told);
            tasked = tasked;
            done = λ q on. (
                let b = and_parts (is_live eq ps q) (not (eq k q)) (sym (so.live q ∙ tells.ends.live q) ∙ on) in
                let r = at.done q b.0 in
                (r.0, so.elsewhere q r.0 (not_true (eq k q) b.1) ∙ (asked q r.0 ∙ r.1)));
            opened = subst (λ (R : List (Told K V)). 0 < open_count R v) (sym back) (subst (λ n. 0 < n) (sym (quiet_open (reverse d.events) v)) at.opened);
            entries = subst (λ (R : List (Told K V)). EntriesStand eq m R fs) (sym back) entries;
            cells = subst (λ (R : List (Told K V)). CellsStand eq R s) (sym back) (record {
              are = subst (λ (C : List (List (K × V))). AreOf eq C s) (sym (quiet_commits (reverse d.events))) at.cells.are;
              newest = at.cells.newest ∙ ap length (sym (quiet_commits (reverse d.events)));
            });
          }
            where
              not_true : (b : Bool) → not b ≡ true → b ≡ false
              not_true true c = let z : false ≡ true = c in cc
              not_true false c = refl

          -- what has become of the tasks
          module _ (woken : AreWoken eq m s v k x ps ys) where
            not_out : (y : Wakes K V) → Has ys y → (b : Assigned K V) → task_at eq ps y.place.1 ≡ Some (held_of b IsOut) → ⊥
            not_out y i b there =
                let r = woken.answered y i in
                let same : r.held ≡ held_of b IsOut = same_Some r.held (held_of b IsOut) (sym r.was ∙ there) in
                none-some r.follows.waits.keys (sym (ap (λ (z : Held K V). waits_for z.standing) same) ∙ ap (λ (z : Held K V). waits_for z.standing) r.follows.held)

            not_ready_out : (n b : Assigned K V) → Some (held_of n IsReady) ≡ Some (held_of b IsOut) → ⊥
            not_ready_out n b q = let i : held_of n IsReady ≡ held_of b IsOut = cc in let c : true ≡ false = ap (λ (z : Held K V). ready_in z.standing) i in cc

            not_ended_out : (n : Name K) (b : Assigned K V) → Some (held_ended n (WithValue x)) ≡ Some (held_of b IsOut) → ⊥
            not_ended_out n b q = let i : held_ended n (WithValue x) ≡ held_of b IsOut = cc in let c : false ≡ true = ap (λ (z : Held K V). goes_on z.standing) i in cc

            among : (zs : List (Wakes K V)) (j : K) → ((y : Wakes K V) × Has zs y × (y.place.1 ≡ j)) ⊎ ((y : Wakes K V) → Has zs y → y.place.1 ≡ j → ⊥)
            among [] j = inr (λ y i q. i)
            among (z ∷ zs) j = elim (same_or_other eq equality z.place.1 j) as (λ _. ((y : Wakes K V) × Has (z ∷ zs) y × (y.place.1 ≡ j)) ⊎ ((y : Wakes K V) → Has (z ∷ zs) y → y.place.1 ≡ j → ⊥)) [
              | inl q ↦ inl (z, inl refl, q)
              | inr o ↦ elim (among zs j) as (λ _. ((y : Wakes K V) × Has (z ∷ zs) y × (y.place.1 ≡ j)) ⊎ ((y : Wakes K V) → Has (z ∷ zs) y → y.place.1 ≡ j → ⊥)) [
                | inl r ↦ inl (r.0, inr r.1, r.2)
                | inr n ↦ inr (λ y i. elim i as (λ _. y.place.1 ≡ j → ⊥) [
                  | inl q ↦ (λ p. let c : true ≡ false = sym (subst (λ u. eq u j ≡ true) (sym (ap (λ (u : Wakes K V). u.place.1) q ∙ p)) (equality.itself j)) ∙ o in cc)
                  | inr l ↦ n y l
                ])
              ]
            ]

            here : task_at eq qs k ≡ Some (held_ended a.name (WithValue x))
            here = tells.ends.tasks k ∙ (ap (λ b. cond b (Some (held_ended h.name (WithValue x))) (task_at eq ps k)) (equality.itself k) ∙ ap (λ (z : Held K V). Some (held_ended z.name (WithValue x))) is_it)

            before : (j : K) → eq k j ≡ false → task_at eq qs j ≡ task_at eq ps j
            before j n = tells.ends.tasks j ∙ ap (λ b. cond b (Some (held_ended h.name (WithValue x))) (task_at eq ps j)) n

            pub ends_and_wakes : EndsAndWakes eq m s v k x a.name ps rs
            ends_and_wakes = record {
              ended = so.others k (λ y i q. not_out y i a (subst (λ z. task_at eq ps z ≡ Some (held_of a IsOut)) (sym q) out)) ∙ here;
              woken = λ j on alone. elim (woken.others j on) as (λ _. (n : Ahead K V) × IsAnswered eq m s v k x ps j n × (task_at eq rs j ≡ Some (held_of n.job IsReady))) [
                | inl r ↦ (r.0.ahead, subst (λ z. IsAnswered eq m s v k x ps z r.0.ahead) r.2 (woken.answered r.0 r.1), subst (λ z. task_at eq rs z ≡ Some (held_of r.0.ahead.job IsReady)) r.2 (so.woken r.0 r.1))
                | inr r ↦ (let c : true ≡ false = sym (alone r.0 r.2) ∙ r.1 in cc)
              ];
              others = λ j n no. so.others j (λ y i q. no (subst (λ z. asks eq ps k (Tasked z) ≡ true) q (woken.asking y i)) (subst (AsksAlone eq k ps) q (woken.only y i))) ∙ before j n;
              still_out = λ j b n on. so.others j (λ y i q. not_out y i b (ap (task_at eq ps) q ∙ on)) ∙ (before j n ∙ on);
              was_out = λ j b on. elim (among ys j) as (λ _. task_at eq ps j ≡ Some (held_of b IsOut)) [
                | inl r ↦ absurd (not_ready_out r.0.ahead.job b (sym (subst (λ z. task_at eq rs z ≡ Some (held_of r.0.ahead.job IsReady)) r.2 (so.woken r.0 r.1)) ∙ on))
                | inr n ↦ elim (same_or_other eq equality k j) as (λ _. task_at eq ps j ≡ Some (held_of b IsOut)) [
                  | inl q ↦ absurd (not_ended_out a.name b (sym here ∙ (ap (task_at eq qs) q ∙ (sym (so.others j n) ∙ on))))
                  | inr o ↦ sym (before j o) ∙ (sym (so.others j n) ∙ on)
                ]
              ];
              told = told;
              elsewhere = λ q b n. so.elsewhere q b n ∙ asked q b;
              promises = λ q n. so.promises q n ∙ asked q (Promised n);
            }

  -- ---- it begins anew

  module _ (ps qs : List (K × Share K (Held K V))) (d e : DeskSeen K V) (g h : Held K V) (c : Reason K) (begins : BeginsAnew eq v k h g (Start v k c) ps qs d e) where
    pub begun_events : e.events ≡ d.events ++ Start v k c ∷ []
    begun_events = ap (λ (y : DeskSeen K V). y.events) begins.desk ∙ ap (λ (J : List (Told K V)). J ++ Start v k c ∷ []) begins.returns.rest.events

    pub at_begun : (w : World K V) (owed : ℕ) (es : List (K × Stored K V)) (s : Seen K V) → AtHand eq m v w owed ps d es s → Working eq m v [] w owed qs e → AreTasked eq qs → AtHand eq m v w owed qs e es s
    at_begun w owed es s at work tasked = record {
      working = work;
      told = ap (λ (y : DeskSeen K V). y.ended) begins.desk ∙ (begins.returns.rest.ended ∙ at.told);
      tasked = tasked;
      done = λ q on. (let r = at.done q (sym (begins.live q) ∙ on) in (r.0, begins.asks q r.0 ∙ r.1));
      opened = subst (λ (R : List (Told K V)). 0 < open_count R v) (sym back) at.opened;
      entries = subst (λ (R : List (Told K V)). EntriesStand eq m R es) (sym back) (stand_start eq m (reverse d.events) es at.entries v k c);
      cells = subst (λ (R : List (Told K V)). CellsStand eq R s) (sym back) (record { are = at.cells.are; newest = at.cells.newest });
    }
      where
        back : reverse e.events ≡ Start v k c ∷ reverse d.events
        back = ap reverse begun_events ∙ back_more d.events (Start v k c)
