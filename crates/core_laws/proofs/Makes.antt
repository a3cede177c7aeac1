-- A task is made: it computes, it has the value that was looked at, or it checks an earlier value.
use Rattle.std.proofs.Common.{◌≡◌, ◌≢◌, ◌≤◌, ◌⊎◌, inl, inr, ℕ, suc, Bool, true, false, ◌&&◌, ◌||◌, eqb, eq-eqb, List, [], ◌∷◌, length, Option, Some, None, refl, sym, ap, ◌∙◌, cond, arith}
use Rattle.std.proofs.lemmas.Option.{none-some}
use Rattle.dice_key.specs.Meaning.{Meaning, Answered}
use Rattle.dice_key.specs.Lawful.{IsLawful, IsEquality}
use Rattle.dice_key.specs.declared.universe.Kind.TheVariants.{Injected}
use Rattle.dice_model.specs.Asks.{Reaches}
use Rattle.task_share.specs.Asked.{Promised, Tasked, Asked}
use Rattle.journal.specs.declared.event.Told.{Told}
use Rattle.journal.specs.declared.event.Told.TheVariants.{Start, Keep}
use Rattle.journal.specs.declared.event.Reason.{Reason}
use Rattle.journal.specs.Events.{ByValue, names_by, commits_of, decided, asked_in_epoch, is_running, is_base}
use Rattle.journal.specs.Law.{IsWanted, IsTrueCause, KeepsValue, IsAllowed}
use Rattle.core_laws.specs.Tasks.{Standing, Works, Ended, WithValue, WithCycle, WithNothing, IsReady, Task, goes_on, value_in, is_going, is_computing, batch_of, value_of}
use Rattle.core_laws.specs.Stands.{VersionStands, TaskStands, IsStanding, WorkStands, WasSeen}
use Rattle.core_laws.specs.Changes.{Puts, SameAsks, Lives}
use Rattle.core_laws.proofs.Shapes.{Shape, shape_of, other_way, asks_nothing, eased, put_each, put_fact, put_none, idle_batch, idle_computes, and_none, not_both}
use Rattle.lists.specs.Lists.{Has}
use Rattle.std.proofs.lemmas.Bool.{or_right}
use Rattle.dice_jobs.specs.Jobs.{Checks, Computes, Work}

module _ {K : Type 0} (eq : K → K → Bool) where
  names_here : IsEquality eq → (v : ℕ) (k : K) → names_by eq v k v k ≡ true
  names_here equality v k = ap (λ a. a && eq k k) (eq-eqb v v refl) ∙ equality.itself k

  names_other : IsEquality eq → (v : ℕ) (k q : K) → eq k q ≡ false → names_by eq v k v q ≡ false
  names_other equality v k q n = ap (λ b. eqb v v && b) (other_way eq equality k q n) ∙ and_none (eqb v v)

-- ---- what a Start and a Keep leave of other tasks

module _ {K V : Type 0} (eq : K → K → Bool) (m : Meaning K V) (R : List (Told K V)) where
  start_work : (w : ℕ) (q : K) (c : Reason K) (v : ℕ) (k : K) (o : Work K V) (A : List (Answered K V)) → WorkStands eq m R v k o A → WorkStands eq m (Start w q c ∷ R) v k o A
  start_work w q c v k Computes A h = h
  start_work w q c v k (Checks x T b) A h = (record { within = h.0.within; base = h.0.base; traced = h.0.traced; same = h.0.same; lasts = h.0.lasts }, h.1, h.2)

  start_standing : (w : ℕ) (q : K) (c : Reason K) (v : ℕ) (k : K) (p : Standing K V) → IsStanding eq m R v k p → IsStanding eq m (Start w q c ∷ R) v k p
  start_standing w q c v k (Works o p A) h = record { undecided = h.undecided; work = start_work w q c v k o A h.work; asks = h.asks }
  start_standing w q c v k (Ended (WithValue x)) h = h
  start_standing w q c v k (Ended (WithCycle p)) h = h
  start_standing w q c v k (Ended WithNothing) h = h

  -- a Start leaves what is known of each task
  pub start_task : (w : ℕ) (q : K) (c : Reason K) (v : ℕ) (k : K) (t : Task K V) → TaskStands eq m R v k t → TaskStands eq m (Start w q c ∷ R) v k t
  start_task w q c v k t h = record {
    computed = h.computed;
    within = h.within;
    born = (let b = h.born in let l : length (Start w q c ∷ R) ≡ suc (length R) = refl in omega arith);
    once = h.once;
    asked = h.asked;
    reached = h.reached;
    standing = start_standing w q c v k t.standing h.standing;
  }

  keep_work : (w : ℕ) (q : K) (b : ℕ) (v : ℕ) (k : K) (o : Work K V) (A : List (Answered K V)) → WorkStands eq m R v k o A → WorkStands eq m (Keep w q b ∷ R) v k o A
  keep_work w q b v k Computes A h = h
  keep_work w q b v k (Checks x T c) A h = (
    record {
      traced = h.0.traced;
      within = h.0.within;
      same = h.0.same;
      lasts = h.0.lasts;
      base = or_right (names_by eq w q c k) (is_base eq R c k) h.0.base;
    },
    h.1,
    h.2,
  )

  keep_decided : (w : ℕ) (q : K) (b : ℕ) (v : ℕ) (k : K) → names_by eq w q v k ≡ false → decided eq (Keep w q b ∷ R) v k ≡ decided eq R v k
  keep_decided w q b v k n = ap (λ c. cond c (Some ByValue) (decided eq R v k)) n

  keep_standing : (w : ℕ) (q : K) (b : ℕ) (v : ℕ) (k : K) → names_by eq w q v k ≡ false → (p : Standing K V) → IsStanding eq m R v k p → IsStanding eq m (Keep w q b ∷ R) v k p
  keep_standing w q b v k n (Works o p A) h = record { undecided = keep_decided w q b v k n ∙ h.undecided; work = keep_work w q b v k o A h.work; asks = h.asks }
  keep_standing w q b v k n (Ended (WithValue x)) h = (h.0, keep_decided w q b v k n ∙ h.1)
  keep_standing w q b v k n (Ended (WithCycle p)) h = (h.0, keep_decided w q b v k n ∙ h.1)
  keep_standing w q b v k n (Ended WithNothing) h = (h.0, keep_decided w q b v k n ∙ h.1)

  -- a Keep leaves what is known of each task of another key or version
  pub keep_task : (w : ℕ) (q : K) (b : ℕ) (v : ℕ) (k : K) → names_by eq w q v k ≡ false → (t : Task K V) → TaskStands eq m R v k t → TaskStands eq m (Keep w q b ∷ R) v k t
  keep_task w q b v k n t h = record {
    computed = h.computed;
    within = h.within;
    born = (let e = h.born in let l : length (Keep w q b ∷ R) ≡ suc (length R) = refl in omega arith);
    once = h.once;
    asked = h.asked;
    reached = h.reached;
    standing = keep_standing w q b v k n t.standing h.standing;
  }

  -- a task of a key that is not decided has not ended with a value
  pub undecided_no_value : (v : ℕ) (k : K) (o : Option (Task K V)) → ((t : Task K V) → o ≡ Some t → TaskStands eq m R v k t) → decided eq R v k ≡ None → (x : V) → value_of o ≡ Some x → ⊥
  undecided_no_value v k None each n x e = none-some x e
  undecided_no_value v k (Some t) each n x e = of_standing t.standing (each t refl).standing e
    where
      of_standing : (p : Standing K V) → IsStanding eq m R v k p → value_in p ≡ Some x → ⊥
      of_standing (Works w p A) h f = none-some x f
      of_standing (Ended (WithValue y)) h f = none-some ByValue (sym n ∙ h.1)
      of_standing (Ended (WithCycle p)) h f = none-some x f
      of_standing (Ended WithNothing) h f = none-some x f

-- ---- tasks that are made

module _ {K V : Type 0} (eq : K → K → Bool) (equality : IsEquality eq) (m : Meaning K V) (law : IsLawful m) (R : List (Told K V)) (v : ℕ) where
  -- what a version has for a task that is put if none is at work
  made_shape : (W : List K) (s u : Asked K) (ts us : K → Option (Task K V)) (k : K) (t : Task K V) → VersionStands eq m R v W s ts → decided eq R v k ≡ None → is_going (ts k) ≡ false → batch_of (Some t) ≡ None
      → Puts eq k (Some t) ts us → Lives eq k (goes_on t.standing) s u → SameAsks eq s u → Shape m W u us
  made_shape W s u ts us k t h undecided idle ready put lives same = eased eq equality m W s u ts us k t (shape_of eq m R v W s ts h) put lives
      (λ q a e. sym (same q a) ∙ e)
      (λ q i n e. same q (Tasked i) ∙ e)
      (λ q e. asks_nothing eq m R v W s ts h k (idle_batch (ts k) idle) q (sym (same q (Tasked k)) ∙ e))
      ready
      (λ i e. elim (h.awaited k i e) as (λ _. (goes_on t.standing ≡ true) ⊎ Has W k) [ inl l ↦ absurd (not_both l (h.live k ∙ idle)) | inr g ↦ inr g ])
      (λ x e. absurd (undecided_no_value eq m R v k (ts k) (λ y f. h.each k y f) undecided x e))

  -- a wanted key that is not decided and has no task at work: its task is made, and computes
  pub starts : (W : List K) (s u : Asked K) (ts us : K → Option (Task K V)) (k : K) (b : ℕ) (c : Reason K) → VersionStands eq m R v W s ts → m.kind k ≢ Injected → IsWanted eq m R v k → v ≤ length (commits_of R)
      → (once : K) → asked_in_epoch eq R v once ≡ true → Reaches eq m (commits_of R) v once k → decided eq R v k ≡ None → is_going (ts k) ≡ false → IsTrueCause eq m R v k c → b ≤ length R
      → Puts eq k (Some (record { born = b; standing = Works Computes IsReady [] })) ts us → Lives eq k true s u → SameAsks eq s u
      → IsAllowed eq m R (Start v k c) × VersionStands eq m (Start v k c ∷ R) v W u us
  starts W s u ts us k b c h computed wanted within once asked reached undecided idle cause born put lives same =
      let t : Task K V = record { born = b; standing = Works Computes IsReady [] } in
      let shape = made_shape W s u ts us k t h undecided idle refl put lives same in (
        (wanted, (undecided, h.running k ∙ idle_computes (ts k) idle), cause, computed),
        record {
          promised = λ q i e. h.promised q i (sym (same q (Promised i)) ∙ e);
          promises = λ i a e o n. same a.key (Promised i) ∙ h.promises i a e o n;
          waits = λ d q e. h.waits d q (sym (same d (Tasked q)) ∙ e);
          waiting = shape.waiting;
          awaited = shape.awaited;
          no_cycle = shape.no_cycle;
          stuck = shape.stuck;
          batch = shape.batch;
          live = shape.live;
          each = put_each eq equality k t ts us put (TaskStands eq m (Start v k c ∷ R) v)
              (record {
                computed = computed;
                within = within;
                born = (let l : length (Start v k c ∷ R) ≡ suc (length R) = refl in omega arith);
                once = once;
                asked = asked;
                reached = reached;
                standing = record { undecided = undecided; work = tt; asks = tt };
              })
              (λ q x n e. start_task eq m R v k c v q x (h.each q x e));
          running = put_fact eq equality k t ts us put (λ q o. is_running eq (Start v k c ∷ R) v q ≡ is_computing o)
              (ap (λ a. a || is_running eq R v k) (names_here eq equality v k))
              (λ q n. ap (λ a. a || is_running eq R v q) (names_other eq equality v k q n) ∙ h.running q);
          fresh = λ q e o. h.fresh q (put_none eq equality k t ts us put q e).1 o;
        },
      )

  -- likewise, if the value that was looked at is the key's value here: its task has ended with it
  pub matches : (W : List K) (s u : Asked K) (ts us : K → Option (Task K V)) (k : K) (n b : ℕ) → VersionStands eq m R v W s ts → m.kind k ≢ Injected → IsWanted eq m R v k → v ≤ length (commits_of R)
      → (once : K) → asked_in_epoch eq R v once ≡ true → Reaches eq m (commits_of R) v once k → decided eq R v k ≡ None → is_going (ts k) ≡ false → (kept : KeepsValue eq m R v k b) → n ≤ length R
      → Puts eq k (Some (record { born = n; standing = Ended (WithValue kept.value) })) ts us → Lives eq k false s u → SameAsks eq s u
      → IsAllowed eq m R (Keep v k b) × VersionStands eq m (Keep v k b ∷ R) v W u us
  matches W s u ts us k n b h computed wanted within once asked reached undecided idle kept born put lives same =
      let t : Task K V = record { born = n; standing = Ended (WithValue kept.value) } in
      let shape = made_shape W s u ts us k t h undecided idle refl put lives same in (
        (wanted, (undecided, h.running k ∙ idle_computes (ts k) idle), kept, computed),
        record {
          promised = λ q i e. h.promised q i (sym (same q (Promised i)) ∙ e);
          promises = λ i a e o j. same a.key (Promised i) ∙ h.promises i a e o j;
          waits = λ d q e. h.waits d q (sym (same d (Tasked q)) ∙ e);
          waiting = shape.waiting;
          awaited = shape.awaited;
          no_cycle = shape.no_cycle;
          stuck = shape.stuck;
          batch = shape.batch;
          live = shape.live;
          each = put_each eq equality k t ts us put (TaskStands eq m (Keep v k b ∷ R) v)
              (record {
                computed = computed;
                within = within;
                born = (let l : length (Keep v k b ∷ R) ≡ suc (length R) = refl in omega arith);
                once = once;
                asked = asked;
                reached = reached;
                standing = (kept.here, ap (λ c. cond c (Some ByValue) (decided eq R v k)) (names_here eq equality v k));
              })
              (λ q x o e. keep_task eq m R v k b v q (names_other eq equality v k q o) x (h.each q x e));
          running = put_fact eq equality k t ts us put (λ q o. is_running eq (Keep v k b ∷ R) v q ≡ is_computing o)
              (h.running k ∙ idle_computes (ts k) idle)
              (λ q o. h.running q);
          fresh = λ q e o. (let r = put_none eq equality k t ts us put q e in keep_decided eq m R v k b v q (names_other eq equality v k q r.0) ∙ h.fresh q r.1 o);
        },
      )

  -- likewise, if an earlier value has to be checked: its task checks it
  pub checks : (W : List K) (s u : Asked K) (ts us : K → Option (Task K V)) (k : K) (n : ℕ) (x : V) (T : List (Answered K V)) (b : ℕ) → VersionStands eq m R v W s ts → m.kind k ≢ Injected → v ≤ length (commits_of R)
      → (once : K) → asked_in_epoch eq R v once ≡ true → Reaches eq m (commits_of R) v once k → decided eq R v k ≡ None → is_going (ts k) ≡ false → WasSeen eq m R k x T b → n ≤ length R
      → Puts eq k (Some (record { born = n; standing = Works (Checks x T b) IsReady [] })) ts us → Lives eq k true s u → SameAsks eq s u
      → VersionStands eq m R v W u us
  checks W s u ts us k n x T b h computed within once asked reached undecided idle seen born put lives same =
      let t : Task K V = record { born = n; standing = Works (Checks x T b) IsReady [] } in
      let shape = made_shape W s u ts us k t h undecided idle refl put lives same in
      record {
        promised = λ q i e. h.promised q i (sym (same q (Promised i)) ∙ e);
        promises = λ i a e o j. same a.key (Promised i) ∙ h.promises i a e o j;
        waits = λ d q e. h.waits d q (sym (same d (Tasked q)) ∙ e);
        waiting = shape.waiting;
        awaited = shape.awaited;
        no_cycle = shape.no_cycle;
        stuck = shape.stuck;
        batch = shape.batch;
        live = shape.live;
        each = put_each eq equality k t ts us put (TaskStands eq m R v)
            (record { computed = computed; within = within; born = born; once = once; asked = asked; reached = reached; standing = record { undecided = undecided; work = (seen, tt, tt); asks = tt } })
            (λ q y o e. h.each q y e);
        running = put_fact eq equality k t ts us put (λ q o. is_running eq R v q ≡ is_computing o) (h.running k ∙ idle_computes (ts k) idle) (λ q o. h.running q);
        fresh = λ q e o. (let r = put_none eq equality k t ts us put q e in h.fresh q r.1 o);
      }
