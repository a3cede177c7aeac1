-- Tasks that end: with a value that they computed or kept, or given up. And a check that finds a change computes.
use Rattle.std.proofs.Common.{◌≡◌, ◌≢◌, ◌⊎◌, inl, inr, ℕ, suc, Bool, true, false, cond, not, ◌&&◌, ◌||◌, List, [], ◌∷◌, ◌++◌, length, map, Option, Some, None, refl, sym, ap, ◌∙◌, subst, arith}
use Rattle.std.specs.List.{AllZip}
use Rattle.std.proofs.lemmas.Option.{none-some}
use Rattle.dice_key.specs.Meaning.{Meaning, Answered, Ends}
use Rattle.dice_key.specs.Lawful.{IsLawful, IsEquality}
use Rattle.dice_key.specs.declared.universe.Kind.TheVariants.{Injected}
use Rattle.dice_model.specs.Eval.{HasValue}
use Rattle.dice_model.specs.Asks.{AllTrue, Goes, IsTrace}
use Rattle.dice_model.proofs.Traces.{trace_value}
use Rattle.dice_model.proofs.Alike.{same_answers}
use Rattle.task_share.specs.Asked.{By, Promised, Tasked, Asked}
use Rattle.journal.specs.declared.event.Told.{Told}
use Rattle.journal.specs.declared.event.Told.TheVariants.{Start, Keep, End, Lost}
use Rattle.journal.specs.declared.event.Reason.TheVariants.{Differs}
use Rattle.journal.specs.Events.{ByValue, commits_of, decided, is_running, lost_in_epoch}
use Rattle.journal.specs.Law.{DiffersFirst, IsAllowed, IsWanted, Backs}
use Rattle.core_laws.specs.Tasks.{Phase, IsReady, IsOut, Outcome, WithValue, WithNothing, Standing, Works, Ended, Task, goes_on, computes, waits_for, value_in, is_going, is_computing, batch_of, value_of}
use Rattle.core_laws.specs.Stands.{IsNextOf, WasSeen, OutcomeStands, AtWork, IsStanding, TaskStands, VersionStands}
use Rattle.core_laws.specs.Changes.{Puts, SameAsks, SameLives, Lives, Withdraws, ChangesFirst}
use Rattle.core_laws.proofs.Shapes.{not_both, same_or_other, put_each, put_fact, put_none, Shape, shape_of, asks_nothing, eased}
use Rattle.core_laws.proofs.OfKey.{asked_before, asked_by_another, promise_stays, others_stay, LeavesOthers, named, start_leaves, keep_leaves, end_leaves, lost_leaves, task_with, task_on}
use Rattle.lists.specs.Lists.{Has}
use Rattle.dice_jobs.proofs.Followed.{changed_front, goes_changed, same_front}
use Rattle.dice_jobs.specs.Jobs.{Checks, Computes, Work}
use Rattle.dice_jobs.specs.Truths.{Follows}

-- a task at work has no value yet
pub no_value_at_work : {K V : Type 0} (d : Standing K V) → goes_on d ≡ true → value_in d ≡ None
no_value_at_work (Works w p A) e = refl
no_value_at_work (Ended o) e = cc

-- the key of a task at work is undecided
pub undecided_at_work : {K V : Type 0} (eq : K → K → Bool) (m : Meaning K V) (R : List (Told K V)) (v : ℕ) (k : K) (t : Task K V) → goes_on t.standing ≡ true → TaskStands eq m R v k t → decided eq R v k ≡ None
undecided_at_work {K} {V} eq m R v k t e h = by_standing t.standing e h.standing
  where
    by_standing : (d : Standing K V) → goes_on d ≡ true → IsStanding eq m R v k d → decided eq R v k ≡ None
    by_standing (Works w p A) e i = i.undecided
    by_standing (Ended o) e i = cc

-- a task at work is put elsewhere, so that it waits for nothing and its key asks for nothing, by an event of its key or beside one
module _ {K V : Type 0} (eq : K → K → Bool) (equality : IsEquality eq) (m : Meaning K V) (R S : List (Told K V)) (v : ℕ) (k : K) (f : LeavesOthers eq R S v k)
    (W : List K) (s u : Asked K) (ts us : K → Option (Task K V)) (h : VersionStands eq m R v W s ts) (t : Task K V) (there : ts k ≡ Some t) where
  -- the parts that are read in the journal
  task_put : (d : Standing K V) (X : List K) → Puts eq k (Some (record { born = t.born; standing = d })) ts us → IsStanding eq m S v k d → is_running eq S v k ≡ computes d
      → ((q : K) (a : By K) → u.asks q a ≡ true → s.asks q a ≡ true) → ((q : K) (i : ℕ) → s.asks q (Promised i) ≡ true → u.asks q (Promised i) ≡ true) → Shape m X u us → VersionStands eq m S v X u us
  task_put d X p now runs fewer promise_on shape = record {
    promised = λ q i e. (let a = h.promised q i (fewer q (Promised i) e) in (a.0, f.live i ∙ a.1, f.opened a.0.opened ∙ a.2, a.3));
    promises = λ i a e at c. promise_on a.key i (h.promises i a (sym (f.live i) ∙ e) (sym (f.opened a.opened) ∙ at) c);
    waits = λ q j e. rw f.commits (h.waits q j (fewer q (Tasked j) e));
    waiting = shape.waiting;
    awaited = shape.awaited;
    no_cycle = shape.no_cycle;
    stuck = shape.stuck;
    batch = shape.batch;
    live = shape.live;
    each = put_each eq equality k (record { born = t.born; standing = d }) ts us p (TaskStands eq m S v) (task_with eq m R S v k f k t d (h.each k t there) now) (λ q r n e. task_on eq m R S v k f q r n (h.each q r e));
    running = put_fact eq equality k (record { born = t.born; standing = d }) ts us p (λ q o. is_running eq S v q ≡ is_computing o) runs (λ q n. f.runs q n ∙ h.running q);
    fresh = λ q e c. (let a = put_none eq equality k (record { born = t.born; standing = d }) ts us p q e in f.decides q a.0 ∙ h.fresh q a.1 (rw f.count at c));
  }

  module _ (working : goes_on t.standing ≡ true) where
    no_value : (d : Standing K V) (x : V) → value_of (ts k) ≡ Some x → (y : V) × (value_in d ≡ Some y)
    no_value d x e = absurd (none-some x (sym (ap value_of there ∙ no_value_at_work t.standing working) ∙ e))

    -- one more key whose askers are to be told
    wider : Shape m W s ts → Shape m (k ∷ W) s ts
    wider i = record { waiting = i.waiting; awaited = λ q j e. elim (i.awaited q j e) as (λ _. (s.live q ≡ true) ⊎ Has (k ∷ W) q) [ inl a ↦ inl a | inr b ↦ inr (inr b) ]; no_cycle = i.no_cycle; stuck = i.stuck; batch = i.batch; live = i.live }

    -- it ends, and its asks are withdrawn
    pub task_ends : (o : Outcome K V) → Withdraws eq k s u → Lives eq k false s u → Puts eq k (Some (record { born = t.born; standing = Ended o })) ts us → OutcomeStands eq m S v k o → is_running eq S v k ≡ false → VersionStands eq m S v (k ∷ W) u us
    task_ends o w l p now stops = task_put (Ended o) (k ∷ W) p now stops (asked_before eq k s u w) (promise_stays eq k s u w)
        (eased eq equality m (k ∷ W) s u ts us k (record { born = t.born; standing = Ended o }) (wider (shape_of eq m R v W s ts h)) p l (asked_before eq k s u w) (λ q i n a. others_stay eq k s u w q i n a)
        (λ q a. not_both (equality.itself k) (asked_by_another eq k s u w q k a)) refl (λ i a. inr (inl refl)) (no_value (Ended o)))

    -- it goes on with other work
    pub task_turns : (d : Standing K V) → waits_for t.standing ≡ None → goes_on d ≡ true → waits_for d ≡ None → SameAsks eq s u → SameLives eq s u → Puts eq k (Some (record { born = t.born; standing = d })) ts us → IsStanding eq m S v k d → is_running eq S v k ≡ computes d → VersionStands eq m S v W u us
    task_turns d waited works waits sa sl p now runs = task_put d W p now runs asked_then (λ q i e. sa q (Promised i) ∙ e)
        (eased eq equality m W s u ts us k (record { born = t.born; standing = d }) (shape_of eq m R v W s ts h) p lives asked_then (λ q i n e. sa q (Tasked i) ∙ e)
        (λ q a. asks_nothing eq m R v W s ts h k (ap batch_of there ∙ waited) q (asked_then q (Tasked k) a)) waits (λ i a. inl works) (no_value d))
      where
        asked_then : (q : K) (a : By K) → u.asks q a ≡ true → s.asks q a ≡ true
        asked_then q a e = sym (sa q a) ∙ e

        lives : Lives eq k (goes_on d) s u
        lives q = elim (same_or_other eq equality k q) as (λ _. u.live q ≡ cond (eq k q) (goes_on d) (s.live q)) [
          | inl i ↦ subst (λ x. u.live x ≡ cond (eq k x) (goes_on d) (s.live x)) i (sl k ∙ (h.live k ∙ (ap is_going there ∙ (working ∙ (sym works ∙ sym (ap (λ b. cond b (goes_on d) (s.live k)) (equality.itself k)))))))
          | inr n ↦ sl q ∙ sym (ap (λ b. cond b (goes_on d) (s.live q)) n)
        ]

module _ {K V : Type 0} where
  -- answers to all batches of a trace that are those of the trace
  pub same_batches : (T A : List (Answered K V)) → Follows T A → map (λ a. a.values) A ≡ map (λ b. b.values) T → A ≡ T
  same_batches [] [] g e = refl
  same_batches [] (a ∷ A) g e = absurd g
  same_batches (b ∷ T) [] g e = cc
  same_batches (b ∷ T) (a ∷ A) g e =
      let z : a.values ∷ map (λ a. a.values) A ≡ b.values ∷ map (λ b. b.values) T = e in
      let x : a.values ≡ b.values = cc in
      let y : map (λ a. a.values) A ≡ map (λ b. b.values) T = cc in
      let r = same_batches T A g.1 y in
      let i : a ≡ b = λ i. record { keys = g.0 i; values = x i } in
      λ j. i j ∷ r j

zip_split : {X Y : Type 0} (P : X → Y → Type 0) (ks ls : List X) (d : X) (xs ys : List Y) (y : Y) → length ks ≡ length xs → AllZip P (ks ++ d ∷ ls) (xs ++ y ∷ ys) → AllZip P ks xs × P d y
zip_split P [] ls d [] ys y e z = (tt, z.0)
zip_split P [] ls d (x ∷ xs) ys y e z = let l : length (x ∷ xs) ≡ suc (length xs) = refl in absurd (omega arith)
zip_split P (k ∷ ks) ls d [] ys y e z = let l : length (k ∷ ks) ≡ suc (length ks) = refl in absurd (omega arith)
zip_split P (k ∷ ks) ls d (x ∷ xs) ys y e z =
    let a : length (k ∷ ks) ≡ suc (length ks) = refl in
    let b : length (x ∷ xs) ≡ suc (length xs) = refl in
    let r = zip_split P ks ls d xs ys y (omega arith) z.1 in
    ((z.0, r.0), r.1)

-- after answers that are those of a trace's first batches, the trace's next batch is asked
pub next_of_trace : {K V : Type 0} (eq : K → K → Bool) (m : Meaning K V) (T A before after : List (Answered K V)) (b : Answered K V) → Follows T A → T ≡ before ++ b ∷ after → map (λ a. a.values) A ≡ map (λ b. b.values) before → IsNextOf eq m T A b.keys
next_of_trace eq m T A before after b g e same =
    let r = same_front before (b ∷ after) A (subst (λ B. Follows B A) e g) same in
    record { batch = b; later = after; trace_is = e ∙ ap (λ B. B ++ b ∷ after) (sym r); keys_are = refl }

module _ {K V : Type 0} (eq : K → K → Bool) (m : Meaning K V) (C : List (List (K × V))) (v : ℕ) where
  pub last_values : (A : List (Answered K V)) (b : Answered K V) → AllTrue (HasValue eq m C v) (A ++ b ∷ []) → AllTrue (HasValue eq m C v) A × AllZip (HasValue eq m C v) b.keys b.values
  last_values [] b h = (tt, h.0)
  last_values (a ∷ A) b h = let r = last_values A b h.1 in ((h.0, r.0), r.1)

module _ {K V : Type 0} (eq : K → K → Bool) (equality : IsEquality eq) (m : Meaning K V) (law : IsLawful m) (R : List (Told K V)) (v : ℕ)
    (W : List K) (s u : Asked K) (ts us : K → Option (Task K V)) (k : K) (t : Task K V) (h : VersionStands eq m R v W s ts) (there : ts k ≡ Some t) where
  at_work : (w : Work K V) (p : Phase K) (A : List (Answered K V)) → t.standing ≡ Works w p A → AtWork eq m R v k w p A
  at_work w p A e = subst (IsStanding eq m R v k) e (h.each k t there).standing

  runs_as : (d : Standing K V) → t.standing ≡ d → is_running eq R v k ≡ computes d
  runs_as d e = h.running k ∙ (ap is_computing there ∙ ap computes e)

  -- a run that is done: its End is allowed, and its task ends with its value
  pub ends : (A : List (Answered K V)) (x : V) → t.standing ≡ Works Computes IsOut A → m.next k A v ≡ Ends x → IsWanted eq m R v k → Withdraws eq k s u → Lives eq k false s u → Puts eq k (Some (record { born = t.born; standing = Ended (WithValue x) })) ts us
      → IsAllowed eq m R (End v k) × VersionStands eq m (End v k ∷ R) v (k ∷ W) u us × HasValue eq m (commits_of R) v k x × IsTrace eq m (commits_of R) v k A x
  ends A x e done wanted w l p = (
    (wanted, runs_as (Works Computes IsOut A) e, a.undecided, (x, value), c),
    task_ends eq equality m R (End v k ∷ R) v k (end_leaves eq equality R v k) W s u ts us h t there (ap goes_on e) (WithValue x) w l p
        (value, ap (λ b. cond b (Some ByValue) (decided eq R v k)) (named eq equality v k)) (ap (λ b. not b && is_running eq R v k) (named eq equality v k)),
    value,
    record { computed = c; goes = a.work; ends = done },
  )
    where
      a : AtWork eq m R v k Computes IsOut A
      a = at_work Computes IsOut A e

      c : m.kind k ≢ Injected
      c = (h.each k t there).computed

      value : HasValue eq m (commits_of R) v k x
      value = trace_value eq m (commits_of R) v law k A x c a.work done

  -- a check whose answers are all those of its trace: its Keep is allowed, and its task ends with the earlier value
  pub keeps : (T A : List (Answered K V)) (x : V) (b : ℕ) → t.standing ≡ Works (Checks x T b) IsOut A → map (λ a. a.values) A ≡ map (λ b. b.values) T → IsWanted eq m R v k → Withdraws eq k s u → Lives eq k false s u → Puts eq k (Some (record { born = t.born; standing = Ended (WithValue x) })) ts us
      → IsAllowed eq m R (Keep v k b) × VersionStands eq m (Keep v k b ∷ R) v (k ∷ W) u us × HasValue eq m (commits_of R) v k x × IsTrace eq m (commits_of R) v k A x
  keeps T A x b e equal wanted w l p = (
    (wanted, (a.undecided, runs_as (Works (Checks x T b) IsOut A) e), record { base = seen.base; value = x; here = found.2; there = seen.same; lasts = inr seen.lasts }, c),
    task_ends eq equality m R (Keep v k b ∷ R) v k (keep_leaves eq equality R v k b) W s u ts us h t there (ap goes_on e) (WithValue x) w l p
        (found.2, ap (λ b. cond b (Some ByValue) (decided eq R v k)) (named eq equality v k)) (runs_as (Works (Checks x T b) IsOut A) e),
    found.2,
    subst (λ B. IsTrace eq m (commits_of R) v k B x) (sym same) (record { computed = c; goes = found.0; ends = found.1 }),
  )
    where
      a : AtWork eq m R v k (Checks x T b) IsOut A
      a = at_work (Checks x T b) IsOut A e

      seen : WasSeen eq m R k x T b
      seen = a.work.0

      same : A ≡ T
      same = same_batches T A a.work.1 equal

      c : m.kind k ≢ Injected
      c = (h.each k t there).computed

      found : Goes eq m (commits_of R) v k [] T × (m.next k T v ≡ Ends x) × HasValue eq m (commits_of R) v k x
      found = same_answers eq m law (commits_of R) (commits_of R) b v k T x c seen.traced.goes seen.traced.ends seen.lasts (subst (AllTrue (HasValue eq m (commits_of R) v)) same a.work.2)

  -- a check with a changed answer: its Start is allowed, with that cause, and its task computes from the answers that it has
  pub differs : (T A : List (Answered K V)) (x : V) (b : ℕ) (d : K) → t.standing ≡ Works (Checks x T b) IsOut A → ChangesFirst T A d → IsWanted eq m R v k → SameAsks eq s u → SameLives eq s u → Puts eq k (Some (record { born = t.born; standing = Works Computes IsReady A })) ts us
      → IsAllowed eq m R (Start v k (Differs b d)) × VersionStands eq m (Start v k (Differs b d) ∷ R) v W u us
  differs T A x b d e f wanted sa sl p = (
    (wanted, (a.undecided, runs_as (Works (Checks x T b) IsOut A) e), (seen.base, b, backs, cause), c),
    task_turns eq equality m R (Start v k (Differs b d) ∷ R) v k (start_leaves eq equality R v k (Differs b d)) W s u ts us h t there (ap goes_on e) (Works Computes IsReady A) (ap waits_for e) refl refl sa sl p
        (record { undecided = a.undecided; work = goes; asks = tt }) (ap (λ b. b || is_running eq R v k) (named eq equality v k)),
  )
    where
      a : AtWork eq m R v k (Checks x T b) IsOut A
      a = at_work (Checks x T b) IsOut A e

      seen : WasSeen eq m R k x T b
      seen = a.work.0

      c : m.kind k ≢ Injected
      c = (h.each k t there).computed

      backs : Backs eq m R b b k
      backs = record { base = seen.base; below = omega arith; alike = record { value = x; first = trace_value eq m (commits_of R) b law k T x c seen.traced.goes seen.traced.ends; second = seen.same } }

      last : Answered K V
      last = record { keys = f.batch.keys; values = f.answers }

      answered : A ≡ f.before ++ last ∷ []
      answered = changed_front f.before f.later A f.batch f.answers (subst (λ B. Follows B A) f.trace_is a.work.1) f.answered

      there_now : AllTrue (HasValue eq m (commits_of R) v) (f.before ++ last ∷ [])
      there_now = subst (AllTrue (HasValue eq m (commits_of R) v)) answered a.work.2

      was_traced : Goes eq m (commits_of R) b k [] (f.before ++ f.batch ∷ f.later)
      was_traced = subst (Goes eq m (commits_of R) b k []) f.trace_is seen.traced.goes

      goes : Goes eq m (commits_of R) v k [] A
      goes = subst (Goes eq m (commits_of R) v k []) (sym answered) (goes_changed eq m law (commits_of R) b v k f.before f.later f.batch f.answers was_traced there_now)

      split : AllTrue (HasValue eq m (commits_of R) v) f.before × AllZip (HasValue eq m (commits_of R) v) f.batch.keys f.answers
      split = last_values eq m (commits_of R) v f.before last there_now

      first : AllZip (HasValue eq m (commits_of R) v) f.keys_before f.same × HasValue eq m (commits_of R) v d f.now
      first = zip_split (HasValue eq m (commits_of R) v) f.keys_before f.keys_later d f.same f.now_later f.now f.counted
          (subst (λ xs. AllZip (HasValue eq m (commits_of R) v) (f.keys_before ++ d ∷ f.keys_later) xs) f.answers_are (subst (λ ks. AllZip (HasValue eq m (commits_of R) v) ks f.answers) f.keys_are split.1))

      cause : DiffersFirst eq m (commits_of R) b v k d
      cause = record {
        computed = c;
        before = f.before;
        batch = f.batch;
        later = f.later;
        goes = was_traced;
        value = x;
        ends = subst (λ B. m.next k B b ≡ Ends x) f.trace_is seen.traced.ends;
        agreed = split.0;
        keys_before = f.keys_before;
        keys_later = f.keys_later;
        values_before = f.same;
        values_later = f.was_later;
        was = f.was;
        now = f.now;
        keys = f.keys_are;
        values = f.values_are;
        agreed_first = first.0;
        has = first.1;
        other = f.changed;
      }

  -- a task that is given up: its Lost is allowed, and its task ends with nothing
  pub loses : goes_on t.standing ≡ true → IsWanted eq m R v k → Withdraws eq k s u → Lives eq k false s u → Puts eq k (Some (record { born = t.born; standing = Ended WithNothing })) ts us
      → IsAllowed eq m R (Lost v k) × VersionStands eq m (Lost v k ∷ R) v (k ∷ W) u us
  loses going wanted w l p = (
    (wanted, undecided, (h.each k t there).computed),
    task_ends eq equality m R (Lost v k ∷ R) v k (lost_leaves eq equality R v k) W s u ts us h t there going WithNothing w l p
        (ap (λ b. b || lost_in_epoch eq R v k) (named eq equality v k), undecided) (ap (λ b. not b && is_running eq R v k) (named eq equality v k)),
  )
    where
      undecided : decided eq R v k ≡ None
      undecided = undecided_at_work eq m R v k t going (h.each k t there)
