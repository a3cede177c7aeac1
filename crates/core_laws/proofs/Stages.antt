-- A task at work is taken, is brought back, and goes on with the answers to its next batch.
use Rattle.std.proofs.Common.{◌≡◌, inl, inr, ℕ, Bool, true, false, cond, List, [], ◌∷◌, ◌++◌, Option, Some, None, refl, sym, ap, ◌∙◌, subst}
use Rattle.std.specs.List.{AllZip}
use Rattle.std.proofs.lemmas.Option.{none-some}
use Rattle.dice_key.specs.Meaning.{Meaning, Answered}
use Rattle.dice_key.specs.Lawful.{IsLawful, IsEquality}
use Rattle.dice_model.specs.Eval.{HasValue}
use Rattle.dice_model.proofs.Finite.{goes_last}
use Rattle.task_share.specs.Asked.{By, Promised, Tasked, Asked}
use Rattle.journal.specs.declared.event.Told.{Told}
use Rattle.journal.specs.Events.{commits_of, is_running}
use Rattle.dice_jobs.proofs.Followed.{true_last}
use Rattle.core_laws.specs.Tasks.{Works, Phase, IsReady, IsOut, IsWaiting, Task, computes, waits_for, value_in, is_going, is_computing, batch_of, value_of}
use Rattle.core_laws.specs.Stands.{AsksNext, WorkStands, AtWork, IsStanding, TaskStands, VersionStands}
use Rattle.core_laws.specs.Changes.{Puts, SameAsks, SameLives, Lives}
use Rattle.core_laws.proofs.Shapes.{shape_of, asks_nothing, eased, same_or_other, put_each, put_fact, put_none}
use Rattle.dice_jobs.specs.Jobs.{Checks, Computes, Work}
use Rattle.dice_jobs.specs.Truths.{Follows}

module _ {K V : Type 0} where
  -- the next batch of a trace, answered, goes along with it
  pub along_next : (A later : List (Answered K V)) (batch b : Answered K V) → b.keys ≡ batch.keys → Follows (A ++ batch ∷ later) (A ++ b ∷ [])
  along_next [] later batch b e = (e, tt)
  along_next (a ∷ A) later batch b e = (refl, along_next A later batch b e)

module _ {K : Type 0} (eq : K → K → Bool) (equality : IsEquality eq) where
  -- if the same keys live and k does, k goes on
  pub lives_on : (k : K) (s u : Asked K) → SameLives eq s u → s.live k ≡ true → Lives eq k true s u
  lives_on k s u same l q = elim (same_or_other eq equality k q) as (λ _. u.live q ≡ cond (eq k q) true (s.live q)) [
    | inl i ↦ same q ∙ (subst (λ y. s.live y ≡ true) i l ∙ ap (λ c. cond c true (s.live q)) (sym (subst (λ y. eq k y ≡ true) i (equality.itself k))))
    | inr n ↦ same q ∙ ap (λ c. cond c true (s.live q)) (sym n)
  ]

module _ {K V : Type 0} (eq : K → K → Bool) (equality : IsEquality eq) (m : Meaning K V) (law : IsLawful m) (R : List (Told K V)) (v : ℕ) where
  -- the answers to the next batch: the work goes on
  pub work_next : (k : K) (w : Work K V) (A : List (Answered K V)) (ks : List K) (xs : List V) → WorkStands eq m R v k w A → AsksNext eq m v k w A (IsWaiting ks) → AllZip (HasValue eq m (commits_of R) v) ks xs
      → WorkStands eq m R v k w (A ++ record { keys = ks; values = xs } ∷ [])
  work_next k Computes A ks xs g n z = goes_last eq m law (commits_of R) v k [] A (record { keys = ks; values = xs }) g n z
  work_next k (Checks x T b) A ks xs g n z = (
    g.0,
    subst (λ S. Follows S (A ++ record { keys = ks; values = xs } ∷ [])) (sym n.trace_is) (along_next A n.later n.batch (record { keys = ks; values = xs }) (sym n.keys_are)),
    true_last (HasValue eq m (commits_of R) v) A (record { keys = ks; values = xs }) g.2 z,
  )

  -- what is known of a task at work
  pub at_work : (W : List K) (s : Asked K) (ts : K → Option (Task K V)) (k : K) (t : Task K V) (w : Work K V) (p : Phase K) (A : List (Answered K V)) → VersionStands eq m R v W s ts → ts k ≡ Some t → t.standing ≡ Works w p A → AtWork eq m R v k w p A
  at_work W s ts k t w p A h e st = subst (IsStanding eq m R v k) st (h.each k t e).standing

  -- the task of k goes on with another phase, waits for nothing, and its key asks for nothing: all else stays
  pub turned : (W : List K) (s u : Asked K) (ts us : K → Option (Task K V)) (k : K) (t : Task K V) (w : Work K V) (p o : Phase K) (A B : List (Answered K V)) → VersionStands eq m R v W s ts → ts k ≡ Some t → t.standing ≡ Works w p A
      → AtWork eq m R v k w o B → waits_for (Works w o B) ≡ None → Puts eq k (Some (record { born = t.born; standing = Works w o B })) ts us → SameLives eq s u
      → ((q : K) (a : By K) → u.asks q a ≡ true → s.asks q a ≡ true) → ((q : K) (i : ℕ) → s.asks q (Promised i) ≡ true → u.asks q (Promised i) ≡ true) → ((q i : K) → eq k i ≡ false → s.asks q (Tasked i) ≡ true → u.asks q (Tasked i) ≡ true)
      → ((q : K) → u.asks q (Tasked k) ≡ true → ⊥)
      → VersionStands eq m R v W u us
  turned W s u ts us k t w p o A B h e st work ready put same fewer promises kept nothing =
      let t2 : Task K V = record { born = t.born; standing = Works w o B } in
      let stands = h.each k t e in
      let going : s.live k ≡ true = h.live k ∙ (ap is_going e ∙ ap (λ x. is_going (Some (record t { standing = x }))) st) in
      let no_value : value_of (ts k) ≡ None = ap value_of e ∙ ap value_in st in
      let shape = eased eq equality m W s u ts us k t2 (shape_of eq m R v W s ts h) put (lives_on eq equality k s u same going) fewer kept nothing ready (λ i a. inl refl) (λ x f. absurd (none-some x (sym no_value ∙ f))) in
      record {
        promised = λ q i a. h.promised q i (fewer q (Promised i) a);
        promises = λ i a l at n. promises a.key i (h.promises i a l at n);
        waits = λ d q a. h.waits d q (fewer d (Tasked q) a);
        waiting = shape.waiting;
        awaited = shape.awaited;
        no_cycle = shape.no_cycle;
        stuck = shape.stuck;
        batch = shape.batch;
        live = shape.live;
        each = put_each eq equality k t2 ts us put (TaskStands eq m R v)
            (record { computed = stands.computed; within = stands.within; born = stands.born; once = stands.once; asked = stands.asked; reached = stands.reached; standing = work })
            (λ q x n f. h.each q x f);
        running = put_fact eq equality k t2 ts us put (λ q x. is_running eq R v q ≡ is_computing x)
            (h.running k ∙ (ap is_computing e ∙ (ap computes st ∙ same_computes w)))
            (λ q n. h.running q);
        fresh = λ q f c. h.fresh q (put_none eq equality k t2 ts us put q f).1 c;
      }
    where
      same_computes : (w : Work K V) → computes (Works w p A) ≡ computes (Works w o B)
      same_computes Computes = refl
      same_computes (Checks x T b) = refl

  -- likewise if all asks stay and it waited for nothing before
  unasked_turn : (W : List K) (s u : Asked K) (ts us : K → Option (Task K V)) (k : K) (t : Task K V) (w : Work K V) (p o : Phase K) (A B : List (Answered K V)) → VersionStands eq m R v W s ts → ts k ≡ Some t → t.standing ≡ Works w p A
      → AtWork eq m R v k w o B → waits_for (Works w p A) ≡ None → waits_for (Works w o B) ≡ None → Puts eq k (Some (record { born = t.born; standing = Works w o B })) ts us → SameLives eq s u → SameAsks eq s u → VersionStands eq m R v W u us
  unasked_turn W s u ts us k t w p o A B h e st work idle ready put same asks = turned W s u ts us k t w p o A B h e st work ready put same
      (λ q a f. sym (asks q a) ∙ f)
      (λ q i f. asks q (Promised i) ∙ f)
      (λ q i n f. asks q (Tasked i) ∙ f)
      (λ q f. asks_nothing eq m R v W s ts h k (ap batch_of e ∙ (ap waits_for st ∙ idle)) q (sym (asks q (Tasked k)) ∙ f))

  -- a task that can be taken is taken
  pub taken : (W : List K) (s : Asked K) (ts us : K → Option (Task K V)) (k : K) (t : Task K V) (w : Work K V) (A : List (Answered K V)) → VersionStands eq m R v W s ts → ts k ≡ Some t → t.standing ≡ Works w IsReady A
      → Puts eq k (Some (record { born = t.born; standing = Works w IsOut A })) ts us → VersionStands eq m R v W s us
  taken W s ts us k t w A h e st put = let a = at_work W s ts k t w IsReady A h e st in unasked_turn W s s ts us k t w IsReady IsOut A A h e st (record { undecided = a.undecided; work = a.work; asks = still_asks w }) refl refl put (λ q. refl) (λ q a. refl)
    where
      still_asks : (w : Work K V) → AsksNext eq m v k w A IsOut
      still_asks Computes = tt
      still_asks (Checks x T b) = tt

  -- a task that was taken can be taken again
  pub brought_back : (W : List K) (s : Asked K) (ts us : K → Option (Task K V)) (k : K) (t : Task K V) (w : Work K V) (A : List (Answered K V)) → VersionStands eq m R v W s ts → ts k ≡ Some t → t.standing ≡ Works w IsOut A
      → Puts eq k (Some (record { born = t.born; standing = Works w IsReady A })) ts us → VersionStands eq m R v W s us
  brought_back W s ts us k t w A h e st put = let a = at_work W s ts k t w IsOut A h e st in unasked_turn W s s ts us k t w IsOut IsReady A A h e st (record { undecided = a.undecided; work = a.work; asks = tt }) refl refl put (λ q. refl) (λ q a. refl)

  -- all answers to the next batch are known: the task goes on at once
  pub goes_on_at_once : (W : List K) (s u : Asked K) (ts us : K → Option (Task K V)) (k : K) (t : Task K V) (w : Work K V) (A : List (Answered K V)) (ks : List K) (xs : List V) → VersionStands eq m R v W s ts → ts k ≡ Some t → t.standing ≡ Works w IsOut A
      → AsksNext eq m v k w A (IsWaiting ks) → AllZip (HasValue eq m (commits_of R) v) ks xs
      → Puts eq k (Some (record { born = t.born; standing = Works w IsReady (A ++ record { keys = ks; values = xs } ∷ []) })) ts us → SameLives eq s u → SameAsks eq s u
      → VersionStands eq m R v W u us
  goes_on_at_once W s u ts us k t w A ks xs h e st next z put same asks =
      let a = at_work W s ts k t w IsOut A h e st in
      unasked_turn W s u ts us k t w IsOut IsReady A (A ++ record { keys = ks; values = xs } ∷ []) h e st (record { undecided = a.undecided; work = work_next k w A ks xs a.work next z; asks = tt }) refl refl put same asks
