-- What holds at a version goes on to hold if the journal says no less of it.
use Rattle.std.proofs.Common.{◌≡◌, ◌≢◌, ◌≤◌, ◌<◌, ℕ, Bool, true, List, [], ◌∷◌, ◌++◌, length, Option, Some, None, refl, sym, ap, ◌∙◌, subst, arith, length-append}
use Rattle.std.specs.List.{AllZip}
use Rattle.std.proofs.lemmas.Option.{none-some}
use Rattle.dice_key.specs.Meaning.{Meaning, Answered}
use Rattle.dice_key.specs.declared.universe.Kind.TheVariants.{Injected}
use Rattle.dice_model.specs.Eval.{HasValue}
use Rattle.dice_model.specs.Asks.{Goes, AsksFor, Reaches, IsCycle, AllTrue}
use Rattle.dice_model.proofs.Stable.{value_stable, zip_stable, goes_stable, asks_stable, reaches_stable, cycle_stable}
use Rattle.task_share.specs.Asked.{Promised, Tasked, Asked, Leads, stays, asks_on}
use Rattle.journal.specs.declared.event.Told.{Told}
use Rattle.journal.specs.Events.{Asking, commits_of, open_count, opened_at, live_at, decided, asked_in_epoch, is_running, is_base, lost_in_epoch}
use Rattle.core_laws.specs.Tasks.{Outcome, WithValue, WithCycle, WithNothing, Standing, Works, Ended, Task, batch_of}
use Rattle.core_laws.specs.Stands.{WasSeen, OutcomeStands, WorkStands, IsStanding, TaskStands, VersionStands, IsAtRest}
use Rattle.core_laws.specs.Changes.{SameAsks, SameLives}
use Rattle.dice_jobs.specs.Jobs.{Checks, Computes, Work}

-- S says of the tasks of v what R says
pub record Carries {K V : Type 0} (eq : K → K → Bool) (R S : List (Told K V)) (v : ℕ) : Type 0 where
  pub later : List (List (K × V))
  pub commits : commits_of S ≡ commits_of R ++ later
  pub longer : length R ≤ length S
  pub counts : 0 < open_count S v → 0 < open_count R v
  pub decides : (k : K) → decided eq S v k ≡ decided eq R v k
  pub asks : (k : K) → asked_in_epoch eq R v k ≡ true → asked_in_epoch eq S v k ≡ true
  pub runs : (k : K) → is_running eq S v k ≡ is_running eq R v k
  pub loses : (k : K) → lost_in_epoch eq R v k ≡ true → lost_in_epoch eq S v k ≡ true
  pub bases : (b : ℕ) (k : K) → is_base eq R b k ≡ true → is_base eq S b k ≡ true

-- who asks at v by R and s asks so by S and u
pub record Promises {K V : Type 0} (m : Meaning K V) (S : List (Told K V)) (v : ℕ) (u : Asked K) : Type 0 where
  pub promised : (k : K) (i : ℕ) → u.asks k (Promised i) ≡ true → (a : Asking K) × (live_at S i ≡ Some a) × (opened_at S v a.opened ≡ true) × (a.key ≡ k)
  pub promises : (i : ℕ) (a : Asking K) → live_at S i ≡ Some a → opened_at S v a.opened ≡ true → m.kind a.key ≢ Injected → u.asks a.key (Promised i) ≡ true

module _ {K V : Type 0} (eq : K → K → Bool) (m : Meaning K V) (R S : List (Told K V)) (v : ℕ) (c : Carries eq R S v) where
  versions_on : (w : ℕ) → w ≤ length (commits_of R) → w ≤ length (commits_of S)
  versions_on w h = let e = ap length c.commits in let f = length-append (commits_of R) c.later in omega arith

  value_on : (w : ℕ) → w ≤ length (commits_of R) → (k : K) (x : V) → HasValue eq m (commits_of R) w k x → HasValue eq m (commits_of S) w k x
  value_on w h k x i = subst (λ C. HasValue eq m C w k x) (sym c.commits) (value_stable eq m (commits_of R) c.later w h k x i)

  reaches_on : v ≤ length (commits_of R) → (k j : K) → Reaches eq m (commits_of R) v k j → Reaches eq m (commits_of S) v k j
  reaches_on h k j r = subst (λ C. Reaches eq m C v k j) (sym c.commits) (reaches_stable eq m (commits_of R) c.later v h k j r)

  goes_on : (w : ℕ) → w ≤ length (commits_of R) → (k : K) (A : List (Answered K V)) → Goes eq m (commits_of R) w k [] A → Goes eq m (commits_of S) w k [] A
  goes_on w h k A g = subst (λ C. Goes eq m C w k [] A) (sym c.commits) (goes_stable eq m (commits_of R) c.later w h k [] A g)

  values_on : v ≤ length (commits_of R) → (A : List (Answered K V)) → AllTrue (HasValue eq m (commits_of R) v) A → AllTrue (HasValue eq m (commits_of S) v) A
  values_on h [] a = tt
  values_on h (b ∷ bs) a = (subst (λ C. AllZip (HasValue eq m C v) b.keys b.values) (sym c.commits) (zip_stable eq m (commits_of R) c.later v h b.keys b.values a.0), values_on h bs a.1)

  -- what was seen was seen
  pub seen_on : (k : K) (x : V) (T : List (Answered K V)) (b : ℕ) → WasSeen eq m R k x T b → WasSeen eq m S k x T b
  seen_on k x T b s = record {
    traced = record { computed = s.traced.computed; goes = goes_on b s.within k T s.traced.goes; ends = s.traced.ends };
    within = versions_on b s.within;
    same = value_on b s.within k x s.same;
    lasts = s.lasts;
    base = c.bases b k s.base;
  }

  outcome_on : v ≤ length (commits_of R) → (k : K) (o : Outcome K V) → OutcomeStands eq m R v k o → OutcomeStands eq m S v k o
  outcome_on h k (WithValue x) o = (value_on v h k x o.0, c.decides k ∙ o.1)
  outcome_on h k (WithCycle p) o = (
    record {
      first = o.0.first;
      rest = o.0.rest;
      path_is = o.0.path_is;
      cycle = subst (λ C. IsCycle eq m C v (o.0.first ∷ o.0.rest)) (sym c.commits) (cycle_stable eq m (commits_of R) c.later v h (o.0.first ∷ o.0.rest) o.0.cycle);
      reaches = reaches_on h k o.0.first o.0.reaches;
    },
    c.decides k ∙ o.1,
  )
  outcome_on h k WithNothing o = (c.loses k o.0, c.decides k ∙ o.1)

  work_on : v ≤ length (commits_of R) → (k : K) (w : Work K V) (A : List (Answered K V)) → WorkStands eq m R v k w A → WorkStands eq m S v k w A
  work_on h k Computes A g = goes_on v h k A g
  work_on h k (Checks x T b) A g = (seen_on k x T b g.0, g.1, values_on h A g.2)

  standing_on : v ≤ length (commits_of R) → (k : K) (t : Standing K V) → IsStanding eq m R v k t → IsStanding eq m S v k t
  standing_on h k (Works w p A) s = record { undecided = c.decides k ∙ s.undecided; work = work_on h k w A s.work; asks = s.asks }
  standing_on h k (Ended o) s = outcome_on h k o s

  -- a task stands if it stood before
  pub task_on : (k : K) (t : Task K V) → TaskStands eq m R v k t → TaskStands eq m S v k t
  task_on k t s = record {
    computed = s.computed;
    within = versions_on v s.within;
    born = (let b = s.born in let l = c.longer in omega arith);
    once = s.once;
    asked = c.asks s.once s.asked;
    reached = reaches_on s.within s.once k s.reached;
    standing = standing_on s.within k t.standing s.standing;
  }

  module _ (W : List K) (s u : Asked K) (ts : K → Option (Task K V)) (h : VersionStands eq m R v W s ts) where
    -- who waits has a task, so the version is there
    within : (k : K) (ks : List K) → batch_of (ts k) ≡ Some ks → v ≤ length (commits_of R)
    within k ks e = by_task (ts k) refl e
      where
        by_task : (o : Option (Task K V)) → ts k ≡ o → batch_of o ≡ Some ks → v ≤ length (commits_of R)
        by_task None p q = absurd (none-some ks q)
        by_task (Some t) p q = (h.each k t p).within

    -- all but the promises goes on if the tasks, and their asks, stay
    pub version_on : SameLives eq s u → ((d k : K) → u.asks d (Tasked k) ≡ s.asks d (Tasked k)) → Promises m S v u → VersionStands eq m S v W u ts
    version_on lives same p = record {
      promised = p.promised;
      promises = p.promises;
      waits = λ d k e. (let a = sym (same d k) ∙ e in let w = h.waiting d k a in subst (λ C. AsksFor eq m C v k d) (sym c.commits) (asks_stable eq m (commits_of R) c.later v (within k w.0 w.1) k d (h.waits d k a)));
      waiting = λ d k e. h.waiting d k (sym (same d k) ∙ e);
      awaited = λ d k e. rw (lives d) (h.awaited d k (sym (same d k) ∙ e));
      no_cycle = λ k i e l. h.no_cycle k i (sym (same i k) ∙ e) (leads_back i k l);
      stuck = λ k ks e. (let r = h.stuck k ks e in (r.0, same r.0 k ∙ r.1));
      batch = λ k ks e d i. rw (same d k) (h.batch k ks e d i);
      live = λ k. lives k ∙ h.live k;
      each = λ k t e. task_on k t (h.each k t e);
      running = λ k. c.runs k ∙ h.running k;
      fresh = λ k e n. c.decides k ∙ h.fresh k e (c.counts n);
    }
      where
        leads_back : (a b : K) → Leads u a b → Leads s a b
        leads_back a b stays = stays
        leads_back a b (asks_on {i = i} e l) = asks_on (sym (same i a) ∙ e) (leads_back i b l)

module _ {K V : Type 0} (eq : K → K → Bool) (m : Meaning K V) (R S : List (Told K V)) (v : ℕ) (c : Carries eq R S v) (s : Asked K) (ts : K → Option (Task K V)) (p : Promises m S v s) where
  -- with the same tasks and asks all goes on
  pub version_stays : (W : List K) → VersionStands eq m R v W s ts → VersionStands eq m S v W s ts
  version_stays W h = version_on eq m R S v c W s s ts h (λ q. refl) (λ d k. refl) p

  -- and a version at rest is at rest
  pub rest_stays : (open_count S v ≡ 0 → open_count R v ≡ 0) → IsAtRest eq m R v s ts → IsAtRest eq m S v s ts
  rest_stays z h = record { stands = version_stays [] h.stands; tasked = h.tasked; wanted = h.wanted; closed = λ e. h.closed (z e) }

-- S says of who asks at v what R says
pub record SameLive {K V : Type 0} (R S : List (Told K V)) (v : ℕ) : Type 0 where
  pub lives : (i : ℕ) → live_at S i ≡ live_at R i
  pub opens : (i : ℕ) (a : Asking K) → live_at R i ≡ Some a → opened_at S v a.opened ≡ opened_at R v a.opened

-- then the promises are the same
pub same_promises : {K V : Type 0} (eq : K → K → Bool) (m : Meaning K V) (R S : List (Told K V)) (v : ℕ) → SameLive R S v → (W : List K) (s : Asked K) (ts : K → Option (Task K V)) → VersionStands eq m R v W s ts → Promises m S v s
same_promises eq m R S v l W s ts h = record {
  promised = λ k i e. (let p = h.promised k i e in (p.0, l.lives i ∙ p.1, l.opens i p.0 p.1 ∙ p.2, p.3));
  promises = λ i a e o n. (let p : live_at R i ≡ Some a = sym (l.lives i) ∙ e in h.promises i a p (sym (l.opens i a p) ∙ o) n);
}

-- what holds is said of tasks and asks key by key
module _ {K V : Type 0} (eq : K → K → Bool) (m : Meaning K V) (R : List (Told K V)) (v : ℕ) (s u : Asked K) (ts us : K → Option (Task K V)) (lives : SameLives eq s u) (asks : SameAsks eq s u) (tasks : (q : K) → us q ≡ ts q) where
  same_asked : u ≡ s
  same_asked = λ i. record { live = λ q. lives q i; asks = λ q a. asks q a i }

  same_tasks : us ≡ ts
  same_tasks = λ i q. tasks q i

  pub version_same : (W : List K) → VersionStands eq m R v W s ts → VersionStands eq m R v W u us
  version_same W h = subst (VersionStands eq m R v W u) (sym same_tasks) (subst (λ x. VersionStands eq m R v W x ts) (sym same_asked) h)

  pub rest_same : IsAtRest eq m R v s ts → IsAtRest eq m R v u us
  rest_same h = subst (IsAtRest eq m R v u) (sym same_tasks) (subst (λ x. IsAtRest eq m R v x ts) (sym same_asked) h)
