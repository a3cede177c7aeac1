-- What an event of one key at a version leaves of all else there.
use Rattle.std.proofs.Common.{◌≡◌, ◌≤◌, ℕ, suc, Bool, true, false, cond, not, ◌&&◌, ◌||◌, eqb, List, ◌∷◌, length, Some, refl, sym, ap, ◌∙◌, arith, eq-eqb}
use Rattle.std.proofs.lemmas.Bool.{and_parts, and_right, or_right, not-true}
use Rattle.dice_key.specs.Meaning.{Meaning, Answered}
use Rattle.dice_key.specs.Lawful.{IsEquality}
use Rattle.task_share.specs.Asked.{By, Promised, Tasked, is_by, Asked}
use Rattle.journal.specs.declared.event.Told.{Told}
use Rattle.journal.specs.declared.event.Told.TheVariants.{Start, Keep, End, Cyclic, Drop, Lost}
use Rattle.journal.specs.declared.event.Reason.{Reason}
use Rattle.journal.specs.Events.{ByValue, ByCycle, names_by, commits_of, opened_at, open_count, live_at, decided, asked_in_epoch, is_running, is_base, lost_in_epoch}
use Rattle.core_laws.specs.Tasks.{Outcome, WithValue, WithCycle, WithNothing, Standing, Works, Ended, Task}
use Rattle.core_laws.specs.Stands.{WasSeen, OutcomeStands, WorkStands, IsStanding, TaskStands}
use Rattle.core_laws.specs.Changes.{Withdraws}
use Rattle.core_laws.proofs.Shapes.{other_way}
use Rattle.dice_jobs.specs.Jobs.{Checks, Computes, Work}

module _ {K : Type 0} (eq : K → K → Bool) (k : K) (s u : Asked K) (w : Withdraws eq k s u) where
  -- who asks after the withdrawal asked before
  pub asked_before : (q : K) (a : By K) → u.asks q a ≡ true → s.asks q a ≡ true
  asked_before q a e = (and_parts (s.asks q a) (not (is_by eq (Tasked k) a)) (sym (w q a) ∙ e)).0

  -- and is not the task whose asks are withdrawn
  pub asked_by_another : (q j : K) → u.asks q (Tasked j) ≡ true → eq k j ≡ false
  asked_by_another q j e = not-true (eq k j) (and_parts (s.asks q (Tasked j)) (not (eq k j)) (sym (w q (Tasked j)) ∙ e)).1

  pub promise_stays : (q : K) (i : ℕ) → s.asks q (Promised i) ≡ true → u.asks q (Promised i) ≡ true
  promise_stays q i e = w q (Promised i) ∙ ap (λ b. b && true) e

  pub others_stay : (q j : K) → eq k j ≡ false → s.asks q (Tasked j) ≡ true → u.asks q (Tasked j) ≡ true
  others_stay q j n e = w q (Tasked j) ∙ (ap (λ b. b && not (eq k j)) e ∙ ap not n)

module _ {K : Type 0} (eq : K → K → Bool) (equality : IsEquality eq) where
  unnamed : (v : ℕ) (k q : K) → eq k q ≡ false → names_by eq v k v q ≡ false
  unnamed v k q n = and_right (eqb v v) (eq q k) (other_way eq equality k q n)

  -- an event of a key names it
  pub named : (v : ℕ) (k : K) → names_by eq v k v k ≡ true
  named v k = ap (λ b. b && eq k k) (eq-eqb v v refl) ∙ equality.itself k

module _ {K V : Type 0} (eq : K → K → Bool) where
  -- what is read of a version in R is read in S too, but for what is of k
  pub record LeavesOthers (R S : List (Told K V)) (v : ℕ) (k : K) : Type 0 where
    pub commits : commits_of S ≡ commits_of R
    pub grows : length R ≤ length S
    pub live : (i : ℕ) → live_at S i ≡ live_at R i
    pub opened : (i : ℕ) → opened_at S v i ≡ opened_at R v i
    pub count : open_count S v ≡ open_count R v
    pub asked : (q : K) → asked_in_epoch eq S v q ≡ asked_in_epoch eq R v q
    pub decides : (q : K) → eq k q ≡ false → decided eq S v q ≡ decided eq R v q
    pub loses : (q : K) → eq k q ≡ false → lost_in_epoch eq S v q ≡ lost_in_epoch eq R v q
    pub runs : (q : K) → eq k q ≡ false → is_running eq S v q ≡ is_running eq R v q
    pub bases : (b : ℕ) (q : K) → is_base eq R b q ≡ true → is_base eq S b q ≡ true

  module _ (equality : IsEquality eq) (R : List (Told K V)) (v : ℕ) (k : K) where
    pub start_leaves : (c : Reason K) → LeavesOthers R (Start v k c ∷ R) v k
    start_leaves c = record {
      commits = refl;
      grows = (let l : length (Start v k c ∷ R) ≡ suc (length R) = refl in omega arith);
      live = λ i. refl;
      opened = λ i. refl;
      count = refl;
      asked = λ q. refl;
      decides = λ q n. refl;
      loses = λ q n. refl;
      runs = λ q n. ap (λ b. b || is_running eq R v q) (unnamed eq equality v k q n);
      bases = λ b q e. e;
    }

    pub keep_leaves : (b : ℕ) → LeavesOthers R (Keep v k b ∷ R) v k
    keep_leaves b = record {
      commits = refl;
      grows = (let l : length (Keep v k b ∷ R) ≡ suc (length R) = refl in omega arith);
      live = λ i. refl;
      opened = λ i. refl;
      count = refl;
      asked = λ q. refl;
      decides = λ q n. ap (λ t. cond t (Some ByValue) (decided eq R v q)) (unnamed eq equality v k q n);
      loses = λ q n. refl;
      runs = λ q n. refl;
      bases = λ d q e. or_right (names_by eq v k d q) (is_base eq R d q) e;
    }

    pub end_leaves : LeavesOthers R (End v k ∷ R) v k
    end_leaves = record {
      commits = refl;
      grows = (let l : length (End v k ∷ R) ≡ suc (length R) = refl in omega arith);
      live = λ i. refl;
      opened = λ i. refl;
      count = refl;
      asked = λ q. refl;
      decides = λ q n. ap (λ t. cond t (Some ByValue) (decided eq R v q)) (unnamed eq equality v k q n);
      loses = λ q n. refl;
      runs = λ q n. ap (λ b. not b && is_running eq R v q) (unnamed eq equality v k q n);
      bases = λ d q e. or_right (names_by eq v k d q) (is_base eq R d q) e;
    }

    pub cyclic_leaves : LeavesOthers R (Cyclic v k ∷ R) v k
    cyclic_leaves = record {
      commits = refl;
      grows = (let l : length (Cyclic v k ∷ R) ≡ suc (length R) = refl in omega arith);
      live = λ i. refl;
      opened = λ i. refl;
      count = refl;
      asked = λ q. refl;
      decides = λ q n. ap (λ t. cond t (Some ByCycle) (decided eq R v q)) (unnamed eq equality v k q n);
      loses = λ q n. refl;
      runs = λ q n. ap (λ b. not b && is_running eq R v q) (unnamed eq equality v k q n);
      bases = λ d q e. e;
    }

    pub drop_leaves : LeavesOthers R (Drop v k ∷ R) v k
    drop_leaves = record {
      commits = refl;
      grows = (let l : length (Drop v k ∷ R) ≡ suc (length R) = refl in omega arith);
      live = λ i. refl;
      opened = λ i. refl;
      count = refl;
      asked = λ q. refl;
      decides = λ q n. refl;
      loses = λ q n. refl;
      runs = λ q n. ap (λ b. not b && is_running eq R v q) (unnamed eq equality v k q n);
      bases = λ d q e. e;
    }

    pub lost_leaves : LeavesOthers R (Lost v k ∷ R) v k
    lost_leaves = record {
      commits = refl;
      grows = (let l : length (Lost v k ∷ R) ≡ suc (length R) = refl in omega arith);
      live = λ i. refl;
      opened = λ i. refl;
      count = refl;
      asked = λ q. refl;
      decides = λ q n. refl;
      loses = λ q n. ap (λ b. b || lost_in_epoch eq R v q) (unnamed eq equality v k q n);
      runs = λ q n. ap (λ b. not b && is_running eq R v q) (unnamed eq equality v k q n);
      bases = λ d q e. e;
    }

module _ {K V : Type 0} (eq : K → K → Bool) (m : Meaning K V) (R S : List (Told K V)) (v : ℕ) (k : K) (f : LeavesOthers eq R S v k) where
  seen_on : (q : K) (x : V) (T : List (Answered K V)) (b : ℕ) → WasSeen eq m R q x T b → WasSeen eq m S q x T b
  seen_on q x T b h = record {
    traced = rw f.commits h.traced;
    within = rw f.commits h.within;
    same = rw f.commits h.same;
    lasts = h.lasts;
    base = f.bases b q h.base;
  }

  outcome_on : (q : K) → eq k q ≡ false → (o : Outcome K V) → OutcomeStands eq m R v q o → OutcomeStands eq m S v q o
  outcome_on q n (WithValue x) h = (rw f.commits h.0, f.decides q n ∙ h.1)
  outcome_on q n (WithCycle p) h = (rw f.commits h.0, f.decides q n ∙ h.1)
  outcome_on q n WithNothing h = (f.loses q n ∙ h.0, f.decides q n ∙ h.1)

  pub work_on : (q : K) (w : Work K V) (A : List (Answered K V)) → WorkStands eq m R v q w A → WorkStands eq m S v q w A
  work_on q Computes A h = rw f.commits h
  work_on q (Checks x T b) A h = (seen_on q x T b h.0, h.1, rw f.commits h.2)

  standing_on : (q : K) → eq k q ≡ false → (t : Standing K V) → IsStanding eq m R v q t → IsStanding eq m S v q t
  standing_on q n (Works w p A) h = record { undecided = f.decides q n ∙ h.undecided; work = work_on q w A h.work; asks = h.asks }
  standing_on q n (Ended o) h = outcome_on q n o h

  -- all that holds of a task but for its standing
  pub task_with : (q : K) (t : Task K V) (d : Standing K V) → TaskStands eq m R v q t → IsStanding eq m S v q d → TaskStands eq m S v q (record { born = t.born; standing = d })
  task_with q t d h i = record {
    computed = h.computed;
    within = rw f.commits h.within;
    born = (let a = h.born in let b = f.grows in omega arith);
    once = h.once;
    asked = f.asked h.once ∙ h.asked;
    reached = rw f.commits h.reached;
    standing = i;
  }

  -- a task of another key stands as it did
  pub task_on : (q : K) (t : Task K V) → eq k q ≡ false → TaskStands eq m R v q t → TaskStands eq m S v q t
  task_on q t n h = task_with q t t.standing h (standing_on q n t.standing h.standing)
