-- A task is taken, waits and goes on, over all versions.
use Rattle.std.proofs.Common.{◌≡◌, ◌≤◌, ◌⊎◌, ◌+◌, ◌*◌, ℕ, Bool, true, false, List, [], ◌∷◌, ◌++◌, Option, Some}
use Rattle.std.specs.List.{AllZip}
use Rattle.dice_key.specs.Meaning.{Meaning, Answered}
use Rattle.dice_key.specs.Lawful.{IsLawful, IsEquality}
use Rattle.dice_key.specs.declared.universe.Kind.TheVariants.{Injected}
use Rattle.dice_model.specs.Eval.{HasValue}
use Rattle.dice_model.specs.Asks.{AsksFor}
use Rattle.task_share.specs.Asked.{Tasked, Asked, Leads}
use Rattle.journal.specs.declared.event.Told.{Told}
use Rattle.journal.specs.Events.{commits_of}
use Rattle.core_laws.specs.Tasks.{Works, IsReady, IsOut, IsWaiting, Task, value_of}
use Rattle.core_laws.specs.Stands.{AsksNext}
use Rattle.core_laws.specs.Changes.{Puts, SameAsks, SameLives, Leaves, Parks}
use Rattle.core_laws.specs.Desk.{World, Desk, DeskTurns, DeskStays, Stand, with_version}
use Rattle.core_laws.proofs.Turns.{stands_here}
use Rattle.core_laws.proofs.Stages.{taken, brought_back, goes_on_at_once}
use Rattle.core_laws.proofs.Parks.{parks}
use Rattle.core_laws.proofs.Releases.{released_on, released_ready, told}
use Rattle.core_laws.proofs.Steps.{task_on, asks_on}
use Rattle.lists.specs.Lists.{Has}
use Rattle.dice_jobs.specs.Jobs.{Work}

module _ {K V : Type 0} (eq : K → K → Bool) (equality : IsEquality eq) (m : Meaning K V) (law : IsLawful m) (R : List (Told K V)) (v : ℕ) where
  -- a task that can be taken is taken
  pub taken_stand : (w : World K V) (W : List K) (s : Asked K) (ts us : K → Option (Task K V)) (k : K) (t : Task K V) (o : Work K V) (A : List (Answered K V)) (d e : Desk K) (owed owed2 : ℕ) → Stand eq m R v W (with_version v s ts w) d owed
      → ts k ≡ Some t → t.standing ≡ Works o IsReady A → Puts eq k (Some (record { born = t.born; standing = Works o IsOut A })) ts us
      → DeskTurns v k (ts k) (Some (record { born = t.born; standing = Works o IsOut A })) d e → 2 * e.live + owed2 ≤ e.spare
      → Stand eq m R v W (with_version v s us w) e owed2
  taken_stand w W s ts us k t o A d e owed owed2 st there at put turns room =
      task_on eq equality m law R v w W s s ts us k d e owed owed2 _ st put turns room W (taken eq equality m law R v W s ts us k t o A (stands_here eq equality m R v W s ts w d owed st) there at put)

  -- a task that was taken can be taken again
  pub brought_back_stand : (w : World K V) (W : List K) (s : Asked K) (ts us : K → Option (Task K V)) (k : K) (t : Task K V) (o : Work K V) (A : List (Answered K V)) (d e : Desk K) (owed owed2 : ℕ) → Stand eq m R v W (with_version v s ts w) d owed
      → ts k ≡ Some t → t.standing ≡ Works o IsOut A → Puts eq k (Some (record { born = t.born; standing = Works o IsReady A })) ts us
      → DeskTurns v k (ts k) (Some (record { born = t.born; standing = Works o IsReady A })) d e → 2 * e.live + owed2 ≤ e.spare
      → Stand eq m R v W (with_version v s us w) e owed2
  brought_back_stand w W s ts us k t o A d e owed owed2 st there at put turns room =
      task_on eq equality m law R v w W s s ts us k d e owed owed2 _ st put turns room W (brought_back eq equality m law R v W s ts us k t o A (stands_here eq equality m R v W s ts w d owed st) there at put)

  -- all answers to the next batch are known: the task goes on at once
  pub goes_on_at_once_stand : (w : World K V) (W : List K) (s u : Asked K) (ts us : K → Option (Task K V)) (k : K) (t : Task K V) (o : Work K V) (A : List (Answered K V)) (ks : List K) (xs : List V) (d e : Desk K) (owed owed2 : ℕ) → Stand eq m R v W (with_version v s ts w) d owed
      → ts k ≡ Some t → t.standing ≡ Works o IsOut A → AsksNext eq m v k o A (IsWaiting ks) → AllZip (HasValue eq m (commits_of R) v) ks xs
      → Puts eq k (Some (record { born = t.born; standing = Works o IsReady (A ++ record { keys = ks; values = xs } ∷ []) })) ts us → SameLives eq s u → SameAsks eq s u
      → DeskTurns v k (ts k) (Some (record { born = t.born; standing = Works o IsReady (A ++ record { keys = ks; values = xs } ∷ []) })) d e → 2 * e.live + owed2 ≤ e.spare
      → Stand eq m R v W (with_version v u us w) e owed2
  goes_on_at_once_stand w W s u ts us k t o A ks xs d e owed owed2 st there at next z put lives same turns room =
      task_on eq equality m law R v w W s u ts us k d e owed owed2 _ st put turns room W (goes_on_at_once eq equality m law R v W s u ts us k t o A ks xs (stands_here eq equality m R v W s ts w d owed st) there at next z put lives same)

  -- a task that was taken comes to wait for its next batch
  pub parks_stand : (w : World K V) (W : List K) (s u : Asked K) (ts us : K → Option (Task K V)) (k : K) (t : Task K V) (o : Work K V) (A : List (Answered K V)) (ks ds : List K) (d e : Desk K) (owed owed2 : ℕ) → Stand eq m R v W (with_version v s ts w) d owed
      → ts k ≡ Some t → t.standing ≡ Works o IsOut A → AsksNext eq m v k o A (IsWaiting ks) → (some : K) → Has ds some → ((q : K) → Has ds q → Has ks q)
      → ((q : K) → Has ds q → AsksFor eq m (commits_of R) v k q × (s.live q ≡ true) × (Leads s q k → ⊥)) → ((q : K) → Has ks q → (m.kind q ≡ Injected) ⊎ Has ds q ⊎ ((x : V) × (value_of (ts q) ≡ Some x)))
      → Parks eq k ds s u → SameLives eq s u → Puts eq k (Some (record { born = t.born; standing = Works o (IsWaiting ks) A })) ts us
      → DeskTurns v k (ts k) (Some (record { born = t.born; standing = Works o (IsWaiting ks) A })) d e → 2 * e.live + owed2 ≤ e.spare
      → Stand eq m R v W (with_version v u us w) e owed2
  parks_stand w W s u ts us k t o A ks ds d e owed owed2 st there at next some some_in within good all parked lives put turns room =
      task_on eq equality m law R v w W s u ts us k d e owed owed2 _ st put turns room W (parks eq equality m law R v W s u ts us k t o A ks ds (stands_here eq equality m R v W s ts w d owed st) there at next some some_in within good all parked lives put)

  -- k has ended with a value and no longer has j among its askers; j waits on for another key
  pub released_on_stand : (w : World K V) (W : List K) (s u : Asked K) (ts : K → Option (Task K V)) (k j : K) (x : V) (d e : Desk K) (owed owed2 : ℕ) → Stand eq m R v W (with_version v s ts w) d owed
      → value_of (ts k) ≡ Some x → Leaves eq k (Tasked j) s u → SameLives eq s u → (q : K) → u.asks q (Tasked j) ≡ true
      → DeskStays d e → 2 * e.live + owed2 ≤ e.spare
      → Stand eq m R v W (with_version v u ts w) e owed2
  released_on_stand w W s u ts k j x d e owed owed2 st value left lives q on stays room =
      asks_on eq equality m law R v w W W s u ts d e owed owed2 R st st.lawful (released_on eq equality m law R v W s u ts k j x (stands_here eq equality m R v W s ts w d owed st) value left lives q on) (λ n a bs f r. r) stays room

  -- k no longer has j among its askers, and j waits for no key any more: it has all answers to its batch, and goes on
  pub released_ready_stand : (w : World K V) (W : List K) (s u : Asked K) (ts us : K → Option (Task K V)) (k j : K) (t : Task K V) (o : Work K V) (A : List (Answered K V)) (ks : List K) (xs : List V) (d e : Desk K) (owed owed2 : ℕ) → Stand eq m R v W (with_version v s ts w) d owed
      → Leaves eq k (Tasked j) s u → SameLives eq s u → ((q : K) → u.asks q (Tasked j) ≡ false) → ts j ≡ Some t → t.standing ≡ Works o (IsWaiting ks) A → AllZip (HasValue eq m (commits_of R) v) ks xs
      → Puts eq j (Some (record { born = t.born; standing = Works o IsReady (A ++ record { keys = ks; values = xs } ∷ []) })) ts us
      → DeskTurns v j (ts j) (Some (record { born = t.born; standing = Works o IsReady (A ++ record { keys = ks; values = xs } ∷ []) })) d e → 2 * e.live + owed2 ≤ e.spare
      → Stand eq m R v W (with_version v u us w) e owed2
  released_ready_stand w W s u ts us k j t o A ks xs d e owed owed2 st left lives none there at z put turns room =
      task_on eq equality m law R v w W s u ts us j d e owed owed2 _ st put turns room W (released_ready eq equality m law R v W s u ts us k j t o A ks xs (stands_here eq equality m R v W s ts w d owed st) left lives none there at z put)

  -- all who asked for k were told of its end
  pub told_stand : (w : World K V) (W : List K) (s : Asked K) (ts : K → Option (Task K V)) (k : K) (d e : Desk K) (owed owed2 : ℕ) → Stand eq m R v (k ∷ W) (with_version v s ts w) d owed → ((j : K) → s.asks k (Tasked j) ≡ false)
      → DeskStays d e → 2 * e.live + owed2 ≤ e.spare
      → Stand eq m R v W (with_version v s ts w) e owed2
  told_stand w W s ts k d e owed owed2 st none stays room =
      asks_on eq equality m law R v w (k ∷ W) W s s ts d e owed owed2 R st st.lawful (told eq equality m law R v W s ts k (stands_here eq equality m R v (k ∷ W) s ts w d owed st) none) (λ n a bs f r. r) stays room
