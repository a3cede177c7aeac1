-- A task is made, over all versions.
use Rattle.std.proofs.Common.{◌≡◌, ◌≢◌, ◌≤◌, ◌+◌, ◌*◌, ℕ, Bool, true, false, List, [], ◌∷◌, length, Option, Some, None}
use Rattle.dice_key.specs.Meaning.{Meaning, Answered}
use Rattle.dice_key.specs.Lawful.{IsLawful, IsEquality}
use Rattle.dice_key.specs.declared.universe.Kind.TheVariants.{Injected}
use Rattle.dice_model.specs.Asks.{Reaches}
use Rattle.task_share.specs.Asked.{Asked}
use Rattle.journal.specs.declared.event.Told.{Told}
use Rattle.journal.specs.declared.event.Told.TheVariants.{Start, Keep}
use Rattle.journal.specs.declared.event.Reason.{Reason}
use Rattle.journal.specs.Events.{commits_of, decided, asked_in_epoch}
use Rattle.journal.specs.Law.{IsWanted, IsTrueCause, KeepsValue, IsAllowed}
use Rattle.core_laws.specs.Tasks.{Works, Ended, WithValue, IsReady, Task, is_going}
use Rattle.core_laws.specs.Stands.{WasSeen}
use Rattle.core_laws.specs.Changes.{Puts, SameAsks, Lives}
use Rattle.core_laws.specs.Desk.{World, Desk, DeskTurns, Stand, with_version}
use Rattle.core_laws.proofs.Turns.{stands_here}
use Rattle.core_laws.proofs.Makes.{starts, matches, checks}
use Rattle.core_laws.proofs.Steps.{event_on, task_on}
use Rattle.dice_jobs.specs.Jobs.{Checks, Computes}

module _ {K V : Type 0} (eq : K → K → Bool) (equality : IsEquality eq) (m : Meaning K V) (law : IsLawful m) (R : List (Told K V)) (v : ℕ) where
  -- a wanted key that is not decided and has no task at work: its task is made, and computes
  pub starts_stand : (w : World K V) (W : List K) (s u : Asked K) (ts us : K → Option (Task K V)) (k : K) (b : ℕ) (c : Reason K) (d e : Desk K) (owed owed2 : ℕ) → Stand eq m R v W (with_version v s ts w) d owed
      → m.kind k ≢ Injected → IsWanted eq m R v k → v ≤ length (commits_of R)
      → (once : K) → asked_in_epoch eq R v once ≡ true → Reaches eq m (commits_of R) v once k → decided eq R v k ≡ None → is_going (ts k) ≡ false → IsTrueCause eq m R v k c → b ≤ length R
      → Puts eq k (Some (record { born = b; standing = Works Computes IsReady [] })) ts us → Lives eq k true s u → SameAsks eq s u
      → DeskTurns v k (ts k) (Some (record { born = b; standing = Works Computes IsReady [] })) d e → 2 * e.live + owed2 ≤ e.spare
      → IsAllowed eq m R (Start v k c) × Stand eq m (Start v k c ∷ R) v W (with_version v u us w) e owed2
  starts_stand w W s u ts us k b c d e owed owed2 st computed wanted within once asked reached undecided idle cause born put lives same turns room =
      let r = starts eq equality m law R v W s u ts us k b c (stands_here eq equality m R v W s ts w d owed st) computed wanted within once asked reached undecided idle cause born put lives same in
      (r.0, event_on eq equality m law R v w W s u ts us k d e owed owed2 _ st put turns room W (Start v k c) (λ n f. f) r.0 r.1)

  -- likewise, if the value that was looked at is the key's value here: its task has ended with it
  pub matches_stand : (w : World K V) (W : List K) (s u : Asked K) (ts us : K → Option (Task K V)) (k : K) (n b : ℕ) (d e : Desk K) (owed owed2 : ℕ) → Stand eq m R v W (with_version v s ts w) d owed
      → m.kind k ≢ Injected → IsWanted eq m R v k → v ≤ length (commits_of R)
      → (once : K) → asked_in_epoch eq R v once ≡ true → Reaches eq m (commits_of R) v once k → decided eq R v k ≡ None → is_going (ts k) ≡ false → (kept : KeepsValue eq m R v k b) → n ≤ length R
      → Puts eq k (Some (record { born = n; standing = Ended (WithValue kept.value) })) ts us → Lives eq k false s u → SameAsks eq s u
      → DeskTurns v k (ts k) (Some (record { born = n; standing = Ended (WithValue kept.value) })) d e → 2 * e.live + owed2 ≤ e.spare
      → IsAllowed eq m R (Keep v k b) × Stand eq m (Keep v k b ∷ R) v W (with_version v u us w) e owed2
  matches_stand w W s u ts us k n b d e owed owed2 st computed wanted within once asked reached undecided idle kept born put lives same turns room =
      let r = matches eq equality m law R v W s u ts us k n b (stands_here eq equality m R v W s ts w d owed st) computed wanted within once asked reached undecided idle kept born put lives same in
      (r.0, event_on eq equality m law R v w W s u ts us k d e owed owed2 _ st put turns room W (Keep v k b) (λ i f. f) r.0 r.1)

  -- likewise, if an earlier value has to be checked: its task checks it
  pub checks_stand : (w : World K V) (W : List K) (s u : Asked K) (ts us : K → Option (Task K V)) (k : K) (n : ℕ) (x : V) (T : List (Answered K V)) (b : ℕ) (d e : Desk K) (owed owed2 : ℕ) → Stand eq m R v W (with_version v s ts w) d owed
      → m.kind k ≢ Injected → v ≤ length (commits_of R)
      → (once : K) → asked_in_epoch eq R v once ≡ true → Reaches eq m (commits_of R) v once k → decided eq R v k ≡ None → is_going (ts k) ≡ false → WasSeen eq m R k x T b → n ≤ length R
      → Puts eq k (Some (record { born = n; standing = Works (Checks x T b) IsReady [] })) ts us → Lives eq k true s u → SameAsks eq s u
      → DeskTurns v k (ts k) (Some (record { born = n; standing = Works (Checks x T b) IsReady [] })) d e → 2 * e.live + owed2 ≤ e.spare
      → Stand eq m R v W (with_version v u us w) e owed2
  checks_stand w W s u ts us k n x T b d e owed owed2 st computed within once asked reached undecided idle seen born put lives same turns room =
      task_on eq equality m law R v w W s u ts us k d e owed owed2 _ st put turns room W
      (checks eq equality m law R v W s u ts us k n x T b (stands_here eq equality m R v W s ts w d owed st) computed within once asked reached undecided idle seen born put lives same)
