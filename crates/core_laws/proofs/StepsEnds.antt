-- Tasks that end, or are dropped, over all versions.
use Rattle.std.proofs.Common.{◌≡◌, ◌≤◌, ◌+◌, ◌*◌, ℕ, Bool, true, false, List, [], ◌∷◌, map, Option, Some, None}
use Rattle.dice_key.specs.Meaning.{Meaning, Answered, Ends}
use Rattle.dice_key.specs.Lawful.{IsLawful, IsEquality}
use Rattle.dice_model.specs.Eval.{HasValue}
use Rattle.dice_model.specs.Asks.{IsTrace}
use Rattle.task_share.specs.Asked.{Asked, Takes}
use Rattle.journal.specs.declared.event.Told.{Told}
use Rattle.journal.specs.declared.event.Told.TheVariants.{Start, Keep, End, Cyclic, Drop, Lost}
use Rattle.journal.specs.declared.event.Reason.TheVariants.{Differs}
use Rattle.journal.specs.Events.{commits_of, ended_at}
use Rattle.journal.specs.Law.{IsAllowed, IsWanted, CycleStands}
use Rattle.core_laws.specs.Tasks.{Works, Ended, WithValue, WithCycle, WithNothing, IsReady, IsOut, Task, goes_on}
use Rattle.core_laws.specs.Changes.{Puts, SameAsks, SameLives, Lives, Withdraws, ChangesFirst}
use Rattle.core_laws.specs.Desk.{World, Desk, DeskTurns, Stand, with_version}
use Rattle.core_laws.proofs.Turns.{stands_here}
use Rattle.core_laws.proofs.Ends.{ends, keeps, differs, loses}
use Rattle.core_laws.proofs.Cycles.{cycles}
use Rattle.core_laws.proofs.Drops.{drops}
use Rattle.core_laws.proofs.Steps.{event_on}
use Rattle.dice_jobs.specs.Jobs.{Checks, Computes}

module _ {K V : Type 0} (eq : K → K → Bool) (equality : IsEquality eq) (m : Meaning K V) (law : IsLawful m) (R : List (Told K V)) (v : ℕ) where
  -- a run that is done: its task ends with its value
  pub ends_stand : (w : World K V) (W : List K) (s u : Asked K) (ts us : K → Option (Task K V)) (k : K) (t : Task K V) (A : List (Answered K V)) (x : V) (d e : Desk K) (owed owed2 : ℕ) → Stand eq m R v W (with_version v s ts w) d owed
      → ts k ≡ Some t → t.standing ≡ Works Computes IsOut A → m.next k A v ≡ Ends x → IsWanted eq m R v k → Withdraws eq k s u → Lives eq k false s u → Puts eq k (Some (record { born = t.born; standing = Ended (WithValue x) })) ts us
      → DeskTurns v k (ts k) (Some (record { born = t.born; standing = Ended (WithValue x) })) d e → 2 * e.live + owed2 ≤ e.spare
      → IsAllowed eq m R (End v k) × Stand eq m (End v k ∷ R) v (k ∷ W) (with_version v u us w) e owed2 × HasValue eq m (commits_of R) v k x × IsTrace eq m (commits_of R) v k A x
  ends_stand w W s u ts us k t A x d e owed owed2 st there at done wanted withdrawn lives put turns room =
      let r = ends eq equality m law R v W s u ts us k t (stands_here eq equality m R v W s ts w d owed st) there A x at done wanted withdrawn lives put in
      (r.0, event_on eq equality m law R v w W s u ts us k d e owed owed2 _ st put turns room (k ∷ W) (End v k) (λ n f. f) r.0 r.1, r.2, r.3)

  -- a check whose answers are all those of its trace: its task ends with the earlier value
  pub keeps_stand : (w : World K V) (W : List K) (s u : Asked K) (ts us : K → Option (Task K V)) (k : K) (t : Task K V) (T A : List (Answered K V)) (x : V) (b : ℕ) (d e : Desk K) (owed owed2 : ℕ) → Stand eq m R v W (with_version v s ts w) d owed
      → ts k ≡ Some t → t.standing ≡ Works (Checks x T b) IsOut A → map (λ a. a.values) A ≡ map (λ a. a.values) T → IsWanted eq m R v k → Withdraws eq k s u → Lives eq k false s u → Puts eq k (Some (record { born = t.born; standing = Ended (WithValue x) })) ts us
      → DeskTurns v k (ts k) (Some (record { born = t.born; standing = Ended (WithValue x) })) d e → 2 * e.live + owed2 ≤ e.spare
      → IsAllowed eq m R (Keep v k b) × Stand eq m (Keep v k b ∷ R) v (k ∷ W) (with_version v u us w) e owed2 × HasValue eq m (commits_of R) v k x × IsTrace eq m (commits_of R) v k A x
  keeps_stand w W s u ts us k t T A x b d e owed owed2 st there at equal wanted withdrawn lives put turns room =
      let r = keeps eq equality m law R v W s u ts us k t (stands_here eq equality m R v W s ts w d owed st) there T A x b at equal wanted withdrawn lives put in
      (r.0, event_on eq equality m law R v w W s u ts us k d e owed owed2 _ st put turns room (k ∷ W) (Keep v k b) (λ n f. f) r.0 r.1, r.2, r.3)

  -- a check with a changed answer: its task computes from the answers that it has
  pub differs_stand : (w : World K V) (W : List K) (s u : Asked K) (ts us : K → Option (Task K V)) (k : K) (t : Task K V) (T A : List (Answered K V)) (x : V) (b : ℕ) (i : K) (d e : Desk K) (owed owed2 : ℕ) → Stand eq m R v W (with_version v s ts w) d owed
      → ts k ≡ Some t → t.standing ≡ Works (Checks x T b) IsOut A → ChangesFirst T A i → IsWanted eq m R v k → SameAsks eq s u → SameLives eq s u → Puts eq k (Some (record { born = t.born; standing = Works Computes IsReady A })) ts us
      → DeskTurns v k (ts k) (Some (record { born = t.born; standing = Works Computes IsReady A })) d e → 2 * e.live + owed2 ≤ e.spare
      → IsAllowed eq m R (Start v k (Differs b i)) × Stand eq m (Start v k (Differs b i) ∷ R) v W (with_version v u us w) e owed2
  differs_stand w W s u ts us k t T A x b i d e owed owed2 st there at changed wanted same lives put turns room =
      let r = differs eq equality m law R v W s u ts us k t (stands_here eq equality m R v W s ts w d owed st) there T A x b i at changed wanted same lives put in
      (r.0, event_on eq equality m law R v w W s u ts us k d e owed owed2 _ st put turns room W (Start v k (Differs b i)) (λ n f. f) r.0 r.1)

  -- a task that is given up ends with nothing
  pub loses_stand : (w : World K V) (W : List K) (s u : Asked K) (ts us : K → Option (Task K V)) (k : K) (t : Task K V) (d e : Desk K) (owed owed2 : ℕ) → Stand eq m R v W (with_version v s ts w) d owed
      → ts k ≡ Some t → goes_on t.standing ≡ true → IsWanted eq m R v k → Withdraws eq k s u → Lives eq k false s u → Puts eq k (Some (record { born = t.born; standing = Ended WithNothing })) ts us
      → DeskTurns v k (ts k) (Some (record { born = t.born; standing = Ended WithNothing })) d e → 2 * e.live + owed2 ≤ e.spare
      → IsAllowed eq m R (Lost v k) × Stand eq m (Lost v k ∷ R) v (k ∷ W) (with_version v u us w) e owed2
  loses_stand w W s u ts us k t d e owed owed2 st there going wanted withdrawn lives put turns room =
      let r = loses eq equality m law R v W s u ts us k t (stands_here eq equality m R v W s ts w d owed st) there going wanted withdrawn lives put in
      (r.0, event_on eq equality m law R v w W s u ts us k d e owed owed2 _ st put turns room (k ∷ W) (Lost v k) (λ n f. f) r.0 r.1)

  -- a task at work whose key reaches a cycle ends with the cycle
  pub cycles_stand : (w : World K V) (W : List K) (s u : Asked K) (ts us : K → Option (Task K V)) (k : K) (t : Task K V) (path : List K) (d e : Desk K) (owed owed2 : ℕ) → Stand eq m R v W (with_version v s ts w) d owed
      → ts k ≡ Some t → goes_on t.standing ≡ true → IsWanted eq m R v k → CycleStands eq m (commits_of R) v k path → Withdraws eq k s u → Lives eq k false s u → Puts eq k (Some (record { born = t.born; standing = Ended (WithCycle path) })) ts us
      → DeskTurns v k (ts k) (Some (record { born = t.born; standing = Ended (WithCycle path) })) d e → 2 * e.live + owed2 ≤ e.spare
      → IsAllowed eq m R (Cyclic v k) × Stand eq m (Cyclic v k ∷ R) v (k ∷ W) (with_version v u us w) e owed2
  cycles_stand w W s u ts us k t path d e owed owed2 st there going wanted cycle withdrawn lives put turns room =
      let r = cycles eq equality m R v W s u ts us k t (stands_here eq equality m R v W s ts w d owed st) there path going wanted cycle withdrawn lives put in
      (r.0, event_on eq equality m law R v w W s u ts us k d e owed owed2 _ st put turns room (k ∷ W) (Cyclic v k) (λ n f. f) r.0 r.1)

  -- after an end at v, a task at work without asker goes
  pub drops_stand : (w : World K V) (W : List K) (s u : Asked K) (ts us : K → Option (Task K V)) (k : K) (d e : Desk K) (owed owed2 : ℕ) → Stand eq m R v W (with_version v s ts w) d owed
      → Takes eq s k u → Puts eq k None ts us → ended_at R ≡ Some v
      → DeskTurns v k (ts k) None d e → 2 * e.live + owed2 ≤ e.spare
      → IsAllowed eq m R (Drop v k) × Stand eq m (Drop v k ∷ R) v W (with_version v u us w) e owed2 × (ended_at (Drop v k ∷ R) ≡ Some v)
  drops_stand w W s u ts us k d e owed owed2 st takes put after turns room =
      let r = drops eq equality m R v W s u ts us k (stands_here eq equality m R v W s ts w d owed st) takes put after in
      (r.0, event_on eq equality m law R v w W s u ts us k d e owed owed2 _ st put turns room W (Drop v k) (λ n f. f) r.0 r.1, r.2)
