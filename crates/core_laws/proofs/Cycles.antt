-- Tasks that end with a cycle.
use Rattle.std.proofs.Common.{◌≡◌, ℕ, Bool, true, false, cond, not, ◌&&◌, List, [], ◌∷◌, Option, Some, refl, ap}
use Rattle.dice_key.specs.Meaning.{Meaning}
use Rattle.dice_key.specs.Lawful.{IsEquality}
use Rattle.dice_model.specs.Asks.{AsksFor, Reaches, here, through, GoesRound}
use Rattle.task_share.specs.Asked.{Asked}
use Rattle.journal.specs.declared.event.Told.{Told}
use Rattle.journal.specs.declared.event.Told.TheVariants.{Cyclic}
use Rattle.journal.specs.Events.{ByCycle, commits_of, decided, is_running}
use Rattle.journal.specs.Law.{IsAllowed, IsWanted, CycleStands}
use Rattle.core_laws.specs.Tasks.{WithCycle, Ended, Task, goes_on}
use Rattle.core_laws.specs.Stands.{VersionStands}
use Rattle.core_laws.specs.Changes.{Puts, Lives, Withdraws}
use Rattle.core_laws.proofs.OfKey.{named, cyclic_leaves}
use Rattle.core_laws.proofs.Ends.{undecided_at_work, task_ends}
use Rattle.lists.specs.Lists.{AreDistinct}

module _ {K V : Type 0} (eq : K → K → Bool) (m : Meaning K V) (C : List (List (K × V))) (v : ℕ) where
  -- what asks a key that reaches a cycle reaches it too
  pub cycle_above : (i k : K) (p : List K) → AsksFor eq m C v i k → CycleStands eq m C v k p → CycleStands eq m C v i p
  cycle_above i k p a c = record { first = c.first; rest = c.rest; path_is = c.path_is; cycle = c.cycle; reaches = through a c.reaches }

  pub cycle_reached : (i k : K) (p : List K) → Reaches eq m C v i k → CycleStands eq m C v k p → CycleStands eq m C v i p
  cycle_reached i k p here c = c
  cycle_reached i k p (through {i = j} a r) c = cycle_above i j p a (cycle_reached j k p r c)

  -- `Round k js`: k asks the first of js, each of these the next, and the last asks `first`
  module _ (first : K) (Round : K → List K → Type 0) (last : (k : K) → Round k [] → AsksFor eq m C v k first) (next : (k j : K) (js : List K) → Round k (j ∷ js) → AsksFor eq m C v k j × Round j js) where
    goes_round : (k : K) (js : List K) → Round k js → GoesRound eq m C v first k js
    goes_round k [] r = last k r
    goes_round k (j ∷ js) r = let a = next k j js r in (a.0, goes_round j js a.1)

    -- distinct keys in a round are a cycle
    pub round_is_cycle : (rest : List K) → AreDistinct (first ∷ rest) → Round first rest → CycleStands eq m C v first (first ∷ rest)
    round_is_cycle rest d r = record { first = first; rest = rest; path_is = refl; cycle = (d, goes_round first rest r); reaches = here }

-- a task at work whose key reaches a cycle: its Cyclic is allowed, and its task ends with the cycle
pub cycles : {K V : Type 0} (eq : K → K → Bool) (equality : IsEquality eq) (m : Meaning K V) (R : List (Told K V)) (v : ℕ)
    (W : List K) (s u : Asked K) (ts us : K → Option (Task K V)) (k : K) (t : Task K V) (h : VersionStands eq m R v W s ts) (there : ts k ≡ Some t) (path : List K)
    → goes_on t.standing ≡ true → IsWanted eq m R v k → CycleStands eq m (commits_of R) v k path → Withdraws eq k s u → Lives eq k false s u → Puts eq k (Some (record { born = t.born; standing = Ended (WithCycle path) })) ts us
    → IsAllowed eq m R (Cyclic v k) × VersionStands eq m (Cyclic v k ∷ R) v (k ∷ W) u us
cycles eq equality m R v W s u ts us k t h there path going wanted c w l p = (
  (wanted, undecided_at_work eq m R v k t going (h.each k t there), record { first = c.first; rest = c.rest; cycle = c.cycle; reaches = c.reaches }, (h.each k t there).computed),
  task_ends eq equality m R (Cyclic v k ∷ R) v k (cyclic_leaves eq equality R v k) W s u ts us h t there going (WithCycle path) w l p
      (c, ap (λ b. cond b (Some ByCycle) (decided eq R v k)) (named eq equality v k)) (ap (λ b. not b && is_running eq R v k) (named eq equality v k)),
)
