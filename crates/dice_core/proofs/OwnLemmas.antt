-- What is known of the answers of a job whose task is at work, and of a step whose job is alike.
use Rattle.std.proofs.Common.{◌≡◌, ℕ, Bool, List, Some, sym, ap, subst}
use Rattle.std.specs.Option.{option_map}
use Rattle.dice_key.specs.Meaning.{Meaning, Answered}
use Rattle.task_share.specs.Seen.{asked_of}
use Rattle.journal.specs.declared.event.Told.{Told}
use Rattle.journal.specs.Events.{commits_of}
use Rattle.dice_jobs.specs.Jobs.{Name, Work, Computes, Checks, Assigned}
use Rattle.dice_jobs.specs.Alike.{AreAlike, AreTrulyAnswered, AnsweredTruly, IsAnsweredIn}
use Rattle.core_laws.specs.Tasks.{Phase, IsOut}
use Rattle.core_laws.specs.Stands.{WorkStands, IsAtRest}
use Rattle.dice_tasks.specs.Hands.{tasks_of}
use Rattle.dice_tasks.specs.Helds.{held_of, task_of}
use Rattle.dice_core.specs.Cores.{CoreSeen, past_of, table_at, held_in}

module _ {K V : Type 0} (eq : K → K → Bool) (m : Meaning K V) where
  work_answered : (R : List (Told K V)) (n : Name K) (W : Work K V) (A : List (Answered K V)) → WorkStands eq m R n.version n.key W A → AreTrulyAnswered eq m (commits_of R) n.version n.key W A
  work_answered R n Computes A h = h
  work_answered R n (Checks x T b) A h = (h.0.within, h.0.traced, h.1, h.2)

  module _ (c : CoreSeen K V) (rests : (v : ℕ) → IsAtRest eq m (past_of c) v (asked_of eq (table_at c.tables v)) (tasks_of eq (table_at c.tables v))) where
    -- the job of a task at work is answered with the values at its version
    pub answered_in : (j : Assigned K V) (p : Phase K) → held_in eq c j.name.version j.name.key ≡ Some (held_of j p) → IsAnsweredIn eq m (commits_of (past_of c)) j
    answered_in j p is =
        let t = (rests j.name.version).stands.each j.name.key (task_of (held_of j p)) (ap (option_map task_of) is) in
        record { within = t.within; truly = work_answered (past_of c) j.name j.work j.answered t.standing.work }

    -- the job that is out is this one, which is alike and is answered so too
    pub own_out : ((a b : Assigned K V) → AreAlike a b → AnsweredTruly eq m (commits_of (past_of c)) a → AnsweredTruly eq m (commits_of (past_of c)) b → a ≡ b)
        → (a j : Assigned K V) → AnsweredTruly eq m (commits_of (past_of c)) a → held_in eq c a.name.version a.name.key ≡ Some (held_of j IsOut) → AreAlike a j → held_in eq c a.name.version a.name.key ≡ Some (held_of a IsOut)
    own_out one a j truly held alike =
        let i = subst (λ (n : Name K). held_in eq c n.version n.key ≡ Some (held_of j IsOut)) alike.name held in
        let s : a ≡ j = one a j alike truly (answered_in j IsOut i).truly in
        subst (λ b. held_in eq c a.name.version a.name.key ≡ Some (held_of b IsOut)) (sym s) held
