-- The ready tasks in another order.
use Rattle.std.specs.Prelude.{◌≡◌, ◌≤◌, ℕ, List, length}
use Rattle.dice_tasks.specs.declared.shelf.ReadyTask.{ReadyTask}
use Rattle.dice_tasks.specs.Hands.{DeskSeen, Stays}
use Rattle.dice_tasks.specs.Shelves.{ready_of, out_of, IsLaid}

-- the same tasks are ready, in some order, and nothing else changes
pub record Reorders {K V : Type 0} (d e : DeskSeen K V) : Type 0 where
  pub ready : Stays d.ready e.ready
  pub count : length e.ready ≡ length d.ready
  pub rest : e ≡ record d { ready = e.ready }

-- the first n tasks, which are ready, stand in some order, and the others as before; and there is no less room
pub record IsReordered {K : Type 0} (n : ℕ) (ks ls : List (ReadyTask K)) (before after : ℕ) : Type 0 where
  pub ready : Stays (ready_of n ks) (ready_of n ls)
  pub out : out_of n ls ≡ out_of n ks
  pub laid : IsLaid n ls
  pub room : before ≤ after
