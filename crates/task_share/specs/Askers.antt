-- The code's askers, without pointers.
use Rattle.std.specs.Arc.{arc_value}
use Rattle.task_share.specs.Asked.{By, Promised, Tasked}
use Rattle.task_share.specs.declared.asker.Asker.{Asker}
use Rattle.task_share.specs.declared.asker.Asker.TheVariants.{Promise, Task}

-- who an asker is
abbrev pub by_of : {K : Type 0} → Asker K → By K
by_of (Promise n) = Promised n
by_of (Task k) = Tasked (arc_value k)
