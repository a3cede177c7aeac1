use Rattle.dice_engine.proofs.Callers.{open_later, ask_later, saw_later, saw_own, closed_both, left_both, same_number}
use Rattle.dice_engine.proofs.laws.conditions_stay.Goals as goal

pub returns-clause-open : goal.returns-clause-open
returns-clause-open g c = λ s u t v l n h. open_later s u t v (same_number g.U.Key.PartialEq.eq g.U.Universe.meaning s u l) l.begins n h

pub returns-clause-ask : goal.returns-clause-ask
returns-clause-ask g c = λ s u i t v k l n h. ask_later s u i t v k (same_number g.U.Key.PartialEq.eq g.U.Universe.meaning s u l) l.begins n h

pub returns-clause-saw : goal.returns-clause-saw
returns-clause-saw g c = saw_later

pub returns-clause-own : goal.returns-clause-own
returns-clause-own g c = saw_own

pub returns-clause-closed : goal.returns-clause-closed
returns-clause-closed g c = closed_both

pub returns-clause-left : goal.returns-clause-left
returns-clause-left g c = left_both
