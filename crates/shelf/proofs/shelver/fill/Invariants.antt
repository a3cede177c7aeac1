use Rattle.std.specs.Prelude.{◌≡◌, ◌≤◌, length, All, vec_capacity}
use Rattle.shelf.specs.Ends.{IsNewReader}
use Rattle.shelf.proofs.shelver.fill.Given as goal

abbrev pub invariant-loop : goal.invariant-loop
invariant-loop g l = (l.readers ≤ vec_capacity l.ends) × (length l.ends.items ≡ l.counter) × All IsNewReader l.ends.items
