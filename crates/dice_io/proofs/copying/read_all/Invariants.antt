use Rattle.std.proofs.Common.{◌≡◌, ◌≤◌, ◌-◌, ◌++◌, ℕ, List, length, Some}
use Rattle.dice_io.proofs.copying.read_all.Given as goal

-- what was read, and what is left, is what was left
abbrev pub invariant-loop-bytes : goal.invariant-loop-bytes
invariant-loop-bytes g l = record {
  told : (all : List ℕ) → g.S.Source.left l.fn.source ≡ Some all → (rest : List ℕ) × (g.S.Source.left l.source ≡ Some rest) × (all ≡ l.bytes.items ++ rest);
  few : length l.bytes.items ≤ l.limit;
  steady : g.S.Source.faults l.source ≡ g.S.Source.faults l.fn.source;
}

abbrev pub decreases-loop-bytes : goal.decreases-loop-bytes
decreases-loop-bytes g l = l.limit - length l.bytes.items
