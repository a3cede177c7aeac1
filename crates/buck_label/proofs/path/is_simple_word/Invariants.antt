use Rattle.std.proofs.Common.{◌≡◌, true, take}
use Rattle.std.specs.List.{AllByRecursion}
use Rattle.buck_label.specs.Machine.{is_simple}
use Rattle.buck_label.proofs.path.is_simple_word.Given as goal

abbrev pub invariant-loop-i : goal.invariant-loop-i
invariant-loop-i l = AllByRecursion (λ b. is_simple b ≡ true) (take l.i l.bytes)
