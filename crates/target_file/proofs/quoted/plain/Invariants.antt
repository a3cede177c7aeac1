use Rattle.std.proofs.Common.{◌≡◌, false, take}
use Rattle.std.specs.List.{AllByRecursion}
use Rattle.target_file.specs.Code.{is_special}
use Rattle.target_file.proofs.quoted.plain.Given as goal

abbrev pub invariant-loop-i : goal.invariant-loop-i
invariant-loop-i l = AllByRecursion (λ b. is_special l.quote b ≡ false) (take l.i l.rest)
