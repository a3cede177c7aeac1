use Rattle.std.proofs.Common.{◌≡◌, true, take}
use Rattle.std.specs.List.{AllByRecursion}
use Rattle.target_file.specs.Tokens.{is_letter}
use Rattle.target_file.proofs.reader.letters.Given as goal

abbrev pub invariant-loop-i : goal.invariant-loop-i
invariant-loop-i l = AllByRecursion (λ b. is_letter b ≡ true) (take l.i l.rest)
