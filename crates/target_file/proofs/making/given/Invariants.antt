use Rattle.std.proofs.Common.{◌≡◌, drop}
use Rattle.target_file.specs.Seen.{arguments_of}
use Rattle.target_file.specs.Targets.{given}
use Rattle.target_file.proofs.making.given.Given as goal

-- what is given by all is given by the rest
abbrev pub invariant-loop-argument : goal.invariant-loop-argument
invariant-loop-argument l = given l.attribute (arguments_of l.arguments) ≡ given l.attribute (arguments_of (drop l.argument-index l.arguments))
