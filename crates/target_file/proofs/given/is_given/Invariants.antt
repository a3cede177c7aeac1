use Rattle.std.proofs.Common.{◌↔◌, drop}
use Rattle.target_file.specs.Files.{attributes}
use Rattle.target_file.specs.Seen.{arguments_of}
use Rattle.target_file.proofs.given.is_given.Given as goal
use Rattle.lists.specs.Lists.{Has}

-- it is among them exactly if it is among the rest
abbrev pub invariant-loop-argument : goal.invariant-loop-argument
invariant-loop-argument l =
    Has (attributes (arguments_of l.given)) l.attribute ↔ Has (attributes (arguments_of (drop l.argument-index l.given))) l.attribute
