use Rattle.std.proofs.Common.{◌↔◌, drop}
use Rattle.std.specs.List.{AllByRecursion}
use Rattle.target_file.specs.Table.{needed}
use Rattle.target_file.specs.Files.{attributes}
use Rattle.target_file.specs.Seen.{arguments_of}
use Rattle.target_file.proofs.given.is_whole.Given as goal
use Rattle.lists.specs.Lists.{Has}

abbrev pub invariant-loop-attribute : goal.invariant-loop-attribute
invariant-loop-attribute l =
    AllByRecursion (λ a. Has (attributes (arguments_of l.given)) a) (needed l.fn.rule) ↔ AllByRecursion (λ a. Has (attributes (arguments_of l.given)) a) (drop l.attribute-index l.attribute-items)
