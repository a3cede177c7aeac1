use Rattle.std.proofs.Common.{◌≡◌, ◌++◌, drop}
use Rattle.target_file.specs.Strings.{IsCommand, locations}
use Rattle.target_file.proofs.making.locations_of.Given as goal

-- the labels so far, and those of the rest
abbrev pub invariant-loop-i : goal.invariant-loop-i
invariant-loop-i l = record {
  so_far : l.labels.items ++ locations (drop l.i l.text) ≡ locations l.text;
  command : IsCommand (drop l.i l.text);
}
