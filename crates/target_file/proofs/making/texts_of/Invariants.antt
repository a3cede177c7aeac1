use Rattle.std.proofs.Common.{◌≡◌, take}
use Rattle.target_file.proofs.making.texts_of.Given as goal

abbrev pub invariant-loop-item : goal.invariant-loop-item
invariant-loop-item l = l.texts.items ≡ take l.item-index l.items
