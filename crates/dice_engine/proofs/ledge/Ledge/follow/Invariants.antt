use Rattle.std.proofs.Common.{◌≡◌, map, take, false}
use Rattle.dice_engine.specs.Rows.{item_of, items_of}
use Rattle.dice_engine.proofs.ledge.Ledge.follow.Given as goal

abbrev pub invariant-loop-index : goal.invariant-loop-index
invariant-loop-index g l = (map item_of l.self.list ≡ items_of (take l.index l.core.desk.events)) × (l.gained ≡ false → l.self.published ≡ l.self.list) × (l.self.taken ≡ l.fn.self.taken)
