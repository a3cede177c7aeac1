-- Keys that compare equal are the same, and so are values that are equal.
use Rattle.std.specs.Prelude.{refl}
use Rattle.std.proofs.Common.{ap}
use Rattle.dice_key.specs.Lawful.{SameKeys, AreSame}
use Rattle.dice_key.specs.Same.{same_number, tied_numbers, tied_bools, tied_two_numbers}
use Rattle.tiny_universe.specs.contracts.place.PlaceOrd.TheImpl as ordered
use Rattle.tiny_universe.specs.contracts.place.ValuePartialEq.TheImpl as valued
use Rattle.tiny_universe.specs.declared.place.Place.TheVariants.{Cell, Follow, Parity, Sum, Clock, Ring}
use Rattle.tiny_universe.specs.declared.place.Value.TheVariants.{Number, Reading}

pub same_places : SameKeys ordered.ghosts.cmp
same_places (Cell a) (Cell c) h = ap Cell (tied_numbers a c h)
same_places (Follow a) (Follow c) h = ap Follow (tied_numbers a c h)
same_places (Parity a) (Parity c) h = ap Parity (tied_numbers a c h)
same_places (Sum a b) (Sum c d) h = tied_two_numbers Sum a b c d h
same_places Clock Clock h = refl
same_places (Ring a) (Ring c) h = ap Ring (tied_bools a c h)
same_places x y h = cc

pub equal_values : AreSame valued.ghosts.eq
equal_values (Number a) (Number b) h = ap Number (same_number a b h)
equal_values (Reading a) (Reading b) h = ap Reading (same_number a b h)
equal_values x y h = cc
