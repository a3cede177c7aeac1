use Rattle.shelf.proofs.Keeps.{looks}
use Rattle.shelf.proofs.door.Door.enter.Goals as goal

pub enter_as-requires : goal.enter_as-requires
enter_as-requires g c x = looks _ _ _ _ x
