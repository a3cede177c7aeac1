use Rattle.std.specs.Prelude.{drop}
use Rattle.shelf.proofs.Keeps.{publishes}
use Rattle.shelf.proofs.shelver.publish_raw.Goals as goal

pub publish_as-requires : goal.publish_as-requires
publish_as-requires g c next is = publishes _ _ _ _ c.args.writer.desk.shown.value next (drop c.args.writer.behind c.args.writer.log.items) is c.requires.sound
