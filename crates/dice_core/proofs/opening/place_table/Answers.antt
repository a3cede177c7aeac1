use Rattle.dice_core.proofs.OpeningLemmas.{placed_same, placed_stays}
use Rattle.std.proofs.Common.{sym, ◌∙◌}
use Rattle.dice_core.proofs.opening.place_table.Goals as goal

pub returns-clause-same : goal.returns-clause-same
returns-clause-same g c = placed_same c.args.versions.now.entries c.insert.new.self.entries c.args.version c.take.result c.take.ensures (sym c.contains_key.ensures ∙ c.if-contains_key.false) c.in_ok-insert.ensures.updates.0

pub returns-clause-stays : goal.returns-clause-stays
returns-clause-stays g c = placed_stays c.args.versions.now.entries c.insert.new.self.entries c.args.version c.take.result c.take.ensures (sym c.contains_key.ensures ∙ c.if-contains_key.false) c.in_ok-insert.ensures.updates.0
