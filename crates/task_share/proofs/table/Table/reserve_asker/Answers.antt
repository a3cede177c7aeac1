use Rattle.task_share.specs.Listed.{shares_of}
use Rattle.task_share.proofs.TurnLemmas.{kept_on}
use Rattle.task_share.proofs.TableLemmas.{mirrored_same}
use Rattle.task_share.proofs.table.Table.reserve_asker.Goals as goal

pub invariant_of-self-2 : goal.invariant_of-self-2
invariant_of-self-2 g c =
    let eq = g.K.PartialEq.eq in
    let k = kept_on eq (shares_of c.self.inside.places.entries) (shares_of c.reserve_place.new.places.entries) (shares_of c.reserve_asker.new.places.entries) c.reserve_place.ensures.kept c.reserve_asker.ensures.kept in
    (c.self.invariant.0, record { listed = c.reserve_asker.ensures.listed _ _ c.reserve_place.ensures.listed; mirrored = mirrored_same eq c.self.invariant.0 (shares_of c.self.inside.places.entries) (shares_of c.reserve_asker.new.places.entries) k.asks k.waits c.self.invariant.1.mirrored }, c.reserve_asker.ensures.linked)
