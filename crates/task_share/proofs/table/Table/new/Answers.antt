use Rattle.std.proofs.Common.{map, ap}
use Rattle.std.specs.Arc.{arc_value}
use Rattle.std.specs.Vec.{vec_capacity}
use Rattle.task_share.specs.Listed.{shares_of}
use Rattle.task_share.proofs.NumberLemmas.{empty_whole, empty_linked}
use Rattle.task_share.proofs.table.Table.new.Goals as goal

pub invariant_of-result : goal.invariant_of-result
invariant_of-result g c = (c.requires, empty_whole g.K.PartialEq.eq (shares_of c.with_hasher.result.entries) (map arc_value c.new.result.items) (vec_capacity c.new.result) (ap shares_of c.with_hasher.ensures.empty) (ap (map arc_value) c.new.ensures.items), empty_linked g.K.PartialEq.eq c.with_hasher.result.entries c.with_hasher.ensures.empty c.with_hasher.ensures.unique)
