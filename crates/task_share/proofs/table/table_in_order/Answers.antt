use Rattle.std.proofs.Common.{◌≡◌, subst, List, Some, true}
use Rattle.std.specs.Prelude.{IsSome}
use Rattle.task_share.specs.Seen.{Share, is_live, task_at, waits_at}
use Rattle.std.specs.List.{list_any}
use Rattle.std.specs.Map.{keys_of}
use Rattle.task_share.specs.Numbers.{key_at, number_of}
use Rattle.task_share.proofs.TableLemmas.{live_there}
use Rattle.task_share.proofs.NumberLemmas.{distinct_keys, waited_number}
use Rattle.lists.specs.Lists.{AreDistinct}
use Rattle.task_share.proofs.table.table_in_order.Goals as goal

pub returns-clause-there : goal.returns-clause-there
returns-clause-there g c = subst (λ (ps : List (g.row.K.Denot × Share g.row.K.Denot g.row.T.Denot)). (k : g.row.K.Denot) → is_live g.K.PartialEq.eq ps k ≡ true → IsSome (task_at g.K.PartialEq.eq ps k)) c.table.view_is
    (live_there g.K.PartialEq.eq c.table.invariant.0 _ _ _ c.table.invariant.1.listed)

pub returns-clause-distinct : goal.returns-clause-distinct
returns-clause-distinct g c = subst (λ (ps : List (g.row.K.Denot × Share g.row.K.Denot g.row.T.Denot)). AreDistinct (keys_of ps)) c.table.view_is
    (distinct_keys g.K.PartialEq.eq c.table.invariant.0 c.table.inside.places.entries c.table.invariant.2.distinct)

pub returns-clause-numbered : goal.returns-clause-numbered
returns-clause-numbered g c = subst (λ (ps : List (g.row.K.Denot × Share g.row.K.Denot g.row.T.Denot)). (k d : g.row.K.Denot) → list_any (g.K.PartialEq.eq d) (waits_at g.K.PartialEq.eq ps k) ≡ true → key_at ps (number_of g.K.PartialEq.eq ps d) ≡ Some d) c.table.view_is
    (waited_number g.K.PartialEq.eq c.table.invariant.0 c.table.inside.places.entries c.table.invariant.2.distinct c.table.invariant.2)
