use Rattle.std.proofs.Common.{◌≡◌, drop}
use Rattle.std.specs.List.{list_any}
use Rattle.small_set.proofs.set.is_among.Given as goal

-- the members that are left say it
abbrev pub invariant-loop-member : goal.invariant-loop-member
invariant-loop-member g l = list_any (g.T.PartialEq.eq l.value) (drop l.member-index l.list) ≡ list_any (g.T.PartialEq.eq l.value) l.list
