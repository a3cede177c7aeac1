use Rattle.std.proofs.Common.{map, sym, ap, subst, arith}
use Rattle.std.specs.Prelude.{IsSome}
use Rattle.std.specs.Arc.{arc_value}
use Rattle.std.specs.Vec.{vec_capacity}
use Rattle.task_share.specs.Listed.{shares_of, IsListed}
use Rattle.task_share.proofs.TurnLemmas.{kept_on}
use Rattle.task_share.proofs.IdleLemmas.{none_idle, popped, popped_on, all_run}
use Rattle.task_share.proofs.idle.pop_idle.Goals as goal
use Rattle.lists.proofs.Members.{none_left}

pub take_idle-requires-clause-runs : goal.take_idle-requires-clause-runs
take_idle-requires-clause-runs g c = all_run g.K.PartialEq.eq (shares_of c.loop-key.places.entries) (map arc_value c.loop-key.candidates.items) (vec_capacity c.loop-key.candidates) c.loop-key.invariant.listed

pub returns-in-Some-take_idle-clause-listed : goal.returns-in-Some-take_idle-clause-listed
returns-in-Some-take_idle-clause-listed g c =
    let eq = g.K.PartialEq.eq in
    let m = popped c.loop-key.candidates.items c.pop.new.self.items c.pop.result c.in-Some.key c.pop.ensures.items c.in-Some.is in
    let l = subst (λ r. IsListed eq (shares_of c.take_idle.new.places.entries) (map arc_value c.pop.new.self.items) r) (sym c.pop.ensures.capacity)
    (c.take_idle.ensures.listed (map arc_value c.pop.new.self.items) (vec_capacity c.loop-key.candidates) (subst (λ cs. IsListed eq (shares_of c.loop-key.places.entries) cs (vec_capacity c.loop-key.candidates)) m c.loop-key.invariant.listed)) in
    l

pub returns-in-Some-take_idle-clause-some : goal.returns-in-Some-take_idle-clause-some
returns-in-Some-take_idle-clause-some g c = popped_on g.K.PartialEq.eq (shares_of c.args.places.now.entries) (shares_of c.loop-key.places.entries) (shares_of c.take_idle.new.places.entries) _ _ _ c.loop-key.invariant.kept c.in-Some-take_idle.ensures.some

pub loop-key-preserved : goal.loop-key-preserved
loop-key-preserved g c =
    let eq = g.K.PartialEq.eq in
    let m = popped c.loop-key.candidates.items c.pop.new.self.items c.pop.result c.in-Some.key c.pop.ensures.items c.in-Some.is in
    let l = subst (λ r. IsListed eq (shares_of c.take_idle.new.places.entries) (map arc_value c.pop.new.self.items) r) (sym c.pop.ensures.capacity)
    (c.take_idle.ensures.listed (map arc_value c.pop.new.self.items) (vec_capacity c.loop-key.candidates) (subst (λ cs. IsListed eq (shares_of c.loop-key.places.entries) cs (vec_capacity c.loop-key.candidates)) m c.loop-key.invariant.listed)) in
    record { linked = c.take_idle.ensures.linked; listed = l; kept = kept_on eq (shares_of c.args.places.now.entries) (shares_of c.loop-key.places.entries) (shares_of c.take_idle.new.places.entries) c.loop-key.invariant.kept c.in_default-take_idle.ensures.none }

pub returns-clause-none : goal.returns-clause-none
returns-clause-none g c =
    let eq = g.K.PartialEq.eq in
    let empty = ap (map arc_value) (none_left c.loop-key.candidates.items (λ lt. let z = subst IsSome c.in_default.is (c.pop.ensures.variant.1 (omega arith)) in cc)) in
    (c.loop-key.invariant.kept, none_idle eq c.requires.equality (shares_of c.loop-key.places.entries) (vec_capacity c.loop-key.candidates) (subst (λ cs. IsListed eq (shares_of c.loop-key.places.entries) cs (vec_capacity c.loop-key.candidates)) empty c.loop-key.invariant.listed))
