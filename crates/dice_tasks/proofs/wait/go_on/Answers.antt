use Rattle.std.specs.Arc.{arc_value}
use Rattle.core_laws.specs.Tasks.{IsReady, IsOut}
use Rattle.dice_tasks.specs.Helds.{held_of}
use Rattle.dice_tasks.proofs.WaitLemmas.{turned_by, goes_on_so}
use Rattle.dice_tasks.proofs.wait.go_on.Goals as goal

pub returns-clause-ready : goal.returns-clause-ready
returns-clause-ready g c = record {
  table = turned_by g.U.Key.PartialEq.eq c.laws_of.ensures.keys (arc_value c.args.key.now) (held_of c.args.parked.job IsOut) (held_of c.args.next.job IsReady) c.go_on.new.self _ _ c.requires.out c.go_on.ensures (rw c.in-Some.is at (c.task_mut.follows.holds c.go_on.new.self));
  desk = c.returned.ensures;
}

pub returns-clause-kept : goal.returns-clause-kept
returns-clause-kept g c w W owed work next zip =
    goes_on_so g.U.Key.PartialEq.eq c.laws_of.ensures.keys g.U.Universe.meaning c.laws_of.ensures.lawful c.args.version (arc_value c.args.key.now) c.args.parked.job c.args.next.job c.args.parked.keys c.args.next.values _ _ _ _ c.requires.next (returns-clause-ready g c) W w owed work next zip
