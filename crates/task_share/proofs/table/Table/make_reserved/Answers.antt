use Rattle.std.specs.Arc.{arc_value}
use Rattle.task_share.specs.Listed.{shares_of}
use Rattle.task_share.proofs.TableLemmas.{put_mirrored}
use Rattle.task_share.proofs.table.Table.make_reserved.Goals as goal

pub invariant_of-self : goal.invariant_of-self
invariant_of-self g c = (c.self.invariant.0, record { listed = c.put_task.ensures.listed; mirrored = put_mirrored g.K.PartialEq.eq c.self.invariant.0 (shares_of c.self.inside.places.entries) (shares_of c.put_task.new.places.entries) (arc_value c.args.key.now) c.args.task c.put_task.ensures.changed c.self.invariant.1.mirrored }, c.put_task.ensures.linked)
