use Rattle.std.proofs.Common.{sym}
use Rattle.dep_recorder.proofs.Sameness.{length_differs}
use Rattle.dep_recorder.proofs.same.are_same.Goals as goal

pub returns-then-a-b : goal.returns-then-a-b
returns-then-a-b g c = sym (length_differs g.K.PartialEq.eq g.V.PartialEq.eq c.args.a.now c.args.b.now c.if-a-b.true)
