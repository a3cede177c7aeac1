use Rattle.std.proofs.Common.{ap, ◌∙◌}
use Rattle.dice_engine.specs.Seats.{seated}
use Rattle.dice_engine.specs.Doings.{from_line}
use Rattle.dice_engine.proofs.Jobs.{none_found, one_found}
use Rattle.dice_engine.proofs.engine.Engine.next_job.Goals as goal

pub returns-in-Some-clause-some : goal.returns-in-Some-clause-some
returns-in-Some-clause-some g c =
    let took = c.in-Some.ensures.some in
    let old = seated c.args.pass.now c.args.place.now in
    from_line took.0.place took.0.first (ap (λ p. seated p c.args.place.now) took.1 ∙ ap (λ ps. record old { places = ps }) took.0.gained)

pub returns-in-None-clause-none : goal.returns-in-None-clause-none
returns-in-None-clause-none g c =
    none_found g.U.Key.PartialEq.eq g.U.Universe.meaning (seated c.args.pass.now c.args.place.now) (seated c.take.new.pass c.take_job.new.place) (seated c.take.new.pass c.take_job.new.place)
    (seated c.take.new.pass c.args.place.now) c.take_job.result (ap (λ p. seated p c.args.place.now) c.in-None.ensures.none.0) c.take_job.ensures.goes

pub returns-in-None-clause-some : goal.returns-in-None-clause-some
returns-in-None-clause-some g c =
    one_found g.U.Key.PartialEq.eq g.U.Universe.meaning (seated c.args.pass.now c.args.place.now) (seated c.take.new.pass c.take_job.new.place) (seated c.take.new.pass c.take_job.new.place)
    (seated c.take.new.pass c.args.place.now) c.take_job.result (ap (λ p. seated p c.args.place.now) c.in-None.ensures.none.0) c.take_job.ensures.goes
