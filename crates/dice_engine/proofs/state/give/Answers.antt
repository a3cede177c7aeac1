use Rattle.std.proofs.Common.{[], sym, ap, ◌∙◌, append-nil}
use Rattle.dice_jobs.specs.Jobs.{Assigned, Stepped}
use Rattle.dice_core.specs.Cores.{CoreSeen, events_of}
use Rattle.dice_core.specs.Givings.{stale_of}
use Rattle.dice_engine.proofs.Adding.{by_option}
use Rattle.dice_engine.proofs.Jobs.{given_step, refused_step, step_home}
use Rattle.dice_engine.proofs.state.give.Goals as goal

pub returns-in-Ok-clause-works : goal.returns-in-Ok-clause-works
returns-in-Ok-clause-works g c =
    by_option (stale_of c.in-Ok.gave) _ _ _ c.in-Ok.ensures.stale c.in-Ok.ensures.taken
    (λ s h. ([], ap (λ (x : CoreSeen g.row.U-Key.Denot g.row.U-Value.Denot). events_of x) h.2 ∙ sym (append-nil (events_of c.args.core.now)), (0, tt)))
    (λ t. (t.turned.events, t.turned.told, (c.args.step.job.name.version, t.turned.works)))

pub returns-in-Ok-clause-takes : goal.returns-in-Ok-clause-takes
returns-in-Ok-clause-takes g c =
    given_step g.U.Key.PartialEq.eq g.U.Universe.meaning g.U.Value.PartialEq.eq (stale_of c.in-Ok.gave) c.args.step c.args.core.now c.give_own.new.self c.in-Ok.ensures.stale c.in-Ok.ensures.taken c.in-Ok.ensures.does c.give_own.ensures.rest

pub returns-in-Err-clause-takes : goal.returns-in-Err-clause-takes
returns-in-Err-clause-takes g c =
    refused_step g.U.Key.PartialEq.eq g.U.Universe.meaning g.U.Value.PartialEq.eq c.args.step c.name.result.now c.args.core.now c.give_own.new.self c.fail.new.core
    (c.name.ensures ∙ (ap (λ (a : Assigned g.row.U-Key.Denot g.row.U-Value.Denot). a.name) c.assignment.ensures ∙ ap (λ (s : Stepped g.row.U-Key.Denot g.row.U-Value.Denot). s.job.name) c.in-Err.ensures.step))
    c.in-Err.ensures.err.0 c.in-Err.ensures.err.1 c.fail.ensures.gives_up

pub returns-in-Ok-clause-home : goal.returns-in-Ok-clause-home
returns-in-Ok-clause-home g c = step_home g.U.Key.PartialEq.eq g.U.Universe.meaning g.U.Value.PartialEq.eq c.args.step c.args.core.now c.give_own.new.self (returns-in-Ok-clause-takes g c)

pub returns-in-Err-clause-home : goal.returns-in-Err-clause-home
returns-in-Err-clause-home g c = step_home g.U.Key.PartialEq.eq g.U.Universe.meaning g.U.Value.PartialEq.eq c.args.step c.args.core.now c.fail.new.core (returns-in-Err-clause-takes g c)
