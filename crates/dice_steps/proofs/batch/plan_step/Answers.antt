use Rattle.std.proofs.Common.{◌≡◌, sym, subst, reverse}
use Rattle.dice_jobs.specs.Jobs.{Assigned, Wanting}
use Rattle.core_laws.specs.Tasks.{IsWaiting}
use Rattle.core_laws.specs.Stands.{AsksNext}
use Rattle.dice_steps.proofs.AskedLemmas.{next_asked}
use Rattle.dice_steps.proofs.BatchLemmas.{stood}
use Rattle.dice_steps.proofs.batch.plan_step.Goals as goal

pub returns-clause-next : goal.returns-clause-next
returns-clause-next g c ks wants =
    let eq = g.U.Key.PartialEq.eq in
    let m = g.U.Universe.meaning in
    let a = c.args.step.now.job in
    let r = c.requires.hand in
    next_asked eq m g.U.Value.PartialEq.eq (reverse c.args.shared.now.desk.events) a c.args.step.now.outcome ks wants c.report.ensures.outcome c.report.ensures.explained
    (stood eq c.laws_of.ensures.keys m c.laws_of.ensures.lawful a.name.version r.0 c.args.owed c.args.tasks.now c.args.shared.now.desk r.1.working a ks c.requires.out).standing.work

pub plan_batch-requires-clause-next : goal.plan_batch-requires-clause-next
plan_batch-requires-clause-next g c κs within =
    let eq = g.U.Key.PartialEq.eq in
    let m = g.U.Universe.meaning in
    let a = c.args.step.now.job in
    let r = c.requires.hand in
    let ks = c.in-Asks.batch.now in
    let wants : c.args.step.now.outcome ≡ Wanting ks = sym (rw c.in-Asks.is at c.report.ensures.report) in
    subst (λ (b : Assigned g.row.U-Key.Denot g.row.U-Value.Denot). AsksNext eq m b.name.version b.name.key b.work b.answered (IsWaiting ks)) (sym c.assignment-assignment.ensures)
    (next_asked eq m g.U.Value.PartialEq.eq (reverse c.args.shared.now.desk.events) a c.args.step.now.outcome ks wants c.report.ensures.outcome c.report.ensures.explained
    (stood eq c.laws_of.ensures.keys m c.laws_of.ensures.lawful a.name.version r.0 c.args.owed c.args.tasks.now c.args.shared.now.desk r.1.working a ks c.requires.out).standing.work)
