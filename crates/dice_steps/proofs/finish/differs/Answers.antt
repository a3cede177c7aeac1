use Rattle.std.proofs.Common.{◌≡◌, ◌≢◌, ◌+◌, ◌∙◌, ◌++◌, ◌∷◌, [], sym, ap, subst, arith, reverse, Some}
use Rattle.std.specs.Arc.{arc_value}
use Rattle.dice_key.specs.declared.universe.Kind.TheVariants.{Injected}
use Rattle.dice_jobs.specs.Jobs.{Assigned, AsksThese, checking, computing}
use Rattle.task_share.specs.Seen.{task_at}
use Rattle.journal.specs.Tell.{told}
use Rattle.journal.specs.declared.event.Told.TheVariants.{Start}
use Rattle.journal.specs.declared.event.Reason.TheVariants.{Differs}
use Rattle.core_laws.specs.Tasks.{IsReady, IsOut}
use Rattle.core_laws.specs.Changes.{ChangesFirst}
use Rattle.dice_tasks.specs.Endings.{Knows, BeginsAnew}
use Rattle.dice_tasks.specs.Hands.{Working}
use Rattle.dice_tasks.specs.Helds.{held_of}
use Rattle.dice_tasks.proofs.EndsLemmas.{working_knows}
use Rattle.dice_steps.proofs.FinishLemmas.{at_room, working_room, stands_at, computed, found_by_check, changed_first, turned_asks, begun_events, at_begun}
use Rattle.dice_steps.proofs.finish.differs.Goals as goal

pub into_replay-job-requires-clause-kind : goal.into_replay-job-requires-clause-kind
into_replay-job-requires-clause-kind g c κs within =
    let eq = g.U.Key.PartialEq.eq in
    let keys = c.laws_of.ensures.keys in
    let m = g.U.Universe.meaning in
    let law = c.laws_of.ensures.lawful in
    let veq = g.U.Value.PartialEq.eq in
    let step = c.args.step in
    let job = step.job in
    let v = job.name.version in
    let k = job.name.key in
    let ps = c.args.tasks.now in
    let r = c.requires.at_hand in
    let stands = stands_at eq keys m law v k r.0 c.args.owed ps c.args.desk.now r.1 r.2 r.3 in
    subst (λ q. m.kind q ≢ Injected) (sym (ap (λ (z : Assigned g.row.U-Key.Denot g.row.U-Value.Denot). z.name.key) c.in-Ok.ensures.assignment)) (computed eq keys m law v k (reverse c.args.desk.now.events) [] ps stands job c.requires.out)

pub into_replay-job-requires-clause-asks : goal.into_replay-job-requires-clause-asks
into_replay-job-requires-clause-asks g c κs within =
    let eq = g.U.Key.PartialEq.eq in
    let keys = c.laws_of.ensures.keys in
    let m = g.U.Universe.meaning in
    let law = c.laws_of.ensures.lawful in
    let veq = g.U.Value.PartialEq.eq in
    let step = c.args.step in
    let job = step.job in
    let v = job.name.version in
    let k = job.name.key in
    let ps = c.args.tasks.now in
    let r = c.requires.at_hand in
    let stands = stands_at eq keys m law v k r.0 c.args.owed ps c.args.desk.now r.1 r.2 r.3 in
    let found = found_by_check m veq job c.requires.differs.0 (sym c.requires.step.outcome ∙ c.requires.differs.1) in
    let asks : AsksThese m k v job.answered = turned_asks eq keys m law v k (reverse c.args.desk.now.events) [] ps stands job c.requires.out found.0 found.1 found.2 c.requires.differs.0 found.3
    (changed_first m veq job step c.requires.step found.0 found.1 found.2 found.3 c.requires.differs.0 c.requires.differs.1) in
    subst (λ (z : Assigned g.row.U-Key.Denot g.row.U-Value.Denot). AsksThese m z.name.key z.name.version z.answered) (sym c.in-Ok.ensures.assignment) asks

pub differ-requires-clause-known : goal.differ-requires-clause-known
differ-requires-clause-known g c κs bounds =
    let eq = g.U.Key.PartialEq.eq in
    let keys = c.laws_of.ensures.keys in
    let m = g.U.Universe.meaning in
    let law = c.laws_of.ensures.lawful in
    let veq = g.U.Value.PartialEq.eq in
    let step = c.args.step in
    let job = step.job in
    let v = job.name.version in
    let k = job.name.key in
    let ps = c.args.tasks.now in
    let r = c.requires.at_hand in
    let d = c.plan_anew.new.desk in
    let there : c.into_replay-job.result.name.version ≡ v = ap (λ (z : Assigned g.row.U-Key.Denot g.row.U-Value.Denot). z.name.version) (c.into_replay-job.ensures ∙ c.in-Ok.ensures.assignment) in
    let at = at_room eq m v r.0 c.args.owed ps c.args.desk.now d r.1 r.2 c.plan_anew.ensures.same c.plan_anew.ensures.room r.3 in
    subst (λ n. Knows eq n ps d) (sym there) (working_knows eq keys m v [] r.0 c.args.owed ps d at.working)

pub differ-requires-clause-check : goal.differ-requires-clause-check
differ-requires-clause-check g c κs bounds =
    let eq = g.U.Key.PartialEq.eq in
    let keys = c.laws_of.ensures.keys in
    let m = g.U.Universe.meaning in
    let law = c.laws_of.ensures.lawful in
    let veq = g.U.Value.PartialEq.eq in
    let step = c.args.step in
    let job = step.job in
    let v = job.name.version in
    let k = job.name.key in
    let ps = c.args.tasks.now in
    let found = found_by_check m veq job c.requires.differs.0 (sym c.requires.step.outcome ∙ c.requires.differs.1) in
    let made = c.into_replay-job.result in
    let anew : made ≡ computing job = c.into_replay-job.ensures ∙ c.in-Ok.ensures.assignment in
    let same : job ≡ checking made found.0 found.1 found.2 = (λ i. record { name = ap (λ (z : Assigned g.row.U-Key.Denot g.row.U-Value.Denot). z.name) (sym anew) i; answered = ap (λ (z : Assigned g.row.U-Key.Denot g.row.U-Value.Denot). z.answered) (sym anew) i; work = found.3 i }) in
    (found.0, found.1, found.2, ap (task_at eq ps) c.in-Ok.ensures.key ∙ (c.requires.out ∙ ap (λ (z : Assigned g.row.U-Key.Denot g.row.U-Value.Denot). Some (held_of z IsOut)) same))

pub returns-clause-events : goal.returns-clause-events
returns-clause-events g c dep x T b differs work =
    let eq = g.U.Key.PartialEq.eq in
    let keys = c.laws_of.ensures.keys in
    let m = g.U.Universe.meaning in
    let law = c.laws_of.ensures.lawful in
    let veq = g.U.Value.PartialEq.eq in
    let step = c.args.step in
    let job = step.job in
    let v = job.name.version in
    let k = job.name.key in
    let ps = c.args.tasks.now in
    let d = c.plan_anew.new.desk in
    let e = c.differ.new.desk in
    let qs = c.differ.new.tasks in
    let there : c.into_replay-job.result.name.version ≡ v = ap (λ (z : Assigned g.row.U-Key.Denot g.row.U-Value.Denot). z.name.version) (c.into_replay-job.ensures ∙ c.in-Ok.ensures.assignment) in
    let key : arc_value c.in-Ok.begun.key ≡ k = c.in-Ok.ensures.key in
    let made = c.into_replay-job.result in
    let n = c.differ.ensures.begun in
    let was = held_of (checking made n.0 n.1 n.2) IsOut in
    let is = held_of made IsReady in
    let begins = subst (λ t. BeginsAnew eq v k was is t ps qs d e) (c.in-Ok.ensures.event dep x T b differs work)
    (subst (λ u. BeginsAnew eq u k was is (told c.in-Ok.begun.event) ps qs d e) there (subst (λ q. BeginsAnew eq c.into_replay-job.result.name.version q was is (told c.in-Ok.begun.event) ps qs d e) key n.3)) in
    begun_events eq keys m law v k ps qs d e _ _ (Differs b dep) begins ∙ ap (λ J. J ++ Start v k (Differs b dep) ∷ []) c.plan_anew.ensures.same.events

pub returns-clause-kept : goal.returns-clause-kept
returns-clause-kept g c w es s at0 =
    let eq = g.U.Key.PartialEq.eq in
    let keys = c.laws_of.ensures.keys in
    let m = g.U.Universe.meaning in
    let law = c.laws_of.ensures.lawful in
    let veq = g.U.Value.PartialEq.eq in
    let step = c.args.step in
    let job = step.job in
    let v = job.name.version in
    let k = job.name.key in
    let ps = c.args.tasks.now in
    let d = c.plan_anew.new.desk in
    let e = c.differ.new.desk in
    let qs = c.differ.new.tasks in
    let dep = c.requires.differs.0 in
    let at = at_room eq m v w c.args.owed ps c.args.desk.now d es s c.plan_anew.ensures.same c.plan_anew.ensures.room at0 in
    let more = (let h = c.in-Ok.ensures.ok.spare in working_room eq m v [] w c.args.owed (c.args.owed + 1) ps c.args.desk.now d c.plan_anew.ensures.same (omega arith) at0.working) in
    let found = found_by_check m veq job c.requires.differs.0 (sym c.requires.step.outcome ∙ c.requires.differs.1) in
    let x = found.0 in
    let T = found.1 in
    let b = found.2 in
    let there : c.into_replay-job.result.name.version ≡ v = ap (λ (z : Assigned g.row.U-Key.Denot g.row.U-Value.Denot). z.name.version) (c.into_replay-job.ensures ∙ c.in-Ok.ensures.assignment) in
    let key : arc_value c.in-Ok.begun.key ≡ k = c.in-Ok.ensures.key in
    let made = c.into_replay-job.result in
    let anew : made ≡ computing job = c.into_replay-job.ensures ∙ c.in-Ok.ensures.assignment in
    let same : job ≡ checking made x T b = (λ i. record { name = ap (λ (z : Assigned g.row.U-Key.Denot g.row.U-Value.Denot). z.name) (sym anew) i; answered = ap (λ (z : Assigned g.row.U-Key.Denot g.row.U-Value.Denot). z.answered) (sym anew) i; work = found.3 i }) in
    let answered : made.answered ≡ job.answered = ap (λ (z : Assigned g.row.U-Key.Denot g.row.U-Value.Denot). z.answered) anew in
    let told_is : told c.in-Ok.begun.event ≡ Start v k (Differs b dep) = c.in-Ok.ensures.event dep x T b c.requires.differs.1 found.3 in
    let moved : Start v k (Differs b dep) ≡ Start c.into_replay-job.result.name.version (arc_value c.in-Ok.begun.key) (Differs b dep) = (λ i. Start (sym there i) (sym key i) (Differs b dep)) in
    let work = c.differ.ensures.kept w [] c.args.owed x T b dep (subst (λ n. Working eq m n [] w (c.args.owed + 1) ps d) (sym there) more) (told_is ∙ moved)
    (ap (task_at eq ps) key ∙ (c.requires.out ∙ ap (λ (z : Assigned g.row.U-Key.Denot g.row.U-Value.Denot). Some (held_of z IsOut)) same))
    (subst (λ B. ChangesFirst T B dep) (sym answered) (changed_first m veq job step c.requires.step x T b found.3 dep c.requires.differs.1)) in
    let n = c.differ.ensures.begun in
    let was = held_of (checking made n.0 n.1 n.2) IsOut in
    let is = held_of made IsReady in
    let begins = subst (λ t. BeginsAnew eq v k was is t ps qs d e) told_is
    (subst (λ u. BeginsAnew eq u k was is (told c.in-Ok.begun.event) ps qs d e) there (subst (λ q. BeginsAnew eq c.into_replay-job.result.name.version q was is (told c.in-Ok.begun.event) ps qs d e) key n.3)) in
    at_begun eq keys m law v k ps qs d e _ _ (Differs b dep) begins w c.args.owed es s at (subst (λ u. Working eq m u [] w c.args.owed qs e) there work) (c.differ.ensures.tasked at0.tasked)
