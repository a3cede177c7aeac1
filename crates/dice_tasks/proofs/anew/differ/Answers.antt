use Rattle.std.proofs.Common.{refl, ap, ◌∙◌, subst}
use Rattle.std.specs.Arc.{arc_value}
use Rattle.journal.specs.declared.event.Told.TheVariants.{Start}
use Rattle.journal.specs.declared.event.Reason.TheVariants.{Differs}
use Rattle.journal.specs.Tell.{told}
use Rattle.dice_jobs.specs.Jobs.{checking}
use Rattle.core_laws.specs.Tasks.{IsReady, IsOut, Works}
use Rattle.dice_tasks.specs.Hands.{Returns}
use Rattle.dice_tasks.specs.Helds.{held_of}
use Rattle.dice_tasks.proofs.DifferLemmas.{anew, begins_anew, begins_so, differs_on}
use Rattle.dice_tasks.proofs.TaskedLemmas.{tasked_anew}
use Rattle.dice_tasks.proofs.anew.differ.Goals as goal

pub begin_anew-requires-clause-check : goal.begin_anew-requires-clause-check
begin_anew-requires-clause-check g c l o =
    let r = c.requires.check in
    (r.0, r.1, r.2, (let i = c.in-Some.ensures.value in let j = r.3 in cc))

pub returns-clause-begun : goal.returns-clause-begun
returns-clause-begun g c =
    let r = c.requires.check in
    (r.0, r.1, r.2, begins_anew g.U.Key.PartialEq.eq c.laws_of.ensures.keys c.args.job.name.version (arc_value c.args.key.now) _ (held_of c.args.job IsReady) c.begin_anew.new.self (told c.args.event) _ _ _ c.returned.new.self _ r.3 c.begin_anew.ensures (rw c.in-Some.is at (c.task_mut.follows.holds c.begin_anew.new.self)) (subst (λ v. Returns (v, arc_value c.args.key.now) c.args.desk.now c.returned.new.self) (c.version-version.ensures ∙ ap (λ n. n.version) c.name.ensures) c.returned.ensures) c.push.ensures)

pub returns-clause-tasked : goal.returns-clause-tasked
returns-clause-tasked g c =
    let b = returns-clause-begun g c in
    tasked_anew g.U.Key.PartialEq.eq c.laws_of.ensures.keys c.args.job.name.version (arc_value c.args.key.now) _ (held_of c.args.job IsReady) (told c.args.event) _ _ _ _ b.3

pub returns-clause-kept : goal.returns-clause-kept
returns-clause-kept g c w W owed x T base i work is at changed =
    let eq = g.U.Key.PartialEq.eq in
    let v = c.args.job.name.version in
    let k = arc_value c.args.key.now in
    let A = c.args.job.answered in
    let b = returns-clause-begun g c in
    let h = held_of (checking c.args.job x T base) IsOut in
    let so = begins_so eq c.laws_of.ensures.keys v k _ h _ (anew h A) _ (Start v k (Differs base i)) _ _ _ _ b.3 at (ap (λ z. record { name = c.args.job.name; standing = Works z IsReady A }) c.requires.job) is in
    differs_on eq c.laws_of.ensures.keys g.U.Universe.meaning c.laws_of.ensures.lawful v k h _ _ _ _ T A x base i refl so changed W w owed work
