use Rattle.std.proofs.Common.{◌≡◌, sym, ap, ◌∙◌}
use Rattle.std.specs.Arc.{arc_value}
use Rattle.dice_tasks.proofs.BackLemmas.{not_out, found_key, back_some, back_other, back_none, back_kept}
use Rattle.dice_tasks.proofs.wait.put_back.Goals as goal

pub returns-in_default-clause-other : goal.returns-in_default-clause-other
returns-in_default-clause-other g c =
    not_out g.U.Key.PartialEq.eq c.laws_of.ensures.keys c.args.job.name.version c.args.tasks.now c.args.desk.now c.requires.known c.args.job c.version.result (arc_value c.key.result.now)
    (c.version.ensures ∙ ap (λ n. n.version) c.name.ensures) (c.key.ensures ∙ ap (λ n. n.key) c.name-2.ensures) c.in_default.ensures.none

pub returns-clause-same : goal.returns-clause-same
returns-clause-same g c =
    let same : arc_value c.in-Some-key_at.key.now ≡ c.args.job.name.key = found_key g.U.Key.PartialEq.eq c.laws_of.ensures.keys c.args.desk.now c.in-Some.index _ _ _ _ c.in-Some.ensures.some c.in-Some-key_at.ensures.some.1 ∙ (c.key.ensures ∙ ap (λ n. n.key) c.name-2.ensures) in
    back_some g.U.Key.PartialEq.eq c.laws_of.ensures.keys c.args.job c.args.job.name.version (arc_value c.in-Some-key_at.key.now) same c.in-Some-task_mut.task.now c.return_to.new.task c.args.tasks.now _ c.args.desk.now c.return_to.new.desk (sym c.in-Some-task_mut.ensures.value) (rw c.in-Some-task_mut.is at (c.task_mut.follows.holds c.return_to.new.task)) c.return_to.result c.return_to.ensures.some

pub returns-clause-other : goal.returns-clause-other
returns-clause-other g c =
    let same : arc_value c.in-Some-key_at.key.now ≡ c.args.job.name.key = found_key g.U.Key.PartialEq.eq c.laws_of.ensures.keys c.args.desk.now c.in-Some.index _ _ _ _ c.in-Some.ensures.some c.in-Some-key_at.ensures.some.1 ∙ (c.key.ensures ∙ ap (λ n. n.key) c.name-2.ensures) in
    back_other g.U.Key.PartialEq.eq c.laws_of.ensures.keys c.args.job c.args.job.name.version (arc_value c.in-Some-key_at.key.now) same c.in-Some-task_mut.task.now c.return_to.new.task c.args.tasks.now _ c.args.desk.now c.return_to.new.desk (sym c.in-Some-task_mut.ensures.value) (rw c.in-Some-task_mut.is at (c.task_mut.follows.holds c.return_to.new.task)) c.return_to.result c.return_to.ensures.some

pub returns-clause-back : goal.returns-clause-back
returns-clause-back g c =
    let same : arc_value c.in-Some-key_at.key.now ≡ c.args.job.name.key = found_key g.U.Key.PartialEq.eq c.laws_of.ensures.keys c.args.desk.now c.in-Some.index _ _ _ _ c.in-Some.ensures.some c.in-Some-key_at.ensures.some.1 ∙ (c.key.ensures ∙ ap (λ n. n.key) c.name-2.ensures) in
    back_none g.U.Key.PartialEq.eq c.laws_of.ensures.keys c.args.job c.args.job.name.version (arc_value c.in-Some-key_at.key.now) same c.in-Some-task_mut.task.now c.return_to.new.task c.args.tasks.now _ c.args.desk.now c.return_to.new.desk (sym c.in-Some-task_mut.ensures.value) (rw c.in-Some-task_mut.is at (c.task_mut.follows.holds c.return_to.new.task)) c.return_to.result c.return_to.ensures.none

pub returns-clause-kept : goal.returns-clause-kept
returns-clause-kept g c =
    back_kept g.U.Key.PartialEq.eq c.laws_of.ensures.keys g.U.Universe.meaning c.laws_of.ensures.lawful c.args.job c.args.tasks.now _ c.args.desk.now c.return_to.new.desk c.return_to.result (returns-clause-back g c)
