use Rattle.std.proofs.Common.{◌≡◌, ◌∙◌, sym, ap, subst}
use Rattle.dice_jobs.specs.Alike.{AreAlike}
use Rattle.core_laws.specs.Tasks.{IsOut}
use Rattle.dice_tasks.specs.declared.task.Load.TheVariants.{Away}
use Rattle.dice_tasks.proofs.Tasks.{held_job, out_seen}
use Rattle.dice_tasks.proofs.task.Task.is_like.Goals as goal

pub returns-in-Away : goal.returns-in-Away
returns-in-Away g c =
    let work = c.in-Works.work in
    let away : work.value.load ≡ Away = subst (λ w. w.load ≡ Away) c.deref.ensures c.in-Away.is in
    let own : c.deref-in-Away.result.now.own ≡ work.value.own = ap (λ w. w.own) c.deref-in-Away.ensures in
    let out = out_seen c.self.inside.name c.self.inside.kept work c.args.self.now c.in-Works.is c.self.invariant c.self.view_is away in
    let alike = AreAlike c.args.step.now.job in
    (λ t. (work.value.own, out, subst alike own (c.is_like.ensures.0 t)), λ e. c.is_like.ensures.1 (subst alike (sym (own ∙ held_job work.value.own e.0 IsOut IsOut (sym out ∙ e.1))) e.2))
