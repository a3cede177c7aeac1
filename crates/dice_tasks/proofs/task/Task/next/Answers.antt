use Rattle.std.proofs.Common.{◌≡◌, subst}
use Rattle.std.proofs.lemmas.Result.{IfOk-weaker}
use Rattle.dice_tasks.specs.declared.task.Load.TheVariants.{Parked}
use Rattle.dice_tasks.proofs.Tasks.{next_follows}
use Rattle.dice_tasks.proofs.task.Task.next.Goals as goal

pub returns : goal.returns
returns g c =
    let work = c.in-Works.work in
    let parked : work.value.load ≡ Parked c.in-Parked.parked = subst (λ w. w.load ≡ Parked c.in-Parked.parked) c.deref.ensures c.in-Parked.is in
    IfOk-weaker c.of.result _ _ (λ a q. next_follows c.self.inside.name c.self.inside.kept work c.args.self.now c.in-Parked.parked c.args.answers c.in-Works.is c.self.invariant c.self.view_is parked c.requires.0 c.requires.1 c.requires.2 a q) c.of.ensures
