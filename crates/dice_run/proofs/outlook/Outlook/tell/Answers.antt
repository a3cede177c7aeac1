use Rattle.std.proofs.Common.{refl, subst}
use Rattle.dice_run.proofs.Turning.{turn_rests}
use Rattle.dice_run.proofs.Looks.{SeesIf, sees_told, newest_on}
use Rattle.dice_run.proofs.outlook.Outlook.tell.Goals as goal
use Rattle.lists.proofs.Options.{some_same}

pub returns-then-tell-clause-goes : goal.returns-then-tell-clause-goes
returns-then-tell-clause-goes g c = turn_rests c.args.engine.now c.args.seat.now c.tell.new.seat c.requires.ours c.tell.ensures.turn

pub returns-then-tell-clause-sees : goal.returns-then-tell-clause-sees
returns-then-tell-clause-sees g c x e f =
    let s = c.args.seat.now in
    let u = c.tell.new.seat in
    let r = c.tell.new.reader in
    let rests = turn_rests c.args.engine.now s u c.requires.ours c.tell.ensures.turn in
    subst (SeesIf u c.args.version) (some_same e) (λ h. sees_told u c.args.version r (c.if-tell.ensures.told refl h) (newest_on c.args.engine.now s u c.args.version rests c.requires.newest)) f

pub returns-else-tell-clause-goes : goal.returns-else-tell-clause-goes
returns-else-tell-clause-goes g c = turn_rests c.args.engine.now c.args.seat.now c.tell.new.seat c.requires.ours c.tell.ensures.turn
