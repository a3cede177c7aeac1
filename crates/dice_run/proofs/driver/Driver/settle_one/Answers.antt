use Rattle.std.proofs.Common.{◌≡◌, Bool, false, cond, sym, subst}
use Rattle.std.proofs.lemmas.Result.{on_ok_weaker}
use Rattle.script.specs.declared.line.Line.TheVariants.{Wait}
use Rattle.script.specs.Past.{after, is_cancelled}
use Rattle.script.specs.Plan.{plan_of}
use Rattle.dice_run.specs.Driven.{Settling}
use Rattle.dice_run.proofs.Ending.{settling_some, settling_alive, settling_waited}
use Rattle.dice_run.proofs.Recorded.{wait_at_end}
use Rattle.dice_run.proofs.Steps.{may_wait, wait_stands}
use Rattle.dice_run.proofs.driver.Driver.settle_one.Goals as goal

pub wait-requires-clause-open : goal.wait-requires-clause-open
wait-requires-clause-open g c κs within =
    let n = c.requires in
    let d = c.args.self.now in
    let ls = c.args.script.now in
    let q = c.args.request.now.name in
    may_wait c.args.engine.now d (plan_of ls) n.past n.settling.stands q (settling_some c.args.engine.now ls d n.past q n.settling n.request n.made n.named) (settling_alive c.args.engine.now ls d n.past q n.settling (sym c.if-is_cancelled.ensures))

pub wait-requires-clause-sees : goal.wait-requires-clause-sees
wait-requires-clause-sees g c κs within = c.requires.settling.stands.looks.sees

pub returns-clause-settles : goal.returns-clause-settles
returns-clause-settles g c = on_ok_weaker c.wait.result (λ did past s.
    let n = c.requires in
    let d = c.args.self.now in
    let e = c.wait.new.self in
    let ls = c.args.script.now in
    let q = c.args.request.now.name in
    let kept : is_cancelled ls q ≡ false = sym c.if-is_cancelled.ensures in
    let some = settling_some c.args.engine.now ls d past q s n.request n.made n.named in
    let w = wait_stands c.args.engine.now (is_cancelled ls) d e (plan_of ls) past q s.stands some (settling_alive c.args.engine.now ls d past q s kept) did in
    subst (λ (b : Bool). Settling c.args.engine.now ls e (cond b past (after past (Wait q)))) (sym kept) (settling_waited c.args.engine.now ls d e past q s some kept w (wait_at_end c.args.engine.now d e (plan_of ls) past q s.stands (settling_alive c.args.engine.now ls d past q s kept) ls did s.records)))
    c.wait.ensures.did
