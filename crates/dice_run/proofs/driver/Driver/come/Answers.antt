use Rattle.std.proofs.Common.{[], inr, refl, ap, subst}
use Rattle.std.proofs.lemmas.Result.{on_ok_weaker}
use Rattle.std.specs.Prelude.{IfOk}
use Rattle.std.specs.Arc.{arc_value}
use Rattle.dice_model.specs.Eval.{HasValue}
use Rattle.action_digest.specs.Buck.{buck}
use Rattle.action_digest.specs.Same.{key_equal}
use Rattle.dice_run.specs.Seats.{IsCome}
use Rattle.dice_run.proofs.Seating.{onward, log_none}
use Rattle.dice_run.proofs.Turning.{our_log}
use Rattle.dice_run.proofs.Viewing.{sees_on, live_on}
use Rattle.dice_run.proofs.Polling.{goes_on}
use Rattle.dice_run.proofs.driver.Driver.come.Goals as goal

pub returns-in-Some-clause-came : goal.returns-in-Some-clause-came
returns-in-Some-clause-came g c =
    let s = c.args.self.now.seat in
    let p = c.args.promise in
    subst (λ C. HasValue key_equal buck C p.version (arc_value p.key) (arc_value c.in-Some.value)) (our_log c.args.engine.now s c.requires.ours) (c.in-Some.ensures.value s c.requires.sees)

pub wait-requires-clause-asked : goal.wait-requires-clause-asked
wait-requires-clause-asked g c κs within =
    let s = c.args.self.now.seat in
    (live_on s c.help.new.seat [] c.args.promise (onward c.args.engine.now s c.help.new.seat [] c.help.ensures) tt tt c.requires.live).asks

pub wait-requires-clause-open : goal.wait-requires-clause-open
wait-requires-clause-open g c κs within =
    let s = c.args.self.now.seat in
    (live_on s c.help.new.seat [] c.args.promise (onward c.args.engine.now s c.help.new.seat [] c.help.ensures) tt tt c.requires.live).open_

pub returns-clause-did : goal.returns-clause-did
returns-clause-did g c =
    let id = c.args.engine.now in
    let s = c.args.self.now.seat in
    let goes = goes_on id s c.help.new.seat c.wait.new.seat [] c.help.ensures c.wait.ensures.goes in
    on_ok_weaker c.wait.result
    (λ decided. record {
      goes = goes;
      known = inr (ap (λ v. v.items) c.look.ensures.unpolled, decided);
      sees = sees_on s c.wait.new.seat c.look.new.self goes.begins (c.look.ensures.sees s c.requires.sees);
      promises = refl;
      answers = refl;
      transactions = refl;
      gathered = refl;
      newest = refl;
    })
    c.wait.ensures.decided

pub returns-clause-came : goal.returns-clause-came
returns-clause-came g c =
    let s = c.args.self.now.seat in
    let m = c.help.new.seat in
    let p = c.args.promise in
    subst (λ C. IfOk c.wait.result (IsCome C p.version (arc_value p.key))) (log_none s m [] (onward c.args.engine.now s m [] c.help.ensures) refl) c.wait.ensures.came
