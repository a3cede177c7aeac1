use Rattle.std.proofs.Common.{refl}
use Rattle.std.proofs.lemmas.Result.{on_ok_weaker}
use Rattle.dice_run.proofs.Polling.{opens_on}
use Rattle.dice_run.proofs.driver.Driver.open.Goals as goal

pub returns-clause-did : goal.returns-clause-did
returns-clause-did g c =
    let t = c.in_ok-transaction.transaction in
    on_ok_weaker c.note.result
    (λ noted. record {
      transaction = t;
      opens = opens_on c.args.engine.now c.args.self.now.seat c.open.new.seat c.tell.new.seat t.opened t.version c.in_ok-transaction.ensures.opens c.tell.ensures.goes;
      sees = c.tell.ensures.sees;
      unpolled = c.tell.ensures.unpolled;
      transactions = noted;
      promises = refl;
      answers = refl;
      gathered = refl;
      newest = refl;
    })
    c.note.ensures
