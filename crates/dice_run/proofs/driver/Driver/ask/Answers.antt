use Rattle.std.proofs.Common.{rules, ◌≡◌, [], Some, refl, sym, ◌∙◌, subst}
use Rattle.std.proofs.lemmas.Option.{same_Some}
use Rattle.std.specs.Arc.{arc_value}
use Rattle.std.proofs.lemmas.Result.{on_ok_weaker}
use Rattle.dice_engine.specs.Conditions.{HasOpen}
use Rattle.dice_engine.specs.declared.promise.Transaction.{Transaction}
use Rattle.dice_run.specs.Driving.{transaction_of}
use Rattle.dice_run.proofs.Seating.{onward, still_open}
use Rattle.dice_run.proofs.Polling.{asks_after}
use Rattle.dice_run.proofs.driver.Driver.ask.Goals as goal

pub ask-requires-clause-open : goal.ask-requires-clause-open
ask-requires-clause-open g c =
    let s = c.args.self.now.seat in
    let m = c.help.new.seat in
    let t = c.in-Some.transaction.now in
    let held : transaction_of c.args.self.now c.args.request.now.transaction ≡ Some t = search rules in
    let same : c.requires.open.transaction ≡ t = same_Some _ _ (sym c.requires.open.held ∙ held) in
    still_open s m [] (onward c.args.engine.now s m [] c.help.ensures) t.opened t.version tt
    (subst (λ (x : Transaction). HasOpen s x.opened x.version) same c.requires.open.has)

pub returns-clause-did : goal.returns-clause-did
returns-clause-did g c =
    let p = c.in_ok-promise.promise in
    let t = c.in-Some.transaction.now in
    let held : transaction_of c.args.self.now c.args.request.now.transaction ≡ Some t = search rules in
    on_ok_weaker c.note.result
    (λ noted. record {
      transaction = t;
      held = held;
      pledge = p;
      asks = asks_after c.args.engine.now c.args.self.now.seat c.help.new.seat c.ask.new.seat p.ask p.opened p.version (arc_value p.key) c.help.ensures c.in_ok-promise.ensures.asks;
      opened = c.in_ok-promise.ensures.named.0;
      version = c.in_ok-promise.ensures.named.1;
      key = c.in_ok-promise.ensures.named.2;
      outlook = refl;
      promises = noted;
      transactions = refl;
      answers = refl;
      gathered = refl;
      newest = refl;
    })
    c.note.ensures
