use Rattle.std.proofs.Common.{◌∷◌, sym, subst}
use Rattle.std.proofs.lemmas.Result.{on_ok_weaker}
use Rattle.script.specs.declared.line.Line.{Line}
use Rattle.script.specs.Order.{Fits}
use Rattle.dice_run.specs.Printing.{Stands, Prints}
use Rattle.dice_run.proofs.Printed.{put_prints, drop_prints, wait_prints, cancel_prints, close_prints, commit_prints, open_prints, ask_prints, action_prints, ask_may_reply, action_may_reply}
use Rattle.dice_run.proofs.printer.Printer.line.Goals as goal

pub request-requires : goal.request-requires
request-requires c =
    let n = c.requires in
    ask_may_reply c.args.script.now n.rest c.args.driver.now c.args.self.now n.plan n.past c.in-Ask.request
    (subst (λ (l : Line). Stands c.args.script.now (l ∷ n.rest) c.args.driver.now c.args.self.now n.plan n.past) c.in-Ask.is n.stands) n.done (subst (Fits n.past) c.in-Ask.is n.fits)

pub request-requires-in-Action : goal.request-requires-in-Action
request-requires-in-Action c =
    let n = c.requires in
    action_may_reply c.args.script.now n.rest c.args.driver.now c.args.self.now n.plan n.past c.in-Action.request
    (subst (λ (l : Line). Stands c.args.script.now (l ∷ n.rest) c.args.driver.now c.args.self.now n.plan n.past) c.in-Action.is n.stands) n.done (subst (Fits n.past) c.in-Action.is n.fits)

pub returns-in-Commit : goal.returns-in-Commit
returns-in-Commit c = on_ok_weaker c.commit.result
    (λ x. subst (λ (l : Line). Prints c.args.script.now c.args.driver.now c.args.self.now c.commit.new.self l) (sym c.in-Commit.is) (commit_prints c.args.script.now c.args.driver.now c.args.self.now c.commit.new.self x)) c.commit.ensures

pub returns-in-Open : goal.returns-in-Open
returns-in-Open c = on_ok_weaker c.open.result
    (λ x. subst (λ (l : Line). Prints c.args.script.now c.args.driver.now c.args.self.now c.open.new.self l) (sym c.in-Open.is) (open_prints c.args.script.now c.args.driver.now c.args.self.now c.open.new.self c.in-Open.name x)) c.open.ensures

pub returns-in-Ask : goal.returns-in-Ask
returns-in-Ask c = on_ok_weaker c.request.result
    (λ x. subst (λ (l : Line). Prints c.args.script.now c.args.driver.now c.args.self.now c.request.new.self l) (sym c.in-Ask.is) (ask_prints c.args.script.now c.args.driver.now c.args.self.now c.request.new.self c.in-Ask.request c.requires.done x)) c.request.ensures

pub returns-in-Action : goal.returns-in-Action
returns-in-Action c = on_ok_weaker c.request-in-Action.result
    (λ x. subst (λ (l : Line). Prints c.args.script.now c.args.driver.now c.args.self.now c.request-in-Action.new.self l) (sym c.in-Action.is) (action_prints c.args.script.now c.args.driver.now c.args.self.now c.request-in-Action.new.self c.in-Action.request c.requires.done x)) c.request-in-Action.ensures

pub returns-in-Put : goal.returns-in-Put
returns-in-Put c = subst (λ (l : Line). Prints c.args.script.now c.args.driver.now c.args.self.now c.args.self.now l) (sym c.in-Put.is) (put_prints c.args.script.now c.args.driver.now c.args.self.now c.in-Put.field-0 c.in-Put.field-1)

pub returns-in-Drop : goal.returns-in-Drop
returns-in-Drop c = subst (λ (l : Line). Prints c.args.script.now c.args.driver.now c.args.self.now c.args.self.now l) (sym c.in-Drop.is) (drop_prints c.args.script.now c.args.driver.now c.args.self.now c.in-Drop.field-0)

pub returns-in-Wait : goal.returns-in-Wait
returns-in-Wait c = subst (λ (l : Line). Prints c.args.script.now c.args.driver.now c.args.self.now c.args.self.now l) (sym c.in-Wait.is) (wait_prints c.args.script.now c.args.driver.now c.args.self.now c.in-Wait.field-0)

pub returns-in-Cancel : goal.returns-in-Cancel
returns-in-Cancel c = subst (λ (l : Line). Prints c.args.script.now c.args.driver.now c.args.self.now c.args.self.now l) (sym c.in-Cancel.is) (cancel_prints c.args.script.now c.args.driver.now c.args.self.now c.in-Cancel.field-0)

pub returns-in-Close : goal.returns-in-Close
returns-in-Close c = subst (λ (l : Line). Prints c.args.script.now c.args.driver.now c.args.self.now c.args.self.now l) (sym c.in-Close.is) (close_prints c.args.script.now c.args.driver.now c.args.self.now c.in-Close.field-0)
