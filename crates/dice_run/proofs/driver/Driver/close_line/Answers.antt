use Rattle.std.proofs.Common.{◌∷◌, subst}
use Rattle.script.specs.declared.line.Line.{Line}
use Rattle.script.specs.declared.line.Line.TheVariants.{Put, Drop, Commit, Ask, Action, Wait, Cancel, Close}
use Rattle.dice_run.specs.Driven.{Closing}
use Rattle.dice_run.proofs.Closings.{closing_past, closing_open}
use Rattle.dice_run.proofs.driver.Driver.close_line.Goals as goal

pub close_open-requires-clause-ours : goal.close_open-requires-clause-ours
close_open-requires-clause-ours g c = c.requires.1.stands.ours

pub close_open-requires-clause-open : goal.close_open-requires-clause-open
close_open-requires-clause-open g c = λ x h. (c.requires.1.stands.open_ c.in-Open.name x h).0

pub returns-in-Open : goal.returns-in-Open
returns-in-Open g c rest w =
    closing_open c.args.engine.now c.args._script.now rest c.in-Open.name c.args.self.now c.close_open.new.self
    (subst (λ (l : Line). Closing c.args.engine.now c.args._script.now (l ∷ rest) c.args.self.now) c.in-Open.is w) c.close_open.ensures

pub returns-in-Ask : goal.returns-in-Ask
returns-in-Ask g c rest w =
    closing_past c.args.engine.now c.args._script.now rest (Ask c.in-Ask.field-0) c.args.self.now (λ n table es h. h) (λ t h. h) (subst (λ (l : Line). Closing c.args.engine.now c.args._script.now (l ∷ rest) c.args.self.now) c.in-Ask.is w)

pub returns-in-Action : goal.returns-in-Action
returns-in-Action g c rest w =
    closing_past c.args.engine.now c.args._script.now rest (Action c.in-Action.field-0) c.args.self.now (λ n table es h. h) (λ t h. h) (subst (λ (l : Line). Closing c.args.engine.now c.args._script.now (l ∷ rest) c.args.self.now) c.in-Action.is w)

pub returns-in-Put : goal.returns-in-Put
returns-in-Put g c rest w =
    closing_past c.args.engine.now c.args._script.now rest (Put c.in-Put.field-0 c.in-Put.field-1) c.args.self.now (λ n table es h. h) (λ t h. h) (subst (λ (l : Line). Closing c.args.engine.now c.args._script.now (l ∷ rest) c.args.self.now) c.in-Put.is w)

pub returns-in-Drop : goal.returns-in-Drop
returns-in-Drop g c rest w =
    closing_past c.args.engine.now c.args._script.now rest (Drop c.in-Drop.field-0) c.args.self.now (λ n table es h. h) (λ t h. h) (subst (λ (l : Line). Closing c.args.engine.now c.args._script.now (l ∷ rest) c.args.self.now) c.in-Drop.is w)

pub returns-in-Commit : goal.returns-in-Commit
returns-in-Commit g c rest w =
    closing_past c.args.engine.now c.args._script.now rest Commit c.args.self.now (λ n table es h. h) (λ t h. h) (subst (λ (l : Line). Closing c.args.engine.now c.args._script.now (l ∷ rest) c.args.self.now) c.in-Commit.is w)

pub returns-in-Wait : goal.returns-in-Wait
returns-in-Wait g c rest w =
    closing_past c.args.engine.now c.args._script.now rest (Wait c.in-Wait.field-0) c.args.self.now (λ n table es h. h) (λ t h. h) (subst (λ (l : Line). Closing c.args.engine.now c.args._script.now (l ∷ rest) c.args.self.now) c.in-Wait.is w)

pub returns-in-Cancel : goal.returns-in-Cancel
returns-in-Cancel g c rest w =
    closing_past c.args.engine.now c.args._script.now rest (Cancel c.in-Cancel.field-0) c.args.self.now (λ n table es h. h) (λ t h. h) (subst (λ (l : Line). Closing c.args.engine.now c.args._script.now (l ∷ rest) c.args.self.now) c.in-Cancel.is w)

pub returns-in-Close : goal.returns-in-Close
returns-in-Close g c rest w =
    closing_past c.args.engine.now c.args._script.now rest (Close c.in-Close.field-0) c.args.self.now (λ n table es h. h) (λ t h. h) (subst (λ (l : Line). Closing c.args.engine.now c.args._script.now (l ∷ rest) c.args.self.now) c.in-Close.is w)
