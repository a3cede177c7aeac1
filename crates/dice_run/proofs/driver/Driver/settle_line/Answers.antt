use Rattle.std.proofs.Common.{◌∷◌, refl, subst}
use Rattle.std.proofs.lemmas.Result.{on_ok_weaker}
use Rattle.script.specs.declared.line.Line.{Line}
use Rattle.script.specs.declared.line.Line.TheVariants.{Put, Drop, Commit, Open, Ask, Action, Wait, Cancel, Close}
use Rattle.script.specs.Past.{is_cancelled}
use Rattle.script.specs.Plan.{Digest, Text, wanted}
use Rattle.dice_run.specs.Driven.{Waiting}
use Rattle.dice_run.proofs.Ending.{waiting_past, waiting_more, asked_now, settling_some}
use Rattle.dice_run.proofs.driver.Driver.settle_line.Goals as goal
use Rattle.lists.proofs.Members.{has_end}

pub settle_one-requires-after_bounds : goal.settle_one-requires-after_bounds
settle_one-requires-after_bounds g c κs within =
    let ls = c.args.script.now in
    let q = c.in-Ask.request in
    let rest = c.requires.0 in
    let w = subst (λ (l : Line). Waiting c.args.engine.now ls (l ∷ rest) c.args.self.now) c.in-Ask.is c.requires.1 in
    let r = wanted (is_cancelled ls) w.plan q (Digest q.label) in
    record { past = w.past; settling = w.settling; request = r; made = asked_now c.args.engine.now ls rest (Ask q) c.args.self.now r w (has_end w.plan.requests r); named = refl }

pub settle_one-requires-in-Action-after_bounds : goal.settle_one-requires-in-Action-after_bounds
settle_one-requires-in-Action-after_bounds g c κs within =
    let ls = c.args.script.now in
    let q = c.in-Action.request in
    let rest = c.requires.0 in
    let w = subst (λ (l : Line). Waiting c.args.engine.now ls (l ∷ rest) c.args.self.now) c.in-Action.is c.requires.1 in
    let r = wanted (is_cancelled ls) w.plan q (Text q.label) in
    record { past = w.past; settling = w.settling; request = r; made = asked_now c.args.engine.now ls rest (Action q) c.args.self.now r w (has_end w.plan.requests r); named = refl }

pub returns-in-Ask-clause-settles : goal.returns-in-Ask-clause-settles
returns-in-Ask-clause-settles g c = on_ok_weaker c.settle_one.result (λ f rest v.
    let ls = c.args.script.now in
    let q = c.in-Ask.request in
    let w = subst (λ (l : Line). Waiting c.args.engine.now ls (l ∷ rest) c.args.self.now) c.in-Ask.is v in
    let r = wanted (is_cancelled ls) w.plan q (Digest q.label) in
    waiting_more c.args.engine.now ls rest (Ask q) q.name c.args.self.now c.settle_one.new.self w (λ n h. h)
    (settling_some c.args.engine.now ls c.args.self.now w.past q.name w.settling r (asked_now c.args.engine.now ls rest (Ask q) c.args.self.now r w (has_end w.plan.requests r)) refl) f)
    c.settle_one.ensures.settles

pub returns-in-Action-clause-settles : goal.returns-in-Action-clause-settles
returns-in-Action-clause-settles g c = on_ok_weaker c.settle_one-in-Action.result (λ f rest v.
    let ls = c.args.script.now in
    let q = c.in-Action.request in
    let w = subst (λ (l : Line). Waiting c.args.engine.now ls (l ∷ rest) c.args.self.now) c.in-Action.is v in
    let r = wanted (is_cancelled ls) w.plan q (Text q.label) in
    waiting_more c.args.engine.now ls rest (Action q) q.name c.args.self.now c.settle_one-in-Action.new.self w (λ n h. h)
    (settling_some c.args.engine.now ls c.args.self.now w.past q.name w.settling r (asked_now c.args.engine.now ls rest (Action q) c.args.self.now r w (has_end w.plan.requests r)) refl) f)
    c.settle_one-in-Action.ensures.settles

pub returns-in-Put-clause-settles : goal.returns-in-Put-clause-settles
returns-in-Put-clause-settles g c rest w =
    waiting_past c.args.engine.now c.args.script.now rest (Put c.in-Put.field-0 c.in-Put.field-1) c.args.self.now (λ q h. h) (subst (λ (l : Line). Waiting c.args.engine.now c.args.script.now (l ∷ rest) c.args.self.now) c.in-Put.is w)

pub returns-in-Drop-clause-settles : goal.returns-in-Drop-clause-settles
returns-in-Drop-clause-settles g c rest w =
    waiting_past c.args.engine.now c.args.script.now rest (Drop c.in-Drop.field-0) c.args.self.now (λ q h. h) (subst (λ (l : Line). Waiting c.args.engine.now c.args.script.now (l ∷ rest) c.args.self.now) c.in-Drop.is w)

pub returns-in-Commit-clause-settles : goal.returns-in-Commit-clause-settles
returns-in-Commit-clause-settles g c rest w =
    waiting_past c.args.engine.now c.args.script.now rest (Commit) c.args.self.now (λ q h. h) (subst (λ (l : Line). Waiting c.args.engine.now c.args.script.now (l ∷ rest) c.args.self.now) c.in-Commit.is w)

pub returns-in-Open-clause-settles : goal.returns-in-Open-clause-settles
returns-in-Open-clause-settles g c rest w =
    waiting_past c.args.engine.now c.args.script.now rest (Open c.in-Open.field-0) c.args.self.now (λ q h. h) (subst (λ (l : Line). Waiting c.args.engine.now c.args.script.now (l ∷ rest) c.args.self.now) c.in-Open.is w)

pub returns-in-Wait-clause-settles : goal.returns-in-Wait-clause-settles
returns-in-Wait-clause-settles g c rest w =
    waiting_past c.args.engine.now c.args.script.now rest (Wait c.in-Wait.field-0) c.args.self.now (λ q h. h) (subst (λ (l : Line). Waiting c.args.engine.now c.args.script.now (l ∷ rest) c.args.self.now) c.in-Wait.is w)

pub returns-in-Cancel-clause-settles : goal.returns-in-Cancel-clause-settles
returns-in-Cancel-clause-settles g c rest w =
    waiting_past c.args.engine.now c.args.script.now rest (Cancel c.in-Cancel.field-0) c.args.self.now (λ q h. h) (subst (λ (l : Line). Waiting c.args.engine.now c.args.script.now (l ∷ rest) c.args.self.now) c.in-Cancel.is w)

pub returns-in-Close-clause-settles : goal.returns-in-Close-clause-settles
returns-in-Close-clause-settles g c rest w =
    waiting_past c.args.engine.now c.args.script.now rest (Close c.in-Close.field-0) c.args.self.now (λ q h. h) (subst (λ (l : Line). Waiting c.args.engine.now c.args.script.now (l ∷ rest) c.args.self.now) c.in-Close.is w)
