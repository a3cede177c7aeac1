use Rattle.std.proofs.Common.{◌≡◌, ◌∙◌, ◌++◌, ap, map, List, ℕ, arith, rules}
use Rattle.bulk_script.specs.Spelled.{spelled, text_of}
use Rattle.bulk_script.specs.Bulk.{ask_in, asked_of}
use Rattle.bulk_script.proofs.Numbers.{asks_none, asks_yes, asks_no}
use Rattle.bulk_script.proofs.Parts.{round_put}
use Rattle.bulk_script.proofs.bulk.ask_round.Goals as goal
use Rattle.bulk_script.proofs.bulk.ask_round.Goals.{then-target-eq0+in_ok-ask, else-target-eq0}

pub loop-target-init : goal.loop-target-init
loop-target-init c = asks_none c.args.transaction.now c.commit_and_open.new.out.items

pub loop-target-preserved : goal.loop-target-preserved
loop-target-preserved c =
    let t = c.args.transaction.now in
    let out = c.commit_and_open.new.out.items in
    let n = c.loop-target.target in
    elim c.if-target-eq0.branch [
      | then-target-eq0+in_ok-ask w ↦
          let e : c.if-target-eq0.script.items ≡ c.loop-target.script.items ++ spelled (ask_in t n) = search (rules, w.script-is, w.in_ok-ask.ensures) in
          e ∙ asks_yes t c.loop-target.script.items out n w.if-target-eq0.true c.loop-target.invariant
      | else-target-eq0 w ↦
          let e : c.if-target-eq0.script.items ≡ c.loop-target.script.items = search (rules, w.script-is) in
          e ∙ asks_no t c.loop-target.script.items out n w.if-target-eq0.false c.loop-target.invariant
    ]

pub returns : goal.returns
returns c =
    let t = c.args.transaction.now in
    let s : c.loop-target.target ≡ c.args.targets = omega arith in
    round_put t c.loop-target.script.items c.args.script.now.items c.args.targets
    (c.loop-target.invariant ∙ ap (λ (n : ℕ). c.commit_and_open.new.out.items ++ text_of (map (ask_in t) (asked_of n))) s
    ∙ ap (λ (o : List ℕ). o ++ text_of (map (ask_in t) (asked_of c.args.targets))) c.in_ok-commit_and_open.ensures)
