use Rattle.std.proofs.Common.{◌≡◌, ◌<◌, ◌-◌, ◌+◌, suc, sym, ◌∙◌, map, drop, arith, rules}
use Rattle.std.specs.Arc.{arc_value}
use Rattle.dice_key.specs.declared.universe.Kind.TheVariants.{Injected}
use Rattle.dice_model.proofs.Runs.{starts, takes, goes_on, ended, stopped, answers_begin, answers_done}
use Rattle.std.proofs.lemmas.List.{at_drop_all}
use Rattle.dice_model.specs.Eval.{eval, answers}
use Rattle.dice_model.proofs.evaluator.+plain.Goals as goal

pub plain-loop-init : goal.plain-loop-init
plain-loop-init g t c =
    let computed : g.U.Universe.meaning.kind (arc_value c.args.key.now) ≡ Injected → ⊥ = search rules in
    let deep : 0 < c.args.depth = omega arith in
    let most : c.most_batches-end.result - 0 ≡ g.U.Universe.meaning.most (arc_value c.args.key.now) = search rules in
    starts g.U.Key.PartialEq.eq g.U.Universe.meaning c.args.depth c.args.commits.now c.args.version (arc_value c.args.key.now) (c.most_batches-end.result - 0) c.in_ok-run.step (g.U.Universe.running c.in_ok-run.run') c.in_ok-run.ensures.run c.in_ok-run.ensures.step most deep computed

pub plain-resume-requires : goal.plain-resume-requires
plain-resume-requires g t c = takes c.loop.invariant c.in-Ask.batch c.in-Some.answers c.in-Ask.is (sym c.in_ok-answers-in-Ask.ensures ∙ c.in-Some.is)

pub plain-loop-preserved : goal.plain-loop-preserved
plain-loop-preserved g t c =
    let less : c.most_batches-end.result - c.loop.counter ≡ suc (c.most_batches-end.result - (c.loop.counter + 1)) = omega arith in
    goes_on c.loop.invariant _ c.in_ok-step-in-Ask.step (g.U.Universe.running c.resume.new.run) c.in-Ask.batch c.in-Some.answers less c.in-Ask.is (sym c.in_ok-answers-in-Ask.ensures ∙ c.in-Some.is) c.in_ok-step-in-Ask.ensures.run c.in_ok-step-in-Ask.ensures.step

pub plain-returns-in-Done : goal.plain-returns-in-Done
plain-returns-in-Done g t c = ended c.loop.invariant c.in-Done.value c.in-Done.is

pub plain-returns-in_default : goal.plain-returns-in_default
plain-returns-in_default g t c = stopped c.loop.invariant c.in-Ask.batch c.in-Ask.is (sym c.in_ok-answers-in-Ask.ensures ∙ c.in_default.is)

pub answer-loop-key-init : goal.answer-loop-key-init
answer-loop-key-init g t c =
    let f = eval g.U.Key.PartialEq.eq g.U.Universe.meaning c.args.depth c.args.commits.now c.args.version in
    answers_begin f c.new-values.result (map arc_value c.keys-key-items.result.now) c.args.batch.now c.new-values.ensures c.keys-key-items.ensures

pub answer-returns : goal.answer-returns
answer-returns g t c =
    let f = eval g.U.Key.PartialEq.eq g.U.Universe.meaning c.args.depth c.args.commits.now c.args.version in
    answers_done f c.loop-key.values (map arc_value (drop c.loop-key.key-index c.keys-key-items.result.now)) (answers f c.args.batch.now) (at_drop_all (map arc_value) c.keys-key-items.result.now c.loop-key.key-index c.loop-key-test.false) c.loop-key.invariant
