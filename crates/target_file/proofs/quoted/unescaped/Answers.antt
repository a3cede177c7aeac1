use Rattle.std.proofs.Common.{◌+◌, sym, refl, subst, ℕ, List, [], take, drop, arith}
use Rattle.std.proofs.lemmas.Bool.{ne_eqb}
use Rattle.target_file.specs.Tokens.{InText}
use Rattle.target_file.specs.Code.{bare, Ran, Means, IsBroken}
use Rattle.target_file.proofs.Going.{text_more, text_broken, text_whole, text_ended, rest_is, means_some}
use Rattle.target_file.proofs.quoted.unescaped.Goals as goal

pub returns-then-byte-quote : goal.returns-then-byte-quote
returns-then-byte-quote c =
    text_ended c.args.quote c.args.rest.now c.loop-at.text.items c.loop-at.at c.args.quote c.loop-at-test.true (sym c.if-byte-quote.true) refl c.loop-at.invariant.ran

-- what the bytes in front stand for
meant_there : (c : goal.In_ok-push-in-Some) → Means c.args.quote (drop c.loop-at.at c.args.rest.now) c.in-Some.byte c.in-Some.taken
meant_there c =
    subst (λ (x : List ℕ). Means c.args.quote x c.in-Some.byte c.in-Some.taken) (sym (rest_is c.args.rest.now c.loop-at.at c.loop-at-test.true))
    (c.in-Some.ensures.some c.args.quote (ne_eqb _ _ c.if-byte-quote.false))

pub overflow_add-at-in-Some : goal.overflow_add-at-in-Some
overflow_add-at-in-Some c =
    let h = (text_more c.args.quote c.args.rest.now c.loop-at.text.items c.in-Some.byte c.loop-at.at c.in-Some.taken c.loop-at.invariant.fits (meant_there c) c.loop-at.invariant.ran).0 in omega arith

pub loop-at-smaller : goal.loop-at-smaller
loop-at-smaller c =
    let n = means_some c.args.quote c.in-Some.byte _ c.in-Some.taken (meant_there c) in
    let t = c.loop-at-test.true in omega arith

pub loop-at-preserved : goal.loop-at-preserved
loop-at-preserved c =
    let h = text_more c.args.quote c.args.rest.now c.loop-at.text.items c.in-Some.byte c.loop-at.at c.in-Some.taken c.loop-at.invariant.fits (meant_there c) c.loop-at.invariant.ran in
    record { fits = h.0; ran = λ line m. subst (λ (x : List ℕ). Ran (bare (InText c.args.quote []) line) (take (c.loop-at.at + c.in-Some.taken) c.args.rest.now) m (bare (InText c.args.quote x) line) m) (sym c.in_ok-push-in-Some.ensures.items) (h.1 line m) }

pub returns-in-None : goal.returns-in-None
returns-in-None c =
    let b : IsBroken c.args.quote (drop c.loop-at.at c.args.rest.now) =
    subst (IsBroken c.args.quote) (sym (rest_is c.args.rest.now c.loop-at.at c.loop-at-test.true)) (c.in-None.ensures.none c.args.quote (ne_eqb _ _ c.if-byte-quote.false)) in
    text_broken c.args.quote c.args.rest.now c.loop-at.text.items c.loop-at.at b c.loop-at.invariant.ran

pub returns : goal.returns
returns c = text_whole c.args.quote c.args.rest.now c.loop-at.text.items c.loop-at.at c.loop-at.invariant.fits (omega arith) c.loop-at.invariant.ran
