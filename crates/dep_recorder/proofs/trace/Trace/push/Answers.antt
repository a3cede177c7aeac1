use Rattle.std.proofs.Common.{◌≡◌, ◌∙◌, ◌++◌, length, refl, ap, arith, [], ◌∷◌}
use Rattle.dep_recorder.specs.Recordings.{keys_in, values_in}
use Rattle.dep_recorder.proofs.Parts.{pushed_rise, pushed_parts, same_trace, on_err}
use Rattle.dep_recorder.proofs.trace.Trace.push.Goals as goal

pub invariant_of-self-2 : goal.invariant_of-self-2
invariant_of-self-2 g c =
    let t = c.self.inside in
    let e : c.push_reserved.new.self.items ≡ c.reserve-2.new.self.items ++ c.len-2.result ∷ [] = c.push_reserved.ensures.items in
    let l : c.len-2.result ≡ length c.extend.new.pairs.items = omega (arith, c.len-2.ensures) in
    pushed_rise t.pairs.items c.extend.new.pairs.items c.args.batch.now t.ends.items c.push_reserved.new.self.items c.len-2.result c.self.invariant
    (e ∙ ap (λ es. es ++ c.len-2.result ∷ []) c.reserve-2.ensures.items) l (c.in_ok-extend.ensures.keys ∙ (λ i. keys_in (c.reserve.ensures.items i) ++ c.keys.ensures i)) (omega (arith, c.len.ensures.len, c.len.ensures.some))

pub returns-clause-ok : goal.returns-clause-ok
returns-clause-ok g c =
    let t = c.self.inside in
    let e : c.push_reserved.new.self.items ≡ c.reserve-2.new.self.items ++ c.len-2.result ∷ [] = c.push_reserved.ensures.items in
    let l : c.len-2.result ≡ length c.extend.new.pairs.items = omega (arith, c.len-2.ensures) in
    pushed_parts t.pairs.items c.extend.new.pairs.items c.args.batch.now c.args.answers.now t.ends.items c.push_reserved.new.self.items c.len-2.result c.args.self.now c.self.invariant
    (e ∙ ap (λ es. es ++ c.len-2.result ∷ []) c.reserve-2.ensures.items) l (c.in_ok-extend.ensures.keys ∙ (λ i. keys_in (c.reserve.ensures.items i) ++ c.keys.ensures i)) (c.in_ok-extend.ensures.values ∙ (λ i. values_in (c.reserve.ensures.items i) ++ c.values.ensures i)) c.self.view_is

pub returns-in_err-reserve-clause-err : goal.returns-in_err-reserve-clause-err
returns-in_err-reserve-clause-err g c = let t = c.self.inside in on_err c.from_residual.result (same_trace t.pairs.items c.reserve.new.self.items t.ends.items t.ends.items c.args.self.now c.reserve.ensures.items refl c.self.view_is)

pub returns-in_err-reserve-2-clause-err : goal.returns-in_err-reserve-2-clause-err
returns-in_err-reserve-2-clause-err g c =
    let t = c.self.inside in
    on_err c.from_residual-in_err-reserve-2.result (same_trace t.pairs.items c.reserve.new.self.items t.ends.items c.reserve-2.new.self.items c.args.self.now c.reserve.ensures.items c.reserve-2.ensures.items c.self.view_is)

pub returns-in_err-extend-clause-err : goal.returns-in_err-extend-clause-err
returns-in_err-extend-clause-err g c =
    let t = c.self.inside in
    on_err c.from_residual-in_err-extend.result (same_trace t.pairs.items c.extend.new.pairs.items t.ends.items c.reserve-2.new.self.items c.args.self.now (c.in_err-extend.ensures.err ∙ c.reserve.ensures.items) c.reserve-2.ensures.items c.self.view_is)
