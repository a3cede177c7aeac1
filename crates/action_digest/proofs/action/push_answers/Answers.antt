use Rattle.std.proofs.Common.{◌≡◌, ◌∙◌, length, length-append, min}
use Rattle.std.proofs.lemmas.Slice.Zip.{zip_turn, zip_end}
use Rattle.action_digest.proofs.Endings.{line_added, fault_told, no_lines}
use Rattle.action_digest.proofs.action.push_answers.Goals as goal

pub returns : goal.returns
returns c =
    let n : length c.loop-key.yielded ≡ min (length c.args.keys.now) (length c.args.values.now) =
    zip_end c.args.keys.now c.args.values.now c.loop-key.yielded c.into_iter-key-iterator.result c.loop-key.key-iterator c.next.new.self c.next.result (cc) (cc) c.loop-key.yielded_by c.in-None.is c.next.ensures.steps in
    no_lines c.args.named c.args.keys.now c.args.values.now (length c.loop-key.yielded) c.loop-key.text.items n ∙ c.loop-key.invariant

pub loop-key-preserved : goal.loop-key-preserved
loop-key-preserved c =
    let z = zip_turn c.args.keys.now c.args.values.now c.loop-key.yielded c.into_iter-key-iterator.result c.loop-key.key-iterator c.next.new.self c.next.result (cc) (cc) c.loop-key.yielded_by (c.in-Some.key, c.in-Some.value) c.in-Some.is c.next.ensures.steps in
    rw length-append
    (line_added c.args.named c.args.keys.now c.args.values.now (length c.loop-key.yielded) c.in-Some.key.now c.in-Some.value.now c.loop-key.text.items c.push_answer.new.text.items c.in_ok-fault.field-0 c.in_default.field-0
    c.deref.result.now c.deref-in-loop-key.result.now z.0 z.1 (z.2 c.in-Some.key.now) (z.3 c.in-Some.value.now) c.in_default.is c.deref.ensures c.deref-in-loop-key.ensures c.in_ok-fault.ensures
    ∙ c.loop-key.invariant)

pub returns-in-Err : goal.returns-in-Err
returns-in-Err c =
    let z = zip_turn c.args.keys.now c.args.values.now c.loop-key.yielded c.into_iter-key-iterator.result c.loop-key.key-iterator c.next.new.self c.next.result (cc) (cc) c.loop-key.yielded_by (c.in-Some.key, c.in-Some.value) c.in-Some.is c.next.ensures.steps in
    fault_told c.args.named c.args.keys.now c.args.values.now (length c.loop-key.yielded) c.in-Some.key.now c.in-Some.value.now c.loop-key.text.items c.push_answer.new.text.items c.in_ok-fault.field-0 c.in-Err.fault
    c.deref.result.now c.deref-in-loop-key.result.now z.0 z.1 (z.2 c.in-Some.key.now) (z.3 c.in-Some.value.now) c.in-Err.is c.deref.ensures c.deref-in-loop-key.ensures c.in_ok-fault.ensures
    ∙ c.loop-key.invariant
