use Rattle.std.proofs.Common.{◌≡◌, ◌∙◌, Err, sym, subst}
use Rattle.script.specs.Scripts.{IsScript}
use Rattle.script.specs.Reading.{IsRead}
use Rattle.script.specs.declared.fault.ScriptRefusal.{ScriptRefusal}
use Rattle.bulk_script.specs.Bulk.{bulk, bulk_lines}
use Rattle.dice_run.proofs.bulk.sum_up.Goals as goal

pub unreachable-requires-in-Err-Fault : goal.unreachable-requires-in-Err-Fault
unreachable-requires-in-Err-Fault g c =
    let n = c.args.targets in
    let text = c.deref.result.now in
    let e : text ≡ bulk n = c.deref.ensures.value ∙ c.in_ok-bytes.ensures in
    let s = subst (λ t. IsScript t (bulk_lines n)) (sym e) (c.bulk_is_script.ensures n c.requires.targets.0 c.requires.targets.1) in
    let f = subst (λ (x : ScriptRefusal). IsRead text (Err x)) c.in-Err-Fault.field-0-is c.in-Err-Fault.ensures in
    c.readings_are_one.ensures.not_both text (bulk_lines n) c.in-Err-Fault._line c.in-Err-Fault._word s f
