use Rattle.std.proofs.Common.{◌≡◌, ◌∙◌, ◌++◌, ap, sym, subst, codes, decimal, Err, rules}
use Rattle.script.specs.Words.{text_of}
use Rattle.script.specs.Reading.{IsRead}
use Rattle.script.specs.declared.fault.ScriptRefusal.{ScriptRefusal}
use Rattle.script_trace.specs.Output.{line}
use Rattle.dice_run.specs.Run.{Refuses, too_long, faulty}
use Rattle.dice_run.proofs.carried.answer.Goals as goal

pub returns-in_ok-bytes-in-Err-TooLong-clause-refused :
    goal.returns-in_ok-bytes-in-Err-TooLong-clause-refused
returns-in_ok-bytes-in-Err-TooLong-clause-refused g c _ =
    let e : c.bytes.new.out.items ≡ line (codes "script too long") = search rules in
    let r = c.refusal.ensures in
    (subst (Refuses c.args.bytes.now) (sym (ap (λ v. v.items) r.1 ∙ e)) (too_long (subst (λ (x : ScriptRefusal). IsRead c.args.bytes.now (Err x)) c.in-Err-TooLong.field-0-is c.in-Err-TooLong.ensures)), r.2)

pub returns-in_ok-bytes-in-Err-Fault-4-clause-refused :
    goal.returns-in_ok-bytes-in-Err-Fault-4-clause-refused
returns-in_ok-bytes-in-Err-Fault-4-clause-refused g c _ =
    let e : c.bytes-in-Err-Fault-4.new.out.items ≡ line (codes "line " ++ decimal c.in-Err-Fault.line ++ codes ": " ++ text_of c.in-Err-Fault.word) = search rules in
    let r = c.refusal-in-Err-Fault.ensures in
    (subst (Refuses c.args.bytes.now) (sym (ap (λ v. v.items) r.1 ∙ e)) (faulty c.in-Err-Fault.line c.in-Err-Fault.word (subst (λ (x : ScriptRefusal). IsRead c.args.bytes.now (Err x)) c.in-Err-Fault.field-0-is c.in-Err-Fault.ensures)), r.2)
