use Rattle.std.proofs.Common.{◌≡◌, sym, subst, take, drop, List, ℕ, rules, Some, Ok, Err}
use Rattle.std.proofs.lemmas.List.{drop-drop, take_rest}
use Rattle.script.specs.Lines.{line_of, behind_line, words}
use Rattle.script.specs.Scripts.{IsSkipped}
use Rattle.script.specs.Faults.{form_of}
use Rattle.script.specs.Seen.{form_seen}
use Rattle.script.specs.Known.{past_of}
use Rattle.script.specs.Taking.{IsTaken}
use Rattle.script.proofs.Taken.{line_taken, fault_taken}
use Rattle.script.proofs.known.Known.line.Goals as goal

pub returns-in-Ok-clause-taken : goal.returns-in-Ok-clause-taken
returns-in-Ok-clause-taken c =
    let text = c.args.text.now in
    let at = c.past_byte-behind.result in
    let a : take c.before-end.result text ≡ line_of text = search rules in
    let b : drop at text ≡ behind_line text = search rules in
    let k : IsSkipped (take c.before-end.result text) → ⊥ = search rules in
    let e : form_of (words (take c.before-end.result text)) ≡ Some (form_seen c.in-Some.form) = search rules in
    let t : IsTaken (past_of c.args.self.now) (form_seen c.in-Some.form) (drop at text) (Ok (c.in-Ok.made, c.in-Ok.taken)) (past_of c.form.new.self) =
    subst (λ (r : List ℕ). IsTaken (past_of c.args.self.now) (form_seen c.in-Some.form) r (Ok (c.in-Ok.made, c.in-Ok.taken)) (past_of c.form.new.self)) (take_rest text at) c.in-Ok.ensures.taken in
    line_taken (past_of c.args.self.now) _ text _ (drop at text) (form_seen c.in-Some.form) c.in-Ok.made c.in-Ok.taken _ a b k e t (sym (drop-drop c.in-Ok.taken at text))

pub returns-in-Err-clause-taken : goal.returns-in-Err-clause-taken
returns-in-Err-clause-taken c =
    let text = c.args.text.now in
    let at = c.past_byte-behind.result in
    let a : take c.before-end.result text ≡ line_of text = search rules in
    let b : drop at text ≡ behind_line text = search rules in
    let k : IsSkipped (take c.before-end.result text) → ⊥ = search rules in
    let e : form_of (words (take c.before-end.result text)) ≡ Some (form_seen c.in-Some.form) = search rules in
    let t : IsTaken (past_of c.args.self.now) (form_seen c.in-Some.form) (drop at text) (Err c.in-Err.stop) (past_of c.form.new.self) =
    subst (λ (r : List ℕ). IsTaken (past_of c.args.self.now) (form_seen c.in-Some.form) r (Err c.in-Err.stop) (past_of c.form.new.self)) (take_rest text at) c.in-Err.ensures.taken in
    fault_taken (past_of c.args.self.now) _ text _ (drop at text) (form_seen c.in-Some.form) c.in-Err.stop a b k e t
