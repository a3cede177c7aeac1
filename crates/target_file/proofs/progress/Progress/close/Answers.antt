use Rattle.std.proofs.Common.{◌≡◌, ◌∙◌, ◌++◌, ◌∷◌, [], List, ap, length}
use Rattle.std.specs.declared.vec.Vec.{Vec}
use Rattle.target_file.specs.declared.call.Argument.{Argument}
use Rattle.target_file.specs.declared.call.Call.{Call}
use Rattle.target_file.proofs.Numbers.{closed_calls}
use Rattle.target_file.proofs.progress.Progress.close.Goals as goal

pub invariant_of-self-2 : goal.invariant_of-self-2
invariant_of-self-2 c =
    let p = c.args.self.now in
    let call : Call = record { line = p.line; rule = p.rule; arguments = c.replace-arguments.result } in
    let e : c.push.new.self.items ≡ p.calls.items ++ call ∷ [] = c.in_ok-push.ensures.items ∙ ap (λ (r : List Call). r ++ call ∷ []) c.in_ok-reserve.ensures.items in
    let f : c.replace-arguments.result.items ≡ p.given.items = ap (λ (v : Vec Argument _). v.items) c.replace-arguments.ensures.value in
    let g : c.replace-arguments.new.dest.items ≡ [] = ap (λ (v : Vec Argument _). v.items) c.replace-arguments.ensures.after ∙ c.new.ensures.items in record {
      numbered = λ q. closed_calls q _ p.calls.items c.push.new.self.items call p.given.items c.replace-arguments.new.dest.items e f g (p.numbered q);
      idle = λ _. ap length g;
    }
