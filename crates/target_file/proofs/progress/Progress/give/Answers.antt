use Rattle.std.proofs.Common.{◌≡◌, ◌∙◌, ◌++◌, ◌∷◌, [], ap, sym, subst, map, List, ℕ, Some, if◌then◌else◌, length}
use Rattle.target_file.specs.declared.call.Argument.{Argument}
use Rattle.target_file.specs.declared.call.Value.TheVariants as value
use Rattle.target_file.specs.Calls.{One}
use Rattle.target_file.specs.Names.{number_of, gives_name}
use Rattle.target_file.specs.Machine.{IsFresh}
use Rattle.target_file.specs.Seen.{call_of}
use Rattle.target_file.proofs.Numbers.{noted}
use Rattle.target_file.proofs.progress.Progress.give.Goals as goal

pub invariant_of-self-2 : goal.invariant_of-self-2
invariant_of-self-2 c =
    let p = c.args.self.now in
    let a = c.args.attribute in
    let kept = c.in_ok-kept.kept in
    let k : kept ≡ c.args.text.now = c.in_ok-kept.ensures in
    let x : Argument = record { attribute = a; value = value.One kept } in
    let e : c.push.new.self.items ≡ p.given.items ++ x ∷ [] = c.in_ok-push.ensures.items ∙ ap (λ (r : List Argument). r ++ x ∷ []) c.in_ok-reserve.ensures.items in
    let l : c.len.result ≡ length p.calls.items = c.len.ensures ∙ p.calls.ok.0 in
    let f : IsFresh (map call_of p.calls.items) a (One kept) = subst (λ (t : List ℕ). IsFresh (map call_of p.calls.items) a (One t)) (sym k) c.requires in
    let n : (q : List ℕ) → number_of c.note.new.self q ≡ (if gives_name q a (One kept) then Some c.len.result else number_of p.names q) = c.in_ok-note.ensures.ok in record {
      numbered = λ q. noted q _ c.len.result p.calls.items p.given.items c.push.new.self.items x e l f (n q ∙ ap (λ (m : _). if gives_name q a (One kept) then Some c.len.result else m) (p.numbered q));
      idle = λ e. cc;
    }
