use Rattle.std.proofs.Common.{◌≡◌, ◌∙◌, sym, Some, None, map, length}
use Rattle.target_file.specs.Names.{number_from}
use Rattle.target_file.specs.Seen.{call_of, arguments_of}
use Rattle.target_file.proofs.Numbers.{used_by, unused_by}
use Rattle.target_file.proofs.progress.Progress.is_used.Goals as goal

pub returns-in-Some : goal.returns-in-Some
returns-in-Some c =
    let p = c.args.self.now in
    let h : number_from 0 c.args.name.now (map call_of p.calls.items) (arguments_of p.given.items) ≡ Some c.in-Some.number = sym (p.numbered c.args.name.now) ∙ sym c.find.ensures ∙ c.in-Some.is in
    let l : c.len.result ≡ length p.calls.items = c.len.ensures ∙ p.calls.ok.0 in
    used_by c.args.name.now p.calls.items (arguments_of p.given.items) c.in-Some.number c.len.result h l

pub returns-in-None : goal.returns-in-None
returns-in-None c =
    let p = c.args.self.now in
    let h : number_from 0 c.args.name.now (map call_of p.calls.items) (arguments_of p.given.items) ≡ None = sym (p.numbered c.args.name.now) ∙ sym c.find.ensures ∙ c.in-None.is in
    (λ e. absurd cc, λ m. absurd (unused_by c.args.name.now p.calls.items (arguments_of p.given.items) h m))
