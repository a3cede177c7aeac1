use Rattle.std.proofs.Common.{◌≡◌, ◌∙◌, sym, subst, refl, false, List, rules}
use Rattle.script.specs.declared.line.Line.{Line}
use Rattle.script.specs.Past.{nothing, is_cancelled}
use Rattle.script.proofs.NoneGivenUp.{keeps_all}
use Rattle.script.proofs.script.Script.is_cancelled.Goals as goal

pub returns-then-not-self : goal.returns-then-not-self
returns-then-not-self c =
    let i = c.self.invariant in
    let g : c.self.inside.gives_up ≡ false = search rules in
    subst (λ (ls : List Line). false ≡ is_cancelled ls c.args.name.now) c.self.view_is (sym (keeps_all c.self.inside.lines.items nothing (sym i.3 ∙ g) (λ n. refl) c.args.name.now))
