use Rattle.std.proofs.Common.{◌∙◌, ◌≡◌, ap, sym, subst, List, ℕ, drop, take, length, ◌-◌, ◌+◌}
use Rattle.buck_label.proofs.LabelLemmas.{target_at}
use Rattle.buck_label.specs.Labels.{target_of}
use Rattle.buck_label.specs.Paths.{IsPath}
use Rattle.buck_label.proofs.label.Label.name.Goals as goal

pub returns-clause-name : goal.returns-clause-name
returns-clause-name c =
    let i = c.self.invariant in
    let h = target_at c.self.inside.text c.self.inside.colon i.0 i.1 i.2 i.3 in
    let e : c.as_bytes.result.now ≡ c.self.inside.text = c.as_bytes.ensures.text ∙ sym c.self.view_is in
    ap (λ (t : List ℕ). take (length t - (c.self.inside.colon + 1)) (drop (c.self.inside.colon + 1) t)) e ∙ h.0 ∙ ap target_of c.self.view_is

pub returns-clause-is_path : goal.returns-clause-is_path
returns-clause-is_path c =
    let i = c.self.invariant in
    let h = target_at c.self.inside.text c.self.inside.colon i.0 i.1 i.2 i.3 in
    let e : c.as_bytes.result.now ≡ c.self.inside.text = c.as_bytes.ensures.text ∙ sym c.self.view_is in
    subst (λ (t : List ℕ). IsPath (take (length t - (c.self.inside.colon + 1)) (drop (c.self.inside.colon + 1) t))) (sym e) h.1
