use Rattle.std.proofs.Common.{◌∙◌, ap, sym, List, ℕ, drop, take, ◌-◌}
use Rattle.buck_label.proofs.LabelLemmas.{home_at}
use Rattle.buck_label.specs.Labels.{package_of}
use Rattle.buck_label.proofs.label.Label.package_bytes.Goals as goal

pub returns-clause-home : goal.returns-clause-home
returns-clause-home c =
    let i = c.self.invariant in
    ap (λ (t : List ℕ). take (c.self.inside.colon - 2) (drop 2 t)) (c.as_bytes.ensures.text ∙ sym c.self.view_is) ∙ home_at c.self.inside.text c.self.inside.colon i.0 i.1 i.2 i.3 ∙ ap package_of c.self.view_is
