use Rattle.std.proofs.Common.{◌∙◌, refl, rules}
use Rattle.buck_label.specs.Paths.{IsPath}
use Rattle.buck_label.specs.Labels.{IsPackage}
use Rattle.buck_label.proofs.LabelLemmas.{pair_made}
use Rattle.buck_label.proofs.label.full.Goals as goal

pub invariant_of-result : goal.invariant_of-result
invariant_of-result c =
    let p : IsPackage c.args.home.now = search rules in
    let q : IsPath c.args.target.now = search rules in
    (record { home = c.args.home.now; target = c.args.target.now }, record { home = p; target = q }, c.in_ok-text.ensures ∙ c.requires, refl)

pub returns : goal.returns
returns c =
    let p : IsPackage c.args.home.now = search rules in
    let q : IsPath c.args.target.now = search rules in
    pair_made c.args.home.now c.args.target.now _ p q (c.in_ok-text.ensures ∙ c.requires)
