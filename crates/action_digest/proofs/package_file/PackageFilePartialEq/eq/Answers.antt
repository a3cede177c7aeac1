use Rattle.std.proofs.Common.{◌≡◌, List, [], true, sym, ap, ◌∙◌, subst}
use Rattle.target_file.specs.Contents.{Contents, Holds, Fails, contents}
use Rattle.target_file.specs.Laws.{file_equiv}
use Rattle.target_file.specs.Targets.{Located, same_file}
use Rattle.dice_key.specs.Same.{same_text}
use Rattle.action_digest.proofs.package_file.PackageFilePartialEq.eq.Goals as goal

-- the targets that a text holds
abbrev targets_in : Contents → List Located
targets_in (Holds f) = f
targets_in (Fails l) = []

pub returns-then-eq : goal.returns-then-eq
returns-then-eq c =
    let s = same_text c.self.inside.source c.other.inside.source (sym c.if-eq.ensures) in
    let held : Holds c.self.inside.file ≡ Holds c.other.inside.file = sym c.self.invariant ∙ (ap contents s ∙ c.other.invariant) in
    let same : c.args.self.now ≡ c.args.other.now = sym c.self.view_is ∙ (ap targets_in held ∙ c.other.view_is) in
    c.if-eq.true ∙ sym (subst (λ f. same_file c.args.self.now f ≡ true) same (file_equiv.refl c.args.self.now))
