use Rattle.std.proofs.Common.{◌≡◌, ◌++◌, ◌∷◌, [], append_assoc, sym, subst, rules}
use Rattle.buck_label.proofs.PathLemmas.{joined_path}
use Rattle.buck_label.specs.Paths.{IsPathText}
use Rattle.buck_label.proofs.package.join.Goals as goal

pub of-requires : goal.of-requires
of-requires c =
    let e : c.extend_from_slice.new.self.items ≡ c.args.home.now ++ 47 ∷ c.args.path.now = search (append_assoc, rules) in
    let some : c.args.home.now ≡ [] → ⊥ = search rules in
    subst IsPathText (sym e) (joined_path _ _ c.requires some c.as_bytes-name.ensures.path)
