use Rattle.std.proofs.Common.{sym, subst}
use Rattle.buck_label.proofs.PathLemmas.{buck_path}
use Rattle.buck_label.specs.Paths.{IsPathText}
use Rattle.buck_label.proofs.package.Package.target_file.Goals as goal

pub of-requires : goal.of-requires
of-requires c = subst IsPathText (sym c.in_ok-from_slice.ensures.items) buck_path
