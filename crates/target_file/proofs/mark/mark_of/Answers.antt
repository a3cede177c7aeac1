use Rattle.std.proofs.Common.{◌∙◌, ap}
use Rattle.std.specs.Prelude.{fold}
use Rattle.std.specs.Hash.FoldHasher as folding
use Rattle.target_file.specs.Lent.{located_of}
use Rattle.target_file.specs.Marks.{located_fed}
use Rattle.target_file.proofs.Marks.{seen_fed}
use Rattle.target_file.proofs.mark.mark_of.Goals as goal

pub returns : goal.returns
returns c =
    c.finish.ensures
    ∙ ap folding.finish (c.hash.ensures ∙ (λ i. fold folding.write (c.default-hasher.ensures i) (seen_fed located_of located_fed c.args.targets.now i)))
