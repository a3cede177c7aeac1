-- What a hasher is fed of targets, and the mark that is kept beside those of a file.
use Rattle.std.specs.Prelude.{◌++◌, ℕ, List, fold}
use Rattle.std.specs.Hash as fed
use Rattle.std.specs.Hash.FoldHasher as folding
use Rattle.shared_text.specs.Texts.{hash_of}
use Rattle.target_file.specs.Targets.{Target, Located}
use Rattle.target_file.specs.contracts.action.ActionHash.TheImpl as action_hash

abbrev pub text_fed : List ℕ → List (List ℕ)
text_fed t = fed.u64 (hash_of t)

abbrev pub target_fed : Target → List (List ℕ)
target_fed t = text_fed t.name ++ (fed.slice text_fed t.visibility ++ (fed.slice text_fed t.labels ++ action_hash.ghosts.hash_input t.action))

abbrev pub located_fed : Located → List (List ℕ)
located_fed l = fed.u64 l.line ++ target_fed l.target

-- files that are equal have one mark
abbrev pub mark_of : List Located → ℕ
mark_of file = folding.finish (fold folding.write folding.initial (fed.slice located_fed file))
