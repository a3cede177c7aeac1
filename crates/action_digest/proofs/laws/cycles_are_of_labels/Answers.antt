use Rattle.action_digest.specs.Cycles.{labels_of}
use Rattle.action_digest.proofs.Rounds.{is_in_turn}
use Rattle.action_digest.proofs.Turning.{labels_distinct}
use Rattle.action_digest.proofs.laws.cycles_are_of_labels.Goals as goal

pub returns : goal.returns
returns c C v ks h = let t = is_in_turn C v ks h in (t.front, t.back, labels_of ks, t.parts, t.turn, labels_distinct C v ks h)
