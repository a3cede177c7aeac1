use Rattle.std.proofs.Common.{◌≡◌, map, drop, length}
use Rattle.std.specs.Arc.{arc_value}
use Rattle.action_digest.specs.Actions.{behind, lines_by}
use Rattle.action_digest.proofs.action.push_answers.Given as goal

abbrev pub invariant-loop-key : goal.invariant-loop-key
invariant-loop-key l =
    behind l.text.items (lines_by l.named (map arc_value (drop (length l.yielded) l.keys)) (map arc_value (drop (length l.yielded) l.values)))
    ≡ behind l.fn.text.items (lines_by l.named (map arc_value l.keys) (map arc_value l.values))
