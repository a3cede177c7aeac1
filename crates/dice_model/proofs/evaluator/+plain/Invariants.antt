use Rattle.std.proofs.Common.{◌≡◌, ◌+◌, ◌*◌, ◌-◌, ◌++◌, drop, map}
use Rattle.std.specs.Arc.{arc_value}
use Rattle.std.specs.Option.{option_map}
use Rattle.dice_model.proofs.Runs.{Stands}
use Rattle.dice_model.specs.Eval.{eval, answers}
use Rattle.dice_model.proofs.evaluator.+plain.Given as goal

abbrev pub decreases-answer : goal.decreases-answer
decreases-answer g l = 2 * l.depth + 1

abbrev pub decreases-plain : goal.decreases-plain
decreases-plain g l = 2 * l.depth

-- the values so far, and those of the keys that are left, are those of the batch
abbrev pub invariant-answer-loop-key : goal.invariant-answer-loop-key
invariant-answer-loop-key g l =
    let f = eval g.U.Key.PartialEq.eq g.U.Universe.meaning l.depth l.commits l.version in
    option_map (λ ys. l.values ++ ys) (answers f (map arc_value (drop l.key-index l.key-items))) ≡ answers f l.batch

-- the run is that of the key, its step is the next one, and what it leads to is what the key leads to
abbrev pub invariant-plain-loop : goal.invariant-plain-loop
invariant-plain-loop g l =
    let m = g.U.Universe.meaning in
    let C = l.commits in
    let eq = g.U.Key.PartialEq.eq in
    Stands m (eval eq m (l.depth - 1) C l.version) (arc_value l.key) l.version (l.end - l.counter) (eval eq m l.depth C l.version (arc_value l.key)) l.step (g.U.Universe.running l.run)
