-- How requests are answered.
use Rattle.std.specs.Prelude.{ℕ, List}
use Rattle.dice_model.specs.Eval.{HasValue}
use Rattle.action_digest.specs.declared.key.Key.{Key}
use Rattle.action_digest.specs.declared.value.Value.{Value}
use Rattle.action_digest.specs.Buck.{buck}
use Rattle.action_digest.specs.Same.{key_equal}
use Rattle.action_digest.specs.Cycles.{keys_of, IsLabelCycle, ReachesFirst}
use Rattle.script_trace.specs.Output.{value_lines, cycle_line}

-- what is told of a key at v, by the log C: how its value is told, or a cycle that it reaches
pub data IsToldOf (C : List (List (Key × Value))) (v : ℕ) (k : Key) : List ℕ → Type 0 where
  told_value : (x : Value) → HasValue key_equal buck C v k x → IsToldOf C v k (value_lines x)
  told_cycle : (ls : List (List ℕ)) → IsLabelCycle C v ls → ReachesFirst C v k (keys_of ls) → IsToldOf C v k (cycle_line ls)
