use Rattle.std.proofs.Common.{◌≤◌, ◌-◌, [], ℕ, length, take}
use Rattle.target_file.specs.Tokens.{InText}
use Rattle.target_file.specs.Machine.{State}
use Rattle.target_file.specs.Code.{bare, Ran}
use Rattle.target_file.proofs.quoted.unescaped.Given as goal

-- the bytes so far stand for the text
abbrev pub invariant-loop-at : goal.invariant-loop-at
invariant-loop-at l = record {
  fits : l.at ≤ length l.rest;
  ran : (line : ℕ) (m : State) → Ran (bare (InText l.quote []) line) (take l.at l.rest) m (bare (InText l.quote l.text.items) line) m;
}

abbrev pub decreases-loop-at : goal.decreases-loop-at
decreases-loop-at l = length l.rest - l.at
