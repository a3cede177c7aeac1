use Rattle.std.proofs.Common.{◌≡◌, ◌≤◌, ◌↔◌, drop}
use Rattle.script.specs.Lines.{AreDigits, value_from}
use Rattle.script.proofs.number.digits_value.Given as goal

abbrev pub invariant-loop-digit : goal.invariant-loop-digit
invariant-loop-digit l = record {
  each : AreDigits l.digits ↔ AreDigits (drop l.digit-index l.digits);
  number : value_from l.value (drop l.digit-index l.digits) ≡ value_from 0 l.digits;
  fits : l.value ≤ 4194304;
}
