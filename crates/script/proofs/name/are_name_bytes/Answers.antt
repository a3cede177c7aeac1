use Rattle.std.proofs.Common.{◌∙◌, sym, refl}
use Rattle.script.proofs.WordLemmas.{name_goes_on, name_ends, no_name}
use Rattle.script.proofs.name.are_name_bytes.Goals as goal

pub loop-byte-preserved : goal.loop-byte-preserved
loop-byte-preserved c = name_goes_on c.args.bytes.now c.loop-byte.byte-index c.loop-byte-test.true (sym c.is_name_byte.ensures ∙ c.if-not-is_name_byte.false) c.loop-byte.invariant

pub returns-then-not-is_name_byte : goal.returns-then-not-is_name_byte
returns-then-not-is_name_byte c = (
  λ e. absurd cc,
  λ a. absurd (no_name c.args.bytes.now c.loop-byte.byte-index c.loop-byte-test.true (sym c.is_name_byte.ensures ∙ c.if-not-is_name_byte.true) c.loop-byte.invariant a),
)

pub returns : goal.returns
returns c = (λ e. name_ends c.args.bytes.now c.loop-byte.byte-index c.loop-byte-test.false c.loop-byte.invariant, λ a. refl)
