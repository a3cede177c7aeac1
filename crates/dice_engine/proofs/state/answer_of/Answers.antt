use Rattle.std.proofs.Common.{rules}
use Rattle.dice_engine.proofs.state.answer_of.Goals as goal

pub returns-in-Lost : goal.returns-in-Lost
returns-in-Lost g c = search rules
