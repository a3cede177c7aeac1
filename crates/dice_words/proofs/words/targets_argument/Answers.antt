use Rattle.std.proofs.Common.{rules}
use Rattle.dice_words.proofs.words.targets_argument.Goals as goal

pub returns-clause-rule : goal.returns-clause-rule
returns-clause-rule c = search rules
