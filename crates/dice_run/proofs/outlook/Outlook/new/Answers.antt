use Rattle.dice_run.proofs.Viewing.{sees_first}
use Rattle.dice_run.proofs.outlook.Outlook.new.Goals as goal

pub returns-clause-sees : goal.returns-clause-sees
returns-clause-sees c s x e f = sees_first s x
