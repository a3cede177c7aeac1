use Rattle.bulk_script.proofs.Whole.{is_script}
use Rattle.bulk_script.proofs.laws.bulk_is_script.Goals as goal

pub returns : goal.returns
returns c = λ n h k. is_script n k
