use Rattle.target_file.proofs.Order.{order, default, names_once}
use Rattle.target_file.proofs.laws.calls_by_meaning.Goals as goal

pub returns : goal.returns
returns c = record { order = order; default = default; names = names_once }
