use Rattle.std.proofs.Common.{◌∙◌, ap, ℕ, ◌*◌}
use Rattle.bulk_script.proofs.Numbers.{requests_are}
use Rattle.bulk_script.proofs.bulk.request_count.Goals as goal

pub returns : goal.returns
returns c = ap (λ (q : ℕ). q * 2) c.div_ceil.ensures ∙ requests_are c.args.targets
