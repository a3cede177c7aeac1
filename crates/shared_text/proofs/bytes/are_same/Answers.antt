use Rattle.shared_text.proofs.Lanes.{all_equal}
use Rattle.shared_text.proofs.bytes.are_same.Goals as goal

pub returns : goal.returns
returns c = all_equal c.args.a c.args.b c.fits-a.0 c.fits-b.0
