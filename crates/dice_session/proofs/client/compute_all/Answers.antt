use Rattle.dice_session.proofs.Sole.{all_found}
use Rattle.dice_session.proofs.client.compute_all.Goals as goal

pub returns-clause-found : goal.returns-clause-found
returns-clause-found g c = all_found g.U.Key.PartialEq.eq g.U.Universe.meaning c.compute_all_in-found.result _ _ c.reopen.ensures.goes.log c.in_ok-keys.keys.items c.as_slice.result.now c.as_slice.ensures.value c.args.keys.items c.in_ok-keys.ensures c.compute_all_in-found.ensures.found
