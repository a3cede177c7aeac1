use Rattle.std.proofs.lemmas.Result.{IfOk-weaker}
use Rattle.dice_io.proofs.StreamLemmas.{takes_untold}
use Rattle.dice_io.proofs.process.RealSinkSink.write.Goals as goal

pub returns-clause-takes : goal.returns-clause-takes
returns-clause-takes g c = IfOk-weaker c.write_once.result _ _ (λ n few. takes_untold c.args.bytes.now n few) c.write_once.ensures.few
