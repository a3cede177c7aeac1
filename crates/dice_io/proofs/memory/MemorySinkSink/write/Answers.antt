use Rattle.std.proofs.Common.{rules}
use Rattle.dice_io.proofs.StreamLemmas.{takes_front}
use Rattle.dice_io.proofs.memory.MemorySinkSink.write.Goals as goal

pub returns-clause-takes : goal.returns-clause-takes
returns-clause-takes c = takes_front _ _ c.args.bytes.now _ (search rules) (search rules)
