use Rattle.std.proofs.Common.{rules}
use Rattle.dice_io.proofs.StreamLemmas.{reads_front}
use Rattle.dice_io.proofs.sure.SureSourceSource.read.Goals as goal

pub returns-clause-reads : goal.returns-clause-reads
returns-clause-reads c =
    reads_front c.args.self.now c.self.inside.bytes.items c.deref.result.now c.args.into.now.items _ c.self.inside.at c.len.result c.args.most c.min-n.result (search rules) c.deref.ensures.value (search rules)
    c.self.invariant c.requires c.min-n.ensures c.in_ok-extend_from_slice.ensures.items
