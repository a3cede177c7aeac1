use Rattle.std.proofs.Common.{◌∙◌, ◌+◌, ap, rules, take}
use Rattle.std.proofs.lemmas.List.{with_items_is, places}
use Rattle.dice_io.proofs.StreamLemmas.{grown_keeps, reads_from}
use Rattle.dice_io.proofs.process.RealSourceSource.read.Goals as goal

pub returns-in-Ok-clause-reads : goal.returns-in-Ok-clause-reads
returns-in-Ok-clause-reads g c =
    let start = c.len-start.result in
    reads_from _ _ c.args.into.now.items c.resize.new.self.items c.read_behind.new.bytes _ start c.args.most c.in-Ok.n (search rules)
    (grown_keeps c.args.into.now.items c.resize.new.self.items _ start (start + c.min.result) (search rules) c.in_ok-resize.ensures.items (search rules))
    (c.read_behind.ensures.front ∙ ap (take start) c.deref_mut.ensures.value) (search rules) (search rules) c.in-Ok.ensures.moved
    (c.truncate.ensures.items ∙ ap (take (start + c.in-Ok.n)) (with_items_is c.resize.new.self c.read_behind.new.bytes (search (rules, places))))
