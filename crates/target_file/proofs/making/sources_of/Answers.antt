use Rattle.target_file.proofs.Gathering.{source_at, sources_more}
use Rattle.target_file.proofs.making.sources_of.Goals as goal

pub add_source-requires : goal.add_source-requires
add_source-requires c = source_at c.args.items.now c.loop-item.item-index c.item-item.result c.requires c.loop-item-test.true c.item-item.is

pub loop-item-preserved : goal.loop-item-preserved
loop-item-preserved c =
    sources_more c.args.items.now c.loop-item.item-index c.item-item.result c.loop-item.sources.items c.add_source.new.sources.items c.loop-item-test.true c.item-item.is c.loop-item.invariant
    c.in_ok-add_source.ensures
