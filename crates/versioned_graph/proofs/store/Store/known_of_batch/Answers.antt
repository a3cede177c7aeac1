use Rattle.std.specs.List.{list_all}
use Rattle.version_ranges.specs.Members.{contains}
use Rattle.injected.specs.Seen.{cell_at}
use Rattle.versioned_graph.specs.Entries.{entry_at, known}
use Rattle.versioned_graph.proofs.Bools.{pair_asked, pairs_asked}
use Rattle.versioned_graph.proofs.store.Store.known_of_batch.Goals as goal
use Rattle.std.proofs.Common.{◌&&◌}
use Rattle.dep_recorder.specs.Recordings.{keys_in}

pub loop-dep-preserved : goal.loop-dep-preserved
loop-dep-preserved g c = λ w.
    let eq = g.U.Key.PartialEq.eq in
    let m = g.U.Universe.meaning in
    let f = known m g.U.Value.PartialEq.eq (cell_at eq m c.args.cells.now) (entry_at eq c.args.self.now) c.args.version w in
    pair_asked f c.args.batch.now c.loop-dep.dep-index c.loop-dep-item.result c.loop-dep-test.true c.loop-dep-item.is (contains c.loop-dep.left w) (contains c.in_ok-left.left w)
    (contains c.args.ranges w && list_all f (keys_in c.args.batch.now)) (c.in_ok-left.ensures w) (c.loop-dep.invariant w)

pub returns : goal.returns
returns g c = λ w.
    let eq = g.U.Key.PartialEq.eq in
    let m = g.U.Universe.meaning in
    let f = known m g.U.Value.PartialEq.eq (cell_at eq m c.args.cells.now) (entry_at eq c.args.self.now) c.args.version w in
    pairs_asked f c.args.batch.now c.loop-dep.dep-index c.loop-dep-test.false (contains c.loop-dep.left w) (contains c.args.ranges w && list_all f (keys_in c.args.batch.now)) (c.loop-dep.invariant w)
