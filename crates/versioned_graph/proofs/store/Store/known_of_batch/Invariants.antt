use Rattle.std.proofs.Common.{◌≡◌, ℕ, ◌&&◌, drop}
use Rattle.std.specs.List.{list_all}
use Rattle.version_ranges.specs.Members.{contains}
use Rattle.injected.specs.Seen.{cell_at}
use Rattle.dep_recorder.specs.Recordings.{keys_in}
use Rattle.versioned_graph.specs.Entries.{entry_at, known}
use Rattle.versioned_graph.proofs.store.Store.known_of_batch.Given as goal

-- what is left, narrowed down by the pairs that are left, is what the whole batch leaves
abbrev pub invariant-loop-dep : goal.invariant-loop-dep
invariant-loop-dep g l =
    let eq = g.U.Key.PartialEq.eq in
    let m = g.U.Universe.meaning in
    (w : ℕ)
    → (contains l.left w && list_all (known m g.U.Value.PartialEq.eq (cell_at eq m l.cells) (entry_at eq l.self) l.version w) (keys_in (drop l.dep-index l.batch)))
    ≡ (contains l.fn.ranges w && list_all (known m g.U.Value.PartialEq.eq (cell_at eq m l.cells) (entry_at eq l.self) l.version w) (keys_in l.batch))
