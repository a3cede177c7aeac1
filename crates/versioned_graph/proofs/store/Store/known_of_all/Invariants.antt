use Rattle.std.proofs.Common.{◌≡◌, ℕ, ◌&&◌, drop}
use Rattle.version_ranges.specs.Members.{contains}
use Rattle.injected.specs.Seen.{cell_at}
use Rattle.versioned_graph.specs.Entries.{entry_at, known, all_of}
use Rattle.versioned_graph.proofs.store.Store.known_of_all.Given as goal

-- what is left, narrowed down by the batches that are left, is what the whole trace leaves
abbrev pub invariant-loop-i : goal.invariant-loop-i
invariant-loop-i g l =
    let eq = g.U.Key.PartialEq.eq in
    let m = g.U.Universe.meaning in
    (w : ℕ)
    → (contains l.ranges w && all_of (known m g.U.Value.PartialEq.eq (cell_at eq m l.cells) (entry_at eq l.self) l.version w) (drop l.i l.trace))
    ≡ all_of (known m g.U.Value.PartialEq.eq (cell_at eq m l.cells) (entry_at eq l.self) l.version w) l.trace
