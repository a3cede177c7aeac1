-- The last set names the value.
use Rattle.std.proofs.Common.{◌≡◌, ◌-◌, ◌<◌, ◌∙◌, ap, sym, subst, length, get_or, slice_get, Some, arith}
use Rattle.std.specs.Arc.{arc_value}
use Rattle.injected.specs.History.{newest_of}
use Rattle.injected.proofs.Numbered.{numbered_at, newest_of_last}
use Rattle.injected.proofs.sets.Sets.newest.Goals as goal

pub index-requires-2 : goal.index-requires-2
index-requires-2 g c =
    let ss = c.self.inside.sets.items in
    let d = c.index.result.now in
    subst (λ s. s.1 < length c.self.inside.values.keys) (sym c.index.ensures) (numbered_at c.self.inside.values.keys ss c.self.invariant.named (c.len-count.result - 1) d (omega arith))

pub returns : goal.returns
returns g c =
    let xs = c.self.inside.values.keys in
    let ss = c.self.inside.sets.items in
    let a = arc_value c.args.absent.now in
    let d = c.index.result.now in
    let size : c.len-count.result ≡ length ss = omega arith in
    let named : slice_get xs (get_or ss (length ss - 1) d).1 ≡ Some c.index-2.result.now = subst (λ s. slice_get xs s.1 ≡ Some c.index-2.result.now) (c.index.ensures ∙ ap (λ n. get_or ss (n - 1) d) size) c.index-2.ensures in
    newest_of_last xs a ss d c.index-2.result.now c.self.invariant.named (omega arith) named ∙ ap (λ s. newest_of a s.sets) c.self.view_is
