-- One change more is set.
use Rattle.std.proofs.Common.{◌≡◌, ◌++◌, [], ap, subst, ◌∙◌}
use Rattle.std.specs.Arc.{arc_value}
use Rattle.std.specs.Map.{lookup}
use Rattle.injected.specs.Seen.{sets_at}
use Rattle.injected.specs.Inputs.{set_if}
use Rattle.dice_model.specs.Log.{pairs_of}
use Rattle.dice_core.proofs.CommitLemmas.{IsSetting, none_left, still_below, setting_goes, setting_ends}
use Rattle.dice_core.proofs.commit.set_cells.Goals as goal

pub set-requires-after_bounds : goal.set-requires-after_bounds
set-requires-after_bounds g c κs within =
    let eq = g.U.Key.PartialEq.eq in
    let v = c.args.version in
    let s = c.args.cells.now in
    let all = pairs_of c.args.changes.items in
    let k = arc_value c.in-Some.key in
    let h = subst (IsSetting eq v s c.loop-key.cells all) (ap pairs_of c.in-Some.ensures.steps.0) c.loop-key.invariant in
    still_below eq c.laws_of.ensures.keys v s all c.requires.distinct k (arc_value c.in-Some.value) (pairs_of c.next.new.self.rest.items) c.loop-key.cells h (c.cells_in_order.ensures.below v k c.requires.rises)

pub loop-key-preserved : goal.loop-key-preserved
loop-key-preserved g c =
    let eq = g.U.Key.PartialEq.eq in
    let v = c.args.version in
    let s = c.args.cells.now in
    let all = pairs_of c.args.changes.items in
    let h = subst (IsSetting eq v s c.loop-key.cells all) (ap pairs_of c.in-Some.ensures.steps.0) c.loop-key.invariant in
    setting_goes eq c.laws_of.ensures.keys v s all c.requires.distinct (arc_value c.in-Some.key) (arc_value c.in-Some.value) (pairs_of c.next.new.self.rest.items) c.loop-key.cells h c.set.new.self
    c.requires.rises (rw c.unwrap.ensures at c.set.ensures.sets) c.set.ensures.others (rw c.unwrap.ensures at c.set.ensures.last)

pub returns-clause-are : goal.returns-clause-are
returns-clause-are g c = λ C a e.
    let eq = g.U.Key.PartialEq.eq in
    let v = c.args.version in
    let s = c.args.cells.now in
    let t = c.loop-key.cells in
    let all = pairs_of c.args.changes.items in
    let none : c.loop-key.key-iterator.rest.items ≡ [] = none_left c.loop-key.key-iterator.rest.items c.loop-key.key-iterator.rest.len c.in-None.ensures.steps.0 c.loop-key.key-iterator.rest.ok.0 in
    let h = subst (IsSetting eq v s t all) (ap pairs_of none) c.loop-key.invariant in
    let sets = (setting_ends eq c.laws_of.ensures.keys v s all t h).0 in
    c.cells_are_the_inputs.ensures.commit C all s t a (λ k. sets k ∙ ap (λ i. sets_at eq s k ++ set_if i (lookup (eq k) all)) e)
