-- The changes that differ are set, and their event is written.
use Rattle.std.proofs.Common.{◌≡◌, ◌<◌, ◌+◌, ◌++◌, ◌∷◌, [], map, length, ap, sym, subst, ◌∙◌, arith}
use Rattle.std.specs.Arc.{arc_value}
use Rattle.std.specs.Map.{keys_of}
use Rattle.std.proofs.lemmas.List.{length-map}
use Rattle.dice_model.specs.Log.{pair_of, pairs_of}
use Rattle.versioned_graph.specs.Edges.{IsCut}
use Rattle.journal.specs.declared.event.Told.TheVariants.{Commit}
use Rattle.dice_core.specs.Commits.{differs, differing_of}
use Rattle.dice_tasks.specs.Hands.{DeskSeen}
use Rattle.dice_core.proofs.CommitLaws.{distinct_left, committed, cuts_entries}
use Rattle.dice_steps.proofs.NotedLemmas.{not_empty}
use Rattle.dice_core.proofs.commit.commit_settable.Goals as goal
use Rattle.lists.specs.Lists.{AreDistinct, Has}

pub set_cells-requires-clause-distinct : goal.set_cells-requires-clause-distinct
set_cells-requires-clause-distinct g c κs within =
    let test = differs g.U.Key.PartialEq.eq g.U.Value.PartialEq.eq g.U.Universe.meaning c.args.shared.now.cells in
    let same = c.in_ok-sets.ensures ∙ (ap pairs_of c.deref-2.ensures.value ∙ c.in_ok-differing.ensures) in
    subst (λ q. AreDistinct (keys_of q)) (sym same) (distinct_left test (pairs_of c.args.changes.now) c.requires.settable.distinct)

pub returns-clause-ok : goal.returns-clause-ok
returns-clause-ok g c =
    let left = differing_of g.U.Key.PartialEq.eq g.U.Value.PartialEq.eq g.U.Universe.meaning c.args.shared.now.cells (pairs_of c.args.changes.now) in
    let ps = c.in_ok-differing.differing in
    let same = c.in_ok-sets.ensures ∙ (ap pairs_of c.deref-2.ensures.value ∙ c.in_ok-differing.ensures) in
    let more : 0 < ps.len = not_empty c.is_empty.result ps.len c.is_empty.ensures c.if-is_empty.false in
    let many : length (pairs_of ps.items) ≡ length left = ap length c.in_ok-differing.ensures in
    let some : 0 < length left = omega (arith, ps.ok.0, length-map ps.items pair_of, many, more) in
    let H = c.reserve_event.new.self.events in
    committed g.U.Key.PartialEq.eq c.args.by left (pairs_of c.in_ok-sets.sets.items) c.args.shared.now.cells c.reserve_cells.new.cells c.set_cells.new.cells c.args.shared.now.desk.events H c.push.new.self.events
    (c.last-version.result + 1) some same (ap (λ n. n + 1) c.last-version.ensures.last) c.reserve_cells.ensures.sets c.set_cells.ensures.sets c.set_cells.ensures.last c.reserve_event.ensures.same.events
    (ap (λ (d : DeskSeen g.row.U-Key.Denot g.row.U-Value.Denot). d.events) c.push.ensures ∙ ap (λ q. H ++ Commit c.args.by q ∷ []) (c.from_pairs.ensures ∙ c.in_ok-differing.ensures))

pub returns-clause-cut : goal.returns-clause-cut
returns-clause-cut g c =
    let eq = g.U.Key.PartialEq.eq in
    let m = g.U.Universe.meaning in
    let left = differing_of eq g.U.Value.PartialEq.eq m c.args.shared.now.cells (pairs_of c.args.changes.now) in
    let ps = c.in_ok-differing.differing in
    let more : 0 < ps.len = not_empty c.is_empty.result ps.len c.is_empty.ensures c.if-is_empty.false in
    let many : length (pairs_of ps.items) ≡ length left = ap length c.in_ok-differing.ensures in
    let some : 0 < length left = omega (arith, ps.ok.0, length-map ps.items pair_of, many, more) in
    let v : c.last-version.result + 1 ≡ c.args.shared.now.cells.last + 1 = ap (λ n. n + 1) c.last-version.ensures.last in
    let es = c.args.shared.now.graph in
    let fs = c.commit.new.self in
    let same : map arc_value c.deref-4.result.now ≡ keys_of left = ap (map arc_value) c.deref-4.ensures.value ∙ (c.in_ok-keys.ensures ∙ (ap (λ q. keys_of (pairs_of q)) c.deref.ensures.value ∙ ap keys_of c.in_ok-differing.ensures)) in
    cuts_entries eq m left (c.args.shared.now.cells.last + 1) es fs some (
      subst (λ ks. IsCut eq es ks (c.args.shared.now.cells.last + 1) fs) same (subst (λ n. IsCut eq es (map arc_value c.deref-4.result.now) n fs) v c.in_ok-commit.ensures.cut),
      (λ C d n covers t. c.in_ok-commit.ensures.kept C d (v ∙ n) (λ k h. subst (λ ks. Has ks k) (sym same) (covers k h)) t),
    )
