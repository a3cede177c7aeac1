use Rattle.std.proofs.Common.{◌≡◌, ◌&&◌, not, cond, true, false, List, Some, map, is_some, sym, ap, ◌∙◌, subst, slice_get}
use Rattle.std.specs.Arc.{arc_value}
use Rattle.std.specs.Map.{values_of}
use Rattle.std.specs.Option.{option_map}
use Rattle.task_share.specs.Asked.{By, Tasked, is_by}
use Rattle.task_share.specs.Seen.{Share, task_at, is_live, asks, has_place, is_for, takes_task, KeepsOtherRoom}
use Rattle.task_share.specs.Listed.{share_of, shares_of}
use Rattle.task_share.proofs.PlaceLemmas.{lookup_shares}
use Rattle.lists.proofs.Options.{is_missing}
use Rattle.std.proofs.lemmas.Option.{same_Some}
use Rattle.task_share.proofs.TableLemmas.{put_ended_tasks, ended_asks, ended_live, ended_mirrored, ended_room}
use Rattle.task_share.proofs.NumberLemmas.{found_number}
use Rattle.task_share.proofs.table.Table.make_ended.Goals as goal

pub unreachable-requires : goal.unreachable-requires
unreachable-requires g c =
    let eq = g.K.PartialEq.eq in
    let k = arc_value c.args.key.now in
    let missing = lookup_shares (eq k) c.self.inside.places.entries ∙ ap (option_map share_of) (is_missing _ (sym c.get_index_of.ensures.found ∙ ap is_some c.in_default.is)) in
    let f : true ≡ false = sym (subst (λ (ps : List (g.row.K.Denot × Share g.row.K.Denot g.row.T.Denot)). has_place eq ps k ≡ true) (sym c.self.view_is) c.requires.room) ∙ ap (is_for takes_task) missing in
    cc

pub put_ended-waits-requires-clause-place : goal.put_ended-waits-requires-clause-place
put_ended-waits-requires-clause-place g c = λ k named. subst (λ x. has_place g.K.PartialEq.eq (shares_of c.self.inside.places.entries) x ≡ true) (same_Some (arc_value c.args.key.now) k (sym (found_number g.K.PartialEq.eq c.self.invariant.0 c.self.inside.places.entries c.args.key.now c.in-Some.at c.in-Some.ensures.index) ∙ named)) (subst (λ ps. has_place g.K.PartialEq.eq ps (arc_value c.args.key.now) ≡ true) (sym c.self.view_is) c.requires.room)

pub withdraw-requires-clause-listed : goal.withdraw-requires-clause-listed
withdraw-requires-clause-listed g c = c.put_ended-waits.ensures.listed _ _ c.self.invariant.1.listed

pub invariant_of-self : goal.invariant_of-self
invariant_of-self g c = (c.self.invariant.0, record { listed = c.withdraw.ensures.listed; mirrored = ended_mirrored g.K.PartialEq.eq c.self.invariant.0 (shares_of c.self.inside.places.entries) (shares_of c.put_ended-waits.new.places.entries) (shares_of c.withdraw.new.places.entries) (arc_value c.args.key.now) (map arc_value (values_of c.put_ended-waits.result.entries)) (c.put_ended-waits.ensures.changed.changed (arc_value c.args.key.now) (found_number g.K.PartialEq.eq c.self.invariant.0 c.self.inside.places.entries c.args.key.now c.in-Some.at c.in-Some.ensures.index)) (c.put_ended-waits.ensures.waits (arc_value c.args.key.now) (found_number g.K.PartialEq.eq c.self.invariant.0 c.self.inside.places.entries c.args.key.now c.in-Some.at c.in-Some.ensures.index)) (c.withdraw.ensures.withdrawn (arc_value c.args.key.now) (ap (λ ns. slice_get ns c.in-Some.at) c.put_ended-waits.ensures.changed.names ∙ (found_number g.K.PartialEq.eq c.self.invariant.0 c.self.inside.places.entries c.args.key.now c.in-Some.at c.in-Some.ensures.index))) c.self.invariant.1.mirrored }, c.withdraw.ensures.linked)

pub returns-clause-tasks : goal.returns-clause-tasks
returns-clause-tasks g c = subst (λ (ps : List (g.row.K.Denot × Share g.row.K.Denot g.row.T.Denot)). (q : g.row.K.Denot) → task_at g.K.PartialEq.eq (shares_of c.withdraw.new.places.entries) q ≡ cond (g.K.PartialEq.eq (arc_value c.args.key.now) q) (Some c.args.task) (task_at g.K.PartialEq.eq ps q)) c.self.view_is
    (put_ended_tasks g.K.PartialEq.eq c.self.invariant.0 (shares_of c.self.inside.places.entries) (shares_of c.put_ended-waits.new.places.entries) (shares_of c.withdraw.new.places.entries) (arc_value c.args.key.now) c.args.task (map arc_value (values_of c.put_ended-waits.result.entries)) (c.put_ended-waits.ensures.changed.changed (arc_value c.args.key.now) (found_number g.K.PartialEq.eq c.self.invariant.0 c.self.inside.places.entries c.args.key.now c.in-Some.at c.in-Some.ensures.index)) (c.put_ended-waits.ensures.waits (arc_value c.args.key.now) (found_number g.K.PartialEq.eq c.self.invariant.0 c.self.inside.places.entries c.args.key.now c.in-Some.at c.in-Some.ensures.index)) (c.withdraw.ensures.withdrawn (arc_value c.args.key.now) (ap (λ ns. slice_get ns c.in-Some.at) c.put_ended-waits.ensures.changed.names ∙ (found_number g.K.PartialEq.eq c.self.invariant.0 c.self.inside.places.entries c.args.key.now c.in-Some.at c.in-Some.ensures.index))) c.self.invariant.1.mirrored (subst (λ (ps : List (g.row.K.Denot × Share g.row.K.Denot g.row.T.Denot)). has_place g.K.PartialEq.eq ps (arc_value c.args.key.now) ≡ true) (sym c.self.view_is) c.requires.room))

pub returns-clause-live : goal.returns-clause-live
returns-clause-live g c = subst (λ (ps : List (g.row.K.Denot × Share g.row.K.Denot g.row.T.Denot)). (q : g.row.K.Denot) → is_live g.K.PartialEq.eq (shares_of c.withdraw.new.places.entries) q ≡ (is_live g.K.PartialEq.eq ps q && not (g.K.PartialEq.eq (arc_value c.args.key.now) q))) c.self.view_is
    (ended_live g.K.PartialEq.eq c.self.invariant.0 (shares_of c.self.inside.places.entries) (shares_of c.put_ended-waits.new.places.entries) (shares_of c.withdraw.new.places.entries) (arc_value c.args.key.now) (map arc_value (values_of c.put_ended-waits.result.entries)) (c.put_ended-waits.ensures.changed.changed (arc_value c.args.key.now) (found_number g.K.PartialEq.eq c.self.invariant.0 c.self.inside.places.entries c.args.key.now c.in-Some.at c.in-Some.ensures.index)) (c.put_ended-waits.ensures.waits (arc_value c.args.key.now) (found_number g.K.PartialEq.eq c.self.invariant.0 c.self.inside.places.entries c.args.key.now c.in-Some.at c.in-Some.ensures.index)) (c.withdraw.ensures.withdrawn (arc_value c.args.key.now) (ap (λ ns. slice_get ns c.in-Some.at) c.put_ended-waits.ensures.changed.names ∙ (found_number g.K.PartialEq.eq c.self.invariant.0 c.self.inside.places.entries c.args.key.now c.in-Some.at c.in-Some.ensures.index))) c.self.invariant.1.mirrored)

pub returns-clause-asks : goal.returns-clause-asks
returns-clause-asks g c = subst (λ (ps : List (g.row.K.Denot × Share g.row.K.Denot g.row.T.Denot)). (q : g.row.K.Denot) (a : By g.row.K.Denot) → asks g.K.PartialEq.eq (shares_of c.withdraw.new.places.entries) q a ≡ (asks g.K.PartialEq.eq ps q a && not (is_by g.K.PartialEq.eq (Tasked (arc_value c.args.key.now)) a))) c.self.view_is
    (ended_asks g.K.PartialEq.eq c.self.invariant.0 (shares_of c.self.inside.places.entries) (shares_of c.put_ended-waits.new.places.entries) (shares_of c.withdraw.new.places.entries) (arc_value c.args.key.now) (map arc_value (values_of c.put_ended-waits.result.entries)) (c.put_ended-waits.ensures.changed.changed (arc_value c.args.key.now) (found_number g.K.PartialEq.eq c.self.invariant.0 c.self.inside.places.entries c.args.key.now c.in-Some.at c.in-Some.ensures.index)) (c.put_ended-waits.ensures.waits (arc_value c.args.key.now) (found_number g.K.PartialEq.eq c.self.invariant.0 c.self.inside.places.entries c.args.key.now c.in-Some.at c.in-Some.ensures.index)) (c.withdraw.ensures.withdrawn (arc_value c.args.key.now) (ap (λ ns. slice_get ns c.in-Some.at) c.put_ended-waits.ensures.changed.names ∙ (found_number g.K.PartialEq.eq c.self.invariant.0 c.self.inside.places.entries c.args.key.now c.in-Some.at c.in-Some.ensures.index))) c.self.invariant.1.mirrored)

pub returns-clause-room : goal.returns-clause-room
returns-clause-room g c = subst (λ (ps : List (g.row.K.Denot × Share g.row.K.Denot g.row.T.Denot)). KeepsOtherRoom g.K.PartialEq.eq (arc_value c.args.key.now) ps (shares_of c.withdraw.new.places.entries)) c.self.view_is
    (ended_room g.K.PartialEq.eq c.self.invariant.0 (shares_of c.self.inside.places.entries) (shares_of c.put_ended-waits.new.places.entries) (shares_of c.withdraw.new.places.entries) (arc_value c.args.key.now) (map arc_value (values_of c.put_ended-waits.result.entries)) (c.put_ended-waits.ensures.changed.changed (arc_value c.args.key.now) (found_number g.K.PartialEq.eq c.self.invariant.0 c.self.inside.places.entries c.args.key.now c.in-Some.at c.in-Some.ensures.index)) (c.put_ended-waits.ensures.waits (arc_value c.args.key.now) (found_number g.K.PartialEq.eq c.self.invariant.0 c.self.inside.places.entries c.args.key.now c.in-Some.at c.in-Some.ensures.index)) (c.withdraw.ensures.withdrawn (arc_value c.args.key.now) (ap (λ ns. slice_get ns c.in-Some.at) c.put_ended-waits.ensures.changed.names ∙ (found_number g.K.PartialEq.eq c.self.invariant.0 c.self.inside.places.entries c.args.key.now c.in-Some.at c.in-Some.ensures.index))) c.self.invariant.1.mirrored)
