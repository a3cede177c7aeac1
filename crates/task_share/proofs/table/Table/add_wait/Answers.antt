use Rattle.std.proofs.Common.{◌≡◌, ◌≤◌, ◌<◌, ◌+◌, ◌⊎◌, ◌&&◌, ◌||◌, cond, true, List, is_some, sym, ap, ◌∙◌, subst, slice_get}
use Rattle.std.specs.Arc.{arc_value}
use Rattle.std.specs.List.{list_any}
use Rattle.std.specs.Option.{option_map}
use Rattle.task_share.specs.Asked.{By, Tasked, is_by}
use Rattle.task_share.specs.Seen.{Share, asks, waits_at, ask_count, asker_room, wait_room, room_in, KeepsTasks, UsesRoomOf}
use Rattle.task_share.specs.Listed.{share_of, shares_of}
use Rattle.task_share.proofs.PlaceLemmas.{lookup_shares}
use Rattle.lists.proofs.Options.{is_missing}
use Rattle.std.proofs.lemmas.Option.{same_Some}
use Rattle.task_share.proofs.TableLemmas.{wait_space, task_joined_asks, task_joined_tasks, task_joined_mirrored, task_joined_room, task_joined_count, asked_there, asking_there}
use Rattle.task_share.proofs.NumberLemmas.{found_number}
use Rattle.task_share.proofs.table.Table.add_wait.Goals as goal

pub add_asker-requires-clause-room : goal.add_asker-requires-clause-room
add_asker-requires-clause-room g c = λ q e.
    let p = c.into_parts-key.ensures in
    let k = arc_value c.into_parts-key.result.0 in
    let j = arc_value c.into_parts-key.result.1 in
    let here : (asks g.K.PartialEq.eq (shares_of c.self.inside.places.entries) k (Tasked j) ≡ true) ⊎ (0 < asker_room g.K.PartialEq.eq (shares_of c.self.inside.places.entries) k) = subst (λ (ps : List (g.row.K.Denot × Share g.row.K.Denot g.row.T.Denot)). (asks g.K.PartialEq.eq ps k (Tasked j) ≡ true) ⊎ (0 < asker_room g.K.PartialEq.eq ps k)) (sym c.self.view_is)
    (subst (λ x. (asks g.K.PartialEq.eq c.args.self.now x (Tasked j) ≡ true) ⊎ (0 < asker_room g.K.PartialEq.eq c.args.self.now x)) (sym p.0) (subst (λ x. (asks g.K.PartialEq.eq c.args.self.now c.args.wait.key (Tasked x) ≡ true) ⊎ (0 < asker_room g.K.PartialEq.eq c.args.self.now c.args.wait.key)) (sym p.1) c.requires.asker)) in
    let there : (asks g.K.PartialEq.eq (shares_of c.self.inside.places.entries) k (Tasked j) ≡ true) ⊎ (0 < wait_room g.K.PartialEq.eq (shares_of c.self.inside.places.entries) j) = subst (λ (ps : List (g.row.K.Denot × Share g.row.K.Denot g.row.T.Denot)). (asks g.K.PartialEq.eq ps k (Tasked j) ≡ true) ⊎ (0 < wait_room g.K.PartialEq.eq ps j)) (sym c.self.view_is)
    (subst (λ x. (asks g.K.PartialEq.eq c.args.self.now x (Tasked j) ≡ true) ⊎ (0 < wait_room g.K.PartialEq.eq c.args.self.now j)) (sym p.0) (subst (λ x. (asks g.K.PartialEq.eq c.args.self.now c.args.wait.key (Tasked x) ≡ true) ⊎ (0 < wait_room g.K.PartialEq.eq c.args.self.now x)) (sym p.1) c.requires.wait)) in
    subst (λ x. (asks g.K.PartialEq.eq (shares_of c.self.inside.places.entries) x (Tasked j) ≡ true) ⊎ (0 < asker_room g.K.PartialEq.eq (shares_of c.self.inside.places.entries) x)) (same_Some k q (sym (found_number g.K.PartialEq.eq c.self.invariant.0 c.self.inside.places.entries c.into_parts-key.result.0 c.in-Some.at c.in-Some.ensures.index) ∙ e)) here

pub add_wait-requires-clause-room : goal.add_wait-requires-clause-room
add_wait-requires-clause-room g c = λ q e.
    let p = c.into_parts-key.ensures in
    let k = arc_value c.into_parts-key.result.0 in
    let j = arc_value c.into_parts-key.result.1 in
    let here : (asks g.K.PartialEq.eq (shares_of c.self.inside.places.entries) k (Tasked j) ≡ true) ⊎ (0 < asker_room g.K.PartialEq.eq (shares_of c.self.inside.places.entries) k) = subst (λ (ps : List (g.row.K.Denot × Share g.row.K.Denot g.row.T.Denot)). (asks g.K.PartialEq.eq ps k (Tasked j) ≡ true) ⊎ (0 < asker_room g.K.PartialEq.eq ps k)) (sym c.self.view_is)
    (subst (λ x. (asks g.K.PartialEq.eq c.args.self.now x (Tasked j) ≡ true) ⊎ (0 < asker_room g.K.PartialEq.eq c.args.self.now x)) (sym p.0) (subst (λ x. (asks g.K.PartialEq.eq c.args.self.now c.args.wait.key (Tasked x) ≡ true) ⊎ (0 < asker_room g.K.PartialEq.eq c.args.self.now c.args.wait.key)) (sym p.1) c.requires.asker)) in
    let there : (asks g.K.PartialEq.eq (shares_of c.self.inside.places.entries) k (Tasked j) ≡ true) ⊎ (0 < wait_room g.K.PartialEq.eq (shares_of c.self.inside.places.entries) j) = subst (λ (ps : List (g.row.K.Denot × Share g.row.K.Denot g.row.T.Denot)). (asks g.K.PartialEq.eq ps k (Tasked j) ≡ true) ⊎ (0 < wait_room g.K.PartialEq.eq ps j)) (sym c.self.view_is)
    (subst (λ x. (asks g.K.PartialEq.eq c.args.self.now x (Tasked j) ≡ true) ⊎ (0 < wait_room g.K.PartialEq.eq c.args.self.now j)) (sym p.0) (subst (λ x. (asks g.K.PartialEq.eq c.args.self.now c.args.wait.key (Tasked x) ≡ true) ⊎ (0 < wait_room g.K.PartialEq.eq c.args.self.now x)) (sym p.1) c.requires.wait)) in
    let space = wait_space g.K.PartialEq.eq c.self.invariant.0 (shares_of c.self.inside.places.entries) (shares_of c.add_asker.new.places.entries) k j (c.add_asker.ensures.changed.changed k (found_number g.K.PartialEq.eq c.self.invariant.0 c.self.inside.places.entries c.into_parts-key.result.0 c.in-Some.at c.in-Some.ensures.index)) here c.self.invariant.1.mirrored there in
    subst (λ x. (list_any (g.K.PartialEq.eq k) (waits_at g.K.PartialEq.eq (shares_of c.add_asker.new.places.entries) x) ≡ true) ⊎ (0 < wait_room g.K.PartialEq.eq (shares_of c.add_asker.new.places.entries) x)) (same_Some j q (sym (ap (λ ns. slice_get ns c.in-Some-get_index_of.from) c.add_asker.ensures.changed.names ∙ (found_number g.K.PartialEq.eq c.self.invariant.0 c.self.inside.places.entries c.into_parts-key.result.1 c.in-Some-get_index_of.from c.in-Some-get_index_of.ensures.index)) ∙ e)) space

pub invariant_of-self : goal.invariant_of-self
invariant_of-self g c =
    let p = c.into_parts-key.ensures in
    let k = arc_value c.into_parts-key.result.0 in
    let j = arc_value c.into_parts-key.result.1 in
    let here : (asks g.K.PartialEq.eq (shares_of c.self.inside.places.entries) k (Tasked j) ≡ true) ⊎ (0 < asker_room g.K.PartialEq.eq (shares_of c.self.inside.places.entries) k) = subst (λ (ps : List (g.row.K.Denot × Share g.row.K.Denot g.row.T.Denot)). (asks g.K.PartialEq.eq ps k (Tasked j) ≡ true) ⊎ (0 < asker_room g.K.PartialEq.eq ps k)) (sym c.self.view_is)
    (subst (λ x. (asks g.K.PartialEq.eq c.args.self.now x (Tasked j) ≡ true) ⊎ (0 < asker_room g.K.PartialEq.eq c.args.self.now x)) (sym p.0) (subst (λ x. (asks g.K.PartialEq.eq c.args.self.now c.args.wait.key (Tasked x) ≡ true) ⊎ (0 < asker_room g.K.PartialEq.eq c.args.self.now c.args.wait.key)) (sym p.1) c.requires.asker)) in
    let there : (asks g.K.PartialEq.eq (shares_of c.self.inside.places.entries) k (Tasked j) ≡ true) ⊎ (0 < wait_room g.K.PartialEq.eq (shares_of c.self.inside.places.entries) j) = subst (λ (ps : List (g.row.K.Denot × Share g.row.K.Denot g.row.T.Denot)). (asks g.K.PartialEq.eq ps k (Tasked j) ≡ true) ⊎ (0 < wait_room g.K.PartialEq.eq ps j)) (sym c.self.view_is)
    (subst (λ x. (asks g.K.PartialEq.eq c.args.self.now x (Tasked j) ≡ true) ⊎ (0 < wait_room g.K.PartialEq.eq c.args.self.now j)) (sym p.0) (subst (λ x. (asks g.K.PartialEq.eq c.args.self.now c.args.wait.key (Tasked x) ≡ true) ⊎ (0 < wait_room g.K.PartialEq.eq c.args.self.now x)) (sym p.1) c.requires.wait)) in
    let space = wait_space g.K.PartialEq.eq c.self.invariant.0 (shares_of c.self.inside.places.entries) (shares_of c.add_asker.new.places.entries) k j (c.add_asker.ensures.changed.changed k (found_number g.K.PartialEq.eq c.self.invariant.0 c.self.inside.places.entries c.into_parts-key.result.0 c.in-Some.at c.in-Some.ensures.index)) here c.self.invariant.1.mirrored there in
    let w = c.add_wait.ensures.changed.changed j (ap (λ ns. slice_get ns c.in-Some-get_index_of.from) c.add_asker.ensures.changed.names ∙ (found_number g.K.PartialEq.eq c.self.invariant.0 c.self.inside.places.entries c.into_parts-key.result.1 c.in-Some-get_index_of.from c.in-Some-get_index_of.ensures.index)) in
    (c.self.invariant.0, record { listed = c.add_wait.ensures.listed _ _ (c.add_asker.ensures.listed _ _ c.self.invariant.1.listed); mirrored = task_joined_mirrored g.K.PartialEq.eq c.self.invariant.0 (shares_of c.self.inside.places.entries) (shares_of c.add_asker.new.places.entries) k j (c.add_asker.ensures.changed.changed k (found_number g.K.PartialEq.eq c.self.invariant.0 c.self.inside.places.entries c.into_parts-key.result.0 c.in-Some.at c.in-Some.ensures.index)) here (shares_of c.add_wait.new.places.entries) w space c.self.invariant.1.mirrored }, c.add_wait.ensures.changed.linked)

pub returns-clause-tasks : goal.returns-clause-tasks
returns-clause-tasks g c =
    let p = c.into_parts-key.ensures in
    let k = arc_value c.into_parts-key.result.0 in
    let j = arc_value c.into_parts-key.result.1 in
    let here : (asks g.K.PartialEq.eq (shares_of c.self.inside.places.entries) k (Tasked j) ≡ true) ⊎ (0 < asker_room g.K.PartialEq.eq (shares_of c.self.inside.places.entries) k) = subst (λ (ps : List (g.row.K.Denot × Share g.row.K.Denot g.row.T.Denot)). (asks g.K.PartialEq.eq ps k (Tasked j) ≡ true) ⊎ (0 < asker_room g.K.PartialEq.eq ps k)) (sym c.self.view_is)
    (subst (λ x. (asks g.K.PartialEq.eq c.args.self.now x (Tasked j) ≡ true) ⊎ (0 < asker_room g.K.PartialEq.eq c.args.self.now x)) (sym p.0) (subst (λ x. (asks g.K.PartialEq.eq c.args.self.now c.args.wait.key (Tasked x) ≡ true) ⊎ (0 < asker_room g.K.PartialEq.eq c.args.self.now c.args.wait.key)) (sym p.1) c.requires.asker)) in
    let there : (asks g.K.PartialEq.eq (shares_of c.self.inside.places.entries) k (Tasked j) ≡ true) ⊎ (0 < wait_room g.K.PartialEq.eq (shares_of c.self.inside.places.entries) j) = subst (λ (ps : List (g.row.K.Denot × Share g.row.K.Denot g.row.T.Denot)). (asks g.K.PartialEq.eq ps k (Tasked j) ≡ true) ⊎ (0 < wait_room g.K.PartialEq.eq ps j)) (sym c.self.view_is)
    (subst (λ x. (asks g.K.PartialEq.eq c.args.self.now x (Tasked j) ≡ true) ⊎ (0 < wait_room g.K.PartialEq.eq c.args.self.now j)) (sym p.0) (subst (λ x. (asks g.K.PartialEq.eq c.args.self.now c.args.wait.key (Tasked x) ≡ true) ⊎ (0 < wait_room g.K.PartialEq.eq c.args.self.now x)) (sym p.1) c.requires.wait)) in
    let space = wait_space g.K.PartialEq.eq c.self.invariant.0 (shares_of c.self.inside.places.entries) (shares_of c.add_asker.new.places.entries) k j (c.add_asker.ensures.changed.changed k (found_number g.K.PartialEq.eq c.self.invariant.0 c.self.inside.places.entries c.into_parts-key.result.0 c.in-Some.at c.in-Some.ensures.index)) here c.self.invariant.1.mirrored there in
    let w = c.add_wait.ensures.changed.changed j (ap (λ ns. slice_get ns c.in-Some-get_index_of.from) c.add_asker.ensures.changed.names ∙ (found_number g.K.PartialEq.eq c.self.invariant.0 c.self.inside.places.entries c.into_parts-key.result.1 c.in-Some-get_index_of.from c.in-Some-get_index_of.ensures.index)) in
    subst (λ (ps : List (g.row.K.Denot × Share g.row.K.Denot g.row.T.Denot)). KeepsTasks g.K.PartialEq.eq ps (shares_of c.add_wait.new.places.entries)) c.self.view_is
    (task_joined_tasks g.K.PartialEq.eq c.self.invariant.0 (shares_of c.self.inside.places.entries) (shares_of c.add_asker.new.places.entries) k j (c.add_asker.ensures.changed.changed k (found_number g.K.PartialEq.eq c.self.invariant.0 c.self.inside.places.entries c.into_parts-key.result.0 c.in-Some.at c.in-Some.ensures.index)) here (shares_of c.add_wait.new.places.entries) w space)

pub returns-clause-asks : goal.returns-clause-asks
returns-clause-asks g c =
    let p = c.into_parts-key.ensures in
    let k = arc_value c.into_parts-key.result.0 in
    let j = arc_value c.into_parts-key.result.1 in
    let here : (asks g.K.PartialEq.eq (shares_of c.self.inside.places.entries) k (Tasked j) ≡ true) ⊎ (0 < asker_room g.K.PartialEq.eq (shares_of c.self.inside.places.entries) k) = subst (λ (ps : List (g.row.K.Denot × Share g.row.K.Denot g.row.T.Denot)). (asks g.K.PartialEq.eq ps k (Tasked j) ≡ true) ⊎ (0 < asker_room g.K.PartialEq.eq ps k)) (sym c.self.view_is)
    (subst (λ x. (asks g.K.PartialEq.eq c.args.self.now x (Tasked j) ≡ true) ⊎ (0 < asker_room g.K.PartialEq.eq c.args.self.now x)) (sym p.0) (subst (λ x. (asks g.K.PartialEq.eq c.args.self.now c.args.wait.key (Tasked x) ≡ true) ⊎ (0 < asker_room g.K.PartialEq.eq c.args.self.now c.args.wait.key)) (sym p.1) c.requires.asker)) in
    let there : (asks g.K.PartialEq.eq (shares_of c.self.inside.places.entries) k (Tasked j) ≡ true) ⊎ (0 < wait_room g.K.PartialEq.eq (shares_of c.self.inside.places.entries) j) = subst (λ (ps : List (g.row.K.Denot × Share g.row.K.Denot g.row.T.Denot)). (asks g.K.PartialEq.eq ps k (Tasked j) ≡ true) ⊎ (0 < wait_room g.K.PartialEq.eq ps j)) (sym c.self.view_is)
    (subst (λ x. (asks g.K.PartialEq.eq c.args.self.now x (Tasked j) ≡ true) ⊎ (0 < wait_room g.K.PartialEq.eq c.args.self.now j)) (sym p.0) (subst (λ x. (asks g.K.PartialEq.eq c.args.self.now c.args.wait.key (Tasked x) ≡ true) ⊎ (0 < wait_room g.K.PartialEq.eq c.args.self.now x)) (sym p.1) c.requires.wait)) in
    let space = wait_space g.K.PartialEq.eq c.self.invariant.0 (shares_of c.self.inside.places.entries) (shares_of c.add_asker.new.places.entries) k j (c.add_asker.ensures.changed.changed k (found_number g.K.PartialEq.eq c.self.invariant.0 c.self.inside.places.entries c.into_parts-key.result.0 c.in-Some.at c.in-Some.ensures.index)) here c.self.invariant.1.mirrored there in
    let w = c.add_wait.ensures.changed.changed j (ap (λ ns. slice_get ns c.in-Some-get_index_of.from) c.add_asker.ensures.changed.names ∙ (found_number g.K.PartialEq.eq c.self.invariant.0 c.self.inside.places.entries c.into_parts-key.result.1 c.in-Some-get_index_of.from c.in-Some-get_index_of.ensures.index)) in
    subst (λ x. (q : g.row.K.Denot) (a : By g.row.K.Denot) → asks g.K.PartialEq.eq (shares_of c.add_wait.new.places.entries) q a ≡ (asks g.K.PartialEq.eq c.args.self.now q a || (g.K.PartialEq.eq x q && is_by g.K.PartialEq.eq (Tasked c.args.wait.asker) a))) p.0 (subst (λ y. (q : g.row.K.Denot) (a : By g.row.K.Denot) → asks g.K.PartialEq.eq (shares_of c.add_wait.new.places.entries) q a ≡ (asks g.K.PartialEq.eq c.args.self.now q a || (g.K.PartialEq.eq k q && is_by g.K.PartialEq.eq (Tasked y) a))) p.1
    (subst (λ (ps : List (g.row.K.Denot × Share g.row.K.Denot g.row.T.Denot)). (q : g.row.K.Denot) (a : By g.row.K.Denot) → asks g.K.PartialEq.eq (shares_of c.add_wait.new.places.entries) q a ≡ (asks g.K.PartialEq.eq ps q a || (g.K.PartialEq.eq k q && is_by g.K.PartialEq.eq (Tasked j) a))) c.self.view_is
    (task_joined_asks g.K.PartialEq.eq c.self.invariant.0 (shares_of c.self.inside.places.entries) (shares_of c.add_asker.new.places.entries) k j (c.add_asker.ensures.changed.changed k (found_number g.K.PartialEq.eq c.self.invariant.0 c.self.inside.places.entries c.into_parts-key.result.0 c.in-Some.at c.in-Some.ensures.index)) here (shares_of c.add_wait.new.places.entries) w space)))

pub returns-clause-room : goal.returns-clause-room
returns-clause-room g c =
    let p = c.into_parts-key.ensures in
    let k = arc_value c.into_parts-key.result.0 in
    let j = arc_value c.into_parts-key.result.1 in
    let here : (asks g.K.PartialEq.eq (shares_of c.self.inside.places.entries) k (Tasked j) ≡ true) ⊎ (0 < asker_room g.K.PartialEq.eq (shares_of c.self.inside.places.entries) k) = subst (λ (ps : List (g.row.K.Denot × Share g.row.K.Denot g.row.T.Denot)). (asks g.K.PartialEq.eq ps k (Tasked j) ≡ true) ⊎ (0 < asker_room g.K.PartialEq.eq ps k)) (sym c.self.view_is)
    (subst (λ x. (asks g.K.PartialEq.eq c.args.self.now x (Tasked j) ≡ true) ⊎ (0 < asker_room g.K.PartialEq.eq c.args.self.now x)) (sym p.0) (subst (λ x. (asks g.K.PartialEq.eq c.args.self.now c.args.wait.key (Tasked x) ≡ true) ⊎ (0 < asker_room g.K.PartialEq.eq c.args.self.now c.args.wait.key)) (sym p.1) c.requires.asker)) in
    let there : (asks g.K.PartialEq.eq (shares_of c.self.inside.places.entries) k (Tasked j) ≡ true) ⊎ (0 < wait_room g.K.PartialEq.eq (shares_of c.self.inside.places.entries) j) = subst (λ (ps : List (g.row.K.Denot × Share g.row.K.Denot g.row.T.Denot)). (asks g.K.PartialEq.eq ps k (Tasked j) ≡ true) ⊎ (0 < wait_room g.K.PartialEq.eq ps j)) (sym c.self.view_is)
    (subst (λ x. (asks g.K.PartialEq.eq c.args.self.now x (Tasked j) ≡ true) ⊎ (0 < wait_room g.K.PartialEq.eq c.args.self.now j)) (sym p.0) (subst (λ x. (asks g.K.PartialEq.eq c.args.self.now c.args.wait.key (Tasked x) ≡ true) ⊎ (0 < wait_room g.K.PartialEq.eq c.args.self.now x)) (sym p.1) c.requires.wait)) in
    let space = wait_space g.K.PartialEq.eq c.self.invariant.0 (shares_of c.self.inside.places.entries) (shares_of c.add_asker.new.places.entries) k j (c.add_asker.ensures.changed.changed k (found_number g.K.PartialEq.eq c.self.invariant.0 c.self.inside.places.entries c.into_parts-key.result.0 c.in-Some.at c.in-Some.ensures.index)) here c.self.invariant.1.mirrored there in
    let w = c.add_wait.ensures.changed.changed j (ap (λ ns. slice_get ns c.in-Some-get_index_of.from) c.add_asker.ensures.changed.names ∙ (found_number g.K.PartialEq.eq c.self.invariant.0 c.self.inside.places.entries c.into_parts-key.result.1 c.in-Some-get_index_of.from c.in-Some-get_index_of.ensures.index)) in
    subst (λ x. UsesRoomOf g.K.PartialEq.eq (λ q. 0) (λ q. cond (g.K.PartialEq.eq x q) 1 0) (λ q. cond (g.K.PartialEq.eq c.args.wait.asker q) 1 0) c.args.self.now (shares_of c.add_wait.new.places.entries)) p.0 (subst (λ y. UsesRoomOf g.K.PartialEq.eq (λ q. 0) (λ q. cond (g.K.PartialEq.eq k q) 1 0) (λ q. cond (g.K.PartialEq.eq y q) 1 0) c.args.self.now (shares_of c.add_wait.new.places.entries)) p.1
    (subst (λ (ps : List (g.row.K.Denot × Share g.row.K.Denot g.row.T.Denot)). UsesRoomOf g.K.PartialEq.eq (λ q. 0) (λ q. cond (g.K.PartialEq.eq k q) 1 0) (λ q. cond (g.K.PartialEq.eq j q) 1 0) ps (shares_of c.add_wait.new.places.entries)) c.self.view_is
    (task_joined_room g.K.PartialEq.eq c.self.invariant.0 (shares_of c.self.inside.places.entries) (shares_of c.add_asker.new.places.entries) k j (c.add_asker.ensures.changed.changed k (found_number g.K.PartialEq.eq c.self.invariant.0 c.self.inside.places.entries c.into_parts-key.result.0 c.in-Some.at c.in-Some.ensures.index)) here (shares_of c.add_wait.new.places.entries) w space)))

pub returns-clause-count : goal.returns-clause-count
returns-clause-count g c =
    let p = c.into_parts-key.ensures in
    let k = arc_value c.into_parts-key.result.0 in
    let j = arc_value c.into_parts-key.result.1 in
    let here : (asks g.K.PartialEq.eq (shares_of c.self.inside.places.entries) k (Tasked j) ≡ true) ⊎ (0 < asker_room g.K.PartialEq.eq (shares_of c.self.inside.places.entries) k) = subst (λ (ps : List (g.row.K.Denot × Share g.row.K.Denot g.row.T.Denot)). (asks g.K.PartialEq.eq ps k (Tasked j) ≡ true) ⊎ (0 < asker_room g.K.PartialEq.eq ps k)) (sym c.self.view_is)
    (subst (λ x. (asks g.K.PartialEq.eq c.args.self.now x (Tasked j) ≡ true) ⊎ (0 < asker_room g.K.PartialEq.eq c.args.self.now x)) (sym p.0) (subst (λ x. (asks g.K.PartialEq.eq c.args.self.now c.args.wait.key (Tasked x) ≡ true) ⊎ (0 < asker_room g.K.PartialEq.eq c.args.self.now c.args.wait.key)) (sym p.1) c.requires.asker)) in
    let there : (asks g.K.PartialEq.eq (shares_of c.self.inside.places.entries) k (Tasked j) ≡ true) ⊎ (0 < wait_room g.K.PartialEq.eq (shares_of c.self.inside.places.entries) j) = subst (λ (ps : List (g.row.K.Denot × Share g.row.K.Denot g.row.T.Denot)). (asks g.K.PartialEq.eq ps k (Tasked j) ≡ true) ⊎ (0 < wait_room g.K.PartialEq.eq ps j)) (sym c.self.view_is)
    (subst (λ x. (asks g.K.PartialEq.eq c.args.self.now x (Tasked j) ≡ true) ⊎ (0 < wait_room g.K.PartialEq.eq c.args.self.now j)) (sym p.0) (subst (λ x. (asks g.K.PartialEq.eq c.args.self.now c.args.wait.key (Tasked x) ≡ true) ⊎ (0 < wait_room g.K.PartialEq.eq c.args.self.now x)) (sym p.1) c.requires.wait)) in
    let space = wait_space g.K.PartialEq.eq c.self.invariant.0 (shares_of c.self.inside.places.entries) (shares_of c.add_asker.new.places.entries) k j (c.add_asker.ensures.changed.changed k (found_number g.K.PartialEq.eq c.self.invariant.0 c.self.inside.places.entries c.into_parts-key.result.0 c.in-Some.at c.in-Some.ensures.index)) here c.self.invariant.1.mirrored there in
    let w = c.add_wait.ensures.changed.changed j (ap (λ ns. slice_get ns c.in-Some-get_index_of.from) c.add_asker.ensures.changed.names ∙ (found_number g.K.PartialEq.eq c.self.invariant.0 c.self.inside.places.entries c.into_parts-key.result.1 c.in-Some-get_index_of.from c.in-Some-get_index_of.ensures.index)) in
    subst (λ (ps : List (g.row.K.Denot × Share g.row.K.Denot g.row.T.Denot)). ask_count (shares_of c.add_wait.new.places.entries) ≤ ask_count ps + 1) c.self.view_is
    (task_joined_count g.K.PartialEq.eq c.self.invariant.0 (shares_of c.self.inside.places.entries) (shares_of c.add_asker.new.places.entries) k j (c.add_asker.ensures.changed.changed k (found_number g.K.PartialEq.eq c.self.invariant.0 c.self.inside.places.entries c.into_parts-key.result.0 c.in-Some.at c.in-Some.ensures.index)) here (shares_of c.add_wait.new.places.entries) w space)

pub unreachable-requires : goal.unreachable-requires
unreachable-requires g c =
    let p = c.into_parts-key.ensures in
    let k = arc_value c.into_parts-key.result.0 in
    let j = arc_value c.into_parts-key.result.1 in
    let here : (asks g.K.PartialEq.eq (shares_of c.self.inside.places.entries) k (Tasked j) ≡ true) ⊎ (0 < asker_room g.K.PartialEq.eq (shares_of c.self.inside.places.entries) k) = subst (λ (ps : List (g.row.K.Denot × Share g.row.K.Denot g.row.T.Denot)). (asks g.K.PartialEq.eq ps k (Tasked j) ≡ true) ⊎ (0 < asker_room g.K.PartialEq.eq ps k)) (sym c.self.view_is)
    (subst (λ x. (asks g.K.PartialEq.eq c.args.self.now x (Tasked j) ≡ true) ⊎ (0 < asker_room g.K.PartialEq.eq c.args.self.now x)) (sym p.0) (subst (λ x. (asks g.K.PartialEq.eq c.args.self.now c.args.wait.key (Tasked x) ≡ true) ⊎ (0 < asker_room g.K.PartialEq.eq c.args.self.now c.args.wait.key)) (sym p.1) c.requires.asker)) in
    let there : (asks g.K.PartialEq.eq (shares_of c.self.inside.places.entries) k (Tasked j) ≡ true) ⊎ (0 < wait_room g.K.PartialEq.eq (shares_of c.self.inside.places.entries) j) = subst (λ (ps : List (g.row.K.Denot × Share g.row.K.Denot g.row.T.Denot)). (asks g.K.PartialEq.eq ps k (Tasked j) ≡ true) ⊎ (0 < wait_room g.K.PartialEq.eq ps j)) (sym c.self.view_is)
    (subst (λ x. (asks g.K.PartialEq.eq c.args.self.now x (Tasked j) ≡ true) ⊎ (0 < wait_room g.K.PartialEq.eq c.args.self.now j)) (sym p.0) (subst (λ x. (asks g.K.PartialEq.eq c.args.self.now c.args.wait.key (Tasked x) ≡ true) ⊎ (0 < wait_room g.K.PartialEq.eq c.args.self.now x)) (sym p.1) c.requires.wait)) in
    absurd (asked_there g.K.PartialEq.eq c.self.invariant.0 (shares_of c.self.inside.places.entries) k (lookup_shares (g.K.PartialEq.eq (arc_value c.into_parts-key.result.0)) c.self.inside.places.entries ∙ ap (option_map share_of) (is_missing _ (sym c.get_index_of.ensures.found ∙ ap is_some c.in_default.is))) (Tasked j) (room_in (λ (p : Share g.row.K.Denot g.row.T.Denot). p.asker_room)) here)

pub unreachable-requires-in_default-get_index_of : goal.unreachable-requires-in_default-get_index_of
unreachable-requires-in_default-get_index_of g c =
    let p = c.into_parts-key.ensures in
    let k = arc_value c.into_parts-key.result.0 in
    let j = arc_value c.into_parts-key.result.1 in
    let here : (asks g.K.PartialEq.eq (shares_of c.self.inside.places.entries) k (Tasked j) ≡ true) ⊎ (0 < asker_room g.K.PartialEq.eq (shares_of c.self.inside.places.entries) k) = subst (λ (ps : List (g.row.K.Denot × Share g.row.K.Denot g.row.T.Denot)). (asks g.K.PartialEq.eq ps k (Tasked j) ≡ true) ⊎ (0 < asker_room g.K.PartialEq.eq ps k)) (sym c.self.view_is)
    (subst (λ x. (asks g.K.PartialEq.eq c.args.self.now x (Tasked j) ≡ true) ⊎ (0 < asker_room g.K.PartialEq.eq c.args.self.now x)) (sym p.0) (subst (λ x. (asks g.K.PartialEq.eq c.args.self.now c.args.wait.key (Tasked x) ≡ true) ⊎ (0 < asker_room g.K.PartialEq.eq c.args.self.now c.args.wait.key)) (sym p.1) c.requires.asker)) in
    let there : (asks g.K.PartialEq.eq (shares_of c.self.inside.places.entries) k (Tasked j) ≡ true) ⊎ (0 < wait_room g.K.PartialEq.eq (shares_of c.self.inside.places.entries) j) = subst (λ (ps : List (g.row.K.Denot × Share g.row.K.Denot g.row.T.Denot)). (asks g.K.PartialEq.eq ps k (Tasked j) ≡ true) ⊎ (0 < wait_room g.K.PartialEq.eq ps j)) (sym c.self.view_is)
    (subst (λ x. (asks g.K.PartialEq.eq c.args.self.now x (Tasked j) ≡ true) ⊎ (0 < wait_room g.K.PartialEq.eq c.args.self.now j)) (sym p.0) (subst (λ x. (asks g.K.PartialEq.eq c.args.self.now c.args.wait.key (Tasked x) ≡ true) ⊎ (0 < wait_room g.K.PartialEq.eq c.args.self.now x)) (sym p.1) c.requires.wait)) in
    absurd (asking_there g.K.PartialEq.eq c.self.invariant.0 (shares_of c.self.inside.places.entries) j (lookup_shares (g.K.PartialEq.eq (arc_value c.into_parts-key.result.1)) c.self.inside.places.entries ∙ ap (option_map share_of) (is_missing _ (sym c.get_index_of-2.ensures.found ∙ ap is_some c.in_default-get_index_of.is))) c.self.invariant.1.mirrored k there)

pub add_asker-requires-clause-named : goal.add_asker-requires-clause-named
add_asker-requires-clause-named g c =
    (found_number g.K.PartialEq.eq c.self.invariant.0 c.self.inside.places.entries c.into_parts-key.result.1 c.in-Some-get_index_of.from c.in-Some-get_index_of.ensures.index)

pub add_wait-requires-clause-named : goal.add_wait-requires-clause-named
add_wait-requires-clause-named g c =
    ap (λ ns. slice_get ns c.in-Some.at) c.add_asker.ensures.changed.names ∙ (found_number g.K.PartialEq.eq c.self.invariant.0 c.self.inside.places.entries c.into_parts-key.result.0 c.in-Some.at c.in-Some.ensures.index)
