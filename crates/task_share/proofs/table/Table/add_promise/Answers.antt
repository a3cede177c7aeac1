use Rattle.std.proofs.Common.{◌≡◌, ◌≤◌, ◌<◌, ◌⊎◌, sym, subst, true, cond, ◌&&◌, ◌||◌, List}
use Rattle.std.specs.Arc.{arc_value}
use Rattle.task_share.specs.Asked.{By, Promised, is_by}
use Rattle.task_share.specs.Seen.{Share, ask_count, asks, promise_room, KeepsTasks, UsesRoomOf}
use Rattle.task_share.specs.Listed.{shares_of}
use Rattle.task_share.proofs.TableLemmas.{promise_joined_asks, promise_joined_tasks, promise_joined_mirrored, promise_joined_room, promise_joined_count}
use Rattle.task_share.proofs.table.Table.add_promise.Goals as goal

pub add_promise-requires-clause-room : goal.add_promise-requires-clause-room
add_promise-requires-clause-room g c = subst (λ (ps : List (g.row.K.Denot × Share g.row.K.Denot g.row.T.Denot)). (asks g.K.PartialEq.eq ps (arc_value c.args.key.now) (Promised c.args.number) ≡ true) ⊎ (0 < promise_room g.K.PartialEq.eq ps (arc_value c.args.key.now))) (sym c.self.view_is) c.requires

pub invariant_of-self : goal.invariant_of-self
invariant_of-self g c = (c.self.invariant.0, record { listed = c.add_promise.ensures.listed _ _ c.self.invariant.1.listed; mirrored = promise_joined_mirrored g.K.PartialEq.eq c.self.invariant.0 (shares_of c.self.inside.places.entries) (shares_of c.add_promise.new.places.entries) (arc_value c.args.key.now) c.args.number c.add_promise.ensures.changed (subst (λ (ps : List (g.row.K.Denot × Share g.row.K.Denot g.row.T.Denot)). (asks g.K.PartialEq.eq ps (arc_value c.args.key.now) (Promised c.args.number) ≡ true) ⊎ (0 < promise_room g.K.PartialEq.eq ps (arc_value c.args.key.now))) (sym c.self.view_is) c.requires) c.self.invariant.1.mirrored }, c.add_promise.ensures.linked)

pub returns-clause-tasks : goal.returns-clause-tasks
returns-clause-tasks g c = subst (λ (ps : List (g.row.K.Denot × Share g.row.K.Denot g.row.T.Denot)). KeepsTasks g.K.PartialEq.eq ps (shares_of c.add_promise.new.places.entries)) c.self.view_is
    (promise_joined_tasks g.K.PartialEq.eq c.self.invariant.0 (shares_of c.self.inside.places.entries) (shares_of c.add_promise.new.places.entries) (arc_value c.args.key.now) c.args.number c.add_promise.ensures.changed (subst (λ (ps : List (g.row.K.Denot × Share g.row.K.Denot g.row.T.Denot)). (asks g.K.PartialEq.eq ps (arc_value c.args.key.now) (Promised c.args.number) ≡ true) ⊎ (0 < promise_room g.K.PartialEq.eq ps (arc_value c.args.key.now))) (sym c.self.view_is) c.requires))

pub returns-clause-asks : goal.returns-clause-asks
returns-clause-asks g c = subst (λ (ps : List (g.row.K.Denot × Share g.row.K.Denot g.row.T.Denot)). (q : g.row.K.Denot) (a : By g.row.K.Denot) → asks g.K.PartialEq.eq (shares_of c.add_promise.new.places.entries) q a ≡ (asks g.K.PartialEq.eq ps q a || (g.K.PartialEq.eq (arc_value c.args.key.now) q && is_by g.K.PartialEq.eq (Promised c.args.number) a))) c.self.view_is
    (promise_joined_asks g.K.PartialEq.eq c.self.invariant.0 (shares_of c.self.inside.places.entries) (shares_of c.add_promise.new.places.entries) (arc_value c.args.key.now) c.args.number c.add_promise.ensures.changed (subst (λ (ps : List (g.row.K.Denot × Share g.row.K.Denot g.row.T.Denot)). (asks g.K.PartialEq.eq ps (arc_value c.args.key.now) (Promised c.args.number) ≡ true) ⊎ (0 < promise_room g.K.PartialEq.eq ps (arc_value c.args.key.now))) (sym c.self.view_is) c.requires))

pub returns-clause-room : goal.returns-clause-room
returns-clause-room g c = subst (λ (ps : List (g.row.K.Denot × Share g.row.K.Denot g.row.T.Denot)). UsesRoomOf g.K.PartialEq.eq (λ q. cond (g.K.PartialEq.eq (arc_value c.args.key.now) q) 1 0) (λ q. 0) (λ q. 0) ps (shares_of c.add_promise.new.places.entries)) c.self.view_is
    (promise_joined_room g.K.PartialEq.eq c.self.invariant.0 (shares_of c.self.inside.places.entries) (shares_of c.add_promise.new.places.entries) (arc_value c.args.key.now) c.args.number c.add_promise.ensures.changed (subst (λ (ps : List (g.row.K.Denot × Share g.row.K.Denot g.row.T.Denot)). (asks g.K.PartialEq.eq ps (arc_value c.args.key.now) (Promised c.args.number) ≡ true) ⊎ (0 < promise_room g.K.PartialEq.eq ps (arc_value c.args.key.now))) (sym c.self.view_is) c.requires))

pub returns-clause-count : goal.returns-clause-count
returns-clause-count g c = subst (λ (ps : List (g.row.K.Denot × Share g.row.K.Denot g.row.T.Denot)). ask_count (shares_of c.add_promise.new.places.entries) ≤ ask_count ps) c.self.view_is
    (promise_joined_count g.K.PartialEq.eq c.self.invariant.0 (shares_of c.self.inside.places.entries) (shares_of c.add_promise.new.places.entries) (arc_value c.args.key.now) c.args.number c.add_promise.ensures.changed (subst (λ (ps : List (g.row.K.Denot × Share g.row.K.Denot g.row.T.Denot)). (asks g.K.PartialEq.eq ps (arc_value c.args.key.now) (Promised c.args.number) ≡ true) ⊎ (0 < promise_room g.K.PartialEq.eq ps (arc_value c.args.key.now))) (sym c.self.view_is) c.requires))
