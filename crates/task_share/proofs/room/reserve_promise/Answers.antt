use Rattle.std.proofs.Common.{◌<◌, refl, sym, subst, arith, rules}
use Rattle.task_share.specs.Seen.{Share}
use Rattle.task_share.specs.declared.place.Place.{Place}
use Rattle.task_share.proofs.RoomLemmas.{makes_room}
use Rattle.task_share.proofs.room.reserve_promise.Goals as goal

pub returns-in_err-reserve : goal.returns-in_err-reserve
returns-in_err-reserve g c =
    let h = c.in-Some.place.now in
    let w : Place g.row.K.Denot g.row.T.Denot = record { task = h.task; live = h.live; promises = c.reserve.new.self; askers = h.askers; waits = h.waits; name = h.name } in
    let r = makes_room g.K.PartialEq.eq c.requires.equality c.args.places.now.entries c.args.at h w c.requires.linked c.in-Some.ensures.value (record { task = refl; live = refl; name = refl; promises = c.reserve.ensures.keys; askers = refl; waits = refl; promise_room = c.reserve.ensures.room; asker_room = omega arith; wait_room = omega arith }) in
    record { linked = r.linked; listed = r.listed; kept = r.kept; ok = search rules }

pub returns : goal.returns
returns g c =
    let h = c.in-Some.place.now in
    let w : Place g.row.K.Denot g.row.T.Denot = record { task = h.task; live = h.live; promises = c.reserve.new.self; askers = h.askers; waits = h.waits; name = h.name } in
    let r = makes_room g.K.PartialEq.eq c.requires.equality c.args.places.now.entries c.args.at h w c.requires.linked c.in-Some.ensures.value (record { task = refl; live = refl; name = refl; promises = c.reserve.ensures.keys; askers = refl; waits = refl; promise_room = c.reserve.ensures.room; asker_room = omega arith; wait_room = omega arith }) in
    record { linked = r.linked; listed = r.listed; kept = r.kept; ok = λ k named placed. subst (λ m. 0 < m) (sym (r.room (λ (p : Share g.row.K.Denot g.row.T.Denot). p.promise_room) k named placed)) c.in_ok-reserve.ensures.ok }
