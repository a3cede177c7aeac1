use Rattle.std.specs.Prelude.{drop}
use Rattle.std.proofs.Common.{ap}
use Rattle.shelf.proofs.Keeps.{appended, still_sound}
use Rattle.shelf.proofs.shelver.append_raw.Goals as goal

pub returns-clause-ok : goal.returns-clause-ok
returns-clause-ok g c =
    let old = c.args.writer.now in
    let new = c.append.new.self in
    appended c.append.result old.desk.shown.value new.desk.shown.value (drop old.behind old.log.items) (drop new.behind new.log.items) c.args.op
    (ap (λ d. d.shown.value) c.append.ensures.desk) c.append.ensures.pending

pub returns-clause-sound : goal.returns-clause-sound
returns-clause-sound g c =
    let old = c.args.writer.now in
    let new = c.append.new.self in
    still_sound g.U.Key.PartialEq.eq g.U.Universe.meaning c.append.result old.desk.shown.value new.desk.shown.value (drop old.behind old.log.items) (drop new.behind new.log.items) c.args.op
    (ap (λ d. d.shown.value) c.append.ensures.desk) c.append.ensures.pending c.requires.sound c.requires.may
