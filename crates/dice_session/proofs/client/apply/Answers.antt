use Rattle.std.specs.Map.{keys_of}
use Rattle.dice_core.specs.Commits.{AreSettable, IsFirstFault}
use Rattle.dice_engine.specs.Turns.{newest_in}
use Rattle.dice_session.proofs.Sole.{commit_sole, commit_open, commit_begins, commit_log, commit_rests, owned_ok, owned_version, owned_fault}
use Rattle.dice_session.proofs.client.apply.Goals as goal

pub returns-clause-sole : goal.returns-clause-sole
returns-clause-sole g c = commit_sole g.U.Key.PartialEq.eq g.U.Universe.meaning c.args.engine.now c.args.seat.now c.commit.new.seat c.requires g.U.Value.PartialEq.eq c.args.changes.now c.commit.result c.commit.ensures.ok c.commit.ensures.err

pub returns-clause-open : goal.returns-clause-open
returns-clause-open g c = commit_open g.U.Key.PartialEq.eq g.U.Universe.meaning c.args.engine.now c.args.seat.now c.commit.new.seat c.requires g.U.Value.PartialEq.eq c.args.changes.now c.commit.result c.commit.ensures.ok c.commit.ensures.err

pub returns-clause-begins : goal.returns-clause-begins
returns-clause-begins g c = commit_begins g.U.Key.PartialEq.eq g.U.Universe.meaning c.args.engine.now c.args.seat.now c.commit.new.seat c.requires g.U.Value.PartialEq.eq c.args.changes.now c.commit.result c.commit.ensures.ok c.commit.ensures.err

pub returns-clause-ok : goal.returns-clause-ok
returns-clause-ok g c = commit_log g.U.Key.PartialEq.eq g.U.Universe.meaning c.args.engine.now c.args.seat.now c.commit.new.seat c.requires g.U.Value.PartialEq.eq c.args.changes.now c.commit.result c.owned.result c.owned.ensures c.commit.ensures.ok

pub returns-clause-version : goal.returns-clause-version
returns-clause-version g c = owned_version (newest_in c.commit.new.seat.seen) c.commit.result c.owned.result c.owned.ensures c.commit.ensures.version

pub returns-clause-settable : goal.returns-clause-settable
returns-clause-settable g c = owned_ok (AreSettable g.U.Universe.meaning (keys_of c.args.changes.now)) c.commit.result c.owned.result c.owned.ensures c.commit.ensures.settable

pub returns-clause-fault : goal.returns-clause-fault
returns-clause-fault g c = owned_fault (IsFirstFault g.U.Universe.meaning (keys_of c.args.changes.now)) c.commit.result c.owned.result c.owned.ensures c.commit.ensures.fault

pub returns-clause-err : goal.returns-clause-err
returns-clause-err g c = commit_rests g.U.Key.PartialEq.eq g.U.Universe.meaning c.args.engine.now c.args.seat.now c.commit.new.seat c.requires g.U.Value.PartialEq.eq c.args.changes.now c.commit.result c.owned.result c.owned.ensures c.commit.ensures.err
