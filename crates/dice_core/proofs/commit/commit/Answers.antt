-- What a commit keeps, and that its event is allowed.
use Rattle.std.proofs.Common.{reverse, rules}
use Rattle.dice_model.specs.Log.{pairs_of}
use Rattle.dice_core.specs.Commits.{differing_of}
use Rattle.dice_core.proofs.CommitLaws.{commit_allowed, commit_kept, commit_lawful}
use Rattle.dice_core.proofs.commit.commit.Goals as goal

pub returns-in_err-check_changes-clause-first : goal.returns-in_err-check_changes-clause-first
returns-in_err-check_changes-clause-first g c = λ f h. let first = c.in_err-check_changes.ensures.first f h in search rules

pub returns-in-Ok-clause-first : goal.returns-in-Ok-clause-first
returns-in-Ok-clause-first g c = λ f h. c.in_ok-check_changes.ensures.first f h

pub returns-in-Ok-clause-kept : goal.returns-in-Ok-clause-kept
returns-in-Ok-clause-kept g c = λ h.
    let eq = g.U.Key.PartialEq.eq in
    let left = differing_of eq g.U.Value.PartialEq.eq g.U.Universe.meaning c.args.shared.now.cells (pairs_of c.args.changes.now) in
    commit_kept eq c.args.by left c.args.shared.now.cells c.commit_settable.new.shared.cells c.args.shared.now.desk.events c.commit_settable.new.shared.desk.events c.in-Ok.ensures.ok h

pub returns-in-Ok-clause-allowed : goal.returns-in-Ok-clause-allowed
returns-in-Ok-clause-allowed g c = λ h.
    commit_allowed g.U.Key.PartialEq.eq g.U.Value.PartialEq.eq c.laws_of.ensures.values g.U.Universe.meaning (reverse c.args.shared.now.desk.events) c.args.shared.now.cells h c.args.by (pairs_of c.args.changes.now) c.in_ok-check_changes.ensures.ok

pub returns-in-Ok-clause-lawful : goal.returns-in-Ok-clause-lawful
returns-in-Ok-clause-lawful g c = λ h l.
    let eq = g.U.Key.PartialEq.eq in
    let m = g.U.Universe.meaning in
    let left = differing_of eq g.U.Value.PartialEq.eq m c.args.shared.now.cells (pairs_of c.args.changes.now) in
    commit_lawful eq m c.args.by left c.args.shared.now.desk.events c.commit_settable.new.shared.desk.events c.in-Ok.ensures.ok.events
    (commit_allowed eq g.U.Value.PartialEq.eq c.laws_of.ensures.values m (reverse c.args.shared.now.desk.events) c.args.shared.now.cells h c.args.by (pairs_of c.args.changes.now) c.in_ok-check_changes.ensures.ok) l
