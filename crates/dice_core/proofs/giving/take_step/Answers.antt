use Rattle.std.proofs.Common.{refl, sym, ◌∙◌, subst}
use Rattle.dice_steps.proofs.FinishLemmas.{found_by_check}
use Rattle.dice_core.specs.Givings.{IsTakenUp}
use Rattle.dice_core.proofs.GivesLemmas.{batch_gives, begun_gives}
use Rattle.dice_core.proofs.giving.take_step.Goals as goal

pub returns-then-asks-clause-taken : goal.returns-then-asks-clause-taken
returns-then-asks-clause-taken g c =
    let s = c.args.step in
    let w = c.if-asks.ensures.0 refl in
    batch_gives g.U.Key.PartialEq.eq c.laws_of.ensures.keys s s.job.name.version c.args.tasks.now c.ask_batch.new.tasks c.args.shared.now.desk c.ask_batch.new.shared.desk c.requires.out g.U.Universe.meaning w.0 w.1 (c.in_ok-ask_batch.ensures.given w.0 w.1)

pub returns-then-asks-clause-does : goal.returns-then-asks-clause-does
returns-then-asks-clause-does g c =
    let s = c.args.step in
    let w = c.if-asks.ensures.0 refl in
    subst (IsTakenUp g.U.Key.PartialEq.eq g.U.Universe.meaning g.U.Value.PartialEq.eq s.job.name.version s c.args.shared.now.cells c.args.tasks.now c.ask_batch.new.tasks c.args.shared.now.graph c.ask_batch.new.shared.graph c.args.shared.now.desk c.ask_batch.new.shared.desk) (sym w.1)
    (c.in_ok-ask_batch.ensures.given w.0 w.1, c.in_ok-ask_batch.ensures.done w.0 w.1)

-- a check that found a change has its work begin anew
pub returns-then-finds_change-clause-taken : goal.returns-then-finds_change-clause-taken
returns-then-finds_change-clause-taken g c =
    let s = c.args.step in
    let w = c.if-finds_change.ensures.changed.0 refl in
    let b = found_by_check g.U.Universe.meaning g.U.Value.PartialEq.eq s.job w.0 (sym c.if-finds_change.ensures.outcome ∙ w.1) in
    begun_gives g.U.Key.PartialEq.eq c.laws_of.ensures.keys s s.job.name.version c.args.tasks.now c.differs.new.tasks c.args.shared.now.desk c.differs.new.desk c.requires.out b.0 b.1 b.2 w.0 b.3 w.1
    c.in_ok-differs.ensures.given (c.in_ok-differs.ensures.events w.0 b.0 b.1 b.2 w.1 b.3)

pub returns-then-finds_change-clause-kept : goal.returns-then-finds_change-clause-kept
returns-then-finds_change-clause-kept g c w = c.differs.ensures.kept w c.args.shared.now.graph c.args.shared.now.cells
