use Rattle.std.proofs.Common.{◌≡◌, ◌∙◌, true, false, length, sym, ap}
use Rattle.dice_run.proofs.Turning.{later_ours, our_log, turn_commits, is_memory, memory_alone}
use Rattle.dice_run.proofs.client.commit.Goals as goal

pub unreachable-requires : goal.unreachable-requires
unreachable-requires g c = (let e : false ≡ true = ap is_memory (sym c.in-Err-NotInjected.field-0-is) ∙ memory_alone c.args.changes.now c.requires.sources c.in-Err-NotInjected.field-0 c.in-Err-NotInjected.ensures.fault in cc)

pub unreachable-requires-in-Err-Twice : goal.unreachable-requires-in-Err-Twice
unreachable-requires-in-Err-Twice g c = (let e : false ≡ true = ap is_memory (sym c.in-Err-Twice.field-0-is) ∙ memory_alone c.args.changes.now c.requires.sources c.in-Err-Twice.field-0 c.in-Err-Twice.ensures.fault in cc)

pub returns-in-Ok-clause-ours : goal.returns-in-Ok-clause-ours
returns-in-Ok-clause-ours g c = later_ours c.args.engine.now c.args.seat.now c.commit.new.seat c.requires.ours c.in-Ok.ensures.ok.later

pub returns-in-Ok-clause-commits : goal.returns-in-Ok-clause-commits
returns-in-Ok-clause-commits g c = turn_commits c.args.engine.now c.args.seat.now c.commit.new.seat c.args.changes.now c.requires.ours c.in-Ok.ensures.ok

pub returns-in-Ok-clause-version : goal.returns-in-Ok-clause-version
returns-in-Ok-clause-version g c =
    c.in-Ok.ensures.version ∙ ap length (our_log c.args.engine.now c.commit.new.seat (returns-in-Ok-clause-ours g c))

pub returns-in-Err-NoMemory-clause-ours : goal.returns-in-Err-NoMemory-clause-ours
returns-in-Err-NoMemory-clause-ours g c = later_ours c.args.engine.now c.args.seat.now c.commit.new.seat c.requires.ours c.in-Err-NoMemory.ensures.err.later
