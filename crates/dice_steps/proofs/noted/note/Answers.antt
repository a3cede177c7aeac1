-- The keys that were seen, read without pointers.
use Rattle.dice_steps.proofs.noted.note.Goals as goal
use Rattle.dice_key.proofs.KeySets.{noted}

pub returns-clause-seen : goal.returns-clause-seen
returns-clause-seen g c =
    noted g.K.PartialEq.eq c.args.key.now c.in_ok-try_clone.field-0 c.args.seen.now c.insert.new.self c.in_ok-try_clone.ensures c.in_ok-insert.ensures.updates
