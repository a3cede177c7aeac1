use Rattle.std.proofs.Common.{[]}
use Rattle.dice_tasks.specs.Shelves.{place_of}
use Rattle.dice_tasks.proofs.TakeLemmas.{next_ready_is, takes_so}
use Rattle.dice_tasks.proofs.WaitLemmas.{takes_on}
use Rattle.dice_tasks.proofs.wait.take.Goals as goal

pub take_job-requires-after_bounds : goal.take_job-requires-after_bounds
take_job-requires-after_bounds g c κs within =
    let r = c.requires in
    let n = c.in-Some.ensures.some in
    next_ready_is g.U.Key.PartialEq.eq g.U.Universe.meaning r.0 r.1 [] r.3 r.4 _ _ r.6 r.2 r.5 n.0 (place_of c.in-Some.ready.now) n.1

pub returns-clause-taken : goal.returns-clause-taken
returns-clause-taken g c =
    let r = c.requires in
    let n = c.in-Some.ensures.some in
    takes_so g.U.Key.PartialEq.eq g.U.Universe.meaning r.0 r.1 [] r.3 r.4 _ _ r.6 r.2 r.5 c.in-Some-take_job.job _ _ n.0 (place_of c.in-Some.ready.now) c.taken.ensures.0 n.1 c.in-Some-take_job.ensures.taken c.taken.ensures.1

pub returns-clause-kept : goal.returns-clause-kept
returns-clause-kept g c w W owed work =
    let j = c.in-Some-take_job.job in
    takes_on g.U.Key.PartialEq.eq c.laws_of.ensures.keys g.U.Universe.meaning c.laws_of.ensures.lawful j.name.version j.name.key j _ _ _ _ (returns-clause-taken g c) W w owed work
