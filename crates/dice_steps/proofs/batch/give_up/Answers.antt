use Rattle.std.proofs.Common.{◌∙◌, ap, reverse}
use Rattle.std.specs.Arc.{arc_value}
use Rattle.journal.specs.Events.{ended_at}
use Rattle.dice_tasks.specs.Endings.{path_of}
use Rattle.dice_tasks.proofs.EndsLemmas.{cleaning_of}
use Rattle.dice_steps.proofs.GiveUpLemmas.{ended_last, told_once, given_up, off_after, at_hand_after}
use Rattle.dice_steps.proofs.batch.give_up.Goals as goal

pub end_all-requires-clause-working : goal.end_all-requires-clause-working
end_all-requires-clause-working g c l o = let r = c.requires.hand in (r.0, r.1, r.4.working)

pub end_all-requires-clause-ended : goal.end_all-requires-clause-ended
end_all-requires-clause-ended g c l o = c.requires.hand.4.told

pub cascade-requires-clause-cleaning : goal.cascade-requires-clause-cleaning
cascade-requires-clause-cleaning g c l o =
    let r = c.requires.hand in
    (r.0, r.1, cleaning_of g.U.Key.PartialEq.eq c.laws_of.ensures.keys g.U.Universe.meaning c.laws_of.ensures.lawful c.args.version r.0 r.1 _ _ (c.end_all.ensures.kept r.0 r.1 r.4.working))

pub cascade-requires-clause-after : goal.cascade-requires-clause-after
cascade-requires-clause-after g c l o =
    let e = c.end_all.ensures.ends in
    ap (λ es. ended_at (reverse es)) e.1.events ∙ ended_last c.args.version (path_of c.args.how) c.args.desk.now.events e.0 _ e.1.first.1 e.1.comes

pub returns-clause-ends : goal.returns-clause-ends
returns-clause-ends g c =
    let e = c.end_all.ensures.ends in
    let d = c.cascade.ensures.dropped in
    record {
      ends = e.0;
      drops = d.0;
      tasks = c.end_all.new.tasks;
      desk = c.end_all.new.desk;
      ended = e.1;
      own = e.3;
      askers = e.2;
      once = told_once g.U.Key.PartialEq.eq c.laws_of.ensures.keys c.args.version (path_of c.args.how) (arc_value c.args.key.now) e.0 d.0 _ _ _ _ _ _ e.1 d.1;
      dropped = d.1;
    }

pub returns-clause-given : goal.returns-clause-given
returns-clause-given g c =
    let r = c.requires.hand in
    let e = c.end_all.ensures.ends in
    let d = c.cascade.ensures.dropped in
    let eq = g.U.Key.PartialEq.eq in
    let k = arc_value c.args.key.now in
    given_up eq c.laws_of.ensures.keys c.args.version (path_of c.args.how) k e.0 d.0 _ _ _ _ _ _ e.1 d.1
    (off_after eq c.laws_of.ensures.keys g.U.Universe.meaning c.args.version (path_of c.args.how) k e.0 _ _ _ _ e.1 _ r.0 r.1 (c.end_all.ensures.kept r.0 r.1 r.4.working))

pub returns-clause-kept : goal.returns-clause-kept
returns-clause-kept g c w owed es s hand =
    let eq = g.U.Key.PartialEq.eq in
    let m = g.U.Universe.meaning in
    let e = c.end_all.ensures.ends in
    let d = c.cascade.ensures.dropped in
    let work = c.end_all.ensures.kept w owed hand.working in
    at_hand_after eq c.laws_of.ensures.keys m c.args.version (path_of c.args.how) (arc_value c.args.key.now) e.0 d.0 _ _ _ _ _ _ e.1 d.1 c.end_all.ensures.ended (c.cascade.ensures.tasked (c.end_all.ensures.tasked hand.tasked)) c.cascade.ensures.done w owed es s hand
    (c.cascade.ensures.kept w owed (cleaning_of eq c.laws_of.ensures.keys m c.laws_of.ensures.lawful c.args.version w owed _ _ work))
