use Rattle.std.proofs.Common.{[], ◌∷◌, ◌++◌, sym, subst, reverse, Some, ◌≡◌}
use Rattle.journal.specs.Events.{ended_at}
use Rattle.dice_tasks.specs.Hands.{DeskSeen, Working}
use Rattle.dice_tasks.proofs.CascadeLemmas.{drops_none, drops_more, drops_same, drops_fewer, done_same}
use Rattle.dice_tasks.proofs.EndsLemmas.{cleaning_knows, cleaning_same, working_of}
use Rattle.dice_tasks.proofs.TaskedLemmas.{tasked_drop, tasked_same}
use Rattle.dice_tasks.proofs.end.cascade.Goals as goal

pub drops-init : goal.drops-init
drops-init g c = record { dropped = ([], drops_none _ _ _ _); after = c.requires.after; tasked = λ h. h; kept = λ w owed h. h }

pub drop_one-requires-clause-known : goal.drop_one-requires-clause-known
drop_one-requires-clause-known g c l o =
    let r = c.requires.cleaning in
    cleaning_knows g.U.Key.PartialEq.eq c.laws_of.ensures.keys g.U.Universe.meaning c.args.version r.0 r.1 _ _ (c.drops.invariant.kept r.0 r.1 r.2)

pub drops-preserved : goal.drops-preserved
drops-preserved g c =
    let d = c.drop_one.ensures.some c.drops-test.true in
    let n = c.drops.invariant.dropped in
    let r = c.requires.cleaning in
    let step = c.drop_one.ensures.kept c.drops-test.true in
    record {
      dropped = (n.0 ++ d.0 ∷ [], drops_more g.U.Key.PartialEq.eq c.args.version _ _ _ _ _ _ n.0 n.1 c.laws_of.ensures.keys d.0 d.1 d.2);
      after = (step r.0 r.1 (c.drops.invariant.kept r.0 r.1 r.2) c.drops.invariant.after).1;
      tasked = λ h. tasked_drop g.U.Key.PartialEq.eq c.laws_of.ensures.keys c.args.version d.0 d.1 _ _ _ _ d.2 (c.drops.invariant.tasked h);
      kept = λ w owed h. (step w owed (c.drops.invariant.kept w owed h) c.drops.invariant.after).0;
    }

pub drops-smaller : goal.drops-smaller
drops-smaller g c =
    let d = c.drop_one.ensures.some c.drops-test.true in
    let r = c.requires.cleaning in
    drops_fewer g.U.Key.PartialEq.eq c.args.version d.0 d.1 _ _ _ _ (cleaning_knows g.U.Key.PartialEq.eq c.laws_of.ensures.keys g.U.Universe.meaning c.args.version r.0 r.1 _ _ (c.drops.invariant.kept r.0 r.1 r.2)) d.2

pub returns-clause-dropped : goal.returns-clause-dropped
returns-clause-dropped g c =
    let n = c.drops.invariant.dropped in
    let e = c.drop_one.ensures.none c.drops-test.false in
    (n.0, drops_same g.U.Key.PartialEq.eq c.args.version _ _ _ _ _ _ n.0 n.1 e.2 e.3 e.0)

pub returns-clause-done : goal.returns-clause-done
returns-clause-done g c = let e = c.drop_one.ensures.none c.drops-test.false in done_same g.U.Key.PartialEq.eq c.args.version _ _ e.2 e.3 e.1

pub returns-clause-after : goal.returns-clause-after
returns-clause-after g c =
    let e = c.drop_one.ensures.none c.drops-test.false in
    subst (λ (d : DeskSeen g.row.U-Key.Denot g.row.U-Value.Denot). ended_at (reverse d.events) ≡ Some c.args.version) (sym e.0) c.drops.invariant.after

pub returns-clause-tasked : goal.returns-clause-tasked
returns-clause-tasked g c h = let e = c.drop_one.ensures.none c.drops-test.false in tasked_same g.U.Key.PartialEq.eq _ _ e.2 e.3 (c.drops.invariant.tasked h)

pub returns-clause-kept : goal.returns-clause-kept
returns-clause-kept g c w owed h =
    let e = c.drop_one.ensures.none c.drops-test.false in
    let eq = g.U.Key.PartialEq.eq in
    let m = g.U.Universe.meaning in
    subst (λ (d : DeskSeen g.row.U-Key.Denot g.row.U-Value.Denot). Working eq m c.args.version [] w owed c.drop_one.new.tasks d) (sym e.0)
    (working_of eq c.laws_of.ensures.keys m c.laws_of.ensures.lawful c.args.version w owed _ _ (done_same eq c.args.version _ _ e.2 e.3 e.1) (cleaning_same eq c.laws_of.ensures.keys m c.args.version w owed _ _ _ e.2 e.3 (c.drops.invariant.kept w owed h)))
