use Rattle.std.proofs.Common.{◌≡◌, inl, inr, ◌+◌, ◌*◌, ◌<◌, [], ◌∷◌, ◌++◌, length, sym, subst}
use Rattle.std.specs.Arc.{arc_value}
use Rattle.dice_tasks.specs.Hands.{DeskSeen}
use Rattle.dice_tasks.specs.Endings.{path_of, ends_so, AreGiven, EndsAsker}
use Rattle.dice_tasks.proofs.EndsLemmas.{working_knows}
use Rattle.dice_tasks.proofs.TellLemmas.{begins_telling, listed, asker_ended, last_told, asker_fewer, told_fewer, ends_telling}
use Rattle.dice_tasks.proofs.AllLemmas.{all_first, all_more, all_told, listed_first, listed_more, listed_told, untold_first, untold_more, untold_told, with_askers}
use Rattle.dice_tasks.proofs.OwnersLemmas.{owner_first, above_first, owner_left, given_path, above_more, one_given}
use Rattle.dice_tasks.proofs.TaskedLemmas.{tasked_end, tasked_same}
use Rattle.dice_tasks.proofs.end.end_all.Goals as goal
use Rattle.lists.proofs.Members.{has_more}

pub end_one-requires-clause-known : goal.end_one-requires-clause-known
end_one-requires-clause-known g c l o =
    let r = c.requires.working in
    working_knows g.U.Key.PartialEq.eq c.laws_of.ensures.keys g.U.Universe.meaning c.args.version [] r.0 r.1 _ _ r.2

pub end_one-requires-clause-owner : goal.end_one-requires-clause-owner
end_one-requires-clause-owner g c l o = owner_first g.U.Key.PartialEq.eq c.args.tasks.now (arc_value c.args.key.now) c.args.how c.requires.enough

pub askers-init : goal.askers-init
askers-init g c =
    let e = c.end_one.ensures.ended in
    let eq = g.U.Key.PartialEq.eq in
    let p = path_of c.args.how in
    let k = arc_value c.args.key.now in
    let v = c.args.version in
    let came = e.1 in
    let ends = e.3 in
    record {
      ends = ((k, came) ∷ [], all_first eq c.laws_of.ensures.keys v p k e.0 came _ _ _ _ e.2 ends, listed_first eq c.laws_of.ensures.keys v p k e.0 came _ _ _ _ ends c.requires.ended, untold_first eq c.laws_of.ensures.keys v p k e.0 came _ _ _ _ ends, inl (λ i. (k, e.2 i)), above_first eq c.args.tasks.now k came, c.end_one.ensures.given);
      tasked = tasked_end eq c.laws_of.ensures.keys v k e.0 came _ _ _ _ ends.tells.ends;
      kept = λ w owed work. listed eq c.laws_of.ensures.keys g.U.Universe.meaning c.laws_of.ensures.lawful v p w owed k e.0 came _ _ _ _ ends e.2 c.requires.reached
          (begins_telling eq g.U.Universe.meaning v p w owed _ _ c.requires.ended work);
    }

pub tell_one-requires-clause-known : goal.tell_one-requires-clause-known
tell_one-requires-clause-known g c l o =
    let r = c.requires.working in
    working_knows g.U.Key.PartialEq.eq c.laws_of.ensures.keys g.U.Universe.meaning c.args.version _ r.0 r.1 _ _ (c.askers.invariant.kept r.0 r.1 r.2).working

pub tell_one-requires-clause-owner : goal.tell_one-requires-clause-owner
tell_one-requires-clause-owner g c l o q j i on =
    let eq = g.U.Key.PartialEq.eq in
    let r = c.requires.working in
    let n = c.askers.invariant.ends in
    let known = working_knows eq c.laws_of.ensures.keys g.U.Universe.meaning c.args.version _ r.0 r.1 _ _ (c.askers.invariant.kept r.0 r.1 r.2).working in
    owner_left eq c.args.version (path_of c.args.how) (arc_value c.args.key.now) n.0 c.args.tasks.now c.askers.tasks c.askers.tasks c.args.desk.now c.askers.desk c.askers.desk n.1 n.5 c.args.how c.askers.rest c.requires.enough n.6 q j (n.2 q i) on (known.askers q j on)

pub askers-preserved : goal.askers-preserved
askers-preserved g c =
    let eq = g.U.Key.PartialEq.eq in
    let m = g.U.Universe.meaning in
    let v = c.args.version in
    let p = path_of c.args.how in
    let k = arc_value c.args.key.now in
    let n = c.askers.invariant.ends in
    let same = given_path (length n.0) c.args.how c.askers.rest n.6 in
    elim (c.tell_one.ensures.some c.askers-test.true) [
      | inl z ↦ (let a = subst (λ x. EndsAsker eq v x c.askers.tasks c.tell_one.new.tasks c.askers.desk c.tell_one.new.desk) same z.0 in record {
        ends = (
          n.0 ++ (a.asker, a.came) ∷ [],
          all_more eq c.laws_of.ensures.keys v p k n.0 _ _ _ _ _ _ n.1 a (n.2 a.key a.listed),
          listed_more eq c.laws_of.ensures.keys v p k n.0 _ _ _ _ _ _ n.1 a n.2,
          untold_more eq c.laws_of.ensures.keys v p k n.0 _ _ _ _ _ _ n.1 a n.3,
          has_more n.0 (a.asker, a.came) (k, ends_so p) n.4,
          above_more eq v p k n.0 _ _ _ _ _ _ n.1 n.5 a (n.2 a.key a.listed),
          one_given c.args.how c.askers.rest c.tell_one.new.how n.0 (a.asker, a.came) n.6 z.1,
        );
        tasked = λ h. tasked_end eq c.laws_of.ensures.keys v a.asker a.held a.came _ _ _ _ a.ends.tells.ends (c.askers.invariant.tasked h);
        kept = λ w owed work. asker_ended eq c.laws_of.ensures.keys m c.laws_of.ensures.lawful v p w owed _ _ _ _ a (c.askers.invariant.kept w owed work);
      })
      | inr z ↦ (let t = z.0 in record {
        ends = (n.0, all_told eq c.laws_of.ensures.keys v p k n.0 _ _ _ _ _ _ n.1 t, listed_told eq c.laws_of.ensures.keys v p k n.0 _ _ _ _ _ _ n.1 t n.2, untold_told eq c.laws_of.ensures.keys v p k n.0 _ _ _ _ _ _ n.1 t n.3, n.4, n.5, subst (AreGiven (length n.0) c.args.how) (sym z.1) n.6);
        tasked = λ h. tasked_same eq _ _ t.tasks t.asks (c.askers.invariant.tasked h);
        kept = λ w owed work. last_told eq c.laws_of.ensures.keys m c.laws_of.ensures.lawful v p w owed _ _ _ _ t (c.askers.invariant.kept w owed work);
      })
    ]

pub askers-smaller : goal.askers-smaller
askers-smaller g c =
    let eq = g.U.Key.PartialEq.eq in
    let m = g.U.Universe.meaning in
    let r = c.requires.working in
    let known = working_knows eq c.laws_of.ensures.keys m c.args.version _ r.0 r.1 _ _ (c.askers.invariant.kept r.0 r.1 r.2).working in
    elim (c.tell_one.ensures.some c.askers-test.true) as (λ _. 2 * c.tell_one.new.desk.live + length c.tell_one.new.desk.ended < 2 * c.askers.desk.live + length c.askers.desk.ended) [
      | inl a ↦ asker_fewer eq c.laws_of.ensures.keys m c.laws_of.ensures.lawful c.args.version (path_of c.askers.rest) _ _ _ _ known a.0
      | inr t ↦ told_fewer eq c.laws_of.ensures.keys m c.laws_of.ensures.lawful c.args.version _ _ _ _ t.0
    ]

pub returns-clause-ends : goal.returns-clause-ends
returns-clause-ends g c =
    let e = c.tell_one.ensures.none c.askers-test.false in
    let n = c.askers.invariant.ends in
    (n.0, rw e.1 (rw e.2 n.1), with_askers g.U.Key.PartialEq.eq c.laws_of.ensures.keys c.args.version (path_of c.args.how) (arc_value c.args.key.now) n.0 c.args.tasks.now c.askers.tasks c.askers.tasks c.args.desk.now c.askers.desk c.askers.desk n.1 n.3 e.0, n.4)

pub returns-clause-ended : goal.returns-clause-ended
returns-clause-ended g c =
    let e = c.tell_one.ensures.none c.askers-test.false in
    subst (λ (d : DeskSeen g.row.U-Key.Denot g.row.U-Value.Denot). d.ended ≡ []) (sym e.1) e.0

pub returns-clause-tasked : goal.returns-clause-tasked
returns-clause-tasked g c h = let e = c.tell_one.ensures.none c.askers-test.false in rw e.2 (c.askers.invariant.tasked h)

pub returns-clause-kept : goal.returns-clause-kept
returns-clause-kept g c w owed work =
    let e = c.tell_one.ensures.none c.askers-test.false in
    ends_telling g.U.Key.PartialEq.eq g.U.Universe.meaning c.args.version (path_of c.args.how) w owed _ _ _ _ e.0 e.1 e.2 (c.askers.invariant.kept w owed work)
