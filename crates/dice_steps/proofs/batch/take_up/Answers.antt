use Rattle.std.proofs.Common.{[], Some, refl, sym, subst}
use Rattle.std.specs.Arc.{arc_value}
use Rattle.task_share.specs.Above.{AreCounted}
use Rattle.task_share.specs.Seen.{asked_of}
use Rattle.dice_steps.specs.Batches.{GivesUp}
use Rattle.dice_tasks.specs.Endings.{GivesUpAll}
use Rattle.dice_steps.specs.Plans.{IsPlan, IsPlanDone}
use Rattle.dice_steps.proofs.BatchLemmas.{own_live, own_path, own_out, own_makes, own_room, own_knows, own_answers, own_goes, own_fits, own_may, own_waits, ends_given}
use Rattle.dice_steps.proofs.DoneLemmas.{goes_done, waits_done}
use Rattle.dice_steps.proofs.batch.take_up.Goals as goal

pub give_up-requires-clause-hand : goal.give_up-requires-clause-hand
give_up-requires-clause-hand g c l o = let r = c.requires.hand in (r.0, r.1, c.args.shared.now.graph, r.2, r.3)

pub give_up-requires-clause-live : goal.give_up-requires-clause-live
give_up-requires-clause-live g c l o =
    let r = c.requires.hand in
    own_live g.U.Key.PartialEq.eq c.laws_of.ensures.keys g.U.Universe.meaning c.laws_of.ensures.lawful c.args.version (arc_value c.args.key.now) c.args.parked.job c.requires.own.0 c.args.parked.keys r.0 r.1 _ _ _ r.2 r.3 c.requires.out c.requires.next

pub give_up-requires-clause-reached : goal.give_up-requires-clause-reached
give_up-requires-clause-reached g c l o =
    let eq = g.U.Key.PartialEq.eq in
    let m = g.U.Universe.meaning in
    let r = c.requires.hand in
    own_path eq c.laws_of.ensures.keys m c.laws_of.ensures.lawful c.args.version (arc_value c.args.key.now) c.args.parked.job c.requires.own.0 c.args.parked.keys r.0 r.1 _ _ _ r.2 r.3 c.requires.out c.requires.next c.in-Ends.owners.path
    (subst (λ z. IsPlan eq m c.args.version r.1 c.args.parked.job c.args.parked.keys c.args.tasks.now c.args.shared.now.desk c.args.shared.now.graph r.2 z) c.in-Ends.is r.4).0

pub give_up-requires-clause-enough : goal.give_up-requires-clause-enough
give_up-requires-clause-enough g c l o =
    let eq = g.U.Key.PartialEq.eq in
    let r = c.requires.hand in
    subst (λ z. AreCounted (asked_of eq c.args.tasks.now) z c.in-Ends.owners.count) c.requires.own.0
    (subst (λ z. IsPlan eq g.U.Universe.meaning c.args.version r.1 c.args.parked.job c.args.parked.keys c.args.tasks.now c.args.shared.now.desk c.args.shared.now.graph r.2 z) c.in-Ends.is r.4).1

pub make_all-requires-clause-hand : goal.make_all-requires-clause-hand
make_all-requires-clause-hand g c l o =
    let eq = g.U.Key.PartialEq.eq in
    let m = g.U.Universe.meaning in
    let r = c.requires.hand in
    let p = subst (λ z. IsPlan eq m c.args.version r.1 c.args.parked.job c.args.parked.keys c.args.tasks.now c.args.shared.now.desk c.args.shared.now.graph r.2 z) c.in-GoesOn.is r.4 in
    ([], r.0, r.1, own_makes eq c.laws_of.ensures.keys m c.laws_of.ensures.lawful c.args.version (arc_value c.args.key.now) c.args.parked.job c.requires.own.0 c.args.parked.keys c.in-GoesOn.parts.items r.0 r.1 _ _ _ r.2 r.3 c.requires.out c.requires.next p.roomy)

pub make_all-requires-clause-room : goal.make_all-requires-clause-room
make_all-requires-clause-room g c l o =
    let eq = g.U.Key.PartialEq.eq in
    let m = g.U.Universe.meaning in
    let r = c.requires.hand in
    let p = subst (λ z. IsPlan eq m c.args.version r.1 c.args.parked.job c.args.parked.keys c.args.tasks.now c.args.shared.now.desk c.args.shared.now.graph r.2 z) c.in-GoesOn.is r.4 in
    own_room eq c.laws_of.ensures.keys m c.laws_of.ensures.lawful c.args.version (arc_value c.args.key.now) c.args.parked.job c.requires.own.0 c.args.parked.keys c.in-GoesOn.parts.items r.0 r.1 _ _ _ r.2 r.3 c.requires.out c.requires.next p.roomy

pub go_on-requires-clause-known : goal.go_on-requires-clause-known
go_on-requires-clause-known g c l o =
    let eq = g.U.Key.PartialEq.eq in
    let m = g.U.Universe.meaning in
    let law = c.laws_of.ensures in
    let v = c.args.version in
    let k = arc_value c.args.key.now in
    let a = c.args.parked.job in
    let r = c.requires.hand in
    let xs = c.in-GoesOn.parts.items in
    let p = subst (λ z. IsPlan eq m v r.1 a c.args.parked.keys c.args.tasks.now c.args.shared.now.desk c.args.shared.now.graph r.2 z) c.in-GoesOn.is r.4 in
    let makes = own_makes eq law.keys m law.lawful v k a c.requires.own.0 c.args.parked.keys xs r.0 r.1 _ _ _ r.2 r.3 c.requires.out c.requires.next p.roomy in
    own_knows eq law.keys m law.lawful v k a c.requires.own.0 c.args.parked.keys xs r.0 r.1 _ _ _ r.2 r.3 c.requires.out c.requires.next p.roomy c.make_all.new.tasks c.make_all.new.tasks c.make_all.new.desk c.make_all.new.desk c.make_all.new.graph c.make_all.ensures.made (c.make_all.ensures.kept [] r.0 r.1 makes)

pub make_all-requires-in-Waits-clause-hand : goal.make_all-requires-in-Waits-clause-hand
make_all-requires-in-Waits-clause-hand g c l o =
    let eq = g.U.Key.PartialEq.eq in
    let m = g.U.Universe.meaning in
    let r = c.requires.hand in
    let p = subst (λ z. IsPlan eq m c.args.version r.1 c.args.parked.job c.args.parked.keys c.args.tasks.now c.args.shared.now.desk c.args.shared.now.graph r.2 z) c.in-Waits.is r.4 in
    ([], r.0, r.1, own_makes eq c.laws_of.ensures.keys m c.laws_of.ensures.lawful c.args.version (arc_value c.args.key.now) c.args.parked.job c.requires.own.0 c.args.parked.keys c.in-Waits.parts.items r.0 r.1 _ _ _ r.2 r.3 c.requires.out c.requires.next p.roomy)

pub make_all-requires-in-Waits-clause-room : goal.make_all-requires-in-Waits-clause-room
make_all-requires-in-Waits-clause-room g c l o =
    let eq = g.U.Key.PartialEq.eq in
    let m = g.U.Universe.meaning in
    let r = c.requires.hand in
    let p = subst (λ z. IsPlan eq m c.args.version r.1 c.args.parked.job c.args.parked.keys c.args.tasks.now c.args.shared.now.desk c.args.shared.now.graph r.2 z) c.in-Waits.is r.4 in
    own_room eq c.laws_of.ensures.keys m c.laws_of.ensures.lawful c.args.version (arc_value c.args.key.now) c.args.parked.job c.requires.own.0 c.args.parked.keys c.in-Waits.parts.items r.0 r.1 _ _ _ r.2 r.3 c.requires.out c.requires.next p.roomy

pub park-requires-clause-known : goal.park-requires-clause-known
park-requires-clause-known g c l o =
    let eq = g.U.Key.PartialEq.eq in
    let m = g.U.Universe.meaning in
    let law = c.laws_of.ensures in
    let v = c.args.version in
    let k = arc_value c.args.key.now in
    let a = c.args.parked.job in
    let r = c.requires.hand in
    let xs = c.in-Waits.parts.items in
    let p = subst (λ z. IsPlan eq m v r.1 a c.args.parked.keys c.args.tasks.now c.args.shared.now.desk c.args.shared.now.graph r.2 z) c.in-Waits.is r.4 in
    let made = c.make_all-in-Waits in
    let makes = own_makes eq law.keys m law.lawful v k a c.requires.own.0 c.args.parked.keys xs r.0 r.1 _ _ _ r.2 r.3 c.requires.out c.requires.next p.roomy in
    own_knows eq law.keys m law.lawful v k a c.requires.own.0 c.args.parked.keys xs r.0 r.1 _ _ _ r.2 r.3 c.requires.out c.requires.next p.roomy made.new.tasks made.new.tasks made.new.desk made.new.desk made.new.graph made.ensures.made (made.ensures.kept [] r.0 r.1 makes)

pub park-requires-clause-room : goal.park-requires-clause-room
park-requires-clause-room g c l o =
    let eq = g.U.Key.PartialEq.eq in
    let m = g.U.Universe.meaning in
    let law = c.laws_of.ensures in
    let v = c.args.version in
    let k = arc_value c.args.key.now in
    let a = c.args.parked.job in
    let r = c.requires.hand in
    let xs = c.in-Waits.parts.items in
    let p = subst (λ z. IsPlan eq m v r.1 a c.args.parked.keys c.args.tasks.now c.args.shared.now.desk c.args.shared.now.graph r.2 z) c.in-Waits.is r.4 in
    let made = c.make_all-in-Waits in
    let makes = own_makes eq law.keys m law.lawful v k a c.requires.own.0 c.args.parked.keys xs r.0 r.1 _ _ _ r.2 r.3 c.requires.out c.requires.next p.roomy in
    own_fits eq law.keys m law.lawful v k a c.requires.own.0 c.args.parked.keys xs r.0 r.1 _ _ _ r.2 r.3 c.requires.out c.requires.next p.roomy made.new.tasks made.new.tasks made.new.desk made.new.desk made.new.graph made.ensures.made (made.ensures.kept [] r.0 r.1 makes) c.in-Waits.waits.items p

pub returns-in-Ends-clause-given : goal.returns-in-Ends-clause-given
returns-in-Ends-clause-given g c =
    let eq = g.U.Key.PartialEq.eq in
    let m = g.U.Universe.meaning in
    let r = c.requires.hand in
    let a = c.args.parked.job in
    ends_given eq m c.args.version a c.args.parked.keys _ _ _ _ c.in-Ends.owners.path
    (subst (λ z. GivesUp eq c.args.version (Some c.in-Ends.owners.path) z c.args.tasks.now c.args.shared.now.desk c.give_up.new.tasks c.give_up.new.desk) (sym c.requires.own.0) c.give_up.ensures.given)
    (own_out eq c.laws_of.ensures.keys m c.laws_of.ensures.lawful c.args.version (arc_value c.args.key.now) a c.requires.own.0 c.args.parked.keys r.0 r.1 _ _ _ r.2 r.3 c.requires.out c.requires.next)

pub returns-in-Ends-clause-kept : goal.returns-in-Ends-clause-kept
returns-in-Ends-clause-kept g c w owed s hand plan = c.give_up.ensures.kept w owed c.args.shared.now.graph s hand

pub returns-in-GoesOn-clause-given : goal.returns-in-GoesOn-clause-given
returns-in-GoesOn-clause-given g c =
    let eq = g.U.Key.PartialEq.eq in
    let m = g.U.Universe.meaning in
    let law = c.laws_of.ensures in
    let v = c.args.version in
    let k = arc_value c.args.key.now in
    let a = c.args.parked.job in
    let r = c.requires.hand in
    let xs = c.in-GoesOn.parts.items in
    let p = subst (λ z. IsPlan eq m v r.1 a c.args.parked.keys c.args.tasks.now c.args.shared.now.desk c.args.shared.now.graph r.2 z) c.in-GoesOn.is r.4 in
    let made = c.make_all in
    let kept = made.ensures.kept [] r.0 r.1 (own_makes eq law.keys m law.lawful v k a c.requires.own.0 c.args.parked.keys xs r.0 r.1 _ _ _ r.2 r.3 c.requires.out c.requires.next p.roomy) in
    let answers = own_answers eq law.keys m law.lawful v k a c.requires.own.0 c.args.parked.keys xs r.0 r.1 _ _ _ r.2 r.3 c.requires.out c.requires.next p.roomy made.new.tasks c.go_on.new.tasks made.new.desk c.go_on.new.desk made.new.graph made.ensures.made kept c.in-GoesOn.next p c.cells_are_the_inputs.ensures.inputs in
    (own_goes eq law.keys m law.lawful v k a c.requires.own.0 c.args.parked.keys xs r.0 r.1 _ _ _ r.2 r.3 c.requires.out c.requires.next p.roomy made.new.tasks c.go_on.new.tasks made.new.desk c.go_on.new.desk made.new.graph made.ensures.made kept c.in-GoesOn.next p c.cells_are_the_inputs.ensures.inputs c.go_on.ensures.ready
    (c.go_on.ensures.kept r.0 [] r.1 kept.0 c.requires.next answers)).1

pub returns-in-GoesOn-clause-kept : goal.returns-in-GoesOn-clause-kept
returns-in-GoesOn-clause-kept g c w owed s hand plan =
    let eq = g.U.Key.PartialEq.eq in
    let m = g.U.Universe.meaning in
    let law = c.laws_of.ensures in
    let v = c.args.version in
    let k = arc_value c.args.key.now in
    let a = c.args.parked.job in
    let xs = c.in-GoesOn.parts.items in
    let p = subst (λ z. IsPlan eq m v owed a c.args.parked.keys c.args.tasks.now c.args.shared.now.desk c.args.shared.now.graph s z) c.in-GoesOn.is plan in
    let made = c.make_all in
    let kept = made.ensures.kept [] w owed (own_makes eq law.keys m law.lawful v k a c.requires.own.0 c.args.parked.keys xs w owed _ _ _ s hand c.requires.out c.requires.next p.roomy) in
    let answers = own_answers eq law.keys m law.lawful v k a c.requires.own.0 c.args.parked.keys xs w owed _ _ _ s hand c.requires.out c.requires.next p.roomy made.new.tasks c.go_on.new.tasks made.new.desk c.go_on.new.desk made.new.graph made.ensures.made kept c.in-GoesOn.next p c.cells_are_the_inputs.ensures.inputs in
    (own_goes eq law.keys m law.lawful v k a c.requires.own.0 c.args.parked.keys xs w owed _ _ _ s hand c.requires.out c.requires.next p.roomy made.new.tasks c.go_on.new.tasks made.new.desk c.go_on.new.desk made.new.graph made.ensures.made kept c.in-GoesOn.next p c.cells_are_the_inputs.ensures.inputs c.go_on.ensures.ready
    (c.go_on.ensures.kept w [] owed kept.0 c.requires.next answers)).0

pub returns-in-Waits-clause-given : goal.returns-in-Waits-clause-given
returns-in-Waits-clause-given g c =
    let eq = g.U.Key.PartialEq.eq in
    let m = g.U.Universe.meaning in
    let law = c.laws_of.ensures in
    let v = c.args.version in
    let k = arc_value c.args.key.now in
    let a = c.args.parked.job in
    let r = c.requires.hand in
    let xs = c.in-Waits.parts.items in
    let ws = c.in-Waits.waits.items in
    let p = subst (λ z. IsPlan eq m v r.1 a c.args.parked.keys c.args.tasks.now c.args.shared.now.desk c.args.shared.now.graph r.2 z) c.in-Waits.is r.4 in
    let made = c.make_all-in-Waits in
    let kept = made.ensures.kept [] r.0 r.1 (own_makes eq law.keys m law.lawful v k a c.requires.own.0 c.args.parked.keys xs r.0 r.1 _ _ _ r.2 r.3 c.requires.out c.requires.next p.roomy) in
    let may = own_may eq law.keys m law.lawful v k a c.requires.own.0 c.args.parked.keys xs r.0 r.1 _ _ _ r.2 r.3 c.requires.out c.requires.next p.roomy made.new.tasks c.park.new.tasks made.new.desk c.park.new.desk made.new.graph made.ensures.made kept ws p c.args.parked refl refl in
    (own_waits eq law.keys m law.lawful v k a c.requires.own.0 c.args.parked.keys xs r.0 r.1 _ _ _ r.2 r.3 c.requires.out c.requires.next p.roomy made.new.tasks c.park.new.tasks made.new.desk c.park.new.desk made.new.graph made.ensures.made kept ws p c.args.parked refl refl c.park.ensures.parks
    (c.park.ensures.kept r.0 [] r.1 kept.0 may)).1

pub returns-in-Waits-clause-kept : goal.returns-in-Waits-clause-kept
returns-in-Waits-clause-kept g c w owed s hand plan =
    let eq = g.U.Key.PartialEq.eq in
    let m = g.U.Universe.meaning in
    let law = c.laws_of.ensures in
    let v = c.args.version in
    let k = arc_value c.args.key.now in
    let a = c.args.parked.job in
    let xs = c.in-Waits.parts.items in
    let ws = c.in-Waits.waits.items in
    let p = subst (λ z. IsPlan eq m v owed a c.args.parked.keys c.args.tasks.now c.args.shared.now.desk c.args.shared.now.graph s z) c.in-Waits.is plan in
    let made = c.make_all-in-Waits in
    let kept = made.ensures.kept [] w owed (own_makes eq law.keys m law.lawful v k a c.requires.own.0 c.args.parked.keys xs w owed _ _ _ s hand c.requires.out c.requires.next p.roomy) in
    let may = own_may eq law.keys m law.lawful v k a c.requires.own.0 c.args.parked.keys xs w owed _ _ _ s hand c.requires.out c.requires.next p.roomy made.new.tasks c.park.new.tasks made.new.desk c.park.new.desk made.new.graph made.ensures.made kept ws p c.args.parked refl refl in
    (own_waits eq law.keys m law.lawful v k a c.requires.own.0 c.args.parked.keys xs w owed _ _ _ s hand c.requires.out c.requires.next p.roomy made.new.tasks c.park.new.tasks made.new.desk c.park.new.desk made.new.graph made.ensures.made kept ws p c.args.parked refl refl c.park.ensures.parks
    (c.park.ensures.kept w [] owed kept.0 may)).0

pub returns-in-Ends-clause-done : goal.returns-in-Ends-clause-done
returns-in-Ends-clause-done g c w owed s hand plan =
    let eq = g.U.Key.PartialEq.eq in
    let m = g.U.Universe.meaning in
    let a = c.args.parked.job in
    let path = c.in-Ends.owners.path in
    subst (λ z. IsPlanDone eq m c.args.version owed a c.args.parked.keys c.args.tasks.now c.args.shared.now.desk c.args.shared.now.graph s z c.give_up.new.tasks c.give_up.new.desk c.args.shared.now.graph) (sym c.in-Ends.is)
    (record {
      path = path;
      cycle = (subst (λ z. IsPlan eq m c.args.version owed a c.args.parked.keys c.args.tasks.now c.args.shared.now.desk c.args.shared.now.graph s z) c.in-Ends.is plan).0;
      ends = subst (λ z. GivesUpAll eq c.args.version (Some path) z c.args.tasks.now c.give_up.new.tasks c.args.shared.now.desk c.give_up.new.desk) (sym c.requires.own.0) c.give_up.ensures.ends;
      entries = refl;
    })

pub returns-in-GoesOn-clause-done : goal.returns-in-GoesOn-clause-done
returns-in-GoesOn-clause-done g c w owed s hand plan =
    let eq = g.U.Key.PartialEq.eq in
    let m = g.U.Universe.meaning in
    let law = c.laws_of.ensures in
    let v = c.args.version in
    let k = arc_value c.args.key.now in
    let a = c.args.parked.job in
    let p = subst (λ z. IsPlan eq m v owed a c.args.parked.keys c.args.tasks.now c.args.shared.now.desk c.args.shared.now.graph s z) c.in-GoesOn.is plan in
    let made = c.make_all in
    subst (λ z. IsPlanDone eq m v owed a c.args.parked.keys c.args.tasks.now c.args.shared.now.desk c.args.shared.now.graph s z c.go_on.new.tasks c.go_on.new.desk made.new.graph) (sym c.in-GoesOn.is)
    (goes_done eq law.keys m law.lawful v k a c.requires.own.0 c.args.parked.keys c.in-GoesOn.parts.items w owed _ _ _ s hand c.requires.out p.roomy made.new.tasks c.go_on.new.tasks made.new.desk c.go_on.new.desk made.new.graph made.ensures.made made.ensures.looked c.in-GoesOn.next p c.go_on.ensures.ready)

pub returns-in-Waits-clause-done : goal.returns-in-Waits-clause-done
returns-in-Waits-clause-done g c w owed s hand plan =
    let eq = g.U.Key.PartialEq.eq in
    let m = g.U.Universe.meaning in
    let law = c.laws_of.ensures in
    let v = c.args.version in
    let k = arc_value c.args.key.now in
    let a = c.args.parked.job in
    let xs = c.in-Waits.parts.items in
    let ws = c.in-Waits.waits.items in
    let p = subst (λ z. IsPlan eq m v owed a c.args.parked.keys c.args.tasks.now c.args.shared.now.desk c.args.shared.now.graph s z) c.in-Waits.is plan in
    let made = c.make_all-in-Waits in
    let kept = made.ensures.kept [] w owed (own_makes eq law.keys m law.lawful v k a c.requires.own.0 c.args.parked.keys xs w owed _ _ _ s hand c.requires.out c.requires.next p.roomy) in
    let may = own_may eq law.keys m law.lawful v k a c.requires.own.0 c.args.parked.keys xs w owed _ _ _ s hand c.requires.out c.requires.next p.roomy made.new.tasks c.park.new.tasks made.new.desk c.park.new.desk made.new.graph made.ensures.made kept ws p c.args.parked refl refl in
    subst (λ z. IsPlanDone eq m v owed a c.args.parked.keys c.args.tasks.now c.args.shared.now.desk c.args.shared.now.graph s z c.park.new.tasks c.park.new.desk made.new.graph) (sym c.in-Waits.is)
    (waits_done eq law.keys m law.lawful v k a c.requires.own.0 c.args.parked.keys xs w owed _ _ _ s hand c.requires.out p.roomy made.new.tasks c.park.new.tasks made.new.desk c.park.new.desk made.new.graph made.ensures.made made.ensures.looked ws p c.args.parked refl refl c.park.ensures.parks (c.park.ensures.kept w [] owed kept.0 may))

pub go_on-requires-clause-out : goal.go_on-requires-clause-out
go_on-requires-clause-out g c l o = c.make_all.ensures.made.out (arc_value c.args.key.now) c.args.parked.job c.requires.out

pub park-requires-clause-out : goal.park-requires-clause-out
park-requires-clause-out g c l o = c.make_all-in-Waits.ensures.made.out (arc_value c.args.key.now) c.args.parked.job c.requires.out
