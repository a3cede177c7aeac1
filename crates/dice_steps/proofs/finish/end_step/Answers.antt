use Rattle.std.proofs.Common.{◌≡◌, inl, inr, ◌∙◌, ◌∷◌, [], Some, refl, sym, ap, subst, arith, reverse}
use Rattle.std.specs.Arc.{arc_value}
use Rattle.std.specs.Option.{option_map}
use Rattle.dice_jobs.specs.Jobs.{Name, Assigned}
use Rattle.journal.specs.Tell.{told}
use Rattle.task_share.specs.Seen.{task_at}
use Rattle.core_laws.specs.Tasks.{IsOut, WithValue, is_going}
use Rattle.dice_tasks.specs.Helds.{task_of, held_of}
use Rattle.dice_tasks.specs.Endings.{Knows, TellsEnd}
use Rattle.dice_tasks.specs.Entries.{EntriesStand}
use Rattle.dice_tasks.proofs.EndsLemmas.{working_knows}
use Rattle.dice_steps.specs.AtHand.{AtHand}
use Rattle.dice_steps.specs.Wokens.{AreWoken}
use Rattle.dice_steps.specs.Finishings.{EndsWith, EndsAndWakes}
use Rattle.dice_steps.proofs.AgreedLemmas.{all_agree}
use Rattle.dice_steps.proofs.FinishLemmas.{at_room, stands_at, within, told_of, ends_on, may_wake_now, ends_and_wakes, at_ended, entries_ended, entries_kept}
use Rattle.dice_steps.proofs.WokenLemmas.{has_answers}
use Rattle.dice_steps.proofs.finish.end_step.Goals as goal

pub prepare_end-requires-clause-agree : goal.prepare_end-requires-clause-agree
prepare_end-requires-clause-agree g c κs bounds =
    let r = c.requires.at_hand in
    let eq = g.U.Key.PartialEq.eq in
    let m = g.U.Universe.meaning in
    let k = c.args.step.now.job.name.key in
    all_agree eq m (reverse c.args.shared.now.desk.events) c.args.shared.now.graph r.1.entries c.args.step.now.job.name.version [] c.args.tasks.now
    (stands_at eq c.laws_of.ensures.keys m c.laws_of.ensures.lawful c.args.step.now.job.name.version k r.0 c.args.owed c.args.tasks.now c.args.shared.now.desk c.args.shared.now.graph c.args.shared.now.cells r.1) c.args.shared.now.cells k (arc_value c.args.value.now) c.args.step.now.job c.requires.out

pub prepare_end-requires-clause-answers : goal.prepare_end-requires-clause-answers
prepare_end-requires-clause-answers g c κs bounds =
    let r = c.requires.at_hand in
    let eq = g.U.Key.PartialEq.eq in
    let m = g.U.Universe.meaning in
    has_answers eq c.laws_of.ensures.keys m (reverse c.args.shared.now.desk.events) c.args.step.now.job.name.version [] c.args.tasks.now
    (stands_at eq c.laws_of.ensures.keys m c.laws_of.ensures.lawful c.args.step.now.job.name.version (c.args.step.now.job.name.key) r.0 c.args.owed c.args.tasks.now c.args.shared.now.desk c.args.shared.now.graph c.args.shared.now.cells r.1) (c.args.step.now.job.name.key)

pub finish-requires-clause-version : goal.finish-requires-clause-version
finish-requires-clause-version g c κs bounds =
    let r = c.requires.at_hand in
    let eq = g.U.Key.PartialEq.eq in
    let m = g.U.Universe.meaning in
    let k = c.args.step.now.job.name.key in
    let named : c.name-name.result.now ≡ c.args.step.now.job.name = c.name-name.ensures ∙ ap (λ (z : Assigned g.row.U-Key.Denot g.row.U-Value.Denot). z.name) c.assignment.ensures in
    let there : c.version-version.result ≡ c.args.step.now.job.name.version = c.version-version.ensures ∙ ap (λ (n : Name g.row.U-Key.Denot). n.version) named in
    let n = within eq c.laws_of.ensures.keys m c.laws_of.ensures.lawful c.args.step.now.job.name.version k (reverse c.args.shared.now.desk.events) [] c.args.tasks.now (stands_at eq c.laws_of.ensures.keys m c.laws_of.ensures.lawful c.args.step.now.job.name.version k r.0 c.args.owed c.args.tasks.now c.args.shared.now.desk c.args.shared.now.graph c.args.shared.now.cells r.1) c.args.step.now.job c.requires.out in
    let l = r.1.cells.newest in
    let b = c.requires.last in
    omega arith

pub end_value-requires-clause-known : goal.end_value-requires-clause-known
end_value-requires-clause-known g c κs bounds =
    let r = c.requires.at_hand in
    let eq = g.U.Key.PartialEq.eq in
    let m = g.U.Universe.meaning in
    let named : c.name-name.result.now ≡ c.args.step.now.job.name = c.name-name.ensures ∙ ap (λ (z : Assigned g.row.U-Key.Denot g.row.U-Value.Denot). z.name) c.assignment.ensures in
    let there : c.version-version.result ≡ c.args.step.now.job.name.version = c.version-version.ensures ∙ ap (λ (n : Name g.row.U-Key.Denot). n.version) named in
    let at = at_room eq m c.args.step.now.job.name.version r.0 c.args.owed c.args.tasks.now c.args.shared.now.desk c.reserve.new.self c.args.shared.now.graph c.args.shared.now.cells c.reserve.ensures.same c.reserve.ensures.room r.1 in
    subst (λ n. Knows eq n c.args.tasks.now c.reserve.new.self) (sym there) (working_knows eq c.laws_of.ensures.keys m c.args.step.now.job.name.version [] r.0 c.args.owed c.args.tasks.now c.reserve.new.self at.working)

pub end_value-requires-clause-live : goal.end_value-requires-clause-live
end_value-requires-clause-live g c κs bounds =
    let known = end_value-requires-clause-known g c κs bounds in
    let named : c.name-name.result.now ≡ c.args.step.now.job.name = c.name-name.ensures ∙ ap (λ (z : Assigned g.row.U-Key.Denot g.row.U-Value.Denot). z.name) c.assignment.ensures in
    let key : arc_value c.key-own.result.now ≡ c.args.step.now.job.name.key = c.key-own.ensures ∙ ap (λ (n : Name g.row.U-Key.Denot). n.key) named in
    known.going (arc_value c.key-own.result.now) ∙ ap (λ z. is_going (option_map task_of z)) (ap (task_at g.U.Key.PartialEq.eq c.args.tasks.now) key ∙ c.requires.out)

pub wake-requires-clause-may : goal.wake-requires-clause-may
wake-requires-clause-may g c κs bounds =
    let r = c.requires.at_hand in
    let eq = g.U.Key.PartialEq.eq in
    let keys = c.laws_of.ensures.keys in
    let m = g.U.Universe.meaning in
    let law = c.laws_of.ensures.lawful in
    let named : c.name-name.result.now ≡ c.args.step.now.job.name = c.name-name.ensures ∙ ap (λ (z : Assigned g.row.U-Key.Denot g.row.U-Value.Denot). z.name) c.assignment.ensures in
    let there : c.version-version.result ≡ c.args.step.now.job.name.version = c.version-version.ensures ∙ ap (λ (n : Name g.row.U-Key.Denot). n.version) named in
    let key : arc_value c.key-own.result.now ≡ c.args.step.now.job.name.key = c.key-own.ensures ∙ ap (λ (n : Name g.row.U-Key.Denot). n.key) named in
    let v = c.version-version.result in
    let k = arc_value c.key-own.result.now in
    let x = arc_value c.args.value.now in
    let t = told c.args.event in
    let d = c.reserve.new.self in
    let step = c.args.step.now in
    let ps = c.args.tasks.now in
    let qs = c.end_value.new.tasks in
    let es = c.args.shared.now.graph in
    let s = c.args.shared.now.cells in
    let ys = c.in_ok-ending.ending.woken.items in
    let e = c.end_value.ensures.ended in
    let at = at_room eq m v r.0 c.args.owed ps c.args.shared.now.desk d es s c.reserve.ensures.same c.reserve.ensures.room (subst (λ n. AtHand eq m n r.0 c.args.owed ps c.args.shared.now.desk es s) (sym there) r.1) in
    let out : task_at eq ps k ≡ Some (held_of step.job IsOut) = ap (task_at eq ps) key ∙ c.requires.out in
    let ends : EndsWith v k step x t = subst (λ n. EndsWith n k step x t) (sym there) (subst (λ q. EndsWith step.job.name.version q step x t) (sym key) c.requires.ends) in
    let is = told_of v k step x t ends in
    let woken : AreWoken eq m s v k x ps ys = subst (λ n. AreWoken eq m s n k x ps ys) (sym there) (subst (λ q. AreWoken eq m s step.job.name.version q x ps ys) (sym key) c.in_ok-ending.ensures.woken) in
    let tells : TellsEnd eq v k e.0 (WithValue x) t ps qs d c.end_value.new.desk = subst (λ y. TellsEnd eq v k e.0 (WithValue y) t ps qs d c.end_value.new.desk) c.in_ok-ending.ensures.outcome e.1 in
    let o = ends_on eq keys m law v k x t ps qs d c.end_value.new.desk e.0 tells step.job out g.U.Value.PartialEq.eq step refl c.requires.step ends [] r.0 c.args.owed at.working in (
      v,
      [],
      r.0,
      c.args.owed,
      o.0,
      may_wake_now eq keys m law v k x t ps qs d c.end_value.new.desk e.0 tells step.job out is r.0 c.args.owed es s at o.1 ys woken,
    )

pub returns-clause-given : goal.returns-clause-given
returns-clause-given g c =
    let r = c.requires.at_hand in
    let eq = g.U.Key.PartialEq.eq in
    let keys = c.laws_of.ensures.keys in
    let m = g.U.Universe.meaning in
    let law = c.laws_of.ensures.lawful in
    let named : c.name-name.result.now ≡ c.args.step.now.job.name = c.name-name.ensures ∙ ap (λ (z : Assigned g.row.U-Key.Denot g.row.U-Value.Denot). z.name) c.assignment.ensures in
    let there : c.version-version.result ≡ c.args.step.now.job.name.version = c.version-version.ensures ∙ ap (λ (n : Name g.row.U-Key.Denot). n.version) named in
    let key : arc_value c.key-own.result.now ≡ c.args.step.now.job.name.key = c.key-own.ensures ∙ ap (λ (n : Name g.row.U-Key.Denot). n.key) named in
    let v = c.version-version.result in
    let k = arc_value c.key-own.result.now in
    let x = arc_value c.args.value.now in
    let t = told c.args.event in
    let d = c.reserve.new.self in
    let step = c.args.step.now in
    let ps = c.args.tasks.now in
    let qs = c.end_value.new.tasks in
    let es = c.args.shared.now.graph in
    let s = c.args.shared.now.cells in
    let ys = c.in_ok-ending.ending.woken.items in
    let e = c.end_value.ensures.ended in
    let at = at_room eq m v r.0 c.args.owed ps c.args.shared.now.desk d es s c.reserve.ensures.same c.reserve.ensures.room (subst (λ n. AtHand eq m n r.0 c.args.owed ps c.args.shared.now.desk es s) (sym there) r.1) in
    let out : task_at eq ps k ≡ Some (held_of step.job IsOut) = ap (task_at eq ps) key ∙ c.requires.out in
    let ends : EndsWith v k step x t = subst (λ n. EndsWith n k step x t) (sym there) (subst (λ q. EndsWith step.job.name.version q step x t) (sym key) c.requires.ends) in
    let is = told_of v k step x t ends in
    let woken : AreWoken eq m s v k x ps ys = subst (λ n. AreWoken eq m s n k x ps ys) (sym there) (subst (λ q. AreWoken eq m s step.job.name.version q x ps ys) (sym key) c.in_ok-ending.ensures.woken) in
    let tells : TellsEnd eq v k e.0 (WithValue x) t ps qs d c.end_value.new.desk = subst (λ y. TellsEnd eq v k e.0 (WithValue y) t ps qs d c.end_value.new.desk) c.in_ok-ending.ensures.outcome e.1 in
    let so : EndsAndWakes eq m s v k x step.job.name ps c.wake.new.tasks = ends_and_wakes eq keys m law v k x t ps qs d c.end_value.new.desk e.0 tells step.job out is
    c.wake.new.tasks c.wake.new.desk ys c.wake.ensures.woken c.wake.ensures.told r.0 c.args.owed es s at woken in
    subst (λ n. EndsAndWakes eq m s n step.job.name.key x step.job.name ps c.wake.new.tasks) there (subst (λ q. EndsAndWakes eq m s v q x step.job.name ps c.wake.new.tasks) key so)

pub returns-clause-kept : goal.returns-clause-kept
returns-clause-kept g c w at0 =
    let eq = g.U.Key.PartialEq.eq in
    let keys = c.laws_of.ensures.keys in
    let m = g.U.Universe.meaning in
    let law = c.laws_of.ensures.lawful in
    let named : c.name-name.result.now ≡ c.args.step.now.job.name = c.name-name.ensures ∙ ap (λ (z : Assigned g.row.U-Key.Denot g.row.U-Value.Denot). z.name) c.assignment.ensures in
    let there : c.version-version.result ≡ c.args.step.now.job.name.version = c.version-version.ensures ∙ ap (λ (n : Name g.row.U-Key.Denot). n.version) named in
    let key : arc_value c.key-own.result.now ≡ c.args.step.now.job.name.key = c.key-own.ensures ∙ ap (λ (n : Name g.row.U-Key.Denot). n.key) named in
    let v = c.version-version.result in
    let k = arc_value c.key-own.result.now in
    let x = arc_value c.args.value.now in
    let t = told c.args.event in
    let d = c.reserve.new.self in
    let step = c.args.step.now in
    let ps = c.args.tasks.now in
    let qs = c.end_value.new.tasks in
    let es = c.args.shared.now.graph in
    let s = c.args.shared.now.cells in
    let ys = c.in_ok-ending.ending.woken.items in
    let e = c.end_value.ensures.ended in
    let at = at_room eq m v w c.args.owed ps c.args.shared.now.desk d es s c.reserve.ensures.same c.reserve.ensures.room (subst (λ n. AtHand eq m n w c.args.owed ps c.args.shared.now.desk es s) (sym there) at0) in
    let out : task_at eq ps k ≡ Some (held_of step.job IsOut) = ap (task_at eq ps) key ∙ c.requires.out in
    let ends : EndsWith v k step x t = subst (λ n. EndsWith n k step x t) (sym there) (subst (λ q. EndsWith step.job.name.version q step x t) (sym key) c.requires.ends) in
    let is = told_of v k step x t ends in
    let woken : AreWoken eq m s v k x ps ys = subst (λ n. AreWoken eq m s n k x ps ys) (sym there) (subst (λ q. AreWoken eq m s step.job.name.version q x ps ys) (sym key) c.in_ok-ending.ensures.woken) in
    let tells : TellsEnd eq v k e.0 (WithValue x) t ps qs d c.end_value.new.desk = subst (λ y. TellsEnd eq v k e.0 (WithValue y) t ps qs d c.end_value.new.desk) c.in_ok-ending.ensures.outcome e.1 in
    let R = reverse d.events in
    let fs = c.finish.new.graph in
    let n = c.in_ok-ending.ensures in
    let f = c.in_ok-finish.ensures in
    let o = ends_on eq keys m law v k x t ps qs d c.end_value.new.desk e.0 tells step.job out g.U.Value.PartialEq.eq step refl c.requires.step ends [] w c.args.owed at.working in
    let may = may_wake_now eq keys m law v k x t ps qs d c.end_value.new.desk e.0 tells step.job out is w c.args.owed es s at o.1 ys woken in
    let b = within eq keys m law v k R [] ps (stands_at eq keys m law v k w c.args.owed ps d es s at) step.job out in
    let copied : arc_value c.in_ok-ending.ending.key ≡ k = n.key ∙ sym key in
    let entries : EntriesStand eq m (t ∷ R) fs = elim is as (λ _. EntriesStand eq m (t ∷ R) fs) [
      | inl i ↦ entries_ended eq m v R fs k (arc_value c.in_ok-ending.ending.key) x (arc_value c.in_ok-ending.ending.value) step.job.answered (arc_value c.in_ok-ending.ending.trace) copied n.value n.trace t i (f.ended R at.entries at.cells.are b) o.1
      | inr i ↦ entries_kept eq m v R fs k (arc_value c.in_ok-ending.ending.key) x (arc_value c.in_ok-ending.ending.value) step.job.answered (arc_value c.in_ok-ending.ending.trace) copied n.value n.trace t i.0 i.1 (f.kept R i.0 at.entries at.cells.are b) o.1
    ] in
    subst (λ n. AtHand eq m n w c.args.owed c.wake.new.tasks c.wake.new.desk fs s) there (at_ended eq keys m law v k x t ps qs d c.end_value.new.desk e.0 tells step.job out is
    c.wake.new.tasks c.wake.new.desk ys c.wake.ensures.woken c.wake.ensures.told w c.args.owed es s at
    (c.wake.ensures.kept v [] w c.args.owed o.0 may) (c.wake.ensures.tasked (c.end_value.ensures.tasked at.tasked)) fs entries)
