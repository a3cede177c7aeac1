use Rattle.std.proofs.Common.{◌≡◌, reverse, Some, refl, sym, ap, ◌∙◌, subst}
use Rattle.journal.specs.declared.event.Told.TheVariants.{Close}
use Rattle.journal.specs.Events.{ended_at}
use Rattle.dice_core.specs.Sessions.{owed}
use Rattle.dice_tasks.specs.Hands.{DeskSeen, with_event, Cleaning}
use Rattle.dice_tasks.specs.Endings.{DropsTasks}
use Rattle.dice_core.proofs.AskingLemmas.{left_tasked}
use Rattle.dice_core.proofs.CloseLemmas.{promised_here, closed_cleaning, closed_log, closed_sessions, closed_counts, left_again}
use Rattle.dice_core.proofs.close.close_asks.Goals as goal
use Rattle.std.proofs.lemmas.Bool.{and_parts}

pub cascade-requires-clause-cleaning : goal.cascade-requires-clause-cleaning
cascade-requires-clause-cleaning g c κs within =
    let h = c.requires.hand in
    let eq = g.U.Key.PartialEq.eq in
    let m = g.U.Universe.meaning in
    let t = c.take_promises.ensures.all (reverse c.args.desk.now.events) c.args.session.by c.args.tx c.requires.closing (promised_here eq c.laws_of.ensures.keys m c.laws_of.ensures.lawful c.args.version h.0 _ _ _ h.3.working) in
    let r = closed_cleaning eq c.laws_of.ensures.keys m c.laws_of.ensures.lawful c.args.version c.args.session.by c.args.tx (owed c.args.sessions.now) (owed c.take_promises.new.sessions) _ c.args.session.asks _ _ _ c.take_promises.ensures.owed c.requires.opened refl refl c.requires.listed
    c.take_promises.ensures.tasks t.asks h.0 h.3.working in
    (h.0, owed c.take_promises.new.sessions, subst (λ z. Cleaning eq m c.args.version h.0 (owed c.take_promises.new.sessions) c.take_promises.new.tasks z) (sym (c.push.ensures ∙ ap (λ b. with_event c.args.desk.now (Close b c.args.tx)) c.by-by.ensures)) r.0)

pub cascade-requires-clause-after : goal.cascade-requires-clause-after
cascade-requires-clause-after g c κs within =
    let h = c.requires.hand in
    let eq = g.U.Key.PartialEq.eq in
    let m = g.U.Universe.meaning in
    let t = c.take_promises.ensures.all (reverse c.args.desk.now.events) c.args.session.by c.args.tx c.requires.closing (promised_here eq c.laws_of.ensures.keys m c.laws_of.ensures.lawful c.args.version h.0 _ _ _ h.3.working) in
    let r = closed_cleaning eq c.laws_of.ensures.keys m c.laws_of.ensures.lawful c.args.version c.args.session.by c.args.tx (owed c.args.sessions.now) (owed c.take_promises.new.sessions) _ c.args.session.asks _ _ _ c.take_promises.ensures.owed c.requires.opened refl refl c.requires.listed
    c.take_promises.ensures.tasks t.asks h.0 h.3.working in
    subst (λ (z : DeskSeen g.row.U-Key.Denot g.row.U-Value.Denot). ended_at (reverse z.events) ≡ Some c.args.version) (sym (c.push.ensures ∙ ap (λ b. with_event c.args.desk.now (Close b c.args.tx)) c.by-by.ensures)) r.1

pub returns-clause-log : goal.returns-clause-log
returns-clause-log g c =
    let eq = g.U.Key.PartialEq.eq in
    let d = c.cascade.ensures.dropped in
    let told = c.push.ensures ∙ ap (λ b. with_event c.args.desk.now (Close b c.args.tx)) c.by-by.ensures in (
      d.0,
      closed_log eq c.laws_of.ensures.keys g.U.Universe.meaning c.laws_of.ensures.lawful c.args.version (Close c.args.session.by c.args.tx) d.0 _ _ _ c.args.desk.now _ c.take_promises.ensures.tasks
          (subst (λ z. DropsTasks eq c.args.version d.0 c.take_promises.new.tasks c.cascade.new.tasks z c.cascade.new.desk) told d.1),
    )

pub returns-clause-sessions : goal.returns-clause-sessions
returns-clause-sessions g c =
    let h = c.requires.hand in
    let eq = g.U.Key.PartialEq.eq in
    let m = g.U.Universe.meaning in
    let d = c.cascade.ensures.dropped in
    let told = c.push.ensures ∙ ap (λ b. with_event c.args.desk.now (Close b c.args.tx)) c.by-by.ensures in
    let t = c.take_promises.ensures.all (reverse c.args.desk.now.events) c.args.session.by c.args.tx c.requires.closing (promised_here eq c.laws_of.ensures.keys m c.laws_of.ensures.lawful c.args.version h.0 _ _ _ h.3.working) in
    closed_sessions eq c.laws_of.ensures.keys m c.laws_of.ensures.lawful c.args.version c.args.session.by c.args.tx d.0 _ _ c.args.desk.now c.cascade.new.desk c.take_promises.new.sessions
    (subst (λ z. DropsTasks eq c.args.version d.0 c.take_promises.new.tasks c.cascade.new.tasks z c.cascade.new.desk) told d.1) t.closing

pub returns-clause-counts : goal.returns-clause-counts
returns-clause-counts g c =
    let eq = g.U.Key.PartialEq.eq in
    let d = c.cascade.ensures.dropped in
    let told = c.push.ensures ∙ ap (λ b. with_event c.args.desk.now (Close b c.args.tx)) c.by-by.ensures in
    closed_counts eq c.laws_of.ensures.keys g.U.Universe.meaning c.laws_of.ensures.lawful c.args.version c.args.session.by c.args.tx _ d.0 _ _ c.args.desk.now c.cascade.new.desk
    (subst (λ z. DropsTasks eq c.args.version d.0 c.take_promises.new.tasks c.cascade.new.tasks z c.cascade.new.desk) told d.1) c.requires.opened refl

pub returns-clause-kept : goal.returns-clause-kept
returns-clause-kept g c w es s h =
    let eq = g.U.Key.PartialEq.eq in
    let m = g.U.Universe.meaning in
    let keys = c.laws_of.ensures.keys in
    let law = c.laws_of.ensures.lawful in
    let v = c.args.version in
    let d = c.cascade.ensures.dropped in
    let told = c.push.ensures ∙ ap (λ b. with_event c.args.desk.now (Close b c.args.tx)) c.by-by.ensures in
    let t = c.take_promises.ensures.all (reverse c.args.desk.now.events) c.args.session.by c.args.tx c.requires.closing (promised_here eq keys m law v w _ _ _ h.working) in
    let less = owed c.take_promises.new.sessions in
    let r = closed_cleaning eq keys m law v c.args.session.by c.args.tx (owed c.args.sessions.now) less _ c.args.session.asks _ _ _ c.take_promises.ensures.owed c.requires.opened refl refl c.requires.listed c.take_promises.ensures.tasks t.asks w h.working in
    let cleaning = subst (λ z. Cleaning eq m v w less c.take_promises.new.tasks z) (sym told) r.0 in
    left_again eq keys m law v c.args.session.by c.args.tx d.0 less _ _ c.args.desk.now c.cascade.new.desk es s w
    (subst (λ z. DropsTasks eq v d.0 c.take_promises.new.tasks c.cascade.new.tasks z c.cascade.new.desk) told d.1) h.told h.entries h.cells (c.cascade.ensures.kept w less cleaning)
    (c.cascade.ensures.tasked (left_tasked eq keys m law v _ _ c.take_promises.ensures.tasks (λ q a i. (and_parts _ _ (sym (t.asks q a) ∙ i)).0) h.tasked)) c.cascade.ensures.done
