use Rattle.std.proofs.Common.{◌+◌, refl, sym, ap, ◌∙◌, subst}
use Rattle.std.specs.Arc.{arc_value}
use Rattle.journal.specs.declared.event.Told.TheVariants.{Ask}
use Rattle.dice_steps.specs.AtHand.{AtHand}
use Rattle.dice_tasks.specs.Hands.{with_event}
use Rattle.dice_core.specs.Joinings.{AsksForKey}
use Rattle.dice_core.proofs.CloseLemmas.{keeps_on}
use Rattle.dice_core.proofs.JoinLemmas.{kept_room, hand_injected, can_make_there, hand_made, asks_made}
use Rattle.dice_core.proofs.ask.ask_key.Goals as goal

pub returns-then-is_injected-clause-kept : goal.returns-then-is_injected-clause-kept
returns-then-is_injected-clause-kept g c w s h =
    let eq = g.U.Key.PartialEq.eq in
    let m = g.U.Universe.meaning in
    let d = c.reserve.new.self in
    let k = arc_value c.key-key.result.now in
    let ps = c.args.tasks.now in
    let told = c.push.ensures ∙ ap (with_event d) (c.in_ok-told.ensures ∙ ap (Ask c.args.asking.now.by c.args.asking.now.opened) (sym c.key-key.ensures)) in
    subst (λ z. AtHand eq m c.args.version w (c.args.owed + 1) ps z c.args.shared.now.graph s) (sym told)
    (hand_injected eq c.laws_of.ensures.keys m c.laws_of.ensures.lawful c.args.version c.args.asking.now.by c.args.asking.now.opened k ps ps c.args.shared.now.desk d c.reserve.ensures.same (λ q. refl) (λ q. refl) w c.args.owed c.args.shared.now.graph s
    (record { hands = c.reserve.ensures.same; room = c.reserve.ensures.room; tasks = λ q. refl; live = λ q. refl; asks = λ q a. refl }) (record { tasks = λ q. refl; live = λ q. refl; count = refl })
    (c.is_injected.ensures.yes c.if-is_injected.true) c.requires.opened c.in_ok-reserve.ensures.ok h)

pub make-requires-clause-room : goal.make-requires-clause-room
make-requires-clause-room g c κs within =
    let eq = g.U.Key.PartialEq.eq in
    let m = g.U.Universe.meaning in
    let d = c.reserve.new.self in
    let os = c.reserve_promise.new.self in
    let qs = c.add_promise.new.self in
    let k = arc_value c.key-key.result.now in
    let ps = c.args.tasks.now in
    let es = c.args.shared.now.graph in
    let h = c.requires.hand in
    can_make_there eq c.laws_of.ensures.keys m c.laws_of.ensures.lawful c.args.version c.args.asking.now.by c.args.asking.now.opened k c.in_ok-index.index ps os qs qs c.args.shared.now.desk d d es es c.in_ok-making.making c.in_ok-index.ensures.0
    (kept_room eq ps os c.args.shared.now.desk d c.reserve_promise.ensures.tasks c.reserve_promise.ensures.asks c.reserve.ensures.same c.reserve.ensures.room) (keeps_on eq ps os qs c.reserve_promise.ensures.tasks c.add_promise.ensures.tasks)
    c.add_promise.ensures.room c.add_promise.ensures.asks c.in_ok-reserve_promise.ensures.ok c.requires.opened (c.is_injected.ensures.no c.if-is_injected.false) (c.in_ok-making.ensures.making os (sym c.task-task.ensures))
    c.push-2.new.self (c.push-2.ensures ∙ ap (with_event d) (c.in_ok-told.ensures ∙ ap (Ask c.args.asking.now.by c.args.asking.now.opened) (sym c.key-key.ensures))) h.0 c.args.owed c.in_ok-reserve.ensures.ok h.2.working

pub returns-clause-asked : goal.returns-clause-asked
returns-clause-asked g c =
    let eq = g.U.Key.PartialEq.eq in
    let m = g.U.Universe.meaning in
    let d = c.reserve.new.self in
    let os = c.reserve_promise.new.self in
    let qs = c.add_promise.new.self in
    let k = arc_value c.key-key.result.now in
    let ps = c.args.tasks.now in
    let es = c.args.shared.now.graph in
    let h = c.requires.hand in
    subst (λ z. AsksForKey eq m c.args.version c.args.asking.now.by c.args.asking.now.opened z ps c.make.new.tasks es c.make.new.graph c.args.shared.now.desk c.make.new.desk) c.key-key.ensures
    (asks_made eq c.laws_of.ensures.keys m c.laws_of.ensures.lawful c.args.version c.args.asking.now.by c.args.asking.now.opened k c.in_ok-index.index ps os qs c.make.new.tasks c.args.shared.now.desk d c.make.new.desk es c.make.new.graph c.in_ok-making.making c.in_ok-index.ensures.0
    (kept_room eq ps os c.args.shared.now.desk d c.reserve_promise.ensures.tasks c.reserve_promise.ensures.asks c.reserve.ensures.same c.reserve.ensures.room) (keeps_on eq ps os qs c.reserve_promise.ensures.tasks c.add_promise.ensures.tasks)
    c.add_promise.ensures.room c.add_promise.ensures.asks c.in_ok-reserve_promise.ensures.ok c.requires.opened (c.is_injected.ensures.no c.if-is_injected.false) (c.in_ok-making.ensures.making os (sym c.task-task.ensures))
    c.push-2.new.self (c.push-2.ensures ∙ ap (with_event d) (c.in_ok-told.ensures ∙ ap (Ask c.args.asking.now.by c.args.asking.now.opened) (sym c.key-key.ensures))) c.make.ensures.made c.make.ensures.alone h.0 c.args.owed h.2.working)

pub returns-clause-kept : goal.returns-clause-kept
returns-clause-kept g c w s h =
    let eq = g.U.Key.PartialEq.eq in
    let m = g.U.Universe.meaning in
    let d = c.reserve.new.self in
    let os = c.reserve_promise.new.self in
    let qs = c.add_promise.new.self in
    let k = arc_value c.key-key.result.now in
    let ps = c.args.tasks.now in
    let es = c.args.shared.now.graph in
    hand_made eq c.laws_of.ensures.keys m c.laws_of.ensures.lawful c.args.version c.args.asking.now.by c.args.asking.now.opened k c.in_ok-index.index ps os qs c.make.new.tasks c.args.shared.now.desk d c.make.new.desk es c.make.new.graph c.in_ok-making.making c.in_ok-index.ensures.0
    (kept_room eq ps os c.args.shared.now.desk d c.reserve_promise.ensures.tasks c.reserve_promise.ensures.asks c.reserve.ensures.same c.reserve.ensures.room) (keeps_on eq ps os qs c.reserve_promise.ensures.tasks c.add_promise.ensures.tasks)
    c.add_promise.ensures.room c.add_promise.ensures.asks c.in_ok-reserve_promise.ensures.ok c.requires.opened (c.is_injected.ensures.no c.if-is_injected.false) (c.in_ok-making.ensures.making os (sym c.task-task.ensures))
    c.push-2.new.self (c.push-2.ensures ∙ ap (with_event d) (c.in_ok-told.ensures ∙ ap (Ask c.args.asking.now.by c.args.asking.now.opened) (sym c.key-key.ensures))) c.make.ensures.made c.make.ensures.alone w c.args.owed s c.in_ok-reserve.ensures.ok (λ x W owed born. c.make.ensures.kept x W owed born) h
