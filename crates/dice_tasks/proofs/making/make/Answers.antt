use Rattle.std.proofs.Common.{◌≡◌, ◌+◌, ◌∷◌, [], reverse, refl, sym, ap, ◌∙◌, subst, arith}
use Rattle.std.proofs.lemmas.List.{append-nil}
use Rattle.std.specs.Arc.{arc_value}
use Rattle.journal.specs.Law.{IsTrueCause}
use Rattle.journal.specs.Tell.{reason_of}
use Rattle.versioned_graph.specs.Looks.{Matches, Computes, Checks}
use Rattle.dice_tasks.specs.Makings.{IsMaking, IsOfKey, MakesEnded}
use Rattle.dice_tasks.proofs.LooksLemmas.{look_stands}
use Rattle.dice_tasks.proofs.MakeLemmas.{works_less, match_makes, run_works, run_stands, check_works, check_stands, makes_ended_of, readies_of}
use Rattle.journal.specs.declared.event.Told.TheVariants.{Start, Keep}
use Rattle.dice_tasks.specs.Hands.{Readies, with_event, with_made}
use Rattle.dice_tasks.specs.Shelves.{place_of}
use Rattle.dice_tasks.proofs.MakeFrames.{alone_none, alone_ended, alone_made, other_entries}
use Rattle.dice_tasks.proofs.making.make.Given.{Over}
use Rattle.dice_tasks.proofs.making.make.Goals as goal
use Rattle.dice_tasks.proofs.making.make.Goals.{After-seen, After-begin, After-begin-in-Check}

-- what a task that has ended makes of the table
match_tasks : (g : Over) (c : After-seen g) → MakesEnded g.U.Key.PartialEq.eq (arc_value c.args.key.now) c.in-Match.task c.args.tasks.now c.make_ended.new.self
match_tasks g c =
    let t = c.make_ended.ensures in
    makes_ended_of g.U.Key.PartialEq.eq (arc_value c.args.key.now) c.in-Match.task c.args.tasks.now c.make_ended.new.self t.tasks t.live t.asks t.room

match_desk : (g : Over) (c : After-seen g) → c.push.new.self ≡ with_event c.args.desk.now (Keep c.args.version (arc_value c.args.key.now) c.in-Match.base)
match_desk g c = c.push.ensures ∙ ap (λ j. with_event c.args.desk.now (Keep c.args.version j c.in-Match.base)) (subst (λ z. IsOfKey c.args.version (arc_value c.args.key.now) z) c.in-Match.is c.requires.own)

-- what a run makes of the desk, and a check
run_desk : (g : Over) (c : After-begin g) → Readies (c.args.version, arc_value c.args.key.now) (with_made (with_event c.args.desk.now (Start c.args.version (arc_value c.args.key.now) (reason_of c.in-Run.cause)))) c.begin.new.desk
run_desk g c =
    let own = subst (λ z. IsOfKey c.args.version (arc_value c.args.key.now) z) c.in-Run.is c.requires.own in
    readies_of g.U.Key.PartialEq.eq c.args.version (arc_value c.args.key.now) _ _ c.begin.new.desk (place_of c.in-Run.ready)
    (ap with_made (c.push-in-Run.ensures ∙ ap (λ j. with_event c.args.desk.now (Start c.args.version j (reason_of c.in-Run.cause))) own.0)) own.1 c.begin.ensures.desk

check_desk : (g : Over) (c : After-begin-in-Check g) → Readies (c.args.version, arc_value c.args.key.now) (with_made c.args.desk.now) c.begin-in-Check.new.desk
check_desk g c = readies_of g.U.Key.PartialEq.eq c.args.version (arc_value c.args.key.now) _ _ c.begin-in-Check.new.desk (place_of c.in-Check.ready) refl (subst (λ z. IsOfKey c.args.version (arc_value c.args.key.now) z) c.in-Check.is c.requires.own) c.begin-in-Check.ensures.desk

pub returns-in-Match-clause-kept : goal.returns-in-Match-clause-kept
returns-in-Match-clause-kept g c w W owed born h stands may is =
    let eq = g.U.Key.PartialEq.eq in
    let m = g.U.Universe.meaning in
    let k = arc_value c.args.key.now in
    let R = reverse c.args.desk.now.events in
    let i = subst (λ z. IsMaking eq m c.args.version k born c.args.tasks.now c.args.graph.now z) c.in-Match.is is in
    match_makes eq c.laws_of.ensures.keys m c.laws_of.ensures.lawful c.args.version k c.args.tasks.now c.make_ended.new.self c.args.desk.now c.push.new.self
    w W owed born c.in-Match.base c.args.graph.now c.seen.new.graph i.1.0 c.in-Match.task
    (works_less eq c.laws_of.ensures.keys m c.laws_of.ensures.lawful c.args.version k c.args.tasks.now c.args.tasks.now c.args.desk.now c.args.desk.now w W (owed + 3) (owed + 1) (omega arith) h) stands may i.0
    (look_stands eq m R c.args.graph.now stands k c.args.version (Matches i.1.0 c.in-Match.base) may.within i.1.1) i.1.2 (match_tasks g c) (match_desk g c) c.seen.ensures.kept

pub returns-in-Run-clause-kept : goal.returns-in-Run-clause-kept
returns-in-Run-clause-kept g c w W owed born h stands may is =
    let eq = g.U.Key.PartialEq.eq in
    let m = g.U.Universe.meaning in
    let k = arc_value c.args.key.now in
    let R = reverse c.args.desk.now.events in
    let i = subst (λ z. IsMaking eq m c.args.version k born c.args.tasks.now c.args.graph.now z) c.in-Run.is is in (
      run_works eq c.laws_of.ensures.keys m c.laws_of.ensures.lawful c.args.version k c.args.tasks.now c.begin.new.tasks c.args.desk.now c.begin.new.desk w W owed born (reason_of c.in-Run.cause) c.in-Run.task h may i.0
          (subst (IsTrueCause eq m R c.args.version k) (sym i.1.2) (look_stands eq m R c.args.graph.now stands k c.args.version (Computes i.1.0) may.within i.1.1)) i.1.3 c.begin.ensures.tasks (run_desk g c),
      run_stands eq c.laws_of.ensures.keys m c.laws_of.ensures.lawful c.args.version k c.args.tasks.now c.args.tasks.now c.args.desk.now c.begin.new.desk c.args.graph.now (reason_of c.in-Run.cause) stands (run_desk g c),
    )

pub returns-in-Check-clause-kept : goal.returns-in-Check-clause-kept
returns-in-Check-clause-kept g c w W owed born h stands may is =
    let eq = g.U.Key.PartialEq.eq in
    let m = g.U.Universe.meaning in
    let k = arc_value c.args.key.now in
    let R = reverse c.args.desk.now.events in
    let i = subst (λ z. IsMaking eq m c.args.version k born c.args.tasks.now c.args.graph.now z) c.in-Check.is is in (
      check_works eq c.laws_of.ensures.keys m c.laws_of.ensures.lawful c.args.version k c.args.tasks.now c.begin-in-Check.new.tasks c.args.desk.now c.begin-in-Check.new.desk w W owed born i.1.0 i.1.1 i.1.2 c.in-Check.task
          (works_less eq c.laws_of.ensures.keys m c.laws_of.ensures.lawful c.args.version k c.args.tasks.now c.args.tasks.now c.args.desk.now c.args.desk.now w W (owed + 3) (owed + 2) (omega arith) h) may i.0
          (look_stands eq m R c.args.graph.now stands k c.args.version (Checks i.1.0 i.1.1 i.1.2) may.within i.1.3) i.1.4 c.begin-in-Check.ensures.tasks (check_desk g c),
      check_stands eq c.laws_of.ensures.keys m c.laws_of.ensures.lawful c.args.version k c.args.tasks.now c.args.tasks.now c.args.desk.now c.begin-in-Check.new.desk c.args.graph.now stands (check_desk g c),
    )

pub returns-in-Join-clause-alone : goal.returns-in-Join-clause-alone
returns-in-Join-clause-alone g c = alone_none g.U.Key.PartialEq.eq c.args.version (arc_value c.args.key.now) _ _ _ _ _ _ refl refl refl

pub returns-in-Match-clause-alone : goal.returns-in-Match-clause-alone
returns-in-Match-clause-alone g c =
    alone_ended g.U.Key.PartialEq.eq c.args.version (arc_value c.args.key.now) c.args.tasks.now c.make_ended.new.self c.args.desk.now c.push.new.self c.args.graph.now c.seen.new.graph c.in-Match.base c.in-Match.task
    (match_tasks g c) (match_desk g c) (other_entries g.U.Key.PartialEq.eq c.args.version (arc_value c.args.key.now) c.args.graph.now c.seen.new.graph c.seen.ensures.entries) c.seen.ensures.edges

pub returns-in-Run-clause-alone : goal.returns-in-Run-clause-alone
returns-in-Run-clause-alone g c =
    let k = arc_value c.args.key.now in
    let x = Start c.args.version k (reason_of c.in-Run.cause) in
    alone_made g.U.Key.PartialEq.eq c.args.version k c.args.tasks.now c.begin.new.tasks c.args.desk.now c.begin.new.desk c.args.graph.now c.args.graph.now (x ∷ []) c.in-Run.task c.begin.ensures.tasks
    (with_event c.args.desk.now x) refl refl (omega arith) refl refl ((refl, refl), tt) (run_desk g c) refl

pub returns-in-Check-clause-alone : goal.returns-in-Check-clause-alone
returns-in-Check-clause-alone g c =
    alone_made g.U.Key.PartialEq.eq c.args.version (arc_value c.args.key.now) c.args.tasks.now c.begin-in-Check.new.tasks c.args.desk.now c.begin-in-Check.new.desk c.args.graph.now c.args.graph.now [] c.in-Check.task c.begin-in-Check.ensures.tasks
    c.args.desk.now (sym (append-nil c.args.desk.now.events)) refl (omega arith) refl refl tt (check_desk g c) refl
