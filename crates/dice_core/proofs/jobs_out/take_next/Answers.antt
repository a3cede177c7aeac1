use Rattle.std.proofs.Common.{◌≡◌, nat_eq, Some, None, [], refl, sym, ap, ◌∙◌, subst}
use Rattle.std.specs.Prelude.{IsSome}
use Rattle.std.specs.Map.{lookup}
use Rattle.std.specs.Option.{option_copied_mut}
use Rattle.std.specs.Arc.{arc_value}
use Rattle.dice_tasks.specs.Hands.{Working, AreNamed}
use Rattle.dice_core.specs.Sessions.{owed}
use Rattle.dice_core.specs.Cores.{world_of}
use Rattle.dice_core.proofs.CoreLemmas.{working_in}
use Rattle.dice_core.proofs.JobsLemmas.{table_found, none_found, next_open, take_turned, take_stands}
use Rattle.dice_core.proofs.jobs_out.take_next.Goals as goal

pub returns-in_default-get_mut-clause-none : goal.returns-in_default-get_mut-clause-none
returns-in_default-get_mut-clause-none g c =
    let eq = g.U.Key.PartialEq.eq in
    let r = c.requires.stands in
    let ts = c.args.versions.now.entries in
    let v = c.in-Some.ready.now.version in
    let n = c.in-Some.ensures.some in
    let none : lookup (nat_eq v) ts ≡ None = sym c.get_mut.ensures.value ∙ ap option_copied_mut c.in_default-get_mut.is in
    absurd (none_found ts v none (r.3.tabled v (next_open eq c.laws_of.ensures.keys g.U.Universe.meaning c.laws_of.ensures.lawful c.args.desk.now ts r.0 r.1 r.2 r.3 v (arc_value c.in-Some.ready.now.key) n.0 n.1)))

pub take-requires-after_bounds : goal.take-requires-after_bounds
take-requires-after_bounds g c κs within =
    let eq = g.U.Key.PartialEq.eq in
    let m = g.U.Universe.meaning in
    let r = c.requires.stands in
    let ts = c.args.versions.now.entries in
    let v = c.in-Some.ready.now.version in
    let n = c.in-Some.ensures.some in
    let known : lookup (nat_eq v) ts ≡ Some c.in-Some-get_mut.tasks.now = sym c.get_mut.ensures.value ∙ ap option_copied_mut c.in-Some-get_mut.is in (
      v,
      arc_value c.in-Some.ready.now.key,
      n.0,
      world_of eq ts,
      owed r.2,
      n.1,
      subst (λ ps. Working eq m v [] (world_of eq ts) (owed r.2) ps c.args.desk.now) (table_found ts v c.in-Some-get_mut.tasks.now known)
          (working_in eq c.laws_of.ensures.keys m c.laws_of.ensures.lawful _ r.3 v),
    )

pub returns-clause-some : goal.returns-clause-some
returns-clause-some g c =
    let eq = g.U.Key.PartialEq.eq in
    let ts = c.args.versions.now.entries in
    let v = c.in-Some.ready.now.version in
    let known : lookup (nat_eq v) ts ≡ Some c.in-Some-get_mut.tasks.now = sym c.get_mut.ensures.value ∙ ap option_copied_mut c.in-Some-get_mut.is in
    let found = table_found ts v c.in-Some-get_mut.tasks.now known in
    take_turned eq g.U.Universe.meaning ts _ v c.in-Some-get_mut.tasks.now c.take.new.tasks c.args.desk.now c.take.new.desk c.take.result found
    ((c.get_mut.follows.holds c.take.new.tasks).3 (subst IsSome (sym known) refl)).0 (subst (AreNamed eq v) found (c.requires.stands.3.named v)) c.take.ensures.taken

pub returns-clause-kept : goal.returns-clause-kept
returns-clause-kept g c = λ es s x st.
    let eq = g.U.Key.PartialEq.eq in
    let ts = c.args.versions.now.entries in
    let v = c.in-Some.ready.now.version in
    let known : lookup (nat_eq v) ts ≡ Some c.in-Some-get_mut.tasks.now = sym c.get_mut.ensures.value ∙ ap option_copied_mut c.in-Some-get_mut.is in
    take_stands eq c.laws_of.ensures.keys g.U.Universe.meaning c.laws_of.ensures.lawful c.args.desk.now c.take.new.desk ts _ es s x st v c.in-Some-get_mut.tasks.now c.take.new.tasks c.take.result (table_found ts v c.in-Some-get_mut.tasks.now known)
    ((c.get_mut.follows.holds c.take.new.tasks).3 (subst IsSome (sym known) refl)).0 c.take.ensures.taken c.take.ensures.kept c.take.ensures.some
