use Rattle.std.proofs.Common.{◌≡◌, nat_eq, Some, None, refl, sym, ap, ◌∙◌, subst}
use Rattle.std.specs.Prelude.{IsSome}
use Rattle.std.specs.Map.{lookup}
use Rattle.std.specs.Option.{option_copied_mut}
use Rattle.std.specs.Arc.{arc_value}
use Rattle.task_share.specs.Seen.{task_at}
use Rattle.core_laws.specs.Tasks.{IsOut}
use Rattle.dice_tasks.specs.Helds.{held_of}
use Rattle.dice_tasks.specs.Endings.{GivesUpAll}
use Rattle.dice_core.specs.Sessions.{owed}
use Rattle.dice_core.specs.Cores.{PutsTable, world_of, table_at}
use Rattle.dice_core.proofs.GivingUp.{given_up_works}
use Rattle.dice_core.proofs.JobsLemmas.{table_found, hand_there, failed_stands}
use Rattle.dice_core.proofs.jobs_out.fail_named.Goals as goal

pub give_up-requires-clause-hand : goal.give_up-requires-clause-hand
give_up-requires-clause-hand g c κs within =
    let eq = g.U.Key.PartialEq.eq in
    let r = c.requires.stands in
    let ts = c.args.versions.now.entries in
    let n = c.args.name.now in
    let v = c.version-version.result in
    let out = c.if-not-is_out_among.ensures.0 refl in
    let known : lookup (nat_eq v) ts ≡ Some c.in-Some.tasks.now = sym c.get_mut.ensures.value ∙ ap option_copied_mut c.in-Some.is in
    let there : task_at eq (table_at ts v) n.key ≡ Some (held_of out.0 IsOut) = ap (λ z. task_at eq (table_at ts z) n.key) c.version-version.ensures ∙ out.1 in
    (world_of eq ts, owed r.2, r.0, r.1, hand_there eq c.laws_of.ensures.keys g.U.Universe.meaning c.laws_of.ensures.lawful c.args.desk.now ts r.0 r.1 r.2 r.3 v n.key (held_of out.0 IsOut) c.in-Some.tasks.now (table_found ts v c.in-Some.tasks.now known) there)

pub returns-clause-failed : goal.returns-clause-failed
returns-clause-failed g c = λ t.
    let eq = g.U.Key.PartialEq.eq in
    let ts = c.args.versions.now.entries in
    let n = c.args.name.now in
    let v = c.version-version.result in
    let at : v ≡ n.version = c.version-version.ensures in
    let qs = c.give_up.new.tasks in
    let known : lookup (nat_eq v) ts ≡ Some c.in-Some.tasks.now = sym c.get_mut.ensures.value ∙ ap option_copied_mut c.in-Some.is in
    let found : table_at ts n.version ≡ c.in-Some.tasks.now = subst (λ z. table_at ts z ≡ c.in-Some.tasks.now) at (table_found ts v c.in-Some.tasks.now known) in
    let all = subst (λ z. GivesUpAll eq v None z c.in-Some.tasks.now qs c.args.desk.now c.give_up.new.desk) c.key.ensures c.give_up.ensures.ends in (
      c.if-not-is_out_among.ensures.0 refl,
      record {
        tasks = qs;
        put = subst (λ z. PutsTable z qs ts (c.get_mut.follows.lender qs).entries) at ((c.get_mut.follows.holds qs).3 (subst IsSome (sym known) refl)).0;
        turned = subst (λ a. GivesUpAll eq n.version None n.key a qs c.args.desk.now c.give_up.new.desk) (sym found) (subst (λ z. GivesUpAll eq z None n.key c.in-Some.tasks.now qs c.args.desk.now c.give_up.new.desk) at all);
      },
    )

pub returns-clause-kept : goal.returns-clause-kept
returns-clause-kept g c = λ es s x st.
    let eq = g.U.Key.PartialEq.eq in
    let m = g.U.Universe.meaning in
    let ts = c.args.versions.now.entries in
    let n = c.args.name.now in
    let v = c.version-version.result in
    let qs = c.give_up.new.tasks in
    let out = c.if-not-is_out_among.ensures.0 refl in
    let known : lookup (nat_eq v) ts ≡ Some c.in-Some.tasks.now = sym c.get_mut.ensures.value ∙ ap option_copied_mut c.in-Some.is in
    let found : table_at ts v ≡ c.in-Some.tasks.now = table_found ts v c.in-Some.tasks.now known in
    let there : task_at eq c.in-Some.tasks.now n.key ≡ Some (held_of out.0 IsOut) = ap (λ a. task_at eq a n.key) (sym found) ∙ (ap (λ z. task_at eq (table_at ts z) n.key) c.version-version.ensures ∙ out.1) in
    failed_stands eq c.laws_of.ensures.keys m c.laws_of.ensures.lawful c.args.desk.now c.give_up.new.desk ts _ es s x st v n.key (held_of out.0 IsOut) c.in-Some.tasks.now qs found
    ((c.get_mut.follows.holds qs).3 (subst IsSome (sym known) refl)).0 there
    (given_up_works eq m v None (arc_value c.key.result.now) c.in-Some.tasks.now qs c.args.desk.now c.give_up.new.desk c.give_up.ensures.ends) c.give_up.ensures.kept
