use Rattle.std.proofs.Common.{◌≡◌, nat_eq, Some, None, refl, sym, ap, ◌∙◌, subst}
use Rattle.std.specs.Prelude.{IsSome}
use Rattle.std.specs.Map.{lookup}
use Rattle.std.specs.Option.{option_copied_mut}
use Rattle.core_laws.specs.Tasks.{IsOut}
use Rattle.dice_tasks.specs.Helds.{held_of}
use Rattle.dice_tasks.specs.Endings.{Knows}
use Rattle.dice_core.proofs.JobsLemmas.{table_found, none_held, knows_at, back_stands, back_same_core, back_turned, unchanged, back_events}
use Rattle.dice_core.specs.Cores.{core_of, PutsTable, IsAsBefore}
use Rattle.dice_core.proofs.jobs_out.bring_back.Goals as goal

pub returns-in_default-clause-other : goal.returns-in_default-clause-other
returns-in_default-clause-other g c =
    let at : c.version-version.result ≡ c.args.job.name.version = c.version-version.ensures ∙ ap (λ n. n.version) c.name.ensures in
    let none : lookup (nat_eq c.args.job.name.version) c.args.versions.now.entries ≡ None = subst (λ n. lookup (nat_eq n) c.args.versions.now.entries ≡ None) at (sym c.get_mut.ensures.value ∙ ap option_copied_mut c.in_default.is) in
    (refl, λ es s x. subst (λ us. IsAsBefore g.U.Key.PartialEq.eq (core_of c.args.desk.now c.args.versions.now.entries es s x) (core_of c.args.desk.now us es s x)) (sym (ap (λ m. m.entries) c.get_mut.follows.holds-at-none)) (unchanged g.U.Key.PartialEq.eq (core_of c.args.desk.now c.args.versions.now.entries es s x)), λ out. none_held g.U.Key.PartialEq.eq c.args.versions.now.entries c.args.job.name.version c.args.job.name.key (held_of c.args.job IsOut) none out)

pub put_back-requires-clause-known : goal.put_back-requires-clause-known
put_back-requires-clause-known g c κs within =
    let eq = g.U.Key.PartialEq.eq in
    let r = c.requires.stands in
    let ts = c.args.versions.now.entries in
    let v = c.args.job.name.version in
    let at : c.version-version.result ≡ v = c.version-version.ensures ∙ ap (λ n. n.version) c.name.ensures in
    let mine : lookup (nat_eq c.version-version.result) ts ≡ Some c.in-Some.tasks.now = sym c.get_mut.ensures.value ∙ ap option_copied_mut c.in-Some.is in
    let known : lookup (nat_eq v) ts ≡ Some c.in-Some.tasks.now = subst (λ n. lookup (nat_eq n) ts ≡ Some c.in-Some.tasks.now) at mine in
    subst (λ ps. Knows eq v ps c.args.desk.now) (table_found ts v c.in-Some.tasks.now known) (knows_at eq c.laws_of.ensures.keys g.U.Universe.meaning c.laws_of.ensures.lawful c.args.desk.now ts r.0 r.1 r.2 r.3 v)

pub returns-clause-kept : goal.returns-clause-kept
returns-clause-kept g c = λ es s x st.
    let ts = c.args.versions.now.entries in
    let v = c.args.job.name.version in
    let at : c.version-version.result ≡ v = c.version-version.ensures ∙ ap (λ n. n.version) c.name.ensures in
    let mine : lookup (nat_eq c.version-version.result) ts ≡ Some c.in-Some.tasks.now = sym c.get_mut.ensures.value ∙ ap option_copied_mut c.in-Some.is in
    let known : lookup (nat_eq v) ts ≡ Some c.in-Some.tasks.now = subst (λ n. lookup (nat_eq n) ts ≡ Some c.in-Some.tasks.now) at mine in
    back_stands g.U.Key.PartialEq.eq c.laws_of.ensures.keys g.U.Universe.meaning c.laws_of.ensures.lawful c.args.job c.args.desk.now c.put_back.new.desk ts _ es s x st c.in-Some.tasks.now c.put_back.new.tasks c.put_back.result (λ j. j ≡ c.args.job) (table_found ts v c.in-Some.tasks.now known)
    (subst (λ n. PutsTable n c.put_back.new.tasks ts (c.get_mut.follows.lender c.put_back.new.tasks).entries) at ((c.get_mut.follows.holds c.put_back.new.tasks).3 (subst IsSome (sym mine) refl)).0) c.put_back.ensures.same c.put_back.ensures.back c.put_back.ensures.kept

pub returns-clause-other : goal.returns-clause-other
returns-clause-other g c =
    let ts = c.args.versions.now.entries in
    let v = c.args.job.name.version in
    let at : c.version-version.result ≡ v = c.version-version.ensures ∙ ap (λ n. n.version) c.name.ensures in
    let mine : lookup (nat_eq c.version-version.result) ts ≡ Some c.in-Some.tasks.now = sym c.get_mut.ensures.value ∙ ap option_copied_mut c.in-Some.is in
    let known : lookup (nat_eq v) ts ≡ Some c.in-Some.tasks.now = subst (λ n. lookup (nat_eq n) ts ≡ Some c.in-Some.tasks.now) at mine in
    back_same_core g.U.Key.PartialEq.eq c.args.job c.args.desk.now c.put_back.new.desk ts _ c.in-Some.tasks.now c.put_back.new.tasks c.put_back.result (λ j. j ≡ c.args.job) (table_found ts v c.in-Some.tasks.now known)
    (subst (λ n. PutsTable n c.put_back.new.tasks ts (c.get_mut.follows.lender c.put_back.new.tasks).entries) at ((c.get_mut.follows.holds c.put_back.new.tasks).3 (subst IsSome (sym mine) refl)).0) c.put_back.ensures.same c.put_back.ensures.other

pub returns-clause-back : goal.returns-clause-back
returns-clause-back g c =
    let ts = c.args.versions.now.entries in
    let v = c.args.job.name.version in
    let at : c.version-version.result ≡ v = c.version-version.ensures ∙ ap (λ n. n.version) c.name.ensures in
    let mine : lookup (nat_eq c.version-version.result) ts ≡ Some c.in-Some.tasks.now = sym c.get_mut.ensures.value ∙ ap option_copied_mut c.in-Some.is in
    let known : lookup (nat_eq v) ts ≡ Some c.in-Some.tasks.now = subst (λ n. lookup (nat_eq n) ts ≡ Some c.in-Some.tasks.now) at mine in
    back_turned g.U.Key.PartialEq.eq g.U.Universe.meaning c.args.job c.args.desk.now c.put_back.new.desk ts _ c.in-Some.tasks.now c.put_back.new.tasks c.put_back.result (table_found ts v c.in-Some.tasks.now known)
    (subst (λ n. PutsTable n c.put_back.new.tasks ts (c.get_mut.follows.lender c.put_back.new.tasks).entries) at ((c.get_mut.follows.holds c.put_back.new.tasks).3 (subst IsSome (sym mine) refl)).0) c.put_back.ensures.back

pub returns-clause-events : goal.returns-clause-events
returns-clause-events g c =
    back_events g.U.Key.PartialEq.eq c.args.job c.args.desk.now c.put_back.new.desk c.in-Some.tasks.now c.put_back.new.tasks c.put_back.result (λ j. j ≡ c.args.job) c.put_back.ensures.same c.put_back.ensures.back
