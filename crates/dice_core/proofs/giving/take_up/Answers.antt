use Rattle.std.proofs.Common.{◌≡◌, nat_eq, ℕ, Some, None, refl, sym, ap, ◌∙◌, subst}
use Rattle.std.specs.Prelude.{IsSome}
use Rattle.std.specs.Map.{lookup}
use Rattle.std.specs.Option.{option_copied_mut}
use Rattle.core_laws.specs.Tasks.{IsOut}
use Rattle.dice_steps.specs.AtHand.{AtHand}
use Rattle.dice_core.specs.Givings.{stale_of, IsTakenUp}
use Rattle.dice_tasks.specs.Helds.{held_of}
use Rattle.dice_core.specs.Cores.{CoreStands, PutsTable, core_of, world_of, table_at}
use Rattle.dice_core.proofs.ClosedLemmas.{given_taken, given_ok, gives_works}
use Rattle.dice_core.proofs.JobsLemmas.{table_found, none_held, hand_there}
use Rattle.dice_core.proofs.ResultLemmas.{both_ok, on_ok}
use Rattle.dice_core.proofs.TurnLemmas.{worked_stands}
use Rattle.dice_core.proofs.giving.take_up.Goals as goal

pub unreachable-requires : goal.unreachable-requires
unreachable-requires g c =
    let ts = c.args.versions.now.entries in
    let j = c.args.step.job in
    let v = j.name.version in
    let at : c.version-version.result ≡ v = c.version-version.ensures ∙ ap (λ n. n.version) (c.name.ensures ∙ ap (λ a. a.name) c.assignment.ensures) in
    let none : lookup (nat_eq v) ts ≡ None = subst (λ n. lookup (nat_eq n) ts ≡ None) at (sym c.get_mut.ensures.value ∙ ap option_copied_mut c.in_default.is) in
    none_held g.U.Key.PartialEq.eq ts v j.name.key (held_of j IsOut) none c.requires.out

pub take_step-requires-clause-hand : goal.take_step-requires-clause-hand
take_step-requires-clause-hand g c κs within =
    let eq = g.U.Key.PartialEq.eq in
    let m = g.U.Universe.meaning in
    let r = c.requires.stands in
    let ts = c.args.versions.now.entries in
    let j = c.args.step.job in
    let v = j.name.version in
    let ps = c.in-Some.tasks.now in
    let at : c.version-version.result ≡ v = c.version-version.ensures ∙ ap (λ n. n.version) (c.name.ensures ∙ ap (λ a. a.name) c.assignment.ensures) in
    let found : table_at ts v ≡ ps = table_found ts v ps (subst (λ n. lookup (nat_eq n) ts ≡ Some ps) at (sym c.get_mut.ensures.value ∙ ap option_copied_mut c.in-Some.is)) in (
      world_of eq ts,
      subst (λ (n : ℕ). AtHand eq m v (world_of eq ts) n ps c.args.shared.now.desk c.args.shared.now.graph c.args.shared.now.cells) (sym r.2)
          (hand_there eq c.laws_of.ensures.keys m c.laws_of.ensures.lawful c.args.shared.now.desk ts c.args.shared.now.graph c.args.shared.now.cells r.0 r.1 v j.name.key (held_of j IsOut) ps found c.requires.out),
    )

pub returns-clause-kept : goal.returns-clause-kept
returns-clause-kept g c =
    let eq = g.U.Key.PartialEq.eq in
    let m = g.U.Universe.meaning in
    let ts = c.args.versions.now.entries in
    let j = c.args.step.job in
    let v = j.name.version in
    let ps = c.in-Some.tasks.now in
    let qs = c.take_step.new.tasks in
    let d = c.args.shared.now.desk in
    let at : c.version-version.result ≡ v = c.version-version.ensures ∙ ap (λ n. n.version) (c.name.ensures ∙ ap (λ a. a.name) c.assignment.ensures) in
    let mine : lookup (nat_eq c.version-version.result) ts ≡ Some ps = sym c.get_mut.ensures.value ∙ ap option_copied_mut c.in-Some.is in
    let found : table_at ts v ≡ ps = table_found ts v ps (subst (λ n. lookup (nat_eq n) ts ≡ Some ps) at mine) in
    let put = subst (λ n. PutsTable n qs ts (c.get_mut.follows.lender qs).entries) at ((c.get_mut.follows.holds qs).3 (subst IsSome (sym mine) refl)).0 in
    on_ok c.take_step.result _ _ (both_ok c.take_step.result _ _ (given_ok c.take_step.result (λ x. stale_of x) _ c.take_step.ensures.taken c.take_step.ensures.fresh) c.take_step.ensures.kept)
    (λ h x owes st.
    subst (λ z. CoreStands eq m (core_of c.take_step.new.shared.desk (c.get_mut.follows.lender qs).entries c.take_step.new.shared.graph z x)) (sym c.take_step.ensures.cells)
    (let hand = hand_there eq c.laws_of.ensures.keys m c.laws_of.ensures.lawful d ts c.args.shared.now.graph c.args.shared.now.cells x st v j.name.key (held_of j IsOut) ps found c.requires.out in
    worked_stands eq c.laws_of.ensures.keys m c.laws_of.ensures.lawful d ts c.args.shared.now.graph c.args.shared.now.cells x st v _ qs c.take_step.new.shared.desk c.take_step.new.shared.graph put (gives_works eq v c.args.step ps qs d c.take_step.new.shared.desk h.0)
    (subst (λ (n : ℕ). AtHand eq m v (world_of eq ts) n qs c.take_step.new.shared.desk c.take_step.new.shared.graph c.args.shared.now.cells) owes
    (h.1 (world_of eq ts) (subst (λ (n : ℕ). AtHand eq m v (world_of eq ts) n ps d c.args.shared.now.graph c.args.shared.now.cells) (sym owes) hand)))))

pub returns-clause-does : goal.returns-clause-does
returns-clause-does g c =
    let eq = g.U.Key.PartialEq.eq in
    let ts = c.args.versions.now.entries in
    let v = c.args.step.job.name.version in
    let ps = c.in-Some.tasks.now in
    let qs = c.take_step.new.tasks in
    let at : c.version-version.result ≡ v = c.version-version.ensures ∙ ap (λ n. n.version) (c.name.ensures ∙ ap (λ a. a.name) c.assignment.ensures) in
    let mine : lookup (nat_eq c.version-version.result) ts ≡ Some ps = sym c.get_mut.ensures.value ∙ ap option_copied_mut c.in-Some.is in
    let found : table_at ts v ≡ ps = table_found ts v ps (subst (λ n. lookup (nat_eq n) ts ≡ Some ps) at mine) in
    let put = subst (λ n. PutsTable n qs ts (c.get_mut.follows.lender qs).entries) at ((c.get_mut.follows.holds qs).3 (subst IsSome (sym mine) refl)).0 in
    given_taken c.take_step.result (λ x. stale_of x) _ _ c.take_step.ensures.does
    (λ h. record { tasks = qs; put = put; turned = subst (λ a. IsTakenUp eq g.U.Universe.meaning g.U.Value.PartialEq.eq v c.args.step c.args.shared.now.cells a qs c.args.shared.now.graph c.take_step.new.shared.graph c.args.shared.now.desk c.take_step.new.shared.desk c.args.step.outcome) (sym found) h })
