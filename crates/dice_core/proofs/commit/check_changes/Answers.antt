-- The first key that is not injected, or stands earlier, is the first fault; and if there is none the keys can be set.
use Rattle.std.proofs.Common.{◌≡◌, sym, ap, subst, ◌∙◌}
use Rattle.std.specs.Arc.{arc_value}
use Rattle.std.specs.Map.{keys_of}
use Rattle.std.proofs.lemmas.List.{take_all}
use Rattle.std.proofs.Common.{◌+◌, take, drop}
use Rattle.dice_key.specs.declared.universe.Kind.TheVariants.{Injected}
use Rattle.dice_model.specs.Log.{pairs_of}
use Rattle.dice_core.specs.Commits.{NotInjected, Twice, AreSettable, IsFirstFault}
use Rattle.dice_steps.proofs.SeenLemmas.{was_seen, was_new}
use Rattle.dice_core.proofs.CommitLemmas.{keys_more, keys_split, settable_more, settable_has_none, one_fault}
use Rattle.dice_steps.proofs.NotedLemmas.{AreSeen, seen_more}
use Rattle.dice_core.proofs.commit.check_changes.Goals as goal
use Rattle.dice_key.proofs.KeySets.{any_has, has_any}

pub returns-in_default : goal.returns-in_default
returns-in_default g c =
    let m = g.U.Universe.meaning in
    let ps = c.args.changes.now in
    let p = c.loop-key-item.result in
    let i = c.loop-key.key-index in
    let here : IsFirstFault m (keys_of (pairs_of ps)) (NotInjected (arc_value p.0)) = record {
      before = keys_of (pairs_of (take i ps));
      later = keys_of (pairs_of (drop (i + 1) ps));
      all = keys_split ps i p c.loop-key-test.true c.loop-key-item.is;
      settable = c.loop-key.invariant.settable;
      fault = λ e. c.in_default.not-Injected (c.kind.ensures ∙ (ap m.kind c.deref.ensures ∙ e));
    } in
    record { ok = tt; fault = here; first = λ f h. one_fault m (keys_of (pairs_of ps)) f (NotInjected (arc_value p.0)) h here }

pub returns-in-Ok-false-clause-fault : goal.returns-in-Ok-false-clause-fault
returns-in-Ok-false-clause-fault g c =
    let m = g.U.Universe.meaning in
    let ps = c.args.changes.now in
    let p = c.loop-key-item.result in
    let i = c.loop-key.key-index in record {
      before = keys_of (pairs_of (take i ps));
      later = keys_of (pairs_of (drop (i + 1) ps));
      all = keys_split ps i p c.loop-key-test.true c.loop-key-item.is;
      settable = c.loop-key.invariant.settable;
      fault = (
        sym (c.kind.ensures ∙ ap m.kind c.deref.ensures) ∙ c.in-Injected.is,
        any_has g.U.Key.PartialEq.eq c.laws_of.ensures.keys (keys_of (pairs_of (take i ps))) (arc_value p.0) (was_seen _ _ _ c.in-Ok-false.ensures.added c.in-Ok-false.field-0-test (c.loop-key.invariant.seen (arc_value p.0))),
      );
    }

pub returns-in-Ok-false-clause-first : goal.returns-in-Ok-false-clause-first
returns-in-Ok-false-clause-first g c =
    let m = g.U.Universe.meaning in
    let ps = c.args.changes.now in
    let p = c.loop-key-item.result in
    let i = c.loop-key.key-index in
    let here : IsFirstFault m (keys_of (pairs_of ps)) (Twice (arc_value p.0)) = record {
      before = keys_of (pairs_of (take i ps));
      later = keys_of (pairs_of (drop (i + 1) ps));
      all = keys_split ps i p c.loop-key-test.true c.loop-key-item.is;
      settable = c.loop-key.invariant.settable;
      fault = (
        sym (c.kind.ensures ∙ ap m.kind c.deref.ensures) ∙ c.in-Injected.is,
        any_has g.U.Key.PartialEq.eq c.laws_of.ensures.keys (keys_of (pairs_of (take i ps))) (arc_value p.0) (was_seen _ _ _ c.in-Ok-false.ensures.added c.in-Ok-false.field-0-test (c.loop-key.invariant.seen (arc_value p.0))),
      );
    } in
    λ f h. one_fault m (keys_of (pairs_of ps)) f (Twice (arc_value p.0)) h here

pub loop-key-preserved : goal.loop-key-preserved
loop-key-preserved g c =
    let m = g.U.Universe.meaning in
    let eq = g.U.Key.PartialEq.eq in
    let ps = c.args.changes.now in
    let p = c.loop-key-item.result in
    let i = c.loop-key.key-index in
    let ks = keys_of (pairs_of (take i ps)) in
    let k = arc_value p.0 in
    let law = c.laws_of.ensures.keys in
    let more = keys_more ps i p c.loop-key-test.true c.loop-key-item.is in
    let injected : m.kind k ≡ Injected = sym (c.kind.ensures ∙ ap m.kind c.deref.ensures) ∙ c.in-Injected.is in record {
      settable = subst (AreSettable m) (sym more) (settable_more m ks k c.loop-key.invariant.settable injected
          (λ h. was_new _ _ _ c.in-Ok-true.ensures.added c.in-Ok-true.field-0-test (c.loop-key.invariant.seen k) (has_any eq law ks k h)));
      seen = subst (AreSeen eq c.note.new.seen) (sym more) (seen_more eq law c.loop-key.seen c.note.new.seen ks k c.loop-key.invariant.seen c.in-Ok-true.ensures.seen);
    }

pub returns-clause-first : goal.returns-clause-first
returns-clause-first g c =
    let m = g.U.Universe.meaning in
    let ps = c.args.changes.now in
    settable_has_none m (keys_of (pairs_of ps)) (subst (λ qs. AreSettable m (keys_of (pairs_of qs))) (take_all c.loop-key.key-index ps c.loop-key-test.false) c.loop-key.invariant.settable)
