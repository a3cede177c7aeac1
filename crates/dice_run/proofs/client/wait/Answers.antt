use Rattle.std.proofs.Common.{◌≡◌, ◌≢◌, ◌⊎◌, inl, inr, ℕ, List, ◌∙◌, reverse, Some, Ok, sym, ap, subst}
use Rattle.dice_key.specs.declared.universe.Kind.TheVariants.{Injected}
use Rattle.journal.specs.declared.event.Told.{Told}
use Rattle.journal.specs.Events.{ByValue, ByCycle, decided}
use Rattle.action_digest.specs.declared.key.Key.{Key}
use Rattle.action_digest.specs.declared.value.Value.{Value}
use Rattle.script_trace.specs.Events.{IsDecidedIn}
use Rattle.std.specs.Arc.{arc_value}
use Rattle.dice_engine.specs.Replies.{IsReply, settled_of}
use Rattle.action_digest.specs.Buck.{buck}
use Rattle.action_digest.specs.Same.{key_equal}
use Rattle.dice_model.specs.Eval.{HasValue}
use Rattle.journal.specs.Law.{CycleStands}
use Rattle.dice_run.proofs.Turning.{later_goes, later_log, later_live}
use Rattle.dice_run.proofs.client.wait.Goals as goal
use Rattle.lists.proofs.Options.{none_some}

pub returns-in_err-value-clause-goes : goal.returns-in_err-value-clause-goes
returns-in_err-value-clause-goes g c = later_goes c.args.engine.now c.args.seat.now c.wait.new.seat c.requires.ours c.wait.ensures.later.0 c.wait.ensures.later.1

pub returns-in-Value-clause-goes : goal.returns-in-Value-clause-goes
returns-in-Value-clause-goes g c = later_goes c.args.engine.now c.args.seat.now c.wait.new.seat c.requires.ours c.wait.ensures.later.0 c.wait.ensures.later.1

pub returns-in-Cycle-clause-goes : goal.returns-in-Cycle-clause-goes
returns-in-Cycle-clause-goes g c = later_goes c.args.engine.now c.args.seat.now c.wait.new.seat c.requires.ours c.wait.ensures.later.0 c.wait.ensures.later.1

pub returns-in-Value-clause-came : goal.returns-in-Value-clause-came
returns-in-Value-clause-came g c =
    let p = c.args.promise.now in
    let u = c.wait.new.seat in
    let r = subst (λ r. IsReply key_equal buck u.seen p.version (arc_value p.key) p.ask u.left r) (ap settled_of (c.in_ok-value.was ∙ ap Ok c.in-Value.is)) c.wait.ensures.reply in
    subst (λ C. HasValue key_equal buck C p.version (arc_value p.key) (arc_value c.in-Value.value)) (later_log c.args.engine.now c.args.seat.now u c.requires.ours c.wait.ensures.later.0 c.wait.ensures.later.1) r.2

pub returns-in-Cycle-clause-came : goal.returns-in-Cycle-clause-came
returns-in-Cycle-clause-came g c =
    let p = c.args.promise.now in
    let u = c.wait.new.seat in
    let r = subst (λ r. IsReply key_equal buck u.seen p.version (arc_value p.key) p.ask u.left r) (ap settled_of (c.in_ok-value.was ∙ ap Ok c.in-Cycle.is)) c.wait.ensures.reply in
    subst (λ C. CycleStands key_equal buck C p.version (arc_value p.key) (arc_value c.in-Cycle.path)) (later_log c.args.engine.now c.args.seat.now u c.requires.ours c.wait.ensures.later.0 c.wait.ensures.later.1) r.3

pub unreachable-requires : goal.unreachable-requires
unreachable-requires g c =
    let p = c.args.promise.now in
    let u = c.wait.new.seat in
    let r = subst (λ r. IsReply key_equal buck u.seen p.version (arc_value p.key) p.ask u.left r) (ap settled_of (c.in_ok-value.was ∙ ap Ok c.in-Gone.is)) c.wait.ensures.reply in
    none_some (sym r ∙ later_live c.args.engine.now c.args.seat.now u p.ask p.opened p.version (arc_value p.key) c.requires.ours c.wait.ensures.later.0 c.wait.ensures.later.1 c.requires.asked c.requires.open)

decided_value : (J : List (Told Key Value)) (v : ℕ) (k : Key) → (buck.kind k ≡ Injected) ⊎ (decided key_equal (reverse J) v k ≡ Some ByValue) → buck.kind k ≢ Injected → IsDecidedIn J v k
decided_value J v k (inl i) n = absurd (n i)
decided_value J v k (inr e) n = (ByValue, e)

pub returns-in-Value-clause-decided : goal.returns-in-Value-clause-decided
returns-in-Value-clause-decided g c n =
    let p = c.args.promise.now in
    let u = c.wait.new.seat in
    let r = subst (λ r. IsReply key_equal buck u.seen p.version (arc_value p.key) p.ask u.left r) (ap settled_of (c.in_ok-value.was ∙ ap Ok c.in-Value.is)) c.wait.ensures.reply in
    decided_value u.seen p.version (arc_value p.key) r.1 n

pub returns-in-Cycle-clause-decided : goal.returns-in-Cycle-clause-decided
returns-in-Cycle-clause-decided g c n =
    let p = c.args.promise.now in
    let u = c.wait.new.seat in
    let r = subst (λ r. IsReply key_equal buck u.seen p.version (arc_value p.key) p.ask u.left r) (ap settled_of (c.in_ok-value.was ∙ ap Ok c.in-Cycle.is)) c.wait.ensures.reply in
    (ByCycle, r.2)
