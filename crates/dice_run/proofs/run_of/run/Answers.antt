use Rattle.std.proofs.Common.{◌≡◌, ◌∙◌, ◌⊎◌, inl, inr, ℕ, List, codes, map, Option, Some, None, Err, ap, sym, subst}
use Rattle.std.specs.Prelude.{IsSomeAnd}
use Rattle.dice_words.specs.Accepted.{Asks, IsOf}
use Rattle.dice_words.specs.declared.words.Command.{Command}
use Rattle.dice_words.specs.declared.words.Command.TheVariants as command
use Rattle.dice_run.specs.declared.status.Status.TheVariants.{Done, NoMemory}
use Rattle.dice_run.proofs.Inputs.{not_refused, carried_out}
use Rattle.dice_run.proofs.run_of.run.Goals as goal

two_words : codes "run" ≡ codes "bulk" → ⊥
two_words e = cc

-- words do not name both commands
apart : {R : Type 0} (o : Option (List ℕ × R)) (P Q : List ℕ × R → Type 0) → IsSomeAnd o P → IsSomeAnd o Q → ((met : List ℕ × R) → P met → met.0 ≡ codes "run") → ((met : List ℕ × R) → Q met → met.0 ≡ codes "bulk") → ⊥
apart None P Q a b f h = a
apart (Some met) P Q a b f h = two_words (sym (f met a) ∙ h met b)

pub returns-in-Ok-Run-clause-done : goal.returns-in-Ok-Run-clause-done
returns-in-Ok-Run-clause-done g c e =
    let asks = subst (λ (x : Command). Asks (map (λ w. w.now) c.args.words.now) x) c.in-Ok-Run.field-0-is c.in-Ok-Run.ensures.named in
    (command.Run c.in-Ok-Run.workers c.in-Ok-Run.trace, asks, c.run_script-status.ensures.done e)

pub returns-in-Ok-Run-clause-unread : goal.returns-in-Ok-Run-clause-unread
returns-in-Ok-Run-clause-unread g c n w bulk =
    let asks = subst (λ (x : Command). Asks (map (λ w. w.now) c.args.words.now) x) c.in-Ok-Run.field-0-is c.in-Ok-Run.ensures.named in
    absurd (apart _ (IsOf (command.Run c.in-Ok-Run.workers c.in-Ok-Run.trace)) (IsOf (command.Bulk n w)) asks bulk (λ met a. a.0) (λ met b. b.0))

pub returns-in-Ok-Run-clause-complete : goal.returns-in-Ok-Run-clause-complete
returns-in-Ok-Run-clause-complete g c accepted (command.Run w t) asks given source sink =
    carried_out c.run_script-status.result.0 c.run_script-status.ensures.accepted (λ e. source (c.run_script-status.ensures.read e).0) (λ e. sink (c.run_script-status.ensures.write e).0)
    (λ e. (let r = c.run_script-status.ensures.script e in not_refused c.readings_are_one.ensures.not_both (g.S.Source.left c.args.source.now) (g.S.Source.left c.run_script-status.new.source) given.0 r.0 r.1 given.1 given.2 given.3 r.2 r.3))
returns-in-Ok-Run-clause-complete g c accepted (command.Bulk n w) asks given source sink =
    let own = subst (λ (x : Command). Asks (map (λ w. w.now) c.args.words.now) x) c.in-Ok-Run.field-0-is c.in-Ok-Run.ensures.named in
    absurd (apart _ (IsOf (command.Run c.in-Ok-Run.workers c.in-Ok-Run.trace)) (IsOf (command.Bulk n w)) own asks (λ met a. a.0) (λ met b. b.0))

pub returns-in-Ok-Bulk-clause-complete : goal.returns-in-Ok-Bulk-clause-complete
returns-in-Ok-Bulk-clause-complete g c = λ accepted k asks given source sink. elim c.run_bulk-status.ensures.only as (λ _. (c.run_bulk-status.result.0 ≡ Done) ⊎ (c.run_bulk-status.result.0 ≡ NoMemory)) [
  | inl e ↦ inl e
  | inr (inl e) ↦ absurd (sink (c.run_bulk-status.ensures.write e).0)
  | inr (inr e) ↦ inr e
]

pub returns-in-Err-Refused-clause-complete : goal.returns-in-Err-Refused-clause-complete
returns-in-Err-Refused-clause-complete g c = λ accepted k asks given source sink. absurd (c.in-Err-Refused.ensures.refused (ap Err c.in-Err-Refused.field-0-is) accepted)
