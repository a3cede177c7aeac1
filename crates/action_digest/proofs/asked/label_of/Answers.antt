use Rattle.std.proofs.Common.{◌∙◌, ap, sym, subst, List, ℕ}
use Rattle.buck_label.specs.Labels.{IsSomeLabel}
use Rattle.action_digest.specs.Written.{full_label}
use Rattle.action_digest.proofs.Labels.{named_full}
use Rattle.action_digest.proofs.asked.label_of.Goals as goal

pub of_text-requires-clause-text : goal.of_text-requires-clause-text
of_text-requires-clause-text c = subst IsSomeLabel (sym c.as_text.ensures.text) c.as_text.ensures.label

pub returns : goal.returns
returns c =
    named_full c.package_bytes.result.now c.as_text.result.now c.in_ok-of_text.field-0 c.in_ok-of_text.ensures
    ∙ ap (λ (h : List ℕ). full_label h c.as_text.result.now) c.package_bytes.ensures.home ∙ ap (full_label _) c.as_text.ensures.text
