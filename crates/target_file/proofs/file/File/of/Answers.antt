use Rattle.std.proofs.Common.{◌∙◌, sym, ap, map}
use Rattle.target_file.specs.Seen.{call_of}
use Rattle.target_file.specs.Lent.{all_of, number_at}
use Rattle.target_file.specs.Marks.{mark_of}
use Rattle.target_file.proofs.Meaning.{number_is}
use Rattle.target_file.proofs.file.File.of.Goals as goal

pub invariant_of-result : goal.invariant_of-result
invariant_of-result c = (
  λ q. c.requires.numbered q ∙ number_is 0 q (map call_of c.args.calls.items) c.requires.fine ∙ ap (number_at 0 q) (sym c.in_ok-targets.ensures),
  c.mark_of-mark.ensures ∙ ap (λ xs. mark_of (all_of xs)) c.deref.ensures.value,
)
