use Rattle.std.proofs.Common.{◌≡◌, ◌++◌, drop}
use Rattle.script_trace.specs.Output.{labels_text}
use Rattle.dice_run.proofs.request.labels.Given as goal

-- with the labels that are left, all stand after the output
abbrev pub invariant-loop-label : goal.invariant-loop-label
invariant-loop-label l = l.out.items ++ labels_text (drop l.label-index l.labels) ≡ l.fn.out.items ++ labels_text l.labels
