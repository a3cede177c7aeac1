use Rattle.std.proofs.Common.{◌∙◌}
use Rattle.bulk_script.proofs.Numbers.{exports_none, exports_more}
use Rattle.bulk_script.proofs.rules.source_rules.Goals as goal

pub loop-source-init : goal.loop-source-init
loop-source-init c = c.new-text.ensures.items ∙ exports_none

pub loop-source-preserved : goal.loop-source-preserved
loop-source-preserved c = c.in_ok-export_line.ensures ∙ exports_more c.loop-source.text.items c.loop-source.source c.loop-source.invariant
