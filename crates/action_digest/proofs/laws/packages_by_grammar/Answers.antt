use Rattle.std.proofs.Common.{ap}
use Rattle.action_digest.specs.Buck.{file_by}
use Rattle.action_digest.proofs.laws.packages_by_grammar.Goals as goal

pub returns-clause-file : goal.returns-clause-file
returns-clause-file c p text f short h = ap (file_by p) ((c.contents_by_grammar.ensures.file text f short).1 h)

pub returns-clause-bad : goal.returns-clause-bad
returns-clause-bad c p text line short h = ap (file_by p) ((c.contents_by_grammar.ensures.bad text line short).1 h)
