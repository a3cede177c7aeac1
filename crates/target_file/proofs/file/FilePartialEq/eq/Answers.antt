use Rattle.std.proofs.Common.{◌∙◌, ap}
use Rattle.target_file.specs.Targets.{same_located, same_file}
use Rattle.target_file.specs.Lent.{located_of, all_of}
use Rattle.target_file.proofs.Meaning.{seen_alike}
use Rattle.target_file.proofs.Marks.{marked_apart}
use Rattle.target_file.proofs.file.FilePartialEq.eq.Goals as goal

pub returns-then-self-other : goal.returns-then-self-other
returns-then-self-other c =
    c.eq.ensures ∙ seen_alike located_of same_located c.self.inside.targets.items c.other.inside.targets.items
    ∙ ap (λ (x : _). same_file x (all_of c.other.inside.targets.items)) c.self.view_is ∙ ap (same_file c.args.self.now) c.other.view_is

pub returns-else-self-other : goal.returns-else-self-other
returns-else-self-other c =
    marked_apart c.self.inside.mark c.other.inside.mark (all_of c.self.inside.targets.items) (all_of c.other.inside.targets.items) c.self.invariant.1 c.other.invariant.1 c.if-self-other.false
    ∙ ap (λ (x : _). same_file x (all_of c.other.inside.targets.items)) c.self.view_is ∙ ap (same_file c.args.self.now) c.other.view_is
