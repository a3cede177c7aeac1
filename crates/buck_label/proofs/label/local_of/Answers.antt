use Rattle.buck_label.proofs.LabelLemmas.{in_package}
use Rattle.buck_label.proofs.label.local_of.Goals as goal

pub returns : goal.returns
returns c = (record { home = c.args.home.now; target = c.args.target.now }, in_package c.args.home.now c.args.target.now c.requires.target, c.in_ok-label_of.ensures)
