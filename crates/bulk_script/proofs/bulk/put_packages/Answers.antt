use Rattle.std.proofs.Common.{◌≡◌, ◌∙◌, ◌++◌, ◌+◌, ◌-◌, ◌/◌, ap, map, ℕ, arith}
use Rattle.bulk_script.specs.Spelled.{text_of}
use Rattle.bulk_script.specs.Bulk.{package_put, numbers_below}
use Rattle.bulk_script.proofs.Numbers.{lines_none, lines_more}
use Rattle.bulk_script.proofs.Parts.{packages_put}
use Rattle.bulk_script.proofs.bulk.put_packages.Goals as goal

pub loop-index-init : goal.loop-index-init
loop-index-init c = lines_none (package_put c.args.targets) c.args.script.now.items

pub loop-index-preserved : goal.loop-index-preserved
loop-index-preserved c =
    c.in_ok-put_package.ensures ∙ lines_more (package_put c.args.targets) c.loop-index.script.items c.args.script.now.items c.loop-index.index c.loop-index.invariant

pub returns : goal.returns
returns c =
    let s : c.loop-index.index ≡ (c.args.targets - 1) / 100 + 1 = omega arith in
    c.loop-index.invariant ∙ ap (λ (n : ℕ). c.args.script.now.items ++ text_of (map (package_put c.args.targets) (numbers_below n))) s
    ∙ packages_put c.args.script.now.items c.args.targets
