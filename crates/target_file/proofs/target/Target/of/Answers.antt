use Rattle.std.proofs.Common.{ap, refl, subst, sym}
use Rattle.target_file.specs.declared.table.Attribute.TheVariants.{Name}
use Rattle.target_file.specs.Seen.{arguments_of}
use Rattle.buck_label.specs.Paths.{IsPath}
use Rattle.target_file.specs.Files.{attributes}
use Rattle.target_file.specs.Targets.{IsSound}
use Rattle.target_file.proofs.Meaning.{first_needed, sound}
use Rattle.target_file.proofs.Gathering.{needed_path}
use Rattle.target_file.proofs.target.Target.of.Goals as goal
use Rattle.lists.specs.Lists.{Has}

pub path_of-requires : goal.path_of-requires
path_of-requires c =
    needed_path c.args.call.now.rule _ _ Name _ c.requires.each (first_needed c.args.call.now.rule (λ a. Has (attributes (arguments_of c.args.call.now.arguments.items)) a) c.requires.whole) (ap arguments_of c.as_slice-given.ensures.value) refl c.in_ok-text.ensures

pub invariant_of-result : goal.invariant_of-result
invariant_of-result c =
    let r = c.args.call.now.rule in
    let args = arguments_of c.args.call.now.arguments.items in
    let p : IsPath c.in_ok-text.text = needed_path r args _ Name _ c.requires.each (first_needed r (λ a. Has (attributes args) a) c.requires.whole) (ap arguments_of c.as_slice-given.ensures.value) refl c.in_ok-text.ensures in
    (subst IsPath (sym c.in_ok-name.ensures) p, subst IsSound (sym c.in_ok-action.ensures) (sound r args c.requires.each c.requires.whole))
