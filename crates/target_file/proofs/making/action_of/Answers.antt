use Rattle.std.proofs.Common.{ap, refl, subst}
use Rattle.target_file.specs.declared.table.Rule.{Rule}
use Rattle.target_file.specs.declared.table.Attribute.TheVariants.{Src, Srcs, Out, Cmd}
use Rattle.target_file.specs.Table.{form_of}
use Rattle.target_file.specs.Seen.{arguments_of}
use Rattle.target_file.proofs.Meaning.{Whole}
use Rattle.target_file.proofs.Gathering.{default_path, needed_path, given_sources, given_command}
use Rattle.target_file.proofs.making.action_of.Goals as goal

pub export_file-requires-clause-src : goal.export_file-requires-clause-src
export_file-requires-clause-src c =
    default_path c.args.call.now.rule _ _ Src _ _ c.requires.each c.requires.whole (ap arguments_of c.as_slice-given.ensures.value) (ap (λ (r : Rule). form_of r Src) c.in-ExportFile.is) c.in_ok-name.ensures refl

pub export_file-requires-clause-out : goal.export_file-requires-clause-out
export_file-requires-clause-out c =
    default_path c.args.call.now.rule _ _ Out _ _ c.requires.each c.requires.whole (ap arguments_of c.as_slice-given.ensures.value) (ap (λ (r : Rule). form_of r Out) c.in-ExportFile.is) c.in_ok-name.ensures refl

pub sources_of-requires : goal.sources_of-requires
sources_of-requires c =
    given_sources c.args.call.now.rule _ _ Srcs _ c.requires.each (ap arguments_of c.as_slice-given.ensures.value) (ap (λ (r : Rule). form_of r Srcs) c.in-Filegroup.is) c.list_of.ensures

pub write_file-requires : goal.write_file-requires
write_file-requires c =
    default_path c.args.call.now.rule _ _ Out _ _ c.requires.each c.requires.whole (ap arguments_of c.as_slice-given.ensures.value) (ap (λ (r : Rule). form_of r Out) c.in-WriteFile.is) c.in_ok-name.ensures refl

pub genrule-requires-clause-srcs : goal.genrule-requires-clause-srcs
genrule-requires-clause-srcs c = given_sources c.args.call.now.rule _ _ Srcs _ c.requires.each (ap arguments_of c.as_slice-given.ensures.value) (ap (λ (r : Rule). form_of r Srcs) c.in-Genrule.is) refl

pub genrule-requires-clause-out : goal.genrule-requires-clause-out
genrule-requires-clause-out c =
    let w = subst (λ (r : Rule). Whole r (arguments_of c.args.call.now.arguments.items)) c.in-Genrule.is c.requires.whole in
    needed_path c.args.call.now.rule _ _ Out _ c.requires.each w.1.0 (ap arguments_of c.as_slice-given.ensures.value) (ap (λ (r : Rule). form_of r Out) c.in-Genrule.is) refl

pub genrule-requires-clause-cmd : goal.genrule-requires-clause-cmd
genrule-requires-clause-cmd c = given_command c.args.call.now.rule _ _ Cmd _ c.requires.each (ap arguments_of c.as_slice-given.ensures.value) (ap (λ (r : Rule). form_of r Cmd) c.in-Genrule.is) refl

pub path_or-requires : goal.path_or-requires
path_or-requires c =
    default_path c.args.call.now.rule _ _ Out _ _ c.requires.each c.requires.whole (ap arguments_of c.as_slice-given.ensures.value) (ap (λ (r : Rule). form_of r Out) c.in-StampFile.is) c.in_ok-name.ensures refl
