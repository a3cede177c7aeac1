use Rattle.std.proofs.Common.{◌≡◌, ◌↔◌, IsTrue, nat_eq, true, false, Some, None, sym, ap, ◌∙◌, subst}
use Rattle.std.specs.Map.{lookup}
use Rattle.std.specs.Option.{option_copied}
use Rattle.core_laws.specs.Tasks.{IsOut}
use Rattle.dice_tasks.specs.Helds.{held_of}
use Rattle.dice_tasks.specs.Endings.{IsJobNamed}
use Rattle.dice_core.proofs.JobsLemmas.{table_found, none_held}
use Rattle.dice_core.proofs.jobs_out.is_out_among.Goals as goal

pub returns-in-Some : goal.returns-in-Some
returns-in-Some g c =
    let found : lookup (nat_eq c.args.name.now.version) c.args.versions.now.entries ≡ Some c.in-Some.tasks.now = ap (λ n. lookup (nat_eq n) c.args.versions.now.entries) (sym c.version.ensures) ∙ (sym c.get.ensures.value ∙ ap option_copied c.in-Some.is) in
    subst (λ ps. IsTrue c.is_name_out.result ↔ IsJobNamed g.U.Key.PartialEq.eq c.args.name.now ps) (sym (table_found c.args.versions.now.entries c.args.name.now.version c.in-Some.tasks.now found)) c.is_name_out.ensures

pub returns-in-None : goal.returns-in-None
returns-in-None g c =
    let none : lookup (nat_eq c.args.name.now.version) c.args.versions.now.entries ≡ None = ap (λ n. lookup (nat_eq n) c.args.versions.now.entries) (sym c.version.ensures) ∙ (sym c.get.ensures.value ∙ ap option_copied c.in-None.is) in
    (λ i. (let x : false ≡ true = i in cc), λ w. absurd (none_held g.U.Key.PartialEq.eq c.args.versions.now.entries c.args.name.now.version c.args.name.now.key (held_of w.0 IsOut) none w.1))
