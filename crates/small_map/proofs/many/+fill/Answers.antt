use Rattle.std.proofs.Common.{◌≡◌, ◌∙◌, ◌++◌, ◌∷◌, [], None, nat_eq, sym, ap, subst}
use Rattle.std.specs.Map.{lookup}
use Rattle.std.specs.Result.{OnOk}
use Rattle.indexmap.specs.IndexMap.{insert_entry}
use Rattle.indexmap.proofs.CallerLemmas.{insert_entry-new}
use Rattle.small_map.proofs.many.+fill.Goals as goal

pub returns-in-Some-clause-entries : goal.returns-in-Some-clause-entries
returns-in-Some-clause-entries g t c =
    let map = c.fill.new.map in
    let number = c.in-Some.number in
    let value = c.in-Some.value in
    let put : c.insert.new.self.entries ≡ insert_entry nat_eq map.entries number value = subst (λ r. OnOk r (c.insert.new.self.entries ≡ insert_entry nat_eq map.entries number value)) c.unwrap.ensures c.insert.ensures.entries in
    let absent : lookup (nat_eq number) map.entries ≡ None = ap (lookup (nat_eq number)) c.fill.ensures.entries ∙ c.in-Some.ensures.absent in
    put ∙ (insert_entry-new nat_eq map number value absent ∙ (ap (λ l. l ++ (number, value) ∷ []) c.fill.ensures.entries ∙ sym c.in-Some.ensures.entries))
