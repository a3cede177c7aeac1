use Rattle.std.proofs.Common.{◌≡◌, Some, List, ℕ, if◌then◌else◌, sym, ap, ◌∙◌}
use Rattle.std.specs.Str.{bytes_eq}
use Rattle.std.specs.Ordering.{nat_cmp}
use Rattle.std.specs.BTreeMap.{get, get_by}
use Rattle.std.specs.Cmp.Lexicographic.{slice_cmp}
use Rattle.target_file.specs.Names.{hash_of, other_than}
use Rattle.target_file.proofs.Numbers.{added, put_beside}
use Rattle.target_file.proofs.names.Names.add.Goals as goal

pub returns-in_ok-insert-clause-ok : goal.returns-in_ok-insert-clause-ok
returns-in_ok-insert-clause-ok c = λ q.
    let first = c.args.self.now.first in
    let name = c.args.name.now in
    let number = c.args.number in
    let had = get_by (λ k. slice_cmp nat_cmp q k.items) c.args.self.now.others in
    let bytes : c.as_bytes-bytes.result.now ≡ name = c.as_bytes-bytes.ensures in
    let same : c.in_ok-copy.copy.items ≡ name = c.in_ok-copy.ensures.items ∙ bytes in
    put_beside name (λ l. get nat_cmp first (hash_of l)) q number _ _
    (sym c.if-has_other.true ∙ c.has_other.ensures ∙ ap (λ l. other_than l (get nat_cmp first c.hash_of-hash.result)) bytes
    ∙ ap (λ h. other_than name (get nat_cmp first h)) (c.hash_of-hash.ensures ∙ ap hash_of bytes))
    (added c.in_ok-copy.copy c.args.self.now.others c.insert.new.self (Some number) c.in_ok-insert.ensures.updates q
    ∙ ap (λ (l : List ℕ). if bytes_eq l q then Some number else had) same)
