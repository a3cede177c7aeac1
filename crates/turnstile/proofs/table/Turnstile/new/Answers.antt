use Rattle.std.proofs.Common.{rules, ◌≡◌, List, [], ◌∷◌, Some, Option, sym, subst}
use Rattle.atomic_table.specs.Table.{opening}
use Rattle.turnstile.specs.Rule.{Turns, first_view}
use Rattle.turnstile.proofs.Keeps.{begins}
use Rattle.turnstile.proofs.table.Turnstile.new.Goals as goal

pub new-made-requires : goal.new-made-requires
new-made-requires g c =
    let items : c.push.new.self.items ≡ Some c.args.state ∷ [] = search rules in
    let same : c.of.result.value ≡ c.args.state = c.of.ensures in
    let told = c.of.result.value in
    let mark = g.S.Tale.mark told in
    subst (λ (xs : List (Option g.row.S.Denot)). Turns g.S.Tale.list g.S.Tale.by g.S.Tale.version g.S.Tale.mark c.args.writers mark (opening (0 ∷ 0 ∷ c.list_version-version.result ∷ []) xs (first_view c.args.writers mark))) (sym items)
    (subst (λ (x : g.row.S.Denot). Turns g.S.Tale.list g.S.Tale.by g.S.Tale.version g.S.Tale.mark c.args.writers (g.S.Tale.mark x) (opening (0 ∷ 0 ∷ c.list_version-version.result ∷ []) (Some c.args.state ∷ []) (first_view c.args.writers (g.S.Tale.mark x)))) (sym same)
    (begins g.S.Tale.list g.S.Tale.by g.S.Tale.version g.S.Tale.mark c.args.writers (g.S.Tale.mark c.args.state) c.args.state c.list_version-version.result c.requires (search rules) (search rules)))
