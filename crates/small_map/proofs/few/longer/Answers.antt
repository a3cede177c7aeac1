use Rattle.std.proofs.Common.{◌≡◌, ◌∙◌, ◌++◌, ◌∷◌, [], refl, sym, ap, subst, nat_eq, None}
use Rattle.std.specs.Map.{lookup}
use Rattle.small_map.specs.Few.{entries_in, AreFew}
use Rattle.small_map.proofs.Pairs.{more_pairs, more_paired}
use Rattle.small_map.proofs.few.longer.Goals as goal

pub returns-in-One-clause-entries : goal.returns-in-One-clause-entries
returns-in-One-clause-entries g c =
    more_pairs 1 2 refl c.in-One.numbers c.second.result c.in-One.values c.second-in-One.result c.args.number c.args.value c.second.ensures c.second-in-One.ensures (subst AreFew c.in-One.is c.requires.few)
    ∙ ap (λ s. entries_in s ++ (c.args.number, c.args.value) ∷ []) (sym c.in-One.is)

pub returns-in-One-clause-few : goal.returns-in-One-clause-few
returns-in-One-clause-few g c =
    more_paired 1 2 refl c.in-One.numbers c.second.result c.in-One.values c.second-in-One.result c.args.number c.args.value c.second.ensures c.second-in-One.ensures (subst AreFew c.in-One.is c.requires.few)
    (subst (λ s. lookup (nat_eq c.args.number) (entries_in s) ≡ None) c.in-One.is c.requires.absent)
