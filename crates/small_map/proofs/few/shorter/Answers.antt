use Rattle.std.proofs.Common.{◌∙◌, [], rules, refl, ap, subst}
use Rattle.small_map.specs.Few.{entries_in, AreFew}
use Rattle.small_map.proofs.Pairs.{more_pairs, fewer_paired, last_is_absent}
use Rattle.small_map.proofs.Ends.{updates_of_last}
use Rattle.small_map.proofs.few.shorter.Goals as goal

pub returns-in-Two-clause-few : goal.returns-in-Two-clause-few
returns-in-Two-clause-few g c =
    fewer_paired 1 2 refl c.without_second-number.result.0 c.in-Two.numbers c.without_second-values.result.0 c.in-Two.values c.without_second-number.result.1 c.without_second-values.result.1
    c.without_second-number.ensures.parts c.without_second-values.ensures.parts (subst AreFew c.in-Two.is c.requires.few)

pub returns-in-Two-clause-entries : goal.returns-in-Two-clause-entries
returns-in-Two-clause-entries g c =
    ap entries_in c.in-Two.is
    ∙ more_pairs 1 2 refl c.without_second-number.result.0 c.in-Two.numbers c.without_second-values.result.0 c.in-Two.values c.without_second-number.result.1 c.without_second-values.result.1
    c.without_second-number.ensures.parts c.without_second-values.ensures.parts (returns-in-Two-clause-few g c)

pub returns-in-Two-clause-absent : goal.returns-in-Two-clause-absent
returns-in-Two-clause-absent g c =
    last_is_absent 1 2 refl c.without_second-number.result.0 c.in-Two.numbers c.without_second-values.result.0 c.in-Two.values c.without_second-number.result.1 c.without_second-values.result.1
    c.without_second-number.ensures.parts c.without_second-values.ensures.parts (subst AreFew c.in-Two.is c.requires.few)

pub returns-in-Two-clause-updates : goal.returns-in-Two-clause-updates
returns-in-Two-clause-updates g c =
    updates_of_last c.without_second-number.result.1 _ _ c.without_second-values.result.1 (returns-in-Two-clause-entries g c) (returns-in-Two-clause-absent g c)

pub returns-in-One-clause-updates : goal.returns-in-One-clause-updates
returns-in-One-clause-updates g c = updates_of_last c.only.result [] (entries_in c.args.side) c.only-in-One.result (search rules) refl
