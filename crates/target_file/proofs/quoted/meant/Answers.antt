use Rattle.std.proofs.Common.{◌≡◌, ◌∙◌, sym, length, rules}
use Rattle.target_file.proofs.Going.{means_behind, broken_at_end, broken_at_slash, broken_behind}
use Rattle.target_file.proofs.quoted.meant.Goals as goal

pub returns-then-byte-eq10-clause-none : goal.returns-then-byte-eq10-clause-none
returns-then-byte-eq10-clause-none c = λ q n. broken_at_end q c.args.byte c.args.behind.now c.then-byte-eq10.either

pub returns-then-is_empty-clause-none : goal.returns-then-is_empty-clause-none
returns-then-is_empty-clause-none c =
    let l : length c.args.behind.now ≡ 0 = search rules in λ q n. broken_at_slash q c.args.byte c.args.behind.now c.if-byte-ne92.false l n

pub returns-in-Some-clause-some : goal.returns-in-Some-clause-some
returns-in-Some-clause-some c =
    let l : length c.args.behind.now ≡ 0 → ⊥ = search rules in
    λ q n. means_behind q c.args.byte c.in-Some.meant c.args.behind.now c.if-byte-ne92.false l (sym c.escaped.ensures ∙ c.in-Some.is) n

pub returns-in-None-clause-none : goal.returns-in-None-clause-none
returns-in-None-clause-none c =
    let l : length c.args.behind.now ≡ 0 → ⊥ = search rules in
    λ q n. broken_behind q c.args.byte c.args.behind.now c.if-byte-ne92.false l (sym c.escaped.ensures ∙ c.in-None.is) n
