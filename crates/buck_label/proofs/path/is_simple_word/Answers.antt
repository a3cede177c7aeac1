use Rattle.std.proofs.Common.{◌≡◌, ◌≤◌, length, rules, arith}
use Rattle.buck_label.proofs.SimpleWords.{simple_word, all_of_it}
use Rattle.buck_label.proofs.path.is_simple_word.Goals as goal

pub returns : goal.returns
returns c = λ t.
    let n : length c.args.bytes.now ≡ 0 → ⊥ = search rules in
    let k : length c.args.bytes.now ≤ c.loop-i.i = omega arith in
    simple_word c.args.bytes.now n (all_of_it c.args.bytes.now c.loop-i.i k c.loop-i.invariant)
