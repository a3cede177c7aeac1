use Rattle.std.proofs.Common.{◌∙◌, sym, rules}
use denote.Enum.Bare.{same_true, same_false}
use Rattle.target_file.specs.contracts.table.Attribute.{the_type}
use Rattle.target_file.proofs.Gathering.{given_hit, given_miss}
use Rattle.target_file.proofs.making.given.Goals as goal
use Rattle.lists.proofs.Places.{drop_item}

pub returns-then-eq : goal.returns-then-eq
returns-then-eq c =
    let x = c.argument-item.result in
    let e = drop_item c.args.arguments.now c.loop-argument.argument-index x c.loop-argument-test.true c.argument-item.is in
    let h = same_true the_type (search rules) x.attribute c.args.attribute (sym c.eq.ensures ∙ c.if-eq.true) in
    sym (c.loop-argument.invariant ∙ given_hit c.args.attribute _ _ x e h)

pub loop-argument-preserved : goal.loop-argument-preserved
loop-argument-preserved c =
    let x = c.argument-item.result in
    let e = drop_item c.args.arguments.now c.loop-argument.argument-index x c.loop-argument-test.true c.argument-item.is in
    c.loop-argument.invariant ∙ given_miss c.args.attribute _ _ x e (same_false the_type x.attribute c.args.attribute (sym c.eq.ensures ∙ c.if-eq.false))
