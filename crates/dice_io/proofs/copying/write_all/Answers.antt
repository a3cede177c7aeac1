use Rattle.std.proofs.Common.{◌++◌, ◌∙◌, refl, rules}
use Rattle.dice_io.proofs.StreamLemmas.{gained_more, gained_part, gained_whole, on_err_always, split_more}
use Rattle.dice_io.proofs.copying.write_all.Goals as goal

pub loop-rest-preserved : goal.loop-rest-preserved
loop-rest-preserved g c =
    let i = c.loop-rest.invariant in
    let h = c.in_ok-n.ensures.takes in
    (i.0 ++ h.front, split_more c.args.bytes.now i.0 _ i.1 h refl, gained_more i.0 i.2 h, c.in_ok-n.ensures.steady ∙ i.3)

pub returns-in_err-n-clause-part : goal.returns-in_err-n-clause-part
returns-in_err-n-clause-part g c =
    let i = c.loop-rest.invariant in
    on_err_always c.from_residual.result (gained_part i.0 _ i.1 i.2 c.in_err-n.ensures.kept)

pub returns-clause-whole : goal.returns-clause-whole
returns-clause-whole g c =
    let i = c.loop-rest.invariant in
    gained_whole i.0 _ i.1 (search rules) i.2
