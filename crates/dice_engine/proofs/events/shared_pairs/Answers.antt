use Rattle.std.proofs.Common.{◌≡◌, ◌+◌, take, sym, subst}
use Rattle.dice_model.specs.Log.{pair_of, pairs_of}
use Rattle.dice_engine.proofs.Listing.{copied_more}
use Rattle.dice_engine.proofs.events.shared_pairs.Goals as goal

pub loop-pair-preserved : goal.loop-pair-preserved
loop-pair-preserved g c =
    let all = c.pairs-all.result.now in
    let i = c.loop-pair.pair-index in
    subst (λ ps. pairs_of ps ≡ pairs_of (take (i + 1) all)) (sym c.in_ok-push.ensures.items)
    (copied_more pair_of pair_of c.loop-pair.pairs.items all i c.in_ok-shared_pair.field-0 c.pair-item.result c.loop-pair-test.true c.pair-item.is c.in_ok-shared_pair.ensures c.loop-pair.invariant)
