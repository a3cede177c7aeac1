use Rattle.std.proofs.Common.{◌∙◌, ap, ◌++◌, ◌∷◌, [], List, ℕ}
use Rattle.target_file.proofs.Gathering.{texts_more}
use Rattle.target_file.proofs.making.texts_of.Goals as goal

pub loop-item-preserved : goal.loop-item-preserved
loop-item-preserved c =
    texts_more c.args.items.now c.loop-item.item-index c.item-item.result c.loop-item.texts.items c.push.new.self.items c.loop-item-test.true c.item-item.is c.loop-item.invariant
    (c.in_ok-push.ensures.items ∙ ap (λ (x : List ℕ). c.loop-item.texts.items ++ x ∷ []) c.in_ok-try_clone.ensures)
