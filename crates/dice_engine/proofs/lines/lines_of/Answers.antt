use Rattle.std.proofs.Common.{rules, ◌+◌, take, sym, subst}
use Rattle.journal.specs.Texts.{IsLine}
use Rattle.dice_engine.specs.Lines.{AreLines}
use Rattle.dice_engine.proofs.Listing.{zipped_more}
use Rattle.dice_engine.proofs.lines.lines_of.Goals as goal

pub loop-index-init : goal.loop-index-init
loop-index-init g c = search rules

pub loop-index-preserved : goal.loop-index-preserved
loop-index-preserved g c =
    let m = g.U.Universe.meaning in
    let J = c.args.journal.now.events in
    let i = c.loop-index.index in
    subst (λ ls. AreLines m (take (i + 1) J) ls) (sym c.in_ok-push.ensures.items)
    (zipped_more (IsLine m) J c.loop-index.lines.items i c.in_ok-line.field-0 (search rules) c.loop-index.invariant c.in_ok-line.ensures)
