use Rattle.std.proofs.Common.{◌≡◌, map, take, length, Some, false, sym, ap, ◌∙◌, subst, arith}
use Rattle.std.specs.Prelude.{slice_get}
use Rattle.journal.specs.Tell.{told}
use Rattle.dice_core.specs.Cores.{events_of}
use Rattle.dice_engine.specs.Rows.{LedgeView, item_of, items_of}
use Rattle.dice_engine.proofs.Shelved.{may_put, begun, put_more}
use Rattle.dice_engine.proofs.ledge.Ledge.follow.Goals as goal
use Rattle.dice_engine.proofs.ledge.Ledge.follow.Goals.{then-branch, else-branch}

pub put-requires-clause-may : goal.put-requires-clause-may
put-requires-clause-may g c κs within = may_put g.U.Key.PartialEq.eq g.U.Universe.meaning (events_of c.args.core.now) c.loop-index.index (told c.event.result.now) c.loop-index.self.list c.in_order.ensures.lawful
    (subst (λ J. slice_get J c.loop-index.index ≡ Some (told c.event.result.now)) c.journal-journal.ensures c.event.ensures) c.loop-index.invariant.0

pub returns-in_err-put-clause-begun : goal.returns-in_err-put-clause-begun
returns-in_err-put-clause-begun g c = (subst (λ (s : LedgeView g.row.U-Key.Denot g.row.U-Value.Denot). map item_of s.list ≡ take (length s.list) (items_of (events_of c.args.core.now))) (sym c.in_err-put.ensures.err)
    (begun (events_of c.args.core.now) c.loop-index.index c.loop-index.self.list c.loop-index.invariant.0))

pub loop-index-preserved : goal.loop-index-preserved
loop-index-preserved g c =
    let e = c.in_ok-put.ensures in
    let more = put_more (events_of c.args.core.now) c.loop-index.index _ (told c.event.result.now) c.loop-index.self.list c.put.new.self.list (omega arith)
    (subst (λ J. slice_get J c.loop-index.index ≡ Some (told c.event.result.now)) c.journal-journal.ensures c.event.ensures) c.loop-index.invariant.0 e.ok in
    let shown = elim c.if-branch.branch as (λ _. c.if-branch.gained ≡ false → c.put.new.self.published ≡ c.put.new.self.list) [
      | then-branch w ↦ λ h. (let q = w.gained-is in absurd (cc))
      | else-branch w ↦ λ h.
          let p : c.put.new.self.published ≡ c.loop-index.self.published = ap (λ (s : LedgeView g.row.U-Key.Denot g.row.U-Value.Denot). s.published) e.same in
          let q = w.gained-is in
          let i : c.loop-index.self.published ≡ c.loop-index.self.list = c.loop-index.invariant.1 (cc) in
          p ∙ (i ∙ sym (e.none w.if-branch.false))
    ] in
    (more, shown, ap (λ (s : LedgeView g.row.U-Key.Denot g.row.U-Value.Denot). s.taken) e.same ∙ c.loop-index.invariant.2)
