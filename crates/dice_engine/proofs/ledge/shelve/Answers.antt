use Rattle.std.proofs.Common.{◌≡◌, ◌≤◌, length, map, take, sym, subst}
use Rattle.std.proofs.lemmas.Option.{same_Some}
use Rattle.dice_core.specs.Cores.{events_of}
use Rattle.dice_engine.specs.Rows.{LedgeView, item_of, items_of, Keeps, AreFinished}
use Rattle.dice_engine.proofs.Shelved.{kept_marked, taken_within, list_there, finished_since}
use Rattle.dice_engine.proofs.ledge.shelve.Goals as goal

pub returns-then-mark-ne0-clause-keeps : goal.returns-then-mark-ne0-clause-keeps
returns-then-mark-ne0-clause-keeps g c = λ x e.
    subst (λ y. Keeps (events_of c.args.core.now) c.args.mark y.value) (same_Some _ _ e)
    (kept_marked (events_of c.args.core.now) c.args.mark c.in-Some.ledge.value (c.requires c.in-Some.ledge c.in-Some.is) c.if-mark-ne0.true)

pub follow-requires-clause-taken : goal.follow-requires-clause-taken
follow-requires-clause-taken g c κs within = subst (λ (b : LedgeView g.row.U-Key.Denot g.row.U-Value.Denot). b.taken ≤ length (events_of c.args.core.now)) (sym c.deref_mut.ensures.value)
    (taken_within (events_of c.args.core.now) c.args.mark c.in-Some.ledge.value (c.requires c.in-Some.ledge c.in-Some.is) c.if-mark-ne0.false)

pub follow-requires-clause-list : goal.follow-requires-clause-list
follow-requires-clause-list g c κs within = subst (λ (b : LedgeView g.row.U-Key.Denot g.row.U-Value.Denot). map item_of b.list ≡ items_of (take b.taken (events_of c.args.core.now))) (sym c.deref_mut.ensures.value)
    (list_there (events_of c.args.core.now) c.args.mark c.in-Some.ledge.value (c.requires c.in-Some.ledge c.in-Some.is) c.if-mark-ne0.false)

pub follow-requires-clause-published : goal.follow-requires-clause-published
follow-requires-clause-published g c κs within = subst (λ (b : LedgeView g.row.U-Key.Denot g.row.U-Value.Denot). b.published ≡ b.list) (sym c.deref_mut.ensures.value)
    ((c.requires c.in-Some.ledge c.in-Some.is).kept.1 c.if-mark-ne0.false).1

pub follow-requires-clause-finished : goal.follow-requires-clause-finished
follow-requires-clause-finished g c κs within = subst (λ (b : LedgeView g.row.U-Key.Denot g.row.U-Value.Denot). AreFinished g.U.Key.PartialEq.eq g.U.Universe.meaning b.taken (events_of c.args.core.now)) (sym c.deref_mut.ensures.value)
    (finished_since g.U.Key.PartialEq.eq c.laws_of.ensures.keys g.U.Universe.meaning (events_of c.args.core.now) c.args.mark c.in-Some.ledge.value (c.requires c.in-Some.ledge c.in-Some.is) c.if-mark-ne0.false c.in_order.ensures.lawful)
