-- One key more is copied.
use Rattle.std.proofs.Common.{◌++◌, ◌+◌, ap, sym, ◌∙◌, map, drop}
use Rattle.std.proofs.lemmas.List.{append-nil, at_drop_all}
use Rattle.std.specs.Arc.{arc_value}
use Rattle.versioned_graph.proofs.Walk.{copied_more}
use Rattle.versioned_graph.proofs.reach.copies.Goals as goal

pub loop-key-init : goal.loop-key-init
loop-key-init g c = ap (λ cs. map arc_value cs ++ map arc_value c.args.keys.now) c.in_ok-copies.ensures.items

pub loop-key-preserved : goal.loop-key-preserved
loop-key-preserved g c =
    ap (λ cs. map arc_value cs ++ map arc_value (drop (c.loop-key.key-index + 1) c.args.keys.now)) c.in_ok-push.ensures.items
    ∙ copied_more c.loop-key.copies.items c.args.keys.now c.loop-key.key-index c.in_ok-try_clone.field-0 c.key-item.result c.loop-key-test.true c.key-item.is c.in_ok-try_clone.ensures (map arc_value c.args.keys.now) c.loop-key.invariant

pub returns : goal.returns
returns g c =
    sym (ap (λ l. map arc_value c.loop-key.copies.items ++ l) (at_drop_all (map arc_value) c.args.keys.now c.loop-key.key-index c.loop-key-test.false) ∙ append-nil (map arc_value c.loop-key.copies.items)) ∙ c.loop-key.invariant
