-- The users of one key more.
use Rattle.std.proofs.Common.{[], cond, sym, ap, ◌∙◌, map, take}
use Rattle.std.specs.Arc.{arc_value}
use Rattle.std.specs.List.{list_any}
use Rattle.std.proofs.lemmas.List.{take_all}
use Rattle.versioned_graph.specs.Users.{users_of}
use Rattle.versioned_graph.proofs.CutLemmas.{any_more, none_of}
use Rattle.versioned_graph.proofs.cut.forget_all.Goals as goal

pub loop-key-preserved : goal.loop-key-preserved
loop-key-preserved g c = λ j.
    let eq = g.U.Key.PartialEq.eq in
    let i = c.loop-key.key-index in
    let ks = c.args.keys.now in
    let old = users_of eq c.args.users.now j in
    c.forget.ensures j
    ∙ (ap (cond (eq (arc_value c.key-item.result) j) []) (c.loop-key.invariant j)
    ∙ (none_of (eq (arc_value c.key-item.result) j) (list_any (eq j) (map arc_value (take i ks))) old
    ∙ ap (λ b. cond b [] old) (sym (any_more eq c.laws_of.ensures.keys ks i c.key-item.result c.loop-key-test.true c.key-item.is j))))

pub returns : goal.returns
returns g c = λ j.
    let eq = g.U.Key.PartialEq.eq in
    c.loop-key.invariant j ∙ ap (λ ks. cond (list_any (eq j) (map arc_value ks)) [] (users_of eq c.args.users.now j)) (take_all c.loop-key.key-index c.args.keys.now c.loop-key-test.false)
