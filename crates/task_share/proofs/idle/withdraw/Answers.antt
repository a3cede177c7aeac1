use Rattle.std.proofs.Common.{◌≡◌, ◌++◌, ◌∷◌, [], Some, ℕ, Global, map, refl, sym, ap, ◌∙◌, subst, slice_get}
use Rattle.std.specs.Prelude.{IsSome}
use Rattle.std.specs.Arc.{arc_value}
use Rattle.std.specs.Map.{values_of}
use Rattle.std.specs.Option.{option_to_list}
use Rattle.std.specs.declared.sync.Arc.{Arc}
use Rattle.task_share.specs.Listed.{shares_of, names_of, Withdrawing}
use Rattle.task_share.proofs.IdleLemmas.{popped_value, withdrawing_none, withdrawing_more, withdrawing_done}
use Rattle.task_share.proofs.idle.withdraw.Goals as goal
use Rattle.lists.specs.Lists.{Has}
use Rattle.lists.proofs.Members.{none_left, has_left, has_end}

pub loop-at-init : goal.loop-at-init
loop-at-init g c =
    record { linked = c.requires.linked; names = refl; numbered = c.requires.numbered; listed = c.requires.listed; gone = λ k _. withdrawing_none g.K.PartialEq.eq c.requires.equality k (map arc_value (values_of c.args.waits.entries)) (shares_of c.args.places.now.entries) }

pub loop-at-preserved : goal.loop-at-preserved
loop-at-preserved g c =
    let eq = g.K.PartialEq.eq in
    let l = c.loop-at in
    let x : ℕ × Arc g.row.K.Denot Global = (c.in-Some.at, c.in-Some._asked) in
    let rest : l.rest.entries ≡ c.pop.new.self.entries ++ x ∷ [] = c.pop.ensures.entries ∙ ap (λ r. c.pop.new.self.entries ++ option_to_list r) c.in-Some.is in
    let ns = names_of c.args.places.now.entries in
    let here : slice_get ns x.0 ≡ Some (arc_value x.1) = l.invariant.numbered x (subst (λ xs. Has xs x) (sym rest) (has_end c.pop.new.self.entries x)) in
    let after = λ (k : g.row.K.Denot) (e : slice_get ns c.args.asker ≡ Some k). c.leave_task.ensures.changed k (ap (λ ms. slice_get ms c.args.asker) l.invariant.names ∙ e) in
    record {
      linked = c.leave_task.ensures.linked;
      names = c.leave_task.ensures.names ∙ l.invariant.names;
      numbered = λ y h. l.invariant.numbered y (subst (λ xs. Has xs y) (sym rest) (has_left c.pop.new.self.entries (x ∷ []) y h));
      listed = c.leave_task.ensures.listed;
      gone = λ k e. withdrawing_more eq c.requires.equality k (arc_value x.1) (map arc_value (values_of c.args.waits.entries)) (map arc_value (values_of l.rest.entries)) (map arc_value (values_of c.pop.new.self.entries)) (shares_of c.args.places.now.entries) (shares_of l.places.entries) (shares_of c.leave_task.new.places.entries)
          (l.invariant.gone k e) (popped_value l.rest.entries c.pop.new.self.entries x rest) ((after k e).changed (arc_value x.1) (ap (λ ms. slice_get ms x.0) l.invariant.names ∙ here));
    }

pub returns-clause-withdrawn : goal.returns-clause-withdrawn
returns-clause-withdrawn g c = λ k e.
    let eq = g.K.PartialEq.eq in
    let empty = ap (λ xs. map arc_value (values_of xs)) (none_left c.loop-at.rest.entries (λ lt. let z = subst IsSome c.in_default.is (c.pop.ensures.found.1 lt) in cc)) in
    withdrawing_done eq c.requires.equality k (map arc_value (values_of c.args.waits.entries)) (shares_of c.args.places.now.entries) (shares_of c.loop-at.places.entries)
    (subst (λ rest. Withdrawing eq k (map arc_value (values_of c.args.waits.entries)) rest (shares_of c.args.places.now.entries) (shares_of c.loop-at.places.entries)) empty (c.loop-at.invariant.gone k e))
