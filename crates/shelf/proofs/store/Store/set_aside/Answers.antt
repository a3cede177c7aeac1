use Rattle.std.proofs.Common.{◌≡◌, sym, ◌∙◌, ap, subst, ◌∷◌, [], ◌++◌, MatchResult}
use Rattle.shelf.specs.Ops.{plain}
use Rattle.shelf.specs.Rows.{IsNoNewRow, woven}
use Rattle.shelf.specs.Rule.{with_op}
use Rattle.shelf.proofs.RowLemmas.{Kept, aside_kept, other_woven}
use Rattle.shelf.proofs.store.Store.set_aside.Goals as goal
use Rattle.shelf.proofs.store.Store.set_aside.Goals.{in-Ok, in-Err}

pub invariant_of-self : goal.invariant_of-self
invariant_of-self g c =
    let eq = g.K.PartialEq.eq in
    let es = c.self.inside.rows.entries in
    let none = subst (λ ops. IsNoNewRow eq ops (plain c.args.op)) (sym c.self.view_is) c.requires in
    elim c.match-push.branch [
      | in-Ok w ↦ subst (Kept eq es) (sym w.in-Ok.ensures.items) (aside_kept eq g.met.K.Eq.laws es c.self.inside.others.items _ c.len-after.ensures.len c.self.invariant none)
      | in-Err w ↦ subst (Kept eq es) (sym w.in-Err.ensures.items) c.self.invariant
    ]

pub returns : goal.returns
returns g c =
    let es = c.self.inside.rows.entries in
    let new = woven 0 es c.push.new.self.items in
    let old = c.args.self.now in
    let op = c.args.op in
    elim c.match-push.branch [
      | in-Ok w ↦ subst (λ r. MatchResult r (λ _. new ≡ with_op old op) (λ back. (back ≡ op) × (new ≡ old))) (sym w.result-is)
          (ap (woven 0 es) w.in-Ok.ensures.items ∙ (other_woven 0 es c.self.inside.others.items _ c.len-after.ensures.len ∙ ap (λ ops. ops ++ plain op ∷ []) c.self.view_is))
      | in-Err w ↦ subst (λ r. MatchResult r (λ _. new ≡ with_op old op) (λ back. (back ≡ op) × (new ≡ old))) (sym w.result-is)
          (ap (λ aside. aside.op) w.in-Err.ensures.value_returned, ap (woven 0 es) w.in-Err.ensures.items ∙ c.self.view_is)
    ]
