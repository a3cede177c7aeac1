use Rattle.std.proofs.Common.{◌∙◌, sym}
use Rattle.dice_model.proofs.EvalLaws.{one_value, eval_stable, cyclic-no-value}
use Rattle.dice_model.proofs.Finite.{settled}
use Rattle.dice_model.proofs.Traces.{eval_up}
use Rattle.dice_model.proofs.laws.values_are_settled.Goals as goal

pub returns : goal.returns
returns g c =
    let eq = g.U.Key.PartialEq.eq in
    let m = g.U.Universe.meaning in
    record {
      one = one_value eq m;
      deeper = λ C v n l k x h e. eval_up eq m C v n l h k x e;
      stable = λ C D v k x h i. record { depth = i.depth; gives = eval_stable eq m C D v h i.depth k ∙ i.gives };
      settled_before = λ C D v k x h i. record { depth = i.depth; gives = sym (eval_stable eq m C D v h i.depth k) ∙ i.gives };
      cyclic = cyclic-no-value eq m;
      settled = λ C v all k closed h. settled eq m c.laws_of.ensures.lawful C v c.laws_of.ensures.keys all closed k h;
    }
