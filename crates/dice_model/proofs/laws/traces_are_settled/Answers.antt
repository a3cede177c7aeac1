use Rattle.dice_model.proofs.Traces.{some_trace, one_trace, trace_value}
use Rattle.dice_model.proofs.laws.traces_are_settled.Goals as goal

pub returns : goal.returns
returns g c =
    let eq = g.U.Key.PartialEq.eq in
    let m = g.U.Universe.meaning in
    record {
      some = λ C v k x h i. some_trace eq m C v k x h i;
      one = λ C v k A B x y p q. one_trace eq m C v k A B x y p q;
      value = λ C v k A x t. trace_value eq m C v c.laws_of.ensures.lawful k A x t.computed t.goes t.ends;
    }
