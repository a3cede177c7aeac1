use Rattle.dice_model.proofs.Inputs.{newest_input, unset_input, set_or_not, injected_value}
use Rattle.dice_model.proofs.laws.inputs_are_settled.Goals as goal

pub returns : goal.returns
returns g c =
    let eq = g.U.Key.PartialEq.eq in
    let m = g.U.Universe.meaning in
    let law = c.laws_of.ensures.keys in
    record {
      newest = newest_input eq law m;
      unset = unset_input eq law m;
      either = λ C k. set_or_not eq law k C;
      value = injected_value eq m;
    }
