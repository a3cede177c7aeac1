use Rattle.dice_jobs.proofs.TruthLemmas.{step_asks, step_value, step_same, step_changed}
use Rattle.dice_jobs.proofs.laws.steps_tell_the_truth.Goals as goal

pub returns : goal.returns
returns g c =
    let eq = g.U.Key.PartialEq.eq in
    let veq = g.U.Value.PartialEq.eq in
    let m = g.U.Universe.meaning in
    let law = c.laws_of.ensures.lawful in
    record {
      asks = λ C a s ks k j i. step_asks eq m law C veq a s j i ks k;
      value = λ C a s x j i. step_value eq m law C veq a s j i x;
      same = λ C a s x T b j i. step_same eq m law C veq a s j i x T b;
      changed = λ C a s x T b d j i. step_changed eq m law C veq a s j i x T b d;
    }
