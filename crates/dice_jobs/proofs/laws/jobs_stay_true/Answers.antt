use Rattle.dice_jobs.proofs.TruthLemmas.{stays_longer, stays_answered, stays_turned, true_asks}
use Rattle.std.proofs.Common.{[]}
use Rattle.dice_jobs.proofs.laws.jobs_stay_true.Goals as goal

pub returns : goal.returns
returns g c =
    let eq = g.U.Key.PartialEq.eq in
    let m = g.U.Universe.meaning in
    record {
      begun = λ C n h w. record { computed = h; within = w; answers = tt };
      checked = λ C n x T b h w e. record { computed = h; within = w; answers = (e, tt, tt) };
      longer = stays_longer eq m;
      answered = λ C a s ks xs j i. stays_answered eq m c.laws_of.ensures.lawful C g.U.Value.PartialEq.eq a s j i ks xs;
      changed = λ C a s x T b d j i. stays_turned eq m c.laws_of.ensures.lawful C g.U.Value.PartialEq.eq a s j i x T b d;
      asked = λ C a. true_asks eq m C [] a;
    }
