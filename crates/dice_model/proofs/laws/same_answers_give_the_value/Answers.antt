use Rattle.dice_model.proofs.Alike.{same_answers}
use Rattle.dice_model.proofs.laws.same_answers_give_the_value.Goals as goal

pub returns : goal.returns
returns g c C D v w k A x t l a =
    let r = same_answers g.U.Key.PartialEq.eq g.U.Universe.meaning c.laws_of.ensures.lawful C D v w k A x t.computed t.goes t.ends l a in
    (record { computed = t.computed; goes = r.0; ends = r.1 }, r.2)
