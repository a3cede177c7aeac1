use Rattle.dep_recorder.proofs.Findings.{finds_same, finds_next, finds_change}
use Rattle.dep_recorder.proofs.laws.checks_are_exact.Goals as goal

pub returns : goal.returns
returns g c =
    let eq = g.U.Value.PartialEq.eq in
    let law = c.laws_of.ensures.values in
    record { same = finds_same eq law; wants = finds_next eq law; differs = finds_change eq law }
