use Rattle.journal.proofs.Lawful.{open_says}
use Rattle.journal.proofs.Words.{open_by_words, live_says, live_by_words}
use Rattle.journal.proofs.WordsEpochs.{base_says, base_found, decided_says, decided_found, lost_says, lost_found}
use Rattle.journal.proofs.WordsAsked.{asked_says, asked_found, runs_says, runs_by_words, none_of_injected}
use Rattle.journal.proofs.laws.words_are_read.Goals as goal

pub returns : goal.returns
returns g c =
    let eq = g.U.Key.PartialEq.eq in
    let equality = c.laws_of.ensures.keys in
    record {
      opened = λ R i o. ((λ h. open_says R i o h), (λ w. open_by_words R i o w));
      live = λ R i a. ((λ h. live_says R i a h), (λ w. live_by_words R i a w));
      base = λ R b k. ((λ h. base_says eq equality R b k h), (λ w. base_found eq equality R b k w));
      running = λ R v k. ((λ h. runs_says eq equality R v k h), (λ w. runs_by_words eq equality R v k w));
      lost = λ R v k. ((λ h. lost_says eq equality R v k h), (λ w. lost_found eq equality R v k w));
      decided = λ R v k d l. ((λ h. decided_says eq equality R v k d h), (λ w. decided_found eq equality g.U.Universe.meaning R v k d l w));
      injected = λ R e k l h i. none_of_injected eq g.U.Universe.meaning R e k l h i;
      asked = λ R v k l. ((λ h. asked_says eq equality R v k h), (λ w. asked_found eq equality g.U.Universe.meaning R v k l w));
    }
