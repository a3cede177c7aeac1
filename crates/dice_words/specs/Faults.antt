-- How a refusal of words prints.
use Rattle.std.specs.Prelude.{ℕ, List, codes}
use Rattle.dice_words.specs.declared.words.WordsFail.{WordsFail}
use Rattle.dice_words.specs.declared.words.WordsFail.TheVariants.{Refused, NoMemory}

abbrev pub words_fail_text : WordsFail → List ℕ
words_fail_text Refused = codes "words refused"
words_fail_text NoMemory = codes "no memory"
