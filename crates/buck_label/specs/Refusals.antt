-- How a refusal prints.
use Rattle.std.specs.Prelude.{ℕ, List, codes}
use Rattle.buck_label.specs.declared.path.Refused.{Refused}
use Rattle.buck_label.specs.declared.path.Refused.TheVariants.{Bad, NoMemory}

abbrev pub refused_text : Refused → List ℕ
refused_text Bad = codes "not a path or label"
refused_text NoMemory = codes "no memory"
