-- How a fault of a source prints.
use Rattle.std.specs.Prelude.{ℕ, List, codes}
use Rattle.dice_io.specs.declared.edge.ReadFail.{ReadFail}
use Rattle.dice_io.specs.declared.edge.ReadFail.TheVariants.{Failed, NoMemory}

abbrev pub read_fail_text : ReadFail → List ℕ
read_fail_text Failed = codes "read failed"
read_fail_text NoMemory = codes "no memory"
