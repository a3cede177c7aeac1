-- How a fault of a target file prints.
use Rattle.std.specs.Prelude.{ℕ, List, ◌++◌, codes, decimal}
use Rattle.target_file.specs.declared.fault.FileFault.{FileFault}
use Rattle.target_file.specs.declared.fault.FileFault.TheVariants.{Bad, NoMemory}

abbrev pub fault_text : FileFault → List ℕ
fault_text (Bad line) = codes "bad target file, line " ++ decimal line
fault_text NoMemory = codes "out of memory"
