-- What a reader of target files answers.
use Rattle.std.specs.Prelude.{◌≡◌, ℕ, List, Result, Ok, Err}
use Rattle.target_file.specs.Files.{IsBad}
use Rattle.target_file.specs.Targets.{Located, IsFile}
use Rattle.target_file.specs.Contents.{Contents, Holds, Fails}
use Rattle.target_file.specs.declared.fault.FileFault.{FileFault}
use Rattle.target_file.specs.declared.fault.FileFault.TheVariants.{Bad, NoMemory}

-- By the grammar: the targets of the file, or the line of the fault.
abbrev pub IsRead : List ℕ → Result (List Located) FileFault → Type 0
IsRead text (Ok file) = IsFile text file
IsRead text (Err (Bad line)) = IsBad text line
IsRead text (Err NoMemory) = Unit {0}

-- The same as one value of the bytes.
abbrev pub IsAnswer : Contents → Result (List Located) FileFault → Type 0
IsAnswer c (Ok file) = c ≡ Holds file
IsAnswer c (Err (Bad line)) = c ≡ Fails line
IsAnswer c (Err NoMemory) = Unit {0}
