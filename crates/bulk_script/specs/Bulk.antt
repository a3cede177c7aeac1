-- The bulk script of n targets: a package of sources, packages of a hundred targets each, and
-- requests for every tenth target in two transactions. Between these one source changes.
use Rattle.std.specs.Prelude.{ℕ, ◌+◌, ◌-◌, ◌*◌, ◌/◌, ◌%◌, ◌==◌, if◌then◌else◌, List, ◌∷◌, ◌++◌, codes, decimal, length, map, filter, flat_map}
use Rattle.std.specs.List.{range_with_len}
use Rattle.buck_label.specs.Labels.{Name, printed}
use Rattle.script.specs.declared.line.Line.{Line}
use Rattle.script.specs.declared.line.Line.TheVariants.{Put, Commit, Open, Ask}
use Rattle.bulk_script.specs.Spelled.{text_of}

-- the numbers below n, ascending
unfoldable pub numbers_below : ℕ → List ℕ
numbers_below n = range_with_len 0 n

-- the target of this number, in the package of its hundred
abbrev pub name_of : ℕ → Name
name_of i = record { home = codes "p" ++ decimal (i / 100); target = codes "t" ++ decimal i }

-- its label, as it prints
abbrev pub label_of : ℕ → List ℕ
label_of i = printed (name_of i)

-- the rule that exports the source of this number, on a line
abbrev pub export_line : ℕ → List ℕ
export_line j = codes "export_file(name = \"s" ++ decimal j ++ codes "\")\n"

-- the rule of the first target
abbrev pub first_line : List ℕ
first_line = codes "write_file(name = \"t0\", content = \"0\")\n"

-- the rule of each other target: it takes a source and two targets of smaller numbers
abbrev pub group_line : ℕ → List ℕ
group_line i = codes "filegroup(name = \"t" ++ decimal i ++ codes "\", srcs = [\"//src:s" ++ decimal (i % 16) ++ codes "\", \"" ++
    label_of (i / 2) ++ codes "\", \"" ++ label_of (i / 3) ++ codes "\"])\n"

-- the rule of a target, on a line
abbrev pub target_line : ℕ → List ℕ
target_line i = if i == 0 then first_line else group_line i

-- the targets of one package among n targets
unfoldable pub targets_in : ℕ → ℕ → List ℕ
targets_in n g = filter (λ i. i / 100 == g) (numbers_below n)

-- every tenth of n targets
unfoldable pub asked_of : ℕ → List ℕ
asked_of n = filter (λ i. i % 10 == 0) (numbers_below n)

-- where the source of this number stands
abbrev pub source_path : ℕ → List ℕ
source_path j = codes "src/s" ++ decimal j

-- a source holds its number, and no LF
abbrev pub source_put : ℕ → Line
source_put j = Put (source_path j) (decimal j)

-- the package of the sixteen sources, and the sources
unfoldable pub source_puts : List Line
source_puts = Put (codes "src/BUCK") (flat_map export_line (numbers_below 16)) ∷ map source_put (numbers_below 16)

-- the target file of the package of this number
abbrev pub package_path : ℕ → List ℕ
package_path g = codes "p" ++ decimal g ++ codes "/BUCK"

-- one package of n targets, a target on each line
abbrev pub package_put : ℕ → ℕ → Line
package_put n g = Put (package_path g) (flat_map target_line (targets_in n g))

-- the packages of n targets; there is one at least
unfoldable pub package_puts : ℕ → List Line
package_puts n = map (package_put n) (numbers_below ((n - 1) / 100 + 1))

-- the request for a target in a transaction t, named by both
abbrev pub ask_in : List ℕ → ℕ → Line
ask_in t i = Ask (record { transaction = t; name = t ++ decimal i; label = label_of i })

-- what was put is committed, and every tenth target is asked for in a new transaction t
unfoldable pub round_in : List ℕ → ℕ → List Line
round_in t n = Commit ∷ Open t ∷ map (ask_in t) (asked_of n)

-- the lines of the script: the first source changes between the rounds
unfoldable pub bulk_lines : ℕ → List Line
bulk_lines n = source_puts ++ package_puts n ++ round_in (codes "a") n ++ Put (codes "src/s0") (codes "x") ∷ round_in (codes "b") n

-- its bytes
unfoldable pub bulk : ℕ → List ℕ
bulk n = text_of (bulk_lines n)

-- how many requests it has, those of both rounds
unfoldable pub requests : ℕ → ℕ
requests n = 2 * length (asked_of n)
