-- The texts of actions. Each line ends in a line feed.
use Rattle.std.specs.Prelude.{◌≡◌, ℕ, Bool, true, false, List, [], ◌∷◌, ◌++◌, map, codes, decimal, Option, Some, None, Result, Ok, Err}
use Rattle.hex.specs.Hex.{encode_lower}
use Rattle.sha2.specs.Sha256.{sha256}
use Rattle.target_file.specs.Strings.{locations}
use Rattle.target_file.specs.declared.source.Source.{Source}
use Rattle.target_file.specs.declared.source.Source.TheVariants as source
use Rattle.target_file.specs.declared.action.Action.{Action}
use Rattle.target_file.specs.declared.action.Action.TheVariants as action
use Rattle.action_digest.specs.declared.key.Key.{Key}
use Rattle.action_digest.specs.declared.key.Key.TheVariants as key
use Rattle.action_digest.specs.declared.value.Value.{Value}
use Rattle.action_digest.specs.declared.value.Value.TheVariants as value
use Rattle.action_digest.specs.declared.value.ActionText.{ActionText}
use Rattle.action_digest.specs.declared.fault.Fault.{Fault}
use Rattle.action_digest.specs.declared.fault.Fault.TheVariants.{NoPackage, NoSource}
use Rattle.action_digest.specs.Written.{key_in}

-- the lower-case hex of the SHA-256 of some bytes
abbrev pub hex_digest : List ℕ → List ℕ
hex_digest bytes = encode_lower (sha256 bytes)

-- a line and its line feed
abbrev pub line : List ℕ → List ℕ
line text = text ++ 10 ∷ []

-- what a target asks for: its sources in order, then its locations in order
abbrev pub wanted_by : Action → List Source
wanted_by (action.ExportFile src out) = source.Path src ∷ []
wanted_by (action.Filegroup srcs) = srcs
wanted_by (action.WriteFile content out) = []
wanted_by (action.Genrule srcs out cmd) = srcs ++ map source.Label (locations cmd)
wanted_by (action.StampFile out) = []

-- the keys that it asks, in the target file of a package
abbrev pub asked_by : List ℕ → Action → List Key
asked_by home a = map (key_in home) (wanted_by a)

-- the lines before those of what was asked: the rule, its out, and the digest of a content or a
-- command; of a stamp the version
abbrev pub head_of : ℕ → Action → List ℕ
head_of v (action.ExportFile src out) = line (codes "export_file") ++ line out
head_of v (action.Filegroup srcs) = line (codes "filegroup")
head_of v (action.WriteFile content out) = line (codes "write_file") ++ line out ++ line (hex_digest content)
head_of v (action.Genrule srcs out cmd) = line (codes "genrule") ++ line out ++ line (hex_digest cmd)
head_of v (action.StampFile out) = line (codes "stamp_file") ++ line out ++ line (decimal v)

-- whether the text holds the version: that of a stamp alone
abbrev pub is_stamp : Action → Bool
is_stamp (action.ExportFile src out) = false
is_stamp (action.Filegroup srcs) = false
is_stamp (action.WriteFile content out) = false
is_stamp (action.Genrule srcs out cmd) = false
is_stamp (action.StampFile out) = true

-- whether the line of a source begins with its path or label: not if a file is exported as it is
abbrev pub names_sources : Action → Bool
names_sources (action.ExportFile src out) = false
names_sources (action.Filegroup srcs) = true
names_sources (action.WriteFile content out) = true
names_sources (action.Genrule srcs out cmd) = true
names_sources (action.StampFile out) = true

-- the fault that stands for an answer of a kind that was not asked for. None comes in the program.
-- But a commit may set a source to a value of another kind, which is read as no file
abbrev pub nothing : Fault
nothing = NoPackage []

-- what an answer says of a source, and of a digest
abbrev pub source_in : Option Value → Option (List ℕ)
source_in (Some (value.Source o)) = o
source_in _ = None

abbrev pub digest_in : Option Value → Result (List ℕ) Fault
digest_in (Some (value.Digest r)) = r
digest_in _ = Err nothing

-- the line of something that was asked: its path or label, if it is named, and a digest in hex
abbrev pub digest_line : Bool → List ℕ → List ℕ → List ℕ
digest_line true name hex = line (name ++ 32 ∷ hex)
digest_line false name hex = line hex

-- of a file, by its bytes; of a target, by its digest
abbrev pub file_line : Bool → List ℕ → Option (List ℕ) → Result (List ℕ) Fault
file_line named path (Some bytes) = Ok (digest_line named path (hex_digest bytes))
file_line named path None = Err (NoSource path)

abbrev pub target_line : Bool → List ℕ → Result (List ℕ) Fault → Result (List ℕ) Fault
target_line named label (Ok digest) = Ok (digest_line named label (encode_lower digest))
target_line named label (Err e) = Err e

-- of a key, by its answer
abbrev pub line_by : Bool → Key → Value → Result (List ℕ) Fault
line_by named (key.Source p) x = file_line named p (source_in (Some x))
line_by named (key.Package p) x = Ok []
line_by named (key.Rule l) x = Ok []
line_by named (key.Action l) x = Ok []
line_by named (key.Digest l) x = target_line named l (digest_in (Some x))

-- a line before others, or the first fault
abbrev pub joined : Result (List ℕ) Fault → Result (List ℕ) Fault → Result (List ℕ) Fault
joined (Ok a) (Ok b) = Ok (a ++ b)
joined (Ok a) (Err e) = Err e
joined (Err e) r = Err e

-- the lines of the keys that were asked, in order, or the first fault
abbrev pub lines_by : Bool → List Key → List Value → Result (List ℕ) Fault
lines_by named [] xs = Ok []
lines_by named (k ∷ ks) [] = Ok []
lines_by named (k ∷ ks) (x ∷ xs) = joined (line_by named k x) (lines_by named ks xs)

abbrev pub text_with : ℕ → Action → Result (List ℕ) Fault → Result ActionText Fault
text_with v a (Ok lines) = Ok (record { text = head_of v a ++ lines; holds_version = is_stamp a })
text_with v a (Err e) = Err e

-- the text of an action at version v, if it asked these keys and got these answers, or the first
-- fault
abbrev pub action_of : ℕ → Action → List Key → List Value → Result ActionText Fault
action_of v a ks xs = text_with v a (lines_by (names_sources a) ks xs)

-- the lines after a text, or the fault
abbrev pub behind : List ℕ → Result (List ℕ) Fault → Result (List ℕ) Fault
behind text (Ok lines) = Ok (text ++ lines)
behind text (Err e) = Err e

-- the text, or the fault that was told
abbrev pub text_or : List ℕ → Result (Unit {0}) Fault → Result (List ℕ) Fault
text_or text (Ok u) = Ok text
text_or text (Err e) = Err e

-- the text has gained the line, or the fault that stands in its place was told
abbrev pub IsAppended : List ℕ → List ℕ → Result (Unit {0}) Fault → Result (List ℕ) Fault → Type 0
IsAppended old new (Ok u) (Ok line) = new ≡ old ++ line
IsAppended old new (Err e) (Err f) = e ≡ f
IsAppended old new (Ok u) (Err f) = ⊥
IsAppended old new (Err e) (Ok line) = ⊥
