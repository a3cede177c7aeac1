-- The tests of each line, in their order, over what the lines before it did.
use Rattle.std.specs.Prelude.{◌≡◌, ◌≢◌, ◌⊎◌, ◌≤◌, ℕ, true, false, if◌then◌else◌, List, [], ◌∷◌, codes, length, drop, Option, Some, None}
use Rattle.std.specs.Str.{bytes_eq}
use Rattle.buck_label.specs.Paths.{IsPath}
use Rattle.buck_label.specs.Labels.{Name, IsLabel}
use Rattle.script.specs.Lines.{IsDecimal, IsName}
use Rattle.script.specs.declared.fault.Word.{Word}
use Rattle.script.specs.declared.fault.Word.TheVariants as fault
use Rattle.script.specs.declared.fate.Fate.TheVariants.{Answered, Cancelled}
use Rattle.script.specs.Past.{Past, fate_of}

-- Tests, each with the word for its failure.
pub data Tests : Type 1 where
  done : Tests
  test : Type 0 → Word → Tests → Tests

abbrev pub AllHold : Tests → Type 0
AllHold done = Unit {0}
AllHold (test holds w ts) = holds × AllHold ts

-- the first that fails, with those before it holding
abbrev pub FirstToFail : Tests → Word → Type 0
FirstToFail done w = ⊥
FirstToFail (test holds v ts) w = ((holds → ⊥) × (w ≡ v)) ⊎ (holds × FirstToFail ts w)

-- A line's operands as written, if its first word is in the table and their number is right.
pub data Form : Type 0 where
  puts : List ℕ → List ℕ → Form
  drops : List ℕ → Form
  commits : Form
  opens : List ℕ → Form
  asks : List ℕ → List ℕ → List ℕ → Form
  acts : List ℕ → List ℕ → List ℕ → Form
  waits : List ℕ → Form
  cancels : List ℕ → Form
  closes : List ℕ → Form

abbrev pub one_word : List ℕ → Option Form
one_word w = if bytes_eq w (codes "commit") then Some commits else None

abbrev pub two_words : List ℕ → List ℕ → Option Form
two_words w a =
    if bytes_eq w (codes "drop") then Some (drops a) else
    if bytes_eq w (codes "open") then Some (opens a) else
    if bytes_eq w (codes "wait") then Some (waits a) else
    if bytes_eq w (codes "cancel") then Some (cancels a) else
    if bytes_eq w (codes "close") then Some (closes a) else None

abbrev pub three_words : List ℕ → List ℕ → List ℕ → Option Form
three_words w a b = if bytes_eq w (codes "put") then Some (puts a b) else None

abbrev pub four_words : List ℕ → List ℕ → List ℕ → List ℕ → Option Form
four_words w a b c =
    if bytes_eq w (codes "ask") then Some (asks a b c) else
    if bytes_eq w (codes "action") then Some (acts a b c) else None

-- the table of first words and of how many words a line has
abbrev pub form_of : List (List ℕ) → Option Form
form_of (w ∷ []) = one_word w
form_of (w ∷ a ∷ []) = two_words w a
form_of (w ∷ a ∷ b ∷ []) = three_words w a b
form_of (w ∷ a ∷ b ∷ c ∷ []) = four_words w a b c
form_of ws = None

abbrev pub IsSmallNumber : List ℕ → Type 0
IsSmallNumber number = (n : ℕ) × IsDecimal number n × (n ≤ 4194304)

-- nothing, or an LF in front
abbrev pub IsFollowed : List ℕ → Type 0
IsFollowed rest = (rest ≡ []) ⊎ ((more : List ℕ) × (rest ≡ 10 ∷ more))

-- that many bytes are left, and then an LF or the end
abbrev pub IsEnough : List ℕ → List ℕ → Type 0
IsEnough number rest = (n : ℕ) → IsDecimal number n → (n ≤ length rest) × IsFollowed (drop n rest)

-- a request in transaction t, of this name, for a label
abbrev pub asking : Past → List ℕ → List ℕ → List ℕ → Tests
asking p t name label =
    test (IsName t) fault.Name (test (p.opened t ≡ Some true) fault.Open
    (test (IsName name) fault.Name (test (p.asked name ≡ None) fault.Taken
    (test ((n : Name) × IsLabel label n) fault.Label done))))

-- a path that is put or dropped, and then more tests
abbrev pub touching : Past → List ℕ → Tests → Tests
touching p path ts = test (IsPath path) fault.Path (test (p.touched path ≡ false) fault.Twice ts)

-- a request that was made, and then more tests
abbrev pub naming : Past → List ℕ → Tests → Tests
naming p name ts = test (IsName name) fault.Name (test (fate_of p name ≢ None) fault.Unknown ts)

-- the tests of a line that these bytes follow
abbrev pub tests : Past → Form → List ℕ → Tests
tests p (puts path number) rest = touching p path (test (IsSmallNumber number) fault.Number (test (IsEnough number rest) fault.Count done))
tests p (drops path) rest = touching p path done
tests p commits rest = done
tests p (opens t) rest = test (IsName t) fault.Name (test (p.opened t ≡ None) fault.Taken done)
tests p (asks t name label) rest = asking p t name label
tests p (acts t name label) rest = asking p t name label
tests p (waits name) rest = naming p name (test (fate_of p name ≢ Some Cancelled) fault.Cancelled done)
tests p (cancels name) rest = naming p name
    (test (fate_of p name ≢ Some Answered) fault.Answered (test (fate_of p name ≢ Some Cancelled) fault.Cancelled done))
tests p (closes t) rest = test (IsName t) fault.Name (test (p.opened t ≡ Some true) fault.Open done)
