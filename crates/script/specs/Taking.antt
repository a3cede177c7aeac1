-- What the parts of the reader answer.
use Rattle.std.specs.Prelude.{◌≡◌, ◌⊎◌, ◌≤◌, ℕ, true, List, Option, Some, None, length, drop, Result, Ok, Err}
use Rattle.script.specs.declared.fault.Word.{Word}
use Rattle.script.specs.declared.fault.Word.TheVariants as fault
use Rattle.script.specs.declared.fault.Stop.{Stop}
use Rattle.script.specs.declared.fault.Stop.TheVariants as stop
use Rattle.script.specs.declared.script.Broken.{Broken}
use Rattle.script.specs.declared.script.Broken.TheVariants as broken
use Rattle.std.specs.declared.vec.Vec.{Vec}
use Rattle.script.specs.declared.line.Line.{Line}
use Rattle.script.specs.declared.line.Request.{Request}
use Rattle.script.specs.declared.known.Known.{Known}
use Rattle.script.specs.Known.{past_of}
use Rattle.script.specs.Lines.{IsDecimal, IsName, words, line_of, behind_line}
use Rattle.script.specs.Past.{Past, nothing, after, after_all}
use Rattle.script.specs.Faults.{Form, puts, Tests, done, test, touching, asking, form_of, AllHold, FirstToFail, tests}
use Rattle.script.specs.Scripts.{IsSkipped, Makes, IsFrom, FaultAt}
use Rattle.buck_label.specs.Paths.{IsPath}
use Rattle.buck_label.specs.Labels.{Name, IsLabel, printed}

abbrev pub IsPathRead : List ℕ → Result (List ℕ) Stop → Type 0
IsPathRead text (Ok p) = (p ≡ text) × IsPath text
IsPathRead text (Err (stop.Fault w)) = (w ≡ fault.Path) × (IsPath text → ⊥)
IsPathRead text (Err stop.NoMemory) = Unit {0}

abbrev pub IsNameRead : List ℕ → Result (List ℕ) Stop → Type 0
IsNameRead text (Ok n) = (n ≡ text) × IsName text
IsNameRead text (Err (stop.Fault w)) = (w ≡ fault.Name) × (IsName text → ⊥)
IsNameRead text (Err stop.NoMemory) = Unit {0}

abbrev pub IsLabelRead : List ℕ → Result (List ℕ) Stop → Type 0
IsLabelRead text (Ok l) = (n : Name) × IsLabel text n × (l ≡ printed n)
IsLabelRead text (Err (stop.Fault w)) = (w ≡ fault.Label) × ((n : Name) → IsLabel text n → ⊥)
IsLabelRead text (Err stop.NoMemory) = Unit {0}

-- a text that was read, or the first of its tests to fail
abbrev pub IsTested : Tests → List ℕ → Result (List ℕ) Stop → Type 0
IsTested ts text (Ok read) = (read ≡ text) × AllHold ts
IsTested ts text (Err (stop.Fault w)) = FirstToFail ts w
IsTested ts text (Err stop.NoMemory) = Unit {0}

-- the tests of a transaction that is open, and of the name of a new request
abbrev pub in_open : Past → List ℕ → Tests
in_open p t = test (IsName t) fault.Name (test (p.opened t ≡ Some true) fault.Open done)

abbrev pub fresh : Past → List ℕ → Tests
fresh p name = test (IsName name) fault.Name (test (p.asked name ≡ None) fault.Taken done)

-- a path that was neither put nor dropped
abbrev pub IsUntouched : Past → List ℕ → Result (List ℕ) Stop → Type 0
IsUntouched p text (Ok path) = (path ≡ text) × AllHold (touching p text done)
IsUntouched p text (Err (stop.Fault w)) = FirstToFail (touching p text done) w
IsUntouched p text (Err stop.NoMemory) = Unit {0}

-- the operands of a put
abbrev pub IsPutRead : Past → List ℕ → List ℕ → List ℕ → Result (List ℕ × ℕ) Stop → Type 0
IsPutRead p path number behind (Ok r) = AllHold (tests p (puts path number) behind) × (r.0 ≡ path) × IsDecimal number r.1
IsPutRead p path number behind (Err (stop.Fault w)) = FirstToFail (tests p (puts path number) behind) w
IsPutRead p path number behind (Err stop.NoMemory) = Unit {0}

abbrev pub IsRequestRead : Past → List ℕ → List ℕ → List ℕ → Result Request Stop → Type 0
IsRequestRead p t name label (Ok r) = AllHold (asking p t name label) × ((n : Name) × IsLabel label n × (r ≡ record { transaction = t; name = name; label = printed n }))
IsRequestRead p t name label (Err (stop.Fault w)) = FirstToFail (asking p t name label) w
IsRequestRead p t name label (Err stop.NoMemory) = Unit {0}

-- a line of this form was taken, with so many of the bytes after it
abbrev pub IsTaken : Past → Form → List ℕ → Result (Line × ℕ) Stop → Past → Type 0
IsTaken p f behind (Ok r) q = AllHold (tests p f behind) × Makes f behind r.0 (drop r.1 behind) × (q ≡ after p r.0)
IsTaken p f behind (Err (stop.Fault w)) q = FirstToFail (tests p f behind) w
IsTaken p f behind (Err stop.NoMemory) q = Unit {0}

-- the first line of a text was taken, and what it did
abbrev pub HasDone : Past → List ℕ → Option Line → List ℕ → Past → Type 0
HasDone p text None rest q = IsSkipped (line_of text) × (rest ≡ behind_line text) × (q ≡ p)
HasDone p text (Some l) rest q = (f : Form) × (IsSkipped (line_of text) → ⊥) × (form_of (words (line_of text)) ≡ Some f) ×
    AllHold (tests p f (behind_line text)) × Makes f (behind_line text) l rest × (q ≡ after p l)

-- the first line of a text has this fault
abbrev pub HasFault : Past → List ℕ → Word → Type 0
HasFault p text w = (IsSkipped (line_of text) → ⊥) × (((form_of (words (line_of text)) ≡ None) × (w ≡ fault.Word))
    ⊎ ((f : Form) × (form_of (words (line_of text)) ≡ Some f) × FirstToFail (tests p f (behind_line text)) w))

abbrev pub IsLineTaken : Past → List ℕ → Result (Option Line × ℕ) Stop → Past → Type 0
IsLineTaken p text (Ok r) q = HasDone p text r.0 (drop r.1 text) q
IsLineTaken p text (Err (stop.Fault w)) q = HasFault p text w
IsLineTaken p text (Err stop.NoMemory) q = Unit {0}

abbrev pub broken_at : ℕ → Stop → Broken
broken_at at (stop.Fault w) = broken.At at w
broken_at at stop.NoMemory = broken.NoMemory

-- The line that begins at this byte has this fault.
abbrev pub IsBroken : List ℕ → Broken → Type 0
IsBroken text (broken.At at w) = (at ≤ length text) × FaultAt nothing text (drop at text) w
IsBroken text broken.NoMemory = Unit {0}

-- All lines were taken, and this is known at their end; or why not.
abbrev pub AreLines : {A : Type 0} → List ℕ → Result (Vec Line A × Known) Broken → Type 0
AreLines text (Ok r) = IsFrom nothing text r.0.items × (past_of r.1 ≡ after_all nothing r.0.items)
AreLines text (Err b) = IsBroken text b
