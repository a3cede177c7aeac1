-- What the reader's code is seen as.
use Rattle.std.specs.Prelude.{◌≡◌, ◌≤◌, ◌||◌, ℕ, Bool, true, false, nat_eq, List, [], ◌∷◌, ◌++◌, ◌⊎◌, length, map, Option, Some, None}
use Rattle.target_file.specs.declared.progress.Progress.{Progress}
use Rattle.target_file.specs.declared.mode.Mode.{Mode}
use Rattle.target_file.specs.declared.mode.Mode.TheVariants as mode
use Rattle.target_file.specs.declared.place.Place.TheVariants as place
use Rattle.target_file.specs.Tokens as tokens
use Rattle.target_file.specs.Seen.{arguments_of, call_of}
use Rattle.target_file.specs.Machine.{State, Steps, Runs}
use Rattle.target_file.specs.declared.reader.Reader.{Reader}
use Rattle.target_file.specs.declared.quoted.Unquoted.{Unquoted}
use Rattle.target_file.specs.declared.quoted.Unquoted.TheVariants as read

abbrev pub state_of : Progress → State
state_of p = record { calls = map call_of p.calls.items; line = p.line; rule = p.rule; given = arguments_of p.given.items; items = p.items.items; place = p.place }

-- the token is taken, or there is none to go on to
abbrev pub Stepped : State → tokens.Token → Bool → State → Type 0
Stepped s t true e = Steps s t e
Stepped s t false e = (x : State) → Steps s t x → ⊥

-- a scan with no token before it
abbrev pub bare : tokens.Mode → ℕ → tokens.Scan
bare mode line = record { tokens = []; mode = mode; line = line }

abbrev pub mode_of : Mode → tokens.Mode
mode_of mode.Between = tokens.Between
mode_of mode.Comment = tokens.Comment

-- the scan of a reader, with no token before it
abbrev pub scan_of : Reader → tokens.Scan
scan_of r = bare (mode_of r.mode) r.line

-- a byte that is refused: the scan has none, or the token that it ends is refused
abbrev pub Refuses : tokens.Scan → ℕ → State → Type 0
Refuses s b m = (tokens.next s b ≡ None) ⊎ ((t : tokens.Scan) × (tokens.next s b ≡ Some t) × ((e : State) → Runs m t.tokens e → ⊥))

-- a byte that is taken, by the scan and by the machine
pub record Takes (s : tokens.Scan) (b : ℕ) (m : State) (t : tokens.Scan) (e : State) : Type 0 where
  pub out : List tokens.Token
  pub next_is : tokens.next s b ≡ Some (record { tokens = out; mode = t.mode; line = t.line })
  pub runs : Runs m out e

abbrev pub Took : tokens.Scan → ℕ → State → Bool → tokens.Scan → State → Type 0
Took s b m true t e = Takes s b m t e
Took s b m false t e = Refuses s b m

-- outside words and strings
abbrev pub IsOpen : tokens.Mode → Type 0
IsOpen tokens.Between = Unit {0}
IsOpen tokens.Comment = Unit {0}
IsOpen m = ⊥

-- bytes that are taken one after the other
abbrev pub Ran : tokens.Scan → List ℕ → State → tokens.Scan → State → Type 0
Ran s [] m t e = (t ≡ s) × (e ≡ m)
Ran s (b ∷ bs) m t e = (mode : tokens.Mode) × (line : ℕ) × (k : State) × Takes s b m (bare mode line) k × Ran (bare mode line) bs k t e

-- so many bytes that stand in front are taken
pub record Went (s : tokens.Scan) (bs : List ℕ) (m : State) (count : ℕ) (t : tokens.Scan) (e : State) : Type 0 where
  pub front : List ℕ
  pub back : List ℕ
  pub bytes_are : bs ≡ front ++ back
  pub count_is : length front ≡ count
  pub some : 1 ≤ count
  pub ran : Ran s front m t e

-- one of the bytes is refused, on this line
pub record Stops (s : tokens.Scan) (bs : List ℕ) (m : State) (line : ℕ) : Type 0 where
  pub front : List ℕ
  pub byte : ℕ
  pub back : List ℕ
  pub bytes_are : bs ≡ front ++ byte ∷ back
  pub mode : tokens.Mode
  pub state : State
  pub ran : Ran s front m (bare mode line) state
  pub refused : Refuses (bare mode line) byte state

-- the bytes end inside a word or a string, on this line
pub record Breaks (s : tokens.Scan) (bs : List ℕ) (m : State) (line : ℕ) : Type 0 where
  pub mode : tokens.Mode
  pub state : State
  pub ran : Ran s bs m (bare mode line) state
  pub inside : IsOpen mode → ⊥

abbrev pub Fails : tokens.Scan → List ℕ → State → ℕ → Type 0
Fails s bs m line = Stops s bs m line ⊎ Breaks s bs m line

-- what stands in front is taken, or no file goes on so
abbrev pub Goes : tokens.Scan → List ℕ → State → Option ℕ → tokens.Scan → State → Type 0
Goes s bs m (Some count) t e = Went s bs m count t e
Goes s bs m None t e = Fails s bs m s.line

-- a byte that does not stand for itself in a string with this quote
abbrev pub is_special : ℕ → ℕ → Bool
is_special quote b = (nat_eq b 10 || nat_eq b 13) || (nat_eq b quote || nat_eq b 92)

-- in a string with this quote so many bytes in front stand for c
abbrev pub Means : ℕ → List ℕ → ℕ → ℕ → Type 0
Means quote bs c count = (text : List ℕ) (line : ℕ) (m : State) → Went (bare (tokens.InText quote text) line) bs m count (bare (tokens.InText quote (text ++ c ∷ [])) line) m

-- no file goes on so in a string with this quote, and no file goes on so in an empty one
abbrev pub IsBroken : ℕ → List ℕ → Type 0
IsBroken quote bs = (text : List ℕ) (line : ℕ) (m : State) → Fails (bare (tokens.InText quote text) line) bs m line

abbrev pub HasNoEnd : ℕ → List ℕ → Type 0
HasNoEnd quote bs = (line : ℕ) (m : State) → Fails (bare (tokens.InText quote []) line) bs m line

-- the bytes that a string stands for
abbrev pub unquoted : Unquoted → List ℕ
unquoted (read.Plain bytes) = bytes.now
unquoted (read.Escaped bytes) = bytes.items

-- so many bytes stand before the quote that ends a string, and this is what they stand for
pub record Quoted (quote : ℕ) (bs text : List ℕ) (count : ℕ) : Type 0 where
  pub front : List ℕ
  pub back : List ℕ
  pub bytes_are : bs ≡ front ++ quote ∷ back
  pub count_is : length front ≡ count
  pub ran : (line : ℕ) (m : State) → Ran (bare (tokens.InText quote []) line) front m (bare (tokens.InText quote text) line) m

-- where a file may end
abbrev pub IsEnd : tokens.Scan → State → Type 0
IsEnd s m = IsOpen s.mode × (m.place ≡ place.Top)
