-- The grammar of tokens: how words, strings and marks are spelled, with blanks and comments between
-- them.
use Rattle.std.specs.Prelude.{◌≡◌, ◌≢◌, ◌+◌, ℕ, true, false, List, [], ◌∷◌, ◌++◌, Some}
use Rattle.std.specs.List.{AllByRecursion}
use Rattle.target_file.specs.Tokens.{Token, Word, Text, Mark, is_blank, is_mark, is_quote, is_letter, escaped, next_line}

-- a byte that stands for itself in a string with this quote
pub record IsPlainIn (quote b : ℕ) : Type 0 where
  pub no_quote : b ≢ quote
  pub no_backslash : b ≢ 92
  pub no_line_feed : b ≢ 10
  pub no_return : b ≢ 13

-- what stands between two quotes, and the string that it spells: a plain byte spells itself, and a
-- backslash with a byte after it what that byte stands for there
pub data IsSpelled (quote : ℕ) : List ℕ → List ℕ → Type 0 where
  spells_nothing : IsSpelled quote [] []
  spells_plain : (b : ℕ) {bytes string : List ℕ} → IsPlainIn quote b → IsSpelled quote bytes string
      → IsSpelled quote (b ∷ bytes) (b ∷ string)
  spells_escaped : (b c : ℕ) {bytes string : List ℕ} → escaped b ≡ Some c → IsSpelled quote bytes string
      → IsSpelled quote (92 ∷ b ∷ bytes) (c ∷ string)

-- a word does not go on with these bytes
abbrev pub EndsWord : List ℕ → Type 0
EndsWord [] = Unit {0}
EndsWord (b ∷ bytes) = is_letter b ≡ false

abbrev pub AreLetters : List ℕ → Type 0
AreLetters bytes = AllByRecursion (λ b. is_letter b ≡ true) bytes

-- the bytes have no line feed
abbrev pub IsOneLine : List ℕ → Type 0
IsOneLine bytes = AllByRecursion (λ b. b ≢ 10) bytes

-- The bytes, of which the first stands on this line, are spelled by these tokens. First comes a
-- blank, a comment up to its line feed or the end, a mark, a string in quotes, or a word as long as
-- it can be, and then the rest.
pub data IsTokens : List ℕ → ℕ → List Token → Type 0 where
  no_token : {line : ℕ} → IsTokens [] line []
  blank : (b : ℕ) {rest : List ℕ} {line : ℕ} {ts : List Token} → is_blank b ≡ true
      → IsTokens rest (next_line b line) ts → IsTokens (b ∷ rest) line ts
  last_comment : (comment : List ℕ) {line : ℕ} → IsOneLine comment
      → IsTokens (35 ∷ comment) line []
  comment : (comment : List ℕ) {rest : List ℕ} {line : ℕ} {ts : List Token} → IsOneLine comment
      → IsTokens rest (line + 1) ts → IsTokens (35 ∷ (comment ++ 10 ∷ rest)) line ts
  mark : (b : ℕ) {rest : List ℕ} {line : ℕ} {ts : List Token} → is_mark b ≡ true
      → IsTokens rest line ts → IsTokens (b ∷ rest) line (Mark b ∷ ts)
  string : (quote : ℕ) (bytes x : List ℕ) {rest : List ℕ} {line : ℕ} {ts : List Token}
      → is_quote quote ≡ true → IsSpelled quote bytes x → IsTokens rest line ts
      → IsTokens (quote ∷ (bytes ++ quote ∷ rest)) line (Text x ∷ ts)
  word : (b : ℕ) (more : List ℕ) {rest : List ℕ} {line : ℕ} {ts : List Token}
      → AreLetters (b ∷ more) → EndsWord rest → IsTokens rest line ts
      → IsTokens (b ∷ (more ++ rest)) line (Word line (b ∷ more) ∷ ts)
