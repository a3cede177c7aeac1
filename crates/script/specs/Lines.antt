-- Lines, words, names and decimal numbers.
use Rattle.std.specs.Prelude.{◌≡◌, ◌≢◌, ◌≤◌, ◌+◌, ◌-◌, ◌*◌, ℕ, Bool, true, false, if◌then◌else◌, ◌&&◌, ◌||◌, nat_eq, nat_le, List, [], ◌∷◌, length, take, drop}
use Rattle.std.specs.List.{AllByRecursion}

-- the number that digits write after what stands for n
abbrev pub value_from : ℕ → List ℕ → ℕ
value_from n [] = n
value_from n (d ∷ ds) = value_from (10 * n + (d - 48)) ds

abbrev pub is_digit : ℕ → Bool
is_digit b = nat_le 48 b && nat_le b 57

abbrev pub AreDigits : List ℕ → Type 0
AreDigits ds = AllByRecursion (λ d. is_digit d ≡ true) ds

-- no zero stands in front of other digits
abbrev pub IsPlain : List ℕ → Type 0
IsPlain [] = ⊥
IsPlain (d ∷ []) = Unit {0}
IsPlain (d ∷ e ∷ ds) = d ≢ 48

-- one or more digits with no zero in front, but 0 itself, and their number
pub record IsDecimal (digits : List ℕ) (n : ℕ) : Type 0 where
  pub plain : IsPlain digits
  pub each : AreDigits digits
  pub number : n ≡ value_from 0 digits

-- a letter, a digit, _ or -
abbrev pub is_name_byte : ℕ → Bool
is_name_byte b = (nat_le 97 b && nat_le b 122) || (nat_le 65 b && nat_le b 90) || (nat_le 48 b && nat_le b 57) || nat_eq b 95 || nat_eq b 45

abbrev pub AreNameBytes : List ℕ → Type 0
AreNameBytes text = AllByRecursion (λ b. is_name_byte b ≡ true) text

-- one to 32 such bytes
pub record IsName (text : List ℕ) : Type 0 where
  pub some : 1 ≤ length text
  pub fits : length text ≤ 32
  pub each : AreNameBytes text

-- how many bytes stand before the first m; all of them if there is none
abbrev pub before : ℕ → List ℕ → ℕ
before m [] = 0
before m (b ∷ bs) = if nat_eq b m then 0 else (before m bs + 1)

-- the first line of a text, and what stands after its LF
abbrev pub line_of : List ℕ → List ℕ
line_of text = take (before 10 text) text

abbrev pub behind_line : List ℕ → List ℕ
behind_line text = drop (before 10 text + 1) text

-- the words of a line: what stands before, between and after its spaces, each space ending a word
abbrev pub front_word : ℕ → List (List ℕ) → List (List ℕ)
front_word b [] = (b ∷ []) ∷ []
front_word b (w ∷ ws) = (b ∷ w) ∷ ws

abbrev pub split_byte : Bool → ℕ → List (List ℕ) → List (List ℕ)
split_byte true b ws = [] ∷ ws
split_byte false b ws = front_word b ws

abbrev pub words : List ℕ → List (List ℕ)
words [] = [] ∷ []
words (b ∷ bs) = split_byte (nat_eq b 32) b (words bs)
