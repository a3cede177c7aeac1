-- The grammar of target files, dead prefixes and the line of a fault.
use Rattle.std.specs.Prelude.{◌≡◌, ◌+◌, ℕ, List, [], ◌∷◌, ◌++◌, map, Option, Some, None}
use Rattle.std.specs.List.{AllByRecursion}
use Rattle.buck_label.specs.Paths.{IsPath}
use Rattle.target_file.specs.Tokens.{Token}
use Rattle.target_file.specs.Spelling.{IsTokens}
use Rattle.target_file.specs.Table.{form_of, needed}
use Rattle.target_file.specs.Strings.{IsSource, IsCommand}
use Rattle.target_file.specs.Calls.{Value, One, Many, Argument, Call, AreCalls}
use Rattle.target_file.specs.declared.table.Attribute.{Attribute}
use Rattle.target_file.specs.declared.table.Attribute.TheVariants.{Name}
use Rattle.target_file.specs.declared.table.Form.{Form}
use Rattle.target_file.specs.declared.table.Form.TheVariants.{Path, Text, Command, Sources, Texts}
use Rattle.lists.specs.Lists.{AreDistinct, Has}
use Rattle.lists.specs.Lines.{line_feeds}

-- the value has the form
abbrev pub HasForm : Form → Value → Type 0
HasForm Path (One s) = IsPath s
HasForm Text (One s) = Unit {0}
HasForm Command (One s) = IsCommand s
HasForm Sources (Many ss) = AllByRecursion IsSource ss
HasForm Texts (Many ss) = Unit {0}
HasForm f v = ⊥

-- the rule has the attribute, and the value has its form
abbrev pub Belongs : Option Form → Value → Type 0
Belongs (Some f) v = HasForm f v
Belongs None v = ⊥

abbrev pub attributes : List Argument → List Attribute
attributes given = map (λ a. a.attribute) given

pub record IsFine (c : Call) : Type 0 where
  pub each : AllByRecursion (λ a. Belongs (form_of c.rule a.attribute) a.value) c.arguments
  pub once : AreDistinct (attributes c.arguments)
  pub whole : AllByRecursion (λ a. Has (attributes c.arguments) a) (needed c.rule)

-- the string of the attribute name
abbrev pub name_in : Attribute → Value → List (List ℕ)
name_in Name (One s) = s ∷ []
name_in a v = []

abbrev pub names_in : List Argument → List (List ℕ)
names_in [] = []
names_in (a ∷ more) = name_in a.attribute a.value ++ names_in more

abbrev pub names : List Call → List (List ℕ)
names [] = []
names (c ∷ cs) = names_in c.arguments ++ names cs

-- The bytes are a target file, and these are its calls.
pub record IsWritten (text : List ℕ) (calls : List Call) : Type 0 where
  pub made_of : List Token
  pub tokens_are : IsTokens text 1 made_of
  pub calls_are : AreCalls made_of calls
  pub each : AllByRecursion IsFine calls
  pub once : AreDistinct (names calls)

-- no file begins with it
abbrev pub IsDead : List ℕ → Type 0
IsDead prefix = (more : List ℕ) (calls : List Call) → IsWritten (prefix ++ more) calls → ⊥

-- before and b are the shortest dead prefix of the text
pub record IsShortestDead (text before : List ℕ) (b : ℕ) : Type 0 where
  pub rest : List ℕ
  pub text_is : text ≡ before ++ b ∷ rest
  pub dead : IsDead (before ++ b ∷ [])
  pub shorter : (front back : List ℕ) → before ≡ front ++ back → IsDead front → ⊥

-- The line of the last byte of the shortest dead prefix, or of the end if there is none.
pub record IsFaultLine (text : List ℕ) (line : ℕ) : Type 0 where
  pub dead : (before : List ℕ) (b : ℕ) → IsShortestDead text before b → line ≡ 1 + line_feeds before
  pub end : ((front back : List ℕ) → text ≡ front ++ back → IsDead front → ⊥) → line ≡ 1 + line_feeds text

-- what is no file, and where
pub record IsBad (text : List ℕ) (line : ℕ) : Type 0 where
  pub refused : (calls : List Call) → IsWritten text calls → ⊥
  pub line_is : IsFaultLine text line
