-- Which call has which name.
use Rattle.std.specs.Prelude.{◌+◌, ℕ, Bool, false, not, if◌then◌else◌, List, [], ◌∷◌, Option, Some, None}
use Rattle.std.specs.List.{list_any}
use Rattle.std.specs.Str.{bytes_eq}
use Rattle.std.specs.BTreeMap.{get, get_by}
use Rattle.std.specs.Hash.FoldHasher as folding
use Rattle.std.specs.Ordering.{nat_cmp}
use Rattle.std.specs.Cmp.Lexicographic.{slice_cmp}
use Rattle.target_file.specs.Calls.{Value, Argument, Call}
use Rattle.target_file.specs.Files.{name_in, names_in}
use Rattle.target_file.specs.declared.table.Attribute.{Attribute}
use Rattle.target_file.specs.declared.names.Names.{Names}
use Rattle.target_file.specs.declared.names.Named.{Named}

-- by what names are told apart first
abbrev pub hash_of : List ℕ → ℕ
hash_of name = folding.finish (folding.write folding.initial name)

-- the number of a name, if this is the first name of its hash; otherwise what the others have
abbrev pub number_in : List ℕ → Option Named → Option ℕ → Option ℕ
number_in q None other = other
number_in q (Some n) other = if bytes_eq n.name q then Some n.number else other

-- the number that the table has for a name
abbrev pub number_of : Names → List ℕ → Option ℕ
number_of n q = number_in q (get nat_cmp n.first (hash_of q)) (get_by (λ k. slice_cmp nat_cmp q k.items) n.others)

-- whether the first name of this hash, if there is one, is another than this
abbrev pub other_than : List ℕ → Option Named → Bool
other_than name None = false
other_than name (Some n) = not (bytes_eq n.name name)

abbrev pub has_other : Names → ℕ → List ℕ → Bool
has_other n h name = other_than name (get nat_cmp n.first h)

-- whether the argument, or one of them, gives this name
abbrev pub gives_name : List ℕ → Attribute → Value → Bool
gives_name q a v = list_any (bytes_eq q) (name_in a v)

abbrev pub is_named : List ℕ → List Argument → Bool
is_named q given = list_any (bytes_eq q) (names_in given)

-- the number of the first call of this name, counted from n; the call that is being read stands
-- last
abbrev pub number_from : ℕ → List ℕ → List Call → List Argument → Option ℕ
number_from n q [] given = if is_named q given then Some n else None
number_from n q (c ∷ cs) given = if is_named q c.arguments then Some n else number_from (n + 1) q cs given
