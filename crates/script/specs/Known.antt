-- The code's sets and maps of names, as the definitions have them.
use Rattle.std.specs.Prelude.{ℕ, List, Bool, true, false, Option, Some, None, nat_eq}
use Rattle.std.specs.Option.{option_map}
use Rattle.std.specs.HashMap.{get}
use Rattle.std.specs.Cmp.Lexicographic.{pointwise}
use Rattle.script.specs.declared.fate.Fate.{Fate}
use Rattle.script.specs.declared.requests.Asked.{Asked}
use Rattle.script.specs.declared.requests.Requests.{Requests}
use Rattle.script.specs.declared.transactions.Transactions.{Transactions}
use Rattle.script.specs.declared.known.Known.{Known}
use Rattle.script.specs.Names.{has}
use Rattle.script.specs.Past.{Past, Table, given_up, adding, with_entry, made_in}

abbrev pub transactions_at : Transactions → Table Bool
transactions_at m = λ q. get (pointwise nat_eq) m.standing q

abbrev pub requests_at : Requests → Table Asked
requests_at m = λ q. get (pointwise nat_eq) m.asked q

-- what has become of a request that stands so, if its transaction stands so
abbrev pub told : Option Bool → Fate → Fate
told (Some false) f = given_up f
told (Some true) f = f
told None f = f

-- a request as it was noted, and as it is: a transaction that is closed leaves the notes as they
-- are
abbrev pub as_told : Table Bool → Asked → Asked
as_told opened a = record { transaction = a.transaction; fate = told (opened a.transaction) a.fate }

abbrev pub asked_by : Table Bool → Table Asked → Table Asked
asked_by opened noted = λ q. option_map (as_told opened) (noted q)

abbrev pub past_of : Known → Past
past_of k = record { touched = has k.touched; opened = transactions_at k.transactions; asked = asked_by (transactions_at k.transactions) (requests_at k.requests) }

-- a path more that is put or dropped, and a request more
abbrev pub with_path : List ℕ → Past → Past
with_path path p = record p { touched = adding path p.touched }

abbrev pub with_request : List ℕ → List ℕ → Past → Past
with_request name t p = record p { asked = with_entry name (made_in t) p.asked }
