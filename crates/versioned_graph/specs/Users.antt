-- For each key those that may use it.
use Rattle.std.specs.Prelude.{◌≡◌, Bool, true, List, [], map, filter, Option, Some, None}
use Rattle.std.specs.Arc.{arc_value}
use Rattle.std.specs.declared.sync.Arc.{Arc}
use Rattle.std.specs.Map.{lookup}
use Rattle.versioned_graph.specs.Entries.{Stored}
use Rattle.versioned_graph.specs.Edges.{is_edge}
use Rattle.lists.specs.Lists.{Has}

-- a set with its key, without pointers
abbrev pub set_of : {K A B : Type 0} → Arc K A × List (Arc K B) → K × List K
set_of p = (arc_value p.0, map arc_value p.1)

abbrev pub or_none : {K : Type 0} → Option (List K) → List K
or_none None = []
or_none (Some ks) = ks

module _ {K : Type 0} (eq : K → K → Bool) where
  -- the users of j
  abbrev pub users_of : List (K × List K) → K → List K
  users_of us j = or_none (lookup (eq j) us)

module _ {K V : Type 0} (eq : K → K → Bool) where
  -- a key to which an edge is recorded is a user of the key from which it comes
  abbrev pub IsIndexed : List (K × Stored K V) → List (K × List K) → Type 0
  IsIndexed es us = (j k : K) → is_edge eq es j k ≡ true → Has (users_of eq us j) k

  -- the users of j to which an edge from j is recorded
  abbrev pub recorded_of : List (K × Stored K V) → List (K × List K) → K → List K
  recorded_of es us j = filter (is_edge eq es j) (users_of eq us j)
