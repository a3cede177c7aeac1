-- Recorded edges: from a key to a key whose value was computed from it.
use Rattle.std.specs.Prelude.{◌≡◌, ◌↔◌, ◌≤◌, ◌⊎◌, ℕ, Bool, true, false, cond, ◌&&◌, ◌||◌, List, [], ◌∷◌, Option, Some, None}
use Rattle.std.specs.Map.{lookup}
use Rattle.std.specs.List.{list_any}
use Rattle.std.specs.Option.{option_map}
use Rattle.dice_key.specs.Meaning.{Meaning, Answered}
use Rattle.versioned_graph.specs.Entries.{Stored, Kept, entry_at, cut_at, goes_in}
use Rattle.lists.specs.Lists.{Has}

-- a test of versions that holds from some version on
abbrev pub HasTail : (ℕ → Bool) → Type 0
HasTail r = (v : ℕ) × ((w : ℕ) → v ≤ w → r w ≡ true)

module _ {K V : Type 0} (eq : K → K → Bool) where
  -- whether an edge from j is recorded with an entry
  abbrev pub deps_of : Option (Stored K V) → K → Bool
  deps_of None j = false
  deps_of (Some s) j = list_any (eq j) s.deps

  -- whether an edge from j to k is recorded
  abbrev pub is_edge : List (K × Stored K V) → K → K → Bool
  is_edge es j k = deps_of (lookup (eq k) es) j

  -- whether a key stands in a trace
  abbrev pub is_asked : List (Answered K V) → K → Bool
  is_asked [] j = false
  is_asked (b ∷ bs) j = list_any (eq j) b.keys || is_asked bs j

  -- what a finish that made the entry n of k records: if n's ranges have no end, and n goes into
  -- the entry, an edge to k from each key of its trace; nothing else
  pub record Records (m : Meaning K V) (veq : V → V → Bool) (k : K) (n : Kept K V) (es fs : List (K × Stored K V)) : Type 0 where
    pub opened : Bool
    pub is_open : (opened ≡ true) ↔ HasTail n.ranges
    pub edges : (j q : K) → is_edge fs j q ≡ (is_edge es j q || (eq k q && (goes_in m veq (entry_at eq es k) n && (opened && is_asked n.trace j))))

module _ {K V : Type 0} (eq : K → K → Bool) (v : ℕ) (R : K → Bool) where
  -- the entries of the keys that pass the test were cut at v, and the edges to them were taken
  -- away; all others are as they were
  pub record CutBy (es fs : List (K × Stored K V)) : Type 0 where
    pub entries : (q : K) → entry_at eq fs q ≡ cond (R q) (option_map (cut_at v) (entry_at eq es q)) (entry_at eq es q)
    pub edges : (j q : K) → is_edge eq fs j q ≡ cond (R q) false (is_edge eq es j q)

module _ {K V : Type 0} (eq : K → K → Bool) (es : List (K × Stored K V)) (changed : List K) where
  -- a commit that changes these keys reaches k: a chain of recorded edges leads to k from one of
  -- them
  pub data CommitReaches : K → Type 0 where
    changes : {k : K} → Has changed k → CommitReaches k
    leads : {j k : K} → CommitReaches j → is_edge eq es j k ≡ true → CommitReaches k

  -- what a commit makes of the entries: the tails of those that it reaches are cut at its version,
  -- and the edges to them are taken away; all others stay
  pub record IsCut (v : ℕ) (fs : List (K × Stored K V)) : Type 0 where
    pub decided : (k : K) → CommitReaches k ⊎ (CommitReaches k → ⊥)
    pub reached : (k : K) → CommitReaches k → entry_at eq fs k ≡ option_map (cut_at v) (entry_at eq es k)
    pub others : (k : K) → (CommitReaches k → ⊥) → entry_at eq fs k ≡ entry_at eq es k
    pub taken : (j k : K) → CommitReaches k → is_edge eq fs j k ≡ false
    pub left : (j k : K) → (CommitReaches k → ⊥) → is_edge eq fs j k ≡ is_edge eq es j k
