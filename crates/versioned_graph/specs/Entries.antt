-- What the graph keeps of a key, and what a finish makes of it.
use Rattle.std.specs.Prelude.{ℕ, Bool, true, false, cond, not, ◌&&◌, ◌||◌, nat_eq, nat_le, nat_lt, max, List, [], ◌∷◌, Option, Some, None}
use Rattle.std.specs.List.{list_all}
use Rattle.std.specs.Map.{lookup}
use Rattle.std.specs.Arc.{arc_value}
use Rattle.std.specs.declared.sync.Arc.{Arc}
use Rattle.std.specs.Option.{option_map}
use Rattle.dice_key.specs.Meaning.{Meaning, Answered}
use Rattle.dice_key.specs.declared.universe.Kind.{Kind}
use Rattle.dice_key.specs.declared.universe.Kind.TheVariants.{Injected, Computed, Projection}
use Rattle.version_ranges.specs.declared.half_open.Range.{Range}
use Rattle.version_ranges.specs.Members.{contains}
use Rattle.version_ranges.specs.Rounds.{all_between}
use Rattle.injected.specs.Rounds.{stays}

-- an entry as it is stored; with the keys from which an edge to its key is recorded
pub record Stored (K V : Type 0) : Type 0 where
  pub value : V
  pub trace : List (Answered K V)
  pub ranges : List Range
  pub version : ℕ
  pub deps : List K

-- an entry as it is spoken of: its ranges are the test whether a version is in them
pub record Kept (K V : Type 0) : Type 0 where
  pub value : V
  pub trace : List (Answered K V)
  pub ranges : ℕ → Bool
  pub version : ℕ

abbrev pub kept_of : {K V : Type 0} → Stored K V → Kept K V
kept_of s = record { value = s.value; trace = s.trace; ranges = contains s.ranges; version = s.version }

-- an entry by its key
abbrev pub named : {K V A : Type 0} → Arc K A × Stored K V → K × Stored K V
named e = (arc_value e.0, e.1)

-- the entry of a key
abbrev pub entry_at : {K V : Type 0} → (K → K → Bool) → List (K × Stored K V) → K → Option (Kept K V)
entry_at eq es k = option_map kept_of (lookup (eq k) es)

-- whether a finish at v writes the trace: there is no entry, or it is not newer
abbrev pub writes_trace : {K V : Type 0} → Option (Kept K V) → ℕ → Bool
writes_trace None v = true
writes_trace (Some e) v = nat_le e.version v

-- of each key the version of the finish that wrote its trace, after one of k at v: if this writes
-- the trace, v
abbrev pub writers_with : {K : Type 0} → (K → K → Bool) → K → Bool → ℕ → (K → ℕ) → K → ℕ
writers_with eq k writes v w q = cond (eq k q && writes) v (w q)

-- an entry that was seen at a version
abbrev pub seen_at : {K V : Type 0} → ℕ → Kept K V → Kept K V
seen_at v e = record { value = e.value; trace = e.trace; ranges = e.ranges; version = max e.version v }

-- an entry whose tail was cut: of its ranges the versions below v are left
abbrev pub cut_at : {K V : Type 0} → ℕ → Kept K V → Kept K V
cut_at v e = record { value = e.value; trace = e.trace; ranges = λ w. e.ranges w && nat_lt w v; version = e.version }

abbrev pub if_injected : {X : Type 0} → Kind → X → X → X
if_injected Injected a b = a
if_injected Computed a b = b
if_injected Projection a b = b

-- the test holds of each key of a trace
abbrev pub all_of : {K V : Type 0} → (K → Bool) → List (Answered K V) → Bool
all_of f [] = true
all_of f (b ∷ bs) = list_all f b.keys && all_of f bs

-- whether version w is known by the entry of a dependency that was asked at v: the versions round v
-- up to which the entry's ranges go on. If they have v, the answer at v was the entry's value,
-- since both are the dependency's value there.
abbrev pub known_by : {K V : Type 0} → Option (Kept K V) → ℕ → ℕ → Bool
known_by None v w = false
known_by (Some e) v w = all_between e.ranges v w

module _ {K V : Type 0} (m : Meaning K V) (veq : V → V → Bool) where
  -- whether version w is known for a dependency that was asked at v: of an injected one the
  -- versions round v up to which its input stays as it is there
  abbrev pub known : (ℕ → K → V) → (K → Option (Kept K V)) → ℕ → ℕ → K → Bool
  known at es v w d = if_injected (m.kind d) (stays veq (λ u. at u d) v w) (known_by (es d) v w)

  -- whether a finish at v with value x and trace A marks version w: v itself, and, if the value is
  -- not transient, the versions that are known for every dependency
  abbrev pub marked : (ℕ → K → V) → (K → Option (Kept K V)) → ℕ → V → List (Answered K V) → ℕ → Bool
  marked at es v x A w = nat_eq w v || (not (m.is_transient x) && all_of (known at es v w) A)

  -- the entry that a finish at v with value x and trace A makes
  abbrev pub finished : (ℕ → K → V) → (K → Option (Kept K V)) → ℕ → V → List (Answered K V) → Kept K V
  finished at es v x A = record { value = x; trace = A; ranges = marked at es v x A; version = v }

  -- an entry with the ranges of a new one of the same value, and with its trace and version if they
  -- are not older
  abbrev pub joined : Kept K V → Kept K V → Kept K V
  joined e n = record {
    value = e.value;
    trace = cond (nat_le e.version n.version) n.trace e.trace;
    ranges = λ w. e.ranges w || n.ranges w;
    version = cond (nat_le e.version n.version) n.version e.version;
  }

  -- what stands after a finish that makes the entry n; the first case that holds: there was none;
  -- the value is the same and not transient; the new one is not older; otherwise the old one stays
  abbrev pub written : Option (Kept K V) → Kept K V → Kept K V
  written None n = n
  written (Some e) n = cond (veq e.value n.value && not (m.is_transient e.value)) (joined e n) (cond (nat_le e.version n.version) n e)

  -- whether what a finish made goes into the entry: over none, joined with it, or in its place
  abbrev pub goes_in : Option (Kept K V) → Kept K V → Bool
  goes_in None n = true
  goes_in (Some e) n = (veq e.value n.value && not (m.is_transient e.value)) || nat_le e.version n.version
