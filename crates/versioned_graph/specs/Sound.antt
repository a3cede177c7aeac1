-- What is kept true of the entries, over the log whose inputs the cells hold.
use Rattle.std.specs.Prelude.{◌≡◌, ◌≢◌, ◌≤◌, ◌<◌, ℕ, Bool, true, false, List, length, Some}
use Rattle.dice_key.specs.Meaning.{Meaning}
use Rattle.dice_key.specs.declared.universe.Kind.TheVariants.{Injected}
use Rattle.dice_model.specs.Log.{input}
use Rattle.dice_model.specs.Eval.{HasValue}
use Rattle.dice_model.specs.Asks.{IsTrace, AsksFor, Reaches}
use Rattle.versioned_graph.specs.Entries.{Kept, Stored, entry_at}
use Rattle.versioned_graph.specs.Edges.{is_edge}

-- the test holds at v and at all versions above
abbrev pub IsOpenAt : ℕ → (ℕ → Bool) → Type 0
IsOpenAt v r = (w : ℕ) → v ≤ w → r w ≡ true

module _ {K V : Type 0} (eq : K → K → Bool) (m : Meaning K V) where
  -- of an entry of k: its value is that of k at each version of its ranges up to the newest; its own version is in its ranges, and
  -- is the only one of a transient value; from its own version on the ranges have no gap, and at each version in them, up to the
  -- newest, its trace is that of k
  pub record IsTrue (C : List (List (K × V))) (k : K) (e : Kept K V) : Type 0 where
    pub within : e.version ≤ length C
    pub same : HasValue eq m C e.version k e.value
    pub own : e.ranges e.version ≡ true
    pub single : m.is_transient e.value ≡ true → (w : ℕ) → e.ranges w ≡ true → w ≡ e.version
    pub holds : (w : ℕ) → e.ranges w ≡ true → w ≤ length C → HasValue eq m C w k e.value
    pub unbroken : (u w : ℕ) → e.version ≤ u → u ≤ w → e.ranges w ≡ true → e.ranges u ≡ true
    pub traced : (w : ℕ) → e.version ≤ w → e.ranges w ≡ true → w ≤ length C → IsTrace eq m C w k e.trace e.value

  -- the edges to d from what it asks at v are there, and its value there lasts
  pub record IsRecorded (C : List (List (K × V))) (v : ℕ) (Edge : K → K → Type 0) (d : K) : Type 0 where
    pub lasts : (x : V) → HasValue eq m C v d x → m.is_transient x ≡ false
    pub edges : (j : K) → AsksFor eq m C v d j → Edge j d

  -- of an entry of k, if v is the newest version: its ranges have a version above the newest only
  -- if they have the newest and all above it; and then all that k reaches at the newest is recorded
  pub record IsTailed (C : List (List (K × V))) (v : ℕ) (Edge : K → K → Type 0) (k : K) (e : Kept K V) : Type 0 where
    pub tail : (w : ℕ) → e.ranges w ≡ true → v < w → IsOpenAt v e.ranges
    pub recorded : IsOpenAt v e.ranges → (d : K) → Reaches eq m C v k d → m.kind d ≢ Injected → IsRecorded C v Edge d

  -- an edge is recorded with these entries
  abbrev pub Edges : List (K × Stored K V) → K → K → Type 0
  Edges es j k = is_edge eq es j k ≡ true

  -- so is each entry
  abbrev pub AreTrue : List (List (K × V)) → List (K × Stored K V) → Type 0
  AreTrue C es = (k : K) (e : Kept K V) → entry_at eq es k ≡ Some e → IsTrue C k e × IsTailed C (length C) (Edges es) k e

  -- the trace of an entry of k is the key's at v, which is at most the entry's own version
  abbrev pub IsTracedAt : List (List (K × V)) → ℕ → K → Kept K V → Type 0
  IsTracedAt C v k e = (v ≤ e.version) × IsTrace eq m C v k e.trace e.value

  -- so is that of each entry, at the version that w tells of its key: that of the finish that wrote
  -- the trace
  abbrev pub AreTracedAt : List (List (K × V)) → (K → ℕ) → List (K × Stored K V) → Type 0
  AreTracedAt C w es = (k : K) (e : Kept K V) → entry_at eq es k ≡ Some e → IsTracedAt C (w k) k e

  -- at each version the inputs are those of the log; above the newest, those of the newest
  abbrev pub Holds : List (List (K × V)) → (ℕ → K → V) → Type 0
  Holds C at = (w : ℕ) (k : K) → at w k ≡ input eq m C w k
