-- Where the graph's entries come from. R is the journal read backwards.
use Rattle.std.specs.Prelude.{◌≡◌, ◌≤◌, ◌⊎◌, ℕ, Bool, true, false, List, Some}
use Rattle.dice_key.specs.Meaning.{Meaning}
use Rattle.dice_model.specs.Eval.{HasValue}
use Rattle.dice_model.specs.Asks.{IsTrace}
use Rattle.journal.specs.declared.event.Told.{Told}
use Rattle.journal.specs.declared.event.Told.TheVariants.{Commit, Open, Close, Ask, Leave, Start, Keep, End, Cyclic, Drop, Lost}
use Rattle.journal.specs.declared.event.Reason.{Reason}
use Rattle.journal.specs.declared.event.Reason.TheVariants as reason
use Rattle.journal.specs.Events.{commits_of, is_base}
use Rattle.journal.specs.Law.{KeepsValue, IsTrueCause}
use Rattle.versioned_graph.specs.Entries.{Kept, Stored, entry_at}
use Rattle.versioned_graph.specs.Looks.{Look, Matches, Computes, Checks}
use Rattle.versioned_graph.specs.Sound.{AreTrue}
use Rattle.versioned_graph.specs.declared.found.Why.{Why}
use Rattle.versioned_graph.specs.declared.found.Why.TheVariants as why
use Rattle.core_laws.specs.Stands.{WasSeen}

-- why a key is started, if it has to be computed
abbrev pub started_for : {K : Type 0} → Why → Reason K
started_for why.New = reason.New
started_for (why.Transient b) = reason.Transient b

module _ {K V : Type 0} where
  -- the event commits nothing, and decides nothing by a value
  abbrev pub LeavesEntries : Told K V → Type 0
  LeavesEntries (Commit by c) = ⊥
  LeavesEntries (Keep v k b) = ⊥
  LeavesEntries (End v k) = ⊥
  LeavesEntries (Open by v) = Unit {0}
  LeavesEntries (Close by t) = Unit {0}
  LeavesEntries (Ask by t k) = Unit {0}
  LeavesEntries (Leave by i) = Unit {0}
  LeavesEntries (Start v k c) = Unit {0}
  LeavesEntries (Cyclic v k) = Unit {0}
  LeavesEntries (Drop v k) = Unit {0}
  LeavesEntries (Lost v k) = Unit {0}

module _ {K V : Type 0} (eq : K → K → Bool) (m : Meaning K V) (R : List (Told K V)) where
  -- an entry of k comes from decisions: its own version is a base of k; and its trace is that of a base, at most its own version, at which k
  -- has the same value
  pub record Backed (k : K) (e : Kept K V) : Type 0 where
    pub finished : ℕ
    pub below : finished ≤ e.version
    pub traced : IsTrace eq m (commits_of R) finished k e.trace e.value
    pub finished_base : is_base eq R finished k ≡ true
    pub base : is_base eq R e.version k ≡ true

  -- the entries are true over the commits; each comes from decisions; and each key that was decided by a value has one
  pub record EntriesStand (es : List (K × Stored K V)) : Type 0 where
    pub entries_true : AreTrue eq m (commits_of R) es
    pub backed : (k : K) (e : Kept K V) → entry_at eq es k ≡ Some e → Backed k e
    pub known : (k : K) (b : ℕ) → is_base eq R b k ≡ true → (e : Kept K V) × (entry_at eq es k ≡ Some e)

  -- what a match with x and b says of k at v: k has the value x at both, and b is a base; if they are two versions, x is not transient;
  -- and the entry's ranges have v
  pub record IsMatched (es : List (K × Stored K V)) (v : ℕ) (k : K) (x : V) (b : ℕ) : Type 0 where
    pub base : is_base eq R b k ≡ true
    pub here : HasValue eq m (commits_of R) v k x
    pub there : HasValue eq m (commits_of R) b k x
    pub lasts : (v ≡ b) ⊎ (m.is_transient x ≡ false)
    pub entry : Kept K V
    pub known : entry_at eq es k ≡ Some entry
    pub has : entry.ranges v ≡ true

module _ {K V : Type 0} (eq : K → K → Bool) (m : Meaning K V) where
  -- what the answer of a look-up says of k at v: that it keeps a value; why it is started; or what has to be checked
  abbrev pub LookStands : List (Told K V) → List (K × Stored K V) → ℕ → K → Look K V → Type 0
  LookStands R es v k (Matches x b) = IsMatched eq m R es v k x b
  LookStands R es v k (Computes y) = IsTrueCause eq m R v k (started_for y)
  LookStands R es v k (Checks x T b) = WasSeen eq m R k x T b

module _ {K V : Type 0} {eq : K → K → Bool} {m : Meaning K V} {R : List (Told K V)} {es : List (K × Stored K V)} {v : ℕ} {k : K} {x : V} {b : ℕ} where
  -- so the key keeps the value x
  abbrev pub keeps_of : IsMatched eq m R es v k x b → KeepsValue eq m R v k b
  keeps_of h = record { base = h.base; value = x; here = h.here; there = h.there; lasts = h.lasts }
