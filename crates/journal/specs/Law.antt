-- Bases, true causes, and which event the events before it allow.
use Rattle.std.specs.Prelude.{◌≡◌, ◌≢◌, ◌≤◌, ◌⊎◌, ℕ, Bool, true, false, List, [], ◌∷◌, ◌++◌, length, reverse, Some, None}
use Rattle.std.specs.List.{AllZip, AllByRecursion}
use Rattle.dice_key.specs.Meaning.{Meaning, Answered, Ends}
use Rattle.dice_key.specs.declared.universe.Kind.TheVariants.{Injected}
use Rattle.dice_model.specs.Log.{input, IsCommit}
use Rattle.dice_model.specs.Eval.{HasValue}
use Rattle.dice_model.specs.Asks.{Goes, Reaches, ReachesCycle, IsCycle, AllTrue}
use Rattle.journal.specs.declared.event.Told.{Told}
use Rattle.journal.specs.declared.event.Told.TheVariants.{Commit, Open, Close, Ask, Leave, Start, Keep, End, Cyclic, Drop, Lost}
use Rattle.journal.specs.declared.event.Reason.{Reason}
use Rattle.journal.specs.declared.event.Reason.TheVariants.{New, Transient, Differs}
use Rattle.journal.specs.Events.{Opened, Asking, commits_of, open_at, opened_at, live_at, ended_at, decided, asked_in_epoch, is_running, is_base}

module _ {K V : Type 0} (eq : K → K → Bool) (m : Meaning K V) where
  -- in the trace of k at w, all answers before some batch are the values at v, and in that batch d
  -- is the first key whose value at v is not its answer
  pub record DiffersFirst (C : List (List (K × V))) (w v : ℕ) (k d : K) : Type 0 where
    pub computed : m.kind k ≢ Injected
    pub before : List (Answered K V)
    pub batch : Answered K V
    pub later : List (Answered K V)
    pub goes : Goes eq m C w k [] (before ++ batch ∷ later)
    pub value : V
    pub ends : m.next k (before ++ batch ∷ later) w ≡ Ends value
    pub agreed : AllTrue (HasValue eq m C v) before
    pub keys_before : List K
    pub keys_later : List K
    pub values_before : List V
    pub values_later : List V
    pub was : V
    pub now : V
    pub keys : batch.keys ≡ keys_before ++ d ∷ keys_later
    pub values : batch.values ≡ values_before ++ was ∷ values_later
    pub agreed_first : AllZip (HasValue eq m C v) keys_before values_before
    pub has : HasValue eq m C v d now
    pub other : was ≢ now

  -- two versions at which k has the same value
  pub record SameAt (C : List (List (K × V))) (w b : ℕ) (k : K) : Type 0 where
    pub value : V
    pub first : HasValue eq m C w k value
    pub second : HasValue eq m C b k value

  -- the path is a cycle at v, and k reaches its first key
  pub record CycleStands (C : List (List (K × V))) (v : ℕ) (k : K) (path : List K) : Type 0 where
    pub first : K
    pub rest : List K
    pub path_is : path ≡ first ∷ rest
    pub cycle : IsCycle eq m C v (first ∷ rest)
    pub reaches : Reaches eq m C v k first

  module _ (R : List (Told K V)) where
    -- some live ask at v has a key that reaches k at v
    pub record IsWanted (v : ℕ) (k : K) : Type 0 where
      pub ask : ℕ
      pub asking : Asking K
      pub live : live_at R ask ≡ Some asking
      pub at : opened_at R v asking.opened ≡ true
      pub reaches : Reaches eq m (commits_of R) v asking.key k

    -- w backs b
    pub record Backs (w b : ℕ) (k : K) : Type 0 where
      pub base : is_base eq R w k ≡ true
      pub below : w ≤ b
      pub alike : SameAt (commits_of R) w b k

    -- why (v, k) is started: the key has no base; its value at the base is transient; or at a
    -- version that backs the base its trace had other answers
    abbrev pub IsTrueCause : ℕ → K → Reason K → Type 0
    IsTrueCause v k New = (b : ℕ) → is_base eq R b k ≡ false
    IsTrueCause v k (Transient b) = (is_base eq R b k ≡ true) × (b ≢ v) × (x : V) × HasValue eq m (commits_of R) b k x × (m.is_transient x ≡ true)
    IsTrueCause v k (Differs b d) = (is_base eq R b k ≡ true) × (w : ℕ) × Backs w b k × DiffersFirst (commits_of R) w v k d

    abbrev pub IsFresh : ℕ → K → Type 0
    IsFresh v k = (decided eq R v k ≡ None) × (is_running eq R v k ≡ false)

    -- what a Keep of k at v with base b says
    pub record KeepsValue (v : ℕ) (k : K) (b : ℕ) : Type 0 where
      pub base : is_base eq R b k ≡ true
      pub value : V
      pub here : HasValue eq m (commits_of R) v k value
      pub there : HasValue eq m (commits_of R) b k value
      pub lasts : (v ≡ b) ⊎ (m.is_transient value ≡ false)

    -- what a Drop of (v, k) needs
    pub record IsDropped (v : ℕ) (k : K) : Type 0 where
      pub undecided : decided eq R v k ≡ None
      pub unasked : (i : ℕ) (a : Asking K) → live_at R i ≡ Some a → opened_at R v a.opened ≡ true → a.key ≡ k → ⊥
      pub once : K
      pub asked : asked_in_epoch eq R v once ≡ true
      pub reaches : Reaches eq m (commits_of R) v once k
      pub after : ended_at R ≡ Some v

    -- the event may come next; no task is of an injected key, so its events are of other keys
    abbrev pub IsAllowed : Told K V → Type 0
    IsAllowed (Commit by c) = IsCommit m c × AllByRecursion (λ (p : K × V). input eq m (commits_of R) (length (commits_of R)) p.0 ≢ p.1) c
    IsAllowed (Open by v) = v ≡ length (commits_of R)
    IsAllowed (Close by t) = (o : Opened) × (open_at R t ≡ Some o) × (o.by ≡ by)
    IsAllowed (Ask by t k) = (o : Opened) × (open_at R t ≡ Some o)
    IsAllowed (Leave by i) = (a : Asking K) × (live_at R i ≡ Some a) × (a.by ≡ by)
    IsAllowed (Start v k c) = IsWanted v k × IsFresh v k × IsTrueCause v k c × (m.kind k ≢ Injected)
    IsAllowed (Keep v k b) = IsWanted v k × IsFresh v k × KeepsValue v k b × (m.kind k ≢ Injected)
    IsAllowed (End v k) = IsWanted v k × (is_running eq R v k ≡ true) × (decided eq R v k ≡ None) × ((x : V) × HasValue eq m (commits_of R) v k x) × (m.kind k ≢ Injected)
    IsAllowed (Cyclic v k) = IsWanted v k × (decided eq R v k ≡ None) × ReachesCycle eq m (commits_of R) v k × (m.kind k ≢ Injected)
    IsAllowed (Lost v k) = IsWanted v k × (decided eq R v k ≡ None) × (m.kind k ≢ Injected)
    IsAllowed (Drop v k) = IsDropped v k × (m.kind k ≢ Injected)

  -- each event is allowed by those before it
  abbrev pub IsLawfulBack : List (Told K V) → Type 0
  IsLawfulBack [] = Unit {0}
  IsLawfulBack (e ∷ R) = IsAllowed R e × IsLawfulBack R

  -- a journal in its order
  abbrev pub IsLawfulJournal : List (Told K V) → Type 0
  IsLawfulJournal J = IsLawfulBack (reverse J)
