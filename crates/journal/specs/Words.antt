-- What the words on journals say, in other words. R is a journal read backwards: its newest event
-- first.
use Rattle.std.specs.Prelude.{◌≡◌, ◌⊎◌, ℕ, Bool, true, false, cond, eqb, List, [], ◌∷◌, ◌++◌, length, Option, Some, None}
use Rattle.journal.specs.declared.event.Told.{Told}
use Rattle.journal.specs.declared.event.Told.TheVariants.{Commit, Open, Close, Ask, Leave, Start, Keep, End, Cyclic, Drop, Lost}
use Rattle.journal.specs.declared.event.Reason.{Reason}
use Rattle.journal.specs.Events.{Asking, Decision, ByValue, ByCycle, NotClosed, NotLeft, begins}
use Rattle.lists.specs.Lists.{Has}

module _ {K V : Type 0} where
  -- the event of this index
  abbrev pub event_at : List (Told K V) → ℕ → Option (Told K V)
  event_at [] i = None
  event_at (e ∷ R) i = cond (eqb (length R) i) (Some e) (event_at R i)

  -- the ask of this index has no later Leave, and its transaction no later Close
  pub record IsLiveByWords (R : List (Told K V)) (i : ℕ) (a : Asking K) : Type 0 where
    pub later : List (Told K V)
    pub before : List (Told K V)
    pub all : R ≡ later ++ Ask a.by a.opened a.key ∷ before
    pub index : length before ≡ i
    pub not_left : NotLeft i later
    pub not_closed : NotClosed a.opened later

  -- whether the event, which comes after R, begins an epoch of v: an Open at v that finds no open
  -- transaction there
  abbrev pub begins_epoch : Told K V → List (Told K V) → ℕ → Bool
  begins_epoch (Commit by c) R v = false
  begins_epoch (Open by w) R v = begins R w v
  begins_epoch (Close by t) R v = false
  begins_epoch (Ask by t q) R v = false
  begins_epoch (Leave by a) R v = false
  begins_epoch (Start w q c) R v = false
  begins_epoch (Keep w q b) R v = false
  begins_epoch (End w q) R v = false
  begins_epoch (Cyclic w q) R v = false
  begins_epoch (Drop w q) R v = false
  begins_epoch (Lost w q) R v = false

  -- the events of the newest epoch of v, newest first, back to the Open that began it
  abbrev pub epoch_of : List (Told K V) → ℕ → List (Told K V)
  epoch_of [] v = []
  epoch_of (e ∷ R) v = e ∷ cond (begins_epoch e R v) [] (epoch_of R v)

  -- an Ask of k in a transaction at v is among these events of R
  pub record IsAskedAmong (R E : List (Told K V)) (v : ℕ) (k : K) : Type 0 where
    pub by : ℕ
    pub opened : ℕ
    pub asked : Has E (Ask by opened k)
    pub opener : ℕ
    pub opening : event_at R opened ≡ Some (Open opener v)

  -- k came to a value at v among these events
  abbrev pub HasKeptOrEnded : List (Told K V) → ℕ → K → Type 0
  HasKeptOrEnded E v k = ((b : ℕ) × Has E (Keep v k b)) ⊎ Has E (End v k)

  -- k was decided so at v among these events
  abbrev pub IsDecidedAmong : List (Told K V) → ℕ → K → Decision → Type 0
  IsDecidedAmong E v k ByValue = HasKeptOrEnded E v k
  IsDecidedAmong E v k ByCycle = Has E (Cyclic v k)

  -- a Start of (v, k), with no later End, Cyclic, Drop or Lost of it
  pub record RunsByWords (R : List (Told K V)) (v : ℕ) (k : K) : Type 0 where
    pub cause : Reason K
    pub later : List (Told K V)
    pub before : List (Told K V)
    pub all : R ≡ later ++ Start v k cause ∷ before
    pub not_ended : Has later (End v k) → ⊥
    pub not_cyclic : Has later (Cyclic v k) → ⊥
    pub not_dropped : Has later (Drop v k) → ⊥
    pub not_lost : Has later (Lost v k) → ⊥

  -- the event is of a task of k
  abbrev pub IsOfTask : K → Told K V → Type 0
  IsOfTask k (Commit by c) = ⊥
  IsOfTask k (Open by w) = ⊥
  IsOfTask k (Close by t) = ⊥
  IsOfTask k (Ask by t q) = ⊥
  IsOfTask k (Leave by a) = ⊥
  IsOfTask k (Start w q c) = q ≡ k
  IsOfTask k (Keep w q b) = q ≡ k
  IsOfTask k (End w q) = q ≡ k
  IsOfTask k (Cyclic w q) = q ≡ k
  IsOfTask k (Drop w q) = q ≡ k
  IsOfTask k (Lost w q) = q ≡ k
