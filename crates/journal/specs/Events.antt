-- What a journal says. R is a journal read backwards: its newest event first. The index of an event
-- is the number of events before it.
use Rattle.std.specs.Prelude.{◌≡◌, ◌≢◌, ℕ, ◌+◌, ◌-◌, Bool, true, false, cond, not, ◌&&◌, ◌||◌, eqb, List, [], ◌∷◌, ◌++◌, length, Option, Some, None}
use Rattle.std.specs.List.{slice_get}
use Rattle.std.specs.Option.{option_map, option_and_then}
use Rattle.journal.specs.declared.event.Told.{Told}
use Rattle.journal.specs.declared.event.Told.TheVariants.{Commit, Open, Close, Ask, Leave, Start, Keep, End, Cyclic, Drop, Lost}

-- an open transaction
pub record Opened : Type 0 where
  pub by : ℕ
  pub version : ℕ

-- an ask that was not left
pub record Asking (K : Type 0) : Type 0 where
  pub by : ℕ
  pub opened : ℕ
  pub key : K

-- how a key was decided
pub data Decision : Type 0 where
  ByValue : Decision
  ByCycle : Decision

abbrev pub is_for : {X : Type 0} → (X → Bool) → Option X → Bool
is_for f None = false
is_for f (Some x) = f x

abbrev pub one_if : Bool → ℕ
one_if true = 1
one_if false = 0

module _ {K V : Type 0} where
  -- the commits, in order
  abbrev pub commits_of : List (Told K V) → List (List (K × V))
  commits_of [] = []
  commits_of (Commit by c ∷ R) = commits_of R ++ c ∷ []
  commits_of (Open by v ∷ R) = commits_of R
  commits_of (Close by t ∷ R) = commits_of R
  commits_of (Ask by t k ∷ R) = commits_of R
  commits_of (Leave by a ∷ R) = commits_of R
  commits_of (Start v k c ∷ R) = commits_of R
  commits_of (Keep v k b ∷ R) = commits_of R
  commits_of (End v k ∷ R) = commits_of R
  commits_of (Cyclic v k ∷ R) = commits_of R
  commits_of (Drop v k ∷ R) = commits_of R
  commits_of (Lost v k ∷ R) = commits_of R

  -- the transaction of this index, if it is open
  abbrev pub open_at : List (Told K V) → ℕ → Option Opened
  open_at [] i = None
  open_at (Open by v ∷ R) i = cond (eqb (length R) i) (Some (record { by = by; version = v })) (open_at R i)
  open_at (Close by t ∷ R) i = cond (eqb t i) None (open_at R i)
  open_at (Commit by c ∷ R) i = open_at R i
  open_at (Ask by t k ∷ R) i = open_at R i
  open_at (Leave by a ∷ R) i = open_at R i
  open_at (Start v k c ∷ R) i = open_at R i
  open_at (Keep v k b ∷ R) i = open_at R i
  open_at (End v k ∷ R) i = open_at R i
  open_at (Cyclic v k ∷ R) i = open_at R i
  open_at (Drop v k ∷ R) i = open_at R i
  open_at (Lost v k ∷ R) i = open_at R i

  -- whether the transaction of this index is open, at v
  abbrev pub opened_at : List (Told K V) → ℕ → ℕ → Bool
  opened_at R v i = is_for (λ o. eqb o.version v) (open_at R i)

  -- how many transactions are open at v
  abbrev pub open_count : List (Told K V) → ℕ → ℕ
  open_count [] v = 0
  open_count (Open by w ∷ R) v = open_count R v + one_if (eqb w v)
  open_count (Close by t ∷ R) v = open_count R v - one_if (opened_at R v t)
  open_count (Commit by c ∷ R) v = open_count R v
  open_count (Ask by t k ∷ R) v = open_count R v
  open_count (Leave by a ∷ R) v = open_count R v
  open_count (Start w k c ∷ R) v = open_count R v
  open_count (Keep w k b ∷ R) v = open_count R v
  open_count (End w k ∷ R) v = open_count R v
  open_count (Cyclic w k ∷ R) v = open_count R v
  open_count (Drop w k ∷ R) v = open_count R v
  open_count (Lost w k ∷ R) v = open_count R v

  -- the ask of this index, if it was not left and its transaction is open
  abbrev pub live_at : List (Told K V) → ℕ → Option (Asking K)
  live_at [] i = None
  live_at (Ask by t k ∷ R) i = cond (eqb (length R) i) (Some (record { by = by; opened = t; key = k })) (live_at R i)
  live_at (Leave by a ∷ R) i = cond (eqb a i) None (live_at R i)
  live_at (Close by t ∷ R) i = cond (is_for (λ a. eqb t a.opened) (live_at R i)) None (live_at R i)
  live_at (Commit by c ∷ R) i = live_at R i
  live_at (Open by v ∷ R) i = live_at R i
  live_at (Start v k c ∷ R) i = live_at R i
  live_at (Keep v k b ∷ R) i = live_at R i
  live_at (End v k ∷ R) i = live_at R i
  live_at (Cyclic v k ∷ R) i = live_at R i
  live_at (Drop v k ∷ R) i = live_at R i
  live_at (Lost v k ∷ R) i = live_at R i

  -- an Open at v begins an epoch of v if it found no open transaction at v
  abbrev pub begins : List (Told K V) → ℕ → ℕ → Bool
  begins R w v = eqb w v && eqb (open_count R v) 0

  -- the version of the last event that is no Drop, if this is a Close, Leave, Cyclic or Lost
  abbrev pub ended_at : List (Told K V) → Option ℕ
  ended_at [] = None
  ended_at (Drop v k ∷ R) = ended_at R
  ended_at (Close by t ∷ R) = option_map (λ (o : Opened). o.version) (open_at R t)
  ended_at (Leave by a ∷ R) = option_and_then (λ (x : Asking K). option_map (λ (o : Opened). o.version) (open_at R x.opened)) (live_at R a)
  ended_at (Cyclic v k ∷ R) = Some v
  ended_at (Lost v k ∷ R) = Some v
  ended_at (Commit by c ∷ R) = None
  ended_at (Open by v ∷ R) = None
  ended_at (Ask by t k ∷ R) = None
  ended_at (Start v k c ∷ R) = None
  ended_at (Keep v k b ∷ R) = None
  ended_at (End v k ∷ R) = None

module _ {K V : Type 0} where
  -- each Close names an open transaction, as in a lawful journal
  abbrev pub ClosesOpen : List (Told K V) → Type 0
  ClosesOpen [] = Unit {0}
  ClosesOpen (Close by t ∷ R) = ((o : Opened) × (open_at R t ≡ Some o)) × ClosesOpen R
  ClosesOpen (Commit by c ∷ R) = ClosesOpen R
  ClosesOpen (Open by v ∷ R) = ClosesOpen R
  ClosesOpen (Ask by t k ∷ R) = ClosesOpen R
  ClosesOpen (Leave by a ∷ R) = ClosesOpen R
  ClosesOpen (Start v k c ∷ R) = ClosesOpen R
  ClosesOpen (Keep v k b ∷ R) = ClosesOpen R
  ClosesOpen (End v k ∷ R) = ClosesOpen R
  ClosesOpen (Cyclic v k ∷ R) = ClosesOpen R
  ClosesOpen (Drop v k ∷ R) = ClosesOpen R
  ClosesOpen (Lost v k ∷ R) = ClosesOpen R

  -- no Close of this transaction
  abbrev pub NotClosed : ℕ → List (Told K V) → Type 0
  NotClosed i [] = Unit {0}
  NotClosed i (Close by t ∷ R) = (t ≢ i) × NotClosed i R
  NotClosed i (Commit by c ∷ R) = NotClosed i R
  NotClosed i (Open by v ∷ R) = NotClosed i R
  NotClosed i (Ask by t k ∷ R) = NotClosed i R
  NotClosed i (Leave by a ∷ R) = NotClosed i R
  NotClosed i (Start v k c ∷ R) = NotClosed i R
  NotClosed i (Keep v k b ∷ R) = NotClosed i R
  NotClosed i (End v k ∷ R) = NotClosed i R
  NotClosed i (Cyclic v k ∷ R) = NotClosed i R
  NotClosed i (Drop v k ∷ R) = NotClosed i R
  NotClosed i (Lost v k ∷ R) = NotClosed i R

  -- its Open has no later Close
  pub record IsOpenByWords (R : List (Told K V)) (i : ℕ) (o : Opened) : Type 0 where
    pub later : List (Told K V)
    pub before : List (Told K V)
    pub all : R ≡ later ++ Open o.by o.version ∷ before
    pub index : length before ≡ i
    pub not_closed : NotClosed i later

module _ {K V : Type 0} where
  -- the event of this index, in a journal in its order
  abbrev pub StandsAt : List (Told K V) → ℕ → Told K V → Type 0
  StandsAt J i e = slice_get J i ≡ Some e

  -- no Leave of this ask
  abbrev pub NotLeft : ℕ → List (Told K V) → Type 0
  NotLeft i [] = Unit {0}
  NotLeft i (Leave by a ∷ J) = (a ≢ i) × NotLeft i J
  NotLeft i (Commit by c ∷ J) = NotLeft i J
  NotLeft i (Open by v ∷ J) = NotLeft i J
  NotLeft i (Close by t ∷ J) = NotLeft i J
  NotLeft i (Ask by t k ∷ J) = NotLeft i J
  NotLeft i (Start v k c ∷ J) = NotLeft i J
  NotLeft i (Keep v k b ∷ J) = NotLeft i J
  NotLeft i (End v k ∷ J) = NotLeft i J
  NotLeft i (Cyclic v k ∷ J) = NotLeft i J
  NotLeft i (Drop v k ∷ J) = NotLeft i J
  NotLeft i (Lost v k ∷ J) = NotLeft i J

-- the event of a commit, if there are changes
abbrev pub event_of : {K V : Type 0} → ℕ → List (K × V) → List (Told K V)
event_of by [] = []
event_of by (p ∷ c) = Commit by (p ∷ c) ∷ []

-- the event's version and key are these
abbrev pub names_by : {K : Type 0} → (K → K → Bool) → ℕ → K → ℕ → K → Bool
names_by eq w q v k = eqb w v && eq k q

module _ {K V : Type 0} (eq : K → K → Bool) where
  -- how (v, k) was decided in the epoch of v
  abbrev pub decided : List (Told K V) → ℕ → K → Option Decision
  decided [] v k = None
  decided (Open by w ∷ R) v k = cond (begins R w v) None (decided R v k)
  decided (Keep w q b ∷ R) v k = cond (names_by eq w q v k) (Some ByValue) (decided R v k)
  decided (End w q ∷ R) v k = cond (names_by eq w q v k) (Some ByValue) (decided R v k)
  decided (Cyclic w q ∷ R) v k = cond (names_by eq w q v k) (Some ByCycle) (decided R v k)
  decided (Commit by c ∷ R) v k = decided R v k
  decided (Close by t ∷ R) v k = decided R v k
  decided (Ask by t q ∷ R) v k = decided R v k
  decided (Leave by a ∷ R) v k = decided R v k
  decided (Start w q c ∷ R) v k = decided R v k
  decided (Drop w q ∷ R) v k = decided R v k
  decided (Lost w q ∷ R) v k = decided R v k

  -- an Ask of k stands in the epoch of v
  abbrev pub asked_in_epoch : List (Told K V) → ℕ → K → Bool
  asked_in_epoch [] v k = false
  asked_in_epoch (Open by w ∷ R) v k = cond (begins R w v) false (asked_in_epoch R v k)
  asked_in_epoch (Ask by t q ∷ R) v k = (opened_at R v t && eq k q) || asked_in_epoch R v k
  asked_in_epoch (Commit by c ∷ R) v k = asked_in_epoch R v k
  asked_in_epoch (Close by t ∷ R) v k = asked_in_epoch R v k
  asked_in_epoch (Leave by a ∷ R) v k = asked_in_epoch R v k
  asked_in_epoch (Start w q c ∷ R) v k = asked_in_epoch R v k
  asked_in_epoch (Keep w q b ∷ R) v k = asked_in_epoch R v k
  asked_in_epoch (End w q ∷ R) v k = asked_in_epoch R v k
  asked_in_epoch (Cyclic w q ∷ R) v k = asked_in_epoch R v k
  asked_in_epoch (Drop w q ∷ R) v k = asked_in_epoch R v k
  asked_in_epoch (Lost w q ∷ R) v k = asked_in_epoch R v k

  -- a Lost of (v, k) stands in the epoch of v
  abbrev pub lost_in_epoch : List (Told K V) → ℕ → K → Bool
  lost_in_epoch [] v k = false
  lost_in_epoch (Open by w ∷ R) v k = cond (begins R w v) false (lost_in_epoch R v k)
  lost_in_epoch (Lost w q ∷ R) v k = names_by eq w q v k || lost_in_epoch R v k
  lost_in_epoch (Commit by c ∷ R) v k = lost_in_epoch R v k
  lost_in_epoch (Close by t ∷ R) v k = lost_in_epoch R v k
  lost_in_epoch (Ask by t q ∷ R) v k = lost_in_epoch R v k
  lost_in_epoch (Leave by a ∷ R) v k = lost_in_epoch R v k
  lost_in_epoch (Start w q c ∷ R) v k = lost_in_epoch R v k
  lost_in_epoch (Keep w q b ∷ R) v k = lost_in_epoch R v k
  lost_in_epoch (End w q ∷ R) v k = lost_in_epoch R v k
  lost_in_epoch (Cyclic w q ∷ R) v k = lost_in_epoch R v k
  lost_in_epoch (Drop w q ∷ R) v k = lost_in_epoch R v k

  -- a Start of (v, k) with no later End, Cyclic, Drop or Lost of it
  abbrev pub is_running : List (Told K V) → ℕ → K → Bool
  is_running [] v k = false
  is_running (Start w q c ∷ R) v k = names_by eq w q v k || is_running R v k
  is_running (End w q ∷ R) v k = not (names_by eq w q v k) && is_running R v k
  is_running (Cyclic w q ∷ R) v k = not (names_by eq w q v k) && is_running R v k
  is_running (Drop w q ∷ R) v k = not (names_by eq w q v k) && is_running R v k
  is_running (Lost w q ∷ R) v k = not (names_by eq w q v k) && is_running R v k
  is_running (Commit by c ∷ R) v k = is_running R v k
  is_running (Open by w ∷ R) v k = is_running R v k
  is_running (Close by t ∷ R) v k = is_running R v k
  is_running (Ask by t q ∷ R) v k = is_running R v k
  is_running (Leave by a ∷ R) v k = is_running R v k
  is_running (Keep w q b ∷ R) v k = is_running R v k

  -- an End or Keep of k at b
  abbrev pub is_base : List (Told K V) → ℕ → K → Bool
  is_base [] b k = false
  is_base (Keep w q c ∷ R) b k = names_by eq w q b k || is_base R b k
  is_base (End w q ∷ R) b k = names_by eq w q b k || is_base R b k
  is_base (Commit by c ∷ R) b k = is_base R b k
  is_base (Open by w ∷ R) b k = is_base R b k
  is_base (Close by t ∷ R) b k = is_base R b k
  is_base (Ask by t q ∷ R) b k = is_base R b k
  is_base (Leave by a ∷ R) b k = is_base R b k
  is_base (Start w q c ∷ R) b k = is_base R b k
  is_base (Cyclic w q ∷ R) b k = is_base R b k
  is_base (Drop w q ∷ R) b k = is_base R b k
  is_base (Lost w q ∷ R) b k = is_base R b k
