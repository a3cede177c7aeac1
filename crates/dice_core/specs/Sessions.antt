-- What is open: the transactions, and the asks in them that were not left.
use Rattle.std.specs.Prelude.{◌≡◌, ◌+◌, ◌-◌, ℕ, Bool, true, false, cond, ◌&&◌, nat_eq, List, [], ◌∷◌, length, Option, Some, None, unwrap_or}
use Rattle.std.specs.Map.{lookup}
use Rattle.std.specs.List.{list_any}
use Rattle.std.specs.Option.{option_map}
use Rattle.journal.specs.declared.event.Told.{Told}
use Rattle.journal.specs.declared.event.Told.TheVariants.{Commit, Open, Close, Ask, Leave, Start, Keep, End, Cyclic, Drop, Lost}
use Rattle.journal.specs.Events.{Opened, Asking, is_for, one_if, open_at, open_count, live_at}
use Rattle.journal.specs.Words.{begins_epoch}
use Rattle.version_epoch.specs.declared.open_versions.Standing.{Standing}
use Rattle.version_epoch.specs.Standings.{open_count_of, epoch_of}

-- an open transaction as it is kept: the seat that opened it, its version, its asks that were not left, and how many more asks there is room for
pub record SessionSeen : Type 0 where
  pub by : ℕ
  pub version : ℕ
  pub asks : List ℕ
  pub room : ℕ

-- what is open: the transactions and the asks by the index of their events, how the versions stand, and how many more asks there is room for
pub record SessionsSeen (K : Type 0) : Type 0 where
  pub transactions : List (ℕ × SessionSeen)
  pub asks : List (ℕ × Asking K)
  pub epochs : List (ℕ × Standing)
  pub room : ℕ

-- the transaction as the journal speaks of it
abbrev pub opened_of : SessionSeen → Opened
opened_of s = record { by = s.by; version = s.version }

-- the ask of this index is listed
abbrev pub has_ask : List ℕ → ℕ → Bool
has_ask xs i = list_any (nat_eq i) xs

-- read from the list of the transactions: the transaction of an index; whether it lists an ask; and for how many more asks it has room
abbrev pub opened_in : List (ℕ × SessionSeen) → ℕ → Option Opened
opened_in ts t = option_map opened_of (lookup (nat_eq t) ts)

abbrev pub among_in : List (ℕ × SessionSeen) → ℕ → ℕ → Bool
among_in ts t i = is_for (λ (s : SessionSeen). has_ask s.asks i) (lookup (nat_eq t) ts)

abbrev pub room_in : List (ℕ × SessionSeen) → ℕ → ℕ
room_in ts t = unwrap_or (option_map (λ (s : SessionSeen). s.room) (lookup (nat_eq t) ts)) 0

-- of the transaction t the asks change by A, and nothing else changes
pub record AsksTurn (t : ℕ) (A : ℕ → Bool → Bool) (ts us : List (ℕ × SessionSeen)) : Type 0 where
  pub opened : (i : ℕ) → opened_in us i ≡ opened_in ts i
  pub among : (w i : ℕ) → among_in us w i ≡ cond (nat_eq t w) (A i (among_in ts w i)) (among_in ts w i)
  pub number : length us ≡ length ts

module _ {K : Type 0} where
  -- the transaction of this index
  abbrev pub session_at : SessionsSeen K → ℕ → Option SessionSeen
  session_at s t = lookup (nat_eq t) s.transactions

  -- the same as the journal speaks of it
  abbrev pub transaction_at : SessionsSeen K → ℕ → Option Opened
  transaction_at s t = opened_in s.transactions t

  -- the ask of this index
  abbrev pub ask_at : SessionsSeen K → ℕ → Option (Asking K)
  ask_at s i = lookup (nat_eq i) s.asks

  -- the transaction t lists the ask i
  abbrev pub is_among : SessionsSeen K → ℕ → ℕ → Bool
  is_among s t i = among_in s.transactions t i

  -- for how many more asks the transaction t has room
  abbrev pub ask_room : SessionsSeen K → ℕ → ℕ
  ask_room s t = room_in s.transactions t

  -- how many events are still to come for what is open: a Close for each transaction, and a Leave for each ask
  abbrev pub owed : SessionsSeen K → ℕ
  owed s = length s.transactions + length s.asks

  -- all that is read is as before
  pub record IsSame (s u : SessionsSeen K) : Type 0 where
    pub transactions : (i : ℕ) → transaction_at u i ≡ transaction_at s i
    pub asks : (i : ℕ) → ask_at u i ≡ ask_at s i
    pub among : (t i : ℕ) → is_among u t i ≡ is_among s t i
    pub epochs : u.epochs ≡ s.epochs
    pub owed : owed u ≡ owed s

  -- the transaction of this index is opened, without asks
  pub record Opens (index by version : ℕ) (s u : SessionsSeen K) : Type 0 where
    pub transactions : (i : ℕ) → transaction_at u i ≡ cond (nat_eq index i) (Some (record { by = by; version = version })) (transaction_at s i)
    pub asks : (i : ℕ) → ask_at u i ≡ ask_at s i
    pub among : (t i : ℕ) → is_among u t i ≡ cond (nat_eq index t) false (is_among s t i)
    pub counts : (w : ℕ) → open_count_of u.epochs w ≡ cond (nat_eq w version) (open_count_of s.epochs w + 1) (open_count_of s.epochs w)
    pub epochs : (w : ℕ) → epoch_of u.epochs w ≡ cond (nat_eq w version && nat_eq (open_count_of s.epochs w) 0) (epoch_of s.epochs w + 1) (epoch_of s.epochs w)
    pub owed : owed u ≡ owed s + 1

  -- the ask of this index comes
  pub record Asks (index : ℕ) (a : Asking K) (s u : SessionsSeen K) : Type 0 where
    pub transactions : (i : ℕ) → transaction_at u i ≡ transaction_at s i
    pub asks : (i : ℕ) → ask_at u i ≡ cond (nat_eq index i) (Some a) (ask_at s i)
    pub among : (t i : ℕ) → is_among u t i ≡ cond (nat_eq a.opened t) (cond (nat_eq index i) true (is_among s t i)) (is_among s t i)
    pub epochs : u.epochs ≡ s.epochs
    pub owed : owed u ≡ owed s + 1

  -- the ask of this index, which is a, is left
  pub record Leaves (index : ℕ) (a : Asking K) (s u : SessionsSeen K) : Type 0 where
    pub transactions : (i : ℕ) → transaction_at u i ≡ transaction_at s i
    pub asks : (i : ℕ) → ask_at u i ≡ cond (nat_eq index i) None (ask_at s i)
    pub among : (t i : ℕ) → is_among u t i ≡ cond (nat_eq a.opened t) (cond (nat_eq index i) false (is_among s t i)) (is_among s t i)
    pub epochs : u.epochs ≡ s.epochs
    pub owed : owed u + 1 ≡ owed s

  -- the transaction t, which was at this version, is taken out; its asks stay
  pub record Closes (t version : ℕ) (s u : SessionsSeen K) : Type 0 where
    pub transactions : (i : ℕ) → transaction_at u i ≡ cond (nat_eq t i) None (transaction_at s i)
    pub asks : (i : ℕ) → ask_at u i ≡ ask_at s i
    pub among : (w i : ℕ) → is_among u w i ≡ cond (nat_eq t w) false (is_among s w i)
    pub counts : (w : ℕ) → open_count_of u.epochs w ≡ cond (nat_eq w version) (open_count_of s.epochs w - 1) (open_count_of s.epochs w)
    pub epochs : (w : ℕ) → epoch_of u.epochs w ≡ epoch_of s.epochs w
    pub owed : owed u + 1 ≡ owed s

  -- the ask of this index is taken out; its transaction lists it as before
  pub record Takes (index : ℕ) (s u : SessionsSeen K) : Type 0 where
    pub transactions : u.transactions ≡ s.transactions
    pub asks : (i : ℕ) → ask_at u i ≡ cond (nat_eq index i) None (ask_at s i)
    pub epochs : u.epochs ≡ s.epochs
    pub owed : owed u + 1 ≡ owed s

module _ {K V : Type 0} where
  -- how many epochs of v have begun: how many events of the journal R, read backwards, begin one
  abbrev pub epochs_begun : List (Told K V) → ℕ → ℕ
  epochs_begun [] v = 0
  epochs_begun (e ∷ R) v = epochs_begun R v + one_if (begins_epoch e R v)

  -- the ask i is live, in the transaction t
  abbrev pub asks_in : List (Told K V) → ℕ → ℕ → Bool
  asks_in R t i = is_for (λ (a : Asking K). nat_eq t a.opened) (live_at R i)

  -- what is kept is what the journal R, read backwards, says: which transactions are open, which asks are live, how many transactions are open at
  -- each version, which asks each transaction has, and how many epochs of each version have begun
  pub record SessionsStand (R : List (Told K V)) (s : SessionsSeen K) : Type 0 where
    pub transactions : (i : ℕ) → transaction_at s i ≡ open_at R i
    pub asks : (i : ℕ) → ask_at s i ≡ live_at R i
    pub counts : (v : ℕ) → open_count_of s.epochs v ≡ open_count R v
    pub among : (t i : ℕ) → is_among s t i ≡ asks_in R t i
    pub epochs : (v : ℕ) → epoch_of s.epochs v ≡ epochs_begun R v

  -- the same while the transaction t is closed: all is as after its Close, but that these asks of t are still to be taken out
  pub record Closing (R : List (Told K V)) (by t : ℕ) (rest : List ℕ) (s : SessionsSeen K) : Type 0 where
    pub transactions : (i : ℕ) → transaction_at s i ≡ open_at (Close by t ∷ R) i
    pub asks : (i : ℕ) → ask_at s i ≡ cond (has_ask rest i) (live_at R i) (live_at (Close by t ∷ R) i)
    pub counts : (v : ℕ) → open_count_of s.epochs v ≡ open_count (Close by t ∷ R) v
    pub among : (w i : ℕ) → is_among s w i ≡ asks_in (Close by t ∷ R) w i
    pub epochs : (v : ℕ) → epoch_of s.epochs v ≡ epochs_begun R v
    pub live : (i : ℕ) → has_ask rest i ≡ true → asks_in R t i ≡ true

  -- the event opens or closes a transaction, or asks or leaves
  abbrev pub moves_sessions : Told K V → Bool
  moves_sessions (Open by v) = true
  moves_sessions (Close by t) = true
  moves_sessions (Ask by t k) = true
  moves_sessions (Leave by a) = true
  moves_sessions (Commit by c) = false
  moves_sessions (Start v k c) = false
  moves_sessions (Keep v k b) = false
  moves_sessions (End v k) = false
  moves_sessions (Cyclic v k) = false
  moves_sessions (Drop v k) = false
  moves_sessions (Lost v k) = false
