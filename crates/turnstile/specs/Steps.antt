-- What each kind of step tells its seat.
use Rattle.std.specs.Prelude.{◌≡◌, ℕ, ◌+◌, ◌%◌, ◌^◌, ◌≤◌, List, [], ◌∷◌, Bool, true, false, Option, Some, None}
use Rattle.atomic_table.specs.Table.{Me, Step}
use Rattle.atomic_table.specs.declared.shared.Seat.{Seat}
use Rattle.turnstile.specs.declared.view.View.{View}
use Rattle.turnstile.specs.declared.view.Stage.{Stage}
use Rattle.turnstile.specs.declared.view.Stage.TheVariants.{Away, Waits, Serves, Raises, Empties}
use Rattle.turnstile.specs.Events.{StartsWith, events_by, AllBelow}
use Rattle.turnstile.specs.Seats.{EachNote, NotedIn}

-- the word n is what the ticket t looks like
abbrev pub Ticket : ℕ → ℕ → Type 0
Ticket t n = n ≡ t % 2 ^ 64

abbrev pub is_serving : Stage → Bool
is_serving (Serves t) = true
is_serving _ = false

abbrev pub Seated : Type 0 → Type 0 → Type 0
Seated S E = Me (Option S) (View E)

module _ {E : Type 0} where
  abbrev pub waiting : View E → ℕ → View E
  waiting v t = record v { stage = Waits t }

  -- the seat in its turn, with what the state then stands for
  abbrev pub serving : View E → ℕ → List E → View E
  serving v t xs = record v { stage = Serves t; seen = xs }

  -- the seat once the state is back
  abbrev pub back : (E → Option ℕ) → View E → List E → ℕ × ℕ × ℕ → View E
  back by v xs counts = record v { stage = Raises; seen = xs; mine = events_by by v.number xs; left = counts; turns = v.turns + 1 }

  -- its number, and where its spare ones begin and end
  abbrev pub HasNumbers : View E → ℕ → ℕ → ℕ → Type 0
  HasNumbers v own first end = (v.number ≡ own) × (v.spare_start ≡ first) × (v.spare_end ≡ end) × (first ≤ end)

  -- the numbers that the list xs tells are those that the seat knows of: all are below writers, and a noted number has just what is noted
  abbrev pub Agrees : (E → Option ℕ) → View E → List E → Type 0
  Agrees by v xs = AllBelow by v.writers xs × EachNote (NotedIn by xs) v.ended

  -- what a seat knows of the list that it finds
  abbrev pub Found : (E → Option ℕ) → (List E → ℕ) → View E → List E → Type 0
  Found by version v xs = StartsWith xs v.seen × AllBelow by v.writers xs × (events_by by v.number xs ≡ v.mine) × EachNote (NotedIn by xs) v.ended × (v.floor ≤ version xs)

module _ {S : Type 0} where
  -- the slot with the state, as a seat holds it
  abbrev pub in_hand : S → List (ℕ × Option S)
  in_hand x = (0, Some x) ∷ []

module _ {S E : Type 0} where
  abbrev pub drawn : Step (Option S) → Seated S E → ℕ → Seated S E → Type 0
  drawn st m n m' = (t : ℕ) × Ticket t n × (m' ≡ (waiting m.0 t, m.1))

  -- if the ticket t is served the seat has the state, and otherwise nothing has changed
  abbrev pub LookedFor : (S → List E) → (E → Option ℕ) → (List E → ℕ) → (S → ℕ × ℕ) → ℕ → Seated S E → ℕ → Seated S E → Type 0
  LookedFor list by version mark t m n m' =
      (Ticket t n → (x : S) × (m' ≡ (serving m.0 t (list x), (0, Some x) ∷ m.1)) × Found by version m.0 (list x) × (mark x ≡ m.0.mark)) × ((Ticket t n → ⊥) → m' ≡ m)

  abbrev pub looked : (S → List E) → (E → Option ℕ) → (List E → ℕ) → (S → ℕ × ℕ) → Step (Option S) → Seated S E → ℕ → Seated S E → Type 0
  looked list by version mark st m n m' = (t : ℕ) → m.0.stage ≡ Waits t → LookedFor list by version mark t m n m'

  abbrev pub left : (S → List E) → (E → Option ℕ) → (S → ℕ × ℕ × ℕ) → Step (Option S) → Seated S E → ℕ → Seated S E → Type 0
  left list by tally st m n m' = (x : S) → m.1 ≡ in_hand x → (m' ≡ (back by m.0 (list x) (tally x), [])) × Agrees by m.0 (list x)

  -- the seat after its turn, with a floor that is the list's version or more
  abbrev pub raised : (List E → ℕ) → Step (Option S) → Seated S E → ℕ → Seated S E → Type 0
  raised version st m n m' = (f : ℕ) × (m' ≡ (record (m.0) { stage = Away; floor = f }, m.1)) × (m.0.floor ≤ f) × (version m.0.seen ≤ f)

  -- a look at the version that is shown
  abbrev pub checked : (List E → ℕ) → Step (Option S) → Seated S E → ℕ → Seated S E → Type 0
  checked version st m n m' = (m' ≡ (record (m.0) { floor = n }, m.1)) × (m.0.floor ≤ n) × (m.0.stage ≡ Away → version m.0.seen ≤ n)

  abbrev pub emptied : Step (Option S) → Seated S E → ℕ → Seated S E → Type 0
  emptied st m n m' = (t : ℕ) → m.0.stage ≡ Serves t → m' ≡ (record (m.0) { stage = Empties t }, [])

-- the seat waits with a ticket that this word stands for
abbrev pub Waiting : ℕ → Stage → Type 0
Waiting n stage = (t : ℕ) × (stage ≡ Waits t) × Ticket t n

module _ {S E : Type 0} where
  abbrev pub IsSameSeat : Seat (Option S) (View E) → Seat (Option S) (View E) → Type 0
  IsSameSeat old new = (new.table_id ≡ old.table_id) × (new.id ≡ old.id)

  -- the seat has taken the state x out of the slot
  abbrev pub Taken : (S → List E) → (E → Option ℕ) → (List E → ℕ) → (S → ℕ × ℕ) → Seated S E → Seated S E → S → Type 0
  Taken list by version mark m m' x = (t : ℕ) × (m' ≡ (serving m.0 t (list x), (0, None) ∷ [])) × Found by version m.0 (list x) × (mark x ≡ m.0.mark)

  abbrev pub IsFree : Seated S E → Type 0
  IsFree m = (m.0.stage ≡ Away) × (m.1 ≡ [])

  -- the seat has a turn, and the state is out of the slot
  abbrev pub IsTurn : Seated S E → Type 0
  IsTurn m = (is_serving m.0.stage ≡ true) × (m.1 ≡ (0, None) ∷ [])

  -- the seat after its turn, in which the list became xs
  abbrev pub Left : (E → Option ℕ) → (List E → ℕ) → Seated S E → Seated S E → List E → ℕ × ℕ × ℕ → Type 0
  Left by version m m' xs counts =
      (f : ℕ) × (m' ≡ (record (back by m.0 xs counts) { stage = Away; floor = f }, [])) × (m.0.floor ≤ f) × (version xs ≤ f)
