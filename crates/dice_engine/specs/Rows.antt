-- What of a journal stands on a shelf, and how far a shelf has taken a journal up.
use Rattle.std.specs.Prelude.{◌≡◌, ◌≢◌, ◌≤◌, ◌<◌, ℕ, Bool, List, [], ◌∷◌, ◌++◌, length, map, take, reverse, slice_get, Option, Some, None}
use mathlib.Core.List.{IsPrefix}
use Rattle.dice_key.specs.Meaning.{Meaning}
use Rattle.dice_key.specs.declared.universe.Kind.TheVariants.{Injected}
use Rattle.dice_model.specs.Eval.{HasValue}
use Rattle.journal.specs.declared.event.Told.{Told}
use Rattle.journal.specs.declared.event.Told.TheVariants.{Commit, Open, Close, Ask, Leave, Start, Keep, End, Cyclic, Drop, Lost}
use Rattle.journal.specs.Events.{ByValue, decided, open_count}
use Rattle.shelf.specs.declared.op.Plain.{Plain}
use Rattle.shelf.specs.declared.op.Plain.TheVariants as bare
use Rattle.dice_engine.specs.Turns.{AreBy, AreOfTasks}

-- what stands on a shelf, with the value of a key left aside: the changes of a commit; or that a
-- key got a value at a version
pub data Item (K V : Type 0) : Type 0 where
  Committed : List (K × V) → Item K V
  Finished : ℕ → K → Item K V

-- A shelf, as it is written: all that was put up, what of it readers can see, and how many events
-- of the journal were taken up.
pub record LedgeView (K V : Type 0) : Type 0 where
  pub list : List (Plain K V)
  pub published : List (Plain K V)
  pub taken : ℕ

module _ {K V : Type 0} where
  abbrev pub item_of : Plain K V → Item K V
  item_of (bare.Commit changes) = Committed changes
  item_of (bare.Row version key value) = Finished version key

  -- what an event has for the shelf
  abbrev pub event_items : Told K V → List (Item K V)
  event_items (Commit by c) = Committed c ∷ []
  event_items (Keep v k b) = Finished v k ∷ []
  event_items (End v k) = Finished v k ∷ []
  event_items (Open by v) = []
  event_items (Close by t) = []
  event_items (Ask by t k) = []
  event_items (Leave by a) = []
  event_items (Start v k c) = []
  event_items (Cyclic v k) = []
  event_items (Drop v k) = []
  event_items (Lost v k) = []

  -- what a journal has for the shelf, in its order
  abbrev pub items_of : List (Told K V) → List (Item K V)
  items_of [] = []
  items_of (e ∷ J) = event_items e ++ items_of J

  -- The list has the journal's commits, and a row for each finish of a key there, in the journal's
  -- order, and nothing else. By `IsSound` a row has the value of its key.
  abbrev pub ShelfHas : List (Told K V) → List (Plain K V) → Type 0
  ShelfHas J ops = map item_of ops ≡ items_of J

  -- the list begins with the rows of the journal
  pub record BeginsWithRows (J : List (Told K V)) (ops : List (Plain K V)) : Type 0 where
    pub told : List (Plain K V)
    pub has : ShelfHas J told
    pub begins : IsPrefix told ops

  -- nothing is on the shelf
  abbrev pub IsBare : LedgeView K V → Type 0
  IsBare b = (b.list ≡ []) × (b.published ≡ []) × (b.taken ≡ 0)

  -- What was put up is a beginning of what the journal has for the shelf. Without a mark it is all
  -- of it, and readers can see it.
  abbrev pub Keeps : List (Told K V) → ℕ → LedgeView K V → Type 0
  Keeps J mark b = (map item_of b.list ≡ take (length b.list) (items_of J))
      × (mark ≡ 0 → ShelfHas J b.list × (b.published ≡ b.list) × (b.taken ≡ length J))

  -- the journal J became I in one turn: events of one seat were added, and then events of tasks
  pub record Grows (J I : List (Told K V)) : Type 0 where
    pub seat : ℕ
    pub own : List (Told K V)
    pub work : List (Told K V)
    pub journal : I ≡ J ++ (own ++ work)
    pub by : AreBy seat own
    pub of_tasks : AreOfTasks work

  -- the journal has grown by one turn since the shelf took it up
  pub record Follows (I : List (Told K V)) (mark : ℕ) (b : LedgeView K V) : Type 0 where
    pub before : List (Told K V)
    pub kept : Keeps before mark b
    pub grown : Grows before I

module _ {K V : Type 0} (eq : K → K → Bool) (m : Meaning K V) where
  -- the key has a value at v by the journal, and a transaction is open there
  abbrev pub HasCome : List (Told K V) → ℕ → K → Type 0
  HasCome R v k = (m.kind k ≢ Injected) × (0 < open_count R v) × (decided eq R v k ≡ Some ByValue)

  -- if the event finishes a key, then it is so
  abbrev pub IsFinished : List (Told K V) → Told K V → Type 0
  IsFinished R (Keep v k b) = HasCome R v k
  IsFinished R (End v k) = HasCome R v k
  IsFinished R (Commit by c) = Unit {0}
  IsFinished R (Open by v) = Unit {0}
  IsFinished R (Close by t) = Unit {0}
  IsFinished R (Ask by t k) = Unit {0}
  IsFinished R (Leave by a) = Unit {0}
  IsFinished R (Start v k c) = Unit {0}
  IsFinished R (Cyclic v k) = Unit {0}
  IsFinished R (Drop v k) = Unit {0}
  IsFinished R (Lost v k) = Unit {0}

  -- so it is with each event from this index on
  abbrev pub AreFinished : ℕ → List (Told K V) → Type 0
  AreFinished start J = (i : ℕ) (e : Told K V) → start ≤ i → slice_get J i ≡ Some e → IsFinished (reverse J) e

  -- a row has the value of its key over these commits
  abbrev pub IsTrueRow : List (List (K × V)) → Plain K V → Type 0
  IsTrueRow C (bare.Commit changes) = Unit {0}
  IsTrueRow C (bare.Row version key value) = HasValue eq m C version key value

  -- what the event has for the shelf is this operation, which is true; or it has nothing
  abbrev pub Gives : List (List (K × V)) → Told K V → Option (Plain K V) → Type 0
  Gives C e None = event_items e ≡ []
  Gives C e (Some x) = (event_items e ≡ item_of x ∷ []) × IsTrueRow C x
