-- Keys that are asked for, with one version in hand.
use Rattle.std.specs.Prelude.{◌≡◌, ◌⊎◌, ℕ, Bool, false, cond, List, [], ◌∷◌, ◌++◌, ◌+◌, length, Some}
use Rattle.std.specs.Option.{option_map}
use Rattle.dice_key.specs.Meaning.{Meaning}
use Rattle.dice_key.specs.declared.universe.Kind.TheVariants.{Injected}
use Rattle.task_share.specs.Seen.{Share, task_at, is_live, KeepsAsks}
use Rattle.injected.specs.Seen.{Seen}
use Rattle.journal.specs.declared.event.Told.{Told}
use Rattle.journal.specs.declared.event.Told.TheVariants.{Ask, Start, Keep}
use Rattle.journal.specs.Events.{Opened, open_at}
use Rattle.versioned_graph.specs.Edges.{is_edge}
use Rattle.versioned_graph.specs.Entries.{Stored, entry_at, seen_at}
use Rattle.versioned_graph.specs.Looks.{Look, Matches, Computes, Checks, look}
use Rattle.core_laws.specs.Tasks.{WithValue}
use Rattle.core_laws.specs.Desk.{World}
use Rattle.dice_tasks.specs.Entries.{started_for}
use Rattle.dice_tasks.specs.Helds.{Held, held_ended}
use Rattle.dice_tasks.specs.Hands.{DeskSeen, Stays, KeepsHands, KeepsDeskRoom}
use Rattle.dice_steps.specs.AtHand.{AtHand}
use Rattle.dice_tasks.specs.Makings.{IsFree, HasTask, IsOfMake, held_run, held_check}

module _ {K V : Type 0} (eq : K → K → Bool) where
  -- all that is seen of the tasks and of the desk is as before; there may be more room
  pub record KeepsAtHand (ps qs : List (K × Share K (Held K V))) (d e : DeskSeen K V) : Type 0 where
    pub hands : KeepsHands d e
    pub room : KeepsDeskRoom d e
    pub tasks : (q : K) → task_at eq qs q ≡ task_at eq ps q
    pub live : (q : K) → is_live eq qs q ≡ is_live eq ps q
    pub asks : KeepsAsks eq ps qs

module _ {K V : Type 0} (v : ℕ) (k : K) where
  -- what is told when a task of k at v is made: one event, or none
  abbrev pub IsToldOfMake : List (Told K V) → Type 0
  IsToldOfMake [] = Unit {0}
  IsToldOfMake (x ∷ []) = IsOfMake v k x
  IsToldOfMake (x ∷ y ∷ xs) = ⊥

module _ {K V : Type 0} (eq : K → K → Bool) (v : ℕ) (k : K) (born : ℕ) (es fs : List (K × Stored K V)) (h : Held K V) (made : List (Told K V)) where
  -- the task h was made of k at v by what a look-up says, when the journal had so many events; this was told, and the entries es became fs: a value
  -- that matches ends it and is kept, and its entry was seen at v; a key that has to be computed is started, for the reason that the look-up has; and a
  -- value whose dependencies have to be checked waits for its check. All other entries, and all recorded edges, are as they were
  abbrev pub IsMadeBy : Look K V → Type 0
  IsMadeBy (Matches x b) = (h ≡ held_ended (record { version = v; key = k; born = born }) (WithValue x)) × (made ≡ Keep v k b ∷ []) × ((q : K) → entry_at eq fs q ≡ cond (eq k q) (option_map (seen_at v) (entry_at eq es k)) (entry_at eq es q)) × ((j q : K) → is_edge eq fs j q ≡ is_edge eq es j q)
  IsMadeBy (Computes y) = (h ≡ held_run (record { version = v; key = k; born = born })) × (made ≡ Start v k (started_for y) ∷ []) × (fs ≡ es)
  IsMadeBy (Checks x T b) = (h ≡ held_check (record { version = v; key = k; born = born }) x T b) × (made ≡ []) × (fs ≡ es)

module _ {K V : Type 0} (eq : K → K → Bool) (m : Meaning K V) (k : K) (ps qs : List (K × Share K (Held K V))) (es fs : List (K × Stored K V)) where
  -- k is injected, or has a task that was not given up: nothing is made
  pub record JoinsTask (made : List (Told K V)) : Type 0 where
    pub there : (m.kind k ≡ Injected) ⊎ HasTask (task_at eq ps k)
    pub task : task_at eq qs k ≡ task_at eq ps k
    pub entries : fs ≡ es
    pub silent : made ≡ []

  -- k has no task at v, or one that was given up: one is made, by what a look-up says
  pub record MakesTask (v born : ℕ) (made : List (Told K V)) : Type 0 where
    pub free : IsFree (task_at eq ps k)
    pub held : Held K V
    pub task : task_at eq qs k ≡ Some held
    pub by_look : IsMadeBy eq v k born es fs held made (look m.is_transient (entry_at eq es k) v)

module _ {K V : Type 0} (eq : K → K → Bool) (m : Meaning K V) where
  -- in the transaction t at v a seat asked for k: the event, and then what is told of a new task, if one was made; all other tasks are as before, and
  -- the same ones are out
  pub record AsksForKey (v by t : ℕ) (k : K) (ps qs : List (K × Share K (Held K V))) (es fs : List (K × Stored K V)) (d e : DeskSeen K V) : Type 0 where
    pub made : List (Told K V)
    pub told : IsToldOfMake v k made
    pub events : e.events ≡ d.events ++ (Ask by t k ∷ made)
    pub others : (q : K) → eq k q ≡ false → task_at eq qs q ≡ task_at eq ps q
    pub own : JoinsTask eq m k ps qs es fs made ⊎ MakesTask eq m k ps qs es fs v (length d.events + 1) made
    pub outs : Stays d.out e.out

-- the transaction t is open at v
abbrev pub IsOpenAt : {K V : Type 0} → List (Told K V) → ℕ → ℕ → Type 0
IsOpenAt R v t = (o : Opened) × (open_at R t ≡ Some o) × (o.version ≡ v)

module _ {K V : Type 0} (eq : K → K → Bool) (m : Meaning K V) where
  -- with these entries the version may be in hand
  abbrev pub MayBeWith : ℕ → ℕ → List (K × Share K (Held K V)) → DeskSeen K V → List (K × Stored K V) → Type 0
  MayBeWith v owed ps d es = (w : World K V) × (s : Seen K V) × AtHand eq m v w owed ps d es s

  -- what was in hand is so still, with these entries and one more event owed
  abbrev pub OwesOneMore : ℕ → ℕ → List (K × Share K (Held K V)) → DeskSeen K V → List (K × Stored K V) → List (K × Share K (Held K V)) → DeskSeen K V → List (K × Stored K V) → Type 0
  OwesOneMore v owed ps d es qs e fs = (w : World K V) (s : Seen K V) → AtHand eq m v w owed ps d es s → AtHand eq m v w (owed + 1) qs e fs s
