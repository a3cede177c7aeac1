-- The changes that a commit is asked for: the first fault among them, and what the commit makes of them.
use Rattle.std.specs.Prelude.{◌≡◌, ◌≢◌, ◌<◌, ℕ, ◌+◌, suc, Bool, not, List, [], ◌∷◌, ◌++◌, length, filter, Option, Some, None}
use Rattle.std.specs.Arc.{arc_value}
use Rattle.std.specs.List.{AllByRecursion}
use Rattle.std.specs.Map.{lookup, keys_of}
use Rattle.dice_key.specs.Meaning.{Meaning}
use Rattle.dice_key.specs.declared.universe.Kind.TheVariants.{Injected}
use Rattle.versioned_graph.specs.Entries.{Stored}
use Rattle.versioned_graph.specs.Edges.{IsCut}
use Rattle.versioned_graph.specs.Sound.{AreTrue}
use Rattle.injected.specs.Seen.{Seen, sets_at, room_at, newest_at}
use Rattle.injected.specs.Inputs.{set_if}
use Rattle.journal.specs.declared.event.Told.{Told}
use Rattle.journal.specs.Events.{event_of}
use Rattle.dice_core.specs.declared.commit.CommitRefusal.{CommitRefusal}
use Rattle.dice_core.specs.declared.commit.CommitRefusal.TheVariants as refusal
use Rattle.lists.specs.Lists.{AreDistinct, Has}

-- what may be wrong with a key that is to be set: it is not injected, or it stands there for the second time
pub data Fault (K : Type 0) : Type 0 where
  NotInjected : K → Fault K
  Twice : K → Fault K

abbrev pub key_of : {K : Type 0} → Fault K → K
key_of (NotInjected k) = k
key_of (Twice k) = k

-- the fault that a refusal names, if any
abbrev pub fault_of : {U K V R : Type 0} → CommitRefusal U K V R → Option (Fault K)
fault_of (refusal.NotInjected k) = Some (NotInjected (arc_value k.now))
fault_of (refusal.Twice k) = Some (Twice (arc_value k.now))
fault_of refusal.NoMemory = None

module _ {K V : Type 0} (m : Meaning K V) where
  -- the keys are injected, and none stands twice
  pub record AreSettable (ks : List K) : Type 0 where
    pub injected : AllByRecursion (λ k. m.kind k ≡ Injected) ks
    pub distinct : AreDistinct ks

  -- the fault of a key that has these keys before it
  abbrev pub IsFault : List K → Fault K → Type 0
  IsFault before (NotInjected k) = m.kind k ≢ Injected
  IsFault before (Twice k) = (m.kind k ≡ Injected) × Has before k

  -- the first fault: all keys before it are injected and distinct
  pub record IsFirstFault (ks : List K) (f : Fault K) : Type 0 where
    pub before : List K
    pub later : List K
    pub all : ks ≡ before ++ key_of f ∷ later
    pub settable : AreSettable before
    pub fault : IsFault before f

module _ {K V : Type 0} (eq : K → K → Bool) (veq : V → V → Bool) (m : Meaning K V) (s : Seen K V) where
  -- whether the value is not the newest one of the key
  abbrev pub differs : K × V → Bool
  differs p = not (veq (newest_at eq m s p.0) p.1)

  -- the changes that differ, in order
  abbrev pub differing_of : List (K × V) → List (K × V)
  differing_of c = filter differs c

module _ {K V : Type 0} (eq : K → K → Bool) where
  -- there is room for a set of each key
  abbrev pub HaveRoom : Seen K V → List (K × V) → Type 0
  HaveRoom s c = AllByRecursion (λ p. 0 < room_at eq s p.0) c

  -- each key's sets are as before
  abbrev pub SameSets : Seen K V → Seen K V → Type 0
  SameSets s t = (k : K) → sets_at eq t k ≡ sets_at eq s k

  -- the changes were set at version v, and nothing else
  abbrev pub AreSet : ℕ → List (K × V) → Seen K V → Seen K V → Type 0
  AreSet v c s t = (k : K) → sets_at eq t k ≡ sets_at eq s k ++ set_if v (lookup (eq k) c)

module _ {K V : Type 0} (eq : K → K → Bool) where
  -- by a commit of these changes, if there are any, the cells s become t, and the events J become I
  pub record Commits (by : ℕ) (c : List (K × V)) (s t : Seen K V) (J I : List (Told K V)) : Type 0 where
    pub events : I ≡ J ++ event_of by c
    pub last : t.last ≡ s.last + length (event_of by c)
    pub sets : AreSet eq (suc s.last) c s t

  -- cells and events are as before
  pub record IsAsBefore (s t : Seen K V) (J I : List (Told K V)) : Type 0 where
    pub events : I ≡ J
    pub last : t.last ≡ s.last
    pub sets : SameSets eq s t

module _ {K V : Type 0} (eq : K → K → Bool) (m : Meaning K V) where
  -- by a commit of these changes at v the entries es become fs: the tails of all that it reaches are cut, and no others; and what was
  -- true of them before it is true after it
  pub record CutsEntries (c : List (K × V)) (v : ℕ) (es fs : List (K × Stored K V)) : Type 0 where
    pub cut : IsCut eq es (keys_of c) v fs
    pub kept : (C : List (List (K × V))) → v ≡ suc (length C) → AreTrue eq m C es → AreTrue eq m (C ++ c ∷ []) fs

  -- so they do if there are changes; without any they stay
  abbrev pub CommitsEntries : List (K × V) → ℕ → List (K × Stored K V) → List (K × Stored K V) → Type 0
  CommitsEntries [] v es fs = fs ≡ es
  CommitsEntries (p ∷ c) v es fs = CutsEntries (p ∷ c) v es fs
