-- Traces, asks, chains of asks and cycles.
use Rattle.std.specs.Prelude.{◌≡◌, ◌≢◌, ℕ, List, [], ◌∷◌, ◌++◌, Bool}
use Rattle.std.specs.List.{AllZip}
use Rattle.dice_key.specs.Meaning.{Meaning, Answered, Asks, Ends}
use Rattle.dice_key.specs.declared.universe.Kind.TheVariants.{Injected}
use Rattle.dice_model.specs.Eval.{HasValue}
use Rattle.lists.specs.Lists.{AreDistinct, Has}

-- each answer of these batches is allowed by R
abbrev pub AllTrue : {K V : Type 0} → (K → V → Type 0) → List (Answered K V) → Type 0
AllTrue R [] = Unit {0}
AllTrue R (b ∷ bs) = AllZip R b.keys b.values × AllTrue R bs

module _ {K V : Type 0} (eq : K → K → Bool) (m : Meaning K V) (C : List (List (K × V))) (v : ℕ) where
  -- after the batches `before`, k asks these in order, and each answer is the value of its key
  abbrev pub Goes : K → List (Answered K V) → List (Answered K V) → Type 0
  Goes k before [] = Unit {0}
  Goes k before (b ∷ bs) = (m.next k before v ≡ Asks b.keys) × AllZip (HasValue eq m C v) b.keys b.values × Goes k (before ++ b ∷ []) bs

  -- A is the trace of k: the batches, with their answers, by which k comes to its value x
  pub record IsTrace (k : K) (A : List (Answered K V)) (x : V) : Type 0 where
    pub computed : m.kind k ≢ Injected
    pub goes : Goes k [] A
    pub ends : m.next k A v ≡ Ends x

  -- k asks j
  pub record AsksFor (k j : K) : Type 0 where
    pub computed : m.kind k ≢ Injected
    pub before : List (Answered K V)
    pub goes : Goes k [] before
    pub keys : List K
    pub asks : m.next k before v ≡ Asks keys
    pub among : Has keys j

  -- a chain of zero or more asks leads from k to j
  pub data Reaches : K → K → Type 0 where
    here : {k : K} → Reaches k k
    through : {k i j : K} → AsksFor k i → Reaches i j → Reaches k j

  -- each key asks the next, and the last asks `first`
  abbrev pub GoesRound : K → K → List K → Type 0
  GoesRound first k [] = AsksFor k first
  GoesRound first k (j ∷ js) = AsksFor k j × GoesRound first j js

  -- distinct keys, one or more; each asks the next and the last asks the first
  abbrev pub IsCycle : List K → Type 0
  IsCycle [] = ⊥
  IsCycle (k ∷ ks) = AreDistinct (k ∷ ks) × GoesRound k k ks

  -- k reaches a key of a cycle
  pub record ReachesCycle (k : K) : Type 0 where
    pub first : K
    pub rest : List K
    pub cycle : IsCycle (first ∷ rest)
    pub reaches : Reaches k first

  -- each key that these ask is one of them
  abbrev pub IsClosed : List K → Type 0
  IsClosed all = (k j : K) → Has all k → AsksFor k j → Has all j
