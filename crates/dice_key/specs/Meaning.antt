-- What a universe means: moves, kinds and values, as functions that are the same for every value of
-- its type.
use Rattle.std.specs.Prelude.{◌≡◌, ℕ, Bool, List, [], ◌∷◌, ◌++◌, length}
use Rattle.dice_key.specs.declared.universe.Kind.{Kind}

-- a batch that was answered: its keys, and a value for each
pub record Answered (K V : Type 0) : Type 0 where
  pub keys : List K
  pub values : List V

-- what a key does next: it asks for a batch, or is done with a value
pub data Step (K V : Type 0) : Type 0 where
  Asks : List K → Step K V
  Ends : V → Step K V

-- the calls of a universe, as functions: the kind of a key; the value of an injected key that was
-- never set; the next move after these answered batches at this version; the validity test,
-- negated; a bound on the batches of a run; the base of a projection, and its value from its
-- base's; the text of a key, long or short
pub record Meaning (K V : Type 0) : Type 0 where
  pub kind : K → Kind
  pub absent : K → V
  pub next : K → List (Answered K V) → ℕ → Step K V
  pub is_transient : V → Bool
  pub most : K → ℕ
  pub base : K → K
  pub project : K → V → V
  pub text : K → Bool → List ℕ

-- where a run stands
pub record Running (K V : Type 0) : Type 0 where
  pub key : K
  pub version : ℕ
  pub answered : List (Answered K V)

module _ {K V : Type 0} where
  -- the next move of a run
  abbrev pub next_of : Meaning K V → Running K V → Step K V
  next_of m r = m.next r.key r.answered r.version

  -- a step that is answered by n values
  abbrev pub Takes : Step K V → ℕ → Type 0
  Takes (Asks ks) n = n ≡ length ks
  Takes (Ends x) n = ⊥

  -- the answered batches, with the answers to the batch that a step asks
  abbrev pub answered_with : Step K V → List (Answered K V) → List V → List (Answered K V)
  answered_with (Asks ks) A xs = A ++ record { keys = ks; values = xs } ∷ []
  answered_with (Ends x) A xs = A

  -- a run after the answers to the batch that it last asked
  abbrev pub resumed : Meaning K V → Running K V → List V → Running K V
  resumed m r xs = record { key = r.key; version = r.version; answered = answered_with (next_of m r) r.answered xs }
