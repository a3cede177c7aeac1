-- Evaluation from nothing.
use Rattle.std.specs.Prelude.{◌≡◌, ℕ, List, [], ◌∷◌, ◌++◌, Option, Some, None, Bool}
use Rattle.std.specs.Option.{option_map, option_and_then}
use Rattle.std.proofs.Common.{zero, suc}
use Rattle.dice_key.specs.Meaning.{Meaning, Answered, Step, Asks, Ends}
use Rattle.dice_key.specs.declared.universe.Kind.{Kind}
use Rattle.dice_key.specs.declared.universe.Kind.TheVariants.{Injected, Computed, Projection}
use Rattle.dice_model.specs.Log.{input}

-- the first for an injected key, the second for another
abbrev pub by_kind : {V : Type 0} → Kind → Option V → Option V → Option V
by_kind Injected a b = a
by_kind Computed a b = b
by_kind Projection a b = b

module _ {K V : Type 0} where
  -- a value for each key, if each has one
  abbrev pub answers : (K → Option V) → List K → Option (List V)
  answers f [] = Some []
  answers f (k ∷ ks) = option_and_then (λ x. option_map (λ xs. x ∷ xs) (answers f ks)) (f k)

  -- the value of an end, or what a batch leads to
  abbrev pub on_step : (List K → Option V) → Step K V → Option V
  on_step g (Asks ks) = g ks
  on_step g (Ends x) = Some x

  -- the value that is reached from here if each batch is answered by f, within n batches
  abbrev pub reached : (K → Option V) → (List (Answered K V) → Step K V) → ℕ → List (Answered K V) → Option V
  reached f next zero A = on_step (λ ks. None) (next A)
  reached f next (suc n) A = on_step (λ ks. option_and_then (λ xs. reached f next n (A ++ record { keys = ks; values = xs } ∷ [])) (answers f ks)) (next A)

module _ {K V : Type 0} (eq : K → K → Bool) (m : Meaning K V) where
  -- evaluation from nothing, n keys deep
  abbrev pub eval : ℕ → List (List (K × V)) → ℕ → K → Option V
  eval zero C v k = None
  eval (suc n) C v k = by_kind (m.kind k) (Some (input eq m C v k)) (reached (eval n C v) (λ A. m.next k A v) (m.most k) [])

  -- x is the value of k at v
  pub record HasValue (C : List (List (K × V))) (v : ℕ) (k : K) (x : V) : Type 0 where
    pub depth : ℕ
    pub gives : eval depth C v k ≡ Some x
