-- What a pure universe means as a universe.
use Rattle.std.specs.Prelude.{◌≡◌, ◌≤◌, ℕ, Bool, true, false, List, [], ◌∷◌, ◌++◌, length, refl}
use Rattle.std.proofs.Common.{ap, subst, sym, ◌∙◌, suc, append-nil, append_assoc}
use Rattle.dice_key.specs.Meaning.{Meaning, Answered, Step, Asks, Ends, Takes, answered_with}
use Rattle.dice_key.specs.Lawful.{IsLawful}
use Rattle.dice_key.specs.declared.universe.Kind.{Kind}
use Rattle.dice_key.specs.declared.universe.Kind.TheVariants.{Injected, Computed, Projection}

-- a key is set from outside, or computed
abbrev pub kind_by : Bool → Kind
kind_by true = Injected
kind_by false = Computed

not_projected : (b : Bool) → kind_by b ≡ Projection → ⊥
not_projected true e = cc
not_projected false e = cc

module _ {K V : Type 0} where
  -- the keys that a step asks
  abbrev pub asked : Step K V → List K
  asked (Asks ks) = ks
  asked (Ends x) = []

  -- the answers to each batch
  abbrev pub values_of : List (Answered K V) → List (List V)
  values_of [] = []
  values_of (a ∷ A) = a.values ∷ values_of A

  -- the batches that were answered, after those answered before
  abbrev pub history_after : (List (List V) → Step K V) → List (List V) → List (List V) → List (Answered K V)
  history_after next before [] = []
  history_after next before (xs ∷ rest) = record { keys = asked (next before); values = xs } ∷ history_after next (before ++ xs ∷ []) rest

  -- the batches that a run was answered, by the answers alone: it asked what the table says
  abbrev pub history : (List (List V) → Step K V) → List (List V) → List (Answered K V)
  history next answers = history_after next [] answers

  -- the pure universe's table as a meaning: the version is not looked at, no value is transient,
  -- and no key is a projection (its base and its part stand for nothing)
  abbrev pub plain : (K → Bool) → (K → V) → (K → List (List V) → Step K V) → (K → ℕ) → (K → Bool → List ℕ) → Meaning K V
  plain is_injected absent next most text = record {
    kind = λ k. kind_by (is_injected k);
    absent = absent;
    next = λ k A v. next k (values_of A);
    is_transient = λ x. false;
    most = most;
    base = λ k. k;
    project = λ k x. x;
    text = text;
  }

  length_of_values : (A : List (Answered K V)) → length (values_of A) ≡ length A
  length_of_values [] = refl
  length_of_values (a ∷ A) = ap (λ n. suc n) (length_of_values A)

  -- it keeps the laws of a universe, since its keys are done in time
  pub plain_is_lawful : (is_injected : K → Bool) (absent : K → V) (next : K → List (List V) → Step K V) (most : K → ℕ) (text : K → Bool → List ℕ)
      → ((k : K) (A : List (List V)) → most k ≤ length A → (x : V) × (next k A ≡ Ends x)) → IsLawful (plain is_injected absent next most text)
  plain_is_lawful is_injected absent next most text ends = record {
    ends = λ k A v h. ends k (values_of A) (subst (λ n. most k ≤ n) (sym (length_of_values A)) h);
    asks_alike = λ k A v w ks e. e;
    ends_alike = λ k A v w x e h. e;
    asks_base = λ k v e. absurd (not_projected (is_injected k) e);
    projects = λ k v ks x e. absurd (not_projected (is_injected k) e);
    projected_lasts = λ k x e. absurd (not_projected (is_injected k) e);
  }

  -- the values of a history are the answers
  pub values_of_history : (next : List (List V) → Step K V) (before rest : List (List V)) → values_of (history_after next before rest) ≡ rest
  values_of_history next before [] = refl
  values_of_history next before (xs ∷ rest) = ap (λ r. xs ∷ r) (values_of_history next (before ++ xs ∷ []) rest)

  one_more : (next : List (List V) → Step K V) (before rest : List (List V)) (xs : List V)
      → history_after next before (rest ++ xs ∷ []) ≡ history_after next before rest ++ record { keys = asked (next (before ++ rest)); values = xs } ∷ []
  one_more next before [] xs = ap (λ b. record { keys = asked (next b); values = xs } ∷ []) (sym (append-nil before))
  one_more next before (y ∷ rest) xs =
      ap (λ r. record { keys = asked (next before); values = y } ∷ r)
      (one_more next (before ++ y ∷ []) rest xs ∙ ap (λ b. history_after next (before ++ y ∷ []) rest ++ record { keys = asked (next b); values = xs } ∷ []) (append_assoc before (y ∷ []) rest))

  taken : (s : Step K V) (A : List (Answered K V)) (xs : List V) → Takes s (length xs) → answered_with s A xs ≡ A ++ record { keys = asked s; values = xs } ∷ []
  taken (Asks ks) A xs h = refl
  taken (Ends x) A xs h = absurd h

  -- one more answered batch is the one that the last step asked
  pub goes_on : (next : List (List V) → Step K V) (answers : List (List V)) (xs : List V) → Takes (next (values_of (history next answers))) (length xs)
      → history next (answers ++ xs ∷ []) ≡ answered_with (next (values_of (history next answers))) (history next answers) xs
  goes_on next answers xs h =
      one_more next [] answers xs
      ∙ (ap (λ r. history next answers ++ record { keys = asked (next r); values = xs } ∷ []) (sym (values_of_history next [] answers))
      ∙ sym (taken (next (values_of (history next answers))) (history next answers) xs h))
