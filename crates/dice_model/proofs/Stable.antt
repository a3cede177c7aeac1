-- What holds at a version holds over each log that goes on.
use Rattle.std.proofs.Common.{◌≤◌, ℕ, List, [], ◌∷◌, ◌++◌, length, ◌∙◌, Bool}
use Rattle.std.specs.List.{AllZip}
use Rattle.dice_key.specs.Meaning.{Meaning, Answered}
use Rattle.dice_model.specs.Eval.{HasValue}
use Rattle.dice_model.specs.Asks.{AllTrue, Goes, AsksFor, Reaches, here, through, GoesRound, IsCycle, ReachesCycle}
use Rattle.dice_model.proofs.EvalLaws.{eval_stable}
use Rattle.dice_model.proofs.Traces.{zip_map}

module _ {K V : Type 0} (eq : K → K → Bool) (m : Meaning K V) (C D : List (List (K × V))) (v : ℕ) (h : v ≤ length C) where
  pub value_stable : (k : K) (x : V) → HasValue eq m C v k x → HasValue eq m (C ++ D) v k x
  value_stable k x i = record { depth = i.depth; gives = eval_stable eq m C D v h i.depth k ∙ i.gives }

  pub zip_stable : (ks : List K) (xs : List V) → AllZip (HasValue eq m C v) ks xs → AllZip (HasValue eq m (C ++ D) v) ks xs
  zip_stable ks xs z = zip_map (HasValue eq m C v) (HasValue eq m (C ++ D) v) ks xs (λ j y g i. value_stable j y i) z

  pub true_stable : (A : List (Answered K V)) → AllTrue (HasValue eq m C v) A → AllTrue (HasValue eq m (C ++ D) v) A
  true_stable [] t = tt
  true_stable (b ∷ bs) t = (zip_stable b.keys b.values t.0, true_stable bs t.1)

  pub goes_stable : (k : K) (before rest : List (Answered K V)) → Goes eq m C v k before rest → Goes eq m (C ++ D) v k before rest
  goes_stable k before [] g = tt
  goes_stable k before (b ∷ bs) g = (g.0, zip_stable b.keys b.values g.1, goes_stable k (before ++ b ∷ []) bs g.2)

  pub asks_stable : (k j : K) → AsksFor eq m C v k j → AsksFor eq m (C ++ D) v k j
  asks_stable k j a = record { computed = a.computed; before = a.before; goes = goes_stable k [] a.before a.goes; keys = a.keys; asks = a.asks; among = a.among }

  pub reaches_stable : (k j : K) → Reaches eq m C v k j → Reaches eq m (C ++ D) v k j
  reaches_stable k j here = here
  reaches_stable k j (through {i = i} a r) = through (asks_stable k i a) (reaches_stable i j r)

  round_stable : (first k : K) (rest : List K) → GoesRound eq m C v first k rest → GoesRound eq m (C ++ D) v first k rest
  round_stable first k [] c = asks_stable k first c
  round_stable first k (j ∷ js) c = (asks_stable k j c.0, round_stable first j js c.1)

  pub cycle_stable : (ks : List K) → IsCycle eq m C v ks → IsCycle eq m (C ++ D) v ks
  cycle_stable [] c = c
  cycle_stable (k ∷ ks) c = (c.0, round_stable k k ks c.1)

  pub reaches_cycle_stable : (k : K) → ReachesCycle eq m C v k → ReachesCycle eq m (C ++ D) v k
  reaches_cycle_stable k r = record { first = r.first; rest = r.rest; cycle = cycle_stable (r.first ∷ r.rest) r.cycle; reaches = reaches_stable k r.first r.reaches }
