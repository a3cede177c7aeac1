-- A run that begins goes through the batches that are answered, which it asks.
use Rattle.std.proofs.Common.{◌≡◌, ◌≤◌, ◌+◌, ◌∙◌, ℕ, List, [], ◌∷◌, ◌++◌, length, take, drop, sym, ap, subst}
use Rattle.std.proofs.lemmas.List.{take_all, take-append-drop}
use Rattle.dice_key.specs.Meaning.{Meaning, Answered, Running, Step, Asks, Takes, answered_with, next_of, resumed}
use Rattle.dep_recorder.proofs.Findings.{take_one}
use Rattle.dice_jobs.specs.Jobs.{AsksThese}

-- at its beginning a run has asked nothing
pub asks_none : {K V : Type 0} (m : Meaning K V) (k : K) (v : ℕ) → AsksThese m k v []
asks_none m k v [] after b e = cc
asks_none m k v (c ∷ cs) after b e = cc

module _ {K V : Type 0} (m : Meaning K V) (k : K) (v : ℕ) (A : List (Answered K V)) where
  -- the run of k at v stands after the first i of these batches, and this is its next move
  pub record HasGone (i : ℕ) (p : Running K V) (s : Step K V) : Type 0 where
    pub stands : p ≡ record { key = k; version = v; answered = take i A }
    pub moves : s ≡ next_of m p

  -- it begins
  pub gone_none : (j : K) (w : ℕ) (p : Running K V) (s : Step K V) → p ≡ record { key = j; version = w; answered = [] } → s ≡ m.next j [] w → j ≡ k → w ≡ v → HasGone 0 p s
  gone_none j w p s e n q r = record { stands = e ∙ (λ i. record { key = q i; version = r i; answered = [] }); moves = n ∙ sym (ap (next_of m) e) }

  -- it has gone through all
  pub gone_all : (i : ℕ) (p : Running K V) (s : Step K V) → length A ≤ i → HasGone i p s → (p ≡ record { key = k; version = v; answered = A }) × (s ≡ m.next k A v)
  gone_all i p s all h =
      let e : p ≡ record { key = k; version = v; answered = A } = h.stands ∙ (λ j. record { key = k; version = v; answered = take_all i A all j }) in
      (e, h.moves ∙ ap (next_of m) e)

  -- there is none
  pub gone_at_once : (j : K) (w : ℕ) (p : Running K V) (s : Step K V) → p ≡ record { key = j; version = w; answered = [] } → s ≡ m.next j [] w → j ≡ k → w ≡ v → [] ≡ A → (p ≡ record { key = k; version = v; answered = A }) × (s ≡ m.next k A v)
  gone_at_once j w p s e n q r none =
      let h = gone_none j w p s e n q r in
      let i : p ≡ record { key = k; version = v; answered = A } = h.stands ∙ (λ i. record { key = k; version = v; answered = none i }) in
      (i, h.moves ∙ ap (next_of m) i)

  module _ (asks : AsksThese m k v A) (i : ℕ) (p : Running K V) (s : Step K V) (h : HasGone i p s) (b : Answered K V) (e : drop i A ≡ b ∷ drop (i + 1) A) where
    asks_next : (m.next k (take i A) v ≡ Asks b.keys) × (length b.values ≡ length b.keys)
    asks_next = asks (take i A) (drop (i + 1) A) b (sym (take-append-drop i A) ∙ ap (λ D. take i A ++ D) e)

    asks_it : next_of m p ≡ Asks b.keys
    asks_it = ap (next_of m) h.stands ∙ asks_next.0

    -- it takes the answers to the next batch
    pub gone_takes : Takes (next_of m p) (length b.values)
    gone_takes = subst (λ t. Takes t (length b.values)) (sym asks_it) asks_next.1

    pub gone_on : (q : Running K V) (t : Step K V) → q ≡ resumed m p b.values → t ≡ next_of m q → HasGone (i + 1) q t
    gone_on q t e2 n = record { stands = e2 ∙ (to_last ∙ (λ j. record { key = k; version = v; answered = sym (take_one i A b (drop (i + 1) A) e) j })); moves = n }
      where
        with_keys : answered_with (next_of m p) p.answered b.values ≡ take i A ++ b ∷ []
        with_keys = ap (λ t. answered_with t p.answered b.values) asks_it ∙ ap (λ r. r.answered ++ b ∷ []) h.stands

        to_last : resumed m p b.values ≡ record { key = k; version = v; answered = take i A ++ b ∷ [] }
        to_last = λ j. record { key = ap (λ r. r.key) h.stands j; version = ap (λ r. r.version) h.stands j; answered = with_keys j }
