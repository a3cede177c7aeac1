-- A walk that meets all to which waits lead.
use Rattle.std.proofs.Common.{◌≡◌, ◌<◌, ◌≤◌, ◌+◌, ◌⊎◌, inl, inr, ℕ, Bool, true, false, cond, List, [], ◌∷◌, ◌++◌, Some, length, refl, sym, ap, ◌∙◌, subst, arith, slice_get, slice_index_or as get_or, append-nil}
use Rattle.std.proofs.Common.{eqb}
use Rattle.std.specs.List.{list_any}
use Rattle.std.proofs.lemmas.Option.{slice_get_within, slice_get-get_or}
use Rattle.std.proofs.lemmas.Bool.{cases_lt}
use Rattle.lists.specs.Lists.{Has, AreDistinct}
use Rattle.lists.proofs.Members.{has_end, has_last}
use Rattle.lists.proofs.Distinct.{distinct_end}
use Rattle.number_walk.specs.Reach.{Reaches, stays, waits_on, Grows, AreBelow, IsFollowed, AreAllFrom, NotesAll}
use Rattle.number_walk.proofs.TrailLemmas.{any_has, not_any, fits, grows_not, grows_on, still_has, has_got, got_has, leads_end}

-- the numbers before an index were noted, and no other
pub record NotedSoFar (ws met later : List ℕ) (i : ℕ) : Type 0 where
  pub grows : Grows met later
  pub all : (j m : ℕ) → j < i → slice_get ws j ≡ Some m → Has later m
  pub only : (m : ℕ) → Has later m → Has met m ⊎ Has ws m
  pub distinct : AreDistinct met → AreDistinct later

pub noted_none : (ws met : List ℕ) → NotedSoFar ws met met 0
noted_none ws met = record {
  grows = grows_not met;
  all = λ j m l g. absurd (omega arith);
  only = λ m h. inl h;
  distinct = λ d. d;
}

-- one number more
pub record InsertsOne (number : ℕ) (met later : List ℕ) : Type 0 where
  pub grows : Grows met later
  pub has : Has later number
  pub only : (m : ℕ) → Has later m → Has met m ⊎ (number ≡ m)
  pub distinct : AreDistinct met → AreDistinct later

pub inserted : (number : ℕ) (met later : List ℕ) → later ≡ cond (list_any (eqb number) met) met (met ++ number ∷ []) → InsertsOne number met later
inserted number met later e = by_test (list_any (eqb number) met) refl e
  where
    by_test : (b : Bool) → list_any (eqb number) met ≡ b → later ≡ cond b met (met ++ number ∷ []) → InsertsOne number met later
    by_test true t f = record {
      grows = ([], f ∙ sym (append-nil met));
      has = subst (λ (xs : List ℕ). Has xs number) (sym f) (any_has met number t);
      only = λ m h. inl (subst (λ (xs : List ℕ). Has xs m) f h);
      distinct = λ d. subst AreDistinct (sym f) d;
    }
    by_test false t f = record {
      grows = (number ∷ [], f);
      has = subst (λ (xs : List ℕ). Has xs number) (sym f) (has_end met number);
      only = λ m h. has_last met number m (subst (λ (xs : List ℕ). Has xs m) f h);
      distinct = λ d. subst AreDistinct (sym f) (distinct_end met number d (not_any met number t));
    }

pub noted_more : (ws met mid later : List ℕ) (i number : ℕ) → NotedSoFar ws met mid i → i < length ws → get_or ws i 0 ≡ number → InsertsOne number mid later → NotedSoFar ws met later (i + 1)
noted_more ws met mid later i number s within e o = record {
  grows = grows_on met mid later s.grows o.grows;
  all = λ j m l g. elim (cases_lt j i) as (λ _. Has later m) [
    | inl before ↦ still_has mid later m o.grows (s.all j m before g)
    | inr at ↦ (let q : j ≡ i = omega arith in subst (Has later) (same j m q g) o.has)
  ];
  only = λ m h. elim (o.only m h) as (λ _. Has met m ⊎ Has ws m) [
    | inl k ↦ s.only m k
    | inr q ↦ inr (subst (Has ws) (e ∙ q) (has_got ws i (get_or ws i 0) (slice_get-get_or ws i 0 within)))
  ];
  distinct = λ d. o.distinct (s.distinct d);
}
  where
    same : (j m : ℕ) → j ≡ i → slice_get ws j ≡ Some m → number ≡ m
    same j m q g = let x : Some number ≡ Some m = sym (slice_get-get_or ws i 0 within ∙ ap Some e) ∙ (ap (slice_get ws) (sym q) ∙ g) in cc

pub noted_all : (ns ws met later : List ℕ) (i : ℕ) → ws ≡ ns → NotedSoFar ws met later i → length ws ≤ i → NotesAll ns met later
noted_all ns ws met later i e s past = subst (λ (xs : List ℕ). NotesAll xs met later) e (record {
  grows = s.grows;
  all = λ m h. (let r = got_has ws m h in s.all r.0 m (let w = slice_get_within ws r.0 m r.1 in omega arith) r.1);
  only = s.only;
  distinct = s.distinct;
})

module _ (waits : ℕ → List ℕ) where
  -- all to which waits lead is below the count
  led_below : (count n m : ℕ) → AreBelow waits count → n < count → Reaches waits n m → m < count
  led_below count n m below l stays = l
  led_below count n m below l (waits_on {m = i} w r) = led_below count i m below (below n i w) r

  pub few_led : (start count : ℕ) (met : List ℕ) → AreDistinct met → ((n : ℕ) → Has met n → Reaches waits start n) → AreBelow waits count → start < count → length met ≤ count
  few_led start count met d led below first = fits met count d (λ q h. led_below count start q below first (led q h))

  -- the start alone
  pub led_first : (start : ℕ) (met : List ℕ) → met ≡ start ∷ [] → (n : ℕ) → Has met n → Reaches waits start n
  led_first start met e n h = elim (subst (λ (xs : List ℕ). Has xs n) e h) as (λ _. Reaches waits start n) [ inl s ↦ subst (Reaches waits start) s stays | inr z ↦ absurd z ]

  -- what one of them waits for
  pub led_more : (start number : ℕ) (met later : List ℕ) → ((n : ℕ) → Has met n → Reaches waits start n) → Has met number → NotesAll (waits number) met later → (n : ℕ) → Has later n → Reaches waits start n
  led_more start number met later led h notes n k = elim (notes.only n k) as (λ _. Reaches waits start n) [
    | inl i ↦ led n i
    | inr w ↦ leads_end waits start number n (led number h) w
  ]

  -- where all that was met was followed, it is all
  pub all_met : (start head : ℕ) (met : List ℕ) → slice_get met 0 ≡ Some start → AreDistinct met → ((n : ℕ) → Has met n → Reaches waits start n) → IsFollowed waits met head → length met ≤ head → AreAllFrom waits start met
  all_met start head met begun d led f past = record { all = λ n r. from start n (has_got met 0 start begun) r; only = led; distinct = d }
    where
      from : (n m : ℕ) → Has met n → Reaches waits n m → Has met m
      from n m h stays = h
      from n m h (waits_on {m = j} w r) = let i = got_has met n h in from j m (f i.0 n j (let l = slice_get_within met i.0 n i.1 in omega arith) i.1 w) r

-- a set that has its first number alone
pub first_alone : (start : ℕ) (met later : List ℕ) → met ≡ [] → later ≡ cond (list_any (eqb start) met) met (met ++ start ∷ []) → later ≡ start ∷ []
first_alone start met later z e = subst (λ (xs : List ℕ). later ≡ cond (list_any (eqb start) xs) xs (xs ++ start ∷ [])) z e

-- the number that a slice of the set has at an index
pub got_at : (met items : List ℕ) (i n : ℕ) → items ≡ met → i < length items → ((d : ℕ) → n ≡ get_or items i d) → slice_get met i ≡ Some n
got_at met items i n e within f = ap (λ xs. slice_get xs i) (sym e) ∙ (slice_get-get_or items i 0 within ∙ ap Some (sym (f 0)))

pub past_all : (met items : List ℕ) (i : ℕ) → items ≡ met → length items ≤ i → length met ≤ i
past_all met items i e l = subst (λ (xs : List ℕ). length xs ≤ i) e l
