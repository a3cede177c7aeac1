-- Walks over the numbers of a table, and the same by key.
use Rattle.std.proofs.Common.{◌≡◌, ◌<◌, ◌+◌, inl, inr, ℕ, suc, zero, Bool, true, false, not, cond, eqb, List, [], ◌∷◌, ◌++◌, length, map, take, Option, Some, None, refl, sym, ap, ◌∙◌, subst, arith, slice_get, slice_index_or as get_or}
use Rattle.std.specs.Map.{lookup, keys_of}
use Rattle.std.specs.List.{list_any, position_or_len}
use Rattle.std.proofs.lemmas.Option.{same_Some, none-some, slice_get_within}
use Rattle.std.proofs.lemmas.List.{take_more}
use Rattle.std.proofs.lemmas.Bool.{eqb-true}
use Rattle.dice_key.specs.Lawful.{IsEquality}
use Rattle.dice_key.proofs.KeySets.{any_has, has_any, unequal}
use Rattle.lists.specs.Lists.{AreDistinct, Has}
use Rattle.lists.proofs.Members.{has_map, has_mapped}
use Rattle.number_walk.specs.Reach.{Reaches, stays, waits_on, AreBelow, IsChain, IsWay}
use Rattle.task_share.specs.Asked as asked
use Rattle.task_share.specs.Asked.{Asked, Tasked, Leads, asks_on}
use Rattle.task_share.specs.Seen.{Share, is_for, has_by, list_for, asks, waits_at, asked_of, IsMirrored}
use Rattle.task_share.specs.Numbers.{key_at, number_of, waits_by, names_at, with_name, IsPlaceOf}
use Rattle.cycle_guard.specs.WaitCycle.{WouldWait, IsRound, IsSecond, IsWaitCycle}

module _ {K : Type 0} where
  pub has_got : (ks : List K) (n : ℕ) (k : K) → slice_get ks n ≡ Some k → Has ks k
  has_got [] n k g = absurd (none-some k g)
  has_got (x ∷ ks) zero k g = inl (same_Some x k g)
  has_got (x ∷ ks) (suc n) k g = inr (has_got ks n k g)

  -- a key that these numbers name
  pub has_name : (names : List K) (ns : List ℕ) (k : K) → Has (names_at names ns) k → (n : ℕ) × Has ns n × (slice_get names n ≡ Some k)
  has_name names [] k h = absurd h
  has_name names (m ∷ ns) k h = by_name (has_name names ns k) (slice_get names m) refl h
    where
      by_name : (Has (names_at names ns) k → (n : ℕ) × Has ns n × (slice_get names n ≡ Some k)) → (o : Option K) → slice_get names m ≡ o → Has (with_name o (names_at names ns)) k → (n : ℕ) × Has (m ∷ ns) n × (slice_get names n ≡ Some k)
      by_name f None e h = let r = f h in (r.0, inr r.1, r.2)
      by_name f (Some j) e (inl s) = (m, inl refl, e ∙ ap Some s)
      by_name f (Some j) e (inr h) = let r = f h in (r.0, inr r.1, r.2)

  pub named_first : (names : List K) (n : ℕ) (ns : List ℕ) (k : K) → slice_get names n ≡ Some k → names_at names (n ∷ ns) ≡ k ∷ names_at names ns
  named_first names n ns k e = ap (λ o. with_name o (names_at names ns)) e

module _ {K : Type 0} (names : List K) where
  names_append : (ns ms : List ℕ) → names_at names (ns ++ ms) ≡ names_at names ns ++ names_at names ms
  names_append [] ms = refl
  names_append (n ∷ ns) ms = ap (with_name (slice_get names n)) (names_append ns ms) ∙ by_name (slice_get names n)
    where
      by_name : (o : Option K) → with_name o (names_at names ns ++ names_at names ms) ≡ with_name o (names_at names ns) ++ names_at names ms
      by_name None = refl
      by_name (Some k) = refl

  -- the keys of one number more, after a first key
  pub next_named : (ns : List ℕ) (i n : ℕ) (first : K) (keys later : List K) → i < length ns → keys ≡ first ∷ names_at names (take i ns) → get_or ns i 0 ≡ n → later ≡ keys ++ with_name (slice_get names n) [] → later ≡ first ∷ names_at names (take (i + 1) ns)
  next_named ns i n first keys later below e f g =
      let t : names_at names (take (i + 1) ns) ≡ names_at names (take i ns) ++ names_at names (get_or ns i 0 ∷ []) = ap (names_at names) (take_more ns i 0 below) ∙ names_append (take i ns) (get_or ns i 0 ∷ []) in
      g ∙ (ap (λ ks. ks ++ with_name (slice_get names n) []) e ∙ (ap (λ m. first ∷ (names_at names (take i ns) ++ names_at names (m ∷ []))) (sym f) ∙ ap (λ ks. first ∷ ks) (sym t)))

pub some_key : {X K : Type 0} (f : X → K) (xs : List X) (k : K) (ks : List K) → map f xs ≡ k ∷ ks → 0 < length xs
some_key f [] k ks e = cc
some_key f (x ∷ xs) k ks e = let l : length (x ∷ xs) ≡ suc (length xs) = refl in omega arith

-- a number with a key is below the count of places
pub within : {K T : Type 0} (ps : List (K × Share K T)) (n : ℕ) (k : K) → key_at ps n ≡ Some k → n < length ps
within {K} {T} ps n k g = let l = slice_get_within (keys_of ps) n k g in let s = keys_long ps in omega arith
  where
    keys_long : (qs : List (K × Share K T)) → length (keys_of qs) ≡ length qs
    keys_long [] = refl
    keys_long (q ∷ qs) = ap suc (keys_long qs)

one_more : (n : ℕ) → 1 + n ≡ suc n
one_more n = omega arith

module _ {K : Type 0} (eq : K → K → Bool) (law : IsEquality eq) where
  pub apart_by : (a b : K) → eq a b ≡ false → a ≡ b → ⊥
  apart_by a b e f = let t : eq a b ≡ true = ap (eq a) (sym f) ∙ law.itself a in cc

  pub first_at : (ks : List K) (n : ℕ) (k : K) → AreDistinct ks → slice_get ks n ≡ Some k → position_or_len (eq k) ks ≡ n
  first_at [] n k d g = absurd (none-some k g)
  first_at (x ∷ ks) zero k d g = let t : eq k x ≡ true = ap (eq k) (same_Some x k g) ∙ law.itself k in ap (λ b. cond (not b) (1 + position_or_len (eq k) ks) 0) t
  first_at (x ∷ ks) (suc n) k d g =
      let t : eq k x ≡ false = unequal eq law k x (λ e. d.0 (subst (Has ks) e (has_got ks n k g))) in
      let r = first_at ks n k d.1 g in
      ap (λ b. cond (not b) (1 + position_or_len (eq k) ks) 0) t ∙ (one_more (position_or_len (eq k) ks) ∙ ap suc r)

module _ {K T : Type 0} (eq : K → K → Bool) (law : IsEquality eq) where
  pub apart_numbers : (ps : List (K × Share K T)) (from to : K) → eq from to ≡ false → (start goal : ℕ) → key_at ps start ≡ Some to → key_at ps goal ≡ Some from → start ≡ goal → ⊥
  apart_numbers ps from to e start goal s g f = apart_by eq law from to e (same_Some from to (sym g ∙ (ap (key_at ps) (sym f) ∙ s)))

  module _ (ps : List (K × Share K T)) where
    module _ (distinct : AreDistinct (keys_of ps)) (numbered : (k d : K) → list_any (eq d) (waits_at eq ps k) ≡ true → key_at ps (number_of eq ps d) ≡ Some d) (mirror : IsMirrored eq ps) where
      pub number_is : (n : ℕ) (k : K) → key_at ps n ≡ Some k → number_of eq ps k ≡ n
      number_is n k g = first_at eq law (keys_of ps) n k distinct g

      -- the place of a number
      place_by : (n : ℕ) (k : K) → key_at ps n ≡ Some k → (e : K × Share K T) × (slice_get ps n ≡ Some e) × (lookup (eq k) ps ≡ Some e.1)
      place_by n k g = go ps n distinct g
        where
          go : (qs : List (K × Share K T)) (n : ℕ) → AreDistinct (keys_of qs) → slice_get (keys_of qs) n ≡ Some k → (e : K × Share K T) × (slice_get qs n ≡ Some e) × (lookup (eq k) qs ≡ Some e.1)
          go [] n d g = absurd (none-some k g)
          go (q ∷ qs) zero d g = let t : eq k q.0 ≡ true = ap (eq k) (same_Some q.0 k g) ∙ law.itself k in (q, refl, ap (λ b. cond b (Some q.1) (lookup (eq k) qs)) t)
          go (q ∷ qs) (suc n) d g =
              let r = go qs n d.1 g in
              let t : eq k q.0 ≡ false = unequal eq law k q.0 (λ e. d.0 (subst (Has (keys_of qs)) e (has_got (keys_of qs) n k g))) in
              (r.0, r.1, ap (λ b. cond b (Some q.1) (lookup (eq k) qs)) t ∙ r.2)

      -- what a number waits for are the numbers of what its key waits for
      waits_there : (n : ℕ) (k : K) → key_at ps n ≡ Some k → waits_by eq ps n ≡ map (number_of eq ps) (waits_at eq ps k)
      waits_there n k g =
          let r = place_by n k g in
          ap (list_for (λ (e : K × Share K T). map (number_of eq ps) e.1.waits)) r.1 ∙ ap (map (number_of eq ps)) (ap (list_for (λ (p : Share K T). p.waits)) (sym r.2))

      -- a wait by number is an ask by key
      wait_by : (n m : ℕ) (k : K) → key_at ps n ≡ Some k → Has (waits_by eq ps n) m → (d : K) × (key_at ps m ≡ Some d) × (asks eq ps d (Tasked k) ≡ true)
      wait_by n m k g h =
          let r = has_mapped (number_of eq ps) (waits_at eq ps k) m (subst (λ (xs : List ℕ). Has xs m) (waits_there n k g) h) in
          let a = has_any eq law (waits_at eq ps k) r.0 r.1 in
          (r.0, ap (key_at ps) (sym r.2) ∙ numbered k r.0 a, mirror r.0 k ∙ a)

      ask_by : (n : ℕ) (k d : K) → key_at ps n ≡ Some k → asks eq ps d (Tasked k) ≡ true → Has (waits_by eq ps n) (number_of eq ps d) × (key_at ps (number_of eq ps d) ≡ Some d)
      ask_by n k d g a =
          let t = sym (mirror d k) ∙ a in
          let h = any_has eq law (waits_at eq ps k) d t in
          (subst (λ (xs : List ℕ). Has xs (number_of eq ps d)) (sym (waits_there n k g)) (has_map (number_of eq ps) (waits_at eq ps k) d h), numbered k d t)

      pub below : AreBelow (waits_by eq ps) (length ps)
      below n m h = by_place (slice_get ps n) refl h
        where
          key_of : (qs : List (K × Share K T)) (i : ℕ) (e : K × Share K T) → slice_get qs i ≡ Some e → slice_get (keys_of qs) i ≡ Some e.0
          key_of [] i e g = absurd (none-some e g)
          key_of (q ∷ qs) zero e g = ap (λ (x : K × Share K T). Some x.0) (same_Some q e g)
          key_of (q ∷ qs) (suc i) e g = key_of qs i e g

          by_place : (o : Option (K × Share K T)) → slice_get ps n ≡ o → Has (list_for (λ (e : K × Share K T). map (number_of eq ps) e.1.waits) o) m → m < length ps
          by_place None e h = absurd h
          by_place (Some e) g x =
              let w = wait_by n m e.0 (key_of ps n e g) (subst (λ (o : Option (K × Share K T)). Has (list_for (λ (e : K × Share K T). map (number_of eq ps) e.1.waits) o) m) (sym g) x) in
              within ps m w.0 w.1

      pub leads_by_key : (n m : ℕ) (k j : K) → key_at ps n ≡ Some k → key_at ps m ≡ Some j → Reaches (waits_by eq ps) n m → Leads (asked_of eq ps) k j
      leads_by_key n m k j g h stays = subst (Leads (asked_of eq ps) k) (same_Some k j (sym g ∙ h)) asked.stays
      leads_by_key n m k j g h (waits_on {m = i} w r) = let d = wait_by n i k g w in asks_on d.2 (leads_by_key i m d.0 j d.1 h r)

      pub leads_by_number : (n m : ℕ) (k j : K) → key_at ps n ≡ Some k → key_at ps m ≡ Some j → Leads (asked_of eq ps) k j → Reaches (waits_by eq ps) n m
      leads_by_number n m k j g h asked.stays = subst (Reaches (waits_by eq ps) n) (sym (number_is n k g) ∙ number_is m k h) stays
      leads_by_number n m k j g h (asks_on {i = d} a l) = let w = ask_by n k d g a in waits_on w.0 (leads_by_number (number_of eq ps d) m d j w.1 h l)

      -- a key that waits for nothing leads to itself alone
      pub no_leads : (k j : K) (n : ℕ) (ws : List ℕ) → key_at ps n ≡ Some k → ws ≡ waits_by eq ps n → eqb (length ws) 0 ≡ true → (k ≡ j → ⊥) → Leads (asked_of eq ps) k j → ⊥
      no_leads k j n ws g e z f asked.stays = f refl
      no_leads k j n ws g e z f (asks_on {i = d} a l) = none ws z (subst (λ (xs : List ℕ). Has xs (number_of eq ps d)) (sym e) (ask_by n k d g a).0)
        where
          none : (xs : List ℕ) → eqb (length xs) 0 ≡ true → Has xs (number_of eq ps d) → ⊥
          none [] z h = h
          none (x ∷ xs) z h = let y = eqb-true (length (x ∷ xs)) 0 z in let l : length (x ∷ xs) ≡ suc (length xs) = refl in omega arith

      module _ (from to : K) where
        round_of : (goal n : ℕ) (ns : List ℕ) (k : K) → key_at ps n ≡ Some k → key_at ps goal ≡ Some from → IsChain (waits_by eq ps) goal n ns → IsRound (WouldWait (asked_of eq ps) from to) from k (names_at (keys_of ps) ns)
        round_of goal n [] k g f c = let w = wait_by n goal k g c in inl (subst (λ d. asks eq ps d (Tasked k) ≡ true) (same_Some w.0 from (sym w.1 ∙ f)) w.2)
        round_of goal n (m ∷ ms) k g f c =
            let w = wait_by n m k g c.0 in
            subst (IsRound (WouldWait (asked_of eq ps) from to) from k) (sym (named_first (keys_of ps) m ms w.0 w.1)) (inl w.2, round_of goal m ms w.0 w.1 f c.1)

        apart : (ns : List ℕ) (n : ℕ) (k : K) → key_at ps n ≡ Some k → (Has ns n → ⊥) → Has (names_at (keys_of ps) ns) k → ⊥
        apart ns n k g f h = let r = has_name (keys_of ps) ns k h in f (subst (Has ns) (sym (number_is r.0 k r.2) ∙ number_is n k g) r.1)

        distinct_names : (ns : List ℕ) → AreDistinct ns → AreDistinct (names_at (keys_of ps) ns)
        distinct_names [] d = d
        distinct_names (n ∷ ns) d = by_name (slice_get (keys_of ps) n) refl (distinct_names ns d.1)
          where
            by_name : (o : Option K) → slice_get (keys_of ps) n ≡ o → AreDistinct (names_at (keys_of ps) ns) → AreDistinct (with_name o (names_at (keys_of ps) ns))
            by_name None e s = s
            by_name (Some k) e s = (apart ns n k e d.0, s)

        -- the keys of a way, after `from`, are a cycle
        pub cycle_of : (start goal : ℕ) (way : List ℕ) (path : List K) → key_at ps start ≡ Some to → key_at ps goal ≡ Some from → IsWay (waits_by eq ps) start goal way → path ≡ from ∷ names_at (keys_of ps) way → IsWaitCycle (asked_of eq ps) from to path
        cycle_of start goal way path s f w e =
            let names : names_at (keys_of ps) way ≡ to ∷ names_at (keys_of ps) w.rest = ap (names_at (keys_of ps)) w.begins ∙ named_first (keys_of ps) start w.rest to s in record {
              rest = names_at (keys_of ps) way;
              begins = e;
              second = subst (IsSecond from to) (sym names) refl;
              distinct = subst AreDistinct (sym e) (apart way goal from f w.apart, distinct_names way w.distinct);
              round = subst (IsRound (WouldWait (asked_of eq ps) from to) from from) (sym names) (inr (refl, refl), round_of goal start w.rest to s f w.chain);
            }

        -- `from` and `to` are one key
        pub own_cycle : from ≡ to → IsWaitCycle (asked_of eq ps) from to (from ∷ [])
        own_cycle e = record { rest = []; begins = refl; second = sym e; distinct = ((λ h. h), tt); round = inr (refl, e) }

        -- a key without a place waits for nothing, and nothing waits for it
        pub no_waiter : lookup (eq to) ps ≡ None → (from ≡ to → ⊥) → Leads (asked_of eq ps) to from → ⊥
        no_waiter none n l = by_step l (λ e. n (sym e))
          where
            by_step : {j : K} → Leads (asked_of eq ps) to j → (to ≡ j → ⊥) → ⊥
            by_step asked.stays f = f refl
            by_step (asks_on {i = i} a l) f = let t = sym (mirror i to) ∙ a in let z : list_any (eq i) [] ≡ true = ap (λ (o : Option (Share K T)). list_any (eq i) (list_for (λ (p : Share K T). p.waits) o)) (sym none) ∙ t in cc

        pub no_asked : lookup (eq from) ps ≡ None → (from ≡ to → ⊥) → Leads (asked_of eq ps) to from → ⊥
        no_asked none n l = by_step to from l none (λ e. n (sym e))
          where
            ends : (i j k : K) → asks eq ps i (Tasked k) ≡ true → Leads (asked_of eq ps) i j → lookup (eq j) ps ≡ None → ⊥
            ends i j k a asked.stays e = let z : false ≡ true = ap (is_for (λ (p : Share K T). has_by eq p (Tasked k))) (sym e) ∙ a in cc
            ends i j k a (asks_on {i = d} b l) e = ends d j i b l e

            by_step : (k j : K) → Leads (asked_of eq ps) k j → lookup (eq j) ps ≡ None → (k ≡ j → ⊥) → ⊥
            by_step k j asked.stays e f = f refl
            by_step k j (asks_on {i = d} a l) e f = ends d j k a l e

-- the number of a key that has a place
pub number_in : {K T : Type 0} (eq : K → K → Bool) (ps : List (K × Share K T)) (k : K) (place : Option ℕ) (n : ℕ) → place ≡ Some n → IsPlaceOf eq ps k place → key_at ps n ≡ Some k
number_in eq ps k place n is at = subst (IsPlaceOf eq ps k) is at
