-- Walks over the numbers of a table from tasks to those that ask for them, and the same by key.
use Rattle.std.proofs.Common.{◌≡◌, ◌<◌, ◌⊎◌, inl, inr, ℕ, suc, zero, Bool, true, false, cond, List, [], ◌∷◌, length, map, Option, Some, None, refl, sym, ap, ◌∙◌, subst, arith, slice_get}
use Rattle.std.specs.Map.{lookup, keys_of}
use Rattle.std.specs.List.{list_any}
use Rattle.std.proofs.lemmas.Option.{same_Some, none-some}
use Rattle.dice_key.specs.Lawful.{IsEquality}
use Rattle.dice_key.proofs.KeySets.{any_has, has_any, unequal}
use Rattle.lists.specs.Lists.{AreDistinct, Has}
use Rattle.lists.proofs.Members.{has_map, has_mapped}
use Rattle.number_walk.specs.Reach.{Reaches, stays, waits_on, AreBelow, AreAllFrom}
use Rattle.task_share.specs.Asked as asked
use Rattle.task_share.specs.Asked.{Tasked, Leads, asks_on}
use Rattle.task_share.specs.Seen.{Share, is_for, has_by, list_for, asks, waits_at, asked_of, IsMirrored}
use Rattle.task_share.specs.Numbers.{key_at, number_of, names_at, with_name}
use Rattle.task_share.specs.Above.{askers_by, AreAbove, AreCounted}
use Rattle.cycle_guard.proofs.WayLemmas.{within, has_got, has_name, named_first, first_at}

module _ {K T : Type 0} (eq : K → K → Bool) (law : IsEquality eq) (ps : List (K × Share K T)) (distinct : AreDistinct (keys_of ps)) (mirror : IsMirrored eq ps) where
  number_is : (n : ℕ) (k : K) → key_at ps n ≡ Some k → number_of eq ps k ≡ n
  number_is n k g = first_at eq law (keys_of ps) n k distinct g

  -- a key that has a place has a number
  numbered : (k : K) (p : Share K T) → lookup (eq k) ps ≡ Some p → key_at ps (number_of eq ps k) ≡ Some k
  numbered k p e = let r = at ps e in ap (key_at ps) (number_is r.0 k r.1) ∙ r.1
    where
      at : (qs : List (K × Share K T)) → lookup (eq k) qs ≡ Some p → (n : ℕ) × (slice_get (keys_of qs) n ≡ Some k)
      at [] e = absurd (none-some p e)
      at (q ∷ qs) e = by_test (at qs) (eq k q.0) refl
        where
          by_test : (lookup (eq k) qs ≡ Some p → (n : ℕ) × (slice_get (keys_of qs) n ≡ Some k)) → (b : Bool) → eq k q.0 ≡ b → (n : ℕ) × (slice_get (keys_of (q ∷ qs)) n ≡ Some k)
          by_test f true t = (zero, ap Some (sym (law.same k q.0 t)))
          by_test f false t = let r = f (sym (ap (λ b. cond b (Some q.1) (lookup (eq k) qs)) t) ∙ e) in (suc r.0, r.1)

  -- so has one whose task asks for another
  asker_numbered : (d j : K) → asks eq ps d (Tasked j) ≡ true → key_at ps (number_of eq ps j) ≡ Some j
  asker_numbered d j a = by_place (lookup (eq j) ps) refl
    where
      by_place : (o : Option (Share K T)) → lookup (eq j) ps ≡ o → key_at ps (number_of eq ps j) ≡ Some j
      by_place None e = let z : list_any (eq d) [] ≡ true = ap (λ (o : Option (Share K T)). list_any (eq d) (list_for (λ (p : Share K T). p.waits) o)) (sym e) ∙ (sym (mirror d j) ∙ a) in cc
      by_place (Some p) e = numbered j p e

  -- the place of a number
  place_by : (n : ℕ) (k : K) → key_at ps n ≡ Some k → (e : K × Share K T) × (slice_get ps n ≡ Some e) × (lookup (eq k) ps ≡ Some e.1)
  place_by n k g = go ps n distinct g
    where
      go : (qs : List (K × Share K T)) (n : ℕ) → AreDistinct (keys_of qs) → slice_get (keys_of qs) n ≡ Some k → (e : K × Share K T) × (slice_get qs n ≡ Some e) × (lookup (eq k) qs ≡ Some e.1)
      go [] n d g = absurd (none-some k g)
      go (q ∷ qs) zero d g = let t : eq k q.0 ≡ true = ap (eq k) (same_Some q.0 k g) ∙ law.itself k in (q, refl, ap (λ b. cond b (Some q.1) (lookup (eq k) qs)) t)
      go (q ∷ qs) (suc n) d g =
          let r = go qs n d.1 g in
          let t : eq k q.0 ≡ false = unequal eq law k q.0 (λ e. d.0 (subst (Has (keys_of qs)) e (has_got (keys_of qs) n k g))) in
          (r.0, r.1, ap (λ b. cond b (Some q.1) (lookup (eq k) qs)) t ∙ r.2)

  -- who asks for the key of a number, by number and by key
  asker_by : (n m : ℕ) (k : K) → key_at ps n ≡ Some k → Has (askers_by eq ps n) m → (j : K) × (key_at ps m ≡ Some j) × (asks eq ps k (Tasked j) ≡ true)
  asker_by n m k g h =
      let p = place_by n k g in
      let r = has_mapped (number_of eq ps) p.0.1.askers m (subst (λ (o : Option (K × Share K T)). Has (list_for (λ (e : K × Share K T). map (number_of eq ps) e.1.askers) o) m) p.1 h) in
      let a : asks eq ps k (Tasked r.0) ≡ true = ap (is_for (λ (s : Share K T). has_by eq s (Tasked r.0))) p.2 ∙ has_any eq law p.0.1.askers r.0 r.1 in
      (r.0, ap (key_at ps) (sym r.2) ∙ asker_numbered k r.0 a, a)

  by_asker : (n : ℕ) (k j : K) → key_at ps n ≡ Some k → asks eq ps k (Tasked j) ≡ true → Has (askers_by eq ps n) (number_of eq ps j)
  by_asker n k j g a =
      let p = place_by n k g in
      let h = any_has eq law p.0.1.askers j (ap (is_for (λ (s : Share K T). has_by eq s (Tasked j))) (sym p.2) ∙ a) in
      subst (λ (o : Option (K × Share K T)). Has (list_for (λ (e : K × Share K T). map (number_of eq ps) e.1.askers) o) (number_of eq ps j)) (sym p.1) (has_map (number_of eq ps) p.0.1.askers j h)

  pub below : AreBelow (askers_by eq ps) (length ps)
  below n m h = by_place (slice_get ps n) refl
    where
      key_of : (qs : List (K × Share K T)) (i : ℕ) (e : K × Share K T) → slice_get qs i ≡ Some e → slice_get (keys_of qs) i ≡ Some e.0
      key_of [] i e g = absurd (none-some e g)
      key_of (q ∷ qs) zero e g = ap (λ (x : K × Share K T). Some x.0) (same_Some q e g)
      key_of (q ∷ qs) (suc i) e g = key_of qs i e g

      by_place : (o : Option (K × Share K T)) → slice_get ps n ≡ o → m < length ps
      by_place None e = absurd (subst (λ (o : Option (K × Share K T)). Has (list_for (λ (x : K × Share K T). map (number_of eq ps) x.1.askers) o) m) e h)
      by_place (Some e) g = let w = asker_by n m e.0 (key_of ps n e g) h in within ps m w.0 w.1

  -- a number to which the walk leads is that of a key from which asks lead
  key_led : (n m : ℕ) (k : K) → key_at ps n ≡ Some k → Reaches (askers_by eq ps) n m → (j : K) × (key_at ps m ≡ Some j) × Leads (asked_of eq ps) j k
  key_led n m k g stays = (k, g, asked.stays)
  key_led n m k g (waits_on {m = i} w r) =
      let d = asker_by n i k g w in
      let x = key_led i m d.0 d.1 r in
      (x.0, x.1, led_on x.0 d.0 k x.2 d.2)
    where
      led_on : (j i k : K) → Leads (asked_of eq ps) j i → asks eq ps k (Tasked i) ≡ true → Leads (asked_of eq ps) j k
      led_on j i k asked.stays a = asks_on a asked.stays
      led_on j i k (asks_on {i = d} b l) a = asks_on b (led_on d i k l a)

  reach_end : (n m i : ℕ) → Reaches (askers_by eq ps) n m → Has (askers_by eq ps m) i → Reaches (askers_by eq ps) n i
  reach_end n m i stays h = waits_on h stays
  reach_end n m i (waits_on {m = j} w r) h = waits_on w (reach_end j m i r h)

  -- and back
  led_number : (n : ℕ) (k j : K) → key_at ps n ≡ Some k → Leads (asked_of eq ps) j k → (m : ℕ) × (key_at ps m ≡ Some j) × Reaches (askers_by eq ps) n m
  led_number n k j g asked.stays = (n, g, stays)
  led_number n k j g (asks_on {i = d} a l) =
      let x = led_number n k d g l in
      let h = by_asker x.0 d j x.1 a in
      (number_of eq ps j, asker_numbered d j a, reach_end n x.0 (number_of eq ps j) x.2 h)

  -- the keys of these numbers
  name_of : (ns : List ℕ) (n : ℕ) (k : K) → Has ns n → key_at ps n ≡ Some k → Has (names_at (keys_of ps) ns) k
  name_of [] n k h g = h
  name_of (m ∷ ns) n k h g = by_name (slice_get (keys_of ps) m) refl (λ i. name_of ns n k i g) h
    where
      by_name : (o : Option K) → slice_get (keys_of ps) m ≡ o → (Has ns n → Has (names_at (keys_of ps) ns) k) → Has (m ∷ ns) n → Has (with_name o (names_at (keys_of ps) ns)) k
      by_name None e f (inl s) = absurd (none-some k (sym e ∙ (ap (key_at ps) s ∙ g)))
      by_name None e f (inr i) = f i
      by_name (Some x) e f (inl s) = inl (same_Some x k (sym e ∙ (ap (key_at ps) s ∙ g)))
      by_name (Some x) e f (inr i) = inr (f i)

  names_apart : (ns : List ℕ) → AreDistinct ns → AreDistinct (names_at (keys_of ps) ns)
  names_apart [] d = d
  names_apart (n ∷ ns) d = by_name (slice_get (keys_of ps) n) refl (names_apart ns d.1)
    where
      by_name : (o : Option K) → slice_get (keys_of ps) n ≡ o → AreDistinct (names_at (keys_of ps) ns) → AreDistinct (with_name o (names_at (keys_of ps) ns))
      by_name None e s = s
      by_name (Some k) e s = (λ h. (let r = has_name (keys_of ps) ns k h in d.0 (subst (Has ns) (sym (number_is r.0 k r.2) ∙ number_is n k e) r.1)), s)

  names_count : (ns : List ℕ) → ((n : ℕ) → Has ns n → (k : K) × (key_at ps n ≡ Some k)) → length (names_at (keys_of ps) ns) ≡ length ns
  names_count [] f = refl
  names_count (n ∷ ns) f = let r = f n (inl refl) in ap length (named_first (keys_of ps) n ns r.0 r.1) ∙ ap suc (names_count ns (λ m h. f m (inr h)))

  -- the keys of all numbers to which the walk leads
  pub counted : (start : ℕ) (k : K) (met : List ℕ) (count : ℕ) → key_at ps start ≡ Some k → AreAllFrom (askers_by eq ps) start met → count ≡ length met → AreCounted (asked_of eq ps) k count
  counted start k met count g a e = (
    names_at (keys_of ps) met,
    record {
      all = λ j l. (let r = led_number start k j g l in name_of met r.0 j (a.all r.0 r.2) r.1);
      only = λ j h. (let r = has_name (keys_of ps) met j h in let x = key_led start r.0 k g (a.only r.0 r.1) in subst (λ z. Leads (asked_of eq ps) z k) (same_Some x.0 j (sym x.1 ∙ r.2)) x.2);
      distinct = names_apart met a.distinct;
    },
    names_count met (λ n h. (let x = key_led start n k g (a.only n h) in (x.0, x.1))) ∙ sym e,
  )

  -- nobody asks for a key without a place
  pub alone : (k : K) → lookup (eq k) ps ≡ None → AreCounted (asked_of eq ps) k 1
  alone k none = (
    k ∷ [],
    record {
      all = λ j l. inl (sym (by_step j k l none));
      only = λ j h. elim h as (λ _. Leads (asked_of eq ps) j k) [ inl s ↦ subst (λ z. Leads (asked_of eq ps) z k) s asked.stays | inr z ↦ absurd z ];
      distinct = ((λ h. h), tt);
    },
    refl,
  )
    where
      ends : (i j k : K) → asks eq ps i (Tasked k) ≡ true → Leads (asked_of eq ps) i j → lookup (eq j) ps ≡ None → ⊥
      ends i j k a asked.stays e = let z : false ≡ true = ap (is_for (λ (p : Share K T). has_by eq p (Tasked k))) (sym e) ∙ a in cc
      ends i j k a (asks_on {i = d} b l) e = ends d j i b l e

      by_step : (j k : K) → Leads (asked_of eq ps) j k → lookup (eq k) ps ≡ None → j ≡ k
      by_step j k asked.stays e = refl
      by_step j k (asks_on {i = d} a l) e = absurd (ends d k j a l e)
