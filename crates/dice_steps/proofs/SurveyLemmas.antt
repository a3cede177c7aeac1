-- One key of a batch after the other is looked at.
use Rattle.std.proofs.Common.{◌≡◌, ◌⊎◌, inl, inr, ◌<◌, ◌+◌, ℕ, zero, suc, Bool, true, false, cond, ◌&&◌, ◌||◌, List, [], ◌∷◌, ◌++◌, length, map, take, drop, get_or, refl, sym, ap, ◌∙◌, subst, arith}
use Rattle.std.specs.Prelude.{MatchBool}
use Rattle.std.specs.Arc.{arc_value}
use Rattle.std.specs.declared.sync.Arc.{Arc}
use Rattle.std.specs.List.{list_any}
use Rattle.dice_key.specs.Meaning.{Meaning}
use Rattle.dice_key.specs.Lawful.{IsEquality}
use Rattle.dice_key.specs.declared.universe.Kind.TheVariants.{Injected}
use Rattle.task_share.specs.Asked.{Leads}
use Rattle.task_share.specs.Seen.{Share, asked_of}
use Rattle.versioned_graph.specs.Entries.{Stored}
use Rattle.core_laws.proofs.Shapes.{not_both}
use Rattle.dice_tasks.specs.Helds.{Held}
use Rattle.dice_steps.specs.Orders.{AreInOrder}
use Rattle.dice_steps.specs.Plans.{key_in, IsPart, AreParts}
use Rattle.dice_steps.specs.Taken.{MayWaitFor}
use Rattle.dice_steps.specs.declared.plan.Part.{Part}
use Rattle.dice_steps.proofs.NotedLemmas.{AreSeen, seen_more}
use Rattle.dice_steps.proofs.OrderLemmas.{order_skip, order_more}
use Rattle.dice_steps.proofs.PartLemmas.{map_last, keys_next, parts_skip, parts_more}
use Rattle.dice_key.proofs.KeySets.{any_has, has_any}
use Rattle.lists.proofs.Members.{has_map, has_mapped}
use Rattle.lists.specs.Lists.{Has}

-- what stands at an index is in the list
pub get_has : {X : Type 0} (xs : List X) (i : ℕ) (x : X) → i < length xs → x ≡ get_or xs i x → Has xs x
get_has [] i x l e = absurd (omega arith)
get_has (y ∷ xs) zero x l e = inl (sym e)
get_has (y ∷ xs) (suc i) x l e = inr (get_has xs i x (omega arith) e)

-- whether one of those that are left passes a test
module _ {X Y : Type 0} (test : Y → Bool) (f : X → Y) where
  left_next : (xs : List X) (i : ℕ) (x : X) → i < length xs → x ≡ get_or xs i x → list_any test (map f (drop i xs)) ≡ (test (f x) || list_any test (map f (drop (suc i) xs)))
  left_next [] i x l e = absurd (omega arith)
  left_next (y ∷ xs) zero x l e = λ j. test (f (sym e j)) || list_any test (map f xs)
  left_next (y ∷ xs) (suc i) x l e = left_next xs i x (omega arith) e

  pub left_first : (xs : List X) (i : ℕ) (x : X) → i < length xs → x ≡ get_or xs i x → list_any test (map f (drop i xs)) ≡ (test (f x) || list_any test (map f (drop (i + 1) xs)))
  left_first xs i x l e =
      let next : suc i ≡ i + 1 = omega arith in
      subst (λ n. list_any test (map f (drop i xs)) ≡ (test (f x) || list_any test (map f (drop n xs)))) next (left_next xs i x l e)

-- a key is among these, or it is new; and it is not of a kind that passes
pub among_or_new : {K : Type 0} (eq : K → K → Bool) (equality : IsEquality eq) (I : Type 0) (ks : List K) (k : K) → (I → ⊥) → (b : Bool) → b ≡ list_any (eq k) ks → MatchBool b (I ⊎ Has ks k) ((I → ⊥) × (Has ks k → ⊥))
among_or_new eq equality I ks k n true e = inr (any_has eq equality ks k (sym e))
among_or_new eq equality I ks k n false e = (n, λ h. not_both (has_any eq equality ks k h) (sym e))

-- a key of a batch, with those before it and those after it
pub batch_at : {K A : Type 0} (items : List (Arc K A)) (i : ℕ) (x : Arc K A) → i < length items → x ≡ get_or items i x → (later : List K) × (map arc_value items ≡ map arc_value (take i items) ++ arc_value x ∷ later)
batch_at [] i x l e = absurd (omega arith)
batch_at (y ∷ ys) zero x l e = (map arc_value ys, ap (λ z. arc_value z ∷ map arc_value ys) (sym e))
batch_at (y ∷ ys) (suc i) x l e = let r = batch_at ys i x (omega arith) e in (r.0, ap (λ z. arc_value y ∷ z) r.1)

module _ {K A : Type 0} (eq : K → K → Bool) (equality : IsEquality eq) where
  -- a key of a batch
  pub key_of_batch : (items : List (Arc K A)) (ks : List K) (i : ℕ) (x : Arc K A) → map arc_value items ≡ ks → i < length items → x ≡ get_or items i x → Has ks (arc_value x)
  key_of_batch items ks i x all l e = subst (λ z. Has z (arc_value x)) all (has_map arc_value items x (get_has items i x l e))

  module _ (old new : List (Arc K A)) (ks : List K) (k : K) (seen : AreSeen eq old ks) where
    -- no key was noted
    pub seen_same : (b : Bool) → b ≡ false → ((q : K) → list_any (λ a. eq q (arc_value a)) new ≡ ((b && eq k q) || list_any (λ a. eq q (arc_value a)) old)) → AreSeen eq new ks
    seen_same b off h q = h q ∙ (ap (λ c. (c && eq k q) || list_any (λ a. eq q (arc_value a)) old) off ∙ seen q)

    -- a key was noted
    pub seen_new : (b : Bool) → b ≡ true → ((q : K) → list_any (λ a. eq q (arc_value a)) new ≡ ((b && eq k q) || list_any (λ a. eq q (arc_value a)) old)) → AreSeen eq new (ks ++ k ∷ [])
    seen_new b on h = seen_more eq equality old new ks k seen (λ q. h q ∙ (ap (λ c. (c && eq k q) || list_any (λ a. eq q (arc_value a)) old) on ∙ by_or (eq k q) (list_any (λ a. eq q (arc_value a)) old)))
      where
        by_or : (x y : Bool) → (x || y) ≡ cond x true y
        by_or true y = refl
        by_or false y = refl

    -- a key that was seen is one of these, and one that was not is none
    pub seen_has : list_any (λ a. eq k (arc_value a)) old ≡ true → Has ks k
    seen_has e = any_has eq equality ks k (sym (seen k) ∙ e)

    pub unseen : list_any (λ a. eq k (arc_value a)) old ≡ false → Has ks k → ⊥
    unseen e h = not_both (has_any eq equality ks k h) (sym (seen k) ∙ e)

module _ {U K V R A : Type 0} (eq : K → K → Bool) (equality : IsEquality eq) (m : Meaning K V) (v born : ℕ) (ps : List (K × Share K (Held K V))) (es : List (K × Stored K V)) (k : K) (items : List (Arc K A)) (i : ℕ) (x : Arc K A) (l : i < length items) (e : x ≡ get_or items i x) (xs : List (Part U K V R)) (so_far : AreParts eq m v born ps es k (map arc_value (take i items)) xs) where
  -- those that were looked at come to no cycle
  pub comes_to_none : (q : K) → Has (map arc_value (take i items)) q → (m.kind q ≡ Injected) ⊎ MayWaitFor eq ps k q
  comes_to_none q h = elim (so_far.all q h) as (λ _. (m.kind q ≡ Injected) ⊎ MayWaitFor eq ps k q) [
    | inl j ↦ inl j
    | inr r ↦ inr (subst (MayWaitFor eq ps k) r.2 (record { apart = so_far.apart r.0 r.1; whole = (so_far.each r.0 r.1).whole }))
  ]

  pub skips : (m.kind (arc_value x) ≡ Injected) ⊎ Has (map key_in xs) (arc_value x) → AreParts eq m v born ps es k (map arc_value (take (i + 1) items)) xs
  skips known = subst (λ z. AreParts eq m v born ps es k z xs) (sym (keys_next items i x l e)) (parts_skip eq m v born ps es k (map arc_value (take i items)) (arc_value x) xs so_far known)

  pub adds : (p : Part U K V R) → key_in p ≡ arc_value x → IsPart eq m v born ps es p → (Leads (asked_of eq ps) (arc_value x) k → ⊥) → (Has (map key_in xs) (arc_value x) → ⊥) → AreParts eq m v born ps es k (map arc_value (take (i + 1) items)) (xs ++ p ∷ [])
  adds p is part apart new =
      subst (λ z. AreParts eq m v born ps es k z (xs ++ p ∷ [])) (sym (keys_next items i x l e))
      (subst (λ z. AreParts eq m v born ps es k (map arc_value (take i items) ++ z ∷ []) (xs ++ p ∷ [])) is
      (parts_more eq m v born ps es k (map arc_value (take i items)) xs p so_far part (subst (λ z. Leads (asked_of eq ps) z k → ⊥) (sym is) apart) (subst (λ z. Has (map key_in xs) z → ⊥) (sym is) new)))

  -- and the parts stay in the order of their keys
  pub skips_on : AreInOrder (map arc_value (take i items)) (map key_in xs) → AreInOrder (map arc_value (take (i + 1) items)) (map key_in xs)
  skips_on h = subst (λ z. AreInOrder z (map key_in xs)) (sym (keys_next items i x l e)) (order_skip (map arc_value (take i items)) (map key_in xs) (arc_value x) h)

  pub adds_on : (p : Part U K V R) → key_in p ≡ arc_value x → (m.kind (arc_value x) ≡ Injected → ⊥) → (Has (map key_in xs) (arc_value x) → ⊥) → AreInOrder (map arc_value (take i items)) (map key_in xs) → AreInOrder (map arc_value (take (i + 1) items)) (map key_in (xs ++ p ∷ []))
  adds_on p is computed new h =
      subst (λ z. AreInOrder z (map key_in (xs ++ p ∷ []))) (sym (keys_next items i x l e))
      (subst (AreInOrder (map arc_value (take i items) ++ arc_value x ∷ [])) (sym (map_last key_in xs p))
      (subst (λ z. AreInOrder (map arc_value (take i items) ++ arc_value x ∷ []) (map key_in xs ++ z ∷ [])) (sym is)
      (order_more (map arc_value (take i items)) (map key_in xs) (arc_value x) h among unlisted)))
    where
      among : (q : K) → Has (map key_in xs) q → Has (map arc_value (take i items)) q
      among q j = let r = has_mapped key_in xs q j in subst (Has (map arc_value (take i items))) r.2 (so_far.among r.0 r.1)

      unlisted : Has (map arc_value (take i items)) (arc_value x) → ⊥
      unlisted j = elim (so_far.all (arc_value x) j) as (λ _. ⊥) [ inl n ↦ computed n | inr r ↦ new (subst (Has (map key_in xs)) r.2 (has_map key_in xs r.0 r.1)) ]
