-- The parts of a batch: one after the other, turned round, and over a table in which nothing but room has changed.
use Rattle.std.proofs.Common.{◌≡◌, ◌⊎◌, inl, inr, ◌<◌, ◌+◌, ℕ, Bool, true, false, cond, List, [], ◌∷◌, ◌++◌, length, map, filter, reverse, take, get_or, Option, refl, sym, ap, ◌∙◌, subst}
use Rattle.std.specs.Arc.{arc_value}
use Rattle.std.specs.declared.sync.Arc.{Arc}
use Rattle.std.specs.List.{AllZip}
use Rattle.std.specs.Option.{option_map}
use Rattle.std.proofs.lemmas.List.{map-append, take_more}
use Rattle.dice_key.specs.Meaning.{Meaning}
use Rattle.dice_key.specs.declared.universe.Kind.TheVariants.{Injected}
use Rattle.task_share.specs.Asked.{WaitOf, Leads}
use Rattle.task_share.specs.Seen.{Share, asked_of, KeepsTasks, KeepsAsks}
use Rattle.versioned_graph.specs.Entries.{Stored}
use Rattle.core_laws.specs.Tasks.{value_of}
use Rattle.dice_tasks.specs.CyclePaths.{path_with}
use Rattle.dice_tasks.specs.Helds.{Held, task_of}
use Rattle.dice_tasks.specs.Makings.{IsFree, HasTask, IsMaking}
use Rattle.dice_steps.specs.Plans.{key_in, wait_for, waits_of, is_awaited, IsPart, AreParts, IsAtHand}
use Rattle.dice_tasks.specs.declared.making.Making.{Making}
use Rattle.dice_tasks.specs.declared.making.Making.TheVariants.{Join, Match, Run, Check}
use Rattle.dice_steps.specs.declared.plan.Part.{Part}
use Rattle.dice_tasks.proofs.EndsLemmas.{same_asked}
use Rattle.lists.proofs.Distinct.{distinct_end}
use Rattle.lists.proofs.Members.{has_end, has_last, has_map, has_mapped, has_more, has_reverse, reverse_has, reverse_more}
use Rattle.lists.specs.Lists.{AreDistinct, Has}

module _ {X Y : Type 0} (f : X → Y) where
  pub map_last : (xs : List X) (x : X) → map f (xs ++ x ∷ []) ≡ map f xs ++ f x ∷ []
  map_last xs x = map-append f xs (x ∷ [])

  pub distinct_turned : (xs : List X) → AreDistinct (map f xs) → AreDistinct (map f (reverse xs))
  distinct_turned [] d = d
  distinct_turned (x ∷ xs) d =
      subst AreDistinct (sym (ap (map f) (reverse_more x xs) ∙ map_last (reverse xs) x))
      (distinct_end (map f (reverse xs)) (f x) (distinct_turned xs d.1)
      (λ h. (let r = has_mapped f (reverse xs) (f x) h in d.0 (subst (λ y. Has (map f xs) y) r.2 (has_map f xs r.0 (has_reverse xs r.0 r.1))))))

-- of two lists place by place
module _ {A B : Type 0} (P : A → B → Type 0) where
  pub zip_on : (Q : A → B → Type 0) → ((x : A) (y : B) → P x y → Q x y) → (xs : List A) (ys : List B) → AllZip P xs ys → AllZip Q xs ys
  zip_on Q f [] [] z = tt
  zip_on Q f [] (b ∷ ys) z = absurd z
  zip_on Q f (a ∷ xs) [] z = absurd z
  zip_on Q f (a ∷ xs) (b ∷ ys) z = (f a b z.0, zip_on Q f xs ys z.1)

-- one more of the keys that a slice points to
pub keys_next : {K A : Type 0} (items : List (Arc K A)) (i : ℕ) (x : Arc K A) → i < length items → x ≡ get_or items i x → map arc_value (take (i + 1) items) ≡ map arc_value (take i items) ++ arc_value x ∷ []
keys_next items i x l e = ap (map arc_value) (take_more items i x l ∙ ap (λ z. take i items ++ z ∷ []) (sym e)) ∙ map-append arc_value (take i items) (x ∷ [])

module _ {U K V R : Type 0} (eq : K → K → Bool) (m : Meaning K V) (v born : ℕ) (ps : List (K × Share K (Held K V))) (es : List (K × Stored K V)) (k : K) where
  pub parts_none : AreParts {U = U} {R = R} eq m v born ps es k [] []
  parts_none = record { each = λ p h. absurd h; among = λ p h. absurd h; apart = λ p h. absurd h; distinct = tt; all = λ q h. absurd h }

  -- a key that is injected, or has its part already
  pub parts_skip : (ks : List K) (q : K) (xs : List (Part U K V R)) → AreParts eq m v born ps es k ks xs → (m.kind q ≡ Injected) ⊎ Has (map key_in xs) q → AreParts eq m v born ps es k (ks ++ q ∷ []) xs
  parts_skip ks q xs h known = record {
    each = h.each;
    among = λ p i. has_more ks q (key_in p) (h.among p i);
    apart = h.apart;
    distinct = h.distinct;
    all = λ j i. elim (has_last ks q j i) as (λ _. (m.kind j ≡ Injected) ⊎ ((p : Part U K V R) × Has xs p × (key_in p ≡ j))) [
      | inl o ↦ h.all j o
      | inr e ↦ subst (λ z. (m.kind z ≡ Injected) ⊎ ((p : Part U K V R) × Has xs p × (key_in p ≡ z))) e (elim known as (λ _. (m.kind q ≡ Injected) ⊎ ((p : Part U K V R) × Has xs p × (key_in p ≡ q))) [ inl n ↦ inl n | inr n ↦ inr (has_mapped key_in xs q n) ])
    ];
  }

  -- one more part
  pub parts_more : (ks : List K) (xs : List (Part U K V R)) (p : Part U K V R) → AreParts eq m v born ps es k ks xs → IsPart eq m v born ps es p → (Leads (asked_of eq ps) (key_in p) k → ⊥) → (Has (map key_in xs) (key_in p) → ⊥) → AreParts eq m v born ps es k (ks ++ key_in p ∷ []) (xs ++ p ∷ [])
  parts_more ks xs p h part apart new = record {
    each = λ x i. elim (has_last xs p x i) as (λ _. IsPart eq m v born ps es x) [ inl o ↦ h.each x o | inr e ↦ subst (λ (z : Part U K V R). IsPart eq m v born ps es z) e part ];
    among = λ x i. elim (has_last xs p x i) as (λ _. Has (ks ++ key_in p ∷ []) (key_in x)) [
      | inl o ↦ has_more ks (key_in p) (key_in x) (h.among x o)
      | inr e ↦ subst (λ (z : Part U K V R). Has (ks ++ key_in p ∷ []) (key_in z)) e (has_end ks (key_in p))
    ];
    apart = λ x i. elim (has_last xs p x i) as (λ _. Leads (asked_of eq ps) (key_in x) k → ⊥) [ inl o ↦ h.apart x o | inr e ↦ subst (λ (z : Part U K V R). Leads (asked_of eq ps) (key_in z) k → ⊥) e apart ];
    distinct = subst AreDistinct (sym (map_last key_in xs p)) (distinct_end (map key_in xs) (key_in p) h.distinct new);
    all = λ j i. elim (has_last ks (key_in p) j i) as (λ _. (m.kind j ≡ Injected) ⊎ ((x : Part U K V R) × Has (xs ++ p ∷ []) x × (key_in x ≡ j))) [
      | inl o ↦ elim (h.all j o) as (λ _. (m.kind j ≡ Injected) ⊎ ((x : Part U K V R) × Has (xs ++ p ∷ []) x × (key_in x ≡ j))) [ inl n ↦ inl n | inr r ↦ inr (r.0, has_more xs p r.0 r.1, r.2) ]
      | inr e ↦ inr (p, has_end xs p, e)
    ];
  }

  pub parts_turned : (ks : List K) (xs : List (Part U K V R)) → AreParts eq m v born ps es k ks xs → AreParts eq m v born ps es k ks (reverse xs)
  parts_turned ks xs h = record {
    each = λ p i. h.each p (has_reverse xs p i);
    among = λ p i. h.among p (has_reverse xs p i);
    apart = λ p i. h.apart p (has_reverse xs p i);
    distinct = distinct_turned key_in xs h.distinct;
    all = λ q i. elim (h.all q i) as (λ _. (m.kind q ≡ Injected) ⊎ ((p : Part U K V R) × Has (reverse xs) p × (key_in p ≡ q))) [ inl n ↦ inl n | inr r ↦ inr (r.0, reverse_has xs r.0 r.1, r.2) ];
  }

-- ---- over another table with the same tasks and asks

module _ {U K V R : Type 0} (eq : K → K → Bool) (ps qs : List (K × Share K (Held K V))) (tasks : KeepsTasks eq ps qs) where
  pub awaited_same : (q : K) (p : Making U K V R) → is_awaited eq qs q p ≡ is_awaited eq ps q p
  awaited_same q Join = tasks.live q
  awaited_same q (Match event base task) = refl
  awaited_same q (Run event cause ready task) = refl
  awaited_same q (Check ready task) = refl

  module _ (m : Meaning K V) (v : ℕ) (q : K) (born : ℕ) (es : List (K × Stored K V)) where
    making_same : (p : Making U K V R) → IsMaking eq m v q born ps es p → IsMaking eq m v q born qs es p
    making_same Join i = subst HasTask (sym (tasks.tasks q)) i
    making_same (Match event base task) i = (subst IsFree (sym (tasks.tasks q)) i.0, i.1)
    making_same (Run event cause ready task) i = (subst IsFree (sym (tasks.tasks q)) i.0, i.1)
    making_same (Check ready task) i = (subst IsFree (sym (tasks.tasks q)) i.0, i.1)

  module _ (m : Meaning K V) (v born : ℕ) (es : List (K × Stored K V)) where
    pub part_same : (p : Part U K V R) → IsPart eq m v born ps es p → IsPart eq m v born qs es p
    part_same p h = record {
      computed = h.computed;
      whole = ap path_with (tasks.tasks (key_in p)) ∙ h.whole;
      making = making_same m v (key_in p) born es p.making h.making;
      own = h.own;
      awaited = h.awaited ∙ sym (awaited_same (key_in p) p.making);
    }

    module _ (asked : KeepsAsks eq ps qs) where
      pub parts_same : (k : K) (ks : List K) (xs : List (Part U K V R)) → AreParts eq m v born ps es k ks xs → AreParts eq m v born qs es k ks xs
      parts_same k ks xs h = record {
        each = λ p i. part_same p (h.each p i);
        among = h.among;
        apart = λ p i l. h.apart p i (subst (λ s. Leads s (key_in p) k) (same_asked eq ps qs tasks asked) l);
        distinct = h.distinct;
        all = h.all;
      }

module _ {K V : Type 0} (eq : K → K → Bool) (ps qs : List (K × Share K (Held K V))) (tasks : KeepsTasks eq ps qs) where
  pub at_hand_same : (m : Meaning K V) (v : ℕ) (es : List (K × Stored K V)) (s : _) (q : K) (x : V) → IsAtHand eq m v qs es s q x → IsAtHand eq m v ps es s q x
  at_hand_same m v es s q x (inl h) = inl h
  at_hand_same m v es s q x (inr (inl h)) = inr (inl (ap (λ (o : Option (Held K V)). value_of (option_map task_of o)) (sym (tasks.tasks q)) ∙ h))
  at_hand_same m v es s q x (inr (inr h)) = inr (inr (h.0, h.1, h.2, ap (λ (o : Option (Held K V)). value_of (option_map task_of o)) (sym (tasks.tasks q)) ∙ h.3))

module _ {U K V R : Type 0} (k : K) where
  -- the waits for those that are waited for
  pub wait_there : (xs : List (Part U K V R)) (p : Part U K V R) → Has xs p → p.awaited ≡ true → Has (waits_of k xs) (wait_for k p)
  wait_there [] p h on = h
  wait_there (x ∷ xs) p (inl e) on = by_test x.awaited refl
    where
      by_test : (b : Bool) → x.awaited ≡ b → Has (map (wait_for k) (cond b (x ∷ filter (λ (p : Part U K V R). p.awaited) xs) (filter (λ (p : Part U K V R). p.awaited) xs))) (wait_for k p)
      by_test true i = inl (ap (wait_for k) e)
      by_test false i = absurd (let c : false ≡ true = sym i ∙ (ap (λ (y : Part U K V R). y.awaited) e ∙ on) in cc)
  wait_there (x ∷ xs) p (inr h) on = by_test x.awaited (wait_there xs p h on)
    where
      by_test : (b : Bool) → Has (waits_of k xs) (wait_for k p) → Has (map (wait_for k) (cond b (x ∷ filter (λ (p : Part U K V R). p.awaited) xs) (filter (λ (p : Part U K V R). p.awaited) xs))) (wait_for k p)
      by_test true i = inr i
      by_test false i = i

  pub there_waits : (xs : List (Part U K V R)) (w : WaitOf K) → Has (waits_of k xs) w → (p : Part U K V R) × Has xs p × (p.awaited ≡ true) × (w ≡ wait_for k p)
  there_waits [] w h = absurd h
  there_waits (x ∷ xs) w h = by_test (λ g. there_waits xs w g) x.awaited refl h
    where
      by_test : (Has (waits_of k xs) w → (p : Part U K V R) × Has xs p × (p.awaited ≡ true) × (w ≡ wait_for k p)) → (b : Bool) → x.awaited ≡ b → Has (map (wait_for k) (cond b (x ∷ filter (λ (p : Part U K V R). p.awaited) xs) (filter (λ (p : Part U K V R). p.awaited) xs))) w
          → (p : Part U K V R) × Has (x ∷ xs) p × (p.awaited ≡ true) × (w ≡ wait_for k p)
      by_test again true i (inl e) = (x, inl refl, i, sym e)
      by_test again true i (inr g) = let r = again g in (r.0, inr r.1, r.2, r.3)
      by_test again false i g = let r = again g in (r.0, inr r.1, r.2, r.3)
