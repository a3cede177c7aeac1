-- Room that is made for one part after the other.
use Rattle.std.proofs.Common.{◌≡◌, ◌<◌, inl, inr, ℕ, Bool, true, false, cond, List, [], ◌∷◌, ◌++◌, map, filter, refl, ap, ◌∙◌, subst, arith}
use Rattle.std.specs.Prelude.{Option, Some, None}
use Rattle.std.specs.Map.{lookup}
use Rattle.task_share.specs.Seen.{Share, is_for, takes_task, room_in, number_for, has_place, asker_room, KeepsTasks, KeepsAsks, KeepsRoom}
use Rattle.dice_tasks.specs.Helds.{Held}
use Rattle.dice_steps.specs.Plans.{key_in, wait_for, waits_of, ArePlaced}
use Rattle.dice_steps.specs.declared.plan.Part.{Part}
use Rattle.lists.proofs.Members.{has_last}

module _ {K T : Type 0} (eq : K → K → Bool) (ps qs rs : List (K × Share K T)) where
  pub tasks_on : KeepsTasks eq ps qs → KeepsTasks eq qs rs → KeepsTasks eq ps rs
  tasks_on a b = record { tasks = λ q. b.tasks q ∙ a.tasks q; live = λ q. b.live q ∙ a.live q; count = b.count ∙ a.count }

  pub room_on : KeepsRoom eq ps qs → KeepsRoom eq qs rs → KeepsRoom eq ps rs
  room_on a b = record {
    places = λ q h. b.places q (a.places q h);
    promises = λ q. (let x = a.promises q in let y = b.promises q in omega arith);
    askers = λ q. (let x = a.askers q in let y = b.askers q in omega arith);
    waits = λ q. (let x = a.waits q in let y = b.waits q in omega arith);
    count = (let x = a.count in let y = b.count in omega arith);
  }

  pub asks_on : KeepsAsks eq ps qs → KeepsAsks eq qs rs → KeepsAsks eq ps rs
  asks_on a b = λ q x. b q x ∙ a q x

module _ {K T : Type 0} (eq : K → K → Bool) (ps : List (K × Share K T)) where
  pub room_same : KeepsRoom eq ps ps
  room_same = record { places = λ q h. h; promises = λ q. omega arith; askers = λ q. omega arith; waits = λ q. omega arith; count = omega arith }

module _ {U K V R : Type 0} (k : K) where
  -- the waits with one part more
  pub waits_more : (xs : List (Part U K V R)) (p : Part U K V R) → waits_of k (xs ++ p ∷ []) ≡ waits_of k xs ++ waits_of k (p ∷ [])
  waits_more [] p = refl
  waits_more (x ∷ xs) p = by_test x.awaited (waits_more xs p)
    where
      by_test : (b : Bool) → waits_of k (xs ++ p ∷ []) ≡ waits_of k xs ++ waits_of k (p ∷ [])
          → map (wait_for k) (cond b (x ∷ filter (λ (y : Part U K V R). y.awaited) (xs ++ p ∷ [])) (filter (λ (y : Part U K V R). y.awaited) (xs ++ p ∷ [])))
          ≡ map (wait_for k) (cond b (x ∷ filter (λ (y : Part U K V R). y.awaited) xs) (filter (λ (y : Part U K V R). y.awaited) xs)) ++ waits_of k (p ∷ [])
      by_test true e = ap (λ z. wait_for k x ∷ z) e
      by_test false e = e

  -- the wait of one part
  pub wait_one : (p : Part U K V R) (b : Bool) → p.awaited ≡ b → waits_of k (p ∷ []) ≡ cond b (wait_for k p ∷ []) []
  wait_one p b e = subst (λ c. map (wait_for k) (cond p.awaited (p ∷ []) []) ≡ cond c (wait_for k p ∷ []) []) e (by_test p.awaited)
    where
      by_test : (c : Bool) → map (wait_for k) (cond c (p ∷ []) []) ≡ cond c (wait_for k p ∷ []) []
      by_test true = refl
      by_test false = refl

module _ {U K V R : Type 0} (eq : K → K → Bool) (ps qs : List (K × Share K (Held K V))) (room : KeepsRoom eq ps qs) (xs : List (Part U K V R)) (h : ArePlaced eq xs ps) where
  pub placed_on : ArePlaced eq xs qs
  placed_on = record {
    places = λ p i. room.places (key_in p) (h.places p i);
    askers = λ p i on. (let a = h.askers p i on in let b = room.askers (key_in p) in omega arith);
  }

  pub placed_more : (p : Part U K V R) → has_place eq qs (key_in p) ≡ true → (p.awaited ≡ true → 0 < asker_room eq qs (key_in p)) → ArePlaced eq (xs ++ p ∷ []) qs
  placed_more p place asker = record {
    places = λ x i. elim (has_last xs p x i) as (λ _. has_place eq qs (key_in x) ≡ true) [ inl o ↦ placed_on.places x o | inr e ↦ subst (λ (z : Part U K V R). has_place eq qs (key_in z) ≡ true) e place ];
    askers = λ x i on. elim (has_last xs p x i) as (λ _. 0 < asker_room eq qs (key_in x)) [
      | inl o ↦ placed_on.askers x o on
      | inr e ↦ subst (λ (z : Part U K V R). 0 < asker_room eq qs (key_in z)) e (asker (ap (λ (z : Part U K V R). z.awaited) e ∙ on))
    ];
  }

module _ {K T : Type 0} (eq : K → K → Bool) (ps : List (K × Share K T)) (k : K) where
  -- if there is room for an asker there is a place
  pub place_of_asker : 0 < asker_room eq ps k → has_place eq ps k ≡ true
  place_of_asker h = by_share (lookup (eq k) ps) h
    where
      by_bool : (b : Bool) (m : ℕ) → 0 < cond b m 0 → b ≡ true
      by_bool true m n = refl
      by_bool false m n = absurd (omega arith)

      by_share : (o : Option (Share K T)) → 0 < number_for (room_in (λ (p : Share K T). p.asker_room)) o → is_for takes_task o ≡ true
      by_share None n = absurd (omega arith)
      by_share (Some x) n = by_bool (takes_task x) x.asker_room n
