-- Waits are added, in room made ahead.
use Rattle.std.proofs.Common.{◌≡◌, ◌≤◌, ◌<◌, ◌⊎◌, inl, inr, ◌+◌, ℕ, Bool, true, false, cond, ◌&&◌, ◌||◌, List, [], ◌∷◌, ◌++◌, length, refl, sym, ap, ◌∙◌, subst, arith, length-append}
use Rattle.std.proofs.lemmas.List.Folds.{list_any-append}
use Rattle.dice_key.specs.Lawful.{IsEquality}
use Rattle.dice_jobs.specs.Jobs.{Waits}
use Rattle.task_share.specs.Asked.{By, Tasked, WaitOf, is_by}
use Rattle.task_share.specs.Seen.{Share, asks, asker_room, wait_room, KeepsTasks, KeepsAsks, KeepsRoom, UsesRoomOf}
use Rattle.core_laws.specs.Tasks.{IsOut, IsWaiting}
use Rattle.dice_tasks.specs.Helds.{Held, held_of}
use Rattle.dice_tasks.specs.Hands.{DeskSeen, Leaves}
use Rattle.dice_tasks.specs.Waitings.{IsTurned, HasRoomFor, waits_so, ParksJob}
use Rattle.lists.proofs.Members.{has_left, has_right}
use Rattle.lists.specs.Lists.{Has}
use Rattle.std.proofs.lemmas.Bool.{or_right}

or_moved : (a b c : Bool) → ((a || b) || c) ≡ (a || (c || (b || false)))
or_moved true b c = refl
or_moved false true true = refl
or_moved false true false = refl
or_moved false false true = refl
or_moved false false false = refl

one_at_most : (b : Bool) → cond b 1 0 ≤ 1
one_at_most true = omega arith
one_at_most false = omega arith

module _ {K V : Type 0} (eq : K → K → Bool) (equality : IsEquality eq) where
  -- the room is there if asks and room are as before
  pub room_same : (xs : List (WaitOf K)) (ps qs : List (K × Share K (Held K V))) → HasRoomFor eq xs ps → KeepsAsks eq ps qs → KeepsRoom eq ps qs → HasRoomFor eq xs qs
  room_same xs ps qs h asked room = record {
    alike = h.alike;
    askers = λ x i. elim (h.askers x i) as (λ _. (asks eq qs x.key (Tasked x.asker) ≡ true) ⊎ (0 < asker_room eq qs x.key)) [
      | inl a ↦ inl (asked x.key (Tasked x.asker) ∙ a)
      | inr n ↦ inr (let r = room.askers x.key in omega arith)
    ];
    waits = λ x i. (let n = h.waits x i in let r = room.waits x.asker in omega arith);
  }

  module _ (xs ys : List (WaitOf K)) (x : WaitOf K) (split : ys ≡ xs ++ x ∷ []) (ps : List (K × Share K (Held K V))) (room : HasRoomFor eq ys ps) where
    last_there : Has ys x
    last_there = subst (λ z. Has z x) (sym split) (has_right xs (x ∷ []) x (inl refl))

    one_more : length ys ≡ length xs + 1
    one_more = ap length split ∙ length-append xs (x ∷ [])

    pub fits_asker : (asks eq ps x.key (Tasked x.asker) ≡ true) ⊎ (0 < asker_room eq ps x.key)
    fits_asker = room.askers x last_there

    pub fits_wait : (asks eq ps x.key (Tasked x.asker) ≡ true) ⊎ (0 < wait_room eq ps x.asker)
    fits_wait = inr (let n = room.waits x last_there in let l = one_more in omega arith)

    module _ (qs : List (K × Share K (Held K V))) (asked : (q : K) (a : By K) → asks eq qs q a ≡ (asks eq ps q a || (eq x.key q && is_by eq (Tasked x.asker) a))) where
      -- room for the other waits is left
      pub room_more : UsesRoomOf eq (λ q. 0) (λ q. cond (eq x.key q) 1 0) (λ q. cond (eq x.asker q) 1 0) ps qs → HasRoomFor eq xs qs
      room_more uses = record {
        alike = λ y z i j. room.alike y z (still y i) (still z j);
        askers = λ y i. elim (room.askers y (still y i)) as (λ _. (asks eq qs y.key (Tasked y.asker) ≡ true) ⊎ (0 < asker_room eq qs y.key)) [
          | inl a ↦ inl (asked y.key (Tasked y.asker) ∙ ap (λ b. b || (eq x.key y.key && eq x.asker y.asker)) a)
          | inr n ↦ by_test y i n (eq x.key y.key) refl
        ];
        waits = λ y i. (let n = room.waits y (still y i) in let l = one_more in let r = uses.waits y.asker in let c = one_at_most (eq x.asker y.asker) in omega arith);
      }
        where
          still : (y : WaitOf K) → Has xs y → Has ys y
          still y i = subst (λ z. Has z y) (sym split) (has_left xs (x ∷ []) y i)

          by_test : (y : WaitOf K) → Has xs y → 0 < asker_room eq ps y.key → (b : Bool) → eq x.key y.key ≡ b → (asks eq qs y.key (Tasked y.asker) ≡ true) ⊎ (0 < asker_room eq qs y.key)
          by_test y i n true e =
              let s : eq x.asker y.asker ≡ true = subst (λ z. eq x.asker z ≡ true) (room.alike x y last_there (still y i)) (equality.itself x.asker) in
              inl (asked y.key (Tasked y.asker) ∙ or_right (asks eq ps y.key (Tasked y.asker)) (eq x.key y.key && eq x.asker y.asker) (ap (λ c. c && eq x.asker y.asker) e ∙ s))
          by_test y i n false e =
              let r : asker_room eq ps y.key ≤ asker_room eq qs y.key + 0 = subst (λ c. asker_room eq ps y.key ≤ asker_room eq qs y.key + cond c 1 0) e (uses.askers y.key) in
              inr (omega arith)

      -- the asks with the waits that are to come
      pub asks_more : (q : K) (a : By K) (b : Bool) → (asks eq ps q a || waits_so eq ys q a) ≡ b → (asks eq qs q a || waits_so eq xs q a) ≡ b
      asks_more q a b h =
          let t : waits_so eq ys q a ≡ (waits_so eq xs q a || ((eq x.key q && is_by eq (Tasked x.asker) a) || false)) = ap (λ z. waits_so eq z q a) split ∙ list_any-append (λ y. eq y.key q && is_by eq (Tasked y.asker) a) xs (x ∷ []) in
          ap (λ z. z || waits_so eq xs q a) (asked q a) ∙ (or_moved (asks eq ps q a) (eq x.key q && is_by eq (Tasked x.asker) a) (waits_so eq xs q a) ∙ (ap (λ z. asks eq ps q a || z) (sym t) ∙ h))

  -- no wait is to come
  pub asks_none : (xs : List (WaitOf K)) (qs : List (K × Share K (Held K V))) (q : K) (a : By K) (b : Bool) → xs ≡ [] → (asks eq qs q a || waits_so eq xs q a) ≡ b → asks eq qs q a ≡ b
  asks_none xs qs q a b e h = by_or (asks eq qs q a) ∙ (ap (λ z. asks eq qs q a || waits_so eq z q a) (sym e) ∙ h)
    where
      by_or : (c : Bool) → c ≡ (c || false)
      by_or true = refl
      by_or false = refl

  -- the task was written as waiting, and its waits were added
  pub parks_so : (v : ℕ) (k : K) (p : Waits K V) (xs : List (WaitOf K)) (ps rs qs : List (K × Share K (Held K V))) (d e : DeskSeen K V) → IsTurned eq k (held_of p.job IsOut) (held_of p.job (IsWaiting p.keys)) ps rs → KeepsTasks eq rs qs
      → ((q : K) (a : By K) → asks eq qs q a ≡ (asks eq rs q a || waits_so eq xs q a)) → Leaves (v, k) d e → ParksJob eq v k p xs ps qs d e
  parks_so v k p xs ps rs qs d e turned tasks asked leaves = record {
    was = turned.was;
    tasks = λ q. tasks.tasks q ∙ turned.tasks q;
    live = λ q. tasks.live q ∙ turned.live q;
    asks = λ q a. asked q a ∙ ap (λ b. b || waits_so eq xs q a) (turned.asks q a);
    desk = leaves;
  }
