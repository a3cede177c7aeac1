-- One task after the other is woken, and what stays.
use Rattle.std.proofs.Common.{◌≡◌, inl, inr, Bool, true, false, cond, not, ◌&&◌, List, [], ◌∷◌, ◌++◌, map, Some, refl, sym, ap, ◌∙◌, subst, append_assoc}
use Rattle.std.proofs.lemmas.List.{map-append}
use Rattle.dice_key.specs.Lawful.{IsEquality}
use Rattle.task_share.specs.Asked.{By, Promised, Tasked, is_by}
use Rattle.task_share.specs.Seen.{Share, task_at, asks, KeepsTasks}
use Rattle.core_laws.specs.Tasks.{IsReady}
use Rattle.dice_tasks.specs.Helds.{Held, held_of}
use Rattle.dice_tasks.specs.Hands.{DeskSeen, KeepsDesk}
use Rattle.dice_tasks.specs.Endings.{AreTasked}
use Rattle.dice_tasks.specs.Waitings.{Wakes, WakesOne}
use Rattle.dice_steps.specs.Wokens.{WakesSo}
use Rattle.lists.proofs.Distinct.{distinct_right}
use Rattle.lists.specs.Lists.{AreDistinct, Has}
use Rattle.std.proofs.lemmas.Bool.{and_parts}

-- what is not taken away
not_for_key : (a b c : Bool) → b ≡ false → (a && not (b && c)) ≡ a
not_for_key true false c e = refl
not_for_key false false c e = refl
not_for_key a true c e = let x : true ≡ false = e in cc

not_by_task : (a b : Bool) → (a && not (b && false)) ≡ a
not_by_task true true = refl
not_by_task true false = refl
not_by_task false true = refl
not_by_task false false = refl

keeps_on : {K V : Type 0} (d e f : DeskSeen K V) → KeepsDesk d e → KeepsDesk e f → KeepsDesk d f
keeps_on d e f h i = record { events = i.events ∙ h.events; live = i.live ∙ h.live; ended = i.ended ∙ h.ended; spare = i.spare ∙ h.spare; live_room = i.live_room ∙ h.live_room }

place_in : {K V : Type 0} (zs : List (Wakes K V)) (x : Wakes K V) → Has zs x → Has (map (λ (z : Wakes K V). z.place.1) zs) x.place.1
place_in {K} {V} [] x h = h
place_in {K} {V} (z ∷ zs) x (inl q) = inl (ap (λ (t : Wakes K V). t.place.1) q)
place_in {K} {V} (z ∷ zs) x (inr h) = inr (place_in zs x h)

-- the one that comes next is none of those that came
pub next_is_new : {K V : Type 0} (xs ys all : List (Wakes K V)) (y : Wakes K V) → all ≡ xs ++ y ∷ ys → AreDistinct (map (λ (z : Wakes K V). z.place.1) all) → (z : Wakes K V) → Has ys z → z.place.1 ≡ y.place.1 → ⊥
next_is_new {K} {V} xs ys all y e d z h q =
    let parts = ap (map (λ (t : Wakes K V). t.place.1)) e ∙ map-append (λ (t : Wakes K V). t.place.1) xs (y ∷ ys) in
    (distinct_right (map (λ (t : Wakes K V). t.place.1) xs) (y.place.1 ∷ map (λ (t : Wakes K V). t.place.1) ys) (subst AreDistinct parts d)).0 (subst (λ i. Has (map (λ (t : Wakes K V). t.place.1) ys) i) q (place_in ys z h))

-- the last of what is to come becomes the first of what came
pub comes_next : {X : Type 0} (xs ys zs all : List X) (y : X) → all ≡ zs ++ ys → zs ≡ xs ++ y ∷ [] → all ≡ xs ++ y ∷ ys
comes_next xs ys zs all y e f = e ∙ (ap (λ z. z ++ ys) f ∙ append_assoc xs (y ∷ []) ys)

module _ {K V : Type 0} (eq : K → K → Bool) (equality : IsEquality eq) (k : K) where
  pub none_woken : (ps : List (K × Share K (Held K V))) (d : DeskSeen K V) → WakesSo eq k [] ps ps d d
  none_woken ps d = record {
    woken = λ y h. absurd h;
    others = λ q n. refl;
    live = λ q. refl;
    elsewhere = λ q a n. refl;
    promises = λ q n. refl;
    fewer = λ q a on. on;
    desk = record { events = refl; live = refl; ended = refl; spare = refl; live_room = refl };
  }

  -- if nothing is to come, all came
  pub all_came : (ys rest all : List (Wakes K V)) (ps qs : List (K × Share K (Held K V))) (d e : DeskSeen K V) → all ≡ rest ++ ys → rest ≡ [] → WakesSo eq k ys ps qs d e → WakesSo eq k all ps qs d e
  all_came ys rest all ps qs d e is none so = subst (λ zs. WakesSo eq k zs ps qs d e) (sym (is ∙ ap (λ zs. zs ++ ys) none)) so

  module _ (ys : List (Wakes K V)) (ps qs rs : List (K × Share K (Held K V))) (d e : DeskSeen K V) (so : WakesSo eq k ys ps qs d e) where
    -- one more is woken
    pub one_woken : (y : Wakes K V) (f : DeskSeen K V) → WakesOne eq k y qs rs e f → ((z : Wakes K V) → Has ys z → z.place.1 ≡ y.place.1 → ⊥) → WakesSo eq k (y ∷ ys) ps rs d f
    one_woken y f one new = record {
      woken = λ z h. elim h as (λ _. task_at eq rs z.place.1 ≡ Some (held_of z.ahead.job IsReady)) [
        | inl q ↦ subst (λ (t : Wakes K V). task_at eq rs t.place.1 ≡ Some (held_of t.ahead.job IsReady)) q (one.tasks y.place.1 ∙ ap (λ b. cond b (Some (held_of y.ahead.job IsReady)) (task_at eq qs y.place.1)) (equality.itself y.place.1))
        | inr i ↦ there z.place.1 (λ q. new z i (sym q)) ∙ so.woken z i
      ];
      others = λ q n. there q (λ i. n y (inl refl) i) ∙ so.others q (λ z h. n z (inr h));
      live = λ q. one.live q ∙ so.live q;
      elsewhere = λ q a n. one.asks q a ∙ (not_for_key (asks eq qs q a) (eq k q) (is_by eq (Tasked y.place.1) a) n ∙ so.elsewhere q a n);
      promises = λ q n. one.asks q (Promised n) ∙ (not_by_task (asks eq qs q (Promised n)) (eq k q) ∙ so.promises q n);
      fewer = λ q a on. so.fewer q a (and_parts (asks eq qs q a) (not (eq k q && is_by eq (Tasked y.place.1) a)) (sym (one.asks q a) ∙ on)).0;
      desk = keeps_on d e f so.desk one.desk.rest;
    }
      where
        there : (q : K) → (y.place.1 ≡ q → ⊥) → task_at eq rs q ≡ task_at eq qs q
        there q n = one.tasks q ∙ by_test (eq y.place.1 q) refl
          where
            by_test : (b : Bool) → eq y.place.1 q ≡ b → cond b (Some (held_of y.ahead.job IsReady)) (task_at eq qs q) ≡ task_at eq qs q
            by_test true i = absurd (n (equality.same y.place.1 q i))
            by_test false i = refl

    -- one that waits on asks for k no more
    pub one_told : (j : K) → KeepsTasks eq qs rs → ((q : K) (a : By K) → asks eq rs q a ≡ (asks eq qs q a && not (eq k q && is_by eq (Tasked j) a))) → WakesSo eq k ys ps rs d e
    one_told j kept left = record {
      woken = λ z h. kept.tasks z.place.1 ∙ so.woken z h;
      others = λ q n. kept.tasks q ∙ so.others q n;
      live = λ q. kept.live q ∙ so.live q;
      elsewhere = λ q a n. left q a ∙ (not_for_key (asks eq qs q a) (eq k q) (is_by eq (Tasked j) a) n ∙ so.elsewhere q a n);
      promises = λ q n. left q (Promised n) ∙ (not_by_task (asks eq qs q (Promised n)) (eq k q) ∙ so.promises q n);
      fewer = λ q a on. so.fewer q a (and_parts (asks eq qs q a) (not (eq k q && is_by eq (Tasked j) a)) (sym (left q a) ∙ on)).0;
      desk = so.desk;
    }

    -- the table may have other room
    pub same_woken : KeepsTasks eq qs rs → ((q : K) (a : By K) → asks eq rs q a ≡ asks eq qs q a) → WakesSo eq k ys ps rs d e
    same_woken kept same = record {
      woken = λ z h. kept.tasks z.place.1 ∙ so.woken z h;
      others = λ q n. kept.tasks q ∙ so.others q n;
      live = λ q. kept.live q ∙ so.live q;
      elsewhere = λ q a n. same q a ∙ so.elsewhere q a n;
      promises = λ q n. same q (Promised n) ∙ so.promises q n;
      fewer = λ q a on. so.fewer q a (sym (same q a) ∙ on);
      desk = so.desk;
    }

  -- ---- whoever is asked for has a task

  pub tasked_woken : (y : Wakes K V) (ps qs : List (K × Share K (Held K V))) (d e : DeskSeen K V) → WakesOne eq k y ps qs d e → AreTasked eq ps → AreTasked eq qs
  tasked_woken y ps qs d e one tasked q b on =
      let r = tasked q b (and_parts (asks eq ps q b) (not (eq k q && is_by eq (Tasked y.place.1) b)) (sym (one.asks q b) ∙ on)).0 in
      by_test r.0 r.1 (eq y.place.1 q) (one.tasks q)
    where
      by_test : (h : Held K V) → task_at eq ps q ≡ Some h → (c : Bool) → task_at eq qs q ≡ cond c (Some (held_of y.ahead.job IsReady)) (task_at eq ps q) → (r : Held K V) × (task_at eq qs q ≡ Some r)
      by_test h i true t = (held_of y.ahead.job IsReady, t)
      by_test h i false t = (h, t ∙ i)

  pub tasked_told : (j : K) (ps qs : List (K × Share K (Held K V))) → KeepsTasks eq ps qs → ((q : K) (a : By K) → asks eq qs q a ≡ (asks eq ps q a && not (eq k q && is_by eq (Tasked j) a))) → AreTasked eq ps → AreTasked eq qs
  tasked_told j ps qs kept left tasked q b on =
      let r = tasked q b (and_parts (asks eq ps q b) (not (eq k q && is_by eq (Tasked j) b)) (sym (left q b) ∙ on)).0 in
      (r.0, kept.tasks q ∙ r.1)
