-- Tasks go on when the last key that they waited for has a value, and all others that asked for it wait on.
use Rattle.std.proofs.Common.{◌≡◌, ◌≤◌, ◌⊎◌, inl, inr, ◌+◌, ◌*◌, ℕ, Bool, true, false, cond, not, ◌&&◌, eqb, List, [], ◌∷◌, ◌++◌, length, map, reverse, Option, Some, refl, sym, ap, ◌∙◌, subst, arith, length-append}
use Rattle.std.proofs.lemmas.Bool.{eq-eqb, and_parts}
use Rattle.std.proofs.lemmas.List.{map-append}
use Rattle.std.specs.Option.{option_map}
use Rattle.dice_key.specs.Lawful.{IsEquality, IsLawful}
use Rattle.dice_key.specs.Meaning.{Meaning}
use Rattle.dice_jobs.specs.Jobs.{Assigned, answered_more}
use Rattle.task_share.specs.Asked.{By, Tasked, is_by}
use Rattle.task_share.specs.Seen.{Share, task_at, asks, asked_of, KeepsTasks, KeepsAsks}
use Rattle.journal.specs.declared.event.Told.{Told}
use Rattle.core_laws.specs.Tasks.{IsReady, IsWaiting, Task, value_of}
use Rattle.core_laws.specs.Desk.{World, DeskTurns, Stand, AreAll, with_version, is_ready, is_out}
use Rattle.core_laws.proofs.StepsWaits.{released_ready_stand, released_on_stand, told_stand}
use Rattle.dice_tasks.specs.Helds.{Held, FollowsOn, task_of, held_of}
use Rattle.dice_tasks.specs.Hands.{DeskSeen, desk_of, tasks_of, seen_world, Readies, Working}
use Rattle.dice_tasks.specs.Waitings.{IsTurned, Wakes, WakesOne, IsWoken, MayWake, WaitsOn}
use Rattle.dice_tasks.proofs.EndsLemmas.{puts_of, same_tasks, same_table}
use Rattle.dice_tasks.proofs.WaitLemmas.{works_on}
use Rattle.lists.proofs.Distinct.{apart, distinct_left}
use Rattle.lists.proofs.Members.{has_last, has_left, has_right}
use Rattle.lists.specs.Lists.{AreDistinct, Has}

-- the asks of the one that is taken away, if it asked for this key alone
none_other : (a b c : Bool) → (a ≡ true → b ≡ true) → c ≡ true → (a && not (b && c)) ≡ false
none_other true true true f e = refl
none_other true false c f e = let x : false ≡ true = f refl in cc
none_other false b c f e = refl
none_other true true false f e = let x : false ≡ true = e in cc

-- an ask that is not taken away
still_asked : (a b c : Bool) → a ≡ true → b ≡ false → (a && not (b && c)) ≡ true
still_asked true false c e f = refl
still_asked true true c e f = let x : true ≡ false = f in cc
still_asked false b c e f = let x : false ≡ true = e in cc

module _ {K V : Type 0} where
  -- the keys of tasks that go on
  place_there : (zs : List (Wakes K V)) (x : Wakes K V) → Has zs x → Has (map (λ (z : Wakes K V). z.place.1) zs) x.place.1
  place_there [] x h = h
  place_there (z ∷ zs) x (inl q) = inl (ap (λ (t : Wakes K V). t.place.1) q)
  place_there (z ∷ zs) x (inr h) = inr (place_there zs x h)

module _ {K V : Type 0} (eq : K → K → Bool) (equality : IsEquality eq) where
  -- the task was written as ready after its ask was taken away
  pub wakes_so : (k : K) (y : Wakes K V) (h : Held K V) (ps rs qs : List (K × Share K (Held K V))) (d e : DeskSeen K V) → KeepsTasks eq ps rs → ((q : K) (a : By K) → asks eq rs q a ≡ (asks eq ps q a && not (eq k q && is_by eq (Tasked y.place.1) a)))
      → IsTurned eq y.place.1 h (held_of y.ahead.job IsReady) rs qs → Readies y.place d e → WakesOne eq k y ps qs d e
  wakes_so k y h ps rs qs d e kept left turned readies = record {
    tasks = λ q. turned.tasks q ∙ ap (λ (z : Option (Held K V)). cond (eq y.place.1 q) (Some (held_of y.ahead.job IsReady)) z) (kept.tasks q);
    live = λ q. turned.live q ∙ kept.live q;
    asks = λ q a. turned.asks q a ∙ left q a;
    desk = readies;
  }

  -- the task still waits if an ask was taken away
  pub waits_still : (y z : Wakes K V) → z ≡ y → (ps rs : List (K × Share K (Held K V))) → KeepsTasks eq ps rs → (h : Held K V) × (task_at eq ps y.place.1 ≡ Some h) × FollowsOn h y.ahead → (h : Held K V) × (task_at eq rs z.place.1 ≡ Some h) × FollowsOn h z.ahead
  waits_still y z e ps rs kept r = subst (λ (x : Wakes K V). (h : Held K V) × (task_at eq rs x.place.1 ≡ Some h) × FollowsOn h x.ahead) (sym e) (r.0, kept.tasks y.place.1 ∙ r.1, r.2)

  module _ (m : Meaning K V) (law : IsLawful m) (k : K) (y : Wakes K V) (ps qs : List (K × Share K (Held K V))) (d e : DeskSeen K V) (one : WakesOne eq k y ps qs d e) where
    wakes_here : (u : ℕ) → IsWoken eq m (reverse d.events) u k y ps → (W : List K) (w : World K V) (owed : ℕ) → Working eq m y.place.0 W w owed ps d → Working eq m y.place.0 W w owed qs e
    wakes_here u i W w owed work =
        works_on eq equality m v j (held_of a (IsWaiting ks)) (held_of b IsReady) ps qs was tasks one.live refl d e false false refl refl one.desk.out one.desk.rest.events W W w owed owed work
        (released_ready_stand eq equality m law (reverse d.events) v w W (asked_of eq ps) (asked_of eq qs) (tasks_of eq ps) (tasks_of eq qs) k j (task_of (held_of a (IsWaiting ks))) a.work a.answered ks y.ahead.values (desk_of d) (desk_of e) owed owed work.stand
        one.asks one.live none there refl i.truly (puts_of eq j (Some (held_of b IsReady)) ps qs tasks) turns room)
      where
        v : ℕ
        v = y.place.0

        j : K
        j = y.place.1

        a : Assigned K V
        a = i.follows.waits.job

        ks : List K
        ks = i.follows.waits.keys

        b : Assigned K V
        b = answered_more a ks y.ahead.values

        was : task_at eq ps j ≡ Some (held_of a (IsWaiting ks))
        was = i.was ∙ ap Some i.follows.held

        there : tasks_of eq ps j ≡ Some (task_of (held_of a (IsWaiting ks)))
        there = ap (option_map task_of) was

        tasks : (q : K) → task_at eq qs q ≡ cond (eq j q) (Some (held_of b IsReady)) (task_at eq ps q)
        tasks q = one.tasks q ∙ ap (λ (z : Assigned K V). cond (eq j q) (Some (held_of z IsReady)) (task_at eq ps q)) i.follows.job

        none : (q : K) → asks eq qs q (Tasked j) ≡ false
        none q = one.asks q (Tasked j) ∙ none_other (asks eq ps q (Tasked j)) (eq k q) (eq j j) (i.only q) (equality.itself j)

        turns : DeskTurns v j (tasks_of eq ps j) (Some (task_of (held_of b IsReady))) (desk_of d) (desk_of e)
        turns = subst (λ (z : Option (Task K V)). DeskTurns v j z (Some (task_of (held_of b IsReady))) (desk_of d) (desk_of e)) (sym there) (record { ready = one.desk.ready; out = one.desk.count; live = one.desk.rest.live })

        room : 2 * e.live + owed ≤ e.spare
        room = let n = work.stand.room in let l = one.desk.rest.live in let s = one.desk.rest.spare in omega arith

    pub wakes_on : (v : ℕ) → IsWoken eq m (reverse d.events) v k y ps → (W : List K) (w : World K V) (owed : ℕ) → Working eq m v W w owed ps d → Working eq m v W w owed qs e
    wakes_on v i W w owed work = subst (λ z. Working eq m z W w owed qs e) i.version (wakes_here v i W w owed (subst (λ z. Working eq m z W w owed ps d) (sym i.version) work))

    -- what is still to be woken
    pub wakes_rest : (R : List (Told K V)) (v : ℕ) (xs ys : List (Wakes K V)) → ys ≡ xs ++ y ∷ [] → MayWake eq m R v k ys ps → MayWake eq m R v k xs qs
    wakes_rest R v xs ys split may = record {
      each = λ x h. (let i = may.each x (still x h) in record {
        version = i.version;
        held = i.held;
        was = one.tasks x.place.1 ∙ (ap (λ c. cond c (Some (held_of y.ahead.job IsReady)) (task_at eq ps x.place.1)) (other x h) ∙ i.was);
        follows = i.follows;
        only = λ q on. i.only q (and_parts (asks eq ps q (Tasked x.place.1)) (not (eq k q && eq y.place.1 x.place.1)) (sym (one.asks q (Tasked x.place.1)) ∙ on)).0;
        truly = i.truly;
      });
      distinct = distinct_left (map (λ (z : Wakes K V). z.place.1) xs) (y.place.1 ∷ []) apart_all;
      others = others;
      value = (may.value.0, kept_value ∙ may.value.1);
    }
      where
        last : Has ys y
        last = subst (λ z. Has z y) (sym split) (has_right xs (y ∷ []) y (inl refl))

        still : (x : Wakes K V) → Has xs x → Has ys x
        still x h = subst (λ z. Has z x) (sym split) (has_left xs (y ∷ []) x h)

        apart_all : AreDistinct (map (λ (z : Wakes K V). z.place.1) xs ++ y.place.1 ∷ [])
        apart_all = subst AreDistinct (ap (map (λ (z : Wakes K V). z.place.1)) split ∙ map-append (λ (z : Wakes K V). z.place.1) xs (y ∷ [])) may.distinct

        other : (x : Wakes K V) → Has xs x → eq y.place.1 x.place.1 ≡ false
        other x h = by_test (eq y.place.1 x.place.1) refl
          where
            by_test : (c : Bool) → eq y.place.1 x.place.1 ≡ c → c ≡ false
            by_test false q = refl
            by_test true q = absurd (apart (map (λ (z : Wakes K V). z.place.1) xs) (y.place.1 ∷ []) x.place.1 apart_all (place_there xs x h) (inl (equality.same y.place.1 x.place.1 q)))

        kept_value : value_of (tasks_of eq qs k) ≡ value_of (tasks_of eq ps k)
        kept_value = ap (λ (z : Option (Held K V)). value_of (option_map task_of z)) (one.tasks k) ∙ by_test (eq y.place.1 k) refl
          where
            by_test : (c : Bool) → eq y.place.1 k ≡ c → value_of (option_map task_of (cond c (Some (held_of y.ahead.job IsReady)) (task_at eq ps k))) ≡ value_of (tasks_of eq ps k)
            by_test false q = refl
            by_test true q =
                let i = may.each y last in
                let s : task_at eq ps k ≡ Some (held_of i.follows.waits.job (IsWaiting i.follows.waits.keys)) = subst (λ z. task_at eq ps z ≡ Some (held_of i.follows.waits.job (IsWaiting i.follows.waits.keys))) (equality.same y.place.1 k q) (i.was ∙ ap Some i.follows.held) in
                sym (ap (λ (z : Option (Held K V)). value_of (option_map task_of z)) s)

        others : (j : K) → asks eq qs k (Tasked j) ≡ true → ((x : Wakes K V) × Has xs x × (x.place.1 ≡ j)) ⊎ ((q : K) × (eq k q ≡ false) × (asks eq qs q (Tasked j) ≡ true))
        others j on = elim (may.others j b.0) as (λ _. ((x : Wakes K V) × Has xs x × (x.place.1 ≡ j)) ⊎ ((q : K) × (eq k q ≡ false) × (asks eq qs q (Tasked j) ≡ true))) [
          | inl x ↦ elim (has_last xs y x.0 (subst (λ z. Has z x.0) split x.1)) as (λ _. ((x : Wakes K V) × Has xs x × (x.place.1 ≡ j)) ⊎ ((q : K) × (eq k q ≡ false) × (asks eq qs q (Tasked j) ≡ true))) [
            | inl h ↦ inl (x.0, h, x.2)
            | inr s ↦ absurd (not_left (ap (λ (z : Wakes K V). z.place.1) s ∙ x.2))
          ]
          | inr r ↦ inr (r.0, r.1, one.asks r.0 (Tasked j) ∙ still_asked (asks eq ps r.0 (Tasked j)) (eq k r.0) (eq y.place.1 j) r.2 r.1)
        ]
          where
            b : (asks eq ps k (Tasked j) ≡ true) × (not (eq k k && eq y.place.1 j) ≡ true)
            b = and_parts (asks eq ps k (Tasked j)) (not (eq k k && eq y.place.1 j)) (sym (one.asks k (Tasked j)) ∙ on)

            not_left : y.place.1 ≡ j → ⊥
            not_left s =
                let t : eq y.place.1 j ≡ true = subst (λ z. eq y.place.1 z ≡ true) s (equality.itself y.place.1) in
                let f : not (eq k k && eq y.place.1 j) ≡ false = ap (λ c. not (c && eq y.place.1 j)) (equality.itself k) ∙ ap not t in
                let x : true ≡ false = sym b.1 ∙ f in cc

  -- ---- those who wait on

  module _ (m : Meaning K V) (law : IsLawful m) (k : K) (ps qs : List (K × Share K (Held K V))) (kept : KeepsTasks eq ps qs) where
    -- an asker that waits for another key too is taken away
    module _ (j : K) (left : (q : K) (a : By K) → asks eq qs q a ≡ (asks eq ps q a && not (eq k q && is_by eq (Tasked j) a))) where
      pub still_waits : WaitsOn eq k ps → WaitsOn eq k qs
      still_waits on = record {
        others = λ i h. (let b = and_parts (asks eq ps k (Tasked i)) (not (eq k k && eq j i)) (sym (left k (Tasked i)) ∙ h) in let r = on.others i b.0 in (r.0, r.1, left r.0 (Tasked i) ∙ still_asked (asks eq ps r.0 (Tasked i)) (eq k r.0) (eq j i) r.2 r.1));
        value = (on.value.0, ap (λ (z : Option (Held K V)). value_of (option_map task_of z)) (kept.tasks k) ∙ on.value.1);
      }

      pub released_so : (d : DeskSeen K V) (v : ℕ) (W : List K) (w : World K V) (owed : ℕ) → asks eq ps k (Tasked j) ≡ true → WaitsOn eq k ps → Working eq m v W w owed ps d → Working eq m v W w owed qs d
      released_so d v W w owed asked on work =
          let r = on.others j asked in
          let st = released_on_stand eq equality m law (reverse d.events) v w W (asked_of eq ps) (asked_of eq qs) (tasks_of eq ps) k j on.value.0 (desk_of d) (desk_of d) owed owed work.stand on.value.1 left kept.live r.0
          (left r.0 (Tasked j) ∙ still_asked (asks eq ps r.0 (Tasked j)) (eq k r.0) (eq j j) r.2 r.1) (record { ready = refl; out = refl; live = refl }) work.stand.room in record {
            stand = subst (λ (z : K → Option (Task K V)). Stand eq m (reverse d.events) v W (with_version v (asked_of eq qs) z w) (desk_of d) owed) (sym (same_tasks eq ps qs kept)) st;
            outs = subst (λ (z : K → Option (Task K V)). AreAll (λ (p : ℕ × K). is_out (cond (eqb p.0 v) z (w.tasks p.0) p.1)) d.out) (sym (same_tasks eq ps qs kept)) work.outs;
            named = λ q h there. work.named q h (sym (kept.tasks q) ∙ there);
            wanted = λ q on. work.wanted q (sym (kept.live q) ∙ on);
          }

    -- all who asked for k were told
    pub told_all : KeepsAsks eq ps qs → ((j : K) → asks eq ps k (Tasked j) ≡ false) → (d : DeskSeen K V) (v : ℕ) (W : List K) (w : World K V) (owed : ℕ) → Working eq m v (k ∷ W) w owed ps d → Working eq m v W w owed qs d
    told_all asked none d v W w owed work = record {
      stand = subst (λ (x : World K V). Stand eq m (reverse d.events) v W x (desk_of d) owed) (same_table eq v w ps qs kept asked)
          (told_stand eq equality m law (reverse d.events) v w W (asked_of eq ps) (tasks_of eq ps) k (desk_of d) (desk_of d) owed owed work.stand none (record { ready = refl; out = refl; live = refl }) work.stand.room);
      outs = subst (λ (x : World K V). AreAll (λ (p : ℕ × K). is_out (x.tasks p.0 p.1)) d.out) (same_table eq v w ps qs kept asked) work.outs;
      named = λ q h there. work.named q h (sym (kept.tasks q) ∙ there);
      wanted = λ q on. work.wanted q (sym (kept.live q) ∙ on);
    }

  -- if none is still to be woken, whoever asks waits on
  pub all_woken : (m : Meaning K V) (R : List (Told K V)) (v : ℕ) (k : K) (ps : List (K × Share K (Held K V))) (ys : List (Wakes K V)) → ys ≡ [] → MayWake eq m R v k ys ps → WaitsOn eq k ps
  all_woken m R v k ps ys e may = record {
    others = λ j on. elim (may.others j on) as (λ _. (q : K) × (eq k q ≡ false) × (asks eq ps q (Tasked j) ≡ true)) [
      | inl x ↦ absurd (subst (λ z. Has z x.0) e x.1)
      | inr r ↦ r
    ];
    value = may.value;
  }

  -- a task that waits is neither ready nor out
  pub not_at_hand : (m : Meaning K V) (v : ℕ) (k : K) (y : Wakes K V) (ps : List (K × Share K (Held K V))) (d : DeskSeen K V) → IsWoken eq m (reverse d.events) v k y ps → (W : List K) (w : World K V) (owed : ℕ) → Working eq m v W w owed ps d → (Has d.ready y.place → ⊥) × (Has d.out y.place → ⊥)
  not_at_hand m v k y ps d i W w owed work = (
    λ h. (let a = work.stand.ready.passes y.place h in let b = ap is_ready waits in let c : true ≡ false = sym a ∙ b in cc),
    λ h. (let a = work.outs.passes y.place h in let b = ap is_out waits in let c : true ≡ false = sym a ∙ b in cc),
  )
    where
      waits : (seen_world eq v ps w).tasks y.place.0 y.place.1 ≡ Some (task_of (held_of i.follows.waits.job (IsWaiting i.follows.waits.keys)))
      waits = ap (λ b. cond b (tasks_of eq ps) (w.tasks y.place.0) y.place.1) (eq-eqb y.place.0 v i.version) ∙ ap (option_map task_of) (i.was ∙ ap Some i.follows.held)

-- one fewer is to come
pub one_fewer : {X : Type 0} (xs ys : List X) (x : X) → ys ≡ xs ++ x ∷ [] → length ys ≡ length xs + 1
one_fewer xs ys x e = ap length e ∙ length-append xs (x ∷ [])

pub last_here : {X : Type 0} (xs ys : List X) (x : X) → ys ≡ xs ++ x ∷ [] → Has ys x
last_here xs ys x e = subst (λ z. Has z x) (sym e) (has_right xs (x ∷ []) x (inl refl))
