-- The parts of a batch are made one after the other.
use Rattle.std.proofs.Common.{◌≡◌, ◌⊎◌, inl, inr, ◌≤◌, ◌+◌, ◌*◌, ℕ, Bool, true, false, cond, List, [], ◌∷◌, ◌++◌, length, map, reverse, Option, Some, None, refl, sym, ap, ◌∙◌, subst, arith, append_assoc, length-append}
use Rattle.std.specs.List.{AllByRecursion}
use Rattle.std.specs.Option.{option_map}
use Rattle.std.proofs.lemmas.List.{append-nil}
use Rattle.std.proofs.lemmas.Option.{none-some}
use Rattle.dice_key.specs.Meaning.{Meaning}
use Rattle.dice_key.specs.Lawful.{IsLawful, IsEquality}
use Rattle.dice_jobs.specs.Jobs.{Assigned}
use Rattle.task_share.specs.Seen.{Share, task_at, is_live, asks, asked_of, asker_room, KeepsAsks}
use Rattle.journal.specs.declared.event.Told.{Told}
use Rattle.journal.specs.declared.event.Told.TheVariants.{Start, Keep}
use Rattle.versioned_graph.specs.Entries.{Stored}
use Rattle.core_laws.specs.Tasks.{IsOut, Standing, Works, Ended, WithValue, WithCycle, WithNothing, goes_on, is_going, value_of, value_in}
use Rattle.core_laws.specs.Stands.{VersionStands}
use Rattle.core_laws.specs.Desk.{World, out_in}
use Rattle.core_laws.proofs.Shapes.{same_or_other, not_both}
use Rattle.core_laws.proofs.StepsWanted.{IsOfTask}
use Rattle.core_laws.proofs.Turns.{stands_here}
use Rattle.dice_tasks.specs.CyclePaths.{path_in, path_with}
use Rattle.dice_tasks.specs.Helds.{Held, task_of, held_of}
use Rattle.dice_tasks.specs.Hands.{DeskSeen, desk_of, Working, tasks_of}
use Rattle.dice_tasks.specs.Entries.{EntriesStand}
use Rattle.dice_tasks.specs.Makings.{IsFree, HasTask, IsMaking, IsMade, IsOfMake, MakesAlone, MayMake, CanMake}
use Rattle.dice_steps.specs.Plans.{key_in, is_awaited, IsPart}
use Rattle.dice_steps.specs.Batches.{IsOfMakes, MakesOn, IsBeside, HasRoomToMake, MakesParts}
use Rattle.dice_tasks.specs.declared.making.Making.{Making}
use Rattle.dice_tasks.specs.declared.making.Making.TheVariants.{Join, Match, Run, Check}
use Rattle.dice_steps.specs.declared.plan.Part.{Part}
use Rattle.dice_tasks.proofs.MakeLemmas.{free_idle, same_asks}
use Rattle.dice_tasks.proofs.MakeFrames.{making_on, may_more, can_make}
use Rattle.dice_steps.proofs.PartLemmas.{map_last}
use Rattle.lists.proofs.Distinct.{apart, distinct_left}
use Rattle.lists.proofs.Each.{all_append}
use Rattle.lists.proofs.Members.{has_end, has_last, has_map, has_more}
use Rattle.lists.specs.Lists.{AreDistinct, Has}

module _ {K V : Type 0} where
  -- what is seen of a task that may not be there
  abbrev out_of : Option (Held K V) → Bool
  out_of None = false
  out_of (Some h) = out_in h.standing

  is_out_of : (o : Option (Held K V)) (a : Assigned K V) → o ≡ Some (held_of a IsOut) → out_of o ≡ true
  is_out_of o a e = ap out_of e

  free_home : (o : Option (Held K V)) → IsFree o → out_of o ≡ false
  free_home None f = refl
  free_home (Some h) f = ap out_in f

  -- a task that is there, was not given up, is not at work and has not ended with a cycle has ended with a value
  pub value_there : (o : Option (Held K V)) → HasTask o → is_going (option_map task_of o) ≡ false → path_with o ≡ None → (x : V) × (value_of (option_map task_of o) ≡ Some x)
  value_there None t off whole = absurd t
  value_there (Some h) t off whole = by_standing h.standing refl
    where
      by_standing : (s : Standing K V) → h.standing ≡ s → (x : V) × (value_in h.standing ≡ Some x)
      by_standing (Works w p A) e = absurd (not_both (ap goes_on e) off)
      by_standing (Ended (WithValue x)) e = (x, ap value_in e)
      by_standing (Ended (WithCycle p)) e = absurd (none-some p (sym whole ∙ ap path_in e))
      by_standing (Ended WithNothing) e = absurd (t e)

module _ {U K V R : Type 0} (eq : K → K → Bool) (equality : IsEquality eq) (m : Meaning K V) (law : IsLawful m) (v : ℕ) (p : Part U K V R) (ps qs : List (K × Share K (Held K V))) (d e : DeskSeen K V) (es fs : List (K × Stored K V)) (born : ℕ)
    (part : IsPart eq m v born ps es p) (made : IsMade eq v (key_in p) ps d es p.making qs e fs) (alone : MakesAlone eq v (key_in p) ps d es qs e fs) where
  abbrev k : K
  k = key_in p

  -- the task that is put there
  put_here : (t : Held K V) → ((q : K) → task_at eq qs q ≡ cond (eq k q) (Some t) (task_at eq ps q)) → task_at eq qs k ≡ Some t
  put_here t h = h k ∙ ap (λ b. cond b (Some t) (task_at eq ps k)) (equality.itself k)

  -- whether the key's task is at work then
  live_made : is_live eq qs k ≡ p.awaited
  live_made = by_making p.making part.awaited made
    where
      by_making : (x : Making U K V R) → p.awaited ≡ is_awaited eq ps k x → IsMade eq v k ps d es x qs e fs → is_live eq qs k ≡ p.awaited
      by_making Join a h = ap (λ z. is_live eq z k) h.0 ∙ sym a
      by_making (Match event base task) a h = h.0.live k ∙ (ap (λ b. cond b false (is_live eq ps k)) (equality.itself k) ∙ sym a)
      by_making (Run event cause ready task) a h = h.0.live k ∙ (ap (λ b. cond b true (is_live eq ps k)) (equality.itself k) ∙ sym a)
      by_making (Check ready task) a h = h.0.live k ∙ (ap (λ b. cond b true (is_live eq ps k)) (equality.itself k) ∙ sym a)

  module _ (W : List K) (w : World K V) (owed : ℕ) (work : Working eq m v W w owed ps d) where
    here : VersionStands eq m (reverse d.events) v W (asked_of eq ps) (tasks_of eq ps)
    here = stands_here eq equality m (reverse d.events) v W (asked_of eq ps) (tasks_of eq ps) w (desk_of d) owed work.stand

    asks_made : KeepsAsks eq ps qs
    asks_made = by_making p.making part.making made
      where
        by_making : (x : Making U K V R) → IsMaking eq m v k born ps es x → IsMade eq v k ps d es x qs e fs → KeepsAsks eq ps qs
        by_making Join i h = λ q a. ap (λ z. asks eq z q a) h.0
        by_making (Match event base task) i h = same_asks eq equality m law v k ps qs d e W (reverse d.events) here (free_idle (task_at eq ps k) i.0).still h.0.asks
        by_making (Run event cause ready task) i h = h.0.asks
        by_making (Check ready task) i h = h.0.asks

    value_made : p.awaited ≡ false → (x : V) × (value_of (tasks_of eq qs k) ≡ Some x)
    value_made off = by_making p.making part.awaited part.making made
      where
        by_making : (x : Making U K V R) → p.awaited ≡ is_awaited eq ps k x → IsMaking eq m v k born ps es x → IsMade eq v k ps d es x qs e fs → (y : V) × (value_of (tasks_of eq qs k) ≡ Some y)
        by_making Join a i h =
            let r = value_there (task_at eq ps k) i (sym (here.live k) ∙ (sym a ∙ off)) part.whole in
            (r.0, ap (λ z. value_of (tasks_of eq z k)) h.0 ∙ r.1)
        by_making (Match event base task) a i h =
            (i.1.0, ap (λ (o : Option (Held K V)). value_of (option_map task_of o)) (put_here task h.0.tasks) ∙ ap (λ (t : Held K V). value_in t.standing) i.1.2)
        by_making (Run event cause ready task) a i h = absurd (not_both a off)
        by_making (Check ready task) a i h = absurd (not_both a off)

  -- a task that was there still is, or another
  stays_made : (q : K) (h : Held K V) → task_at eq ps q ≡ Some h → (g : Held K V) × (task_at eq qs q ≡ Some g)
  stays_made q h there = elim (same_or_other eq equality k q) as (λ _. (g : Held K V) × (task_at eq qs q ≡ Some g)) [
    | inl i ↦ subst (λ z. (g : Held K V) × (task_at eq qs z ≡ Some g)) i (by_making p.making made (subst (λ z. task_at eq ps z ≡ Some h) (sym i) there))
    | inr n ↦ (h, alone.tasks q n ∙ there)
  ]
    where
      by_making : (x : Making U K V R) → IsMade eq v k ps d es x qs e fs → task_at eq ps k ≡ Some h → (g : Held K V) × (task_at eq qs k ≡ Some g)
      by_making Join r t = (h, ap (λ z. task_at eq z k) r.0 ∙ t)
      by_making (Match event base task) r t = (task, put_here task r.0.tasks)
      by_making (Run event cause ready task) r t = (task, put_here task r.0.tasks)
      by_making (Check ready task) r t = (task, put_here task r.0.tasks)

  -- the key's task is out as before, or is not, as before
  home_made : (task_at eq qs k ≡ task_at eq ps k) ⊎ ((out_of (task_at eq ps k) ≡ false) × (out_of (task_at eq qs k) ≡ false))
  home_made = by_making p.making part.making made
    where
      by_making : (x : Making U K V R) → IsMaking eq m v k born ps es x → IsMade eq v k ps d es x qs e fs → (task_at eq qs k ≡ task_at eq ps k) ⊎ ((out_of (task_at eq ps k) ≡ false) × (out_of (task_at eq qs k) ≡ false))
      by_making Join i h = inl (ap (λ z. task_at eq z k) h.0)
      by_making (Match event base task) i h = inr (free_home (task_at eq ps k) i.0, ap out_of (put_here task h.0.tasks) ∙ ap (λ (t : Held K V). out_in t.standing) i.1.2)
      by_making (Run event cause ready task) i h = inr (free_home (task_at eq ps k) i.0, ap out_of (put_here task h.0.tasks) ∙ ap (λ (t : Held K V). out_in t.standing) i.1.3)
      by_making (Check ready task) i h = inr (free_home (task_at eq ps k) i.0, ap out_of (put_here task h.0.tasks) ∙ ap (λ (t : Held K V). out_in t.standing) i.1.4)

  out_made : (q : K) (a : Assigned K V) → task_at eq ps q ≡ Some (held_of a IsOut) → task_at eq qs q ≡ Some (held_of a IsOut)
  out_made q a was = elim (same_or_other eq equality k q) as (λ _. task_at eq qs q ≡ Some (held_of a IsOut)) [
    | inl i ↦ subst (λ z. task_at eq qs z ≡ Some (held_of a IsOut)) i (elim home_made as (λ _. task_at eq qs k ≡ Some (held_of a IsOut)) [
      | inl s ↦ s ∙ subst (λ z. task_at eq ps z ≡ Some (held_of a IsOut)) (sym i) was
      | inr h ↦ absurd (not_both (is_out_of (task_at eq ps k) a (subst (λ z. task_at eq ps z ≡ Some (held_of a IsOut)) (sym i) was)) h.0)
    ])
    | inr n ↦ alone.tasks q n ∙ was
  ]

  only_made : (q : K) (a : Assigned K V) → task_at eq qs q ≡ Some (held_of a IsOut) → task_at eq ps q ≡ Some (held_of a IsOut)
  only_made q a is = elim (same_or_other eq equality k q) as (λ _. task_at eq ps q ≡ Some (held_of a IsOut)) [
    | inl i ↦ subst (λ z. task_at eq ps z ≡ Some (held_of a IsOut)) i (elim home_made as (λ _. task_at eq ps k ≡ Some (held_of a IsOut)) [
      | inl s ↦ sym s ∙ subst (λ z. task_at eq qs z ≡ Some (held_of a IsOut)) (sym i) is
      | inr h ↦ absurd (not_both (is_out_of (task_at eq qs k) a (subst (λ z. task_at eq qs z ≡ Some (held_of a IsOut)) (sym i) is)) h.1)
    ])
    | inr n ↦ sym (alone.tasks q n) ∙ is
  ]

  -- the room for its askers is still there if it is waited for
  askers_made : p.awaited ≡ true → asker_room eq ps k ≤ asker_room eq qs k
  askers_made on = by_making p.making part.awaited made
    where
      by_making : (x : Making U K V R) → p.awaited ≡ is_awaited eq ps k x → IsMade eq v k ps d es x qs e fs → asker_room eq ps k ≤ asker_room eq qs k
      by_making Join a h = let s : asker_room eq qs k ≡ asker_room eq ps k = ap (λ z. asker_room eq z k) h.0 in omega arith
      by_making (Match event base task) a h = absurd (not_both on a)
      by_making (Run event cause ready task) a h = h.0.room.askers k
      by_making (Check ready task) a h = h.0.room.askers k

-- the events are of keys among these
of_keys : {K V : Type 0} (v : ℕ) (k : K) (ks : List K) → Has ks k → (xs : List (Told K V)) → AllByRecursion (IsOfMake v k) xs → AllByRecursion (IsOfMakes v ks) xs
of_keys {K} {V} v k ks h [] a = tt
of_keys {K} {V} v k ks h (x ∷ xs) a = (by_event x a.0, of_keys v k ks h xs a.1)
  where
    by_event : (y : Told K V) → IsOfMake v k y → IsOfMakes v ks y
    by_event (Start w q c) i = (i.0, subst (Has ks) (sym i.1) h)
    by_event (Keep w q b) i = (i.0, subst (Has ks) (sym i.1) h)
    by_event _ i = absurd i

pub makes_more_keys : {K V : Type 0} (v : ℕ) (ks ls : List K) → ((q : K) → Has ks q → Has ls q) → (xs : List (Told K V)) → AllByRecursion (IsOfMakes v ks) xs → AllByRecursion (IsOfMakes v ls) xs
makes_more_keys {K} {V} v ks ls f [] a = tt
makes_more_keys {K} {V} v ks ls f (x ∷ xs) a = (by_event x a.0, makes_more_keys v ks ls f xs a.1)
  where
    by_event : (y : Told K V) → IsOfMakes v ks y → IsOfMakes v ls y
    by_event (Start w q c) i = (i.0, f q i.1)
    by_event (Keep w q b) i = (i.0, f q i.1)
    by_event _ i = absurd i

-- and events of tasks
pub makes_tasks : {K V : Type 0} (v : ℕ) (ks : List K) (xs : List (Told K V)) → AllByRecursion (IsOfMakes v ks) xs → AllByRecursion IsOfTask xs
makes_tasks {K} {V} v ks [] a = tt
makes_tasks {K} {V} v ks (x ∷ xs) a = (by_event x a.0, makes_tasks v ks xs a.1)
  where
    by_event : (y : Told K V) → IsOfMakes v ks y → IsOfTask y
    by_event (Start w q c) i = tt
    by_event (Keep w q b) i = tt
    by_event _ i = absurd i

module _ {U K V R : Type 0} (eq : K → K → Bool) (v : ℕ) where
  -- if there is no part nothing is made
  pub makes_none : (ps : List (K × Share K (Held K V))) (d : DeskSeen K V) → MakesParts {U = U} {R = R} eq [] v ps d ps d
  makes_none ps d = record {
    asks = λ q a. refl;
    others = λ q n. refl;
    lives = λ q n. refl;
    awaited = λ p h. absurd h;
    valued = λ p h. absurd h;
    stays = λ q h e. (h, e);
    out = λ q a e. e;
    only = λ q a e. e;
    askers = λ p h. absurd h;
    other_askers = λ q n. omega arith;
    waits = λ q n. omega arith;
    events = [];
    told = sym (append-nil d.events);
    of_makes = tt;
    ended = refl;
  }

module _ {U K V R : Type 0} (eq : K → K → Bool) (equality : IsEquality eq) (m : Meaning K V) (law : IsLawful m) (v : ℕ) (rest : List (Part U K V R)) (p : Part U K V R) (ps qs : List (K × Share K (Held K V))) (d e : DeskSeen K V) (es fs : List (K × Stored K V))
    (made : IsMade eq v (key_in p) ps d es p.making qs e fs) (alone : MakesAlone eq v (key_in p) ps d es qs e fs) where
  abbrev all_of : List (Part U K V R)
  all_of = rest ++ p ∷ []

  module _ (distinct : AreDistinct (map key_in (rest ++ p ∷ []))) where
    -- the last is apart from the others
    last_apart : IsBeside eq rest (key_in p)
    last_apart x h = elim (same_or_other eq equality (key_in x) (key_in p)) as (λ _. eq (key_in x) (key_in p) ≡ false) [
      | inl i ↦ absurd (apart (map key_in rest) (key_in p ∷ []) (key_in x) (subst AreDistinct (map_last key_in rest p) distinct) (has_map key_in rest x h) (inl (sym i)))
      | inr n ↦ n
    ]

    others_apart : (x : Part U K V R) → Has rest x → eq (key_in p) (key_in x) ≡ false
    others_apart x h = elim (same_or_other eq equality (key_in p) (key_in x)) as (λ _. eq (key_in p) (key_in x) ≡ false) [
      | inl i ↦ absurd (not_both (subst (λ z. eq (key_in x) z ≡ true) (sym i) (equality.itself (key_in x))) (last_apart x h))
      | inr n ↦ n
    ]

    -- what holds while they are made goes on
    pub on_more : (W : List K) (w : World K V) (owed : ℕ)
        → ((w : World K V) (W : List K) (owed born : ℕ) → Working eq m v W w (owed + 3) ps d → EntriesStand eq m (reverse d.events) es → MayMake eq m (reverse d.events) v (key_in p) born → IsMaking eq m v (key_in p) born ps es p.making → Working eq m v W w owed qs e × EntriesStand eq m (reverse e.events) fs)
        → MakesOn eq m v W w owed (rest ++ p ∷ []) ps d es → MakesOn eq m v W w owed rest qs e fs
    on_more W w owed kept h =
        let n = length-append rest (p ∷ []) in
        let one : length (p ∷ []) ≡ 1 = refl in
        let count : owed + 3 * length (rest ++ p ∷ []) ≡ owed + 3 * length rest + 3 = omega arith in
        let last = has_end rest p in
        let k = kept w W (owed + 3 * length rest) h.born (subst (λ z. Working eq m v W w z ps d) count h.working) h.entries (h.may p last) (h.each p last).making in record {
          working = k.0;
          entries = k.1;
          born = h.born;
          each = λ x i. (let b = h.each x (has_more rest p x i) in let o = others_apart x i in record {
            computed = b.computed;
            whole = ap path_with (alone.tasks (key_in x) o) ∙ b.whole;
            making = making_on eq m v (key_in p) (key_in x) o ps qs d e es fs alone h.born x.making b.making;
            own = b.own;
            awaited = b.awaited ∙ by_making (key_in x) o x.making;
          });
          may = λ x i. may_more eq equality m law v (key_in p) (key_in x) h.born ps qs d e es fs alone (h.may x (has_more rest p x i));
          distinct = distinct_front (subst AreDistinct (map_last key_in rest p) h.distinct);
        }
      where
        by_making : (q : K) → eq (key_in p) q ≡ false → (x : Making U K V R) → is_awaited eq ps q x ≡ is_awaited eq qs q x
        by_making q o Join = sym (alone.lives q o)
        by_making q o (Match event base task) = refl
        by_making q o (Run event cause ready task) = refl
        by_making q o (Check ready task) = refl

        distinct_front : AreDistinct (map key_in rest ++ key_in p ∷ []) → AreDistinct (map key_in rest)
        distinct_front = distinct_left (map key_in rest) (key_in p ∷ [])

    -- there is room for the others
    pub room_after : HasRoomToMake eq (rest ++ p ∷ []) ps d → HasRoomToMake eq rest qs e
    room_after r =
        let n = length-append rest (p ∷ []) in
        let one : length (p ∷ []) ≡ 1 = refl in record {
          places = λ x i. alone.room.places (key_in x) (others_apart x i) (r.places x (has_more rest p x i));
          spare = (let a = r.spare in let b = alone.spare in omega arith);
          ready = (let a = r.ready in let b = alone.ready_room in omega arith);
          live = (let a = r.live in let b = alone.live_room in omega arith);
        }

    module _ (born : ℕ) (part : IsPart eq m v born ps es p) (W : List K) (w : World K V) (owed : ℕ) (work : Working eq m v W w owed ps d) (rs : List (K × Share K (Held K V))) (f : DeskSeen K V) (h : MakesParts eq rest v qs e rs f) where
      all_has : (q : K) → Has (map key_in rest) q → Has (map key_in (rest ++ p ∷ [])) q
      all_has q i = subst (λ z. Has z q) (sym (map_last key_in rest p)) (has_more (map key_in rest) (key_in p) q i)

      last_has : Has (map key_in (rest ++ p ∷ [])) (key_in p)
      last_has = subst (λ z. Has z (key_in p)) (sym (map_last key_in rest p)) (has_end (map key_in rest) (key_in p))

      front : (q : K) → IsBeside eq (rest ++ p ∷ []) q → IsBeside eq rest q
      front q n x i = n x (has_more rest p x i)

      -- the last one is made, and then the others
      pub makes_more : MakesParts eq (rest ++ p ∷ []) v ps d rs f
      makes_more = record {
        asks = λ q a. h.asks q a ∙ asks_made eq equality m law v p ps qs d e es fs born part made alone W w owed work q a;
        others = λ q n. h.others q (front q n) ∙ alone.tasks q (n p (has_end rest p));
        lives = λ q n. h.lives q (front q n) ∙ alone.lives q (n p (has_end rest p));
        awaited = λ x i. elim (has_last rest p x i) as (λ _. is_live eq rs (key_in x) ≡ x.awaited) [
          | inl o ↦ h.awaited x o
          | inr s ↦ subst (λ (z : Part U K V R). is_live eq rs (key_in z) ≡ z.awaited) s (h.lives (key_in p) last_apart ∙ live_made eq equality m law v p ps qs d e es fs born part made alone)
        ];
        valued = λ x i off. elim (has_last rest p x i) as (λ _. (y : V) × (value_of (tasks_of eq rs (key_in x)) ≡ Some y)) [
          | inl o ↦ h.valued x o off
          | inr s ↦ subst (λ (z : Part U K V R). (y : V) × (value_of (tasks_of eq rs (key_in z)) ≡ Some y)) s
              (let r = value_made eq equality m law v p ps qs d e es fs born part made alone W w owed work (ap (λ (z : Part U K V R). z.awaited) s ∙ off) in
              (r.0, ap (λ (o : Option (Held K V)). value_of (option_map task_of o)) (h.others (key_in p) last_apart) ∙ r.1))
        ];
        stays = λ q g t. (let r = stays_made eq equality m law v p ps qs d e es fs born part made alone q g t in h.stays q r.0 r.1);
        out = λ q a t. h.out q a (out_made eq equality m law v p ps qs d e es fs born part made alone q a t);
        only = λ q a t. only_made eq equality m law v p ps qs d e es fs born part made alone q a (h.only q a t);
        askers = λ x i on. elim (has_last rest p x i) as (λ _. asker_room eq ps (key_in x) ≤ asker_room eq rs (key_in x)) [
          | inl o ↦ (let a = alone.room.askers (key_in x) (others_apart x o) in let b = h.askers x o on in omega arith)
          | inr s ↦ subst (λ (z : Part U K V R). asker_room eq ps (key_in z) ≤ asker_room eq rs (key_in z)) s
              (let a = askers_made eq equality m law v p ps qs d e es fs born part made alone (ap (λ (z : Part U K V R). z.awaited) s ∙ on) in let b = h.other_askers (key_in p) last_apart in omega arith)
        ];
        other_askers = λ q n. (let a = alone.room.askers q (n p (has_end rest p)) in let b = h.other_askers q (front q n) in omega arith);
        waits = λ q n. (let a = alone.room.waits q (n p (has_end rest p)) in let b = h.waits q (front q n) in omega arith);
        events = alone.events ++ h.events;
        told = h.told ∙ (ap (λ (xs : List (Told K V)). xs ++ h.events) alone.told ∙ append_assoc d.events alone.events h.events);
        of_makes = all_append (IsOfMakes v (map key_in (rest ++ p ∷ []))) alone.events h.events (of_keys v (key_in p) (map key_in (rest ++ p ∷ [])) last_has alone.events alone.of_make) (makes_more_keys v (map key_in rest) (map key_in (rest ++ p ∷ [])) all_has h.events h.of_makes);
        ended = h.ended ∙ alone.ended;
      }

module _ {U K V R : Type 0} (eq : K → K → Bool) (m : Meaning K V) (v : ℕ) (xs : List (Part U K V R)) (none : xs ≡ []) (ps : List (K × Share K (Held K V))) (d : DeskSeen K V) where
  -- once all are made
  pub makes_end : MakesParts eq xs v ps d ps d
  makes_end = subst (λ (z : List (Part U K V R)). MakesParts eq z v ps d ps d) (sym none) (makes_none eq v ps d)

  pub on_end : (W : List K) (w : World K V) (owed : ℕ) (es : List (K × Stored K V)) → MakesOn eq m v W w owed xs ps d es → Working eq m v W w owed ps d × EntriesStand eq m (reverse d.events) es
  on_end W w owed es h =
      let n : length xs ≡ 0 = ap length none in
      (subst (λ z. Working eq m v W w z ps d) (let z : owed + 3 * length xs ≡ owed = omega arith in z) h.working, h.entries)

module _ {U K V R : Type 0} (eq : K → K → Bool) (equality : IsEquality eq) (m : Meaning K V) (law : IsLawful m) (v : ℕ) (xs rest : List (Part U K V R)) (p : Part U K V R) (split : xs ≡ rest ++ p ∷ []) (W : List K) (w : World K V) (owed : ℕ) (ps : List (K × Share K (Held K V))) (d : DeskSeen K V) (es : List (K × Stored K V)) (on : MakesOn eq m v W w owed xs ps d es) where
  last_in : Has xs p
  last_in = subst (λ z. Has z p) (sym split) (has_end rest p)

  -- the last part is made next
  pub next_part : IsPart eq m v on.born ps es p
  next_part = on.each p last_in

  pub next_room : HasRoomToMake eq xs ps d → CanMake eq v (key_in p) ps d p.making
  next_room r =
      let n : length xs ≡ length rest + 1 = ap length split ∙ length-append rest (p ∷ []) in
      can_make eq equality m law v (key_in p) ps d w W (owed + 3 * length xs) on.born es on.working (let a = r.spare in omega arith) (let a = r.ready in omega arith) (let a = r.live in omega arith) (r.places p last_in) p.making next_part.making

  module _ (qs : List (K × Share K (Held K V))) (e : DeskSeen K V) (fs : List (K × Stored K V)) (made : IsMade eq v (key_in p) ps d es p.making qs e fs) (alone : MakesAlone eq v (key_in p) ps d es qs e fs) where
    pub room_next : HasRoomToMake eq xs ps d → HasRoomToMake eq rest qs e
    room_next r = room_after eq equality m law v rest p ps qs d e es fs made alone (subst (λ (z : List (Part U K V R)). AreDistinct (map key_in z)) split on.distinct) (subst (λ (z : List (Part U K V R)). HasRoomToMake eq z ps d) split r)

    pub makes_next : (rs : List (K × Share K (Held K V))) (f : DeskSeen K V) → MakesParts eq rest v qs e rs f → MakesParts eq xs v ps d rs f
    makes_next rs f h = subst (λ (z : List (Part U K V R)). MakesParts eq z v ps d rs f) (sym split)
        (makes_more eq equality m law v rest p ps qs d e es fs made alone (subst (λ (z : List (Part U K V R)). AreDistinct (map key_in z)) split on.distinct) on.born next_part W w (owed + 3 * length xs) on.working rs f h)

    pub on_next : ((w : World K V) (W : List K) (owed born : ℕ) → Working eq m v W w (owed + 3) ps d → EntriesStand eq m (reverse d.events) es → MayMake eq m (reverse d.events) v (key_in p) born → IsMaking eq m v (key_in p) born ps es p.making → Working eq m v W w owed qs e × EntriesStand eq m (reverse e.events) fs)
        → MakesOn eq m v W w owed rest qs e fs
    on_next kept = on_more eq equality m law v rest p ps qs d e es fs made alone (subst (λ (z : List (Part U K V R)). AreDistinct (map key_in z)) split on.distinct) W w owed kept (subst (λ (z : List (Part U K V R)). MakesOn eq m v W w owed z ps d es) split on)
