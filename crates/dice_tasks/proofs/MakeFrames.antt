-- What a make leaves as it was, and what goes on for the keys that are made after it.
use Rattle.std.proofs.Common.{◌≡◌, ◌≤◌, ◌<◌, ◌+◌, ◌-◌, ◌&&◌, not, ℕ, Bool, true, false, cond, List, [], ◌∷◌, ◌++◌, reverse, Some, refl, sym, ap, ◌∙◌, subst, arith}
use Rattle.std.specs.List.{AllByRecursion}
use Rattle.std.specs.Option.{option_map}
use Rattle.std.proofs.lemmas.List.{append-nil, append_assoc, reverse-append}
use Rattle.dice_key.specs.Meaning.{Meaning}
use Rattle.dice_key.specs.Lawful.{IsLawful, IsEquality}
use Rattle.task_share.specs.Seen.{Share, task_at, is_live, asks, has_place, KeepsRoom, KeepsOtherRoom}
use Rattle.journal.specs.declared.event.Told.{Told}
use Rattle.journal.specs.declared.event.Told.TheVariants.{Start, Keep}
use Rattle.versioned_graph.specs.Edges.{is_edge}
use Rattle.versioned_graph.specs.Entries.{Stored, entry_at, seen_at}
use Rattle.versioned_graph.specs.Looks.{look}
use Rattle.core_laws.specs.Desk.{World}
use Rattle.core_laws.proofs.StepsWanted.{wanted_on}
use Rattle.dice_tasks.specs.Helds.{Held}
use Rattle.dice_tasks.specs.Hands.{DeskSeen, Readies, Working, with_event, with_made}
use Rattle.dice_tasks.specs.Makings.{IsFree, HasTask, HasMakeRoom, MayMake, IsMaking, CanMake, IsMade, IsOfMake, Makes, MakesEnded, MakesAlone}
use Rattle.dice_tasks.specs.declared.making.Making.{Making}
use Rattle.dice_tasks.specs.declared.making.Making.TheVariants.{Join, Match, Run, Check}
use Rattle.dice_tasks.proofs.MakeLemmas.{idle_at_hand}

module _ {K T : Type 0} (eq : K → K → Bool) (k : K) (ps qs : List (K × Share K T)) where
  pub other_room : KeepsRoom eq ps qs → KeepsOtherRoom eq k ps qs
  other_room r = record { places = λ q n. r.places q; promises = λ q n. r.promises q; askers = λ q n. r.askers q; waits = λ q n. r.waits q; count = r.count }

module _ {K V : Type 0} (eq : K → K → Bool) (v : ℕ) (k : K) (ps qs : List (K × Share K (Held K V))) (d e : DeskSeen K V) (es fs : List (K × Stored K V)) where
  -- a task that is at work was made, after these events
  pub alone_made : (xs : List (Told K V)) (t : Held K V) → Makes eq k t ps qs → (f : DeskSeen K V) → f.events ≡ d.events ++ xs → f.ended ≡ d.ended → d.spare ≤ f.spare + 1 → f.ready_room ≡ d.ready_room → f.live_room ≡ d.live_room
      → AllByRecursion (IsOfMake v k) xs → Readies (v, k) (with_made f) e → fs ≡ es → MakesAlone eq v k ps d es qs e fs
  alone_made xs t h f told ended spare ready live all r same = record {
    tasks = λ q n. h.tasks q ∙ ap (λ b. cond b (Some t) (task_at eq ps q)) n;
    lives = λ q n. h.live q ∙ ap (λ b. cond b true (is_live eq ps q)) n;
    entries = λ q n. ap (λ z. entry_at eq z q) same;
    edges = λ j q. ap (λ z. is_edge eq z j q) same;
    asks = λ q a n. h.asks q a;
    room = other_room eq k ps qs h.room;
    events = xs;
    told = r.rest.events ∙ told;
    of_make = all;
    ended = r.rest.ended ∙ ended;
    spare = (let z = r.rest.spare in omega arith);
    ready_room = (let z = r.room in omega arith);
    live_room = (let z = r.rest.live_room in omega arith);
  }

  -- a task that has ended was made
  pub alone_ended : (b : ℕ) (t : Held K V) → MakesEnded eq k t ps qs → e ≡ with_event d (Keep v k b) → ((q : K) → eq k q ≡ false → entry_at eq fs q ≡ entry_at eq es q) → ((j q : K) → is_edge eq fs j q ≡ is_edge eq es j q) → MakesAlone eq v k ps d es qs e fs
  alone_ended b t h is entries edges = record {
    tasks = λ q n. h.tasks q ∙ ap (λ b. cond b (Some t) (task_at eq ps q)) n;
    lives = λ q n. h.live q ∙ ap (λ b. cond b false (is_live eq ps q)) n;
    entries = entries;
    edges = edges;
    asks = λ q a n. h.asks q a ∙ (ap (λ b. asks eq ps q a && not b) n ∙ kept (asks eq ps q a));
    room = h.room;
    events = Keep v k b ∷ [];
    told = ap (λ (z : DeskSeen K V). z.events) is;
    of_make = ((refl, refl), tt);
    ended = ap (λ (z : DeskSeen K V). z.ended) is;
    spare = (let z : e.spare ≡ d.spare - 1 = ap (λ (z : DeskSeen K V). z.spare) is in omega arith);
    ready_room = (let z : e.ready_room ≡ d.ready_room = ap (λ (z : DeskSeen K V). z.ready_room) is in omega arith);
    live_room = (let z : e.live_room ≡ d.live_room = ap (λ (z : DeskSeen K V). z.live_room) is in omega arith);
  }
    where
      kept : (y : Bool) → (y && true) ≡ y
      kept true = refl
      kept false = refl

  -- nothing was made
  pub alone_none : qs ≡ ps → e ≡ d → fs ≡ es → MakesAlone eq v k ps d es qs e fs
  alone_none a b c = record {
    tasks = λ q n. ap (λ z. task_at eq z q) a;
    lives = λ q n. ap (λ z. is_live eq z q) a;
    entries = λ q n. ap (λ z. entry_at eq z q) c;
    edges = λ j q. ap (λ z. is_edge eq z j q) c;
    asks = λ q x n. ap (λ z. asks eq z q x) a;
    room = subst (λ z. KeepsOtherRoom eq k ps z) (sym a) (record { places = λ q n p. p; promises = λ q n. omega arith; askers = λ q n. omega arith; waits = λ q n. omega arith; count = omega arith });
    events = [];
    told = ap (λ (z : DeskSeen K V). z.events) b ∙ sym (append-nil d.events);
    of_make = tt;
    ended = ap (λ (z : DeskSeen K V). z.ended) b;
    spare = (let z : e.spare ≡ d.spare = ap (λ (z : DeskSeen K V). z.spare) b in omega arith);
    ready_room = (let z : e.ready_room ≡ d.ready_room = ap (λ (z : DeskSeen K V). z.ready_room) b in omega arith);
    live_room = (let z : e.live_room ≡ d.live_room = ap (λ (z : DeskSeen K V). z.live_room) b in omega arith);
  }

module _ {K V : Type 0} (eq : K → K → Bool) (v : ℕ) (k : K) (es fs : List (K × Stored K V)) where
  -- if the entry of k alone was seen, the others are as before
  pub other_entries : ((q : K) → entry_at eq fs q ≡ cond (eq k q) (option_map (seen_at v) (entry_at eq es k)) (entry_at eq es q)) → (q : K) → eq k q ≡ false → entry_at eq fs q ≡ entry_at eq es q
  other_entries h q n = h q ∙ ap (λ b. cond b (option_map (seen_at v) (entry_at eq es k)) (entry_at eq es q)) n

module _ {U K V A : Type 0} (eq : K → K → Bool) (m : Meaning K V) (v : ℕ) (k q : K) (other : eq k q ≡ false) (ps qs : List (K × Share K (Held K V))) (d e : DeskSeen K V) (es fs : List (K × Stored K V)) (h : MakesAlone eq v k ps d es qs e fs) where
  -- what was to be made of another key still is
  pub making_on : (born : ℕ) (p : Making U K V A) → IsMaking eq m v q born ps es p → IsMaking eq m v q born qs fs p
  making_on born Join i = subst HasTask (sym (h.tasks q other)) i
  making_on born (Match event base task) i = (subst IsFree (sym (h.tasks q other)) i.0, (i.1.0, ap (λ o. look m.is_transient o v) (h.entries q other) ∙ i.1.1, i.1.2))
  making_on born (Run event cause ready task) i = (subst IsFree (sym (h.tasks q other)) i.0, (i.1.0, ap (λ o. look m.is_transient o v) (h.entries q other) ∙ i.1.1, i.1.2, i.1.3))
  making_on born (Check ready task) i = (subst IsFree (sym (h.tasks q other)) i.0, (i.1.0, i.1.1, i.1.2, ap (λ o. look m.is_transient o v) (h.entries q other) ∙ i.1.3, i.1.4))

module _ {K V : Type 0} (eq : K → K → Bool) (equality : IsEquality eq) (m : Meaning K V) (law : IsLawful m) (v : ℕ) (k q : K) (born : ℕ) where
  -- a key that may be made may be made after an event of another that is made
  may_on : (R : List (Told K V)) (x : Told K V) → IsOfMake v k x → MayMake eq m R v q born → MayMake eq m (x ∷ R) v q born
  may_on R (Start w j c) i h = record { computed = h.computed; wanted = wanted_on eq equality m law R v q (Start w j c) tt h.wanted; within = h.within; born = (let l = h.born in omega arith) }
  may_on R (Keep w j b) i h = record { computed = h.computed; wanted = wanted_on eq equality m law R v q (Keep w j b) tt h.wanted; within = h.within; born = (let l = h.born in omega arith) }
  may_on R _ i h = absurd i

  may_after : (J xs : List (Told K V)) → AllByRecursion (IsOfMake v k) xs → MayMake eq m (reverse J) v q born → MayMake eq m (reverse (J ++ xs)) v q born
  may_after J [] a h = subst (λ I. MayMake eq m (reverse I) v q born) (sym (append-nil J)) h
  may_after J (x ∷ xs) a h =
      subst (λ I. MayMake eq m (reverse I) v q born) (append_assoc J (x ∷ []) xs)
      (may_after (J ++ x ∷ []) xs a.1 (subst (λ S. MayMake eq m S v q born) (sym (reverse-append J (x ∷ []))) (may_on (reverse J) x a.0 h)))

  pub may_more : (ps qs : List (K × Share K (Held K V))) (d e : DeskSeen K V) (es fs : List (K × Stored K V)) → MakesAlone eq v k ps d es qs e fs → MayMake eq m (reverse d.events) v q born → MayMake eq m (reverse e.events) v q born
  may_more ps qs d e es fs h may = subst (λ I. MayMake eq m (reverse I) v q born) (sym h.told) (may_after d.events h.events h.of_make may)

module _ {K V : Type 0} (eq : K → K → Bool) (equality : IsEquality eq) (m : Meaning K V) (law : IsLawful m) (v : ℕ) (k : K) (ps : List (K × Share K (Held K V))) (d : DeskSeen K V) where
  -- there is room to make it
  room_of : (w : World K V) (W : List K) (owed : ℕ) → Working eq m v W w owed ps d → IsFree (task_at eq ps k) → 0 < d.spare → 0 < d.ready_room → 0 < d.live_room → has_place eq ps k ≡ true → HasMakeRoom eq v k ps d
  room_of w W owed h free a b c p = let i = idle_at_hand eq equality m law v k ps ps d d w W owed h free in record { spare = a; ready_room = b; live_room = c; place = p; idle = i.0; unready = i.1; home = i.2 }

module _ {U K V A : Type 0} (eq : K → K → Bool) (equality : IsEquality eq) (m : Meaning K V) (law : IsLawful m) (v : ℕ) (k : K) (ps : List (K × Share K (Held K V))) (d : DeskSeen K V) where
  -- what was prepared can be made, if there is room for it
  pub can_make : (w : World K V) (W : List K) (owed born : ℕ) (es : List (K × Stored K V)) → Working eq m v W w owed ps d → 0 < d.spare → 0 < d.ready_room → 0 < d.live_room → has_place eq ps k ≡ true → (p : Making U K V A) → IsMaking eq m v k born ps es p → CanMake eq v k ps d p
  can_make w W owed born es h a b c there Join i = tt
  can_make w W owed born es h a b c there (Match event base task) i = room_of eq equality m law v k ps d w W owed h i.0 a b c there
  can_make w W owed born es h a b c there (Run event cause ready task) i = room_of eq equality m law v k ps d w W owed h i.0 a b c there
  can_make w W owed born es h a b c there (Check ready task) i = room_of eq equality m law v k ps d w W owed h i.0 a b c there

  -- and then the key has a task that was not given up
  pub made_has : (born : ℕ) (es fs : List (K × Stored K V)) (qs : List (K × Share K (Held K V))) (e : DeskSeen K V) (p : Making U K V A) → IsMaking eq m v k born ps es p → IsMade eq v k ps d es p qs e fs → HasTask (task_at eq qs k)
  made_has born es fs qs e Join i r = subst (λ z. HasTask (task_at eq z k)) (sym r.0) i
  made_has born es fs qs e (Match event base task) i r = subst HasTask (sym (r.0.tasks k ∙ ap (λ b. cond b (Some task) (task_at eq ps k)) (equality.itself k))) (λ z. (let y = sym (ap (λ (t : Held K V). t.standing) i.1.2) ∙ z in cc))
  made_has born es fs qs e (Run event cause ready task) i r = subst HasTask (sym (r.0.tasks k ∙ ap (λ b. cond b (Some task) (task_at eq ps k)) (equality.itself k))) (λ z. (let y = sym (ap (λ (t : Held K V). t.standing) i.1.3) ∙ z in cc))
  made_has born es fs qs e (Check ready task) i r = subst HasTask (sym (r.0.tasks k ∙ ap (λ b. cond b (Some task) (task_at eq ps k)) (equality.itself k))) (λ z. (let y = sym (ap (λ (t : Held K V). t.standing) i.1.4) ∙ z in cc))
