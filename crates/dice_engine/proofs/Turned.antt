-- What a turn comes to, from what the turnstile says of its begin and its end, and what was added in it.
use Rattle.std.proofs.Common.{◌≡◌, ◌<◌, ◌≤◌, ℕ, ◌+◌, Bool, true, if◌then◌else◌, List, [], ◌∷◌, ◌++◌, None, refl, sym, ap, ◌∙◌, subst, arith, append_assoc, append-nil, eq-eqb}
use Rattle.std.specs.List.{AllByRecursion}
use Rattle.dice_key.specs.Meaning.{Meaning}
use Rattle.journal.specs.declared.event.Told.{Told}
use Rattle.journal.specs.declared.event.Told.TheVariants.{Commit, Open, Close, Ask, Leave, Start, Keep, End, Cyclic, Drop, Lost}
use Rattle.journal.specs.Law.{IsLawfulJournal}
use Rattle.journal.specs.Tell.{event_by}
use Rattle.dice_core.specs.Cores.{IsWorkAt}
use Rattle.turnstile.specs.Events.{StartsWith, has_number, events_by, AllBelow, IsOwn, AllOwn, Grows}
use Rattle.turnstile.specs.Seats.{SeatView as Place, in_turn, IsAfterTurn as IsPlaceAfter, EachNote, NotedIn}
use Rattle.job_line.specs.Ends.{PassView}
use Rattle.dice_engine.specs.Seats.{SeatView, seated}
use Rattle.turnstile.proofs.Events.{events_by-append}
use Rattle.dice_engine.specs.Turns.{newest_in, AreBy, AreOfTasks, Adds, Later, Turn, Works, rests, works}

module _ {K V : Type 0} where
  -- events of tasks tell no number
  of_task : (v : ℕ) (e : Told K V) → IsWorkAt v e → event_by e ≡ None
  of_task v (Start w k c) h = refl
  of_task v (Keep w k b) h = refl
  of_task v (End w k) h = refl
  of_task v (Cyclic w k) h = refl
  of_task v (Drop w k) h = refl
  of_task v (Lost w k) h = refl
  of_task v (Commit by c) h = absurd h
  of_task v (Open by w) h = absurd h
  of_task v (Close by t) h = absurd h
  of_task v (Ask by t k) h = absurd h
  of_task v (Leave by a) h = absurd h

  tasks_are_own : (n w v : ℕ) (es : List (Told K V)) → AllByRecursion (IsWorkAt v) es → AllOwn event_by n w es
  tasks_are_own n w v [] a = tt
  tasks_are_own n w v (e ∷ es) a = (subst (IsOwn n w) (sym (of_task v e a.0)) tt, tasks_are_own n w v es a.1)

  then_tasks : (n w v : ℕ) (own work : List (Told K V)) → n < w → AreBy n own → AllByRecursion (IsWorkAt v) work → AllOwn event_by n w (own ++ work)
  then_tasks n w v [] work below by a = tasks_are_own n w v work a
  then_tasks n w v (e ∷ own) work below by a = (subst (IsOwn n w) (sym by.0) (refl, below), then_tasks n w v own work below by.1 a)

  none_of_tasks : (n v : ℕ) (es : List (Told K V)) → AllByRecursion (IsWorkAt v) es → events_by event_by n es ≡ []
  none_of_tasks n v [] a = refl
  none_of_tasks n v (e ∷ es) a = ap (λ o. if has_number n o then e ∷ events_by event_by n es else events_by event_by n es) (of_task v e a.0) ∙ none_of_tasks n v es a.1

  all_of_own : (n : ℕ) (es : List (Told K V)) → AreBy n es → events_by event_by n es ≡ es
  all_of_own n [] a = refl
  all_of_own n (e ∷ es) a =
      ap (λ o. if has_number n o then e ∷ events_by event_by n es else events_by event_by n es) a.0
      ∙ (ap (λ (b : Bool). if b then e ∷ events_by event_by n es else events_by event_by n es) (eq-eqb n n refl) ∙ ap (λ l. e ∷ l) (all_of_own n es a.1))

  -- what a seat finds of its own, after what was added
  mine_more : (n : ℕ) (J own work : List (Told K V)) → AreBy n own → AreOfTasks work → events_by event_by n (J ++ (own ++ work)) ≡ events_by event_by n J ++ own
  mine_more n J own work by tasks =
      events_by-append event_by n J (own ++ work)
      ∙ ap (λ l. events_by event_by n J ++ l)
      (events_by-append event_by n own work ∙ (ap (λ l. l ++ events_by event_by n work) (all_of_own n own by) ∙ (ap (λ l. own ++ l) (none_of_tasks n tasks.0 work tasks.1) ∙ append-nil own)))

module _ {K V : Type 0} (eq : K → K → Bool) (m : Meaning K V) where
  -- a writer may add its own events, and any seat those of tasks
  pub grows : (n w : ℕ) (J I : List (Told K V)) (P : List (Told K V) → List (Told K V) → Type 0) → n < w → Adds eq m n J I P → Grows event_by n w J I
  grows n w J I P below a = (a.own ++ a.work, a.journal, then_tasks n w a.of_tasks.0 a.own a.work below a.by a.of_tasks.1)

  pub grows_by_tasks : (n w z : ℕ) (J I : List (Told K V)) (P : List (Told K V) → List (Told K V) → Type 0) → (a : Adds eq m z J I P) → a.own ≡ [] → Grows event_by n w J I
  grows_by_tasks n w z J I P a none = (a.work, a.journal ∙ ap (λ l. J ++ (l ++ a.work)) none, tasks_are_own n w a.of_tasks.0 a.work a.of_tasks.1)

  -- if no event of its own is added, it does not matter whose turn it is
  pub of_any : (n z : ℕ) (J I : List (Told K V)) (P : List (Told K V) → List (Told K V) → Type 0) → (a : Adds eq m z J I P) → a.own ≡ [] → Adds eq m n J I P
  of_any n z J I P a none = record {
    own = a.own;
    work = a.work;
    journal = a.journal;
    by = subst (AreBy n) (sym none) tt;
    of_tasks = a.of_tasks;
    lawful = a.lawful;
    did = a.did;
  }

  pub did_so : (n : ℕ) (J I : List (Told K V)) (P Q : List (Told K V) → List (Told K V) → Type 0) → Adds eq m n J I P → ((own work : List (Told K V)) → P own work → Q own work) → Adds eq m n J I Q
  did_so n J I P Q a f = record {
    own = a.own;
    work = a.work;
    journal = a.journal;
    by = a.by;
    of_tasks = a.of_tasks;
    lawful = a.lawful;
    did = f a.own a.work a.did;
  }

  -- the same, of a journal that stayed
  abbrev pub lined_adds : (n : ℕ) (J I H : List (Told K V)) (P : List (Told K V) → List (Told K V) → Type 0) → H ≡ I → Adds eq m n J I P → Adds eq m n J H P
  lined_adds n J I H P e a = record {
    own = a.own;
    work = a.work;
    journal = e ∙ a.journal;
    by = a.by;
    of_tasks = a.of_tasks;
    lawful = subst (IsLawfulJournal eq m) (sym e) a.lawful;
    did = a.did;
  }

  -- a turn was begun, and the journal J was found
  pub record Entered (old mid : Place (Told K V)) (J : List (Told K V)) : Type 0 where
    pub is : mid ≡ in_turn old J
    pub begins : StartsWith J old.seen
    pub found : events_by event_by old.number J ≡ old.mine
    pub floor : old.floor ≤ newest_in J

  pub entered : (old mid : Place (Told K V)) (H J : List (Told K V)) → J ≡ H → mid ≡ in_turn old H → StartsWith H old.seen → events_by event_by old.number H ≡ old.mine → old.floor ≤ newest_in H → Entered old mid J
  entered old mid H J e is begins found floor = subst (Entered old mid) (sym e) (record { is = is; begins = begins; found = found; floor = floor })

  -- and ended, with the journal I
  pub record Ended (mid new : Place (Told K V)) (I : List (Told K V)) : Type 0 where
    pub seen : new.seen ≡ I
    pub mine : new.mine ≡ events_by event_by new.number new.seen
    pub turns : new.turns ≡ mid.turns + 1
    pub floor : (mid.floor ≤ new.floor) × (newest_in new.seen ≤ new.floor)
    pub below : AllBelow event_by new.writers new.seen
    pub noted : EachNote (NotedIn event_by new.seen) new.ended
    pub same : IsPlaceAfter mid new

  module _ (old mid : Place (Told K V)) (J I : List (Told K V)) where
    -- the turn may end
    pub may_leave : (n : ℕ) (P : List (Told K V) → List (Told K V) → Type 0) → Entered old mid J → old.number < old.writers → n ≡ old.number → Adds eq m n J I P → Grows event_by mid.number mid.writers mid.seen I
    may_leave n P e below is a =
        subst (λ (s : Place (Told K V)). Grows event_by s.number s.writers s.seen I) (sym e.is) (grows old.number old.writers J I P below (subst (λ n. Adds eq m n J I P) is a))

    pub may_leave_tasks : (z : ℕ) (P : List (Told K V) → List (Told K V) → Type 0) → Entered old mid J → (a : Adds eq m z J I P) → a.own ≡ [] → Grows event_by mid.number mid.writers mid.seen I
    may_leave_tasks z P e a none = subst (λ (s : Place (Told K V)). Grows event_by s.number s.writers s.seen I) (sym e.is) (grows_by_tasks old.number old.writers z J I P a none)

    module _ {H : Type 0} (p : PassView H) (new : Place (Told K V)) (P : List (Told K V) → List (Told K V) → List (Told K V) → Type 0) where
      -- the turn of a seat with this pass
      pub turned : (n : ℕ) → Entered old mid J → Ended mid new I → n ≡ old.number → Adds eq m n J I (P J) → Turn eq m (seated p old) (seated p new) P
      turned n e z is b =
          let a : Adds eq m old.number J I (P J) = subst (λ n. Adds eq m n J I (P J)) is b in
          let after : IsPlaceAfter old new = subst (λ s. IsPlaceAfter s new) e.is z.same in
          let number : new.number ≡ old.number = ap (λ (s : Place (Told K V)). s.number) after in
          let count : new.turns ≡ old.turns + 1 = z.turns ∙ ap (λ (s : Place (Told K V)). s.turns + 1) e.is in
          let all : new.seen ≡ J ++ (a.own ++ a.work) = z.seen ∙ a.journal in
          let legal : IsLawfulJournal eq m new.seen = subst (IsLawfulJournal eq m) (sym z.seen) a.lawful in record {
            found = J;
            begins = e.begins;
            found_mine = e.found;
            found_floor = e.floor;
            adds = record {
              own = a.own;
              work = a.work;
              journal = all;
              by = a.by;
              of_tasks = a.of_tasks;
              lawful = legal;
              did = a.did;
            };
            mine = z.mine ∙ (ap (λ n. events_by event_by n new.seen) number ∙ (ap (events_by event_by old.number) all ∙ (mine_more old.number J a.own a.work a.by a.of_tasks ∙ ap (λ l. l ++ a.own) e.found)));
            turns = count;
            later = record {
              same = ap (seated p) after;
              turns = omega arith;
              begins = (e.begins.0 ++ (a.own ++ a.work), all ∙ (ap (λ l. l ++ (a.own ++ a.work)) e.begins.1 ∙ append_assoc old.seen e.begins.0 (a.own ++ a.work)));
              lawful = legal;
              mine = z.mine;
              noted = z.noted;
              below = z.below;
              floor = subst (λ (s : Place (Told K V)). s.floor ≤ new.floor) e.is z.floor.0;
              newest = z.floor.1;
            };
          }

      pub turned_any : (w : ℕ) → Entered old mid J → Ended mid new I → (a : Adds eq m w J I (P J)) → a.own ≡ [] → Turn eq m (seated p old) (seated p new) P
      turned_any w e z a none = turned old.number e z refl (of_any old.number w J I (P J) a none)

      pub any_found : (w : ℕ) (e : Entered old mid J) (z : Ended mid new I) (a : Adds eq m w J I (P J)) (none : a.own ≡ []) → (turned_any w e z a none).found ≡ J
      unfolding turned_any turned
      any_found w e z a none = refl

-- the number of two seats that are the same
pub number_of : {E : Type 0} {s u : SeatView E} → s ≡ u → s.number ≡ u.number
number_of {E} e = ap (λ (x : SeatView E). x.number) e

module _ {K V : Type 0} (eq : K → K → Bool) (m : Meaning K V) where
  pub turn_so : (old new : SeatView (Told K V)) (P Q : List (Told K V) → List (Told K V) → List (Told K V) → Type 0) → Turn eq m old new P
      → ((found own work : List (Told K V)) → P found own work → Q found own work) → Turn eq m old new Q
  turn_so old new P Q t f = record {
    found = t.found;
    begins = t.begins;
    found_mine = t.found_mine;
    found_floor = t.found_floor;
    adds = record {
      own = t.adds.own;
      work = t.adds.work;
      journal = t.adds.journal;
      by = t.adds.by;
      of_tasks = t.adds.of_tasks;
      lawful = t.adds.lawful;
      did = f t.found t.adds.own t.adds.work t.adds.did;
    };
    mine = t.mine;
    turns = t.turns;
    later = t.later;
  }

  -- what the pass of a seat does before its turn does not matter
  abbrev pub turn_of_pass : (old new : SeatView (Told K V)) (places : List ℕ) (empties : ℕ) (P : List (Told K V) → List (Told K V) → List (Told K V) → Type 0)
      → Turn eq m (record old { places = places; empties = empties }) new P → Turn eq m old new P
  turn_of_pass old new places empties P t = record {
    found = t.found;
    begins = t.begins;
    found_mine = t.found_mine;
    found_floor = t.found_floor;
    adds = t.adds;
    mine = t.mine;
    turns = t.turns;
    later = record {
      same = t.later.same;
      turns = t.later.turns;
      begins = t.later.begins;
      lawful = t.later.lawful;
      mine = t.later.mine;
      noted = t.later.noted;
      below = t.later.below;
      floor = t.later.floor;
      newest = t.later.newest;
    };
  }

  -- later than later
  pub later_later : (a b c : SeatView (Told K V)) → Later eq m a b → Later eq m b c → Later eq m a c
  later_later a b c p q = record {
    same = q.same ∙ ap (λ (s : SeatView (Told K V)). record s { away = true; seen = c.seen; mine = c.mine; floor = c.floor; left = c.left; turns = c.turns; places = c.places; empties = c.empties }) p.same;
    turns = (let x = p.turns in let y = q.turns in omega arith);
    begins = (p.begins.0 ++ q.begins.0, q.begins.1 ∙ (ap (λ l. l ++ q.begins.0) p.begins.1 ∙ append_assoc a.seen p.begins.0 q.begins.0));
    lawful = q.lawful;
    mine = q.mine;
    noted = q.noted;
    below = q.below;
    floor = (let x = p.floor in let y = q.floor in omega arith);
    newest = q.newest;
  }

  same_mine : (mid new : SeatView (Told K V)) → Turn eq m mid new (λ found own work. own ≡ []) → new.mine ≡ mid.mine
  same_mine mid new t = t.mine ∙ (ap (λ l. mid.mine ++ l) t.adds.did ∙ append-nil mid.mine)

  -- one more turn of work
  pub work_later : (old mid new : SeatView (Told K V)) → Works eq m old mid → Turn eq m mid new (λ found own work. own ≡ []) → Later eq m old new × (new.mine ≡ old.mine)
  work_later old mid new rests t = (t.later, same_mine old new t)
  work_later old mid new (works w u) t = let r = work_later old _ mid w u in (later_later old mid new r.0 t.later, same_mine mid new t ∙ r.1)

  -- works after works
  pub works_both : (a b c : SeatView (Told K V)) → Works eq m a b → Works eq m b c → Works eq m a c
  works_both a b c w rests = w
  works_both a b c w (works {mid} u t) = works (works_both a b mid w u) t
