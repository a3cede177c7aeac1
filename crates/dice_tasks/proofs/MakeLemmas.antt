-- A task is made: what holds while a call works goes on.
use Rattle.std.proofs.Common.{◌≡◌, ◌≤◌, ◌<◌, ◌+◌, ◌&&◌, ◌||◌, not, ℕ, Bool, true, false, cond, eqb, List, [], ◌∷◌, ◌++◌, length, reverse, Option, Some, None, refl, sym, ap, ◌∙◌, subst, arith, eq-eqb}
use Rattle.std.specs.Option.{option_map}
use Rattle.std.proofs.lemmas.List.{reverse-append}
use Rattle.std.proofs.lemmas.Option.{same_Some}
use Rattle.std.proofs.lemmas.Bool.{false≢true}
use Rattle.dice_key.specs.Meaning.{Meaning, Answered}
use Rattle.dice_key.specs.Lawful.{IsLawful, IsEquality}
use Rattle.task_share.specs.Asked.{By, Promised, Tasked, is_by}
use Rattle.task_share.specs.Seen.{Share, task_at, is_live, asks, asked_of, KeepsAsks, KeepsRoom, KeepsOtherRoom}
use Rattle.journal.specs.declared.event.Told.{Told}
use Rattle.journal.specs.declared.event.Told.TheVariants.{Start, Keep}
use Rattle.journal.specs.declared.event.Reason.{Reason}
use Rattle.journal.specs.Events.{commits_of, open_count, decided}
use Rattle.journal.specs.Law.{IsWanted, IsTrueCause, KeepsValue}
use Rattle.core_laws.specs.Tasks.{Task, Ended, WithValue, WithNothing, goes_on, is_going}
use Rattle.core_laws.specs.Stands.{VersionStands, IsStanding, WasSeen}
use Rattle.core_laws.specs.Changes.{Puts, SameAsks}
use Rattle.core_laws.specs.Desk.{World, Desk, AreAll, DeskTurns, Stand, is_ready, is_out, ready_in, out_in}
use Rattle.core_laws.proofs.Counts.{all_alike}
use Rattle.core_laws.proofs.Shapes.{idle_batch, asks_nothing}
use Rattle.core_laws.proofs.Held.{wanted_once}
use Rattle.core_laws.proofs.Turns.{stands_here}
use Rattle.core_laws.proofs.Steps.{owes_less}
use Rattle.core_laws.proofs.StepsMakes.{starts_stand, matches_stand, checks_stand}
use Rattle.core_laws.proofs.StepsWanted.{AllWanted, all_wanted_on, all_wanted_made, all_wanted_ended, wanted_on}
use Rattle.dice_tasks.specs.Helds.{Held, task_of, held_ended}
use Rattle.dice_tasks.specs.Hands.{DeskSeen, desk_of, Stays, Readies, Working, AreNamed, tasks_of, seen_world, with_event, with_made}
use Rattle.versioned_graph.specs.Entries.{Stored}
use Rattle.dice_tasks.specs.Entries.{EntriesStand, IsMatched}
use Rattle.dice_tasks.proofs.EntriesLemmas.{stand_start}
use Rattle.dice_tasks.specs.Makings.{IsFree, MayMake, Makes, MakesEnded, held_run, held_check}
use Rattle.lists.specs.Lists.{Has}

-- the same things pass the test, in another order
all_stay : {X : Type 0} (f : X → Bool) (xs ys : List X) → Stays xs ys → AreAll f xs → AreAll f ys
all_stay f xs ys s a = record { passes = λ x h. a.passes x (s.only x h); found = λ x h. s.kept x (a.found x h); distinct = s.distinct }

module _ {K V : Type 0} where
  -- a key that has no task, or one that was given up, has none that is ready, out or at work
  pub record Idle (o : Option (Task K V)) : Type 0 where
    pub unready : is_ready o ≡ false
    pub home : is_out o ≡ false
    pub still : is_going o ≡ false

  pub free_idle : (o : Option (Held K V)) → IsFree o → Idle (option_map task_of o)
  free_idle None f = record { unready = refl; home = refl; still = refl }
  free_idle (Some h) f = record { unready = ap ready_in f; home = ap out_in f; still = ap goes_on f }

  -- what is counted, if such a key's task is put: one that is ready, or one that has ended
  turns_ready : (v : ℕ) (k : K) (o : Option (Task K V)) (t : Task K V) (d e : Desk K) → Idle o → is_ready (Some t) ≡ true → is_out (Some t) ≡ false → is_going (Some t) ≡ true
      → e.ready ≡ d.ready ++ (v, k) ∷ [] → e.out ≡ d.out → e.live ≡ d.live + 1 → DeskTurns v k o (Some t) d e
  turns_ready v k o t d e i a b c r n l = record {
    ready = rw (i.unready, a) r;
    out = rw (i.home, b) n;
    live = rw (i.still, c) l;
  }

  turns_ended : (v : ℕ) (k : K) (o : Option (Task K V)) (t : Task K V) (d e : Desk K) → Idle o → is_ready (Some t) ≡ false → is_out (Some t) ≡ false → is_going (Some t) ≡ false
      → e.ready ≡ d.ready → e.out ≡ d.out → e.live ≡ d.live → DeskTurns v k o (Some t) d e
  turns_ended v k o t d e i a b c r n l = record {
    ready = rw (i.unready, a) r;
    out = rw (i.home, b) n;
    live = rw (i.still, c) l;
  }

module _ {K V : Type 0} (eq : K → K → Bool) (equality : IsEquality eq) (v : ℕ) (k : K) (t : Held K V) (ps qs : List (K × Share K (Held K V)))
    (tasks : (q : K) → task_at eq qs q ≡ cond (eq k q) (Some t) (task_at eq ps q)) where
  pub puts : Puts eq k (Some (task_of t)) (tasks_of eq ps) (tasks_of eq qs)
  puts q = ap (option_map task_of) (tasks q) ∙ by_test (eq k q)
    where
      by_test : (b : Bool) → option_map task_of (cond b (Some t) (task_at eq ps q)) ≡ cond b (Some (task_of t)) (option_map task_of (task_at eq ps q))
      by_test true = refl
      by_test false = refl

  -- each task still has the name of its place
  pub named_on : (t.name.version ≡ v) × (t.name.key ≡ k) → AreNamed eq v ps → AreNamed eq v qs
  named_on n named q x e = by_test (eq k q) refl (sym (tasks q) ∙ e)
    where
      by_test : (b : Bool) → eq k q ≡ b → cond b (Some t) (task_at eq ps q) ≡ Some x → (x.name.version ≡ v) × (x.name.key ≡ q)
      by_test true i p = let z : t ≡ x = same_Some t x p in subst (λ y. (y.name.version ≡ v) × (y.name.key ≡ q)) z (n.0, n.1 ∙ equality.same k q i)
      by_test false i p = named q x p

  -- the same tasks are out
  pub out_alike : (w : World K V) → is_out (tasks_of eq ps k) ≡ false → is_out (Some (task_of t)) ≡ false → (p : ℕ × K) → is_out ((seen_world eq v qs w).tasks p.0 p.1) ≡ is_out ((seen_world eq v ps w).tasks p.0 p.1)
  out_alike w was is p = by_version (eqb p.0 v)
    where
      by_test : (b : Bool) → eq k p.1 ≡ b → is_out (cond b (Some (task_of t)) (tasks_of eq ps p.1)) ≡ is_out (tasks_of eq ps p.1)
      by_test true i = is ∙ sym (ap (λ q. is_out (tasks_of eq ps q)) (sym (equality.same k p.1 i)) ∙ was)
      by_test false i = refl

      by_version : (b : Bool) → is_out (cond b (tasks_of eq qs) (w.tasks p.0) p.1) ≡ is_out (cond b (tasks_of eq ps) (w.tasks p.0) p.1)
      by_version true = ap is_out (puts p.1) ∙ by_test (eq k p.1) refl
      by_version false = refl

module _ {K V : Type 0} (eq : K → K → Bool) (m : Meaning K V) (v : ℕ) (w : World K V) (W : List K) where
  -- a key without a task at work was not decided
  undecided : (R : List (Told K V)) (ps : List (K × Share K (Held K V))) (k : K) → VersionStands eq m R v W (asked_of eq ps) (tasks_of eq ps) → 0 < open_count R v → (o : Option (Held K V)) → task_at eq ps k ≡ o → IsFree o → decided eq R v k ≡ None
  undecided R ps k h one None e f = h.fresh k (ap (option_map task_of) e) one
  undecided R ps k h one (Some x) e f =
      let s : IsStanding eq m R v k (Ended WithNothing) = subst (IsStanding eq m R v k) f (h.each k (task_of x) (ap (option_map task_of) e)).standing in
      s.1

  -- what holds over the journal's events, read backwards
  works_on : (S : List (Told K V)) (qs : List (K × Share K (Held K V))) (e : DeskSeen K V) (owed : ℕ) → reverse e.events ≡ S → Stand eq m S v W (seen_world eq v qs w) (desk_of e) owed → AreAll (λ (p : ℕ × K). is_out ((seen_world eq v qs w).tasks p.0 p.1)) e.out
      → AreNamed eq v qs → AllWanted eq m S v (asked_of eq qs) → Working eq m v W w owed qs e
  works_on S qs e owed r s o n a = record {
    stand = subst (λ R. Stand eq m R v W (seen_world eq v qs w) (desk_of e) owed) (sym r) s;
    outs = o;
    named = n;
    wanted = λ q l. subst (λ R. IsWanted eq m R v q) (sym r) (a q l);
  }

  told_more : (d e : DeskSeen K V) (x : Told K V) → e.events ≡ d.events ++ x ∷ [] → reverse e.events ≡ x ∷ reverse d.events
  told_more d e x q = ap reverse q ∙ reverse-append d.events (x ∷ [])

module _ {K V : Type 0} (eq : K → K → Bool) (equality : IsEquality eq) (m : Meaning K V) (law : IsLawful m) (v : ℕ) (k : K) (ps qs : List (K × Share K (Held K V))) (d e : DeskSeen K V) where
  -- there is no task of k at hand
  pub idle_at_hand : (w : World K V) (W : List K) (owed : ℕ) → Working eq m v W w owed ps d → IsFree (task_at eq ps k) → (is_live eq ps k ≡ false) × (Has d.ready (v, k) → ⊥) × (Has d.out (v, k) → ⊥)
  idle_at_hand w W owed h free =
      let i = free_idle (task_at eq ps k) free in
      let s = stands_here eq equality m (reverse d.events) v W (asked_of eq ps) (tasks_of eq ps) w (desk_of d) owed h.stand in (
        s.live k ∙ i.still,
        λ r. false≢true (sym (here is_ready i.unready) ∙ h.stand.ready.passes (v, k) r),
        λ o. false≢true (sym (here is_out i.home) ∙ h.outs.passes (v, k) o),
      )
    where
      here : (f : Option (Task K V) → Bool) → f (tasks_of eq ps k) ≡ false → f ((seen_world eq v ps w).tasks v k) ≡ false
      here f e = ap (λ b. f (cond b (tasks_of eq ps) (w.tasks v) k)) (eq-eqb v v refl) ∙ e

  -- a task that computes was made, and a Start was told
  pub run_works : (w : World K V) (W : List K) (owed born : ℕ) (c : Reason K) (t : Held K V) → Working eq m v W w (owed + 3) ps d → MayMake eq m (reverse d.events) v k born → IsFree (task_at eq ps k) → IsTrueCause eq m (reverse d.events) v k c
      → t ≡ held_run (record { version = v; key = k; born = born }) → Makes eq k t ps qs → Readies (v, k) (with_made (with_event d (Start v k c))) e → Working eq m v W w owed qs e
  run_works w W owed born c t h may free cause is made desk =
      let R : List (Told K V) = reverse d.events in
      let x : Told K V = Start v k c in
      let n : Held K V = held_run (record { version = v; key = k; born = born }) in
      let tasks : ((q : K) → task_at eq qs q ≡ cond (eq k q) (Some n) (task_at eq ps q)) = subst (λ y. (q : K) → task_at eq qs q ≡ cond (eq k q) (Some y) (task_at eq ps q)) is made.tasks in
      let once = wanted_once eq m equality R v k h.stand.lawful may.wanted in
      let here = stands_here eq equality m R v W (asked_of eq ps) (tasks_of eq ps) w (desk_of d) (owed + 3) h.stand in
      let idle = free_idle (task_at eq ps k) free in
      let stood = h.stand.room in
      let live = desk.rest.live in
      let spare = desk.rest.spare in
      let stand = starts_stand eq equality m law R v w W (asked_of eq ps) (asked_of eq qs) (tasks_of eq ps) (tasks_of eq qs) k born c (desk_of d) (desk_of e) (owed + 3) owed h.stand
      may.computed may.wanted may.within once.0 once.1 once.2 (undecided eq m v w W R ps k here once.3 (task_at eq ps k) refl free) idle.still cause may.born
      (puts eq equality v k n ps qs tasks) made.live made.asks (turns_ready v k (tasks_of eq ps k) (task_of n) (desk_of d) (desk_of e) idle refl refl refl desk.ready desk.count live) (omega arith) in
      works_on eq m v w W (x ∷ R) qs e owed (told_more eq m v w W d e x desk.rest.events) stand.1
      (all_stay _ d.out e.out desk.out (all_alike _ _ (out_alike eq equality v k n ps qs tasks w idle.home refl) d.out h.outs))
      (named_on eq equality v k n ps qs tasks (refl, refl) h.named)
      (all_wanted_made eq equality m law (x ∷ R) v (asked_of eq ps) (asked_of eq qs) (all_wanted_on eq equality m law R v (asked_of eq ps) x tt h.wanted) k made.live (wanted_on eq equality m law R v k x tt may.wanted))

  -- a task that checks was made
  pub check_works : (w : World K V) (W : List K) (owed born : ℕ) (x : V) (T : List (Answered K V)) (b : ℕ) (t : Held K V) → Working eq m v W w (owed + 2) ps d → MayMake eq m (reverse d.events) v k born → IsFree (task_at eq ps k)
      → WasSeen eq m (reverse d.events) k x T b → t ≡ held_check (record { version = v; key = k; born = born }) x T b → Makes eq k t ps qs → Readies (v, k) (with_made d) e → Working eq m v W w owed qs e
  check_works w W owed born x T b t h may free seen is made desk =
      let R : List (Told K V) = reverse d.events in
      let n : Held K V = held_check (record { version = v; key = k; born = born }) x T b in
      let tasks : ((q : K) → task_at eq qs q ≡ cond (eq k q) (Some n) (task_at eq ps q)) = subst (λ y. (q : K) → task_at eq qs q ≡ cond (eq k q) (Some y) (task_at eq ps q)) is made.tasks in
      let once = wanted_once eq m equality R v k h.stand.lawful may.wanted in
      let here = stands_here eq equality m R v W (asked_of eq ps) (tasks_of eq ps) w (desk_of d) (owed + 2) h.stand in
      let idle = free_idle (task_at eq ps k) free in
      let stood = h.stand.room in
      let live = desk.rest.live in
      let spare = desk.rest.spare in
      let stand = checks_stand eq equality m law R v w W (asked_of eq ps) (asked_of eq qs) (tasks_of eq ps) (tasks_of eq qs) k born x T b (desk_of d) (desk_of e) (owed + 2) owed h.stand
      may.computed may.within once.0 once.1 once.2 (undecided eq m v w W R ps k here once.3 (task_at eq ps k) refl free) idle.still seen may.born
      (puts eq equality v k n ps qs tasks) made.live made.asks (turns_ready v k (tasks_of eq ps k) (task_of n) (desk_of d) (desk_of e) idle refl refl refl desk.ready desk.count live) (omega arith) in
      works_on eq m v w W R qs e owed (ap reverse desk.rest.events) stand
      (all_stay _ d.out e.out desk.out (all_alike _ _ (out_alike eq equality v k n ps qs tasks w idle.home refl) d.out h.outs))
      (named_on eq equality v k n ps qs tasks (refl, refl) h.named)
      (all_wanted_made eq equality m law R v (asked_of eq ps) (asked_of eq qs) h.wanted k made.live may.wanted)

  -- the asks are the same if the task of k, which asks for nothing, withdraws its own
  pub same_asks : (W : List K) (R : List (Told K V)) → VersionStands eq m R v W (asked_of eq ps) (tasks_of eq ps) → is_going (tasks_of eq ps k) ≡ false → ((q : K) (a : By K) → asks eq qs q a ≡ (asks eq ps q a && not (is_by eq (Tasked k) a))) → SameAsks eq (asked_of eq ps) (asked_of eq qs)
  same_asks W R h still off q a = off q a ∙ by_asker a
    where
      kept : (b : Bool) → (b && true) ≡ b
      kept true = refl
      kept false = refl

      by_test : (j : K) (b c : Bool) → asks eq ps q (Tasked j) ≡ b → eq k j ≡ c → (b && not c) ≡ b
      by_test j b false p i = kept b
      by_test j false true p i = refl
      by_test j true true p i = absurd (asks_nothing eq m R v W (asked_of eq ps) (tasks_of eq ps) h k (idle_batch (tasks_of eq ps k) still) q (subst (λ y. asks eq ps q (Tasked y) ≡ true) (sym (equality.same k j i)) p))

      by_asker : (a : By K) → (asks eq ps q a && not (is_by eq (Tasked k) a)) ≡ asks eq ps q a
      by_asker (Promised n) = kept (asks eq ps q (Promised n))
      by_asker (Tasked j) = by_test j (asks eq ps q (Tasked j)) (eq k j) refl refl

  -- a task that has ended with the value of a match was made, and a Keep was told
  pub match_works : (w : World K V) (W : List K) (owed born b : ℕ) (t : Held K V) → Working eq m v W w (owed + 1) ps d → MayMake eq m (reverse d.events) v k born → IsFree (task_at eq ps k) → (kept : KeepsValue eq m (reverse d.events) v k b)
      → t ≡ held_ended (record { version = v; key = k; born = born }) (WithValue kept.value) → MakesEnded eq k t ps qs → e ≡ with_event d (Keep v k b) → Working eq m v W w owed qs e
  match_works w W owed born b t h may free kept is made desk =
      let R : List (Told K V) = reverse d.events in
      let x : Told K V = Keep v k b in
      let n : Held K V = held_ended (record { version = v; key = k; born = born }) (WithValue kept.value) in
      let f : DeskSeen K V = with_event d x in
      let tasks : ((q : K) → task_at eq qs q ≡ cond (eq k q) (Some n) (task_at eq ps q)) = subst (λ y. (q : K) → task_at eq qs q ≡ cond (eq k q) (Some y) (task_at eq ps q)) is made.tasks in
      let once = wanted_once eq m equality R v k h.stand.lawful may.wanted in
      let here = stands_here eq equality m R v W (asked_of eq ps) (tasks_of eq ps) w (desk_of d) (owed + 1) h.stand in
      let idle = free_idle (task_at eq ps k) free in
      let stood = h.stand.room in
      let stand = matches_stand eq equality m law R v w W (asked_of eq ps) (asked_of eq qs) (tasks_of eq ps) (tasks_of eq qs) k born b (desk_of d) (desk_of f) (owed + 1) owed h.stand
      may.computed may.wanted may.within once.0 once.1 once.2 (undecided eq m v w W R ps k here once.3 (task_at eq ps k) refl free) idle.still kept may.born
      (puts eq equality v k n ps qs tasks) made.live (same_asks W R here idle.still made.asks) (turns_ended v k (tasks_of eq ps k) (task_of n) (desk_of d) (desk_of f) idle refl refl refl refl refl refl) (omega arith) in
      subst (λ z. Working eq m v W w owed qs z) (sym desk)
      (works_on eq m v w W (x ∷ R) qs f owed (told_more eq m v w W d f x refl) stand.1
      (all_alike _ _ (out_alike eq equality v k n ps qs tasks w idle.home refl) d.out h.outs)
      (named_on eq equality v k n ps qs tasks (refl, refl) h.named)
      (all_wanted_ended eq equality m law (x ∷ R) v (asked_of eq ps) (asked_of eq qs) (all_wanted_on eq equality m law R v (asked_of eq ps) x tt h.wanted) k made.live))

-- ---- what a make does, by the calls that it makes

module _ {K V : Type 0} (eq : K → K → Bool) (v : ℕ) (k : K) where
  -- a Start, or nothing, was told, and the task was made and is ready
  pub readies_of : (z q e : DeskSeen K V) (p : ℕ × K) → q ≡ z → p ≡ (v, k) → Readies p q e → Readies (v, k) z e
  readies_of z q e p i j r = subst (λ x. Readies (v, k) x e) i (subst (λ x. Readies x q e) j r)

module _ {K T : Type 0} (eq : K → K → Bool) (k : K) (t : T) (ps qs : List (K × Share K T)) where
  pub makes_of : ((q : K) → task_at eq qs q ≡ cond (eq k q) (Some t) (task_at eq ps q)) → ((q : K) → is_live eq qs q ≡ (eq k q || is_live eq ps q)) → KeepsAsks eq ps qs → KeepsRoom eq ps qs → Makes eq k t ps qs
  makes_of a b c d = record { tasks = a; live = λ q. b q ∙ by_test (eq k q) (is_live eq ps q); asks = c; room = d }
    where
      by_test : (x y : Bool) → (x || y) ≡ cond x true y
      by_test true y = refl
      by_test false y = refl

  -- the same of a task that has ended
  pub makes_ended_of : ((q : K) → task_at eq qs q ≡ cond (eq k q) (Some t) (task_at eq ps q)) → ((q : K) → is_live eq qs q ≡ (is_live eq ps q && not (eq k q))) → ((q : K) (a : By K) → asks eq qs q a ≡ (asks eq ps q a && not (is_by eq (Tasked k) a))) → KeepsOtherRoom eq k ps qs → MakesEnded eq k t ps qs
  makes_ended_of a b c d = record { tasks = a; live = λ q. b q ∙ by_test (eq k q) (is_live eq ps q); asks = c; room = d }
    where
      by_test : (x y : Bool) → (y && not x) ≡ cond x false y
      by_test true true = refl
      by_test true false = refl
      by_test false true = refl
      by_test false false = refl

module _ {K V : Type 0} (eq : K → K → Bool) (equality : IsEquality eq) (m : Meaning K V) (law : IsLawful m) (v : ℕ) (k : K) (ps qs : List (K × Share K (Held K V))) (d e : DeskSeen K V) where
  -- a match was kept, and its entry seen
  pub match_makes : (w : World K V) (W : List K) (owed born b : ℕ) (es fs : List (K × Stored K V)) (x : V) (t : Held K V) → Working eq m v W w (owed + 1) ps d → EntriesStand eq m (reverse d.events) es → MayMake eq m (reverse d.events) v k born → IsFree (task_at eq ps k)
      → IsMatched eq m (reverse d.events) es v k x b → t ≡ held_ended (record { version = v; key = k; born = born }) (WithValue x) → MakesEnded eq k t ps qs → e ≡ with_event d (Keep v k b)
      → ((R : List (Told K V)) (y : V) (c : ℕ) → EntriesStand eq m R es → v ≤ length (commits_of R) → IsMatched eq m R es v k y c → EntriesStand eq m (Keep v k c ∷ R) fs)
      → Working eq m v W w owed qs e × EntriesStand eq m (reverse e.events) fs
  match_makes w W owed born b es fs x t h stands may free found is made desk seen =
      let kept : KeepsValue eq m (reverse d.events) v k b = record { base = found.base; value = x; here = found.here; there = found.there; lasts = found.lasts } in (
        match_works eq equality m law v k ps qs d e w W owed born b t h may free kept is made desk,
        subst (λ R. EntriesStand eq m R fs) (sym (told_more eq m v w W d e (Keep v k b) (ap (λ (z : DeskSeen K V). z.events) desk))) (seen (reverse d.events) x b stands may.within found),
      )

  -- a run was made: the entries stand
  pub run_stands : (es : List (K × Stored K V)) (c : Reason K) → EntriesStand eq m (reverse d.events) es → Readies (v, k) (with_made (with_event d (Start v k c))) e → EntriesStand eq m (reverse e.events) es
  run_stands es c h r = subst (λ R. EntriesStand eq m R es) (sym (ap reverse r.rest.events ∙ reverse-append d.events (Start v k c ∷ []))) (stand_start eq m (reverse d.events) es h v k c)

  -- a check was made: they stand as before
  pub check_stands : (es : List (K × Stored K V)) → EntriesStand eq m (reverse d.events) es → Readies (v, k) (with_made d) e → EntriesStand eq m (reverse e.events) es
  check_stands es h r = subst (λ R. EntriesStand eq m R es) (sym (ap reverse r.rest.events)) h

  -- room for fewer events
  pub works_less : (w : World K V) (W : List K) (owed owed2 : ℕ) → owed2 ≤ owed → Working eq m v W w owed ps d → Working eq m v W w owed2 ps d
  works_less w W owed owed2 l h = record {
    stand = owes_less eq equality m law (reverse d.events) v (seen_world eq v ps w) W (desk_of d) owed owed2 h.stand l;
    outs = h.outs;
    named = h.named;
    wanted = h.wanted;
  }
