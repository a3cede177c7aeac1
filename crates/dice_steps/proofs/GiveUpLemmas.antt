-- A task is given up with all that ask for it: what holds between calls goes on, and which other tasks stay out.
use Rattle.std.proofs.Common.{◌≡◌, ◌⊎◌, inl, inr, ℕ, Bool, true, false, cond, not, ◌&&◌, ◌||◌, List, [], ◌∷◌, ◌++◌, map, reverse, Option, Some, None, refl, sym, ap, ◌∙◌, subst, append_assoc}
use Rattle.std.specs.Option.{option_map}
use Rattle.std.specs.List.{AllByRecursion, list_any}
use Rattle.std.proofs.lemmas.List.{reverse-append}
use Rattle.std.proofs.lemmas.Option.{none-some, same_Some}
use Rattle.dice_key.specs.Meaning.{Meaning}
use Rattle.dice_key.specs.Lawful.{IsEquality}
use Rattle.task_share.specs.Asked.{Asked, IsDone, Cascade}
use Rattle.task_share.specs.Seen.{Share, task_at, is_live, asked_of}
use Rattle.injected.specs.Seen.{Seen}
use Rattle.journal.specs.declared.event.Told.{Told}
use Rattle.journal.specs.declared.event.Told.TheVariants.{Drop}
use Rattle.journal.specs.Events.{ended_at}
use Rattle.versioned_graph.specs.Entries.{Stored}
use Rattle.core_laws.specs.Tasks.{IsOut, Outcome, WithCycle, WithNothing, goes_on, is_going}
use Rattle.core_laws.specs.Stands.{VersionStands}
use Rattle.core_laws.specs.Desk.{World}
use Rattle.core_laws.proofs.Shapes.{same_or_other, not_both}
use Rattle.core_laws.proofs.StepsWanted.{IsOfTask}
use Rattle.core_laws.proofs.Turns.{stands_here}
use Rattle.dice_steps.specs.AtHand.{AtHand}
use Rattle.dice_tasks.specs.Helds.{Held, task_of, held_of, held_ended}
use Rattle.dice_tasks.specs.Hands.{DeskSeen, Working, desk_of, tasks_of}
use Rattle.dice_tasks.specs.Entries.{LeavesEntries, EntriesStand}
use Rattle.dice_tasks.specs.Endings.{ComesOf, told_end, EndsTasks, DropsTasks, AreTasked}
use Rattle.dice_steps.specs.Batches.{LeavesOut, GivesUp, ending_events}
use Rattle.dice_tasks.proofs.Dropped.{cascade_live, cascade_distinct}
use Rattle.dice_tasks.proofs.EntriesLemmas.{stand_after}
use Rattle.dice_steps.proofs.QuietLemmas.{cells_after, open_after}
use Rattle.lists.proofs.Distinct.{distinct_both}
use Rattle.lists.proofs.Each.{all_append}
use Rattle.lists.specs.Lists.{AreDistinct, Has}

-- ---- the events

module _ {K V : Type 0} (v : ℕ) where
  -- a task that is given up ends with a cycle, or with nothing
  gives_up : (path : Option (List K)) (o : Outcome K V) → ComesOf path o → ((p : List K) × (o ≡ WithCycle p)) ⊎ (o ≡ WithNothing)
  gives_up None o c = inr c
  gives_up (Some p) o c = inl (p, c)

  -- so each event of such an end says so
  told_so : (P : Told K V → Type 0) (k : K) → ((p : List K) → P (told_end v k (WithCycle p))) → P (told_end v k WithNothing) → (path : Option (List K)) (o : Outcome K V) → ComesOf path o → P (told_end v k o)
  told_so P k a b path o c = elim (gives_up path o c) as (λ _. P (told_end v k o)) [
    | inl e ↦ subst (λ (z : Outcome K V). P (told_end v k z)) (sym e.1) (a e.0)
    | inr e ↦ subst (λ (z : Outcome K V). P (told_end v k z)) (sym e) b
  ]

  ends_all : (P : Told K V → Type 0) → ((k : K) (p : List K) → P (told_end v k (WithCycle p))) → ((k : K) → P (told_end v k WithNothing)) → (path : Option (List K)) (os : List (K × Outcome K V)) → ((p : K × Outcome K V) → Has os p → ComesOf path p.1)
      → AllByRecursion P (map (λ (p : K × Outcome K V). told_end v p.0 p.1) os)
  ends_all P a b path [] c = tt
  ends_all P a b path (x ∷ os) c = (told_so P x.0 (a x.0) (b x.0) path x.1 (c x (inl refl)), ends_all P a b path os (λ p i. c p (inr i)))

  drops_all : (P : Told K V → Type 0) → ((k : K) → P (Drop v k)) → (ds : List K) → AllByRecursion P (map (Drop v) ds)
  drops_all P a [] = tt
  drops_all P a (x ∷ ds) = (a x, drops_all P a ds)

  -- the events are of tasks, and leave the entries
  pub ending_tasks : (path : Option (List K)) (os : List (K × Outcome K V)) (ds : List K) → ((p : K × Outcome K V) → Has os p → ComesOf path p.1) → AllByRecursion IsOfTask (ending_events v os ds)
  ending_tasks path os ds c = all_append IsOfTask (map (λ (p : K × Outcome K V). told_end v p.0 p.1) os) (map (Drop v) ds) (ends_all IsOfTask (λ k p. tt) (λ k. tt) path os c) (drops_all IsOfTask (λ k. tt) ds)

  pub ending_leaves : (path : Option (List K)) (os : List (K × Outcome K V)) (ds : List K) → ((p : K × Outcome K V) → Has os p → ComesOf path p.1) → AllByRecursion LeavesEntries (ending_events v os ds)
  ending_leaves path os ds c = all_append LeavesEntries (map (λ (p : K × Outcome K V). told_end v p.0 p.1) os) (map (Drop v) ds) (ends_all LeavesEntries (λ k p. tt) (λ k. tt) path os c) (drops_all LeavesEntries (λ k. tt) ds)

  -- the last event that is no Drop is such an end
  pub ended_last : (path : Option (List K)) (J : List (Told K V)) (os : List (K × Outcome K V)) (x : K × Outcome K V) → Has os x → ((p : K × Outcome K V) → Has os p → ComesOf path p.1) → ended_at (reverse (J ++ map (λ (p : K × Outcome K V). told_end v p.0 p.1) os)) ≡ Some v
  ended_last path J [] x i c = absurd i
  ended_last path J (y ∷ []) x i c = ap ended_at (reverse-append J (told_end v y.0 y.1 ∷ [])) ∙ told_so (λ (e : Told K V). ended_at (e ∷ reverse J) ≡ Some v) y.0 (λ p. refl) refl path y.1 (c y (inl refl))
  ended_last path J (y ∷ z ∷ os) x i c =
      ap (λ (I : List (Told K V)). ended_at (reverse I)) (sym (append_assoc J (told_end v y.0 y.1 ∷ []) (map (λ (p : K × Outcome K V). told_end v p.0 p.1) (z ∷ os))))
      ∙ ended_last path (J ++ told_end v y.0 y.1 ∷ []) (z ∷ os) z (inl refl) (λ p j. c p (inr j))

-- ---- which tasks ended, and which were dropped

module _ {K : Type 0} (eq : K → K → Bool) (equality : IsEquality eq) where
  -- a key whose task is not at work is not dropped
  pub spared : (ds : List K) (s t : Asked K) (k : K) → Cascade eq s ds t → s.live k ≡ false → list_any (eq k) ds ≡ false
  spared [] s t k c off = refl
  spared (x ∷ ds) s t k c off = elim (same_or_other eq equality k x) as (λ _. list_any (eq k) (x ∷ ds) ≡ false) [
    | inl e ↦ absurd (not_both (subst (λ z. s.live z ≡ true) (sym e) c.1.taken) off)
    | inr n ↦ ap (λ b. b || list_any (eq k) ds) n ∙ spared ds c.0 t k c.2 (c.1.live k ∙ ap (λ b. b && not (eq x k)) off)
  ]

module _ {K V : Type 0} (eq : K → K → Bool) (equality : IsEquality eq) where
  -- a key is among those whose tasks ended, or not
  among : (q : K) (os : List (K × Outcome K V)) → ((p : K × Outcome K V) × Has os p × (p.0 ≡ q)) ⊎ ((p : K × Outcome K V) → Has os p → p.0 ≡ q → ⊥)
  among q [] = inr (λ p i e. i)
  among q (x ∷ os) = elim (same_or_other eq equality x.0 q) as (λ _. ((p : K × Outcome K V) × Has (x ∷ os) p × (p.0 ≡ q)) ⊎ ((p : K × Outcome K V) → Has (x ∷ os) p → p.0 ≡ q → ⊥)) [
    | inl e ↦ inl (x, inl refl, e)
    | inr n ↦ elim (among q os) as (λ _. ((p : K × Outcome K V) × Has (x ∷ os) p × (p.0 ≡ q)) ⊎ ((p : K × Outcome K V) → Has (x ∷ os) p → p.0 ≡ q → ⊥)) [
      | inl r ↦ inl (r.0, inr r.1, r.2)
      | inr r ↦ inr (λ p i e. elim i as (λ _. ⊥) [ inl j ↦ not_both (subst (λ z. eq z q ≡ true) (sym (ap (λ (y : K × Outcome K V). y.0) j ∙ e)) (equality.itself q)) n | inr j ↦ r p j e ])
    ]
  ]

  module _ (v : ℕ) (path : Option (List K)) (k : K) (os : List (K × Outcome K V)) (ds : List K) (ps rs qs : List (K × Share K (Held K V))) (d f e : DeskSeen K V) (ends : EndsTasks eq v path k os ps rs d f) (drops : DropsTasks eq v ds rs qs f e) where
    -- no task is told of twice
    pub told_once : AreDistinct (map (λ (p : K × Outcome K V). p.0) os ++ ds)
    told_once = distinct_both (map (λ (p : K × Outcome K V). p.0) os) ds ends.distinct (cascade_distinct eq equality ds (asked_of eq rs) (asked_of eq qs) drops.cascade)
        (λ x h i. (let r = key_of os x h in not_both (cascade_live eq equality ds (asked_of eq rs) (asked_of eq qs) drops.cascade x i) (subst (λ z. is_live eq rs z ≡ false) r.2 (ends.idle r.0 r.1))))
      where
        key_of : (xs : List (K × Outcome K V)) (x : K) → Has (map (λ (p : K × Outcome K V). p.0) xs) x → (p : K × Outcome K V) × Has xs p × (p.0 ≡ x)
        key_of [] x h = absurd h
        key_of (p ∷ xs) x (inl i) = (p, inl refl, i)
        key_of (p ∷ xs) x (inr h) = let r = key_of xs x h in (r.0, inr r.1, r.2)

    dropped_or : (q : K) → (task_at eq qs q ≡ None) ⊎ (task_at eq qs q ≡ task_at eq rs q)
    dropped_or q = by_test (list_any (eq q) ds) refl
      where
        by_test : (b : Bool) → list_any (eq q) ds ≡ b → (task_at eq qs q ≡ None) ⊎ (task_at eq qs q ≡ task_at eq rs q)
        by_test true i = inl (drops.tasks q ∙ ap (λ b. cond b None (task_at eq rs q)) i)
        by_test false i = inr (drops.tasks q ∙ ap (λ b. cond b None (task_at eq rs q)) i)

    pub given_up_out : LeavesOut eq k ps qs
    given_up_out = record {
      stay = λ q a n was. elim (dropped_or q) as (λ _. (task_at eq qs q ≡ Some (held_of a IsOut)) ⊎ (is_going (tasks_of eq qs q) ≡ false)) [
        | inl z ↦ inr (ap (λ (o : Option (Held K V)). is_going (option_map task_of o)) z)
        | inr z ↦ elim (among q os) as (λ _. (task_at eq qs q ≡ Some (held_of a IsOut)) ⊎ (is_going (tasks_of eq qs q) ≡ false)) [
          | inl r ↦ (let w = ends.ended r.0 r.1 in inr (ap (λ (o : Option (Held K V)). is_going (option_map task_of o)) (z ∙ (ap (task_at eq rs) (sym r.2) ∙ w.3))))
          | inr r ↦ inl (z ∙ (ends.others q r ∙ was))
        ]
      ];
      only = λ q a is. elim (dropped_or q) as (λ _. task_at eq ps q ≡ Some (held_of a IsOut)) [
        | inl z ↦ absurd (none-some (held_of a IsOut) (sym z ∙ is))
        | inr z ↦ elim (among q os) as (λ _. task_at eq ps q ≡ Some (held_of a IsOut)) [
          | inl r ↦ (let w = ends.ended r.0 r.1 in
              let same : held_ended w.0.name r.0.1 ≡ held_of a IsOut = same_Some (held_ended w.0.name r.0.1) (held_of a IsOut) (sym w.3 ∙ (ap (task_at eq rs) r.2 ∙ (sym z ∙ is))) in
              absurd (not_both (ap (λ (h : Held K V). goes_on h.standing) same) refl))
          | inr r ↦ sym (ends.others q r) ∙ (sym z ∙ is)
        ]
      ];
    }

    -- the task of k has ended, and stays
    pub given_up : is_live eq rs k ≡ false → GivesUp eq v path k ps d qs e
    given_up off =
        let first = ends.first in
        let w = ends.ended (k, first.0) first.1 in
        let kept : task_at eq qs k ≡ task_at eq rs k = drops.tasks k ∙ ap (λ b. cond b None (task_at eq rs k)) (spared eq equality ds (asked_of eq rs) (asked_of eq qs) k drops.cascade off) in record {
          was = w.0;
          there = w.1;
          is = kept ∙ (w.3 ∙ ap (λ (o : Outcome K V). Some (held_ended w.0.name o)) (ends.comes (k, first.0) first.1));
          out = given_up_out;
          outcomes = os;
          each = ends.comes;
          drops = ds;
          told = drops.events ∙ (ap (λ (xs : List (Told K V)). xs ++ map (Drop v) ds) ends.events ∙ append_assoc d.events (map (λ (p : K × Outcome K V). told_end v p.0 p.1) os) (map (Drop v) ds));
        }

  -- what has ended is not at work
  pub off_after : (m : Meaning K V) (v : ℕ) (path : Option (List K)) (k : K) (os : List (K × Outcome K V)) (ps rs : List (K × Share K (Held K V))) (d f : DeskSeen K V) → EndsTasks eq v path k os ps rs d f → (W : List K) (w : World K V) (owed : ℕ) → Working eq m v W w owed rs f → is_live eq rs k ≡ false
  off_after m v path k os ps rs d f ends W w owed work =
      let t = ends.ended (k, ends.first.0) ends.first.1 in
      let here : VersionStands eq m (reverse f.events) v W (asked_of eq rs) (tasks_of eq rs) = stands_here eq equality m (reverse f.events) v W (asked_of eq rs) (tasks_of eq rs) w (desk_of f) owed work.stand in
      here.live k ∙ ap (λ (o : Option (Held K V)). is_going (option_map task_of o)) t.3

  -- what holds between calls holds again
  pub at_hand_after : (m : Meaning K V) (v : ℕ) (path : Option (List K)) (k : K) (os : List (K × Outcome K V)) (ds : List K) (ps rs qs : List (K × Share K (Held K V))) (d f e : DeskSeen K V) → EndsTasks eq v path k os ps rs d f → DropsTasks eq v ds rs qs f e → f.ended ≡ [] → AreTasked eq qs → IsDone (asked_of eq qs)
      → (w : World K V) (owed : ℕ) (es : List (K × Stored K V)) (s : Seen K V) → AtHand eq m v w owed ps d es s → Working eq m v [] w owed qs e → AtHand eq m v w owed qs e es s
  at_hand_after m v path k os ds ps rs qs d f e ends drops none tasked done w owed es s hand work =
      let told : e.events ≡ d.events ++ ending_events v os ds = drops.events ∙ (ap (λ (xs : List (Told K V)). xs ++ map (Drop v) ds) ends.events ∙ append_assoc d.events (map (λ (p : K × Outcome K V). told_end v p.0 p.1) os) (map (Drop v) ds)) in
      let tasks = ending_tasks v path os ds ends.comes in record {
        working = work;
        told = drops.ended ∙ none;
        tasked = tasked;
        done = done;
        opened = open_after d.events e.events (ending_events v os ds) v told tasks hand.opened;
        entries = subst (λ (I : List (Told K V)). EntriesStand eq m (reverse I) es) (sym told) (stand_after eq m es d.events (ending_events v os ds) (ending_leaves v path os ds ends.comes) hand.entries);
        cells = cells_after eq s d.events e.events (ending_events v os ds) told tasks hand.cells;
      }
