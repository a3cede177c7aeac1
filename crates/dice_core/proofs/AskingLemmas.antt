-- An ask that is left, with its version in hand.
use Rattle.std.proofs.Common.{◌≡◌, ◌<◌, inl, inr, ◌+◌, ℕ, Bool, true, not, ◌&&◌, List, [], ◌∷◌, ◌++◌, map, reverse, Some, refl, sym, ap, ◌∙◌, subst, arith}
use Rattle.std.specs.List.{AllByRecursion}
use Rattle.dice_key.specs.Meaning.{Meaning}
use Rattle.dice_key.specs.Lawful.{IsEquality, IsLawful}
use Rattle.task_share.specs.Asked.{Asked, By, Promised, is_by, IsDone, Cascade}
use Rattle.task_share.specs.Seen.{Share, task_at, asks, asked_of, KeepsTasks}
use Rattle.injected.specs.Seen.{Seen}
use Rattle.journal.specs.declared.event.Told.{Told}
use Rattle.journal.specs.declared.event.Told.TheVariants.{Leave, Drop}
use Rattle.journal.specs.Events.{open_count, ended_at}
use Rattle.versioned_graph.specs.Entries.{Stored}
use Rattle.core_laws.specs.Changes.{Leaves}
use Rattle.core_laws.specs.Desk.{World, Stand, AreAll, with_version, is_out}
use Rattle.core_laws.proofs.StepsAsks.{left_stand}
use Rattle.dice_core.specs.Askings.{IsAskAt}
use Rattle.dice_steps.specs.AtHand.{AtHand}
use Rattle.dice_steps.specs.Cells.{CellsStand}
use Rattle.dice_core.specs.Cores.{IsWorkAt}
use Rattle.dice_tasks.specs.Endings.{DropsTasks, AreTasked}
use Rattle.dice_tasks.specs.Entries.{EntriesStand}
use Rattle.dice_tasks.specs.Hands.{DeskSeen, desk_of, tasks_of, seen_world, with_event, Working, Cleaning}
use Rattle.dice_tasks.specs.Helds.{Held}
use Rattle.dice_tasks.proofs.EndsLemmas.{back_more, same_tasks}
use Rattle.dice_core.proofs.EventLemmas.{all_drops, all_works, entries_given_up, cells_works, count_works}
use Rattle.lists.specs.Lists.{Has}
use Rattle.std.proofs.lemmas.Bool.{and_parts}

-- what the cascade drops was at work
pub dropped_live : {K : Type 0} (eq : K → K → Bool) (ks : List K) (s t : Asked K) → Cascade eq s ks t → (q : K) → Has ks q → s.live q ≡ true
dropped_live eq [] s t c q h = absurd h
dropped_live eq (k ∷ ks) s t c q (inl i) = subst (λ z. s.live z ≡ true) i c.1.taken
dropped_live eq (k ∷ ks) s t c q (inr h) = (and_parts (s.live q) (not (eq k q)) (sym (c.1.live q) ∙ dropped_live eq ks c.0 t c.2 q h)).0

module _ {K V : Type 0} (eq : K → K → Bool) (equality : IsEquality eq) (m : Meaning K V) (law : IsLawful m) (v : ℕ) where
  -- the same tasks, with other asks, over one event more: all is there for the cascade
  pub cleaning_by : (x : Told K V) (owed : ℕ) (ps qs : List (K × Share K (Held K V))) (d : DeskSeen K V) → KeepsTasks eq ps qs → (w : World K V)
      → Stand eq m (x ∷ reverse d.events) v [] (with_version v (asked_of eq qs) (tasks_of eq ps) w) (desk_of (with_event d x)) owed
      → AreAll (λ (p : ℕ × K). is_out ((seen_world eq v ps w).tasks p.0 p.1)) d.out → ((k : K) (h : Held K V) → task_at eq ps k ≡ Some h → (h.name.version ≡ v) × (h.name.key ≡ k))
      → Cleaning eq m v w owed qs (with_event d x)
  cleaning_by x owed ps qs d keeps w st outs named = record {
    stand = subst (λ R. Stand eq m R v [] (seen_world eq v qs w) (desk_of (with_event d x)) owed) (sym (back_more d.events x))
        (subst (λ ts. Stand eq m (x ∷ reverse d.events) v [] (with_version v (asked_of eq qs) ts w) (desk_of (with_event d x)) owed) (sym same) st);
    outs = subst (λ ts. AreAll (λ (p : ℕ × K). is_out ((with_version v (asked_of eq qs) ts w).tasks p.0 p.1)) d.out) (sym same) outs;
    named = λ k h e. named k h (sym (keeps.tasks k) ∙ e);
  }
    where
      same : tasks_of eq qs ≡ tasks_of eq ps
      same = same_tasks eq ps qs keeps

  -- an ask is left
  pub left_cleaning : (k : K) (by i owed : ℕ) (ps qs : List (K × Share K (Held K V))) (d : DeskSeen K V) → KeepsTasks eq ps qs → ((q : K) (a : By K) → asks eq qs q a ≡ (asks eq ps q a && not (eq k q && is_by eq (Promised i) a)))
      → IsAskAt (reverse d.events) v by i k → (w : World K V) → Working eq m v [] w (owed + 1) ps d → Cleaning eq m v w owed qs (with_event d (Leave by i)) × (ended_at (reverse (d.events ++ Leave by i ∷ [])) ≡ Some v)
  left_cleaning k by i owed ps qs d keeps asked ask w work =
      let leaves : Leaves eq ask.asking.key (Promised i) (asked_of eq ps) (asked_of eq qs) = subst (λ z. Leaves eq z (Promised i) (asked_of eq ps) (asked_of eq qs)) (sym ask.key) asked in
      let r = left_stand eq equality m law (reverse d.events) v w [] (asked_of eq ps) (asked_of eq qs) (tasks_of eq ps) by i ask.asking (desk_of d) (desk_of (with_event d (Leave by i))) (owed + 1) owed work.stand ask.live ask.his ask.at leaves keeps.live
      (record { ready = refl; out = refl; live = refl }) (let n = work.stand.room in omega arith) in
      (cleaning_by (Leave by i) owed ps qs d keeps w r.1 work.outs work.named, ap ended_at (back_more d.events (Leave by i)) ∙ r.2)

  -- whoever is asked for still, has a task
  pub left_tasked : (ps qs : List (K × Share K (Held K V))) → KeepsTasks eq ps qs → ((q : K) (a : By K) → asks eq qs q a ≡ true → asks eq ps q a ≡ true) → AreTasked eq ps → AreTasked eq qs
  left_tasked ps qs keeps fewer t q a i = let h = t q a (fewer q a i) in (h.0, keeps.tasks q ∙ h.1)

  -- after the cascade the version is in hand again
  pub in_hand_again : (x : Told K V) (ks : List K) (owed : ℕ) (qs rs : List (K × Share K (Held K V))) (d e : DeskSeen K V) (es : List (K × Stored K V)) (s : Seen K V) (w : World K V) → DropsTasks eq v ks qs rs (with_event d x) e
      → d.ended ≡ [] → EntriesStand eq m (x ∷ reverse d.events) es → CellsStand eq (x ∷ reverse d.events) s → 0 < open_count (x ∷ reverse d.events) v
      → Working eq m v [] w owed rs e → AreTasked eq rs → IsDone (asked_of eq rs) → AtHand eq m v w owed rs e es s
  in_hand_again x ks owed qs rs d e es s w drops told entries cells some work tasked done = record {
    working = work;
    told = drops.ended ∙ told;
    tasked = tasked;
    done = done;
    opened = subst (λ n. 0 < n) (sym (count_works v (d.events ++ x ∷ []) e.events v works)) (subst (λ R. 0 < open_count R v) (sym (back_more d.events x)) some);
    entries = subst (λ X. EntriesStand eq m (reverse X) es) (sym drops.events) (entries_given_up v eq m es (d.events ++ x ∷ []) (map (Drop v) ks) (all_drops V v ks) (subst (λ R. EntriesStand eq m R es) (sym (back_more d.events x)) entries));
    cells = cells_works v eq s (d.events ++ x ∷ []) e.events works (subst (λ R. CellsStand eq R s) (sym (back_more d.events x)) cells);
  }
    where
      works : (fs : List (Told K V)) × (e.events ≡ (d.events ++ x ∷ []) ++ fs) × AllByRecursion (IsWorkAt v) fs
      works = (map (Drop v) ks, drops.events, all_works v (map (Drop v) ks) (all_drops V v ks))
