-- A plan is one over the room that was made for it, and leaves what is seen as it was.
use Rattle.std.proofs.Common.{◌≡◌, inl, inr, ◌<◌, ◌≤◌, ◌+◌, ◌*◌, ℕ, Bool, true, false, ◌&&◌, ◌||◌, List, [], ◌∷◌, ◌++◌, length, map, reverse, Option, Some, None, refl, sym, ap, ◌∙◌, subst, arith}
use Rattle.std.specs.List.{AllZip, list_any}
use Rattle.std.specs.Option.{option_map}
use Rattle.std.specs.Prelude.{◌==◌, IfSome}
use Rattle.std.proofs.lemmas.Bool.{eqb-true}
use Rattle.std.proofs.lemmas.Option.{none-some, same_Some}
use Rattle.dice_key.specs.Meaning.{Meaning}
use Rattle.dice_key.specs.Lawful.{IsEquality}
use Rattle.dice_jobs.specs.Jobs.{Assigned, Waits, Outcome, Wanting, waiting_after, answered_more}
use Rattle.task_share.specs.Asked.{Tasked, WaitOf, is_by}
use Rattle.task_share.specs.Seen.{Share, task_at, is_live, asked_of, wait_room, KeepsTasks, KeepsAsks}
use Rattle.injected.specs.Seen.{Seen}
use Rattle.journal.specs.declared.event.Told.{Told}
use Rattle.journal.specs.Events.{open_count}
use Rattle.journal.specs.Law.{IsWanted}
use Rattle.versioned_graph.specs.Entries.{Stored, entry_at}
use Rattle.versioned_graph.specs.Looks.{Matches, look}
use Rattle.core_laws.specs.Tasks.{is_going, value_in, value_of}
use Rattle.core_laws.specs.Stands.{VersionStands}
use Rattle.core_laws.specs.Desk.{World, Stand, AreAll, IsCount, is_ready, is_out}
use Rattle.core_laws.proofs.Shapes.{not_both}
use Rattle.core_laws.proofs.Turns.{stands_here}
use Rattle.dice_steps.specs.AtHand.{AtHand}
use Rattle.dice_steps.specs.Cells.{CellsStand}
use Rattle.dice_tasks.specs.Helds.{Held, Ahead, task_of}
use Rattle.dice_tasks.specs.Hands.{DeskSeen, KeepsHands, HasDeskRoom, desk_of, Working, tasks_of, seen_world}
use Rattle.dice_tasks.specs.Entries.{EntriesStand}
use Rattle.dice_tasks.specs.Makings.{IsFree, IsMaking, task_by}
use Rattle.dice_steps.specs.Orders.{AreLastFirst}
use Rattle.dice_steps.specs.Plans.{key_in, wait_for, waits_of, is_awaited, HasNone, IsPart, IsPartFor, MakesValue, IsMatchedBy, AreParts, ArePlaced, IsAtHand, IsRoomy, GoesOnSo, WaitsSo, IsPlan, IsPlanDone, IfEnds}
use Rattle.dice_steps.specs.Taken.{says, told_of, NeedsTask, MakesTasks, WaitsFor, GoesOnWith, EndsByCycle, IsBatchDone}
use Rattle.dice_steps.specs.Batches.{TakesUp}
use Rattle.dice_tasks.specs.declared.making.Making.{Making}
use Rattle.dice_tasks.specs.declared.making.Making.TheVariants.{Join, Match, Run, Check}
use Rattle.dice_steps.specs.declared.plan.Part.{Part}
use Rattle.dice_steps.specs.declared.plan.Plan.{Plan}
use Rattle.dice_steps.specs.declared.plan.Plan.TheVariants as plan
use Rattle.dice_tasks.proofs.CascadeLemmas.{done_same}
use Rattle.dice_tasks.proofs.EndsLemmas.{same_table}
use Rattle.dice_steps.proofs.MakesLemmas.{value_there}
use Rattle.dice_steps.proofs.PartLemmas.{parts_same, wait_there}
use Rattle.dice_tasks.proofs.TaskedLemmas.{tasked_same}
use Rattle.lists.proofs.Each.{zip_length}
use Rattle.lists.specs.Lists.{Has}

-- nothing is there
pub none_there : (b : Bool) (n : ℕ) → b ≡ (n == 0) → b ≡ true → n ≡ 0
none_there b n e f = eqb-true n 0 (sym e ∙ f)

-- ---- nothing that is seen has changed

module _ {K V : Type 0} (eq : K → K → Bool) (m : Meaning K V) (v : ℕ) (ps qs : List (K × Share K (Held K V))) (d e : DeskSeen K V) (tasks : KeepsTasks eq ps qs) (asked : KeepsAsks eq ps qs) (hands : KeepsHands d e) where
  stand_kept : (w : World K V) (owed : ℕ) → 2 * e.live + owed ≤ e.spare → Stand eq m (reverse d.events) v [] (seen_world eq v ps w) (desk_of d) owed → Stand eq m (reverse e.events) v [] (seen_world eq v qs w) (desk_of e) owed
  stand_kept w owed room st0 =
      let st : Stand eq m (reverse e.events) v [] (seen_world eq v qs w) (desk_of d) owed =
      subst (λ (x : List (Told K V)). Stand eq m (reverse x) v [] (seen_world eq v qs w) (desk_of d) owed) (sym hands.events)
      (subst (λ (x : World K V). Stand eq m (reverse d.events) v [] x (desk_of d) owed) (same_table eq v w ps qs tasks asked) st0) in record {
        lawful = st.lawful;
        here = st.here;
        there = st.there;
        ready = subst (AreAll (λ (p : ℕ × K). is_ready ((seen_world eq v qs w).tasks p.0 p.1))) (sym hands.ready) st.ready;
        out = subst (λ (x : List (ℕ × K)). IsCount (λ (p : ℕ × K). is_out ((seen_world eq v qs w).tasks p.0 p.1)) (length x)) (sym hands.out) st.out;
        live = subst (IsCount (λ (p : ℕ × K). is_going ((seen_world eq v qs w).tasks p.0 p.1))) (sym hands.live) st.live;
        room = room;
      }

  pub working_kept : (w : World K V) (owed : ℕ) → d.spare ≤ e.spare → Working eq m v [] w owed ps d → Working eq m v [] w owed qs e
  working_kept w owed more h = record {
    stand = stand_kept w owed (let r = h.stand.room in let l = hands.live in omega arith) h.stand;
    outs = subst (AreAll (λ (p : ℕ × K). is_out ((seen_world eq v qs w).tasks p.0 p.1))) (sym hands.out)
        (subst (λ (x : World K V). AreAll (λ (p : ℕ × K). is_out (x.tasks p.0 p.1)) d.out) (same_table eq v w ps qs tasks asked) h.outs);
    named = λ k g there. h.named k g (sym (tasks.tasks k) ∙ there);
    wanted = λ k l. subst (λ (x : List (Told K V)). IsWanted eq m (reverse x) v k) (sym hands.events) (h.wanted k (sym (tasks.live k) ∙ l));
  }

  pub at_hand_kept : (w : World K V) (owed : ℕ) (es : List (K × Stored K V)) (s : Seen K V) → d.spare ≤ e.spare → AtHand eq m v w owed ps d es s → AtHand eq m v w owed qs e es s
  at_hand_kept w owed es s more h = record {
    working = working_kept w owed more h.working;
    told = hands.ended ∙ h.told;
    tasked = tasked_same eq ps qs tasks asked h.tasked;
    done = done_same eq v ps qs tasks asked h.done;
    opened = subst (λ (x : List (Told K V)). 0 < open_count (reverse x) v) (sym hands.events) h.opened;
    entries = subst (λ (x : List (Told K V)). EntriesStand eq m (reverse x) es) (sym hands.events) h.entries;
    cells = subst (λ (x : List (Told K V)). CellsStand eq (reverse x) s) (sym hands.events) h.cells;
  }

  -- so what is done then is done from there
  pub takes_from : (a : Assigned K V) (ks : List K) (rs : List (K × Share K (Held K V))) (f : DeskSeen K V) → TakesUp eq m v a ks qs e rs f → TakesUp eq m v a ks ps d rs f
  takes_from a ks rs f h = record {
    given = h.given;
    out = record {
      stay = λ q b n was. h.out.stay q b n (tasks.tasks q ∙ was);
      only = λ q b is. sym (tasks.tasks q) ∙ h.out.only q b is;
    };
    events = h.events;
    told = h.told ∙ ap (λ (x : List (Told K V)). x ++ h.events) hands.events;
    of_batch = h.of_batch;
  }

  -- the same of what becomes of the batch, if tasks were made
  module _ (a : Assigned K V) (ks : List K) (s : Seen K V) (es : List (K × Stored K V)) (rs : List (K × Share K (Held K V))) (f : DeskSeen K V) (fs : List (K × Stored K V)) where
    needs_from : (q : K) → NeedsTask eq m v a ks s qs e es rs f fs q → NeedsTask eq m v a ks s ps d es rs f fs q
    needs_from q n = record { among = n.among; computed = n.computed; free = subst IsFree (tasks.tasks q) n.free }

    needs_to : (q : K) → NeedsTask eq m v a ks s ps d es rs f fs q → NeedsTask eq m v a ks s qs e es rs f fs q
    needs_to q n = record { among = n.among; computed = n.computed; free = subst IsFree (sym (tasks.tasks q)) n.free }

    pub makes_from : MakesTasks eq m v a ks s qs e es rs f fs → MakesTasks eq m v a ks s ps d es rs f fs
    makes_from h = record {
      made = h.made;
      distinct = h.distinct;
      needed = λ q i. needs_from q (h.needed q i);
      all = λ q n. h.all q (needs_to q n);
      order = h.order;
      these = record {
        tasks = λ q i. h.these.tasks q i ∙ ap (λ (J : List (Told K V)). Some (task_by v q (length J) (says eq m v es q))) hands.events;
        told = h.these.told ∙ ap (λ (J : List (Told K V)). J ++ told_of eq m v es h.made) hands.events;
        entries = h.these.entries;
        other_entries = h.these.other_entries;
        edges = h.these.edges;
      };
      others = λ q n miss. h.others q n miss ∙ tasks.tasks q;
    }

    pub waits_from : WaitsFor eq m v a ks s qs e es rs f fs → WaitsFor eq m v a ks s ps d es rs f fs
    waits_from h = record {
      held = h.held;
      awaited = h.awaited;
      some = h.some;
      each = λ q i. (let x = h.each q i in record { among = x.among; computed = x.computed; going = x.going });
      all = λ q x. h.all q (record { among = x.among; computed = x.computed; going = x.going });
      asks = λ q b. h.asks q b ∙ ap (λ z. z || (list_any (λ k. eq k q) h.awaited && is_by eq (Tasked a.name.key) b)) (asked q b);
    }

    pub goes_from : GoesOnWith eq m v a ks s qs e es rs f fs → GoesOnWith eq m v a ks s ps d es rs f fs
    goes_from h = record { values = h.values; held = h.held; answers = h.answers; asks = λ q b. h.asks q b ∙ asked q b }

    -- whatever was planned
    pub done_from : {U R : Type 0} (owed : ℕ) (z : Plan U K V R) → IfEnds z ((qs ≡ ps) × (e ≡ d)) → IsPlanDone eq m v owed a ks qs e es s z rs f fs → IsBatchDone eq m v a ks s ps d es rs f fs
    done_from owed (plan.Ends owners) still h = inl (subst (λ (x : List (K × Share K (Held K V))). EndsByCycle eq m v a ks s x d es rs f fs) still.0 (subst (λ (x : DeskSeen K V). EndsByCycle eq m v a ks s qs x es rs f fs) still.1 h))
    done_from owed (plan.GoesOn xs n) still h = inr (inr (makes_from h.0, goes_from h.1))
    done_from owed (plan.Waits xs ws) still h = inr (inl (makes_from h.0, waits_from h.1))

-- ---- the plan

module _ {U K V R : Type 0} (eq : K → K → Bool) (equality : IsEquality eq) (m : Meaning K V) (v : ℕ) (a : Assigned K V) (ks : List K) (xs : List (Part U K V R)) (ps qs : List (K × Share K (Held K V))) (d e : DeskSeen K V) (es : List (K × Stored K V)) (s : Seen K V)
    (tasks : KeepsTasks eq ps qs) (asked : KeepsAsks eq ps qs) (hands : KeepsHands d e) (parts : AreParts eq m v (length d.events) ps es a.name.key ks xs) (order : AreLastFirst ks (map key_in xs)) where
  parts_then : AreParts eq m v (length e.events) qs es a.name.key ks xs
  parts_then = subst (λ (x : List (Told K V)). AreParts eq m v (length x) qs es a.name.key ks xs) (sym hands.events) (parts_same eq ps qs tasks m v (length d.events) es asked a.name.key ks xs parts)

  module _ (owed i j : ℕ) (count : i ≡ length xs) (count2 : j ≡ length xs) (placed : ArePlaced eq xs qs) (room : HasDeskRoom owed i j e) (ws : List (WaitOf K)) (waits : ws ≡ waits_of a.name.key xs) (fits : length ws ≤ wait_room eq qs a.name.key) where
    roomy_so : IsRoomy eq m v owed a ks qs e es s xs
    roomy_so = record {
      parts = parts_then;
      order = order;
      placed = placed;
      desk = record {
        spare = (let r = room.spare in omega arith);
        ready = (let r = room.ready in omega arith);
        live = (let r = room.live in omega arith);
      };
    }

    -- nothing is waited for, and all keys have answers
    pub goes_so : (n : Ahead K V) (ys : List V) → n ≡ record { job = answered_more a ks ys; values = ys } → length ws ≡ 0 → AllZip (IsAtHand eq m v qs es s) ks ys → GoesOnSo eq m v owed a ks qs e es s xs n
    goes_so n ys is none zip = record {
      roomy = roomy_so;
      known = λ p h. by_test p h p.awaited refl;
      job = (λ z. (is z).job) ∙ (λ z. answered_more a ks ((sym is z).values));
      count = (λ z. length ((is z).values)) ∙ zip_length (IsAtHand eq m v qs es s) ks ys zip;
      answers = subst (AllZip (IsAtHand eq m v qs es s) ks) (λ z. (sym is z).values) zip;
    }
      where
        no_wait : (zs : List (WaitOf K)) (w : WaitOf K) → length zs ≡ 0 → Has zs w → ⊥
        no_wait [] w z h = h
        no_wait (x ∷ zs) w z h = absurd (omega arith)

        by_test : (p : Part U K V R) → Has xs p → (b : Bool) → p.awaited ≡ b → p.awaited ≡ false
        by_test p h true t = absurd (no_wait ws (wait_for a.name.key p) none (subst (λ z. Has z (wait_for a.name.key p)) (sym waits) (wait_there a.name.key xs p h t)))
        by_test p h false t = t

    waits_then : (x : WaitOf K) × Has ws x → WaitsSo eq m v owed a ks qs e es s xs ws
    waits_then some = record { roomy = roomy_so; waits = waits; room = fits; some = some }

    -- something is waited for
    pub waits_some : (0 < length ws) → WaitsSo eq m v owed a ks qs e es s xs ws
    waits_some l = waits_then (first ws l)
      where
        first : (zs : List (WaitOf K)) → 0 < length zs → (x : WaitOf K) × Has zs x
        first [] h = absurd (omega arith)
        first (x ∷ zs) h = (x, inl refl)

    -- a key has no value at hand, so it is waited for
    pub waits_none : (w : World K V) (owed2 : ℕ) → Working eq m v [] w owed2 ps d → (q : K) → Has ks q → HasNone eq m v qs es q → WaitsSo eq m v owed a ks qs e es s xs ws
    waits_none w owed2 work q h none = elim (parts_then.all q h) as (λ _. WaitsSo eq m v owed a ks qs e es s xs ws) [
      | inl i ↦ absurd (none.computed i)
      | inr r ↦ by_test r.0 r.1 r.2 r.0.awaited refl
    ]
      where
        here : VersionStands eq m (reverse d.events) v [] (asked_of eq ps) (tasks_of eq ps)
        here = stands_here eq equality m (reverse d.events) v [] (asked_of eq ps) (tasks_of eq ps) w (desk_of d) owed2 work.stand

        going : (j : K) → is_going (tasks_of eq qs j) ≡ is_live eq qs j
        going j = ap (λ (o : Option (Held K V)). is_going (option_map task_of o)) (tasks.tasks j) ∙ (sym (here.live j) ∙ sym (tasks.live j))

        none_at : (j : K) → j ≡ q → HasNone eq m v qs es j
        none_at j i = subst (HasNone eq m v qs es) (sym i) none

        by_making : (p : Part U K V R) → HasNone eq m v qs es (key_in p) → IsPart eq m v (length e.events) qs es p → p.awaited ≡ false → (x : Making U K V R) → p.awaited ≡ is_awaited eq qs (key_in p) x → IsMaking eq m v (key_in p) (length e.events) qs es x → ⊥
        by_making p n part off Join t i = (let r = value_there (task_at eq qs (key_in p)) i (going (key_in p) ∙ (sym t ∙ off)) part.whole in none-some r.0 (sym n.unended ∙ r.1))
        by_making p n part off (Match event base task) t i = n.unmatched i.1.0 base i.1.1
        by_making p n part off (Run event cause ready task) t i = not_both t off
        by_making p n part off (Check ready task) t i = not_both t off

        by_test : (p : Part U K V R) → Has xs p → key_in p ≡ q → (b : Bool) → p.awaited ≡ b → WaitsSo eq m v owed a ks qs e es s xs ws
        by_test p i k true t = waits_then (wait_for a.name.key p, subst (λ z. Has z (wait_for a.name.key p)) (sym waits) (wait_there a.name.key xs p i t))
        by_test p i k false t = (let part = parts_then.each p i in absurd (by_making p (none_at (key_in p) k) part t p.making part.awaited part.making))

-- ---- by the names in the code

module _ {K V : Type 0} where
  -- the job that waits is that of the step, for its batch
  pub parked_so : (a : Assigned K V) (o : Outcome K V) (ks : List K) (p : Waits K V) → o ≡ Wanting ks → Some p ≡ waiting_after a o → (p.job ≡ a) × (p.keys ≡ ks)
  parked_so a o ks p w e =
      let s : Some p ≡ Some (record { job = a; keys = ks }) = e ∙ ap (waiting_after a) w in
      let t : p ≡ record { job = a; keys = ks } = same_Some p (record { job = a; keys = ks }) s in
      (ap (λ (x : Waits K V). x.job) t, ap (λ (x : Waits K V). x.keys) t)

  pub not_parked : (a : Assigned K V) (o : Outcome K V) (ks : List K) → o ≡ Wanting ks → None ≡ waiting_after a o → ⊥
  not_parked a o ks w e = let s : None ≡ Some (record { job = a; keys = ks }) = e ∙ ap (waiting_after a) w in cc

  pub wanting_same : (ks ls : List K) (o : Outcome K V) → o ≡ Wanting ks → o ≡ Wanting ls → ks ≡ ls
  wanting_same ks ls o a b = let e : Wanting ks ≡ Wanting ls = sym a ∙ b in cc

module _ {U K V R : Type 0} (eq : K → K → Bool) (m : Meaning K V) (v v2 : ℕ) (same : v ≡ v2) where
  pub parts_as : (b b2 : ℕ) (k k2 : K) (ks : List K) (xs : List (Part U K V R)) (ps : List (K × Share K (Held K V))) (es : List (K × Stored K V)) → b ≡ b2 → k ≡ k2 → AreParts eq m v b ps es k ks xs → AreParts eq m v2 b2 ps es k2 ks xs
  parts_as b b2 k k2 ks xs ps es j l h = subst (λ x. AreParts eq m x b2 ps es k2 ks xs) same (subst (λ x. AreParts eq m v x ps es k2 ks xs) j (subst (λ x. AreParts eq m v b ps es x ks xs) l h))

  pub plan_as : (owed : ℕ) (a a2 : Assigned K V) (ks ls : List K) (ps : List (K × Share K (Held K V))) (d : DeskSeen K V) (es : List (K × Stored K V)) (s : Seen K V) (z : Plan U K V R) → a ≡ a2 → ks ≡ ls → IsPlan eq m v owed a ks ps d es s z → IsPlan eq m v2 owed a2 ls ps d es s z
  plan_as owed a a2 ks ls ps d es s z i j h = subst (λ x. IsPlan eq m x owed a2 ls ps d es s z) same (subst (λ x. IsPlan eq m v owed x ls ps d es s z) i (subst (λ x. IsPlan eq m v owed a x ps d es s z) j h))

module _ {K V : Type 0} (eq : K → K → Bool) (m : Meaning K V) (v v2 : ℕ) (same : v ≡ v2) where
  pub takes_as : (a a2 : Assigned K V) (ks ls : List K) (ps qs : List (K × Share K (Held K V))) (d e : DeskSeen K V) → a ≡ a2 → ks ≡ ls → TakesUp eq m v a ks ps d qs e → TakesUp eq m v2 a2 ls ps d qs e
  takes_as a a2 ks ls ps qs d e i j h = subst (λ x. TakesUp eq m x a2 ls ps d qs e) same (subst (λ x. TakesUp eq m v x ls ps d qs e) i (subst (λ x. TakesUp eq m v a x ps d qs e) j h))

  pub done_as : (a a2 : Assigned K V) (ks ls : List K) (s : Seen K V) (ps : List (K × Share K (Held K V))) (d : DeskSeen K V) (es : List (K × Stored K V)) (qs : List (K × Share K (Held K V))) (e : DeskSeen K V) (fs : List (K × Stored K V)) → a ≡ a2 → ks ≡ ls → IsBatchDone eq m v a ks s ps d es qs e fs → IsBatchDone eq m v2 a2 ls s ps d es qs e fs
  done_as a a2 ks ls s ps d es qs e fs i j h = subst (λ x. IsBatchDone eq m x a2 ls s ps d es qs e fs) same (subst (λ x. IsBatchDone eq m v x ls s ps d es qs e fs) i (subst (λ x. IsBatchDone eq m v a x s ps d es qs e fs) j h))

  pub hand_as : (w : World K V) (owed : ℕ) (ps : List (K × Share K (Held K V))) (d : DeskSeen K V) (es : List (K × Stored K V)) (s : Seen K V) → AtHand eq m v w owed ps d es s → AtHand eq m v2 w owed ps d es s
  hand_as w owed ps d es s h = subst (λ x. AtHand eq m x w owed ps d es s) same h

-- a key whose task may be made anew has no value
free_has_none : {K V : Type 0} (o : Option (Held K V)) → IsFree o → value_of (option_map task_of o) ≡ None
free_has_none None f = refl
free_has_none (Some h) f = ap value_in f

-- the value with which the task of a part has ended is at hand
pub matched_at_hand : {U K V R : Type 0} (eq : K → K → Bool) (m : Meaning K V) (v born : ℕ) (ps : List (K × Share K (Held K V))) (es : List (K × Stored K V)) (s : Seen K V) (k : K) (x : V) (p : Part U K V R) → IsPartFor eq m v born ps es k p → MakesValue p.making x → IsAtHand eq m v ps es s k x
matched_at_hand {U} {K} {V} {R} eq m v born ps es s k x p part made =
    let r = by_making p.making part.0.making made in
    subst (λ q. IsAtHand eq m v ps es s q x) part.1 (inr (inr (r.0, r.1, part.0.computed, r.2)))
  where
    by_making : (g : Making U K V R) → IsMaking eq m v (key_in p) born ps es g → MakesValue g x → (b : ℕ) × (look m.is_transient (entry_at eq es (key_in p)) v ≡ Matches x b) × (value_of (tasks_of eq ps (key_in p)) ≡ None)
    by_making Join i e = absurd e
    by_making (Match event base task) i e =
        let same : i.1.0 ≡ x = same_Some i.1.0 x (sym (ap (λ (h : Held K V). value_in h.standing) i.1.2) ∙ e) in
        (base, i.1.1 ∙ ap (λ y. Matches y base) same, free_has_none (task_at eq ps (key_in p)) i.0)
    by_making (Run event cause ready task) i e = absurd e
    by_making (Check ready task) i e = absurd e

-- the same, if there is a part that makes such a task
pub matched_so : {U K V R : Type 0} (eq : K → K → Bool) (m : Meaning K V) (v : ℕ) (ps : List (K × Share K (Held K V))) (es : List (K × Stored K V)) (s : Seen K V) (k : K) (x : V) (o : Option (Part U K V R)) → IfSome o (λ p. (born : ℕ) × IsPartFor eq m v born ps es k p) → IsMatchedBy o x → IsAtHand eq m v ps es s k x
matched_so eq m v ps es s k x None part made = absurd made
matched_so eq m v ps es s k x (Some p) part made = matched_at_hand eq m v part.0 ps es s k x p part.1 made
