-- What holds between calls holds again after the batch of a task was taken up.
use Rattle.std.proofs.Common.{◌≡◌, ◌⊎◌, inl, inr, ◌<◌, ◌≤◌, ◌+◌, ◌*◌, ℕ, suc, Bool, true, false, cond, ◌||◌, List, [], ◌∷◌, ◌++◌, length, map, reverse, Option, Some, None, refl, sym, ap, ◌∙◌, subst, arith}
use Rattle.std.proofs.lemmas.List.{length-reverse}
use Rattle.std.specs.List.{AllByRecursion, AllZip}
use Rattle.std.specs.Option.{option_map}
use Rattle.std.proofs.lemmas.Option.{none-some, same_Some}
use Rattle.dice_key.specs.Meaning.{Meaning}
use Rattle.dice_key.specs.Lawful.{IsLawful, IsEquality}
use Rattle.dice_key.specs.declared.universe.Kind.TheVariants.{Injected}
use Rattle.dice_model.specs.Log.{input}
use Rattle.dice_model.specs.Eval.{HasValue, by_kind, reached, eval}
use Rattle.dice_model.specs.Asks.{AsksFor}
use Rattle.dice_jobs.specs.Jobs.{Assigned, Waits, answered_more}
use Rattle.task_share.specs.Asked.{By, Tasked, WaitOf, Leads, stays, IsDone}
use Rattle.task_share.specs.Seen.{Share, task_at, is_live, asks, asked_of, asker_room, wait_room}
use Rattle.cycle_guard.specs.WaitCycle.{IsRound, WouldWait}
use Rattle.injected.specs.Seen.{Seen, cell_at}
use Rattle.injected.specs.Inputs.{AreOf}
use Rattle.journal.specs.declared.event.Told.{Told}
use Rattle.journal.specs.Events.{commits_of}
use Rattle.versioned_graph.specs.Entries.{Stored}
use Rattle.versioned_graph.specs.Looks.{Matches}
use Rattle.core_laws.specs.Tasks.{IsReady, IsOut, IsWaiting, Standing, Works, Ended, WithValue, WithCycle, WithNothing, is_going, value_of, value_in}
use Rattle.journal.specs.Law.{CycleStands}
use Rattle.core_laws.specs.Stands.{AsksNext, TaskStands, IsStanding, VersionStands}
use Rattle.core_laws.specs.Desk.{World, out_in}
use Rattle.core_laws.proofs.Cycles.{cycle_above, round_is_cycle}
use Rattle.core_laws.proofs.Held.{wanted_next}
use Rattle.core_laws.proofs.Parks.{asks_of_next}
use Rattle.core_laws.proofs.Shapes.{same_or_other, not_both}
use Rattle.core_laws.proofs.StepsWanted.{IsOfTask}
use Rattle.core_laws.proofs.Turns.{stands_here}
use Rattle.dice_steps.specs.AtHand.{AtHand}
use Rattle.dice_tasks.specs.CyclePaths.{path_in, path_with}
use Rattle.dice_tasks.specs.Helds.{Held, Ahead, task_of, held_of, held_ended}
use Rattle.dice_tasks.specs.Hands.{DeskSeen, desk_of, Working, tasks_of}
use Rattle.dice_tasks.specs.Entries.{EntriesStand}
use Rattle.dice_tasks.specs.Endings.{AreTasked, Knows}
use Rattle.dice_tasks.specs.Waitings.{HasRoomFor, ParksJob, ReturnsJob, MayPark, waits_so}
use Rattle.dice_steps.specs.Taken.{IsPathOf}
use Rattle.dice_steps.specs.Plans.{key_in, wait_for, waits_of, AreParts, ArePlaced, IsAtHand, IsRoomy, GoesOnSo, WaitsSo}
use Rattle.dice_steps.specs.Batches.{IsOfMakes, ending_events, GivesUp, LeavesOut, MakesOn, IsBeside, HasRoomToMake, MakesParts, TakesUp}
use Rattle.dice_steps.specs.declared.plan.Part.{Part}
use Rattle.dice_tasks.proofs.EndsLemmas.{working_knows}
use Rattle.dice_tasks.proofs.LooksLemmas.{look_stands}
use Rattle.dice_steps.proofs.MakesLemmas.{makes_more_keys, makes_tasks}
use Rattle.dice_steps.proofs.PartLemmas.{there_waits, wait_there, zip_on}
use Rattle.dice_steps.proofs.QuietLemmas.{commits_after, cells_after, open_after}
use Rattle.dice_tasks.proofs.WaitLemmas.{waits_there, waits_only, key_there, wait_of}
use Rattle.lists.proofs.Members.{has_mapped, has_right}
use Rattle.lists.specs.Lists.{AreDistinct, Has}
use Rattle.task_share.proofs.Leads.{leads_fewer}

-- ---- what is true of the keys of the batch

module _ {K V : Type 0} where
  -- a task that has a value has ended with it
  pub ended_so : (o : Option (Held K V)) (x : V) → value_of (option_map task_of o) ≡ Some x → (h : Held K V) × (o ≡ Some h) × (h.standing ≡ Ended (WithValue x))
  ended_so None x e = absurd (none-some x e)
  ended_so (Some h) x e = (h, refl, by_standing h.standing refl)
    where
      by_standing : (s : Standing K V) → h.standing ≡ s → h.standing ≡ Ended (WithValue x)
      by_standing (Works w p A) i = absurd (none-some x (sym (ap value_in i) ∙ e))
      by_standing (Ended (WithValue y)) i = i ∙ ap (λ z. Ended (WithValue z)) (same_Some y x (sym (ap value_in i) ∙ e))
      by_standing (Ended (WithCycle p)) i = absurd (none-some x (sym (ap value_in i) ∙ e))
      by_standing (Ended WithNothing) i = absurd (none-some x (sym (ap value_in i) ∙ e))

  -- a task that has a cycle has ended with it
  path_so : (o : Option (Held K V)) (path : List K) → path_with o ≡ Some path → (h : Held K V) × (o ≡ Some h) × (h.standing ≡ Ended (WithCycle path))
  path_so None path e = absurd (none-some path e)
  path_so (Some h) path e = (h, refl, by_standing h.standing refl)
    where
      by_standing : (s : Standing K V) → h.standing ≡ s → h.standing ≡ Ended (WithCycle path)
      by_standing (Works w p A) i = absurd (none-some path (sym (ap path_in i) ∙ e))
      by_standing (Ended (WithValue y)) i = absurd (none-some path (sym (ap path_in i) ∙ e))
      by_standing (Ended (WithCycle p)) i = i ∙ ap (λ z. Ended (WithCycle z)) (same_Some p path (sym (ap path_in i) ∙ e))
      by_standing (Ended WithNothing) i = absurd (none-some path (sym (ap path_in i) ∙ e))

module _ {K V : Type 0} (eq : K → K → Bool) (equality : IsEquality eq) (m : Meaning K V) (law : IsLawful m) (v : ℕ) (w : World K V) (owed : ℕ) (ps : List (K × Share K (Held K V))) (d : DeskSeen K V) (work : Working eq m v [] w owed ps d) where
  here : VersionStands eq m (reverse d.events) v [] (asked_of eq ps) (tasks_of eq ps)
  here = stands_here eq equality m (reverse d.events) v [] (asked_of eq ps) (tasks_of eq ps) w (desk_of d) owed work.stand

  -- a task at work is there
  pub live_task : (q : K) → is_live eq ps q ≡ true → (h : Held K V) × (task_at eq ps q ≡ Some h)
  live_task q l = by_task (task_at eq ps q) refl (sym (here.live q) ∙ l)
    where
      by_task : (o : Option (Held K V)) → task_at eq ps q ≡ o → is_going (tasks_of eq ps q) ≡ true → (h : Held K V) × (task_at eq ps q ≡ Some h)
      by_task None e g = absurd (not_both g (ap (λ (z : Option (Held K V)). is_going (option_map task_of z)) e))
      by_task (Some h) e g = (h, e)

  module _ (a : Assigned K V) (ks : List K) (out : task_at eq ps a.name.key ≡ Some (held_of a IsOut)) where
    pub live_own : is_live eq ps a.name.key ≡ true
    live_own = here.live a.name.key ∙ ap (λ (z : Option (Held K V)). is_going (option_map task_of z)) out

    pub stood : TaskStands eq m (reverse d.events) v a.name.key (task_of (held_of a IsOut))
    stood = here.each a.name.key (task_of (held_of a IsOut)) (ap (option_map task_of) out)

    module _ (next : AsksNext eq m v a.name.key a.work a.answered (IsWaiting ks)) where
      -- each key of the batch is asked
      asked_next : (q : K) → Has ks q → AsksFor eq m (commits_of (reverse d.events)) v a.name.key q
      asked_next q h = asks_of_next eq equality m law (reverse d.events) v a.name.key a.work a.answered ks stood.standing.work next stood.computed q h

      key_among : (path : List K) (h : IsPathOf eq ps m a.name.key ks path) → Has ks h.key
      key_among path h = subst (λ z. Has z h.key) (sym h.all) (has_right h.before (h.key ∷ h.later) h.key (inl refl))

      -- a cycle to which a key comes is a cycle that the task's key reaches
      pub path_stands : (path : List K) → IsPathOf eq ps m a.name.key ks path → CycleStands eq m (commits_of (reverse d.events)) v a.name.key path
      path_stands path h = elim h.found as (λ _. CycleStands eq m (commits_of (reverse d.events)) v a.name.key path) [
        | inl c ↦ subst (CycleStands eq m (commits_of (reverse d.events)) v a.name.key) (sym c.begins)
            (round_is_cycle eq m (commits_of (reverse d.events)) v a.name.key (IsRound (WouldWait (asked_of eq ps) a.name.key h.key) a.name.key) (λ j r. waits_on j a.name.key r) (λ i j js r. (waits_on i j r.0, r.1)) c.rest (subst AreDistinct c.begins c.distinct) c.round)
        | inr g ↦ (let t = path_so (task_at eq ps h.key) path g in let s : IsStanding eq m (reverse d.events) v h.key (Ended (WithCycle path)) = subst (IsStanding eq m (reverse d.events) v h.key) t.2 (here.each h.key (task_of t.0) (ap (option_map task_of) t.1)).standing in
            cycle_above eq m (commits_of (reverse d.events)) v a.name.key h.key path (asked_next h.key (key_among path h)) s.0)
      ]
        where
          waits_on : (i j : K) → WouldWait (asked_of eq ps) a.name.key h.key i j → AsksFor eq m (commits_of (reverse d.events)) v i j
          waits_on i j (inl e) = here.waits j i e
          waits_on i j (inr e) = subst (λ z. AsksFor eq m (commits_of (reverse d.events)) v z j) (sym e.0) (subst (AsksFor eq m (commits_of (reverse d.events)) v a.name.key) (sym e.1) (asked_next h.key (key_among path h)))

  -- what is at hand as a key's value is the value
  pub at_hand_true : (es : List (K × Stored K V)) (s : Seen K V) → v ≤ length (commits_of (reverse d.events)) → EntriesStand eq m (reverse d.events) es → ((u : ℕ) (q : K) → cell_at eq m s u q ≡ input eq m (commits_of (reverse d.events)) u q)
      → (q : K) (x : V) → IsAtHand eq m v ps es s q x → HasValue eq m (commits_of (reverse d.events)) v q x
  at_hand_true es s within entries inputs q x (inl h) =
      record { depth = suc 0; gives = ap (λ k. by_kind k (Some (input eq m (commits_of (reverse d.events)) v q)) (reached (eval eq m 0 (commits_of (reverse d.events)) v) (λ A. m.next q A v) (m.most q) [])) h.0 ∙ ap Some (sym (h.1 ∙ inputs v q)) }
  at_hand_true es s within entries inputs q x (inr (inl h)) =
      let e = ended_so (task_at eq ps q) x h in
      let t : IsStanding eq m (reverse d.events) v q (Ended (WithValue x)) = subst (IsStanding eq m (reverse d.events) v q) e.2 (here.each q (task_of e.0) (ap (option_map task_of) e.1)).standing in
      t.0
  at_hand_true es s within entries inputs q x (inr (inr h)) = (look_stands eq m (reverse d.events) es entries q v (Matches x h.0) within h.1).here

  -- room for more events
  pub works_room : (owed2 : ℕ) → 2 * d.live + owed2 ≤ d.spare → Working eq m v [] w owed2 ps d
  works_room owed2 room = record {
    stand = record { lawful = work.stand.lawful; here = work.stand.here; there = work.stand.there; ready = work.stand.ready; out = work.stand.out; live = work.stand.live; room = room };
    outs = work.outs;
    named = work.named;
    wanted = work.wanted;
  }

-- ---- before the parts are made

module _ {U K V R : Type 0} (eq : K → K → Bool) (equality : IsEquality eq) (m : Meaning K V) (law : IsLawful m) (v : ℕ) (w : World K V) (owed : ℕ) (a : Assigned K V) (ks : List K) (xs : List (Part U K V R)) (ps : List (K × Share K (Held K V))) (d : DeskSeen K V) (es : List (K × Stored K V)) (s : Seen K V)
    (hand : AtHand eq m v w owed ps d es s) (out : task_at eq ps a.name.key ≡ Some (held_of a IsOut)) (next : AsksNext eq m v a.name.key a.work a.answered (IsWaiting ks)) (roomy : IsRoomy eq m v owed a ks ps d es s xs) where
  pub makes_on : MakesOn eq m v [] w owed xs ps d es
  makes_on =
      let room = roomy.desk.spare in
      let t = stood eq equality m law v w owed ps d hand.working a ks out in record {
        working = works_room eq equality m law v w owed ps d hand.working (owed + 3 * length xs) (omega arith);
        entries = hand.entries;
        born = length d.events;
        each = roomy.parts.each;
        may = λ p i. record {
          computed = (roomy.parts.each p i).computed;
          wanted = wanted_next eq m (reverse d.events) v a.name.key (key_in p) (hand.working.wanted a.name.key (live_own eq equality m law v w owed ps d hand.working a ks out)) (asked_next eq equality m law v w owed ps d hand.working a ks out next (key_in p) (roomy.parts.among p i));
          within = t.within;
          born = (let n = length-reverse d.events in omega arith);
        };
        distinct = roomy.parts.distinct;
      }

  pub room_to_make : HasRoomToMake eq xs ps d
  room_to_make = record {
    places = roomy.placed.places;
    spare = (let r = roomy.desk.spare in omega arith);
    ready = roomy.desk.ready;
    live = roomy.desk.live;
  }

  -- the task's own key is none of the parts
  pub own_beside : IsBeside eq xs a.name.key
  own_beside p i = elim (same_or_other eq equality (key_in p) a.name.key) as (λ _. eq (key_in p) a.name.key ≡ false) [
    | inl e ↦ absurd (roomy.parts.apart p i (subst (λ z. Leads (asked_of eq ps) z a.name.key) (sym e) stays))
    | inr n ↦ n
  ]

-- ---- once the parts are made

module _ {U K V R : Type 0} (eq : K → K → Bool) (equality : IsEquality eq) where
  -- a key is beside the parts, or of one of them
  beside_or : (xs : List (Part U K V R)) (q : K) → IsBeside eq xs q ⊎ ((p : Part U K V R) × Has xs p × (key_in p ≡ q))
  beside_or [] q = inl (λ p h. absurd h)
  beside_or (x ∷ xs) q = elim (same_or_other eq equality (key_in x) q) as (λ _. IsBeside eq (x ∷ xs) q ⊎ ((p : Part U K V R) × Has (x ∷ xs) p × (key_in p ≡ q))) [
    | inl e ↦ inr (x, inl refl, e)
    | inr n ↦ elim (beside_or xs q) as (λ _. IsBeside eq (x ∷ xs) q ⊎ ((p : Part U K V R) × Has (x ∷ xs) p × (key_in p ≡ q))) [
      | inl b ↦ inl (λ p h. elim h as (λ _. eq (key_in p) q ≡ false) [ inl i ↦ subst (λ (z : Part U K V R). eq (key_in z) q ≡ false) i n | inr i ↦ b p i ])
      | inr r ↦ inr (r.0, inr r.1, r.2)
    ]
  ]

module _ {U K V R : Type 0} (eq : K → K → Bool) (equality : IsEquality eq) (m : Meaning K V) (law : IsLawful m) (v : ℕ) (w : World K V) (owed : ℕ) (a : Assigned K V) (ks : List K) (xs : List (Part U K V R)) (ps qs rs : List (K × Share K (Held K V))) (d e f : DeskSeen K V) (es fs : List (K × Stored K V)) (s : Seen K V)
    (hand : AtHand eq m v w owed ps d es s) (among : (p : Part U K V R) → Has xs p → Has ks (key_in p)) (makes : MakesParts eq xs v ps d qs e) (entries : EntriesStand eq m (reverse e.events) fs) where
  told_tasks : AllByRecursion IsOfTask makes.events
  told_tasks = makes_tasks v (map key_in xs) makes.events makes.of_makes

  told_batch : AllByRecursion (IsOfMakes v ks) makes.events
  told_batch = makes_more_keys v (map key_in xs) ks (λ q h. (let r = has_mapped key_in xs q h in subst (Has ks) r.2 (among r.0 r.1))) makes.events makes.of_makes

  pub same_commits : commits_of (reverse e.events) ≡ commits_of (reverse d.events)
  same_commits = ap (λ (z : List (Told K V)). commits_of (reverse z)) makes.told ∙ commits_after d.events makes.events told_tasks

  -- what holds of the whole, if one more step on the tasks alone follows
  at_hand_so : f.events ≡ e.events → f.ended ≡ e.ended → Working eq m v [] w owed rs f → AreTasked eq rs → IsDone (asked_of eq rs) → AtHand eq m v w owed rs f fs s
  at_hand_so told ended work tasked done =
      let all : f.events ≡ d.events ++ makes.events = told ∙ makes.told in record {
        working = work;
        told = ended ∙ (makes.ended ∙ hand.told);
        tasked = tasked;
        done = done;
        opened = open_after d.events f.events makes.events v all told_tasks hand.opened;
        entries = subst (λ (z : List (Told K V)). EntriesStand eq m (reverse z) fs) (sym told) entries;
        cells = cells_after eq s d.events f.events makes.events all told_tasks hand.cells;
      }

  -- the other tasks that are out, if the task of k turns to one that is not
  out_so : (g : Held K V) → out_in g.standing ≡ false → ((q : K) → task_at eq rs q ≡ cond (eq a.name.key q) (Some g) (task_at eq qs q)) → LeavesOut eq a.name.key ps rs
  out_so g home turned = record {
    stay = λ q b n was. inl (turned q ∙ (ap (λ c. cond c (Some g) (task_at eq qs q)) n ∙ makes.out q b was));
    only = λ q b is. by_test q b (eq a.name.key q) refl is;
  }
    where
      by_test : (q : K) (b : Assigned K V) (c : Bool) → eq a.name.key q ≡ c → task_at eq rs q ≡ Some (held_of b IsOut) → task_at eq ps q ≡ Some (held_of b IsOut)
      by_test q b true i is =
          let same : g ≡ held_of b IsOut = same_Some g (held_of b IsOut) (sym (turned q ∙ ap (λ c. cond c (Some g) (task_at eq qs q)) i) ∙ is) in
          absurd (not_both (ap (λ (h : Held K V). out_in h.standing) same) home)
      by_test q b false i is = makes.only q b (sym (turned q ∙ ap (λ c. cond c (Some g) (task_at eq qs q)) i) ∙ is)

  there_so : (g : Held K V) → ((q : K) → task_at eq rs q ≡ cond (eq a.name.key q) (Some g) (task_at eq qs q)) → (q : K) (h : Held K V) → task_at eq qs q ≡ Some h → (r : Held K V) × (task_at eq rs q ≡ Some r)
  there_so g turned q h there = by_test (eq a.name.key q) (turned q)
    where
      by_test : (c : Bool) → task_at eq rs q ≡ cond c (Some g) (task_at eq qs q) → (r : Held K V) × (task_at eq rs q ≡ Some r)
      by_test true i = (g, i)
      by_test false i = (h, i ∙ there)

  old_asked : (q : K) (b : By K) → asks eq qs q b ≡ true → (h : Held K V) × (task_at eq qs q ≡ Some h)
  old_asked q b on = let r = hand.tasked q b (sym (makes.asks q b) ∙ on) in makes.stays q r.0 r.1

  -- ---- and the task goes on

  module _ (n : Ahead K V) (known : (p : Part U K V R) → Has xs p → p.awaited ≡ false) (job : n.job ≡ answered_more a ks n.values) (back : ReturnsJob eq v a.name.key a n.job qs rs e f) where
    pub goes_on_hand : Working eq m v [] w owed rs f → AtHand eq m v w owed rs f fs s
    goes_on_hand work = at_hand_so back.desk.rest.events back.desk.rest.ended work
        (λ q b on. (let r = old_asked q b (sym (back.table.asks q b) ∙ on) in there_so (held_of n.job IsReady) back.table.tasks q r.0 r.1))
        (λ q l. elim (beside_or eq equality xs q) as (λ _. (b : By K) × (asks eq rs q b ≡ true)) [
          | inl z ↦ (let r = hand.done q (sym (back.table.live q ∙ makes.lives q z) ∙ l) in (r.0, back.table.asks q r.0 ∙ (makes.asks q r.0 ∙ r.1)))
          | inr z ↦ absurd (not_both (sym (back.table.live q) ∙ l) (subst (λ y. is_live eq qs y ≡ false) z.2 (makes.awaited z.0 z.1 ∙ known z.0 z.1)))
        ])

    pub goes_on_given : AllZip (HasValue eq m (commits_of (reverse e.events)) v) ks n.values → TakesUp eq m v a ks ps d rs f
    goes_on_given zip = record {
      given = inl (
        n.values,
        back.table.tasks a.name.key ∙ (ap (λ c. cond c (Some (held_of n.job IsReady)) (task_at eq qs a.name.key)) (equality.itself a.name.key) ∙ ap (λ (z : Assigned K V). Some (held_of z IsReady)) job),
        subst (λ (z : List (Told K V)). AllZip (HasValue eq m (commits_of (reverse z)) v) ks n.values) (sym back.desk.rest.events) zip,
      );
      out = out_so (held_of n.job IsReady) refl back.table.tasks;
      events = makes.events;
      told = back.desk.rest.events ∙ makes.told;
      of_batch = inl told_batch;
    }

  -- ---- or the task waits

  module _ (ws : List (WaitOf K)) (p : Waits K V) (waits : ws ≡ waits_of a.name.key xs) (job : p.job ≡ a) (keys : p.keys ≡ ks) (to : ParksJob eq v a.name.key p ws qs rs e f) where
    abbrev waiting : Held K V
    waiting = held_of p.job (IsWaiting p.keys)

    own_wait : (x : WaitOf K) → Has ws x → x.asker ≡ a.name.key
    own_wait x h = let r = there_waits a.name.key xs x (subst (λ z. Has z x) waits h) in ap (λ (z : WaitOf K). z.asker) r.3

    either_part : (b c : Bool) → (b || c) ≡ true → (b ≡ true) ⊎ (c ≡ true)
    either_part true c i = inl refl
    either_part false c i = inr i

    or_first : (b c : Bool) → b ≡ true → (b || c) ≡ true
    or_first true c i = refl
    or_first false c i = cc

    or_second : (b c : Bool) → c ≡ true → (b || c) ≡ true
    or_second true c i = refl
    or_second false c i = i

    -- a key that is waited for has a part
    waited_part : (q : K) → Has (map (λ (x : WaitOf K). x.key) ws) q → (y : Part U K V R) × Has xs y × (y.awaited ≡ true) × (key_in y ≡ q)
    waited_part q h =
        let x = wait_of ws q h in
        let r = there_waits a.name.key xs x.0 (subst (λ z. Has z x.0) waits x.1) in
        (r.0, r.1, r.2, sym (ap (λ (z : WaitOf K). z.key) r.3) ∙ x.2)

    pub waits_hand : (w2 : World K V) (owed2 : ℕ) → Working eq m v [] w2 owed2 qs e → Working eq m v [] w owed rs f → AtHand eq m v w owed rs f fs s
    waits_hand w2 owed2 before work = at_hand_so to.desk.rest.events to.desk.rest.ended work
        (λ q b on. elim (either_part (asks eq qs q b) (waits_so eq ws q b) (sym (to.asks q b) ∙ on)) as (λ _. (h : Held K V) × (task_at eq rs q ≡ Some h)) [
          | inl i ↦ (let r = old_asked q b i in there_so waiting to.tasks q r.0 r.1)
          | inr i ↦ (let y = waited_part q (waits_only eq equality a.name.key ws own_wait q b i).0 in
              let r = live_task eq equality m law v w2 owed2 qs e before q (subst (λ z. is_live eq qs z ≡ true) y.3 (makes.awaited y.0 y.1 ∙ y.2)) in
              there_so waiting to.tasks q r.0 r.1)
        ])
        (λ q l. elim (beside_or eq equality xs q) as (λ _. (b : By K) × (asks eq rs q b ≡ true)) [
          | inl z ↦ (let r = hand.done q (sym (to.live q ∙ makes.lives q z) ∙ l) in (r.0, to.asks q r.0 ∙ or_first (asks eq qs q r.0) (waits_so eq ws q r.0) (makes.asks q r.0 ∙ r.1)))
          | inr z ↦ (let on : z.0.awaited ≡ true = sym (makes.awaited z.0 z.1) ∙ subst (λ y. is_live eq qs y ≡ true) (sym z.2) (sym (to.live q) ∙ l) in
              let h : Has (map (λ (x : WaitOf K). x.key) ws) q = subst (λ y. Has (map (λ (x : WaitOf K). x.key) ws) y) z.2 (key_there ws (wait_for a.name.key z.0) (subst (λ y. Has y (wait_for a.name.key z.0)) (sym waits) (wait_there a.name.key xs z.0 z.1 on))) in
              (Tasked a.name.key, to.asks q (Tasked a.name.key) ∙ or_second (asks eq qs q (Tasked a.name.key)) (waits_so eq ws q (Tasked a.name.key)) (waits_there eq equality a.name.key ws own_wait q h)))
        ])

    pub waits_given : TakesUp eq m v a ks ps d rs f
    waits_given = record {
      given = inr (inl (to.tasks a.name.key ∙ (ap (λ c. cond c (Some waiting) (task_at eq qs a.name.key)) (equality.itself a.name.key) ∙ (λ i. Some (held_of (job i) (IsWaiting (keys i)))))));
      out = out_so waiting refl to.tasks;
      events = makes.events;
      told = to.desk.rest.events ∙ makes.told;
      of_batch = inl told_batch;
    }

  -- ---- what the task that is to wait needs

  module _ (parts : AreParts {U = U} {R = R} eq m v (length d.events) ps es a.name.key ks xs) (ws : List (WaitOf K)) (waits : ws ≡ waits_of a.name.key xs) where
    pub may_park : (p : Waits K V) → p.job ≡ a → p.keys ≡ ks → AsksNext eq m v a.name.key a.work a.answered (IsWaiting ks) → (x : WaitOf K) × Has ws x → MayPark eq m v a.name.key p ws qs
    may_park p job keys next some = record {
      next = subst (λ (z : Assigned K V). AsksNext eq m v a.name.key z.work z.answered (IsWaiting p.keys)) (sym job) (subst (λ z. AsksNext eq m v a.name.key a.work a.answered (IsWaiting z)) (sym keys) next);
      some = some;
      own = λ x h. ap (λ (z : WaitOf K). z.asker) (part_of x h).3;
      within = λ x h. (let r = part_of x h in subst (λ z. Has z x.key) (sym keys) (subst (Has ks) (sym (ap (λ (z : WaitOf K). z.key) r.3)) (parts.among r.0 r.1)));
      live = λ x h. (let r = part_of x h in subst (λ z. is_live eq qs z ≡ true) (sym (ap (λ (z : WaitOf K). z.key) r.3)) (makes.awaited r.0 r.1 ∙ r.2));
      apart = λ x h l. (let r = part_of x h in parts.apart r.0 r.1 (subst (λ z. Leads (asked_of eq ps) z a.name.key) (ap (λ (z : WaitOf K). z.key) r.3) (leads_fewer (asked_of eq ps) (asked_of eq qs) (λ q b on. sym (makes.asks q b) ∙ on) x.key a.name.key l)));
      each = λ q h. elim (parts.all q (subst (λ z. Has z q) keys h)) as (λ _. (m.kind q ≡ Injected) ⊎ ((x : WaitOf K) × Has ws x × (x.key ≡ q)) ⊎ ((z : V) × (value_of (tasks_of eq qs q) ≡ Some z))) [
        | inl i ↦ inl i
        | inr r ↦ by_awaited q r.0 r.1 r.2 r.0.awaited refl
      ];
    }
      where
        part_of : (x : WaitOf K) → Has ws x → (y : Part U K V R) × Has xs y × (y.awaited ≡ true) × (x ≡ wait_for a.name.key y)
        part_of x h = there_waits a.name.key xs x (subst (λ z. Has z x) waits h)

        by_awaited : (q : K) (y : Part U K V R) → Has xs y → key_in y ≡ q → (b : Bool) → y.awaited ≡ b → (m.kind q ≡ Injected) ⊎ ((x : WaitOf K) × Has ws x × (x.key ≡ q)) ⊎ ((z : V) × (value_of (tasks_of eq qs q) ≡ Some z))
        by_awaited q y h e true i = inr (inl (wait_for a.name.key y, subst (λ z. Has z (wait_for a.name.key y)) (sym waits) (wait_there a.name.key xs y h i), e))
        by_awaited q y h e false i = inr (inr (subst (λ z. (x : V) × (value_of (tasks_of eq qs z) ≡ Some x)) e (makes.valued y h i)))

    pub room_for : ArePlaced eq xs ps → length ws ≤ wait_room eq ps a.name.key → IsBeside eq xs a.name.key → HasRoomFor eq ws qs
    room_for placed room beside = record {
      alike = λ x y h i. ap (λ (z : WaitOf K). z.asker) (part_of x h).3 ∙ sym (ap (λ (z : WaitOf K). z.asker) (part_of y i).3);
      askers = λ x h. (let r = part_of x h in inr (subst (λ z. 0 < asker_room eq qs z) (sym (ap (λ (z : WaitOf K). z.key) r.3)) (let b = placed.askers r.0 r.1 r.2 in let c = makes.askers r.0 r.1 r.2 in omega arith)));
      waits = λ x h. (let r = part_of x h in subst (λ z. length ws ≤ wait_room eq qs z) (sym (ap (λ (z : WaitOf K). z.asker) r.3)) (let c = makes.waits a.name.key beside in omega arith));
    }
      where
        part_of : (x : WaitOf K) → Has ws x → (y : Part U K V R) × Has xs y × (y.awaited ≡ true) × (x ≡ wait_for a.name.key y)
        part_of x h = there_waits a.name.key xs x (subst (λ z. Has z x) waits h)

-- ---- or the task ends

module _ {K V : Type 0} (eq : K → K → Bool) (m : Meaning K V) (v : ℕ) (a : Assigned K V) (ks : List K) (ps qs : List (K × Share K (Held K V))) (d e : DeskSeen K V) where
  pub ends_given : (path : List K) → GivesUp eq v (Some path) a.name.key ps d qs e → task_at eq ps a.name.key ≡ Some (held_of a IsOut) → TakesUp eq m v a ks ps d qs e
  ends_given path g out = record {
    given = inr (inr (path, g.is ∙ ap (λ (h : Held K V). Some (held_ended h.name (WithCycle path))) (same_Some g.was (held_of a IsOut) (sym g.there ∙ out))));
    out = g.out;
    events = ending_events v g.outcomes g.drops;
    told = g.told;
    of_batch = inr (path, g.outcomes, g.drops, g.each, refl);
  }

-- ---- the whole

module _ {K V : Type 0} (eq : K → K → Bool) (equality : IsEquality eq) (m : Meaning K V) (law : IsLawful m) (v : ℕ) (k : K) (a : Assigned K V) (own : a.name.key ≡ k) (ks : List K) (w : World K V) (owed : ℕ) (ps : List (K × Share K (Held K V))) (d : DeskSeen K V) (es : List (K × Stored K V)) (s : Seen K V)
    (hand : AtHand eq m v w owed ps d es s) (out : task_at eq ps k ≡ Some (held_of a IsOut)) (next : AsksNext eq m v k a.work a.answered (IsWaiting ks)) where
  pub own_out : task_at eq ps a.name.key ≡ Some (held_of a IsOut)
  own_out = subst (λ z. task_at eq ps z ≡ Some (held_of a IsOut)) (sym own) out

  pub own_next : AsksNext eq m v a.name.key a.work a.answered (IsWaiting ks)
  own_next = subst (λ z. AsksNext eq m v z a.work a.answered (IsWaiting ks)) (sym own) next

  pub own_live : is_live eq ps k ≡ true
  own_live = subst (λ z. is_live eq ps z ≡ true) own (live_own eq equality m law v w owed ps d hand.working a ks own_out)

  pub own_path : (path : List K) → IsPathOf eq ps m a.name.key ks path → CycleStands eq m (commits_of (reverse d.events)) v k path
  own_path path h = subst (λ z. CycleStands eq m (commits_of (reverse d.events)) v z path) own (path_stands eq equality m law v w owed ps d hand.working a ks own_out own_next path h)

module _ {U K V R : Type 0} (eq : K → K → Bool) (equality : IsEquality eq) (m : Meaning K V) (law : IsLawful m) (v : ℕ) (k : K) (a : Assigned K V) (own : a.name.key ≡ k) (ks : List K) (xs : List (Part U K V R)) (w : World K V) (owed : ℕ) (ps : List (K × Share K (Held K V))) (d : DeskSeen K V) (es : List (K × Stored K V)) (s : Seen K V)
    (hand : AtHand eq m v w owed ps d es s) (out : task_at eq ps k ≡ Some (held_of a IsOut)) (next : AsksNext eq m v k a.work a.answered (IsWaiting ks)) where
  module _ (roomy : IsRoomy eq m v owed a ks ps d es s xs) where
    pub own_makes : MakesOn eq m v [] w owed xs ps d es
    own_makes = makes_on eq equality m law v w owed a ks xs ps d es s hand (own_out eq equality m law v k a own ks w owed ps d es s hand out next) (own_next eq equality m law v k a own ks w owed ps d es s hand out next) roomy

    pub own_room : HasRoomToMake eq xs ps d
    own_room = room_to_make eq equality m law v w owed a ks xs ps d es s hand (own_out eq equality m law v k a own ks w owed ps d es s hand out next) (own_next eq equality m law v k a own ks w owed ps d es s hand out next) roomy

    module _ (qs rs : List (K × Share K (Held K V))) (e f : DeskSeen K V) (fs : List (K × Stored K V)) (makes : MakesParts eq xs v ps d qs e) (made : Working eq m v [] w owed qs e × EntriesStand eq m (reverse e.events) fs) where
      pub own_knows : Knows eq v qs e
      own_knows = working_knows eq equality m v [] w owed qs e made.0

      -- it goes on
      module _ (n : Ahead K V) (plan : GoesOnSo eq m v owed a ks ps d es s xs n) (inputs : (C : List (List (K × V))) (t : Seen K V) → AreOf eq C t → (u : ℕ) (q : K) → cell_at eq m t u q ≡ input eq m C u q) where
        pub own_answers : AllZip (HasValue eq m (commits_of (reverse e.events)) v) ks n.values
        own_answers =
            let within = (stood eq equality m law v w owed ps d hand.working a ks (own_out eq equality m law v k a own ks w owed ps d es s hand out next)).within in
            subst (λ C. AllZip (HasValue eq m C v) ks n.values) (sym (same_commits eq equality m law v w owed a ks xs ps qs rs d e f es fs s hand roomy.parts.among makes made.1))
            (zip_on (IsAtHand eq m v ps es s) (HasValue eq m (commits_of (reverse d.events)) v)
            (at_hand_true eq equality m law v w owed ps d hand.working es s within hand.entries (inputs (commits_of (reverse d.events)) s hand.cells.are)) ks n.values plan.answers)

        pub own_goes : ReturnsJob eq v k a n.job qs rs e f → Working eq m v [] w owed rs f → AtHand eq m v w owed rs f fs s × TakesUp eq m v a ks ps d rs f
        own_goes back work =
            let b = subst (λ z. ReturnsJob eq v z a n.job qs rs e f) (sym own) back in (
              goes_on_hand eq equality m law v w owed a ks xs ps qs rs d e f es fs s hand roomy.parts.among makes made.1 n plan.known plan.job b work,
              goes_on_given eq equality m law v w owed a ks xs ps qs rs d e f es fs s hand roomy.parts.among makes made.1 n plan.known plan.job b own_answers,
            )

      -- it waits
      module _ (ws : List (WaitOf K)) (plan : WaitsSo eq m v owed a ks ps d es s xs ws) where
        pub own_fits : HasRoomFor eq ws qs
        own_fits = room_for eq equality m law v w owed a ks xs ps qs rs d e f es fs s hand roomy.parts.among makes made.1 roomy.parts ws plan.waits roomy.placed plan.room (own_beside eq equality m law v w owed a ks xs ps d es s hand (own_out eq equality m law v k a own ks w owed ps d es s hand out next) (own_next eq equality m law v k a own ks w owed ps d es s hand out next) roomy)

        pub own_may : (p : Waits K V) → p.job ≡ a → p.keys ≡ ks → MayPark eq m v k p ws qs
        own_may p i j = subst (λ z. MayPark eq m v z p ws qs) own (may_park eq equality m law v w owed a ks xs ps qs rs d e f es fs s hand roomy.parts.among makes made.1 roomy.parts ws plan.waits p i j (own_next eq equality m law v k a own ks w owed ps d es s hand out next) plan.some)

        pub own_waits : (p : Waits K V) → p.job ≡ a → p.keys ≡ ks → ParksJob eq v k p ws qs rs e f → Working eq m v [] w owed rs f → AtHand eq m v w owed rs f fs s × TakesUp eq m v a ks ps d rs f
        own_waits p i j to work =
            let b = subst (λ z. ParksJob eq v z p ws qs rs e f) (sym own) to in (
              waits_hand eq equality m law v w owed a ks xs ps qs rs d e f es fs s hand roomy.parts.among makes made.1 ws p plan.waits i j b w owed made.0 work,
              waits_given eq equality m law v w owed a ks xs ps qs rs d e f es fs s hand roomy.parts.among makes made.1 ws p plan.waits i j b,
            )
