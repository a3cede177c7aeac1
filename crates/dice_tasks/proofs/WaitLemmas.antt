-- What holds while a call works on a version is kept when a task is taken, put back, waits or goes on.
use Rattle.std.proofs.Common.{◌≡◌, ◌≤◌, ◌⊎◌, inl, inr, ◌+◌, ◌*◌, ℕ, Bool, true, false, cond, ◌&&◌, ◌||◌, List, [], ◌∷◌, map, reverse, Option, Some, refl, sym, ap, ◌∙◌, subst, arith}
use Rattle.std.proofs.lemmas.Bool.{eq-eqb, and_parts, or_cases}
use Rattle.std.specs.Option.{option_map}
use Rattle.std.specs.List.{AllZip}
use Rattle.dice_key.specs.Lawful.{IsEquality, IsLawful}
use Rattle.dice_key.specs.Meaning.{Meaning}
use Rattle.dice_model.specs.Eval.{HasValue}
use Rattle.dice_jobs.specs.Jobs.{Name, Assigned, Waits, answered_more}
use Rattle.dice_model.specs.Asks.{AsksFor}
use Rattle.dice_key.specs.declared.universe.Kind.TheVariants.{Injected}
use Rattle.task_share.specs.Asked.{By, Promised, Tasked, Asked, WaitOf, Leads, is_by}
use Rattle.task_share.specs.Seen.{Share, task_at, is_live, asks, asked_of, KeepsAsks}
use Rattle.task_share.specs.Lent.{WritesTask}
use Rattle.journal.specs.Events.{commits_of}
use Rattle.journal.specs.Law.{IsWanted}
use Rattle.core_laws.specs.Tasks.{IsReady, IsOut, IsWaiting, Task, value_of}
use Rattle.core_laws.specs.Stands.{AsksNext, TaskStands, VersionStands}
use Rattle.core_laws.specs.Changes.{Puts, Parks}
use Rattle.core_laws.specs.Desk.{World, DeskTurns, AreAll, Loses, Stand, with_version, is_out, out_in}
use Rattle.core_laws.proofs.Counts.{all_fewer}
use Rattle.core_laws.proofs.Turns.{pair_test, task_there, with_twice, stands_here}
use Rattle.core_laws.proofs.StepsWaits.{taken_stand, brought_back_stand, goes_on_at_once_stand, parks_stand}
use Rattle.core_laws.proofs.Parks.{asks_of_next}
use Rattle.dice_tasks.specs.Helds.{Held, task_of, held_of}
use Rattle.dice_tasks.specs.Hands.{DeskSeen, desk_of, tasks_of, seen_world, Gains, Stays, Takes, Working}
use Rattle.dice_tasks.specs.Waitings.{OutTurns, IsTurned, KeepsTable, TakesJob, ReturnsJob, waits_so, ParksJob, MayPark}
use Rattle.core_laws.proofs.Turns.{same_where}
use Rattle.dice_tasks.proofs.Lists.{Same, loses_last}
use Rattle.dice_tasks.proofs.EndsLemmas.{puts_of, named_put}
use Rattle.lists.specs.Lists.{AreDistinct, Has}

-- ---- the tasks that are out

module _ {X : Type 0} (f g : X → Bool) (y : X) (else : (x : X) → (y ≡ x → ⊥) → g x ≡ f x) (test : (x : X) → (y ≡ x) ⊎ (y ≡ x → ⊥)) where
  all_stay : f y ≡ g y → (xs ys : List X) → Stays xs ys → AreAll f xs → AreAll g ys
  all_stay e xs ys h all = record {
    passes = λ x i. same_where f g y else test e x ∙ all.passes x (h.only x i);
    found = λ x i. h.kept x (all.found x (sym (same_where f g y else test e x) ∙ i));
    distinct = h.distinct;
  }

  all_gain : g y ≡ true → (xs ys : List X) → Gains y xs ys → AreAll f xs → AreAll g ys
  all_gain on xs ys h all = record {
    passes = λ x i. elim (test x) as (λ _. g x ≡ true) [
      | inl q ↦ subst (λ z. g z ≡ true) q on
      | inr n ↦ else x n ∙ all.passes x (elim (h.only x i) as (λ _. Has xs x) [ inl o ↦ o | inr q ↦ absurd (n q) ])
    ];
    found = λ x i. elim (test x) as (λ _. Has ys x) [
      | inl q ↦ subst (λ z. Has ys z) q h.came
      | inr n ↦ h.kept x (all.found x (sym (else x n) ∙ i))
    ];
    distinct = h.distinct;
  }

  pub outs_turn : (a b : Bool) → f y ≡ a → g y ≡ b → (xs ys : List X) → OutTurns a b y xs ys → AreAll f xs → AreAll g ys
  outs_turn false false p q xs ys h all = all_stay (p ∙ sym q) xs ys h all
  outs_turn true true p q xs ys h all = all_stay (p ∙ sym q) xs ys h all
  outs_turn false true p q xs ys h all = all_gain q xs ys h all
  outs_turn true false p q xs ys h all = all_fewer f g y q else test xs ys all h.among h.others h.distinct

module _ {K V : Type 0} (eq : K → K → Bool) (equality : IsEquality eq) (v : ℕ) (k : K) (o : Option (Task K V)) (s u : Asked K) (ts us : K → Option (Task K V)) (w : World K V) (put : Puts eq k o ts us) where
  -- the out tasks of all versions, if one task of v was put
  pub outs_put : (a b : Bool) → is_out (ts k) ≡ a → is_out o ≡ b → (xs ys : List (ℕ × K)) → OutTurns a b (v, k) xs ys → AreAll (λ (p : ℕ × K). is_out ((with_version v s ts w).tasks p.0 p.1)) xs → AreAll (λ (p : ℕ × K). is_out ((with_version v u us w).tasks p.0 p.1)) ys
  outs_put a b was is xs ys turns all = outs_turn (λ (p : ℕ × K). is_out ((with_version v s ts w).tasks p.0 p.1)) (λ (p : ℕ × K). is_out ((with_version v u us w).tasks p.0 p.1)) (v, k) others (pair_test eq equality v k) a b there here xs ys turns all
    where
      put_x : Puts eq k o ((with_version v s ts w).tasks v) us
      put_x = rw (eq-eqb v v refl) put

      here : is_out ((with_version v u us w).tasks v k) ≡ b
      here = rw (eq-eqb v v refl) (ap is_out (put k ∙ ap (λ c. cond c o (ts k)) (equality.itself k)) ∙ is)

      there : is_out ((with_version v s ts w).tasks v k) ≡ a
      there = rw (eq-eqb v v refl) was

      others : (p : ℕ × K) → ((v, k) ≡ p → ⊥) → is_out ((with_version v u us w).tasks p.0 p.1) ≡ is_out ((with_version v s ts w).tasks p.0 p.1)
      others p n = ap is_out (ap (λ (y : World K V). y.tasks p.0 p.1) (sym (with_twice eq equality v s u ts us w)) ∙ task_there eq equality v k o (with_version v s ts w) u us put_x p n)

-- ---- one task of the table

module _ {K V : Type 0} (eq : K → K → Bool) (equality : IsEquality eq) where
  -- a task that is written as another
  pub turned_by : (k : K) (h g t : Held K V) (ps qs : List (K × Share K (Held K V))) → task_at eq ps k ≡ Some h → t ≡ g → WritesTask eq k ps qs t → IsTurned eq k h g ps qs
  turned_by k h g t ps qs was is writes = record {
    was = was;
    tasks = λ q. writes.tasks q ∙ by_test q (eq k q) refl;
    live = writes.live;
    asks = writes.asks;
    room = writes.room;
  }
    where
      by_test : (q : K) (b : Bool) → eq k q ≡ b → cond b (option_map (λ _. t) (task_at eq ps q)) (task_at eq ps q) ≡ cond b (Some g) (task_at eq ps q)
      by_test q false i = refl
      by_test q true i =
          let j : task_at eq ps q ≡ Some h = subst (λ z. task_at eq ps z ≡ Some h) (equality.same k q i) was in
          ap (λ (z : Option (Held K V)). option_map (λ _. t) z) j ∙ ap Some is

  -- a task that is written as it was
  pub table_kept : (k : K) (h : Held K V) (ps qs : List (K × Share K (Held K V))) → IsTurned eq k h h ps qs → KeepsTable eq ps qs
  table_kept k h ps qs turned = record {
    tasks = λ q. turned.tasks q ∙ by_test q (eq k q) refl;
    live = turned.live;
    asks = turned.asks;
    room = turned.room;
  }
    where
      by_test : (q : K) (b : Bool) → eq k q ≡ b → cond b (Some h) (task_at eq ps q) ≡ task_at eq ps q
      by_test q false i = refl
      by_test q true i = sym (subst (λ z. task_at eq ps z ≡ Some h) (equality.same k q i) turned.was)

  -- the same asks and the same that live
  pub asked_same : (ps qs : List (K × Share K (Held K V))) → ((q : K) → is_live eq qs q ≡ is_live eq ps q) → KeepsAsks eq ps qs → asked_of eq qs ≡ asked_of eq ps
  asked_same ps qs live asked = λ i. record { live = λ q. live q i; asks = λ q b. asked q b i }

  module _ (m : Meaning K V) (v : ℕ) (k : K) (h g : Held K V) (ps qs : List (K × Share K (Held K V))) (was : task_at eq ps k ≡ Some h) (tasks : (q : K) → task_at eq qs q ≡ cond (eq k q) (Some g) (task_at eq ps q)) (live : (q : K) → is_live eq qs q ≡ is_live eq ps q) (name : g.name ≡ h.name) where
    -- all that holds beside what stands over all versions is kept if one task turns
    pub works_on : (d e : DeskSeen K V) (a b : Bool) → out_in h.standing ≡ a → out_in g.standing ≡ b → OutTurns a b (v, k) d.out e.out → e.events ≡ d.events → (W X : List K) (w : World K V) (owed owed2 : ℕ) → Working eq m v W w owed ps d
        → Stand eq m (reverse d.events) v X (seen_world eq v qs w) (desk_of e) owed2 → Working eq m v X w owed2 qs e
    works_on d e a b out_was out_is outs events W X w owed owed2 work stand = record {
      stand = subst (λ es. Stand eq m (reverse es) v X (seen_world eq v qs w) (desk_of e) owed2) (sym events) stand;
      outs = outs_put eq equality v k (Some (task_of g)) (asked_of eq ps) (asked_of eq qs) (tasks_of eq ps) (tasks_of eq qs) w (puts_of eq k (Some g) ps qs tasks) a b (ap (λ (z : Option (Held K V)). is_out (option_map task_of z)) was ∙ out_was) out_is d.out e.out outs work.outs;
      named = named_put eq equality v k g ps qs tasks (let n = work.named k h was in (ap (λ (z : Name K). z.version) name ∙ n.0, ap (λ (z : Name K). z.key) name ∙ n.1)) work.named;
      wanted = λ q on. subst (λ es. IsWanted eq m (reverse es) v q) (sym events) (work.wanted q (sym (live q) ∙ on));
    }

-- ---- a job is taken, comes back, or goes on

module _ {K V : Type 0} (eq : K → K → Bool) (equality : IsEquality eq) (m : Meaning K V) (law : IsLawful m) (v : ℕ) (k : K) where
  -- the desk, if a ready task is taken
  taken_ready : (p : ℕ × K) (d e : DeskSeen K V) → Takes p d e → AreDistinct d.ready → Loses p d.ready e.ready
  taken_ready p d e takes distinct = loses_last d.ready e.ready p (subst AreDistinct takes.ready distinct) (subst (λ z. Same d.ready z) takes.ready (record { there = λ x i. i; back = λ x i. i }))

  pub takes_on : (a : Assigned K V) (ps qs : List (K × Share K (Held K V))) (d e : DeskSeen K V) → TakesJob eq v k a ps qs d e → (W : List K) (w : World K V) (owed : ℕ) → Working eq m v W w owed ps d → Working eq m v W w owed qs e
  takes_on a ps qs d e takes W w owed work =
      works_on eq equality m v k (held_of a IsReady) (held_of a IsOut) ps qs takes.table.was takes.table.tasks takes.table.live refl d e false true refl refl takes.desk.out takes.desk.rest.events W W w owed owed work
      (subst (λ (s : Asked K). Stand eq m (reverse d.events) v W (with_version v s (tasks_of eq qs) w) (desk_of e) owed) (sym (asked_same eq equality ps qs takes.table.live takes.table.asks)) step)
    where
      there : tasks_of eq ps k ≡ Some (task_of (held_of a IsReady))
      there = ap (option_map task_of) takes.table.was

      turns : DeskTurns v k (tasks_of eq ps k) (Some (task_of (held_of a IsOut))) (desk_of d) (desk_of e)
      turns = subst (λ (z : Option (Task K V)). DeskTurns v k z (Some (task_of (held_of a IsOut))) (desk_of d) (desk_of e)) (sym there) (record { ready = taken_ready (v, k) d e takes.desk work.stand.ready.distinct; out = takes.desk.count; live = takes.desk.rest.live })

      room : 2 * e.live + owed ≤ e.spare
      room = let n = work.stand.room in let l = takes.desk.rest.live in let s = takes.desk.rest.spare in omega arith

      step : Stand eq m (reverse d.events) v W (with_version v (asked_of eq ps) (tasks_of eq qs) w) (desk_of e) owed
      step = taken_stand eq equality m law (reverse d.events) v w W (asked_of eq ps) (tasks_of eq ps) (tasks_of eq qs) k (task_of (held_of a IsReady)) a.work a.answered (desk_of d) (desk_of e) owed owed work.stand there refl (puts_of eq k (Some (held_of a IsOut)) ps qs takes.table.tasks) turns room

  module _ (a b : Assigned K V) (ps qs : List (K × Share K (Held K V))) (d e : DeskSeen K V) (back : ReturnsJob eq v k a b ps qs d e) where
    there_out : tasks_of eq ps k ≡ Some (task_of (held_of a IsOut))
    there_out = ap (option_map task_of) back.table.was

    turns_back : DeskTurns v k (tasks_of eq ps k) (Some (task_of (held_of b IsReady))) (desk_of d) (desk_of e)
    turns_back = subst (λ (z : Option (Task K V)). DeskTurns v k z (Some (task_of (held_of b IsReady))) (desk_of d) (desk_of e)) (sym there_out) (record { ready = back.desk.ready; out = back.desk.count; live = back.desk.rest.live })

    room_back : (owed : ℕ) → 2 * d.live + owed ≤ d.spare → 2 * e.live + owed ≤ e.spare
    room_back owed n = let l = back.desk.rest.live in let s = back.desk.rest.spare in omega arith

    works_back : b.name ≡ a.name → (W : List K) (w : World K V) (owed : ℕ) → Working eq m v W w owed ps d → Stand eq m (reverse d.events) v W (seen_world eq v qs w) (desk_of e) owed → Working eq m v W w owed qs e
    works_back name W w owed work step = works_on eq equality m v k (held_of a IsOut) (held_of b IsReady) ps qs back.table.was back.table.tasks back.table.live name d e true false refl refl back.desk.out back.desk.rest.events W W w owed owed work step

  pub back_on : (a : Assigned K V) (ps qs : List (K × Share K (Held K V))) (d e : DeskSeen K V) → ReturnsJob eq v k a a ps qs d e → (W : List K) (w : World K V) (owed : ℕ) → Working eq m v W w owed ps d → Working eq m v W w owed qs e
  back_on a ps qs d e back W w owed work = works_back a a ps qs d e back refl W w owed work
      (subst (λ (s : Asked K). Stand eq m (reverse d.events) v W (with_version v s (tasks_of eq qs) w) (desk_of e) owed) (sym (asked_same eq equality ps qs back.table.live back.table.asks))
      (brought_back_stand eq equality m law (reverse d.events) v w W (asked_of eq ps) (tasks_of eq ps) (tasks_of eq qs) k (task_of (held_of a IsOut)) a.work a.answered (desk_of d) (desk_of e) owed owed work.stand (there_out a a ps qs d e back) refl (puts_of eq k (Some (held_of a IsReady)) ps qs back.table.tasks) (turns_back a a ps qs d e back) (room_back a a ps qs d e back owed work.stand.room)))

  goes_so : (a : Assigned K V) (ks : List K) (xs : List V) (ps qs : List (K × Share K (Held K V))) (d e : DeskSeen K V) → ReturnsJob eq v k a (answered_more a ks xs) ps qs d e → (W : List K) (w : World K V) (owed : ℕ) → Working eq m v W w owed ps d
      → AsksNext eq m v k a.work a.answered (IsWaiting ks) → AllZip (HasValue eq m (commits_of (reverse d.events)) v) ks xs → Working eq m v W w owed qs e
  goes_so a ks xs ps qs d e back W w owed work next zip =
      let b = answered_more a ks xs in
      works_back a b ps qs d e back refl W w owed work
      (goes_on_at_once_stand eq equality m law (reverse d.events) v w W (asked_of eq ps) (asked_of eq qs) (tasks_of eq ps) (tasks_of eq qs) k (task_of (held_of a IsOut)) a.work a.answered ks xs (desk_of d) (desk_of e) owed owed work.stand (there_out a b ps qs d e back) refl next zip (puts_of eq k (Some (held_of b IsReady)) ps qs back.table.tasks) back.table.live back.table.asks (turns_back a b ps qs d e back) (room_back a b ps qs d e back owed work.stand.room))

  pub goes_on_so : (a b : Assigned K V) (ks : List K) (xs : List V) (ps qs : List (K × Share K (Held K V))) (d e : DeskSeen K V) → b ≡ answered_more a ks xs → ReturnsJob eq v k a b ps qs d e → (W : List K) (w : World K V) (owed : ℕ) → Working eq m v W w owed ps d
      → AsksNext eq m v k a.work a.answered (IsWaiting ks) → AllZip (HasValue eq m (commits_of (reverse d.events)) v) ks xs → Working eq m v W w owed qs e
  goes_on_so a b ks xs ps qs d e is back W w owed work next zip = goes_so a ks xs ps qs d e (subst (λ (z : Assigned K V). ReturnsJob eq v k a z ps qs d e) is back) W w owed work next zip

-- ---- a job comes to wait

or_true : (a : Bool) → (a || true) ≡ true
or_true true = refl
or_true false = refl

module _ {K : Type 0} where
  pub key_there : (xs : List (WaitOf K)) (x : WaitOf K) → Has xs x → Has (map (λ y. y.key) xs) x.key
  key_there [] x h = h
  key_there (y ∷ xs) x (inl e) = inl (ap (λ (z : WaitOf K). z.key) e)
  key_there (y ∷ xs) x (inr h) = inr (key_there xs x h)

  pub wait_of : (xs : List (WaitOf K)) (q : K) → Has (map (λ y. y.key) xs) q → (x : WaitOf K) × Has xs x × (x.key ≡ q)
  wait_of [] q h = absurd h
  wait_of (y ∷ xs) q (inl e) = (y, inl refl, e)
  wait_of (y ∷ xs) q (inr h) = let r = wait_of xs q h in (r.0, inr r.1, r.2)

module _ {K : Type 0} (eq : K → K → Bool) (equality : IsEquality eq) (k : K) where
  pub waits_there : (xs : List (WaitOf K)) → ((x : WaitOf K) → Has xs x → x.asker ≡ k) → (q : K) → Has (map (λ y. y.key) xs) q → waits_so eq xs q (Tasked k) ≡ true
  waits_there [] own q h = absurd h
  waits_there (y ∷ xs) own q (inl e) =
      let a : eq y.key q ≡ true = subst (λ z. eq y.key z ≡ true) e (equality.itself y.key) in
      let b : eq y.asker k ≡ true = subst (λ z. eq y.asker z ≡ true) (own y (inl refl)) (equality.itself y.asker) in
      ap (λ c. (c && eq y.asker k) || waits_so eq xs q (Tasked k)) a ∙ ap (λ c. c || waits_so eq xs q (Tasked k)) b
  waits_there (y ∷ xs) own q (inr h) = ap (λ c. (eq y.key q && eq y.asker k) || c) (waits_there xs (λ x i. own x (inr i)) q h) ∙ or_true (eq y.key q && eq y.asker k)

  by_only : (j : K) → j ≡ k → (a : By K) → is_by eq (Tasked j) a ≡ true → a ≡ Tasked k
  by_only j own (Promised n) e = let c : false ≡ true = e in cc
  by_only j own (Tasked i) e = ap Tasked (sym (equality.same j i e) ∙ own)

  pub waits_only : (xs : List (WaitOf K)) → ((x : WaitOf K) → Has xs x → x.asker ≡ k) → (q : K) (a : By K) → waits_so eq xs q a ≡ true → Has (map (λ y. y.key) xs) q × (a ≡ Tasked k)
  waits_only [] own q a e = let c : false ≡ true = e in cc
  waits_only (y ∷ xs) own q a e = elim (or_cases (eq y.key q && is_by eq (Tasked y.asker) a) (waits_so eq xs q a) e) as (λ _. Has (map (λ z. z.key) (y ∷ xs)) q × (a ≡ Tasked k)) [
    | inl i ↦ let b = and_parts (eq y.key q) (is_by eq (Tasked y.asker) a) i in (inl (equality.same y.key q b.0), by_only y.asker (own y (inl refl)) a b.1)
    | inr i ↦ let r = waits_only xs (λ x h. own x (inr h)) q a i in (inr r.0, r.1)
  ]

module _ {K V : Type 0} (eq : K → K → Bool) (equality : IsEquality eq) (m : Meaning K V) (law : IsLawful m) where
  pub parks_on : (v : ℕ) (k : K) (p : Waits K V) (xs : List (WaitOf K)) (ps qs : List (K × Share K (Held K V))) (d e : DeskSeen K V) → ParksJob eq v k p xs ps qs d e → MayPark eq m v k p xs ps → (W : List K) (w : World K V) (owed : ℕ) → Working eq m v W w owed ps d → Working eq m v W w owed qs e
  parks_on v k p xs ps qs d e to may W w owed work =
      works_on eq equality m v k (held_of a IsOut) (held_of a (IsWaiting p.keys)) ps qs to.was to.tasks to.live refl d e true false refl refl to.desk.out to.desk.rest.events W W w owed owed work
      (parks_stand eq equality m law (reverse d.events) v w W (asked_of eq ps) (asked_of eq qs) (tasks_of eq ps) (tasks_of eq qs) k (task_of (held_of a IsOut)) a.work a.answered p.keys ds (desk_of d) (desk_of e) owed owed work.stand there refl may.next may.some.0.key (key_there xs may.some.0 may.some.1) within good each parked to.live (puts_of eq k (Some (held_of a (IsWaiting p.keys))) ps qs to.tasks) turns room)
    where
      a : Assigned K V
      a = p.job

      ds : List K
      ds = map (λ x. x.key) xs

      there : tasks_of eq ps k ≡ Some (task_of (held_of a IsOut))
      there = ap (option_map task_of) to.was

      here : VersionStands eq m (reverse d.events) v W (asked_of eq ps) (tasks_of eq ps)
      here = stands_here eq equality m (reverse d.events) v W (asked_of eq ps) (tasks_of eq ps) w (desk_of d) owed work.stand

      stood : TaskStands eq m (reverse d.events) v k (task_of (held_of a IsOut))
      stood = here.each k (task_of (held_of a IsOut)) there

      within : (q : K) → Has ds q → Has p.keys q
      within q h = let r = wait_of xs q h in subst (λ z. Has p.keys z) r.2 (may.within r.0 r.1)

      good : (q : K) → Has ds q → AsksFor eq m (commits_of (reverse d.events)) v k q × (is_live eq ps q ≡ true) × (Leads (asked_of eq ps) q k → ⊥)
      good q h = let r = wait_of xs q h in (
        asks_of_next eq equality m law (reverse d.events) v k a.work a.answered p.keys stood.standing.work may.next stood.computed q (within q h),
        subst (λ z. is_live eq ps z ≡ true) r.2 (may.live r.0 r.1),
        subst (λ z. Leads (asked_of eq ps) z k → ⊥) r.2 (may.apart r.0 r.1),
      )

      each : (q : K) → Has p.keys q → (m.kind q ≡ Injected) ⊎ Has ds q ⊎ ((x : V) × (value_of (tasks_of eq ps q) ≡ Some x))
      each q h = elim (may.each q h) as (λ _. (m.kind q ≡ Injected) ⊎ Has ds q ⊎ ((x : V) × (value_of (tasks_of eq ps q) ≡ Some x))) [
        | inl i ↦ inl i
        | inr r ↦ elim r as (λ _. (m.kind q ≡ Injected) ⊎ Has ds q ⊎ ((x : V) × (value_of (tasks_of eq ps q) ≡ Some x))) [
          | inl x ↦ inr (inl (subst (λ z. Has ds z) x.2 (key_there xs x.0 x.1)))
          | inr y ↦ inr (inr y)
        ]
      ]

      parked : Parks eq k ds (asked_of eq ps) (asked_of eq qs)
      parked = record {
        kept = λ q b on. to.asks q b ∙ ap (λ c. c || waits_so eq xs q b) on;
        asked = λ q h. to.asks q (Tasked k) ∙ (ap (λ c. asks eq ps q (Tasked k) || c) (waits_there eq equality k xs may.own q h) ∙ or_true (asks eq ps q (Tasked k)));
        only = λ q b on. elim (or_cases (asks eq ps q b) (waits_so eq xs q b) (sym (to.asks q b) ∙ on)) as (λ _. (asks eq ps q b ≡ true) ⊎ (Has ds q × (b ≡ Tasked k))) [
          | inl i ↦ inl i
          | inr i ↦ inr (waits_only eq equality k xs may.own q b i)
        ];
      }

      turns : DeskTurns v k (tasks_of eq ps k) (Some (task_of (held_of a (IsWaiting p.keys)))) (desk_of d) (desk_of e)
      turns = subst (λ (z : Option (Task K V)). DeskTurns v k z (Some (task_of (held_of a (IsWaiting p.keys)))) (desk_of d) (desk_of e)) (sym there) (record { ready = to.desk.ready; out = to.desk.count; live = to.desk.rest.live })

      room : 2 * e.live + owed ≤ e.spare
      room = let n = work.stand.room in let l = to.desk.rest.live in let s = to.desk.rest.spare in omega arith
