-- What holds while a call works on a version is kept when a task ends or is dropped.
use Rattle.std.proofs.Common.{◌≡◌, ◌≤◌, ◌<◌, inl, inr, ◌+◌, ◌-◌, ◌*◌, ℕ, Bool, true, false, cond, List, [], ◌∷◌, ◌++◌, length, reverse, Option, Some, None, refl, sym, ap, ◌∙◌, subst, arith}
use Rattle.std.proofs.lemmas.Bool.{eq-eqb}
use Rattle.std.proofs.lemmas.List.{reverse-append}
use Rattle.std.specs.Option.{option_map}
use Rattle.dice_key.specs.Lawful.{IsEquality, IsLawful}
use Rattle.dice_key.specs.Meaning.{Meaning}
use Rattle.task_share.specs.Asked.{Asked, IsDone}
use Rattle.task_share.specs.Seen.{Share, task_at, asked_of, KeepsTasks, KeepsAsks}
use Rattle.journal.specs.declared.event.Told.{Told}
use Rattle.journal.specs.declared.event.Told.TheVariants.{Drop}
use Rattle.journal.specs.Events.{ended_at}
use Rattle.core_laws.specs.Tasks.{IsReady, IsOut, IsWaiting, Standing, Works, Ended, Task, goes_on, is_going}
use Rattle.core_laws.specs.Stands.{VersionStands}
use Rattle.core_laws.specs.Changes.{Puts}
use Rattle.core_laws.specs.Desk.{World, DeskTurns, AreAll, Stand, with_version, is_ready, is_out, out_in}
use Rattle.core_laws.proofs.Counts.{all_alike, all_fewer, counted}
use Rattle.core_laws.proofs.Held.{going_where_waiting}
use Rattle.core_laws.proofs.Turns.{pair_test, task_there, with_twice, stands_here}
use Rattle.core_laws.proofs.StepsEnds.{drops_stand}
use Rattle.core_laws.proofs.StepsRests.{wanted_stand}
use Rattle.dice_tasks.specs.Helds.{Held, task_of}
use Rattle.dice_tasks.specs.Hands.{DeskSeen, desk_of, tasks_of, AreNamed, seen_world, with_event, with_ended, Stays, KeepsDesk, Working, Cleaning}
use Rattle.dice_tasks.specs.Endings.{Quits, Knows, DropsTask}

-- one event more, read backwards
pub back_more : {X : Type 0} (xs : List X) (x : X) → reverse (xs ++ x ∷ []) ≡ x ∷ reverse xs
back_more xs x = reverse-append xs (x ∷ [])

-- ---- the desk, when a task is at work no more

module _ {K V : Type 0} where
  -- all but what is ready and out is as before
  pub quits_keeps : (s : Standing K V) (p : ℕ × K) (d e : DeskSeen K V) → Quits s p d e → KeepsDesk d e
  quits_keeps (Works w IsReady A) p d e q = q.rest
  quits_keeps (Works w IsOut A) p d e q = q.rest
  quits_keeps (Works w (IsWaiting ks) A) p d e q = record { events = ap (λ (x : DeskSeen K V). x.events) q; live = ap (λ (x : DeskSeen K V). x.live) q; ended = ap (λ (x : DeskSeen K V). x.ended) q; spare = ap (λ (x : DeskSeen K V). x.spare) q; live_room = ap (λ (x : DeskSeen K V). x.live_room) q }
  quits_keeps (Ended o) p d e q = record { events = ap (λ (x : DeskSeen K V). x.events) q; live = ap (λ (x : DeskSeen K V). x.live) q; ended = ap (λ (x : DeskSeen K V). x.ended) q; spare = ap (λ (x : DeskSeen K V). x.spare) q; live_room = ap (λ (x : DeskSeen K V). x.live_room) q }

  module _ (v : ℕ) (k : K) (born : ℕ) (o : Option (Task K V)) (no_ready : is_ready o ≡ false) (no_out : is_out o ≡ false) (no_going : is_going o ≡ false) (d e : DeskSeen K V) (x : Told K V) (some : 0 < d.live) where
    -- the desk follows the task
    pub quits_turns : (s : Standing K V) → goes_on s ≡ true → Quits s (v, k) d e → DeskTurns v k (Some (record { born = born; standing = s })) o (desk_of d) (desk_of (with_event (with_ended e) x))
    quits_turns (Works w IsReady A) on q = record {
      ready = rw no_ready q.ready;
      out = rw no_out q.count;
      live = rw no_going (let l = q.rest.live in omega arith);
    }
    quits_turns (Works w IsOut A) on q = record {
      ready = rw no_ready q.ready;
      out = rw no_out q.count;
      live = rw no_going (let l = q.rest.live in omega arith);
    }
    quits_turns (Works w (IsWaiting ks) A) on q = record {
      ready = rw no_ready (ap (λ (y : DeskSeen K V). y.ready) q);
      out = rw no_out (ap (λ (y : DeskSeen K V). length y.out) q);
      live = rw no_going (let l : e.live ≡ d.live = ap (λ (y : DeskSeen K V). y.live) q in omega arith);
    }
    quits_turns (Ended r) on q = let c : false ≡ true = on in cc

module _ {K V : Type 0} (eq : K → K → Bool) (equality : IsEquality eq) (v : ℕ) where
  -- the out tasks follow too
  pub outs_after : (k : K) (o : Option (Task K V)) (s u : Asked K) (ts us : K → Option (Task K V)) (w : World K V) → Puts eq k o ts us → is_out o ≡ false → (d e : DeskSeen K V) (t : Task K V) → ts k ≡ Some t → Quits t.standing (v, k) d e
      → AreAll (λ (p : ℕ × K). is_out ((with_version v s ts w).tasks p.0 p.1)) d.out → AreAll (λ (p : ℕ × K). is_out ((with_version v u us w).tasks p.0 p.1)) e.out
  outs_after k o s u ts us w put no_out d e t there quits all = by_standing t.standing refl quits
    where
      x : World K V
      x = with_version v s ts w

      f : ℕ × K → Bool
      f p = is_out ((with_version v s ts w).tasks p.0 p.1)

      g : ℕ × K → Bool
      g p = is_out ((with_version v u us w).tasks p.0 p.1)

      put_x : Puts eq k o ((with_version v s ts w).tasks v) us
      put_x = rw (eq-eqb v v refl) put

      here : is_out ((with_version v u us w).tasks v k) ≡ false
      here = rw (eq-eqb v v refl) (ap is_out (put k ∙ ap (λ b. cond b o (ts k)) (equality.itself k)) ∙ no_out)

      there_old : (with_version v s ts w).tasks v k ≡ Some t
      there_old = rw (eq-eqb v v refl) there

      others : (p : ℕ × K) → ((v, k) ≡ p → ⊥) → is_out ((with_version v u us w).tasks p.0 p.1) ≡ is_out ((with_version v s ts w).tasks p.0 p.1)
      others p n = ap is_out (ap (λ (y : World K V). y.tasks p.0 p.1) (sym (with_twice eq equality v s u ts us w)) ∙ task_there eq equality v k o (with_version v s ts w) u us put_x p n)

      alike : is_out (Some t) ≡ false → (p : ℕ × K) → is_out ((with_version v u us w).tasks p.0 p.1) ≡ is_out ((with_version v s ts w).tasks p.0 p.1)
      alike none p = elim (pair_test eq equality v k p) as (λ _. is_out ((with_version v u us w).tasks p.0 p.1) ≡ is_out ((with_version v s ts w).tasks p.0 p.1)) [
        | inl i ↦ subst (λ (z : ℕ × K). is_out ((with_version v u us w).tasks z.0 z.1) ≡ is_out ((with_version v s ts w).tasks z.0 z.1)) i (here ∙ sym (ap is_out there_old ∙ none))
        | inr n ↦ others p n
      ]

      stays : is_out (Some t) ≡ false → Stays d.out e.out → AreAll (λ (p : ℕ × K). is_out ((with_version v u us w).tasks p.0 p.1)) e.out
      stays none h = record {
        passes = λ p i. alike none p ∙ all.passes p (h.only p i);
        found = λ p i. h.kept p (all.found p (sym (alike none p) ∙ i));
        distinct = h.distinct;
      }

      same : is_out (Some t) ≡ false → e ≡ d → AreAll (λ (p : ℕ × K). is_out ((with_version v u us w).tasks p.0 p.1)) e.out
      same none q = subst (λ (y : DeskSeen K V). AreAll (λ (p : ℕ × K). is_out ((with_version v u us w).tasks p.0 p.1)) y.out) (sym q) (all_alike _ _ (alike none) d.out all)

      by_standing : (z : Standing K V) → t.standing ≡ z → Quits z (v, k) d e → AreAll (λ (p : ℕ × K). is_out ((with_version v u us w).tasks p.0 p.1)) e.out
      by_standing (Works a IsReady A) i q = stays (ap out_in i) q.out
      by_standing (Works a IsOut A) i q = all_fewer _ _ (v, k) here others (pair_test eq equality v k) d.out e.out all q.out.among q.out.others q.out.distinct
      by_standing (Works a (IsWaiting ks) A) i q = same (ap out_in i) q
      by_standing (Ended r) i q = same (ap out_in i) q

-- ---- the tasks of a table

module _ {K V : Type 0} (eq : K → K → Bool) where
  -- one task is put in, or taken out
  pub puts_of : (k : K) (o : Option (Held K V)) (ps qs : List (K × Share K (Held K V))) → ((q : K) → task_at eq qs q ≡ cond (eq k q) o (task_at eq ps q)) → Puts eq k (option_map task_of o) (tasks_of eq ps) (tasks_of eq qs)
  puts_of k o ps qs h q = ap (option_map task_of) (h q) ∙ by_test (eq k q)
    where
      by_test : (b : Bool) → option_map task_of (cond b o (task_at eq ps q)) ≡ cond b (option_map task_of o) (tasks_of eq ps q)
      by_test true = refl
      by_test false = refl

  -- the same tasks and asks, key by key
  pub same_tasks : (ps qs : List (K × Share K (Held K V))) → KeepsTasks eq ps qs → tasks_of eq qs ≡ tasks_of eq ps
  same_tasks ps qs h = λ i q. option_map task_of (h.tasks q i)

  pub same_asked : (ps qs : List (K × Share K (Held K V))) → KeepsTasks eq ps qs → KeepsAsks eq ps qs → asked_of eq qs ≡ asked_of eq ps
  same_asked ps qs h a = λ i. record { live = λ q. h.live q i; asks = λ q b. a q b i }

  pub same_table : (v : ℕ) (w : World K V) (ps qs : List (K × Share K (Held K V))) → KeepsTasks eq ps qs → KeepsAsks eq ps qs → seen_world eq v ps w ≡ seen_world eq v qs w
  same_table v w ps qs t a = λ i. with_version v (sym (same_asked ps qs t a) i) (sym (same_tasks ps qs t) i) w

  -- names stay if a task was taken out
  pub named_drop : (v : ℕ) (k : K) (ps qs : List (K × Share K (Held K V))) → ((q : K) → task_at eq qs q ≡ cond (eq k q) None (task_at eq ps q)) → AreNamed eq v ps → AreNamed eq v qs
  named_drop v k ps qs h named q t there = by_test (eq k q) (sym (h q) ∙ there)
    where
      by_test : (b : Bool) → cond b None (task_at eq ps q) ≡ Some t → (t.name.version ≡ v) × (t.name.key ≡ q)
      by_test true e = let c : None ≡ Some t = e in cc
      by_test false e = named q t e

  -- and if one was put in that has its name
  pub named_put : IsEquality eq → (v : ℕ) (k : K) (g : Held K V) (ps qs : List (K × Share K (Held K V))) → ((q : K) → task_at eq qs q ≡ cond (eq k q) (Some g) (task_at eq ps q)) → (g.name.version ≡ v) × (g.name.key ≡ k) → AreNamed eq v ps → AreNamed eq v qs
  named_put equality v k g ps qs h own named q t there = by_test (eq k q) refl (sym (h q) ∙ there)
    where
      by_test : (b : Bool) → eq k q ≡ b → cond b (Some g) (task_at eq ps q) ≡ Some t → (t.name.version ≡ v) × (t.name.key ≡ q)
      by_test true i e = let j : g ≡ t = cc in (subst (λ (z : Held K V). z.name.version ≡ v) j own.0, subst (λ (z : Held K V). z.name.key ≡ k) j own.1 ∙ equality.same k q i)
      by_test false i e = named q t e

-- ---- what the desk knows

module _ {K V : Type 0} (eq : K → K → Bool) (equality : IsEquality eq) (m : Meaning K V) (v : ℕ) where
  pub knows : (R : List (Told K V)) (W : List K) (w : World K V) (owed : ℕ) (ps : List (K × Share K (Held K V))) (d : DeskSeen K V) → Stand eq m R v W (seen_world eq v ps w) (desk_of d) owed
      → AreAll (λ (p : ℕ × K). is_out ((seen_world eq v ps w).tasks p.0 p.1)) d.out → AreNamed eq v ps → Knows eq v ps d
  knows R W w owed ps d st outs named = record {
    ready = λ q e. st.ready.found (v, q) (rw (eq-eqb v v refl) e);
    out = λ q e. outs.found (v, q) (rw (eq-eqb v v refl) e);
    live = λ q e. some q (sym (here.live q) ∙ e);
    going = here.live;
    room = (let r = st.room in omega arith);
    named = named;
    askers = λ q j e. (let z = here.waiting q j e in here.live j ∙ going_where_waiting (tasks_of eq ps j) z.0 z.1);
  }
    where
      here : VersionStands eq m R v W (asked_of eq ps) (tasks_of eq ps)
      here = stands_here eq equality m R v W (asked_of eq ps) (tasks_of eq ps) w (desk_of d) owed st

      some : (q : K) → is_going (tasks_of eq ps q) ≡ true → 0 < d.live
      some q e =
          let on : is_going ((seen_world eq v ps w).tasks v q) ≡ true = rw (eq-eqb v v refl) e in
          let c = counted (λ (p : ℕ × K). is_going ((seen_world eq v ps w).tasks p.0 p.1)) (v, q) on (pair_test eq equality v q) d.live st.live in
          let n = c.1 in omega arith

  pub working_knows : (W : List K) (w : World K V) (owed : ℕ) (ps : List (K × Share K (Held K V))) (d : DeskSeen K V) → Working eq m v W w owed ps d → Knows eq v ps d
  working_knows W w owed ps d h = knows (reverse d.events) W w owed ps d h.stand h.outs h.named

  pub cleaning_knows : (w : World K V) (owed : ℕ) (ps : List (K × Share K (Held K V))) (d : DeskSeen K V) → Cleaning eq m v w owed ps d → Knows eq v ps d
  cleaning_knows w owed ps d h = knows (reverse d.events) [] w owed ps d h.stand h.outs h.named

  -- a table with the same tasks and asks
  pub cleaning_same : (w : World K V) (owed : ℕ) (ps qs : List (K × Share K (Held K V))) (d : DeskSeen K V) → KeepsTasks eq ps qs → KeepsAsks eq ps qs → Cleaning eq m v w owed ps d → Cleaning eq m v w owed qs d
  cleaning_same w owed ps qs d t a h = record {
    stand = subst (λ (x : World K V). Stand eq m (reverse d.events) v [] x (desk_of d) owed) same h.stand;
    outs = subst (λ (x : World K V). AreAll (λ (p : ℕ × K). is_out (x.tasks p.0 p.1)) d.out) same h.outs;
    named = λ k g there. h.named k g (sym (t.tasks k) ∙ there);
  }
    where
      same : seen_world eq v ps w ≡ seen_world eq v qs w
      same = same_table eq v w ps qs t a

-- ---- before the cascade and after it

module _ {K V : Type 0} (eq : K → K → Bool) (equality : IsEquality eq) (m : Meaning K V) (law : IsLawful m) (v : ℕ) where
  pub cleaning_of : (w : World K V) (owed : ℕ) (ps : List (K × Share K (Held K V))) (d : DeskSeen K V) → Working eq m v [] w owed ps d → Cleaning eq m v w owed ps d
  cleaning_of w owed ps d h = record { stand = h.stand; outs = h.outs; named = h.named }

  -- if each task at work has an asker it is wanted
  pub working_of : (w : World K V) (owed : ℕ) (ps : List (K × Share K (Held K V))) (d : DeskSeen K V) → IsDone (asked_of eq ps) → Cleaning eq m v w owed ps d → Working eq m v [] w owed ps d
  working_of w owed ps d done h = record {
    stand = h.stand;
    outs = h.outs;
    named = h.named;
    wanted = wanted_stand eq equality m law (reverse d.events) v w [] (asked_of eq ps) (tasks_of eq ps) (desk_of d) owed h.stand done;
  }

-- ---- tasks that are dropped

module _ {K V : Type 0} (eq : K → K → Bool) (equality : IsEquality eq) (m : Meaning K V) (law : IsLawful m) (v : ℕ) where
  pub dropped : (k : K) (h : Held K V) (ps qs : List (K × Share K (Held K V))) (d e : DeskSeen K V) → DropsTask eq v k h ps qs d e → (w : World K V) (owed : ℕ) → Cleaning eq m v w owed ps d → ended_at (reverse d.events) ≡ Some v
      → Cleaning eq m v w owed qs e × (ended_at (reverse e.events) ≡ Some v)
  dropped k h ps qs d e drops w owed c after = let step = drops_stand eq equality m law (reverse d.events) v w [] (asked_of eq ps) (asked_of eq qs) (tasks_of eq ps) (tasks_of eq qs) k (desk_of d) (desk_of (with_event (with_ended drops.left) (Drop v k))) owed owed c.stand drops.takes put after turns room in (
    record {
      stand = subst (λ (y : DeskSeen K V). Stand eq m (reverse y.events) v [] (seen_world eq v qs w) (desk_of y) owed) (sym drops.desk) (subst (λ z. Stand eq m z v [] (seen_world eq v qs w) (desk_of next) owed) (sym told) step.1);
      outs = subst (λ (y : DeskSeen K V). AreAll (λ (p : ℕ × K). is_out ((seen_world eq v qs w).tasks p.0 p.1)) y.out) (sym drops.desk) (outs_after eq equality v k None (asked_of eq ps) (asked_of eq qs) (tasks_of eq ps) (tasks_of eq qs) w put refl d drops.left (task_of h) there drops.quits c.outs);
      named = named_drop eq v k ps qs drops.tasks c.named;
    },
    subst (λ (y : DeskSeen K V). ended_at (reverse y.events) ≡ Some v) (sym drops.desk) (ap ended_at told ∙ step.2),
  )
    where
      next : DeskSeen K V
      next = with_event (with_ended drops.left) (Drop v k)

      keeps : KeepsDesk d drops.left
      keeps = quits_keeps h.standing (v, k) d drops.left drops.quits

      known : Knows eq v ps d
      known = cleaning_knows eq equality m v w owed ps d c

      there : tasks_of eq ps k ≡ Some (task_of h)
      there = ap (option_map task_of) drops.was

      going : goes_on h.standing ≡ true
      going = ap is_going (sym there) ∙ (sym (known.going k) ∙ drops.takes.taken)

      told : reverse (drops.left.events ++ Drop v k ∷ []) ≡ Drop v k ∷ reverse d.events
      told = back_more drops.left.events (Drop v k) ∙ ap (λ (x : List (Told K V)). Drop v k ∷ reverse x) keeps.events

      put : Puts eq k None (tasks_of eq ps) (tasks_of eq qs)
      put = puts_of eq k None ps qs drops.tasks

      some : 0 < d.live
      some = known.live k drops.takes.taken

      turns : DeskTurns v k (tasks_of eq ps k) None (desk_of d) (desk_of (with_event (with_ended drops.left) (Drop v k)))
      turns = subst (λ (x : Option (Task K V)). DeskTurns v k x None (desk_of d) (desk_of (with_event (with_ended drops.left) (Drop v k)))) (sym there) (quits_turns v k h.name.born None refl refl refl d drops.left (Drop v k) some h.standing going drops.quits)

      room : 2 * (drops.left.live - 1) + owed ≤ drops.left.spare - 1
      room = let r = c.stand.room in let l = keeps.live in let s = keeps.spare in let n = some in omega arith
