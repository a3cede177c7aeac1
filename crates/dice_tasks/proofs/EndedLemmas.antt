-- All that is at work stays wanted, and all versions stand, when a task ends.
use Rattle.std.proofs.Common.{◌≡◌, ◌≤◌, ◌+◌, ◌*◌, ℕ, Bool, true, false, cond, not, ◌&&◌, List, [], ◌∷◌, ◌++◌, map, reverse, Option, Some, None, refl, sym, ap, ◌∙◌, subst, arith}
use Rattle.std.specs.Option.{option_map}
use Rattle.dice_key.specs.Lawful.{IsEquality, IsLawful}
use Rattle.dice_key.specs.Meaning.{Meaning, Answered, Ends}
use Rattle.dice_model.specs.Asks.{IsTrace}
use Rattle.task_share.specs.Asked.{By, Tasked, is_by}
use Rattle.task_share.specs.Seen.{Share, task_at, is_live, asks, asked_of, KeepsTasks, KeepsRoom, KeepsOtherRoom}
use Rattle.task_share.specs.Lent.{WritesTask}
use Rattle.journal.specs.declared.event.Told.{Told}
use Rattle.journal.specs.declared.event.Told.TheVariants.{Keep, End, Cyclic, Lost}
use Rattle.journal.specs.Events.{commits_of}
use Rattle.journal.specs.Law.{IsWanted, CycleStands}
use Rattle.core_laws.specs.Tasks.{IsOut, Outcome, WithValue, WithCycle, WithNothing, Works, Ended, Task, goes_on, is_going}
use Rattle.core_laws.specs.Changes.{Puts, Lives, Withdraws}
use Rattle.core_laws.specs.Desk.{World, DeskTurns, Stand, is_ready, is_out}
use Rattle.core_laws.proofs.StepsEnds.{ends_stand, keeps_stand, loses_stand, cycles_stand}
use Rattle.core_laws.proofs.StepsWanted.{IsOfTask, AllWanted, all_wanted_on, all_wanted_ended}
use Rattle.dice_tasks.specs.Helds.{Held, task_of, held_ended}
use Rattle.dice_tasks.specs.Hands.{DeskSeen, desk_of, tasks_of, seen_world, with_event, with_ended, with_told_next, KeepsDesk, Working}
use Rattle.dice_tasks.specs.Endings.{Quits, Knows, EndsTask, TellsEnd, ListsEnd}
use Rattle.dice_tasks.proofs.EndsLemmas.{back_more, quits_keeps, quits_turns, outs_after, puts_of, named_put, working_knows}
use Rattle.std.proofs.lemmas.Bool.{and_parts}
use Rattle.dice_jobs.specs.Jobs.{Checks, Computes}

-- ---- how a task ends in code

module _ {K V : Type 0} (eq : K → K → Bool) (equality : IsEquality eq) (v : ℕ) where
  -- a key whose task is at work has one
  pub live_there : (k : K) (ps : List (K × Share K (Held K V))) (d : DeskSeen K V) → Knows eq v ps d → is_live eq ps k ≡ true → None ≡ task_at eq ps k → ⊥
  live_there k ps d known live none =
      let f : is_going (tasks_of eq ps k) ≡ false = ap (λ (x : Option (Held K V)). is_going (option_map task_of x)) (sym none) in
      let c : true ≡ false = sym live ∙ (known.going k ∙ f) in cc

  -- a task that is written as ended and noted as such
  pub ends_task : (k : K) (h t : Held K V) (o : Outcome K V) (ps rs qs : List (K × Share K (Held K V))) (d left e : DeskSeen K V) → Knows eq v ps d → is_live eq ps k ≡ true → task_at eq ps k ≡ Some h → t ≡ held_ended h.name o → WritesTask eq k ps rs t
      → ((q : K) → task_at eq qs q ≡ task_at eq rs q) → ((q : K) → is_live eq qs q ≡ (is_live eq rs q && not (eq k q))) → ((q : K) (a : By K) → asks eq qs q a ≡ (asks eq rs q a && not (is_by eq (Tasked k) a))) → KeepsOtherRoom eq k rs qs
      → Quits h.standing (v, k) d left → e ≡ with_ended left → EndsTask eq v k h o ps qs d e
  ends_task k h t o ps rs qs d left e known alive was is writes tasks live asked room quits desk = record {
    was = was;
    going = ap (λ (x : Option (Held K V)). is_going (option_map task_of x)) (sym was) ∙ (sym (known.going k) ∙ alive);
    tasks = λ q. tasks q ∙ (writes.tasks q ∙ by_test q (eq k q) refl);
    live = λ q. live q ∙ ap (λ b. b && not (eq k q)) (writes.live q);
    asks = λ q a. asked q a ∙ ap (λ b. b && not (is_by eq (Tasked k) a)) (writes.asks q a);
    room = record {
      places = λ q n there. room.places q n (writes.room.places q there);
      promises = λ q n. (let a = writes.room.promises q in let b = room.promises q n in omega arith);
      askers = λ q n. (let a = writes.room.askers q in let b = room.askers q n in omega arith);
      waits = λ q n. (let a = writes.room.waits q in let b = room.waits q n in omega arith);
      count = (let a = writes.room.count in let b = room.count in omega arith);
    };
    left = left;
    quits = quits;
    desk = desk;
  }
    where
      by_test : (q : K) (b : Bool) → eq k q ≡ b → cond b (option_map (λ _. t) (task_at eq ps q)) (task_at eq ps q) ≡ cond b (Some (held_ended h.name o)) (task_at eq ps q)
      by_test q false i = refl
      by_test q true i =
          let j : task_at eq ps q ≡ Some h = subst (λ z. task_at eq ps z ≡ Some h) (equality.same k q i) was in
          ap (λ (x : Option (Held K V)). option_map (λ _. t) x) j ∙ ap Some is

  module _ (k j : K) (ps rs : List (K × Share K (Held K V))) (tasks : KeepsTasks eq ps rs) (fewer : (q : K) (a : By K) → asks eq rs q a ≡ (asks eq ps q a && not (eq k q && is_by eq (Tasked j) a))) where
    -- the desk knows the tasks also if an asker was taken
    pub knows_still : (d : DeskSeen K V) → Knows eq v ps d → Knows eq v rs d
    knows_still d known = record {
      ready = λ q e. known.ready q (ap (λ (x : Option (Held K V)). is_ready (option_map task_of x)) (sym (tasks.tasks q)) ∙ e);
      out = λ q e. known.out q (ap (λ (x : Option (Held K V)). is_out (option_map task_of x)) (sym (tasks.tasks q)) ∙ e);
      live = λ q e. known.live q (sym (tasks.live q) ∙ e);
      going = λ q. tasks.live q ∙ (known.going q ∙ ap (λ (x : Option (Held K V)). is_going (option_map task_of x)) (sym (tasks.tasks q)));
      room = known.room;
      named = λ q h e. known.named q h (sym (tasks.tasks q) ∙ e);
      askers = λ q i e. tasks.live i ∙ known.askers q i (and_parts (asks eq ps q (Tasked i)) (not (eq k q && is_by eq (Tasked j) (Tasked i))) (sym (fewer q (Tasked i)) ∙ e)).0;
    }

    -- what an asker ends with, seen from before it was taken
    pub ends_from : (h : Held K V) (o : Outcome K V) (qs : List (K × Share K (Held K V))) (d e : DeskSeen K V) → KeepsRoom eq ps rs → EndsTask eq v j h o rs qs d e → EndsTask eq v j h o ps qs d e
    ends_from h o qs d e room ends = record {
      was = sym (tasks.tasks j) ∙ ends.was;
      going = ends.going;
      tasks = λ q. ends.tasks q ∙ ap (λ (x : Option (Held K V)). cond (eq j q) (Some (held_ended h.name o)) x) (tasks.tasks q);
      live = λ q. ends.live q ∙ ap (λ b. b && not (eq j q)) (tasks.live q);
      asks = λ q a. ends.asks q a ∙ (ap (λ b. b && not (is_by eq (Tasked j) a)) (fewer q a) ∙ absorbed (asks eq ps q a) (eq k q) (is_by eq (Tasked j) a));
      room = record {
        places = λ q n there. ends.room.places q n (room.places q there);
        promises = λ q n. (let a = room.promises q in let b = ends.room.promises q n in omega arith);
        askers = λ q n. (let a = room.askers q in let b = ends.room.askers q n in omega arith);
        waits = λ q n. (let a = room.waits q in let b = ends.room.waits q n in omega arith);
        count = (let a = room.count in let b = ends.room.count in omega arith);
      };
      left = ends.left;
      quits = ends.quits;
      desk = ends.desk;
    }
      where
        absorbed : (a b c : Bool) → ((a && not (b && c)) && not c) ≡ (a && not c)
        absorbed true true true = refl
        absorbed true true false = refl
        absorbed true false true = refl
        absorbed true false false = refl
        absorbed false true true = refl
        absorbed false true false = refl
        absorbed false false true = refl
        absorbed false false false = refl

    pub lists_from : (h : Held K V) (o : Outcome K V) (x : Told K V) (qs : List (K × Share K (Held K V))) (d e : DeskSeen K V) → KeepsRoom eq ps rs → ListsEnd eq v j h o x rs qs d e → ListsEnd eq v j h o x ps qs d e
    lists_from h o x qs d e room lists = record {
      mid = lists.mid;
      tells = record { mid = lists.tells.mid; ends = ends_from h o qs d lists.tells.mid room lists.tells.ends; desk = lists.tells.desk };
      desk = lists.desk;
    }

-- the last of two lists that are the same
pub last_same : {X : Type 0} (xs ys : List X) (x y : X) → xs ++ x ∷ [] ≡ ys ++ y ∷ [] → x ≡ y
last_same xs ys x y e = let i : x ∷ reverse xs ≡ y ∷ reverse ys = sym (back_more xs x) ∙ (ap reverse e ∙ back_more ys y) in cc

-- ---- and what holds over all versions

-- the task t of k ends so: what the laws of an end take
record Facts {K V : Type 0} (eq : K → K → Bool) (m : Meaning K V) (v : ℕ) (k : K) (t : Task K V) (o : Outcome K V) (ps qs : List (K × Share K (Held K V))) (d e : DeskSeen K V) (owed : ℕ) : Type 0 where
  pub there : tasks_of eq ps k ≡ Some t
  pub going : goes_on t.standing ≡ true
  pub wanted : IsWanted eq m (reverse d.events) v k
  pub withdrawn : Withdraws eq k (asked_of eq ps) (asked_of eq qs)
  pub lives : Lives eq k false (asked_of eq ps) (asked_of eq qs)
  pub put : Puts eq k (Some (record { born = t.born; standing = Ended o })) (tasks_of eq ps) (tasks_of eq qs)
  pub turns : DeskTurns v k (tasks_of eq ps k) (Some (record { born = t.born; standing = Ended o })) (desk_of d) (desk_of e)
  pub room : 2 * e.live + owed ≤ e.spare

module _ {K V : Type 0} (eq : K → K → Bool) (equality : IsEquality eq) (m : Meaning K V) (law : IsLawful m) (v : ℕ) where
  lives_of : (k : K) (ps qs : List (K × Share K (Held K V))) → ((q : K) → is_live eq qs q ≡ (is_live eq ps q && not (eq k q))) → Lives eq k false (asked_of eq ps) (asked_of eq qs)
  lives_of k ps qs h q = h q ∙ by_test (eq k q) (is_live eq ps q)
    where
      by_test : (b a : Bool) → (a && not b) ≡ cond b false a
      by_test true true = refl
      by_test true false = refl
      by_test false true = refl
      by_test false false = refl

  module _ (k : K) (h : Held K V) (o : Outcome K V) (x : Told K V) (ps qs : List (K × Share K (Held K V))) (d e : DeskSeen K V) (tells : TellsEnd eq v k h o x ps qs d e) (W : List K) (w : World K V) (owed : ℕ) (work : Working eq m v W w owed ps d) where
    facts : Facts eq m v k (task_of h) o ps qs d (with_event (with_ended tells.ends.left) x) owed
    facts = record {
      there = there;
      going = tells.ends.going;
      wanted = work.wanted k live;
      withdrawn = tells.ends.asks;
      lives = lives_of k ps qs tells.ends.live;
      put = puts_of eq k (Some (held_ended h.name o)) ps qs tells.ends.tasks;
      turns = subst (λ (y : Option (Task K V)). DeskTurns v k y (Some (record { born = h.name.born; standing = Ended o })) (desk_of d) (desk_of (with_event (with_ended tells.ends.left) x))) (sym there)
          (quits_turns v k h.name.born (Some (record { born = h.name.born; standing = Ended o })) refl refl refl d tells.ends.left x (known.live k live) h.standing tells.ends.going tells.ends.quits);
      room = (let r = work.stand.room in let l = keeps.live in let s = keeps.spare in let n = known.live k live in omega arith);
    }
      where
        known : Knows eq v ps d
        known = working_knows eq equality m v W w owed ps d work

        keeps : KeepsDesk d tells.ends.left
        keeps = quits_keeps h.standing (v, k) d tells.ends.left tells.ends.quits

        there : tasks_of eq ps k ≡ Some (task_of h)
        there = ap (option_map task_of) tells.ends.was

        live : is_live eq ps k ≡ true
        live = known.going k ∙ (ap is_going there ∙ tells.ends.going)

    -- the call goes on, if the laws have it so
    goes_so : IsOfTask x → Stand eq m (x ∷ reverse d.events) v (k ∷ W) (seen_world eq v qs w) (desk_of (with_event (with_ended tells.ends.left) x)) owed → Working eq m v (k ∷ W) w owed qs e
    goes_so of_task st = subst (λ (y : DeskSeen K V). Working eq m v (k ∷ W) w owed qs y) (sym desk) (record {
      stand = subst (λ z. Stand eq m z v (k ∷ W) (seen_world eq v qs w) (desk_of (with_event (with_ended tells.ends.left) x)) owed) (sym told) st;
      outs = outs_after eq equality v k (Some (record { born = h.name.born; standing = Ended o })) (asked_of eq ps) (asked_of eq qs) (tasks_of eq ps) (tasks_of eq qs) w facts.put refl d tells.ends.left (task_of h) facts.there tells.ends.quits work.outs;
      named = named_put eq equality v k (held_ended h.name o) ps qs tells.ends.tasks (work.named k h tells.ends.was) work.named;
      wanted = subst (λ z. AllWanted eq m z v (asked_of eq qs)) (sym told) (all_wanted_on eq equality m law (reverse d.events) v (asked_of eq qs) x of_task (all_wanted_ended eq equality m law (reverse d.events) v (asked_of eq ps) (asked_of eq qs) work.wanted k facts.lives));
    })
      where
        desk : e ≡ with_event (with_ended tells.ends.left) x
        desk = tells.desk ∙ ap (λ (y : DeskSeen K V). with_event y x) tells.ends.desk

        told : reverse (tells.ends.left.events ++ x ∷ []) ≡ x ∷ reverse d.events
        told = back_more tells.ends.left.events x ∙ ap (λ (y : List (Told K V)). x ∷ reverse y) (quits_keeps h.standing (v, k) d tells.ends.left tells.ends.quits).events

  module _ (k : K) (h : Held K V) (ps qs : List (K × Share K (Held K V))) (d e : DeskSeen K V) where
    pub lost_on : TellsEnd eq v k h WithNothing (Lost v k) ps qs d e → (W : List K) (w : World K V) (owed : ℕ) → Working eq m v W w owed ps d → Working eq m v (k ∷ W) w owed qs e
    lost_on tells W w owed work =
        let f = facts k h WithNothing (Lost v k) ps qs d e tells W w owed work in
        goes_so k h WithNothing (Lost v k) ps qs d e tells W w owed work tt
        (loses_stand eq equality m law (reverse d.events) v w W (asked_of eq ps) (asked_of eq qs) (tasks_of eq ps) (tasks_of eq qs) k (task_of h) (desk_of d) (desk_of (with_event (with_ended tells.ends.left) (Lost v k))) owed owed work.stand
        f.there f.going f.wanted f.withdrawn f.lives f.put f.turns f.room).1

    pub cycle_on : (path : List K) → TellsEnd eq v k h (WithCycle path) (Cyclic v k) ps qs d e → (W : List K) (w : World K V) (owed : ℕ) → Working eq m v W w owed ps d → CycleStands eq m (commits_of (reverse d.events)) v k path
        → Working eq m v (k ∷ W) w owed qs e
    cycle_on path tells W w owed work cycle =
        let f = facts k h (WithCycle path) (Cyclic v k) ps qs d e tells W w owed work in
        goes_so k h (WithCycle path) (Cyclic v k) ps qs d e tells W w owed work tt
        (cycles_stand eq equality m law (reverse d.events) v w W (asked_of eq ps) (asked_of eq qs) (tasks_of eq ps) (tasks_of eq qs) k (task_of h) path (desk_of d) (desk_of (with_event (with_ended tells.ends.left) (Cyclic v k))) owed owed work.stand
        f.there f.going f.wanted cycle f.withdrawn f.lives f.put f.turns f.room).1

    pub value_on : (y : V) (x : Told K V) → TellsEnd eq v k h (WithValue y) x ps qs d e → (W : List K) (w : World K V) (owed : ℕ) → Working eq m v W w owed ps d → x ≡ End v k
        → (g : Held K V) (A : List (Answered K V)) → task_at eq ps k ≡ Some g → g.standing ≡ Works Computes IsOut A → m.next k A v ≡ Ends y
        → Working eq m v (k ∷ W) w owed qs e × IsTrace eq m (commits_of (reverse d.events)) v k A y
    value_on y x tells0 W w owed work is g A at stood done =
        let tells : TellsEnd eq v k h (WithValue y) (End v k) ps qs d e = subst (λ z. TellsEnd eq v k h (WithValue y) z ps qs d e) is tells0 in
        let same : g ≡ h = let i = tells.ends.was in cc in
        let f = facts k h (WithValue y) (End v k) ps qs d e tells W w owed work in
        let r = ends_stand eq equality m law (reverse d.events) v w W (asked_of eq ps) (asked_of eq qs) (tasks_of eq ps) (tasks_of eq qs) k (task_of h) A y (desk_of d) (desk_of (with_event (with_ended tells.ends.left) (End v k))) owed owed work.stand
        f.there (ap (λ (z : Held K V). z.standing) (sym same) ∙ stood) done f.wanted f.withdrawn f.lives f.put f.turns f.room in
        (goes_so k h (WithValue y) (End v k) ps qs d e tells W w owed work tt r.1, r.3)

    pub kept_on : (y : V) (x : Told K V) → TellsEnd eq v k h (WithValue y) x ps qs d e → (W : List K) (w : World K V) (owed : ℕ) → Working eq m v W w owed ps d → (b : ℕ) → x ≡ Keep v k b
        → (g : Held K V) (T A : List (Answered K V)) → task_at eq ps k ≡ Some g → g.standing ≡ Works (Checks y T b) IsOut A → map (λ a. a.values) A ≡ map (λ a. a.values) T
        → Working eq m v (k ∷ W) w owed qs e × IsTrace eq m (commits_of (reverse d.events)) v k A y
    kept_on y x tells0 W w owed work b is g T A at stood equal =
        let tells : TellsEnd eq v k h (WithValue y) (Keep v k b) ps qs d e = subst (λ z. TellsEnd eq v k h (WithValue y) z ps qs d e) is tells0 in
        let same : g ≡ h = let i = tells.ends.was in cc in
        let f = facts k h (WithValue y) (Keep v k b) ps qs d e tells W w owed work in
        let r = keeps_stand eq equality m law (reverse d.events) v w W (asked_of eq ps) (asked_of eq qs) (tasks_of eq ps) (tasks_of eq qs) k (task_of h) T A y b (desk_of d) (desk_of (with_event (with_ended tells.ends.left) (Keep v k b))) owed owed work.stand
        f.there (ap (λ (z : Held K V). z.standing) (sym same) ∙ stood) equal f.wanted f.withdrawn f.lives f.put f.turns f.room in
        (goes_so k h (WithValue y) (Keep v k b) ps qs d e tells W w owed work tt r.1, r.3)

  -- a key that is put on the list changes nothing of this
  pub listed_on : (W : List K) (w : World K V) (owed : ℕ) (ps : List (K × Share K (Held K V))) (d : DeskSeen K V) (k : K) → Working eq m v W w owed ps d → Working eq m v W w owed ps (with_told_next d k)
  listed_on W w owed ps d k h = record { stand = h.stand; outs = h.outs; named = h.named; wanted = h.wanted }
