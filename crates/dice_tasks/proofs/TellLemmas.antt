-- The askers of ended tasks are told.
use Rattle.std.proofs.Common.{◌≡◌, ◌<◌, inl, inr, ◌+◌, ◌-◌, ◌*◌, ℕ, Bool, List, [], ◌∷◌, ◌++◌, length, reverse, Option, Some, None, refl, sym, ap, ◌∙◌, subst, arith, length-append}
use Rattle.dice_key.specs.Lawful.{IsEquality, IsLawful}
use Rattle.dice_key.specs.Meaning.{Meaning}
use Rattle.task_share.specs.Seen.{Share, asked_of}
use Rattle.journal.specs.declared.event.Told.{Told}
use Rattle.journal.specs.Events.{commits_of}
use Rattle.core_laws.specs.Tasks.{Outcome, WithValue, WithCycle, WithNothing}
use Rattle.core_laws.specs.Desk.{World, Stand, AreAll, is_out}
use Rattle.core_laws.proofs.Cycles.{cycle_above}
use Rattle.core_laws.proofs.Turns.{stands_here}
use Rattle.core_laws.proofs.StepsWaits.{told_stand}
use Rattle.dice_tasks.specs.Helds.{Held}
use Rattle.dice_tasks.specs.Hands.{DeskSeen, desk_of, tasks_of, seen_world, with_event, with_ended, with_told_next, KeepsDesk, Working}
use Rattle.dice_tasks.specs.Endings.{Knows, TellsEnd, ListsEnd, ComesOf, told_end, ReachesPath, Telling, EndsAsker, HasTold}
use Rattle.dice_tasks.proofs.EndsLemmas.{back_more, quits_keeps, same_table}
use Rattle.dice_tasks.proofs.EndedLemmas.{lost_on, cycle_on, listed_on}
use Rattle.lists.proofs.Members.{has_last, has_more}
use Rattle.lists.specs.Lists.{Has}

module _ {K V : Type 0} where
  -- an end tells of no commit
  commits_end : (v : ℕ) (k : K) (o : Outcome K V) (R : List (Told K V)) → commits_of (told_end v k o ∷ R) ≡ commits_of R
  commits_end v k (WithValue x) R = refl
  commits_end v k (WithCycle p) R = refl
  commits_end v k WithNothing R = refl

  module _ (eq : K → K → Bool) (v : ℕ) (k : K) (h : Held K V) (o : Outcome K V) (x : Told K V) (ps qs : List (K × Share K (Held K V))) (d e : DeskSeen K V) (tells : TellsEnd eq v k h o x ps qs d e) where
    told_desk : e ≡ with_event (with_ended tells.ends.left) x
    told_desk = tells.desk ∙ ap (λ (y : DeskSeen K V). with_event y x) tells.ends.desk

    told_keeps : KeepsDesk d tells.ends.left
    told_keeps = quits_keeps h.standing (v, k) d tells.ends.left tells.ends.quits

    pub told_events : e.events ≡ d.events ++ x ∷ []
    told_events = ap (λ (y : DeskSeen K V). y.events) told_desk ∙ ap (λ (y : List (Told K V)). y ++ x ∷ []) told_keeps.events

    pub told_ended : e.ended ≡ d.ended
    told_ended = ap (λ (y : DeskSeen K V). y.ended) told_desk ∙ told_keeps.ended

    pub told_live : e.live ≡ d.live - 1
    told_live = ap (λ (y : DeskSeen K V). y.live) told_desk ∙ ap (λ n. n - 1) told_keeps.live

module _ {K V : Type 0} (eq : K → K → Bool) (equality : IsEquality eq) (m : Meaning K V) (law : IsLawful m) (v : ℕ) where
  -- a task ends as the call has it
  pub comes_on : (path : Option (List K)) (k : K) (h : Held K V) (o : Outcome K V) (ps qs : List (K × Share K (Held K V))) (d e : DeskSeen K V) → TellsEnd eq v k h o (told_end v k o) ps qs d e → ComesOf path o
      → (W : List K) (w : World K V) (owed : ℕ) → Working eq m v W w owed ps d → ReachesPath eq m path (commits_of (reverse d.events)) v k → Working eq m v (k ∷ W) w owed qs e
  comes_on None k h o ps qs d e tells comes W w owed work reach = lost_on eq equality m law v k h ps qs d e (subst (λ (z : Outcome K V). TellsEnd eq v k h z (told_end v k z) ps qs d e) comes tells) W w owed work
  comes_on (Some p) k h o ps qs d e tells comes W w owed work reach = cycle_on eq equality m law v k h ps qs d e p (subst (λ (z : Outcome K V). TellsEnd eq v k h z (told_end v k z) ps qs d e) comes tells) W w owed work reach

  module _ (path : Option (List K)) (w : World K V) (owed : ℕ) where
    -- a task ends and is put on the list
    pub listed : (k : K) (h : Held K V) (o : Outcome K V) (ps qs : List (K × Share K (Held K V))) (d e : DeskSeen K V) → ListsEnd eq v k h o (told_end v k o) ps qs d e → ComesOf path o → ReachesPath eq m path (commits_of (reverse d.events)) v k
        → Telling eq m path v w owed ps d → Telling eq m path v w owed qs e
    listed k h o ps qs d e lists comes reach telling = subst (λ (y : DeskSeen K V). Telling eq m path v w owed qs y) (sym lists.desk) (record {
      working = subst (λ (W : List K). Working eq m v W w owed qs (with_told_next lists.mid k)) (sym order)
          (listed_on eq equality m law v (k ∷ reverse d.ended) w owed qs lists.mid k (comes_on path k h o ps qs d lists.mid lists.tells comes (reverse d.ended) w owed telling.working reach));
      reached = λ q i. elim (has_last lists.mid.ended k q i) as (λ _. ReachesPath eq m path (commits_of (reverse lists.mid.events)) v q) [
        | inl j ↦ subst (λ C. ReachesPath eq m path C v q) (sym commits) (telling.reached q (subst (λ xs. Has xs q) ended j))
        | inr j ↦ subst (λ C. ReachesPath eq m path C v q) (sym commits) (subst (λ z. ReachesPath eq m path (commits_of (reverse d.events)) v z) j reach)
      ];
    })
      where
        ended : lists.mid.ended ≡ d.ended
        ended = told_ended eq v k h o (told_end v k o) ps qs d lists.mid lists.tells

        order : reverse (lists.mid.ended ++ k ∷ []) ≡ k ∷ reverse d.ended
        order = back_more lists.mid.ended k ∙ ap (λ xs. k ∷ reverse xs) ended

        commits : commits_of (reverse lists.mid.events) ≡ commits_of (reverse d.events)
        commits = ap (λ xs. commits_of (reverse xs)) (told_events eq v k h o (told_end v k o) ps qs d lists.mid lists.tells) ∙ (ap commits_of (back_more d.events (told_end v k o)) ∙ commits_end v k o (reverse d.events))

    -- an asker of a key on the list ends
    pub asker_ended : (ps qs : List (K × Share K (Held K V))) (d e : DeskSeen K V) → EndsAsker eq v path ps qs d e → Telling eq m path v w owed ps d → Telling eq m path v w owed qs e
    asker_ended ps qs d e a telling = listed a.asker a.held a.came ps qs d e a.ends a.comes (above path (telling.reached a.key a.listed)) telling
      where
        above : (p : Option (List K)) → ReachesPath eq m p (commits_of (reverse d.events)) v a.key → ReachesPath eq m p (commits_of (reverse d.events)) v a.asker
        above None r = tt
        above (Some p) r =
            let here = stands_here eq equality m (reverse d.events) v (reverse d.ended) (asked_of eq ps) (tasks_of eq ps) w (desk_of d) owed telling.working.stand in
            cycle_above eq m (commits_of (reverse d.events)) v a.asker a.key p (here.waits a.key a.asker a.asks) r

    -- the last key of the list is told
    pub last_told : (ps qs : List (K × Share K (Held K V))) (d e : DeskSeen K V) → HasTold eq ps qs d e → Telling eq m path v w owed ps d → Telling eq m path v w owed qs e
    last_told ps qs d e t telling0 = record {
      working = record {
        stand = subst (λ (x : World K V). Stand eq m (reverse e.events) v (reverse e.ended) x (desk_of e) owed) same
            (told_stand eq equality m law (reverse e.events) v w (reverse e.ended) (asked_of eq ps) (tasks_of eq ps) t.key (desk_of e) (desk_of e) owed owed before t.none (record { ready = refl; out = refl; live = refl }) before.room);
        outs = subst (λ (x : World K V). AreAll (λ (p : ℕ × K). is_out (x.tasks p.0 p.1)) e.out) same telling.working.outs;
        named = λ k g there. telling.working.named k g (sym (t.tasks.tasks k) ∙ there);
        wanted = λ k l. telling.working.wanted k (sym (t.tasks.live k) ∙ l);
      };
      reached = λ q i. telling.reached q (has_more e.ended t.key q i);
    }
      where
        telling : Telling eq m path v w owed ps (with_told_next e t.key)
        telling = subst (λ (y : DeskSeen K V). Telling eq m path v w owed ps y) t.desk telling0

        before : Stand eq m (reverse e.events) v (t.key ∷ reverse e.ended) (seen_world eq v ps w) (desk_of e) owed
        before = subst (λ (W : List K). Stand eq m (reverse e.events) v W (seen_world eq v ps w) (desk_of e) owed) (back_more e.ended t.key) telling.working.stand

        same : seen_world eq v ps w ≡ seen_world eq v qs w
        same = same_table eq v w ps qs t.tasks t.asks

  -- ---- the telling ends

  pub asker_fewer : (path : Option (List K)) (ps qs : List (K × Share K (Held K V))) (d e : DeskSeen K V) → Knows eq v ps d → EndsAsker eq v path ps qs d e → 2 * e.live + length e.ended < 2 * d.live + length d.ended
  asker_fewer path ps qs d e known a =
      let x = told_end v a.asker a.came in
      let l = told_live eq v a.asker a.held a.came x ps qs d a.ends.mid a.ends.tells in
      let n = ap length (told_ended eq v a.asker a.held a.came x ps qs d a.ends.mid a.ends.tells) in
      let i : e.live ≡ a.ends.mid.live = ap (λ (y : DeskSeen K V). y.live) a.ends.desk in
      let j : length e.ended ≡ length (a.ends.mid.ended ++ a.asker ∷ []) = ap (λ (y : DeskSeen K V). length y.ended) a.ends.desk in
      let b = length-append a.ends.mid.ended (a.asker ∷ []) in
      let c : length (a.asker ∷ []) ≡ 1 = refl in
      let s = known.live a.asker (known.askers a.key a.asker a.asks) in
      omega arith

  pub told_fewer : (ps qs : List (K × Share K (Held K V))) (d e : DeskSeen K V) → HasTold eq ps qs d e → 2 * e.live + length e.ended < 2 * d.live + length d.ended
  told_fewer ps qs d e t =
      let i : d.live ≡ e.live = ap (λ (y : DeskSeen K V). y.live) t.desk in
      let j : length d.ended ≡ length (e.ended ++ t.key ∷ []) = ap (λ (y : DeskSeen K V). length y.ended) t.desk in
      let b = length-append e.ended (t.key ∷ []) in
      let c : length (t.key ∷ []) ≡ 1 = refl in
      omega arith

module _ {K V : Type 0} (eq : K → K → Bool) (m : Meaning K V) (v : ℕ) (path : Option (List K)) (w : World K V) (owed : ℕ) where
  -- before the first end nothing is on the list
  pub begins_telling : (ps : List (K × Share K (Held K V))) (d : DeskSeen K V) → d.ended ≡ [] → Working eq m v [] w owed ps d → Telling eq m path v w owed ps d
  begins_telling ps d none work = record {
    working = subst (λ (W : List K). Working eq m v (reverse W) w owed ps d) (sym none) work;
    reached = λ q i. absurd (subst (λ xs. Has xs q) none i);
  }

  -- after the last key is told nothing is
  pub ends_telling : (ps qs : List (K × Share K (Held K V))) (d e : DeskSeen K V) → d.ended ≡ [] → e ≡ d → qs ≡ ps → Telling eq m path v w owed ps d → Working eq m v [] w owed qs e
  ends_telling ps qs d e none i j telling =
      subst (λ (y : DeskSeen K V). Working eq m v [] w owed qs y) (sym i) (subst (λ (z : List (K × Share K (Held K V))). Working eq m v [] w owed z d) (sym j) (subst (λ (W : List K). Working eq m v (reverse W) w owed ps d) none telling.working))
