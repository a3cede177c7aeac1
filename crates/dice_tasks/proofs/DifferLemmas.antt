-- A check with a changed answer computes.
use Rattle.std.proofs.Common.{◌≡◌, ◌≤◌, ◌+◌, ◌-◌, ◌*◌, ℕ, Bool, true, false, cond, List, [], ◌∷◌, ◌++◌, reverse, Option, Some, refl, sym, ap, ◌∙◌, subst, arith}
use Rattle.std.specs.Option.{option_map}
use Rattle.dice_key.specs.Lawful.{IsEquality, IsLawful}
use Rattle.dice_key.specs.Meaning.{Meaning, Answered}
use Rattle.task_share.specs.Seen.{Share, task_at, is_live, asked_of}
use Rattle.task_share.specs.Lent.{WritesTask}
use Rattle.journal.specs.declared.event.Told.{Told}
use Rattle.journal.specs.declared.event.Told.TheVariants.{Start}
use Rattle.journal.specs.declared.event.Reason.TheVariants.{Differs}
use Rattle.core_laws.specs.Tasks.{IsReady, IsOut, Works, Task, goes_on, is_going}
use Rattle.core_laws.specs.Changes.{Puts, ChangesFirst}
use Rattle.core_laws.specs.Desk.{World, DeskTurns, Stand}
use Rattle.core_laws.proofs.StepsEnds.{differs_stand}
use Rattle.core_laws.proofs.StepsWanted.{AllWanted, all_wanted_on, all_wanted_same}
use Rattle.dice_tasks.specs.Helds.{Held, task_of}
use Rattle.dice_tasks.specs.Hands.{DeskSeen, desk_of, tasks_of, seen_world, with_event, Returns, Working}
use Rattle.dice_tasks.specs.Endings.{Quits, Knows, BeginsAnew}
use Rattle.dice_tasks.proofs.EndsLemmas.{back_more, outs_after, puts_of, named_put, working_knows}
use Rattle.dice_jobs.specs.Jobs.{Checks, Computes}

-- a task that computes from these answers
abbrev pub anew : {K V : Type 0} → Held K V → List (Answered K V) → Held K V
anew h A = record { name = h.name; standing = Works Computes IsReady A }

module _ {K V : Type 0} (eq : K → K → Bool) (equality : IsEquality eq) (m : Meaning K V) (law : IsLawful m) (v : ℕ) where
  module _ (k : K) (h : Held K V) (ps qs : List (K × Share K (Held K V))) (d e : DeskSeen K V) (T A : List (Answered K V)) (y : V) (b : ℕ) (i : K) (at : h.standing ≡ Works (Checks y T b) IsOut A) where
    -- the desk follows
    begins_turns : (r : DeskSeen K V) (x : Told K V) → Returns (v, k) d r → DeskTurns v k (Some (task_of h)) (Some (task_of (anew h A))) (desk_of d) (desk_of (with_event r x))
    begins_turns r x q = subst (λ s. DeskTurns v k (Some (record { born = h.name.born; standing = s })) (Some (task_of (anew h A))) (desk_of d) (desk_of (with_event r x))) (sym at) (record { ready = q.ready; out = q.count; live = q.rest.live })

    pub differs_on : BeginsAnew eq v k h (anew h A) (Start v k (Differs b i)) ps qs d e → ChangesFirst T A i → (W : List K) (w : World K V) (owed : ℕ) → Working eq m v W w (owed + 1) ps d → Working eq m v W w owed qs e
    differs_on begins changed W w owed work =
        let step = differs_stand eq equality m law (reverse d.events) v w W (asked_of eq ps) (asked_of eq qs) (tasks_of eq ps) (tasks_of eq qs) k (task_of h) T A y b i (desk_of d) (desk_of (with_event begins.ready (Start v k (Differs b i)))) (owed + 1) owed work.stand
        there at changed (work.wanted k live) begins.asks begins.live put turns room in
        subst (λ (z : DeskSeen K V). Working eq m v W w owed qs z) (sym begins.desk) (record {
          stand = subst (λ z. Stand eq m z v W (seen_world eq v qs w) (desk_of (with_event begins.ready (Start v k (Differs b i)))) owed) (sym told) step.1;
          outs = outs_after eq equality v k (Some (task_of (anew h A))) (asked_of eq ps) (asked_of eq qs) (tasks_of eq ps) (tasks_of eq qs) w put refl d (record begins.ready { ready = d.ready }) (task_of h) there quits work.outs;
          named = named_put eq equality v k (anew h A) ps qs begins.tasks (work.named k h begins.was) work.named;
          wanted = subst (λ z. AllWanted eq m z v (asked_of eq qs)) (sym told) (all_wanted_on eq equality m law (reverse d.events) v (asked_of eq qs) (Start v k (Differs b i)) tt (all_wanted_same eq equality m law (reverse d.events) v (asked_of eq ps) (asked_of eq qs) work.wanted begins.live));
        })
      where
        known : Knows eq v ps d
        known = working_knows eq equality m v W w (owed + 1) ps d work

        there : tasks_of eq ps k ≡ Some (task_of h)
        there = ap (option_map task_of) begins.was

        live : is_live eq ps k ≡ true
        live = known.going k ∙ (ap is_going there ∙ ap goes_on at)

        told : reverse (begins.ready.events ++ Start v k (Differs b i) ∷ []) ≡ Start v k (Differs b i) ∷ reverse d.events
        told = back_more begins.ready.events (Start v k (Differs b i)) ∙ ap (λ (z : List (Told K V)). Start v k (Differs b i) ∷ reverse z) begins.returns.rest.events

        put : Puts eq k (Some (task_of (anew h A))) (tasks_of eq ps) (tasks_of eq qs)
        put = puts_of eq k (Some (anew h A)) ps qs begins.tasks

        turns : DeskTurns v k (tasks_of eq ps k) (Some (task_of (anew h A))) (desk_of d) (desk_of (with_event begins.ready (Start v k (Differs b i))))
        turns = subst (λ (z : Option (Task K V)). DeskTurns v k z (Some (task_of (anew h A))) (desk_of d) (desk_of (with_event begins.ready (Start v k (Differs b i))))) (sym there) (begins_turns begins.ready (Start v k (Differs b i)) begins.returns)

        room : 2 * begins.ready.live + owed ≤ begins.ready.spare - 1
        room = let r = work.stand.room in let l = begins.returns.rest.live in let s = begins.returns.rest.spare in omega arith

        quits : Quits h.standing (v, k) d (record begins.ready { ready = d.ready })
        quits = subst (λ s. Quits s (v, k) d (record begins.ready { ready = d.ready })) (sym at) (record { ready = refl; out = begins.returns.out; count = begins.returns.count; room = begins.returns.room; rest = record { events = begins.returns.rest.events; live = begins.returns.rest.live; ended = begins.returns.rest.ended; spare = begins.returns.rest.spare; live_room = begins.returns.rest.live_room } })

module _ {K V : Type 0} (eq : K → K → Bool) (equality : IsEquality eq) (v : ℕ) where
  -- a task that is written as begun anew
  pub begins_anew : (k : K) (h g t : Held K V) (x : Told K V) (ps qs : List (K × Share K (Held K V))) (d r e : DeskSeen K V) → task_at eq ps k ≡ Some h → t ≡ g → WritesTask eq k ps qs t → Returns (v, k) d r → e ≡ with_event r x → BeginsAnew eq v k h g x ps qs d e
  begins_anew k h g t x ps qs d r e was is writes returns desk = record {
    was = was;
    tasks = λ q. writes.tasks q ∙ by_test q (eq k q) refl;
    live = writes.live;
    asks = writes.asks;
    room = writes.room;
    ready = r;
    returns = returns;
    desk = desk;
  }
    where
      by_test : (q : K) (b : Bool) → eq k q ≡ b → cond b (option_map (λ _. t) (task_at eq ps q)) (task_at eq ps q) ≡ cond b (Some g) (task_at eq ps q)
      by_test q false i = refl
      by_test q true i =
          let j : task_at eq ps q ≡ Some h = subst (λ z. task_at eq ps z ≡ Some h) (equality.same k q i) was in
          ap (λ (z : Option (Held K V)). option_map (λ _. t) z) j ∙ ap Some is

  -- the same in other words
  pub begins_so : (k : K) (f h g i : Held K V) (x y : Told K V) (ps qs : List (K × Share K (Held K V))) (d e : DeskSeen K V) → BeginsAnew eq v k f g x ps qs d e → task_at eq ps k ≡ Some h → g ≡ i → x ≡ y → BeginsAnew eq v k h i y ps qs d e
  begins_so k f h g i x y ps qs d e b at p q = subst (λ (z : Held K V). BeginsAnew eq v k h z y ps qs d e) p (subst (λ (z : Told K V). BeginsAnew eq v k h g z ps qs d e) q (record {
    was = at;
    tasks = b.tasks;
    live = b.live;
    asks = b.asks;
    room = b.room;
    ready = b.ready;
    returns = b.returns;
    desk = b.desk;
  }))
