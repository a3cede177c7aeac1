-- From rest to work on one version and back; what is wanted; what an Open and a Commit leave; and what holds if nothing can be taken.
use Rattle.std.proofs.Common.{◌≡◌, ◌≤◌, ◌+◌, ◌*◌, inl, inr, ℕ, suc, Bool, true, false, cond, eqb, List, [], ◌∷◌, length, map, Option, Some, None, refl, sym, ap, ◌∙◌, subst, arith}
use Rattle.std.proofs.lemmas.Bool.{eqb-true, eq-eqb}
use Rattle.dice_key.specs.Meaning.{Meaning, Answered}
use Rattle.dice_key.specs.Lawful.{IsLawful, IsEquality}
use Rattle.task_share.specs.Asked.{Asked, IsDone}
use Rattle.journal.specs.declared.event.Told.{Told}
use Rattle.journal.specs.declared.event.Told.TheVariants.{Open, Commit}
use Rattle.journal.specs.Events.{commits_of, open_count}
use Rattle.journal.specs.Law.{IsAllowed, IsLawfulBack, IsWanted}
use Rattle.core_laws.specs.Tasks.{IsReady, IsOut, Standing, Works, Ended, Task, goes_on, is_going}
use Rattle.core_laws.specs.Stands.{VersionStands, IsAtRest}
use Rattle.core_laws.specs.Promises.{nobody}
use Rattle.core_laws.specs.Desk.{World, Desk, DeskStays, AreAll, IsCount, Stand, Rests, with_version, ready_in, out_in, is_ready, is_out}
use Rattle.core_laws.proofs.Counts.{all_alike, count_alike}
use Rattle.core_laws.proofs.Turns.{stands_here}
use Rattle.core_laws.proofs.Opens.{opened}
use Rattle.core_laws.proofs.Commits.{committed_rests}
use Rattle.core_laws.proofs.Empties.{idle, emptied, first_rests}
use Rattle.core_laws.proofs.Held.{climbs, askers_live, held_wanted, all_wanted}
use Rattle.core_laws.proofs.Rest.{AreTasked, rests, quiet}
use Rattle.lists.specs.Lists.{Has}
use Rattle.dice_jobs.specs.Jobs.{Work}

-- ---- the tasks at work of one version are finitely many

module _ {K : Type 0} where
  has_key : (ps : List (ℕ × K)) (v : ℕ) (k : K) → Has ps (v, k) → Has (map (λ (p : ℕ × K). p.1) ps) k
  has_key [] v k h = h
  has_key (p ∷ ps) v k (inl e) = inl (ap (λ (q : ℕ × K). q.1) e)
  has_key (p ∷ ps) v k (inr h) = inr (has_key ps v k h)

-- the keys at work at v are among these
pub live_keys : {K V : Type 0} (w : World K V) (n : ℕ) → IsCount (λ (p : ℕ × K). is_going (w.tasks p.0 p.1)) n → (v : ℕ) → (all : List K) × ((k : K) → is_going (w.tasks v k) ≡ true → Has all k)
live_keys {K} {V} w n c v = (map (λ (p : ℕ × K). p.1) c.all, (λ k e. has_key c.all v k (c.are.found (v, k) e)))

module _ {K V : Type 0} where
  -- what has ended or is not there is not ready and not out
  idle_ready : (o : Option (Task K V)) → is_going o ≡ false → is_ready o ≡ false
  idle_ready None e = refl
  idle_ready (Some t) e = of_standing t.standing e
    where
      of_standing : (p : Standing K V) → goes_on p ≡ false → ready_in p ≡ false
      of_standing (Works w p A) f = let h : true ≡ false = f in cc
      of_standing (Ended o) f = refl

  pub idle_out : (o : Option (Task K V)) → is_going o ≡ false → is_out o ≡ false
  idle_out None e = refl
  idle_out (Some t) e = of_standing t.standing e
    where
      of_standing : (p : Standing K V) → goes_on p ≡ false → out_in p ≡ false
      of_standing (Works w p A) f = let h : true ≡ false = f in cc
      of_standing (Ended o) f = refl

  -- a version put in at its own place
  pub same_world : (v : ℕ) (w : World K V) → with_version v (w.asked v) (w.tasks v) w ≡ w
  same_world v w = λ i. record { asked = λ n. same_asked n i; tasks = λ n. same_tasks n i }
    where
      same_asked : (n : ℕ) → cond (eqb n v) (w.asked v) (w.asked n) ≡ w.asked n
      same_asked n = by_number (eqb n v) refl
        where
          by_number : (b : Bool) → eqb n v ≡ b → cond b (w.asked v) (w.asked n) ≡ w.asked n
          by_number true e = ap w.asked (sym (eqb-true n v e))
          by_number false e = refl

      same_tasks : (n : ℕ) → cond (eqb n v) (w.tasks v) (w.tasks n) ≡ w.tasks n
      same_tasks n = by_number (eqb n v) refl
        where
          by_number : (b : Bool) → eqb n v ≡ b → cond b (w.tasks v) (w.tasks n) ≡ w.tasks n
          by_number true e = ap w.tasks (sym (eqb-true n v e))
          by_number false e = refl

module _ {K V : Type 0} (eq : K → K → Bool) (equality : IsEquality eq) (m : Meaning K V) (law : IsLawful m) (R : List (Told K V)) (v : ℕ) where
  -- ---- from rest to work on v

  -- at rest each version stands
  pub stand_of : (w : World K V) (d : Desk K) (owed : ℕ) → Rests eq m R w d owed → Stand eq m R v [] w d owed
  stand_of w d owed r = record { lawful = r.lawful; here = (r.each v).stands; there = λ n f. r.each n; ready = r.ready; out = r.out; live = r.live; room = r.room }

  -- the same, with v put in
  pub stand_with : (w : World K V) (d : Desk K) (owed : ℕ) → Rests eq m R w d owed → Stand eq m R v [] (with_version v (w.asked v) (w.tasks v) w) d owed
  stand_with w d owed r = subst (λ x. Stand eq m R v [] x d owed) (sym (same_world v w)) (stand_of w d owed r)

  -- ---- what is wanted

  -- at rest each task at work is wanted
  pub wanted_here : (w : World K V) (d : Desk K) (owed : ℕ) → Rests eq m R w d owed → (k : K) → (w.asked v).live k ≡ true → IsWanted eq m R v k
  wanted_here w d owed r k l =
      let a = live_keys w d.live r.live v in
      all_wanted eq m R v equality (w.asked v) (w.tasks v) (r.each v) a.0 (λ q e. a.1 q (sym ((r.each v).stands.live q) ∙ e)) k l

  module _ (w : World K V) (W : List K) (s : Asked K) (ts : K → Option (Task K V)) (d : Desk K) (owed : ℕ) (st : Stand eq m R v W (with_version v s ts w) d owed) where
    here : VersionStands eq m R v W s ts
    here = stands_here eq equality m R v W s ts w d owed st

    -- the keys at work at v are among these
    pub live_stand : (all : List K) × ((q : K) → s.live q ≡ true → Has all q)
    live_stand =
        let same : (with_version v s ts w).tasks v ≡ ts = ap (λ b. cond b ts (w.tasks v)) (eq-eqb v v refl) in
        let a = live_keys (with_version v s ts w) d.live st.live v in
        (a.0, (λ q e. a.1 q (ap (λ (f : K → Option (Task K V)). is_going (f q)) same ∙ (sym (here.live q) ∙ e))))

    -- likewise in the middle of a call, if each of them has an asker
    pub wanted_stand : IsDone s → (k : K) → s.live k ≡ true → IsWanted eq m R v k
    wanted_stand done k l = held_wanted eq m R v W s ts here k (climbs eq equality s done here.no_cycle (askers_live eq m R v W s ts here) live_stand.0 live_stand.1 k l)

  -- ---- from work on v to rest

  module _ (w : World K V) (s : Asked K) (ts : K → Option (Task K V)) (d : Desk K) (owed : ℕ) (st : Stand eq m R v [] (with_version v s ts w) d owed) (done : IsDone s) where
    -- all versions are at rest if v is, with these asks and tasks or others
    each_of : (u : Asked K) (us : K → Option (Task K V)) → IsAtRest eq m R v u us → (n : ℕ) → IsAtRest eq m R n ((with_version v u us w).asked n) ((with_version v u us w).tasks n)
    each_of u us h n = by_number (eqb n v) refl
      where
        by_number : (b : Bool) → eqb n v ≡ b → IsAtRest eq m R n (cond b u (w.asked n)) (cond b us (w.tasks n))
        by_number true e = subst (λ z. IsAtRest eq m R z u us) (sym (eqb-true n v e)) h
        by_number false e = rw e at (st.there n e)

    -- each that is asked for has a task, and each at work an asker
    pub rests_of : AreTasked s ts → (open_count R v ≡ 0 → (k : K) → ts k ≡ None) → Rests eq m R (with_version v s ts w) d owed
    rests_of tasked closed = record {
      lawful = st.lawful;
      each = each_of s ts (rests eq m R v s ts (stands_here eq equality m R v [] s ts w d owed st) tasked done closed);
      ready = st.ready;
      out = st.out;
      live = st.live;
      room = st.room;
    }

    -- without an open transaction at v its table can be thrown away
    pub rests_emptied : open_count R v ≡ 0 → Rests eq m R (with_version v nobody (λ q. None) w) d owed
    rests_emptied empty = record {
      lawful = st.lawful;
      each = each_of nobody (λ q. None) (emptied eq equality m law R v s ts here st.lawful empty done finite.0 finite.1);
      ready = all_alike _ _ (λ p. same is_ready refl idle_ready p) d.ready st.ready;
      out = count_alike _ _ (λ p. same is_out refl idle_out p) d.out st.out;
      live = count_alike _ _ (λ p. same is_going refl (λ o e. e) p) d.live st.live;
      room = st.room;
    }
      where
        here : VersionStands eq m R v [] s ts
        here = stands_here eq equality m R v [] s ts w d owed st

        finite : (all : List K) × ((q : K) → s.live q ≡ true → Has all q)
        finite = live_stand w [] s ts d owed st

        -- no task at v passes a test that only tasks at work pass
        same : (f : Option (Task K V) → Bool) → f None ≡ false → ((o : Option (Task K V)) → is_going o ≡ false → f o ≡ false) → (p : ℕ × K) → f ((with_version v nobody (λ q. None) w).tasks p.0 p.1) ≡ f ((with_version v s ts w).tasks p.0 p.1)
        same f none stops p = by_number (eqb p.0 v)
          where
            by_number : (b : Bool) → f (cond b (λ q. None) (w.tasks p.0) p.1) ≡ f (cond b ts (w.tasks p.0) p.1)
            by_number true = none ∙ sym (stops (ts p.1) (sym (here.live p.1) ∙ idle eq equality m R st.lawful v empty s ts here done finite.0 finite.1 p.1))
            by_number false = refl

-- ---- events that are of no task

module _ {K V : Type 0} (eq : K → K → Bool) (equality : IsEquality eq) (m : Meaning K V) (law : IsLawful m) (R : List (Told K V)) (w : World K V) (d e : Desk K) (owed owed2 : ℕ) (r : Rests eq m R w d owed) (stays : DeskStays d e) (room : 2 * e.live + owed2 ≤ e.spare) where
  -- all rests over a journal over which each version rests
  pub rests_on : (S : List (Told K V)) → IsLawfulBack eq m S → ((n : ℕ) (a : Asked K) (bs : K → Option (Task K V)) → IsAtRest eq m R n a bs → IsAtRest eq m S n a bs) → Rests eq m S w e owed2
  rests_on S l rest = record {
    lawful = l;
    each = λ n. rest n (w.asked n) (w.tasks n) (r.each n);
    ready = subst (AreAll (λ (p : ℕ × K). is_ready (w.tasks p.0 p.1))) (sym stays.ready) r.ready;
    out = subst (IsCount (λ (p : ℕ × K). is_out (w.tasks p.0 p.1))) (sym stays.out) r.out;
    live = subst (IsCount (λ (p : ℕ × K). is_going (w.tasks p.0 p.1))) (sym stays.live) r.live;
    room = room;
  }

  -- the room changes
  pub rests_room : Rests eq m R w e owed2
  rests_room = rests_on R r.lawful (λ n a bs h. h)

  -- a transaction is opened
  pub rests_open : (by n : ℕ) → n ≡ length (commits_of R) → IsAllowed eq m R (Open by n) × Rests eq m (Open by n ∷ R) w e owed2
  rests_open by n a = (a, rests_on (Open by n ∷ R) (a, r.lawful) (λ i b bs h. opened eq equality m law R i b bs by n h r.lawful))

  -- a commit
  pub rests_commit : (by : ℕ) (c : List (K × V)) → IsAllowed eq m R (Commit by c) → Rests eq m (Commit by c ∷ R) w e owed2
  rests_commit by c a = rests_on (Commit by c ∷ R) (a, r.lawful) (λ i b bs h. committed_rests eq equality m law R i b bs by c h)

-- before all events
pub rests_first : {K V : Type 0} (eq : K → K → Bool) (m : Meaning K V) (spare owed : ℕ) → owed ≤ spare → Rests eq m [] (record { asked = λ n. nobody; tasks = λ n q. None }) (record { ready = []; out = 0; live = 0; spare = spare }) owed
rests_first {K} {V} eq m spare owed room = record {
  lawful = tt;
  each = λ n. first_rests eq m n;
  ready = none;
  out = record { all = []; are = none; count = refl };
  live = record { all = []; are = none; count = refl };
  room = omega arith;
}
  where
    none : AreAll (λ (p : ℕ × K). false) []
    none = record { passes = λ x h. absurd h; found = λ x e. (let h : false ≡ true = e in cc); distinct = tt }

-- ---- if nothing can be taken and nothing is out

module _ {K V : Type 0} (eq : K → K → Bool) (equality : IsEquality eq) (m : Meaning K V) (law : IsLawful m) (R : List (Told K V)) (w : World K V) (d : Desk K) (owed : ℕ) (r : Rests eq m R w d owed) (none_ready : d.ready ≡ []) (none_out : d.out ≡ 0) where
  nothing : {X : Type 0} (xs : List X) (x : X) → length xs ≡ 0 → Has xs x → ⊥
  nothing [] x e h = h
  nothing (y ∷ ys) x e h = let l : length (y ∷ ys) ≡ suc (length ys) = refl in omega arith

  -- nothing is at work
  pub quiet_all : (v : ℕ) (k : K) → (w.asked v).live k ≡ false
  quiet_all v k = by_test ((w.asked v).live k) refl
    where
      ready : (q : K) (t : Task K V) (o : Work K V) (A : List (Answered K V)) → w.tasks v q ≡ Some t → t.standing ≡ Works o IsReady A → ⊥
      ready q t o A there at = subst (λ xs. Has xs (v, q)) none_ready (r.ready.found (v, q) (ap is_ready there ∙ ap ready_in at))

      out : (q : K) (t : Task K V) (o : Work K V) (A : List (Answered K V)) → w.tasks v q ≡ Some t → t.standing ≡ Works o IsOut A → ⊥
      out q t o A there at = nothing r.out.all (v, q) (r.out.count ∙ none_out) (r.out.are.found (v, q) (ap is_out there ∙ ap out_in at))

      by_test : (b : Bool) → (w.asked v).live k ≡ b → (w.asked v).live k ≡ false
      by_test false e = e
      by_test true e =
          let a = live_keys w d.live r.live v in
          absurd (quiet eq equality m R v (w.asked v) (w.tasks v) (r.each v).stands ready out a.0 (λ q f. a.1 q (sym ((r.each v).stands.live q) ∙ f)) k e)

  -- so the count of the tasks at work is 0
  pub quiet_count : d.live ≡ 0
  quiet_count = by_list r.live.all r.live.are r.live.count
    where
      by_list : (all : List (ℕ × K)) → AreAll (λ (p : ℕ × K). is_going (w.tasks p.0 p.1)) all → length all ≡ d.live → d.live ≡ 0
      by_list [] a c = sym c
      by_list (p ∷ ps) a c =
          let on : is_going (w.tasks p.0 p.1) ≡ true = a.passes p (inl refl) in
          let off : is_going (w.tasks p.0 p.1) ≡ false = sym ((r.each p.0).stands.live p.1) ∙ quiet_all p.0 p.1 in
          let h : true ≡ false = sym on ∙ off in cc
