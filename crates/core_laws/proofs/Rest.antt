-- Between the engine's calls; and if nothing can be taken and nothing is out, nothing is at work.
use Rattle.std.proofs.Common.{◌≡◌, ◌≢◌, ◌<◌, ◌+◌, ◌⊎◌, inl, inr, ℕ, zero, suc, Bool, true, false, not, ◌&&◌, ◌||◌, List, [], ◌∷◌, length, Option, Some, None, refl, sym, ap, ◌∙◌, subst, arith}
use Rattle.std.proofs.lemmas.Bool.{and_parts, and_from, and_left, or_left, or_right, not_from_false, cases_Bool, eq-eqb}
use Rattle.dice_key.specs.Meaning.{Meaning, Answered}
use Rattle.dice_key.specs.Lawful.{IsEquality}
use Rattle.dice_key.specs.declared.universe.Kind.TheVariants.{Injected}
use Rattle.dice_key.proofs.KeySets.{has_or_not}
use Rattle.task_share.specs.Asked.{By, Promised, Tasked, is_by, Asked, Leads, stays, HasNoCycle, IsDone, Takes}
use Rattle.journal.specs.declared.event.Told.{Told}
use Rattle.journal.specs.Events.{Asking, live_at, opened_at, open_count}
use Rattle.core_laws.specs.Tasks.{Outcome, IsReady, IsOut, IsWaiting, Standing, Works, Ended, Task, goes_on, waits_for, is_going, batch_of}
use Rattle.core_laws.specs.Stands.{VersionStands, IsAtRest}
use Rattle.core_laws.specs.Changes.{Puts, SameLives, Lives, Joins, Leaves, Withdraws, Parks}
use Rattle.core_laws.proofs.Shapes.{not_both, same_or_other, put_here, put_other, lives_here, lives_other, asks_nothing}
use Rattle.core_laws.proofs.OfKey.{asked_before, promise_stays, others_stay}
use Rattle.core_laws.proofs.Drops.{going_task, asked_stays}
use Rattle.lists.proofs.Distinct.{few}
use Rattle.lists.specs.Lists.{AreDistinct, Has}
use Rattle.dice_jobs.specs.Jobs.{Work}
use Rattle.task_share.proofs.Leads.{leads_more}

-- whoever is asked for has a task
abbrev pub AreTasked : {K V : Type 0} → Asked K → (K → Option (Task K V)) → Type 0
AreTasked {K} {V} s ts = (k : K) (a : By K) → s.asks k a ≡ true → (t : Task K V) × (ts k ≡ Some t)

-- the parts of rest
pub rests : {K V : Type 0} (eq : K → K → Bool) (m : Meaning K V) (R : List (Told K V)) (v : ℕ) (s : Asked K) (ts : K → Option (Task K V)) → VersionStands eq m R v [] s ts → AreTasked s ts → IsDone s → (open_count R v ≡ 0 → (k : K) → ts k ≡ None) → IsAtRest eq m R v s ts
rests eq m R v s ts h a d c = record { stands = h; tasked = a; wanted = d; closed = c }

module _ {K V : Type 0} (eq : K → K → Bool) (equality : IsEquality eq) (s u : Asked K) (ts us : K → Option (Task K V)) (a : AreTasked s ts) (k : K) where
  -- a task that is put there leaves each task there
  put_tasked : (t : Task K V) → Puts eq k (Some t) ts us → (q : K) (r : Task K V) → ts q ≡ Some r → (r' : Task K V) × (us q ≡ Some r')
  put_tasked t p q r e = elim (same_or_other eq equality k q) as (λ _. (r' : Task K V) × (us q ≡ Some r')) [
    | inl i ↦ (t, subst (λ y. us y ≡ Some t) i (put_here eq equality k (Some t) ts us p))
    | inr n ↦ (r, put_other eq equality k (Some t) ts us p q n ∙ e)
  ]

  -- a task is put there, and there are no more asks than before: as when one ends, computes, or is told an answer
  pub tasked_on_put : (t : Task K V) → Puts eq k (Some t) ts us → ((q : K) (b : By K) → u.asks q b ≡ true → s.asks q b ≡ true) → AreTasked u us
  tasked_on_put t p fewer q b e = let r = a q b (fewer q b e) in put_tasked t p q r.0 r.1

  -- one that nobody asks for is taken out
  pub tasked_on_drop : Takes eq s k u → Puts eq k None ts us → AreTasked u us
  tasked_on_drop w p q b e =
      let f = asked_before eq k s u w.asks q b e in
      let r = a q b f in
      (r.0, put_other eq equality k None ts us p q (asked_stays eq equality k s u w q b f) ∙ r.1)

  -- a key that has a task is asked for
  pub tasked_on_join : (b : By K) (t : Task K V) → ts k ≡ Some t → Joins eq k b s u → AreTasked u ts
  tasked_on_join b t there j q c e = elim (cases_Bool (s.asks q c)) as (λ _. (r : Task K V) × (ts q ≡ Some r)) [
    | inl y ↦ a q c y
    | inr n ↦ (t, subst (λ x. ts x ≡ Some t) (equality.same k q ((and_parts (eq k q) (is_by eq b c) (sym (j q c ∙ ap (λ x. x || (eq k q && is_by eq b c)) n) ∙ e)).0)) there)
  ]

  -- the task of k asks for keys that have tasks
  pub tasked_on_park : (ds : List K) (t : Task K V) → Puts eq k (Some t) ts us → ((d : K) → Has ds d → (r : Task K V) × (ts d ≡ Some r)) → Parks eq k ds s u → AreTasked u us
  tasked_on_park ds t p have parks q c e = elim (parks.only q c e) as (λ _. (r : Task K V) × (us q ≡ Some r)) [
    | inl y ↦ (let r = a q c y in put_tasked t p q r.0 r.1)
    | inr y ↦ (let r = have q y.0 in put_tasked t p q r.0 r.1)
  ]

-- ---- each task at work has an asker

module _ {K : Type 0} (eq : K → K → Bool) (equality : IsEquality eq) (s u : Asked K) where
  -- with the same asks, or more
  pub done_on_more : SameLives eq s u → ((q : K) (a : By K) → s.asks q a ≡ true → u.asks q a ≡ true) → IsDone s → IsDone u
  done_on_more l more d q e = let a = d q (sym (l q) ∙ e) in (a.0, more q a.0 a.1)

  -- a key that is not at work has an asker fewer
  pub done_on_leave : (k : K) (b : By K) → s.live k ≡ false → SameLives eq s u → Leaves eq k b s u → IsDone s → IsDone u
  done_on_leave k b ended l w d q e =
      let live : s.live q ≡ true = sym (l q) ∙ e in
      let a = d q live in
      (a.0, w q a.0 ∙ (ap (λ x. x && not (eq k q && is_by eq b a.0)) a.1 ∙ not_from_false (eq k q && is_by eq b a.0) (and_left (eq k q) (is_by eq b a.0) (other q live))))
    where
      other : (q : K) → s.live q ≡ true → eq k q ≡ false
      other q live = elim (same_or_other eq equality k q) as (λ _. eq k q ≡ false) [ inl i ↦ absurd (not_both (subst (λ y. s.live y ≡ true) (sym i) live) ended) | inr n ↦ n ]

  -- a key gets an asker, and its task is at work
  pub done_on_join : (k : K) (b : By K) → Lives eq k true s u → Joins eq k b s u → IsDone s → IsDone u
  done_on_join k b l j d q e = elim (same_or_other eq equality k q) as (λ _. (a : By K) × (u.asks q a ≡ true)) [
    | inl i ↦ (b, j q b ∙ or_right (s.asks q b) (eq k q && is_by eq b b) (and_from (eq k q) (is_by eq b b) (subst (λ y. eq k y ≡ true) i (equality.itself k)) (by_itself b)))
    | inr n ↦ (let a = d q (sym (lives_other eq equality k true s u l q n) ∙ e) in (a.0, j q a.0 ∙ or_left (s.asks q a.0) (eq k q && is_by eq b a.0) a.1))
  ]
    where
      by_itself : (b : By K) → is_by eq b b ≡ true
      by_itself (Promised n) = eq-eqb n n refl
      by_itself (Tasked i) = equality.itself i

  -- the keys that k comes to wait for have an asker
  pub done_on_park : (k : K) (ds : List K) → SameLives eq s u → Parks eq k ds s u → ((q : K) → s.live q ≡ true → ((a : By K) × (s.asks q a ≡ true)) ⊎ Has ds q) → IsDone u
  done_on_park k ds l p d q e = elim (d q (sym (l q) ∙ e)) as (λ _. (a : By K) × (u.asks q a ≡ true)) [
    | inl a ↦ (a.0, p.kept q a.0 a.1)
    | inr i ↦ (Tasked k, p.asked q i)
  ]

module _ {K V : Type 0} (eq : K → K → Bool) (equality : IsEquality eq) (m : Meaning K V) (R : List (Told K V)) (v : ℕ) (W : List K) (s : Asked K) (ts : K → Option (Task K V)) (h : VersionStands eq m R v W s ts) where
  -- a task that waited for nothing ends
  pub done_on_end : (u : Asked K) (k : K) → batch_of (ts k) ≡ None → Withdraws eq k s u → Lives eq k false s u → IsDone s → IsDone u
  done_on_end u k n w l d q e = elim (same_or_other eq equality k q) as (λ _. (a : By K) × (u.asks q a ≡ true)) [
    | inl i ↦ absurd (not_both e (subst (λ y. u.live y ≡ false) i (lives_here eq equality k false s u l)))
    | inr o ↦ (let a = d q (sym (lives_other eq equality k false s u l q o) ∙ e) in by_asker a.0 a.1)
  ]
    where
      by_asker : (a : By K) → s.asks q a ≡ true → (a : By K) × (u.asks q a ≡ true)
      by_asker (Promised i) f = (Promised i, promise_stays eq k s u w q i f)
      by_asker (Tasked j) f = elim (same_or_other eq equality k j) as (λ _. (a : By K) × (u.asks q a ≡ true)) [
        | inl i ↦ absurd (asks_nothing eq m R v W s ts h k n q (subst (λ y. s.asks q (Tasked y) ≡ true) (sym i) f))
        | inr o ↦ (Tasked j, others_stay eq k s u w q j o f)
      ]

  -- who is still waited for among those that have ended is among X
  pub told_some : (X : List K) → ((q j : K) → s.asks q (Tasked j) ≡ true → Has W q → Has X q) → VersionStands eq m R v X s ts
  told_some X f = record {
    promised = h.promised;
    promises = h.promises;
    waits = h.waits;
    waiting = h.waiting;
    awaited = λ d j e. elim (h.awaited d j e) as (λ _. (s.live d ≡ true) ⊎ Has X d) [ inl a ↦ inl a | inr b ↦ inr (f d j e b) ];
    no_cycle = h.no_cycle;
    stuck = h.stuck;
    batch = h.batch;
    live = h.live;
    each = h.each;
    running = h.running;
    fresh = h.fresh;
  }

module _ {K : Type 0} where
  module _ (eq : K → K → Bool) (equality : IsEquality eq) (s : Asked K) (all : List K) (finite : (q : K) → s.live q ≡ true → Has all q) (free : HasNoCycle s)
      (waits : (q : K) → s.live q ≡ true → (i : K) × (s.asks i (Tasked q) ≡ true) × (s.live i ≡ true)) where
    descends : (n : ℕ) (q : K) (path : List K) → ((e : K) → Has (q ∷ path) e → Leads s e q) → ((e : K) → Has (q ∷ path) e → s.live e ≡ true) → AreDistinct (q ∷ path) → length all < length (q ∷ path) + n → ⊥
    descends zero q path l v d room = let z = few (q ∷ path) all d (λ e h. finite e (v e h)) in omega arith
    descends (suc n) q path l v d room =
        let w = waits q (v q (inl refl)) in
        elim (has_or_not eq equality (q ∷ path) w.0) as (λ _. ⊥) [
          | inl found ↦ free q w.0 w.1 (l w.0 found)
          | inr fresh ↦ descends n w.0 (q ∷ path)
              (λ x h. elim h as (λ _. Leads s x w.0) [ inl i ↦ subst (λ y. Leads s y w.0) i stays | inr g ↦ leads_more s x q w.0 (l x g) w.1 ])
              (λ x h. elim h as (λ _. s.live x ≡ true) [ inl i ↦ subst (λ y. s.live y ≡ true) i w.2 | inr g ↦ v x g ])
              (fresh, d) (let z : length (w.0 ∷ q ∷ path) ≡ suc (length (q ∷ path)) = refl in omega arith)
        ]

    -- if each task at work waits for one at work, none is at work
    pub stands_still : (q : K) → s.live q ≡ true → ⊥
    stands_still q v = descends (length all) q [] (λ e g. elim g as (λ _. Leads s e q) [ inl i ↦ subst (λ y. Leads s y q) i stays | inr b ↦ absurd b ])
        (λ e g. elim g as (λ _. s.live e ≡ true) [ inl i ↦ subst (λ y. s.live y ≡ true) i v | inr b ↦ absurd b ]) ((λ b. b), tt) (let z : length (q ∷ []) ≡ 1 = refl in omega arith)

-- if no task can be taken and none is out, none is at work
pub quiet : {K V : Type 0} (eq : K → K → Bool) (equality : IsEquality eq) (m : Meaning K V) (R : List (Told K V)) (v : ℕ) (s : Asked K) (ts : K → Option (Task K V)) → VersionStands eq m R v [] s ts
    → ((k : K) (t : Task K V) (w : Work K V) (A : List (Answered K V)) → ts k ≡ Some t → t.standing ≡ Works w IsReady A → ⊥) → ((k : K) (t : Task K V) (w : Work K V) (A : List (Answered K V)) → ts k ≡ Some t → t.standing ≡ Works w IsOut A → ⊥)
    → (all : List K) → ((q : K) → s.live q ≡ true → Has all q) → (k : K) → s.live k ≡ true → ⊥
quiet {K} {V} eq equality m R v s ts h ready out all finite k l = stands_still eq equality s all finite h.no_cycle waits k l
  where
    waiting : (q : K) (t : Task K V) → ts q ≡ Some t → (d : Standing K V) → t.standing ≡ d → goes_on d ≡ true → (ks : List K) × (batch_of (ts q) ≡ Some ks)
    waiting q t there (Works w IsReady A) e g = absurd (ready q t w A there e)
    waiting q t there (Works w IsOut A) e g = absurd (out q t w A there e)
    waiting q t there (Works w (IsWaiting ks) A) e g = (ks, ap batch_of there ∙ ap waits_for e)
    waiting q t there (Ended o) e g = cc

    waits : (q : K) → s.live q ≡ true → (i : K) × (s.asks i (Tasked q) ≡ true) × (s.live i ≡ true)
    waits q e =
        let t = going_task (ts q) (sym (h.live q) ∙ e) in
        let b = waiting q t.0 t.1 t.0.standing refl t.2 in
        let d = h.stuck q b.0 b.1 in
        (d.0, d.1, elim (h.awaited d.0 q d.1) as (λ _. s.live d.0 ≡ true) [ inl y ↦ y | inr y ↦ absurd y ])

-- and then each key that was asked for has a task that has ended
pub all_answered : {K V : Type 0} (eq : K → K → Bool) (equality : IsEquality eq) (m : Meaning K V) (R : List (Told K V)) (v : ℕ) (s : Asked K) (ts : K → Option (Task K V)) → IsAtRest eq m R v s ts
    → ((k : K) (t : Task K V) (w : Work K V) (A : List (Answered K V)) → ts k ≡ Some t → t.standing ≡ Works w IsReady A → ⊥) → ((k : K) (t : Task K V) (w : Work K V) (A : List (Answered K V)) → ts k ≡ Some t → t.standing ≡ Works w IsOut A → ⊥)
    → (all : List K) → ((q : K) → s.live q ≡ true → Has all q) → (i : ℕ) (a : Asking K) → live_at R i ≡ Some a → opened_at R v a.opened ≡ true → m.kind a.key ≢ Injected → (t : Task K V) × (o : Outcome K V) × (ts a.key ≡ Some t) × (t.standing ≡ Ended o)
all_answered {K} {V} eq equality m R v s ts h ready out all finite i a l at c = by_standing t.0 t.1 t.0.standing refl
  where
    t : (t : Task K V) × (ts a.key ≡ Some t)
    t = h.tasked a.key (Promised i) (h.stands.promises i a l at c)

    by_standing : (t : Task K V) → ts a.key ≡ Some t → (d : Standing K V) → t.standing ≡ d → (t : Task K V) × (o : Outcome K V) × (ts a.key ≡ Some t) × (t.standing ≡ Ended o)
    by_standing t there (Works w p A) e = absurd (quiet eq equality m R v s ts h.stands ready out all finite a.key (h.stands.live a.key ∙ (ap is_going there ∙ ap goes_on e)))
    by_standing t there (Ended o) e = (t, o, there, e)
