-- A task comes to wait for its next batch.
use Rattle.std.proofs.Common.{◌≡◌, ◌≢◌, ◌⊎◌, inl, inr, ℕ, Bool, true, false, List, [], ◌∷◌, ◌++◌, Option, Some, None, refl, sym, ap, ◌∙◌, subst, append-nil, append_assoc}
use Rattle.std.proofs.lemmas.Option.{same_Some, none-some}
use Rattle.dice_key.specs.Meaning.{Meaning, Answered, Asks}
use Rattle.dice_key.specs.Lawful.{IsLawful, IsEquality}
use Rattle.dice_key.specs.declared.universe.Kind.TheVariants.{Injected}
use Rattle.dice_model.specs.Asks.{Goes, AsksFor}
use Rattle.dice_model.proofs.Alike.{goes_alike}
use Rattle.task_share.specs.Asked.{Promised, Tasked, Asked, Leads, stays, asks_on, HasNoCycle}
use Rattle.journal.specs.declared.event.Told.{Told}
use Rattle.journal.specs.Events.{Asking, commits_of, live_at, opened_at, is_running}
use Rattle.core_laws.specs.Tasks.{Works, IsOut, IsWaiting, Task, computes, waits_for, value_in, is_going, is_computing, batch_of, value_of}
use Rattle.core_laws.specs.Stands.{AsksNext, WorkStands, TaskStands, VersionStands}
use Rattle.core_laws.specs.Changes.{Puts, SameLives, Parks}
use Rattle.core_laws.proofs.Shapes.{same_or_other, put_here, put_other, put_each, put_fact, put_none}
use Rattle.core_laws.proofs.Stages.{at_work}
use Rattle.lists.specs.Lists.{Has}
use Rattle.dice_jobs.specs.Jobs.{Checks, Computes, Work}
use Rattle.task_share.proofs.Leads.{leads_after}

-- ---- what a task asks next

module _ {K V : Type 0} (eq : K → K → Bool) (m : Meaning K V) (C : List (List (K × V))) (v : ℕ) where
  -- a run over more batches goes through the first of them, and asks the next
  goes_first : (k : K) (before A : List (Answered K V)) (b : Answered K V) (later : List (Answered K V)) → Goes eq m C v k before (A ++ b ∷ later) → Goes eq m C v k before A × (m.next k (before ++ A) v ≡ Asks b.keys)
  goes_first k before [] b later g = (tt, subst (λ B. m.next k B v ≡ Asks b.keys) (sym (append-nil before)) g.0)
  goes_first k before (a ∷ A) b later g =
      let r = goes_first k (before ++ a ∷ []) A b later g.2 in
      ((g.0, g.1, r.0), subst (λ B. m.next k B v ≡ Asks b.keys) (append_assoc before (a ∷ []) A) r.1)

module _ {K V : Type 0} (eq : K → K → Bool) (equality : IsEquality eq) (m : Meaning K V) (law : IsLawful m) (R : List (Told K V)) (v : ℕ) where
  -- each key of the next batch, of a run or of a check, is one that the task's key asks
  pub asks_of_next : (k : K) (w : Work K V) (A : List (Answered K V)) (ks : List K) → WorkStands eq m R v k w A → AsksNext eq m v k w A (IsWaiting ks) → m.kind k ≢ Injected → (d : K) → Has ks d → AsksFor eq m (commits_of R) v k d
  asks_of_next k Computes A ks g n computed d h = record { computed = computed; before = A; goes = g; keys = ks; asks = n; among = h }
  asks_of_next k (Checks x T b) A ks g n computed d h =
      let f = goes_first eq m (commits_of R) b k [] A n.batch n.later (subst (λ S. Goes eq m (commits_of R) b k [] S) n.trace_is g.0.traced.goes) in
      record {
        computed = computed;
        before = A;
        goes = goes_alike eq m law (commits_of R) (commits_of R) b v k [] A f.0 g.2;
        keys = ks;
        asks = law.asks_alike k A b v ks (subst (λ l. m.next k A b ≡ Asks l) n.keys_are f.1);
        among = h;
      }

-- ---- new asks close no cycle

module _ {K : Type 0} (eq : K → K → Bool) (k : K) (ds : List K) (s u : Asked K) (parks : Parks eq k ds s u) where
  -- a chain to k goes by the asks that were there
  parked_to : (i : K) → Leads u i k → Leads s i k
  parked_to i l = to_end i k l refl
    where
      to_end : (i j : K) → Leads u i j → j ≡ k → Leads s i j
      to_end i j stays e = stays
      to_end i j (asks_on {i = c} a l) e = elim (parks.only c (Tasked i) a) as (λ _. Leads s i j) [
        | inl o ↦ asks_on o (to_end c j l e)
        | inr n ↦ (let same : i ≡ k = (let t : Tasked i ≡ Tasked k = n.1 in cc) in subst (Leads s i) (same ∙ sym e) stays)
      ]

  -- a chain goes by the asks that were there, or by one of the new ones
  parked_split : (i j : K) → Leads u i j → Leads s i j ⊎ ((d : K) × Has ds d × Leads u d j × Leads u i k)
  parked_split i j stays = inl stays
  parked_split i j (asks_on {i = c} a l) = elim (parks.only c (Tasked i) a) as (λ _. Leads s i j ⊎ ((d : K) × Has ds d × Leads u d j × Leads u i k)) [
    | inl o ↦ elim (parked_split c j l) as (λ _. Leads s i j ⊎ ((d : K) × Has ds d × Leads u d j × Leads u i k)) [
      | inl r ↦ inl (asks_on o r)
      | inr r ↦ inr (r.0, r.1, r.2, asks_on a r.3)
    ]
    | inr n ↦ (let same : i ≡ k = (let t : Tasked i ≡ Tasked k = n.1 in cc) in inr (c, n.0, l, subst (Leads u i) same stays))
  ]

  -- if no key that is asked leads to k, no cycle is closed
  pub parks_no_cycle : HasNoCycle s → ((d : K) → Has ds d → Leads s d k → ⊥) → HasNoCycle u
  parks_no_cycle free apart a i e l = elim (parks.only i (Tasked a) e) as (λ _. ⊥) [
    | inl o ↦ elim (parked_split i a l) as (λ _. ⊥) [
      | inl r ↦ free a i o r
      | inr r ↦ apart r.0 r.1 (parked_to r.0 (leads_after u r.0 a k r.2 (asks_on e r.3)))
    ]
    | inr n ↦ (let same : a ≡ k = (let t : Tasked a ≡ Tasked k = n.1 in cc) in apart i n.0 (parked_to i (subst (Leads u i) same l)))
  ]

-- ---- the task waits

module _ {K V : Type 0} (eq : K → K → Bool) (equality : IsEquality eq) (m : Meaning K V) (law : IsLawful m) (R : List (Told K V)) (v : ℕ) where
  -- a task that was taken comes to wait for its next batch: it asks for one or more keys of it, whose tasks are at work and do not wait for
  -- it; each other key of the batch is injected or has ended with a value
  pub parks : (W : List K) (s u : Asked K) (ts us : K → Option (Task K V)) (k : K) (t : Task K V) (w : Work K V) (A : List (Answered K V)) (ks ds : List K) → VersionStands eq m R v W s ts → ts k ≡ Some t → t.standing ≡ Works w IsOut A
      → AsksNext eq m v k w A (IsWaiting ks) → (some : K) → Has ds some → ((d : K) → Has ds d → Has ks d) → ((d : K) → Has ds d → AsksFor eq m (commits_of R) v k d × (s.live d ≡ true) × (Leads s d k → ⊥))
      → ((d : K) → Has ks d → (m.kind d ≡ Injected) ⊎ Has ds d ⊎ ((x : V) × (value_of (ts d) ≡ Some x))) → Parks eq k ds s u → SameLives eq s u
      → Puts eq k (Some (record { born = t.born; standing = Works w (IsWaiting ks) A })) ts us
      → VersionStands eq m R v W u us
  parks W s u ts us k t w A ks ds h e st next some some_in within good all parked same put =
      let a = at_work eq equality m law R v W s ts k t w IsOut A h e st in
      let stands = h.each k t e in
      record {
        promised = λ q i f. elim (parked.only q (Promised i) f) as (λ _. (x : Asking K) × (live_at R i ≡ Some x) × (opened_at R v x.opened ≡ true) × (x.key ≡ q)) [
          | inl o ↦ h.promised q i o
          | inr n ↦ absurd (let z : Promised i ≡ Tasked k = n.1 in cc)
        ];
        promises = λ i x l o n. parked.kept x.key (Promised i) (h.promises i x l o n);
        waits = λ d q f. elim (parked.only d (Tasked q) f) as (λ _. AsksFor eq m (commits_of R) v q d) [
          | inl o ↦ h.waits d q o
          | inr n ↦ subst (λ y. AsksFor eq m (commits_of R) v y d) (sym (by_k q n.1)) (good d n.0).0
        ];
        waiting = λ d q f. elim (parked.only d (Tasked q) f) as (λ _. (l : List K) × (batch_of (us q) ≡ Some l) × Has l d) [
          | inl o ↦ (let b = h.waiting d q o in (b.0, ap batch_of (unlike q (λ i. none-some b.0 (sym idle ∙ subst (λ y. batch_of (ts y) ≡ Some b.0) (sym i) b.1))) ∙ b.1, b.2))
          | inr n ↦ (ks, ap (λ y. batch_of (us y)) (by_k q n.1) ∙ ap batch_of here, within d n.0)
        ];
        awaited = λ d q f. elim (parked.only d (Tasked q) f) as (λ _. (u.live d ≡ true) ⊎ Has W d) [
          | inl o ↦ elim (h.awaited d q o) as (λ _. (u.live d ≡ true) ⊎ Has W d) [ inl l ↦ inl (same d ∙ l) | inr g ↦ inr g ]
          | inr n ↦ inl (same d ∙ (good d n.0).1)
        ];
        no_cycle = parks_no_cycle eq k ds s u parked h.no_cycle (λ d g. (good d g).2);
        stuck = λ q l f. elim (same_or_other eq equality k q) as (λ _. (d : K) × (u.asks d (Tasked q) ≡ true)) [
          | inl i ↦ (some, subst (λ y. u.asks some (Tasked y) ≡ true) i (parked.asked some some_in))
          | inr n ↦ (let d = h.stuck q l (ap batch_of (sym (other q n)) ∙ f) in (d.0, parked.kept d.0 (Tasked q) d.1))
        ];
        batch = λ q l f d g. elim (same_or_other eq equality k q) as (λ _. (m.kind d ≡ Injected) ⊎ (u.asks d (Tasked q) ≡ true) ⊎ ((x : V) × (value_of (us d) ≡ Some x))) [
          | inl i ↦ (
              let l_is : ks ≡ l = same_Some ks l (ap batch_of (sym here) ∙ subst (λ y. batch_of (us y) ≡ Some l) (sym i) f) in
              elim (all d (subst (λ y. Has y d) (sym l_is) g)) as (λ _. (m.kind d ≡ Injected) ⊎ (u.asks d (Tasked q) ≡ true) ⊎ ((x : V) × (value_of (us d) ≡ Some x))) [
                | inl j ↦ inl j
                | inr (inl o) ↦ inr (inl (subst (λ y. u.asks d (Tasked y) ≡ true) i (parked.asked d o)))
                | inr (inr x) ↦ inr (inr (x.0, value_stays d x.0 x.1))
              ]
              )
          | inr n ↦ elim (h.batch q l (ap batch_of (sym (other q n)) ∙ f) d g) as (λ _. (m.kind d ≡ Injected) ⊎ (u.asks d (Tasked q) ≡ true) ⊎ ((x : V) × (value_of (us d) ≡ Some x))) [
            | inl j ↦ inl j
            | inr (inl o) ↦ inr (inl (parked.kept d (Tasked q) o))
            | inr (inr x) ↦ inr (inr (x.0, value_stays d x.0 x.1))
          ]
        ];
        live = λ q. same q ∙ put_fact eq equality k t2 ts us put (λ y o. s.live y ≡ is_going o) (h.live k ∙ (ap is_going e ∙ ap (λ x. is_going (Some (record t { standing = x }))) st)) (λ y n. h.live y) q;
        each = put_each eq equality k t2 ts us put (TaskStands eq m R v)
            (record {
              computed = stands.computed;
              within = stands.within;
              born = stands.born;
              once = stands.once;
              asked = stands.asked;
              reached = stands.reached;
              standing = record { undecided = a.undecided; work = a.work; asks = next };
            })
            (λ q x n f. h.each q x f);
        running = put_fact eq equality k t2 ts us put (λ q x. is_running eq R v q ≡ is_computing x) (h.running k ∙ (ap is_computing e ∙ (ap computes st ∙ same_computes w))) (λ q n. h.running q);
        fresh = λ q f c. h.fresh q (put_none eq equality k t2 ts us put q f).1 c;
      }
    where
      t2 : Task K V
      t2 = record { born = t.born; standing = Works w (IsWaiting ks) A }

      here : us k ≡ Some t2
      here = put_here eq equality k (Some t2) ts us put

      other : (q : K) → eq k q ≡ false → us q ≡ ts q
      other q n = put_other eq equality k (Some t2) ts us put q n

      unlike : (q : K) → (k ≡ q → ⊥) → us q ≡ ts q
      unlike q n = elim (same_or_other eq equality k q) as (λ _. us q ≡ ts q) [ inl i ↦ absurd (n i) | inr o ↦ other q o ]

      by_k : (q : K) → Tasked q ≡ Tasked k → q ≡ k
      by_k q e = cc

      idle : batch_of (ts k) ≡ None
      idle = ap batch_of e ∙ ap waits_for st

      value_stays : (d : K) (x : V) → value_of (ts d) ≡ Some x → value_of (us d) ≡ Some x
      value_stays d x f = ap value_of (unlike d (λ i. none-some x (sym (ap value_of e ∙ ap value_in st) ∙ subst (λ y. value_of (ts y) ≡ Some x) (sym i) f))) ∙ f

      same_computes : (w : Work K V) → computes (Works w IsOut A) ≡ computes (Works w (IsWaiting ks) A)
      same_computes Computes = refl
      same_computes (Checks x T b) = refl
