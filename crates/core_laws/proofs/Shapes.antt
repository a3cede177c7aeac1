-- What of a version speaks of no journal, and how a step that changes one task keeps it.
use Rattle.std.proofs.Common.{◌≡◌, ◌⊎◌, inl, inr, ℕ, Bool, true, false, cond, ◌&&◌, List, Option, Some, None, refl, sym, ap, ◌∙◌, subst}
use Rattle.std.proofs.lemmas.Option.{same_Some, none-some}
use Rattle.dice_key.specs.Meaning.{Meaning}
use Rattle.dice_key.specs.Lawful.{IsEquality}
use Rattle.dice_key.specs.declared.universe.Kind.TheVariants.{Injected}
use Rattle.task_share.specs.Asked.{By, Tasked, Asked, HasNoCycle}
use Rattle.journal.specs.declared.event.Told.{Told}
use Rattle.core_laws.specs.Tasks.{Standing, Works, Ended, Task, goes_on, computes, waits_for, value_in, is_going, is_computing, batch_of, value_of}
use Rattle.core_laws.specs.Stands.{VersionStands}
use Rattle.core_laws.specs.Changes.{Puts, Lives}
use Rattle.lists.specs.Lists.{Has}
use Rattle.task_share.proofs.Leads.{leads_fewer}

pub and_none : (a : Bool) → (a && false) ≡ false
and_none true = refl
and_none false = refl

pub not_both : {b : Bool} → b ≡ true → b ≡ false → ⊥
not_both p q = let h : true ≡ false = sym p ∙ q in cc

-- ---- what the standing of a task says

module _ {K V : Type 0} where
  -- what has ended or is not there waits for nothing
  pub idle_batch : (o : Option (Task K V)) → is_going o ≡ false → batch_of o ≡ None
  idle_batch None e = refl
  idle_batch (Some t) e = of_standing t.standing e
    where
      of_standing : (p : Standing K V) → goes_on p ≡ false → waits_for p ≡ None
      of_standing (Works w p A) f = let h : true ≡ false = f in cc
      of_standing (Ended o) f = refl

  -- and it computes nothing
  pub idle_computes : (o : Option (Task K V)) → is_going o ≡ false → is_computing o ≡ false
  idle_computes None e = refl
  idle_computes (Some t) e = of_standing t.standing e
    where
      of_standing : (p : Standing K V) → goes_on p ≡ false → computes p ≡ false
      of_standing (Works w p A) f = let h : true ≡ false = f in cc
      of_standing (Ended o) f = refl

-- ---- chains of asks

-- ---- one task that is put

module _ {K : Type 0} (eq : K → K → Bool) (equality : IsEquality eq) where
  pub same_or_other : (k q : K) → (k ≡ q) ⊎ (eq k q ≡ false)
  same_or_other k q = by_test (eq k q) refl
    where
      by_test : (b : Bool) → eq k q ≡ b → (k ≡ q) ⊎ (eq k q ≡ false)
      by_test true e = inl (equality.same k q e)
      by_test false e = inr e

  -- other keys are other both ways
  pub other_way : (k q : K) → eq k q ≡ false → eq q k ≡ false
  other_way k q n = elim (same_or_other q k) as (λ _. eq q k ≡ false) [
    | inl i ↦ absurd (not_both (subst (λ y. eq y q ≡ true) i (equality.itself q)) n)
    | inr o ↦ o
  ]

  pub lives_here : (k : K) (b : Bool) (s u : Asked K) → Lives eq k b s u → u.live k ≡ b
  lives_here k b s u l = l k ∙ ap (λ c. cond c b (s.live k)) (equality.itself k)

  pub lives_other : (k : K) (b : Bool) (s u : Asked K) → Lives eq k b s u → (q : K) → eq k q ≡ false → u.live q ≡ s.live q
  lives_other k b s u l q n = l q ∙ ap (λ c. cond c b (s.live q)) n

  module _ {V : Type 0} (k : K) (o : Option (Task K V)) (ts us : K → Option (Task K V)) (put : Puts eq k o ts us) where
    pub put_here : us k ≡ o
    put_here = put k ∙ ap (λ c. cond c o (ts k)) (equality.itself k)

    pub put_other : (q : K) → eq k q ≡ false → us q ≡ ts q
    put_other q n = put q ∙ ap (λ c. cond c o (ts q)) n

  module _ {V : Type 0} (k : K) (t : Task K V) (ts us : K → Option (Task K V)) (put : Puts eq k (Some t) ts us) where
    -- what holds of the task that is put, and of all others, holds of each
    pub put_each : (P : K → Task K V → Type 0) → P k t → ((q : K) (x : Task K V) → eq k q ≡ false → ts q ≡ Some x → P q x) → (q : K) (x : Task K V) → us q ≡ Some x → P q x
    put_each P here others q x e = elim (same_or_other k q) as (λ _. P q x) [
      | inl i ↦ (let same : t ≡ x = same_Some t x (sym (put_here k (Some t) ts us put) ∙ subst (λ y. us y ≡ Some x) (sym i) e) in subst (λ y. P y x) i (subst (P k) same here))
      | inr n ↦ others q x n (sym (put_other k (Some t) ts us put q n) ∙ e)
    ]

    pub put_fact : (P : K → Option (Task K V) → Type 0) → P k (Some t) → ((q : K) → eq k q ≡ false → P q (ts q)) → (q : K) → P q (us q)
    put_fact P here others q = elim (same_or_other k q) as (λ _. P q (us q)) [
      | inl i ↦ subst (λ y. P y (us y)) i (subst (P k) (sym (put_here k (Some t) ts us put)) here)
      | inr n ↦ subst (P q) (sym (put_other k (Some t) ts us put q n)) (others q n)
    ]

    -- a key without a task is another, and had none
    pub put_none : (q : K) → us q ≡ None → (eq k q ≡ false) × (ts q ≡ None)
    put_none q e = elim (same_or_other k q) as (λ _. (eq k q ≡ false) × (ts q ≡ None)) [
      | inl i ↦ absurd (none-some t (sym (subst (λ y. us y ≡ None) (sym i) e) ∙ put_here k (Some t) ts us put))
      | inr n ↦ (n, sym (put_other k (Some t) ts us put q n) ∙ e)
    ]

-- ---- what of a version speaks of no journal

module _ {K V : Type 0} (m : Meaning K V) where
  -- who waits for what, and which tasks have not ended, as in `VersionStands`
  pub record Shape (W : List K) (s : Asked K) (ts : K → Option (Task K V)) : Type 0 where
    pub waiting : (d k : K) → s.asks d (Tasked k) ≡ true → (ks : List K) × (batch_of (ts k) ≡ Some ks) × Has ks d
    pub awaited : (d k : K) → s.asks d (Tasked k) ≡ true → (s.live d ≡ true) ⊎ Has W d
    pub no_cycle : HasNoCycle s
    pub stuck : (k : K) (ks : List K) → batch_of (ts k) ≡ Some ks → (d : K) × (s.asks d (Tasked k) ≡ true)
    pub batch : (k : K) (ks : List K) → batch_of (ts k) ≡ Some ks → (d : K) → Has ks d → (m.kind d ≡ Injected) ⊎ (s.asks d (Tasked k) ≡ true) ⊎ ((x : V) × (value_of (ts d) ≡ Some x))
    pub live : (k : K) → s.live k ≡ is_going (ts k)

module _ {K V : Type 0} (eq : K → K → Bool) (m : Meaning K V) (R : List (Told K V)) (v : ℕ) where
  pub shape_of : (W : List K) (s : Asked K) (ts : K → Option (Task K V)) → VersionStands eq m R v W s ts → Shape m W s ts
  shape_of W s ts h = record { waiting = h.waiting; awaited = h.awaited; no_cycle = h.no_cycle; stuck = h.stuck; batch = h.batch; live = h.live }

  -- a key whose task does not wait asks for nothing
  pub asks_nothing : (W : List K) (s : Asked K) (ts : K → Option (Task K V)) → VersionStands eq m R v W s ts → (k : K) → batch_of (ts k) ≡ None → (d : K) → s.asks d (Tasked k) ≡ true → ⊥
  asks_nothing W s ts h k n d e = let w = h.waiting d k e in none-some w.0 (sym n ∙ w.1)

module _ {K V : Type 0} (eq : K → K → Bool) (equality : IsEquality eq) (m : Meaning K V) (W : List K) (s u : Asked K) (ts us : K → Option (Task K V)) (j : K) (t : Task K V)
    (shape : Shape m W s ts)
    (put : Puts eq j (Some t) ts us)
    (lives : Lives eq j (goes_on t.standing) s u)
    (fewer : (q : K) (a : By K) → u.asks q a ≡ true → s.asks q a ≡ true)
    (kept : (q i : K) → eq j i ≡ false → s.asks q (Tasked i) ≡ true → u.asks q (Tasked i) ≡ true)
    (nothing : (q : K) → u.asks q (Tasked j) ≡ true → ⊥)
    (ready : waits_for t.standing ≡ None)
    (told : (i : K) → s.asks j (Tasked i) ≡ true → (goes_on t.standing ≡ true) ⊎ Has W j)
    (valued : (x : V) → value_of (ts j) ≡ Some x → (y : V) × (value_in t.standing ≡ Some y)) where
  other_batch : (q : K) (ks : List K) → batch_of (us q) ≡ Some ks → (eq j q ≡ false) × (batch_of (ts q) ≡ Some ks)
  other_batch q ks e = elim (same_or_other eq equality j q) as (λ _. (eq j q ≡ false) × (batch_of (ts q) ≡ Some ks)) [
    | inl i ↦ absurd (none-some ks (sym ready ∙ (ap batch_of (sym (put_here eq equality j (Some t) ts us put)) ∙ subst (λ y. batch_of (us y) ≡ Some ks) (sym i) e)))
    | inr n ↦ (n, ap batch_of (sym (put_other eq equality j (Some t) ts us put q n)) ∙ e)
  ]

  value_on : (d : K) (x : V) → value_of (ts d) ≡ Some x → (y : V) × (value_of (us d) ≡ Some y)
  value_on d x e = elim (same_or_other eq equality j d) as (λ _. (y : V) × (value_of (us d) ≡ Some y)) [
    | inl i ↦ (let r = valued x (subst (λ y. value_of (ts y) ≡ Some x) (sym i) e) in (r.0, ap (λ y. value_of (us y)) (sym i) ∙ (ap value_of (put_here eq equality j (Some t) ts us put) ∙ r.1)))
    | inr n ↦ (x, ap value_of (put_other eq equality j (Some t) ts us put d n) ∙ e)
  ]

  -- the task of j waits for nothing now, and its key asks for nothing: all else stays
  pub eased : Shape m W u us
  eased = record {
    waiting = λ d q e. elim (same_or_other eq equality j q) as (λ _. (ks : List K) × (batch_of (us q) ≡ Some ks) × Has ks d) [
      | inl i ↦ absurd (nothing d (subst (λ y. u.asks d (Tasked y) ≡ true) (sym i) e))
      | inr n ↦ (let w = shape.waiting d q (fewer d (Tasked q) e) in (w.0, ap batch_of (put_other eq equality j (Some t) ts us put q n) ∙ w.1, w.2))
    ];
    awaited = λ d q e. elim (same_or_other eq equality j d) as (λ _. (u.live d ≡ true) ⊎ Has W d) [
      | inl i ↦ elim (told q (subst (λ y. s.asks y (Tasked q) ≡ true) (sym i) (fewer d (Tasked q) e))) as (λ _. (u.live d ≡ true) ⊎ Has W d) [
        | inl g ↦ inl (subst (λ y. u.live y ≡ true) i (lives_here eq equality j (goes_on t.standing) s u lives ∙ g))
        | inr h ↦ inr (subst (Has W) i h)
      ]
      | inr n ↦ elim (shape.awaited d q (fewer d (Tasked q) e)) as (λ _. (u.live d ≡ true) ⊎ Has W d) [
        | inl l ↦ inl (lives_other eq equality j (goes_on t.standing) s u lives d n ∙ l)
        | inr h ↦ inr h
      ]
    ];
    no_cycle = λ a i e l. shape.no_cycle a i (fewer i (Tasked a) e) (leads_fewer s u fewer i a l);
    stuck = λ q ks e. (let o = other_batch q ks e in let d = shape.stuck q ks o.1 in (d.0, kept d.0 q o.0 d.1));
    batch = λ q ks e d h. (let o = other_batch q ks e in elim (shape.batch q ks o.1 d h) as (λ _. (m.kind d ≡ Injected) ⊎ (u.asks d (Tasked q) ≡ true) ⊎ ((x : V) × (value_of (us d) ≡ Some x))) [
      | inl i ↦ inl i
      | inr (inl a) ↦ inr (inl (kept d q o.0 a))
      | inr (inr x) ↦ inr (inr (value_on d x.0 x.1))
    ]);
    live = λ q. elim (same_or_other eq equality j q) as (λ _. u.live q ≡ is_going (us q)) [
      | inl i ↦ subst (λ y. u.live y ≡ is_going (us y)) i (lives_here eq equality j (goes_on t.standing) s u lives ∙ ap is_going (sym (put_here eq equality j (Some t) ts us put)))
      | inr n ↦ lives_other eq equality j (goes_on t.standing) s u lives q n ∙ (shape.live q ∙ ap is_going (sym (put_other eq equality j (Some t) ts us put q n)))
    ];
  }
