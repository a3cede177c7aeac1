-- A task without asker is dropped.
use Rattle.std.proofs.Common.{◌≡◌, ◌<◌, ◌⊎◌, inl, inr, ℕ, Bool, true, false, not, ◌&&◌, List, ◌∷◌, Option, Some, None, refl, sym, ap, ◌∙◌, subst}
use Rattle.std.specs.Option.{option_map, option_and_then}
use Rattle.std.proofs.lemmas.Option.{none-some}
use Rattle.dice_key.specs.Meaning.{Meaning}
use Rattle.dice_key.specs.Lawful.{IsEquality}
use Rattle.dice_key.specs.declared.universe.Kind.TheVariants.{Injected}
use Rattle.task_share.specs.Asked.{By, Promised, Tasked, Asked, Takes}
use Rattle.journal.specs.declared.event.Told.{Told}
use Rattle.journal.specs.declared.event.Told.TheVariants.{Close, Leave, Drop}
use Rattle.journal.specs.Events.{Opened, Asking, open_at, live_at, ended_at, decided, open_count, is_running}
use Rattle.journal.specs.Law.{IsAllowed}
use Rattle.core_laws.specs.Tasks.{Task, goes_on, is_going, is_computing, batch_of, value_of}
use Rattle.core_laws.specs.Stands.{TaskStands, VersionStands}
use Rattle.core_laws.specs.Changes.{Puts}
use Rattle.core_laws.proofs.Shapes.{and_none, not_both, same_or_other, put_here, put_other}
use Rattle.core_laws.proofs.OfKey.{asked_before, asked_by_another, promise_stays, others_stay, named, drop_leaves, task_on}
use Rattle.core_laws.proofs.Ends.{no_value_at_work, undecided_at_work}
use Rattle.lists.specs.Lists.{Has}
use Rattle.std.proofs.Math.Bool.{and-true}
use Rattle.task_share.proofs.Leads.{leads_fewer}

-- what is at work is a task
pub going_task : {K V : Type 0} (o : Option (Task K V)) → is_going o ≡ true → (t : Task K V) × (o ≡ Some t) × (goes_on t.standing ≡ true)
going_task None e = cc
going_task (Some t) e = (t, refl, e)

-- a Close and a Leave are ends at the version of their transaction
pub ended_by_close : {K V : Type 0} (R : List (Told K V)) (by t : ℕ) (o : Opened) → open_at R t ≡ Some o → ended_at (Close by t ∷ R) ≡ Some o.version
ended_by_close R by t o e = ap (option_map (λ (o : Opened). o.version)) e

pub ended_by_leave : {K V : Type 0} (R : List (Told K V)) (by i : ℕ) (a : Asking K) (o : Opened) → live_at R i ≡ Some a → open_at R a.opened ≡ Some o → ended_at (Leave by i ∷ R) ≡ Some o.version
ended_by_leave {K} R by i a o l e = ap (option_and_then (λ (x : Asking K). option_map (λ (o : Opened). o.version) (open_at R x.opened))) l ∙ ap (option_map (λ (o : Opened). o.version)) e

-- who is asked for is not taken
pub asked_stays : {K : Type 0} (eq : K → K → Bool) (equality : IsEquality eq) (k : K) (s u : Asked K) → Takes eq s k u → (q : K) (a : By K) → s.asks q a ≡ true → eq k q ≡ false
asked_stays eq equality k s u w q a e = elim (same_or_other eq equality k q) as (λ _. eq k q ≡ false) [
  | inl i ↦ absurd (not_both (subst (λ x. s.asks x a ≡ true) (sym i) e) (w.unasked a))
  | inr n ↦ n
]

module _ {K V : Type 0} (eq : K → K → Bool) (equality : IsEquality eq) (m : Meaning K V) (R : List (Told K V)) (v : ℕ)
    (W : List K) (s u : Asked K) (ts us : K → Option (Task K V)) (k : K) (h : VersionStands eq m R v W s ts) (w : Takes eq s k u) (p : Puts eq k None ts us) where
  here : us k ≡ None
  here = put_here eq equality k None ts us p

  others : (q : K) → eq k q ≡ false → us q ≡ ts q
  others = put_other eq equality k None ts us p

  taken : (t : Task K V) × (ts k ≡ Some t) × (goes_on t.standing ≡ true)
  taken = going_task (ts k) (sym (h.live k) ∙ w.taken)

  before : (q : K) (a : By K) → u.asks q a ≡ true → s.asks q a ≡ true
  before = asked_before eq k s u w.asks

  undecided : decided eq R v k ≡ None
  undecided = undecided_at_work eq m R v k taken.0 taken.2 (h.each k taken.0 taken.1)

  live_others : (q : K) → eq k q ≡ false → u.live q ≡ s.live q
  live_others q n = w.live q ∙ (ap (λ b. s.live q && not b) n ∙ and-true (s.live q))

  awaited_on : (d j : K) → u.asks d (Tasked j) ≡ true → (u.live d ≡ true) ⊎ Has W d
  awaited_on d j e = elim (h.awaited d j (before d (Tasked j) e)) as (λ _. (u.live d ≡ true) ⊎ Has W d) [
    | inl a ↦ inl (live_others d (asked_stays eq equality k s u w d (Tasked j) (before d (Tasked j) e)) ∙ a)
    | inr b ↦ inr b
  ]

  waits_still : (j : K) (ks : List K) → batch_of (us j) ≡ Some ks → (eq k j ≡ false) × (batch_of (ts j) ≡ Some ks)
  waits_still j ks e = elim (same_or_other eq equality k j) as (λ _. (eq k j ≡ false) × (batch_of (ts j) ≡ Some ks)) [
    | inl i ↦ absurd (none-some ks (sym (ap batch_of (subst (λ y. us y ≡ None) i here)) ∙ e))
    | inr n ↦ (n, sym (ap batch_of (others j n)) ∙ e)
  ]

  value_still : (d : K) (x : V) → value_of (ts d) ≡ Some x → value_of (us d) ≡ Some x
  value_still d x e = elim (same_or_other eq equality k d) as (λ _. value_of (us d) ≡ Some x) [
    | inl i ↦ absurd (none-some x (sym (ap value_of (subst (λ q. ts q ≡ Some taken.0) i taken.1) ∙ no_value_at_work taken.0.standing taken.2) ∙ e))
    | inr n ↦ ap value_of (others d n) ∙ e
  ]

  batch_on : (j : K) (ks : List K) → batch_of (us j) ≡ Some ks → (d : K) → Has ks d → (m.kind d ≡ Injected) ⊎ (u.asks d (Tasked j) ≡ true) ⊎ ((x : V) × (value_of (us d) ≡ Some x))
  batch_on j ks e d i =
      let a = waits_still j ks e in
      elim (h.batch j ks a.1 d i) as (λ _. (m.kind d ≡ Injected) ⊎ (u.asks d (Tasked j) ≡ true) ⊎ ((x : V) × (value_of (us d) ≡ Some x))) [
        | inl z ↦ inl z
        | inr (inl z) ↦ inr (inl (others_stay eq k s u w.asks d j a.0 z))
        | inr (inr z) ↦ inr (inr (z.0, value_still d z.0 z.1))
      ]

  live_on : (q : K) → u.live q ≡ is_going (us q)
  live_on q = elim (same_or_other eq equality k q) as (λ _. u.live q ≡ is_going (us q)) [
    | inl i ↦ subst (λ y. u.live y ≡ is_going (us y)) i (w.live k ∙ (ap (λ b. s.live k && not b) (equality.itself k) ∙ (and_none (s.live k) ∙ sym (ap is_going here))))
    | inr n ↦ live_others q n ∙ (h.live q ∙ sym (ap is_going (others q n)))
  ]

  each_on : (q : K) (r : Task K V) → us q ≡ Some r → TaskStands eq m (Drop v k ∷ R) v q r
  each_on q r e = elim (same_or_other eq equality k q) as (λ _. TaskStands eq m (Drop v k ∷ R) v q r) [
    | inl i ↦ absurd (none-some r (sym (subst (λ y. us y ≡ None) i here) ∙ e))
    | inr n ↦ task_on eq m R (Drop v k ∷ R) v k (drop_leaves eq equality R v k) q r n (h.each q r (sym (others q n) ∙ e))
  ]

  running_on : (q : K) → is_running eq (Drop v k ∷ R) v q ≡ is_computing (us q)
  running_on q = elim (same_or_other eq equality k q) as (λ _. is_running eq (Drop v k ∷ R) v q ≡ is_computing (us q)) [
    | inl i ↦ subst (λ y. is_running eq (Drop v k ∷ R) v y ≡ is_computing (us y)) i (ap (λ b. not b && is_running eq R v k) (named eq equality v k) ∙ sym (ap is_computing here))
    | inr n ↦ (drop_leaves eq equality R v k).runs q n ∙ (h.running q ∙ sym (ap is_computing (others q n)))
  ]

  fresh_on : (q : K) → us q ≡ None → 0 < open_count R v → decided eq R v q ≡ None
  fresh_on q e c = elim (same_or_other eq equality k q) as (λ _. decided eq R v q ≡ None) [
    | inl i ↦ subst (λ y. decided eq R v y ≡ None) i undecided
    | inr n ↦ h.fresh q (sym (others q n) ∙ e) c
  ]

  -- after an end at v, a task at work without asker goes: its Drop is allowed, and it was no end
  pub drops : ended_at R ≡ Some v → IsAllowed eq m R (Drop v k) × VersionStands eq m (Drop v k ∷ R) v W u us × (ended_at (Drop v k ∷ R) ≡ Some v)
  drops after = (
    (
      record {
        undecided = undecided;
        unasked = λ i a e at y. (let z : s.asks a.key (Promised i) ≡ true = h.promises i a e at (λ c. (h.each k taken.0 taken.1).computed (subst (λ x. m.kind x ≡ Injected) y c)) in
            not_both (subst (λ q. s.asks q (Promised i) ≡ true) y z) (w.unasked (Promised i)));
        once = (h.each k taken.0 taken.1).once;
        asked = (h.each k taken.0 taken.1).asked;
        reaches = (h.each k taken.0 taken.1).reached;
        after = after;
      },
      (h.each k taken.0 taken.1).computed,
    ),
    record {
      promised = λ q i e. h.promised q i (before q (Promised i) e);
      promises = λ i a e at c. promise_stays eq k s u w.asks a.key i (h.promises i a e at c);
      waits = λ d j e. h.waits d j (before d (Tasked j) e);
      waiting = λ d j e. (let a = h.waiting d j (before d (Tasked j) e) in (a.0, ap batch_of (others j (asked_by_another eq k s u w.asks d j e)) ∙ a.1, a.2));
      awaited = awaited_on;
      no_cycle = λ a i e l. h.no_cycle a i (before i (Tasked a) e) (leads_fewer s u before i a l);
      stuck = λ j ks e. (let a = waits_still j ks e in let d = h.stuck j ks a.1 in (d.0, others_stay eq k s u w.asks d.0 j a.0 d.1));
      batch = batch_on;
      live = live_on;
      each = each_on;
      running = running_on;
      fresh = fresh_on;
    },
    after,
  )
