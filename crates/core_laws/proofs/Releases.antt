-- A task that has ended releases who asks for it.
use Rattle.std.proofs.Common.{◌≡◌, ◌⊎◌, inl, inr, ℕ, Bool, true, false, not, ◌&&◌, List, [], ◌∷◌, ◌++◌, Option, Some, refl, sym, ap, ◌∙◌, subst}
use Rattle.std.specs.List.{AllZip}
use Rattle.dice_key.specs.Meaning.{Meaning, Answered}
use Rattle.dice_key.specs.Lawful.{IsLawful, IsEquality}
use Rattle.dice_key.specs.declared.universe.Kind.TheVariants.{Injected}
use Rattle.dice_model.specs.Eval.{HasValue}
use Rattle.task_share.specs.Asked.{By, Promised, Tasked, is_by, Asked}
use Rattle.journal.specs.declared.event.Told.{Told}
use Rattle.journal.specs.Events.{commits_of}
use Rattle.core_laws.specs.Tasks.{Works, IsReady, IsWaiting, Task, value_of}
use Rattle.core_laws.specs.Stands.{VersionStands}
use Rattle.core_laws.specs.Changes.{Puts, SameLives, Leaves}
use Rattle.core_laws.proofs.Shapes.{same_or_other, and_none, not_both}
use Rattle.core_laws.proofs.Stages.{at_work, work_next, turned}
use Rattle.lists.specs.Lists.{Has}
use Rattle.std.proofs.lemmas.Bool.{and_parts}
use Rattle.dice_jobs.specs.Jobs.{Work}
use Rattle.task_share.proofs.Leads.{leads_fewer}

module _ {K : Type 0} (eq : K → K → Bool) (k : K) (b : By K) (s u : Asked K) (left : Leaves eq k b s u) where
  pub left_fewer : (q : K) (a : By K) → u.asks q a ≡ true → s.asks q a ≡ true
  left_fewer q a e = (and_parts (s.asks q a) (not (eq k q && is_by eq b a)) (sym (left q a) ∙ e)).0

  -- other askers stay
  pub left_others : (q : K) (a : By K) → is_by eq b a ≡ false → s.asks q a ≡ true → u.asks q a ≡ true
  left_others q a n e = left q a ∙ (ap (λ c. c && not (eq k q && is_by eq b a)) e ∙ ap not (ap (λ c. eq k q && c) n ∙ and_none (eq k q)))

  -- and so do all askers of other keys
  pub left_elsewhere : (q : K) (a : By K) → eq k q ≡ false → s.asks q a ≡ true → u.asks q a ≡ true
  left_elsewhere q a n e = left q a ∙ (ap (λ c. c && not (eq k q && is_by eq b a)) e ∙ ap not (ap (λ c. c && is_by eq b a) n))

module _ {K V : Type 0} (eq : K → K → Bool) (equality : IsEquality eq) (m : Meaning K V) (law : IsLawful m) (R : List (Told K V)) (v : ℕ) where
  -- k has ended with a value and no longer has j among its askers; j waits on for another key
  pub released_on : (W : List K) (s u : Asked K) (ts : K → Option (Task K V)) (k j : K) (x : V) → VersionStands eq m R v W s ts → value_of (ts k) ≡ Some x
      → Leaves eq k (Tasked j) s u → SameLives eq s u → (d : K) → u.asks d (Tasked j) ≡ true → VersionStands eq m R v W u ts
  released_on W s u ts k j x h value left same d on =
      let fewer = left_fewer eq k (Tasked j) s u left in
      record {
        promised = λ q i e. h.promised q i (fewer q (Promised i) e);
        promises = λ i a l at n. left_others eq k (Tasked j) s u left a.key (Promised i) refl (h.promises i a l at n);
        waits = λ c q e. h.waits c q (fewer c (Tasked q) e);
        waiting = λ c q e. h.waiting c q (fewer c (Tasked q) e);
        awaited = λ c q e. elim (h.awaited c q (fewer c (Tasked q) e)) as (λ _. (u.live c ≡ true) ⊎ Has W c) [ inl l ↦ inl (same c ∙ l) | inr g ↦ inr g ];
        no_cycle = λ a i e l. h.no_cycle a i (fewer i (Tasked a) e) (leads_fewer s u fewer i a l);
        stuck = λ q ks e. elim (same_or_other eq equality j q) as (λ _. (c : K) × (u.asks c (Tasked q) ≡ true)) [
          | inl i ↦ (d, subst (λ y. u.asks d (Tasked y) ≡ true) i on)
          | inr n ↦ (let c = h.stuck q ks e in (c.0, left_others eq k (Tasked j) s u left c.0 (Tasked q) n c.1))
        ];
        batch = λ q ks e c g. elim (h.batch q ks e c g) as (λ _. (m.kind c ≡ Injected) ⊎ (u.asks c (Tasked q) ≡ true) ⊎ ((y : V) × (value_of (ts c) ≡ Some y))) [
          | inl i ↦ inl i
          | inr (inl a) ↦ elim (same_or_other eq equality k c) as (λ _. (m.kind c ≡ Injected) ⊎ (u.asks c (Tasked q) ≡ true) ⊎ ((y : V) × (value_of (ts c) ≡ Some y))) [
            | inl i ↦ inr (inr (x, subst (λ y. value_of (ts y) ≡ Some x) i value))
            | inr n ↦ inr (inl (left_elsewhere eq k (Tasked j) s u left c (Tasked q) n a))
          ]
          | inr (inr y) ↦ inr (inr y)
        ];
        live = λ q. same q ∙ h.live q;
        each = h.each;
        running = h.running;
        fresh = h.fresh;
      }

  -- k no longer has j among its askers, and j waits for no key any more: it has all answers to its batch, and goes on
  pub released_ready : (W : List K) (s u : Asked K) (ts us : K → Option (Task K V)) (k j : K) (t : Task K V) (w : Work K V) (A : List (Answered K V)) (ks : List K) (xs : List V) → VersionStands eq m R v W s ts
      → Leaves eq k (Tasked j) s u → SameLives eq s u → ((d : K) → u.asks d (Tasked j) ≡ false) → ts j ≡ Some t → t.standing ≡ Works w (IsWaiting ks) A → AllZip (HasValue eq m (commits_of R) v) ks xs
      → Puts eq j (Some (record { born = t.born; standing = Works w IsReady (A ++ record { keys = ks; values = xs } ∷ []) })) ts us
      → VersionStands eq m R v W u us
  released_ready W s u ts us k j t w A ks xs h left same none e st z put =
      let a = at_work eq equality m law R v W s ts j t w (IsWaiting ks) A h e st in
      turned eq equality m law R v W s u ts us j t w (IsWaiting ks) IsReady A (A ++ record { keys = ks; values = xs } ∷ []) h e st
      (record { undecided = a.undecided; work = work_next eq equality m law R v j w A ks xs a.work a.asks z; asks = tt }) refl put same
      (left_fewer eq k (Tasked j) s u left)
      (λ q i f. left_others eq k (Tasked j) s u left q (Promised i) refl f)
      (λ q i n f. left_others eq k (Tasked j) s u left q (Tasked i) n f)
      (λ q f. not_both f (none q))

  -- all who asked for k were told of its end
  pub told : (W : List K) (s : Asked K) (ts : K → Option (Task K V)) (k : K) → VersionStands eq m R v (k ∷ W) s ts → ((j : K) → s.asks k (Tasked j) ≡ false) → VersionStands eq m R v W s ts
  told W s ts k h none = record {
    promised = h.promised;
    promises = h.promises;
    waits = h.waits;
    waiting = h.waiting;
    awaited = λ d q e. elim (h.awaited d q e) as (λ _. (s.live d ≡ true) ⊎ Has W d) [
      | inl l ↦ inl l
      | inr (inl i) ↦ absurd (not_both e (subst (λ y. s.asks y (Tasked q) ≡ false) i (none q)))
      | inr (inr g) ↦ inr g
    ];
    no_cycle = h.no_cycle;
    stuck = h.stuck;
    batch = h.batch;
    live = h.live;
    each = h.each;
    running = h.running;
    fresh = h.fresh;
  }
