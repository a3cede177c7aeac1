-- One task of one version changes: what becomes of what is counted.
use Rattle.std.proofs.Common.{◌≡◌, ◌≤◌, ◌⊎◌, inl, inr, ◌+◌, ◌*◌, ℕ, suc, Bool, true, false, cond, eqb, List, Option, refl, sym, ap, ◌∙◌, subst, arith, eqb-true, eq-eqb}
use Rattle.dice_key.specs.Lawful.{IsEquality}
use Rattle.dice_key.specs.Meaning.{Meaning}
use Rattle.task_share.specs.Asked.{Asked}
use Rattle.journal.specs.declared.event.Told.{Told}
use Rattle.journal.specs.Law.{IsLawfulBack}
use Rattle.core_laws.specs.Tasks.{Task, is_going}
use Rattle.core_laws.specs.Stands.{VersionStands, IsAtRest}
use Rattle.core_laws.specs.Changes.{Puts}
use Rattle.core_laws.specs.Desk.{World, Desk, AreAll, IsCount, ListTurns, CountTurns, DeskTurns, Stand, with_version, is_ready, is_out}
use Rattle.core_laws.proofs.Counts.{all_alike, count_alike, all_more, count_more, all_fewer, count_fewer}

module _ {X : Type 0} (f g : X → Bool) (y : X) (else : (x : X) → (y ≡ x → ⊥) → g x ≡ f x) (test : (x : X) → (y ≡ x) ⊎ (y ≡ x → ⊥)) where
  pub same_where : f y ≡ g y → (x : X) → g x ≡ f x
  same_where e x = elim (test x) as (λ _. g x ≡ f x) [ inl q ↦ subst (λ z. g z ≡ f z) q (sym e) | inr q ↦ else x q ]

  pub list_turns : (a b : Bool) → f y ≡ a → g y ≡ b → (xs ys : List X) → ListTurns a b y xs ys → AreAll f xs → AreAll g ys
  list_turns false false p q xs ys t a = subst (AreAll g) (sym t) (all_alike f g (same_where (p ∙ sym q)) xs a)
  list_turns true true p q xs ys t a = subst (AreAll g) (sym t) (all_alike f g (same_where (p ∙ sym q)) xs a)
  list_turns false true p q xs ys t a = subst (AreAll g) (sym t) (all_more f g y p q else test xs a)
  list_turns true false p q xs ys t a = all_fewer f g y q else test xs ys a t.among t.others t.distinct

  pub count_turns : (a b : Bool) → f y ≡ a → g y ≡ b → (n l : ℕ) → CountTurns a b n l → IsCount f n → IsCount g l
  count_turns false false p q n l t c = subst (IsCount g) (sym t) (count_alike f g (same_where (p ∙ sym q)) n c)
  count_turns true true p q n l t c = subst (IsCount g) (sym t) (count_alike f g (same_where (p ∙ sym q)) n c)
  count_turns false true p q n l t c = let e : suc n ≡ l = omega arith in subst (IsCount g) e (count_more f g y p q else test n c)
  count_turns true false p q n l t c = let r = count_fewer f g y p q else test n c in let h = r.1 in let e : r.0 ≡ l = omega arith in subst (IsCount g) e r.2

module _ {K : Type 0} (eq : K → K → Bool) (equality : IsEquality eq) where
  -- whether a pair is this one
  pub pair_test : (v : ℕ) (k : K) (p : ℕ × K) → ((v, k) ≡ p) ⊎ ((v, k) ≡ p → ⊥)
  pair_test v k p = by_number (eqb v p.0) refl
    where
      by_key : v ≡ p.0 → (c : Bool) → eq k p.1 ≡ c → ((v, k) ≡ p) ⊎ ((v, k) ≡ p → ⊥)
      by_key e true h = inl (λ j. (e j, equality.same k p.1 h j))
      by_key e false h = inr (λ q. let i : k ≡ p.1 = ap (λ (r : ℕ × K). r.1) q in let j : eq k p.1 ≡ true = subst (λ z. eq k z ≡ true) i (equality.itself k) in let c : true ≡ false = sym j ∙ h in cc)

      by_number : (b : Bool) → eqb v p.0 ≡ b → ((v, k) ≡ p) ⊎ ((v, k) ≡ p → ⊥)
      by_number true e = by_key (eqb-true v p.0 e) (eq k p.1) refl
      by_number false e = inr (λ q. let i : v ≡ p.0 = ap (λ (r : ℕ × K). r.0) q in let j : eqb v p.0 ≡ true = eq-eqb v p.0 i in let c : true ≡ false = sym j ∙ e in cc)

module _ {K V : Type 0} (eq : K → K → Bool) (equality : IsEquality eq) where
  module _ (v : ℕ) (k : K) (o : Option (Task K V)) (w : World K V) (u : Asked K) (us : K → Option (Task K V)) (puts : Puts eq k o (w.tasks v) us) where
    -- the task that was changed
    pub task_here : (with_version v u us w).tasks v k ≡ o
    task_here = rw (eq-eqb v v refl) (puts k ∙ ap (λ b. cond b o (w.tasks v k)) (equality.itself k))

    -- all other tasks
    pub task_there : (p : ℕ × K) → ((v, k) ≡ p → ⊥) → (with_version v u us w).tasks p.0 p.1 ≡ w.tasks p.0 p.1
    task_there p n = by_number (eqb p.0 v) refl
      where
        by_key : p.0 ≡ v → (c : Bool) → eq k p.1 ≡ c → us p.1 ≡ w.tasks v p.1
        by_key e true h = absurd (n (λ j. (sym e j, equality.same k p.1 h j)))
        by_key e false h = puts p.1 ∙ ap (λ b. cond b o (w.tasks v p.1)) h

        by_number : (b : Bool) → eqb p.0 v ≡ b → cond b us (w.tasks p.0) p.1 ≡ w.tasks p.0 p.1
        by_number true e = let i = eqb-true p.0 v e in by_key i (eq k p.1) refl ∙ ap (λ z. w.tasks z p.1) (sym i)
        by_number false e = refl

    -- what is counted follows
    pub desk_turns : (d e : Desk K) → DeskTurns v k (w.tasks v k) o d e → AreAll (λ (p : ℕ × K). is_ready (w.tasks p.0 p.1)) d.ready → IsCount (λ (p : ℕ × K). is_out (w.tasks p.0 p.1)) d.out → IsCount (λ (p : ℕ × K). is_going (w.tasks p.0 p.1)) d.live
        → AreAll (λ (p : ℕ × K). is_ready ((with_version v u us w).tasks p.0 p.1)) e.ready × IsCount (λ (p : ℕ × K). is_out ((with_version v u us w).tasks p.0 p.1)) e.out × IsCount (λ (p : ℕ × K). is_going ((with_version v u us w).tasks p.0 p.1)) e.live
    desk_turns d e t r c l = (
      list_turns _ _ (v, k) (λ p n. ap is_ready (task_there p n)) (pair_test eq equality v k) (is_ready (w.tasks v k)) (is_ready o) refl (ap is_ready task_here) d.ready e.ready t.ready r,
      count_turns _ _ (v, k) (λ p n. ap is_out (task_there p n)) (pair_test eq equality v k) (is_out (w.tasks v k)) (is_out o) refl (ap is_out task_here) d.out e.out t.out c,
      count_turns _ _ (v, k) (λ p n. ap is_going (task_there p n)) (pair_test eq equality v k) (is_going (w.tasks v k)) (is_going o) refl (ap is_going task_here) d.live e.live t.live l,
    )

    -- the call goes on: version v stands over the new journal, all other versions rest over it, and the desk followed
    pub goes_on : (m : Meaning K V) (R R2 : List (Told K V)) (W W2 : List K) (d e : Desk K) (owed owed2 : ℕ) → Stand eq m R v W w d owed → IsLawfulBack eq m R2 → VersionStands eq m R2 v W2 u us
        → ((n : ℕ) → eqb n v ≡ false → IsAtRest eq m R n (w.asked n) (w.tasks n) → IsAtRest eq m R2 n (w.asked n) (w.tasks n)) → DeskTurns v k (w.tasks v k) o d e → 2 * e.live + owed2 ≤ e.spare
        → Stand eq m R2 v W2 (with_version v u us w) e owed2
    goes_on m R R2 W W2 d e owed owed2 s l h rest t room =
        let c = desk_turns d e t s.ready s.out s.live in record {
          lawful = l;
          here = rw (eq-eqb v v refl) h;
          there = λ n f. rw f (rest n f (s.there n f));
          ready = c.0;
          out = c.1;
          live = c.2;
          room = room;
        }

  -- a version that is put in twice is put in once
  pub with_twice : (v : ℕ) (s u : Asked K) (ts us : K → Option (Task K V)) (w : World K V) → with_version v u us (with_version v s ts w) ≡ with_version v u us w
  with_twice v s u ts us w = λ i. record { asked = λ n. asked_twice n i; tasks = λ n. tasks_twice n i }
    where
      asked_twice : (n : ℕ) → cond (eqb n v) u (cond (eqb n v) s (w.asked n)) ≡ cond (eqb n v) u (w.asked n)
      asked_twice n = elim (eqb n v) as (λ b. cond b u (cond b s (w.asked n)) ≡ cond b u (w.asked n)) [ true ↦ refl | false ↦ refl ]

      tasks_twice : (n : ℕ) → cond (eqb n v) us (cond (eqb n v) ts (w.tasks n)) ≡ cond (eqb n v) us (w.tasks n)
      tasks_twice n = elim (eqb n v) as (λ b. cond b us (cond b ts (w.tasks n)) ≡ cond b us (w.tasks n)) [ true ↦ refl | false ↦ refl ]

  -- the same, from one set of tasks of v to the next
  pub steps_on : (v : ℕ) (k : K) (o : Option (Task K V)) (w : World K V) (s u : Asked K) (ts us : K → Option (Task K V)) → Puts eq k o ts us
      → (m : Meaning K V) (R R2 : List (Told K V)) (W W2 : List K) (d e : Desk K) (owed owed2 : ℕ) → Stand eq m R v W (with_version v s ts w) d owed → IsLawfulBack eq m R2 → VersionStands eq m R2 v W2 u us
      → ((n : ℕ) (a : Asked K) (bs : K → Option (Task K V)) → eqb n v ≡ false → IsAtRest eq m R n a bs → IsAtRest eq m R2 n a bs) → DeskTurns v k (ts k) o d e → 2 * e.live + owed2 ≤ e.spare
      → Stand eq m R2 v W2 (with_version v u us w) e owed2
  steps_on v k o w s u ts us puts m R R2 W W2 d e owed owed2 st l h rest t room =
      let x = with_version v s ts w in
      let same : x.tasks v ≡ ts = ap (λ b. cond b ts (w.tasks v)) (eq-eqb v v refl) in
      let p : Puts eq k o (x.tasks v) us = subst (λ (f : K → Option (Task K V)). Puts eq k o f us) (sym same) puts in
      let q : DeskTurns v k (x.tasks v k) o d e = subst (λ (f : K → Option (Task K V)). DeskTurns v k (f k) o d e) (sym same) t in
      subst (λ y. Stand eq m R2 v W2 y e owed2) (with_twice v s u ts us w) (goes_on v k o x u us p m R R2 W W2 d e owed owed2 st l h (λ n f i. rest n (x.asked n) (x.tasks n) f i) q room)

  -- what stands of the version that is worked on
  pub stands_here : (m : Meaning K V) (R : List (Told K V)) (v : ℕ) (W : List K) (s : Asked K) (ts : K → Option (Task K V)) (w : World K V) (d : Desk K) (owed : ℕ) → Stand eq m R v W (with_version v s ts w) d owed → VersionStands eq m R v W s ts
  stands_here m R v W s ts w d owed st =
      let e = eq-eqb v v refl in
      let f : (with_version v s ts w).asked v ≡ s = ap (λ b. cond b s (w.asked v)) e in
      let g : (with_version v s ts w).tasks v ≡ ts = ap (λ b. cond b ts (w.tasks v)) e in
      subst (λ z. VersionStands eq m R v W s z) g (subst (λ z. VersionStands eq m R v W z ((with_version v s ts w).tasks v)) f st.here)
