-- What is true of a job's answers stays so, and what its step says is true.
use Rattle.std.proofs.Common.{◌≡◌, ◌≢◌, ◌≤◌, ◌∙◌, ℕ, Bool, List, [], ◌∷◌, ◌++◌, length, refl, sym, ap, subst, append-nil, length-append, arith}
use Rattle.std.specs.List.{AllZip}
use Rattle.dice_key.specs.Meaning.{Meaning, Answered, Step, Asks, Ends}
use Rattle.dice_key.specs.Lawful.{IsLawful}
use Rattle.dice_key.specs.declared.universe.Kind.TheVariants.{Injected}
use Rattle.dice_model.specs.Eval.{HasValue}
use Rattle.dice_model.specs.Asks.{AllTrue, Goes, AsksFor, IsTrace}
use Rattle.dice_model.proofs.Finite.{goes_last}
use Rattle.dice_model.proofs.Stable.{goes_stable, true_stable}
use Rattle.dep_recorder.specs.Checks.{Finding, Wants, IsSame, HasChanged, finding, values_of, IsNextBatch}
use Rattle.dice_jobs.specs.Jobs.{Name, Work, Computes, Checks, Assigned, Outcome, Wanting, Valued, Unchanged, Changed, Stepped, of_move, of_finding, comes, Explains, IsExplained, IsStepOf, AsksThese, answered_more, computing}
use Rattle.dice_jobs.specs.Truths.{Follows, IsEarlier, AreAnswers, IsTrueJob, ChangesFirst}
use Rattle.dice_jobs.proofs.Followed.{same_front, changed_front, follows_next, true_last, true_end, true_front, zip_front, goes_here, asks_here, goes_changed, asks_these}
use Rattle.lists.specs.Lists.{Has}

module _ {K V : Type 0} where
  pub asked : (s : Step K V) (ks : List K) → of_move s ≡ Wanting ks → s ≡ Asks ks
  asked (Asks js) ks e = cc
  asked (Ends x) ks e = cc

  ended : (s : Step K V) (x : V) → of_move s ≡ Valued x → s ≡ Ends x
  ended (Asks js) x e = cc
  ended (Ends y) x e = cc

  no_value : (f : Finding K V) (x : V) → of_finding f ≡ Valued x → ⊥
  no_value (Wants ks) x e = cc
  no_value IsSame x e = cc
  no_value (HasChanged d y z) x e = cc

module _ {K V : Type 0} (eq : K → K → Bool) (m : Meaning K V) (law : IsLawful m) (C : List (List (K × V))) where
  -- the batch that a check wants is the next that the key asks here
  next_goes : (k : K) (v : ℕ) (x : V) (T A : List (Answered K V)) (ks : List K) → IsEarlier eq m C k T x → Follows T A → AllTrue (HasValue eq m C v) A → IsNextBatch T (values_of A) ks → Goes eq m C v k [] A × (m.next k A v ≡ Asks ks)
  next_goes k v x T A ks e f t n =
      let s : A ≡ n.before = same_front n.before (n.batch ∷ n.after) A (subst (λ U. Follows U A) n.trace_is f) n.fed_is in
      let g : Goes eq m C e.version k [] (n.before ++ n.batch ∷ n.after) = subst (λ U. Goes eq m C e.version k [] U) n.trace_is e.traced.goes in
      let h : Goes eq m C v k [] n.before = goes_here eq m law C e.version v k [] n.before (n.batch ∷ n.after) g (subst (λ B. AllTrue (HasValue eq m C v) B) s t) in
      let a : m.next k n.before v ≡ Asks n.batch.keys = asks_here eq m law C e.version v k [] n.before n.after n.batch g in
      (subst (λ B. Goes eq m C v k [] B) (sym s) h, subst (λ B. m.next k B v ≡ Asks n.batch.keys) (sym s) a ∙ ap Asks (sym n.keys_are))

  -- with its answer it follows the trace
  next_follows : (T A : List (Answered K V)) (ks : List K) (xs : List V) → Follows T A → IsNextBatch T (values_of A) ks → Follows T (A ++ record { keys = ks; values = xs } ∷ [])
  next_follows T A ks xs f n =
      let s : A ≡ n.before = same_front n.before (n.batch ∷ n.after) A (subst (λ U. Follows U A) n.trace_is f) n.fed_is in
      let p : Follows T (n.before ++ record { keys = n.batch.keys; values = xs } ∷ []) = subst (λ U. Follows U (n.before ++ record { keys = n.batch.keys; values = xs } ∷ [])) (sym n.trace_is) (follows_next n.before n.after n.batch xs) in
      subst (λ B. Follows T (B ++ record { keys = ks; values = xs } ∷ [])) (sym s) (subst (λ js. Follows T (n.before ++ record { keys = js; values = xs } ∷ [])) (sym n.keys_are) p)

  module _ (veq : V → V → Bool) (n : Name K) where
    -- if keys are wanted, the job's answers are what the key asks, and it asks those keys next
    goes_on : (W : Work K V) (A : List (Answered K V)) (o : Outcome K V) (ks : List K) → AreAnswers eq m C n.key n.version W A → o ≡ comes m veq W n A → IsExplained W A o → o ≡ Wanting ks → Goes eq m C n.version n.key [] A × (m.next n.key A n.version ≡ Asks ks)
    goes_on Computes A o ks a e x w = (a, asked (m.next n.key A n.version) ks (sym e ∙ w))
    goes_on (Checks y T b) A o ks a e x w =
        let h : Explains T (values_of A) (Wanting ks) = subst (λ p. Explains T (values_of A) p) w x in
        next_goes n.key n.version y T A ks a.0 a.1 a.2 h.1

    answered_true : (W : Work K V) (A : List (Answered K V)) (o : Outcome K V) (ks : List K) (xs : List V) → AreAnswers eq m C n.key n.version W A → o ≡ comes m veq W n A → IsExplained W A o → o ≡ Wanting ks → AllZip (HasValue eq m C n.version) ks xs → AreAnswers eq m C n.key n.version W (A ++ record { keys = ks; values = xs } ∷ [])
    answered_true Computes A o ks xs a e x w z = goes_last eq m law C n.version n.key [] A (record { keys = ks; values = xs }) a (asked (m.next n.key A n.version) ks (sym e ∙ w)) z
    answered_true (Checks y T b) A o ks xs a e x w z =
        let h : Explains T (values_of A) (Wanting ks) = subst (λ p. Explains T (values_of A) p) w x in
        (a.0, next_follows T A ks xs a.1 h.1, true_last (HasValue eq m C n.version) A (record { keys = ks; values = xs }) a.2 z)

    valued : (W : Work K V) (A : List (Answered K V)) (o : Outcome K V) (x : V) → m.kind n.key ≢ Injected → AreAnswers eq m C n.key n.version W A → o ≡ comes m veq W n A → o ≡ Valued x → (W ≡ Computes) × IsTrace eq m C n.version n.key A x
    valued Computes A o x c a e w = (refl, record { computed = c; goes = a; ends = ended (m.next n.key A n.version) x (sym e ∙ w) })
    valued (Checks y T b) A o x c a e w = absurd (no_value (finding veq T (values_of A)) x (sym e ∙ w))

    unchanged : (x : V) (T A : List (Answered K V)) → m.kind n.key ≢ Injected → IsEarlier eq m C n.key T x → Follows T A → AllTrue (HasValue eq m C n.version) A → values_of A ≡ values_of T → IsTrace eq m C n.version n.key T x
    unchanged x T A c e f t q =
        let s : A ≡ T = same_front T [] A (subst (λ U. Follows U A) (sym (append-nil T)) f) q in
        let g : Goes eq m C e.version n.key [] (T ++ []) = subst (λ U. Goes eq m C e.version n.key [] U) (sym (append-nil T)) e.traced.goes in
        record {
          computed = c;
          goes = goes_here eq m law C e.version n.version n.key [] T [] g (subst (λ B. AllTrue (HasValue eq m C n.version) B) s t);
          ends = law.ends_alike n.key T e.version n.version x e.traced.ends e.lasts;
        }

    changed : (T A : List (Answered K V)) (d : K) → Follows T A → AllTrue (HasValue eq m C n.version) A → Explains T (values_of A) (Changed d) → ChangesFirst eq m C n.version T d
    changed T A d f t x =
        let R : K → V → Type 0 = HasValue eq m C n.version in
        let c = x.2 in
        let s : A ≡ c.before ++ record { keys = c.batch.keys; values = c.answers } ∷ [] = changed_front c.before c.after A c.batch c.answers (subst (λ U. Follows U A) c.trace_is f) c.fed_is in
        let u : AllTrue (HasValue eq m C n.version) (c.before ++ record { keys = c.batch.keys; values = c.answers } ∷ []) = subst (λ B. AllTrue (HasValue eq m C n.version) B) s t in
        let z : AllZip (HasValue eq m C n.version) c.batch.keys c.answers = true_end (HasValue eq m C n.version) c.before (record { keys = c.batch.keys; values = c.answers }) u in
        let y : AllZip (HasValue eq m C n.version) (c.keys_before ++ d ∷ c.keys_after) (c.same ++ x.1 ∷ c.now_after) =
        subst (λ ys. AllZip (HasValue eq m C n.version) (c.keys_before ++ d ∷ c.keys_after) ys) c.answers_are (subst (λ ks. AllZip (HasValue eq m C n.version) ks c.answers) c.keys_are z) in
        let p = zip_front (HasValue eq m C n.version) c.keys_before c.keys_after c.same c.now_after d x.1 c.counted y in
        record {
          before = c.before;
          batch = c.batch;
          after = c.after;
          trace_is = c.trace_is;
          agreed = true_front (HasValue eq m C n.version) c.before (record { keys = c.batch.keys; values = c.answers } ∷ []) u;
          keys_before = c.keys_before;
          keys_after = c.keys_after;
          values_before = c.same;
          values_after = c.was_after;
          was = x.0;
          now = x.1;
          keys_are = c.keys_are;
          values_are = c.values_are;
          agreed_first = p.0;
          has = p.1;
          other = c.changed;
        }

    -- what a check that found a change was answered, its key asks
    turned : (x : V) (T A : List (Answered K V)) (d : K) → IsEarlier eq m C n.key T x → Follows T A → AllTrue (HasValue eq m C n.version) A → Explains T (values_of A) (Changed d) → Goes eq m C n.version n.key [] A
    turned x T A d e f t h =
        let c = h.2 in
        let s : A ≡ c.before ++ record { keys = c.batch.keys; values = c.answers } ∷ [] = changed_front c.before c.after A c.batch c.answers (subst (λ U. Follows U A) c.trace_is f) c.fed_is in
        subst (λ B. Goes eq m C n.version n.key [] B) (sym s) (goes_changed eq m law C e.version n.version n.key c.before c.after c.batch c.answers (subst (λ U. Goes eq m C e.version n.key [] U) c.trace_is e.traced.goes) (subst (λ B. AllTrue (HasValue eq m C n.version) B) s t))

  module _ (veq : V → V → Bool) (a : Assigned K V) (s : Stepped K V) (j : IsTrueJob eq m C a) (i : IsStepOf m veq s a) where
    pub step_asks : (ks : List K) (k : K) → s.outcome ≡ Wanting ks → Has ks k → AsksFor eq m C a.name.version a.name.key k
    step_asks ks k w h =
        let g = goes_on veq a.name a.work a.answered s.outcome ks j.answers i.outcome i.explained w in
        record { computed = j.computed; before = a.answered; goes = g.0; keys = ks; asks = g.1; among = h }

    pub stays_answered : (ks : List K) (xs : List V) → s.outcome ≡ Wanting ks → AllZip (HasValue eq m C a.name.version) ks xs → IsTrueJob eq m C (answered_more a ks xs)
    stays_answered ks xs w z = record {
      computed = j.computed;
      within = j.within;
      answers = answered_true veq a.name a.work a.answered s.outcome ks xs j.answers i.outcome i.explained w z;
    }

    pub step_value : (x : V) → s.outcome ≡ Valued x → (a.work ≡ Computes) × IsTrace eq m C a.name.version a.name.key a.answered x
    step_value x w = valued veq a.name a.work a.answered s.outcome x j.computed j.answers i.outcome w

    pub step_same : (x : V) (T : List (Answered K V)) (b : ℕ) → a.work ≡ Checks x T b → s.outcome ≡ Unchanged → IsTrace eq m C a.name.version a.name.key T x
    step_same x T b q w =
        let h : AreAnswers eq m C a.name.key a.name.version (Checks x T b) a.answered = subst (λ W. AreAnswers eq m C a.name.key a.name.version W a.answered) q j.answers in
        let e : IsExplained (Checks x T b) a.answered Unchanged = subst (λ W. IsExplained W a.answered Unchanged) q (subst (λ o. IsExplained a.work a.answered o) w i.explained) in
        unchanged veq a.name x T a.answered j.computed h.0 h.1 h.2 e

    pub step_changed : (x : V) (T : List (Answered K V)) (b : ℕ) (d : K) → a.work ≡ Checks x T b → s.outcome ≡ Changed d → ChangesFirst eq m C a.name.version T d
    step_changed x T b d q w =
        let h : AreAnswers eq m C a.name.key a.name.version (Checks x T b) a.answered = subst (λ W. AreAnswers eq m C a.name.key a.name.version W a.answered) q j.answers in
        let e : IsExplained (Checks x T b) a.answered (Changed d) = subst (λ W. IsExplained W a.answered (Changed d)) q (subst (λ o. IsExplained a.work a.answered o) w i.explained) in
        changed veq a.name T a.answered d h.1 h.2 e

    pub stays_turned : (x : V) (T : List (Answered K V)) (b : ℕ) (d : K) → a.work ≡ Checks x T b → s.outcome ≡ Changed d → IsTrueJob eq m C (computing a)
    stays_turned x T b d q w =
        let h : AreAnswers eq m C a.name.key a.name.version (Checks x T b) a.answered = subst (λ W. AreAnswers eq m C a.name.key a.name.version W a.answered) q j.answers in
        let e : IsExplained (Checks x T b) a.answered (Changed d) = subst (λ W. IsExplained W a.answered (Changed d)) q (subst (λ o. IsExplained a.work a.answered o) w i.explained) in
        record { computed = j.computed; within = j.within; answers = turned veq a.name x T a.answered d h.0 h.1 h.2 e }

module _ {K V : Type 0} (eq : K → K → Bool) (m : Meaning K V) (C D : List (List (K × V))) where
  -- a true computation asks the batches that it was answered
  pub true_asks : (a : Assigned K V) → IsTrueJob eq m C a → a.work ≡ Computes → AsksThese m a.name.key a.name.version a.answered
  true_asks a j e = asks_these eq m C a.name.version a.name.key a.answered (subst (λ W. AreAnswers eq m C a.name.key a.name.version W a.answered) e j.answers)

  earlier_stays : (k : K) (T : List (Answered K V)) (x : V) → IsEarlier eq m C k T x → IsEarlier eq m (C ++ D) k T x
  earlier_stays k T x e =
      let l = length-append C D in
      let w = e.within in
      record {
        version = e.version;
        within = omega arith;
        traced = record { computed = e.traced.computed; goes = goes_stable eq m C D e.version e.within k [] T e.traced.goes; ends = e.traced.ends };
        lasts = e.lasts;
      }

  answers_stay : (k : K) (v : ℕ) (W : Work K V) (A : List (Answered K V)) → v ≤ length C → AreAnswers eq m C k v W A → AreAnswers eq m (C ++ D) k v W A
  answers_stay k v Computes A h a = goes_stable eq m C D v h k [] A a
  answers_stay k v (Checks x T b) A h a = (earlier_stays k T x a.0, a.1, true_stable eq m C D v h A a.2)

  pub stays_longer : (a : Assigned K V) → IsTrueJob eq m C a → IsTrueJob eq m (C ++ D) a
  stays_longer a j =
      let l = length-append C D in
      let w = j.within in
      record {
        computed = j.computed;
        within = omega arith;
        answers = answers_stay a.name.key a.name.version a.work a.answered j.within j.answers;
      }
