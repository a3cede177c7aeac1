-- Jobs that are alike, and whose answers are the values at their version, are one.
use Rattle.std.proofs.Common.{◌≡◌, ◌≤◌, ◌∙◌, ℕ, Bool, List, [], ◌∷◌, ◌++◌, length, refl, sym, ap, subst, length-append, arith}
use Rattle.std.specs.List.{AllZip}
use Rattle.dice_key.specs.Meaning.{Meaning, Answered, Asks, Ends}
use Rattle.dice_model.specs.Eval.{HasValue}
use Rattle.dice_model.specs.Asks.{Goes, IsTrace, AllTrue}
use Rattle.dice_model.proofs.EvalLaws.{one_value}
use Rattle.dice_model.proofs.Traces.{one_trace}
use Rattle.dice_model.proofs.Stable.{goes_stable, true_stable}
use Rattle.dice_jobs.specs.Jobs.{Name, Work, Computes, Checks, Assigned}
use Rattle.dice_jobs.specs.Truths.{Follows}
use Rattle.dice_jobs.specs.Alike.{WorksAlike, AreAlike, AreTrulyAnswered, AnsweredTruly, IsAnsweredIn}

-- if R gives each key one value, it gives these keys one row
one_row : {K V : Type 0} (R : K → V → Type 0) → ((k : K) (x y : V) → R k x → R k y → x ≡ y) → (ks : List K) (xs ys : List V) → AllZip R ks xs → AllZip R ks ys → xs ≡ ys
one_row R f [] [] [] p q = refl
one_row R f [] [] (y ∷ ys) p q = absurd q
one_row R f [] (x ∷ xs) ys p q = absurd p
one_row R f (k ∷ ks) [] ys p q = absurd p
one_row R f (k ∷ ks) (x ∷ xs) [] p q = absurd q
one_row R f (k ∷ ks) (x ∷ xs) (y ∷ ys) p q =
    let a : x ≡ y = f k x y p.0 q.0 in
    let b : xs ≡ ys = one_row R f ks xs ys p.1 q.1 in
    λ i. a i ∷ b i

module _ {K V : Type 0} where
  work_itself : (W : Work K V) → WorksAlike W W
  work_itself Computes = tt
  work_itself (Checks x T b) = refl

  pub alike_itself : (a : Assigned K V) → AreAlike a a
  alike_itself a = record { name = refl; work = work_itself a.work; answered = refl }

module _ {K V : Type 0} (eq : K → K → Bool) (m : Meaning K V) (C : List (List (K × V))) where
  -- a key is answered so many batches in one way
  one_course : (v : ℕ) (k : K) (before A B : List (Answered K V)) → length A ≡ length B → Goes eq m C v k before A → Goes eq m C v k before B → A ≡ B
  one_course v k before [] [] n g h = refl
  one_course v k before [] (b ∷ B) n g h = absurd (omega arith)
  one_course v k before (a ∷ A) [] n g h = absurd (omega arith)
  one_course v k before (a ∷ A) (b ∷ B) n g h =
      let p : Asks a.keys ≡ Asks b.keys = sym g.0 ∙ h.0 in
      let q : a.keys ≡ b.keys = cc in
      let z : a.values ≡ b.values = one_row (HasValue eq m C v) (one_value eq m C v) b.keys a.values b.values (subst (λ ks. AllZip (HasValue eq m C v) ks a.values) q g.1) h.1 in
      let s : a ≡ b = λ i. record { keys = q i; values = z i } in
      let l : length A ≡ length B = omega arith in
      let r : A ≡ B = one_course v k (before ++ b ∷ []) A B l (subst (λ c. Goes eq m C v k (before ++ c ∷ []) A) s g.2) h.2 in
      λ i. s i ∷ r i

  -- so many batches of one trace are answered in one way
  one_check : (v : ℕ) (T A B : List (Answered K V)) → length A ≡ length B → Follows T A → Follows T B → AllTrue (HasValue eq m C v) A → AllTrue (HasValue eq m C v) B → A ≡ B
  one_check v T [] [] n f g p q = refl
  one_check v T [] (b ∷ B) n f g p q = absurd (omega arith)
  one_check v T (a ∷ A) [] n f g p q = absurd (omega arith)
  one_check v [] (a ∷ A) (b ∷ B) n f g p q = absurd f
  one_check v (t ∷ T) (a ∷ A) (b ∷ B) n f g p q =
      let k : a.keys ≡ b.keys = f.0 ∙ sym g.0 in
      let z : a.values ≡ b.values = one_row (HasValue eq m C v) (one_value eq m C v) b.keys a.values b.values (subst (λ ks. AllZip (HasValue eq m C v) ks a.values) k p.0) q.0 in
      let l : length A ≡ length B = omega arith in
      let r : A ≡ B = one_check v T A B l f.1 g.1 p.1 q.1 in
      λ i. record { keys = k i; values = z i } ∷ r i

  -- a key comes to one value by one trace
  one_end : (b : ℕ) (k : K) (T S : List (Answered K V)) (x y : V) → T ≡ S → IsTrace eq m C b k T x → IsTrace eq m C b k S y → x ≡ y
  one_end b k T S x y e p q = let h : Ends x ≡ Ends y = sym p.ends ∙ (ap (λ D. m.next k D b) e ∙ q.ends) in cc

  same_job : (n : Name K) (W X : Work K V) (A B : List (Answered K V)) → WorksAlike W X → length A ≡ length B → AreTrulyAnswered eq m C n.version n.key W A → AreTrulyAnswered eq m C n.version n.key X B
      → ◌≡◌ {A = Assigned K V} (record { name = n; answered = A; work = W }) (record { name = n; answered = B; work = X })
  same_job n Computes Computes A B w l g h = let r = one_course n.version n.key [] A B l g h in λ i. record { name = n; answered = r i; work = Computes }
  same_job n Computes (Checks y S c) A B w l g h = absurd w
  same_job n (Checks x T b) Computes A B w l g h = absurd w
  same_job n (Checks x T b) (Checks y S c) A B w l g h =
      let g' : IsTrace eq m C c n.key T x = subst (λ d. IsTrace eq m C d n.key T x) w g.1 in
      let t : T ≡ S = one_trace eq m C c n.key T S x y g' h.1 in
      let v : x ≡ y = one_end c n.key T S x y t g' h.1 in
      let r : A ≡ B = one_check n.version S A B l (subst (λ D. Follows D A) t g.2) h.2 g.3 h.3 in
      λ i. record { name = n; answered = r i; work = Checks (v i) (t i) (w i) }

  pub one_job : (a b : Assigned K V) → AreAlike a b → AnsweredTruly eq m C a → AnsweredTruly eq m C b → a ≡ b
  one_job a b l g h =
      let w : AreTrulyAnswered eq m C a.name.version a.name.key b.work b.answered = subst (λ (n : Name K). AreTrulyAnswered eq m C n.version n.key b.work b.answered) (sym l.name) h in
      same_job a.name a.work b.work a.answered b.answered l.work l.answered g w ∙ (λ i. record { name = l.name i; answered = b.answered; work = b.work })

  truly_longer : (D : List (List (K × V))) (v : ℕ) (k : K) (W : Work K V) (A : List (Answered K V)) → v ≤ length C → AreTrulyAnswered eq m C v k W A → AreTrulyAnswered eq m (C ++ D) v k W A
  truly_longer D v k Computes A l g = goes_stable eq m C D v l k [] A g
  truly_longer D v k (Checks x T b) A l g = (
    (let e = length-append C D in let i = g.0 in omega arith),
    record { computed = g.1.computed; goes = goes_stable eq m C D b g.0 k [] T g.1.goes; ends = g.1.ends },
    g.2,
    true_stable eq m C D v l A g.3,
  )

  pub answered_longer : (D : List (List (K × V))) (a : Assigned K V) → IsAnsweredIn eq m C a → IsAnsweredIn eq m (C ++ D) a
  answered_longer D a h =
      let l = length-append C D in
      let w = h.within in
      record { within = omega arith; truly = truly_longer D a.name.version a.name.key a.work a.answered h.within h.truly }
