-- What is written over an entry, and what a commit cuts, keeps the tails.
use Rattle.std.proofs.Common.{◌≡◌, ◌≢◌, ◌≤◌, ◌<◌, ◌⊎◌, inl, inr, ℕ, suc, Bool, true, false, not, ◌&&◌, ◌||◌, cond, nat_le, nat_lt, List, [], ◌∷◌, ◌++◌, length, Option, Some, None, refl, sym, ◌∙◌, subst, arith, length-append}
use Rattle.std.proofs.lemmas.Bool.{lt-ltb, cases_lt, and_from, and_parts, cases_Bool, or_cases, or_left, or_right}
use Rattle.std.proofs.Common.{ltb-true}
use Rattle.dice_key.specs.Meaning.{Meaning, Answered}
use Rattle.dice_key.specs.Lawful.{IsLawful}
use Rattle.dice_key.specs.declared.universe.Kind.TheVariants.{Injected}
use Rattle.dice_model.specs.Log.{input}
use Rattle.dice_model.specs.Eval.{HasValue}
use Rattle.dice_model.specs.Asks.{AsksFor, Reaches, here, through, IsTrace}
use Rattle.dice_model.proofs.EvalLaws.{one_value}
use Rattle.dice_model.proofs.Stable.{value_stable, goes_stable}
use Rattle.dice_model.proofs.Alike.{same_answers, alike, asks_back, reaches_back, reached_valued}
use Rattle.dice_model.proofs.Traces.{trace_asks}
use Rattle.versioned_graph.specs.Entries.{Kept, joined, written, goes_in, cut_at}
use Rattle.versioned_graph.specs.Sound.{IsOpenAt, IsTrue, IsTailed, IsRecorded}

module _ {K V : Type 0} (eq : K → K → Bool) (m : Meaning K V) (C : List (List (K × V))) (v : ℕ) where
  -- if two ranges are joined, one of them is open
  either_open : (e n : Kept K V) (Edge : K → K → Type 0) (k : K) (r : ℕ → Bool) → IsTailed eq m C v Edge k e → IsTailed eq m C v Edge k n → ((w : ℕ) → r w ≡ (e.ranges w || n.ranges w))
      → (w : ℕ) → r w ≡ true → v < w → IsOpenAt v e.ranges ⊎ IsOpenAt v n.ranges
  either_open e n Edge k r p q s w h l = elim (or_cases (e.ranges w) (n.ranges w) (sym (s w) ∙ h)) as (λ _. IsOpenAt v e.ranges ⊎ IsOpenAt v n.ranges) [ inl i ↦ inl (p.tail w i l) | inr i ↦ inr (q.tail w i l) ]

  joined_tailed : (e n f : Kept K V) (Edge : K → K → Type 0) (k : K) → IsTailed eq m C v Edge k e → IsTailed eq m C v Edge k n → ((w : ℕ) → f.ranges w ≡ (e.ranges w || n.ranges w)) → IsTailed eq m C v Edge k f
  joined_tailed e n f Edge k p q s = record {
    tail = λ w h l. elim (either_open e n Edge k f.ranges p q s w h l) as (λ _. IsOpenAt v f.ranges) [
      | inl o ↦ (λ u i. s u ∙ or_left (e.ranges u) (n.ranges u) (o u i))
      | inr o ↦ (λ u i. s u ∙ or_right (e.ranges u) (n.ranges u) (o u i))
    ];
    recorded = λ o. elim (either_open e n Edge k f.ranges p q s (suc v) (o (suc v) (omega arith)) (omega arith)) as (λ _. (d : K) → Reaches eq m C v k d → m.kind d ≢ Injected → IsRecorded eq m C v Edge d) [ inl i ↦ p.recorded i | inr i ↦ q.recorded i ];
  }

  -- with more edges
  pub more_edges : (e : Kept K V) (Edge More : K → K → Type 0) (k : K) → ((i j : K) → Edge i j → More i j) → IsTailed eq m C v Edge k e → IsTailed eq m C v More k e
  more_edges e Edge More k f p = record { tail = p.tail; recorded = λ o d r c. (let g = p.recorded o d r c in record { lasts = g.lasts; edges = λ j a. f j d (g.edges j a) }) }

  -- what stands after a finish has made n
  pub written_tailed : (veq : V → V → Bool) (k : K) (o : Option (Kept K V)) (n : Kept K V) (Edge : K → K → Type 0) → ((e : Kept K V) → o ≡ Some e → IsTailed eq m C v Edge k e) → (goes_in m veq o n ≡ true → IsTailed eq m C v Edge k n) → IsTailed eq m C v Edge k (written m veq o n)
  written_tailed veq k None n Edge p q = q refl
  written_tailed veq k (Some e) n Edge p q = by_tests (veq e.value n.value && not (m.is_transient e.value)) (nat_le e.version n.version) q
    where
      by_tests : (a b : Bool) → ((a || b) ≡ true → IsTailed eq m C v Edge k n) → IsTailed eq m C v Edge k (cond a (joined m veq e n) (cond b n e))
      by_tests true b r = joined_tailed e n (joined m veq e n) Edge k (p e refl) (r refl) (λ w. refl)
      by_tests false true r = r refl
      by_tests false false r = p e refl

-- a trace stays one in a longer log
pub trace_stable : {K V : Type 0} (eq : K → K → Bool) (m : Meaning K V) (C : List (List (K × V))) (c : List (K × V)) (k : K) (v : ℕ) (A : List (Answered K V)) (x : V) → v ≤ length C → IsTrace eq m C v k A x → IsTrace eq m (C ++ c ∷ []) v k A x
trace_stable eq m C c k v A x within t = record {
  computed = t.computed;
  goes = goes_stable eq m C (c ∷ []) v within k [] A t.goes;
  ends = t.ends;
}

module _ {K V : Type 0} (eq : K → K → Bool) (m : Meaning K V) (C : List (List (K × V))) (c : List (K × V)) (k : K) (e : Kept K V) (is_true : IsTrue eq m C k e) where
  abbrev pub N : ℕ
  N = length C

  abbrev pub D : List (List (K × V))
  D = C ++ c ∷ []

  pub longer : length D ≡ suc N
  longer = let h = length-append C (c ∷ []) in omega arith

  still_traced : (w : ℕ) → e.version ≤ w → e.ranges w ≡ true → w ≤ N → IsTrace eq m D w k e.trace e.value
  still_traced w l h i = trace_stable eq m C c k w e.trace e.value i (is_true.traced w l h i)

  -- an entry whose tail is cut
  pub cut_true : IsTrue eq m D k (cut_at (suc N) e)
  cut_true = let in_log = is_true.within in let l = longer in record {
    within = omega arith;
    unbroken = λ u w l n i. (let b = and_parts (e.ranges w) (nat_lt w (suc N)) i in let h = ltb-true w (suc N) b.1 in
        and_from (e.ranges u) (nat_lt u (suc N)) (is_true.unbroken u w l n b.0) (lt-ltb u (suc N) (omega arith)));
    traced = λ w l i _. (let b = and_parts (e.ranges w) (nat_lt w (suc N)) i in let h = ltb-true w (suc N) b.1 in still_traced w l b.0 (omega arith));
    same = value_stable eq m C (c ∷ []) e.version in_log k e.value is_true.same;
    own = and_from (e.ranges e.version) (nat_lt e.version (suc N)) is_true.own (lt-ltb e.version (suc N) (omega arith));
    single = λ t w i. is_true.single t w (and_parts (e.ranges w) (nat_lt w (suc N)) i).0;
    holds = λ w i _. (let b = and_parts (e.ranges w) (nat_lt w (suc N)) i in let h = ltb-true w (suc N) b.1 in
        value_stable eq m C (c ∷ []) w (omega arith) k e.value (is_true.holds w b.0 (omega arith)));
  }

  pub cut_tailed : (Edge : K → K → Type 0) → IsTailed eq m D (suc N) Edge k (cut_at (suc N) e)
  cut_tailed Edge = record {
    tail = λ w i l. absurd (let h = ltb-true w (suc N) (and_parts (e.ranges w) (nat_lt w (suc N)) i).1 in omega arith);
    recorded = λ o. absurd (let h = ltb-true (suc N) (suc N) (and_parts (e.ranges (suc N)) (nat_lt (suc N) (suc N)) (o (suc N) (omega arith))).1 in omega arith);
  }

  module _ (law : IsLawful m) (Edge : K → K → Type 0) (R : K → Bool)
      (closed : (i j : K) → Edge i j → R i ≡ true → R j ≡ true)
      (inputs : (d : K) → m.kind d ≡ Injected → R d ≡ false → input eq m D (suc N) d ≡ input eq m C N d)
      (tailed : IsTailed eq m C N Edge k e) (not_reached : R k ≡ false) where
    -- the edges that are left: none to a key that was reached
    abbrev pub Left : K → K → Type 0
    Left i j = Edge i j × (R j ≡ false)

    reaches_on : (a b d : K) → Reaches eq m C N a b → AsksFor eq m C N b d → Reaches eq m C N a d
    reaches_on a b d here q = through q here
    reaches_on a b d (through p r) q = through p (reaches_on _ b d r q)

    -- if the reached keys of an open entry are recorded, one that the commit reaches leads to the
    -- key itself
    chain_back : (a d : K) → Reaches eq m C N a d → ((b : K) → Reaches eq m C N a b → m.kind b ≢ Injected → IsRecorded eq m C N Edge b) → R d ≡ true → R a ≡ true
    chain_back a d here f h = h
    chain_back a d (through {i = i} p r) f h = closed i a ((f a here p.computed).edges i p) (chain_back i d r (λ b s t. f b (through p s) t) h)

    module _ (o : IsOpenAt N e.ranges) where
      abbrev pub S : K → Type 0
      S d = Reaches eq m C N k d

      now : HasValue eq m C N k e.value
      now = is_true.holds N (o N (omega arith)) (omega arith)

      unreached : (d : K) → S d → R d ≡ false
      unreached d s = elim (cases_Bool (R d)) as (λ _. R d ≡ false) [
        | inl t ↦ absurd (let h = chain_back k d s (tailed.recorded o) t in let z : true ≡ false = sym h ∙ not_reached in cc)
        | inr f ↦ f
      ]

      s_closed : (a b : K) → S a → AsksFor eq m C N a b → S b
      s_closed a b s q = reaches_on k a b s q

      s_valued : (a : K) → S a → (x : V) × HasValue eq m C N a x
      s_valued a s = reached_valued eq m law C N now.depth k a e.value s now.gives

      s_inputs : (a : K) → S a → m.kind a ≡ Injected → input eq m D (suc N) a ≡ input eq m C N a
      s_inputs a s p = inputs a p (unreached a s)

      s_lasting : (a : K) (x : V) → S a → m.kind a ≢ Injected → HasValue eq m C N a x → m.is_transient x ≡ false
      s_lasting a x s p i = (tailed.recorded o a s p).lasts x i

      stays : (a : K) (x : V) → S a → HasValue eq m C N a x → HasValue eq m D (suc N) a x
      stays a x s i = alike eq m law C D N (suc N) S s_closed s_valued s_inputs s_lasting i.depth a x s i.gives

      -- the trace of the key at the newest version stays too
      trace_stays : IsTrace eq m C N k e.trace e.value → IsTrace eq m D (suc N) k e.trace e.value
      trace_stays t =
          let all = trace_asks eq m C N law (HasValue eq m D (suc N)) k t.computed [] e.trace tt t.goes (λ j y a i. stays j y (s_closed k j here a) i) in
          let s = same_answers eq m law C D N (suc N) k e.trace e.value t.computed t.goes t.ends (s_lasting k e.value here t.computed now) all in
          record { computed = t.computed; goes = s.0; ends = s.1 }

      still_recorded : (d : K) → Reaches eq m D (suc N) k d → m.kind d ≢ Injected → IsRecorded eq m D (suc N) Left d
      still_recorded d r p =
          let b = reaches_back eq m law C D N (suc N) S s_closed s_valued s_inputs s_lasting k d here r in
          let g = tailed.recorded o d b.0 p in
          record {
            lasts = λ x i. (let y = s_valued d b.1 in subst (λ z. m.is_transient z ≡ false) (one_value eq m D (suc N) d y.0 x (stays d y.0 b.1 y.1) i) (g.lasts y.0 y.1));
            edges = λ j a. (g.edges j (asks_back eq m law C D N (suc N) S s_closed s_valued s_inputs s_lasting d j b.1 a), unreached d b.1);
          }

    -- an entry that the commit does not reach
    pub left_true : IsTrue eq m D k e
    left_true = let in_log = is_true.within in let l = longer in record {
      within = omega arith;
      unbroken = is_true.unbroken;
      traced = λ w n i h. trace_by_place w n i (elim (cases_lt w (suc N)) as (λ _. (w ≤ N) ⊎ (w ≡ suc N)) [ inl t ↦ inl (omega arith) | inr t ↦ inr (omega arith) ]);
      same = value_stable eq m C (c ∷ []) e.version in_log k e.value is_true.same;
      own = is_true.own;
      single = is_true.single;
      holds = λ w i h. by_place w i (elim (cases_lt w (suc N)) as (λ _. (w ≤ N) ⊎ (w ≡ suc N)) [ inl t ↦ inl (omega arith) | inr t ↦ inr (omega arith) ]);
    }
      where
        by_place : (w : ℕ) → e.ranges w ≡ true → (w ≤ N) ⊎ (w ≡ suc N) → HasValue eq m D w k e.value
        by_place w i (inl h) = value_stable eq m C (c ∷ []) w h k e.value (is_true.holds w i h)
        by_place w i (inr h) =
            let o = tailed.tail w i (omega arith) in
            subst (λ n. HasValue eq m D n k e.value) (sym h) (stays o k e.value here (now o))

        trace_by_place : (w : ℕ) → e.version ≤ w → e.ranges w ≡ true → (w ≤ N) ⊎ (w ≡ suc N) → IsTrace eq m D w k e.trace e.value
        trace_by_place w l i (inl h) = still_traced w l i h
        trace_by_place w l i (inr h) =
            let o = tailed.tail w i (omega arith) in
            subst (λ n. IsTrace eq m D n k e.trace e.value) (sym h) (trace_stays o (is_true.traced N is_true.within (o N (omega arith)) (omega arith)))

    pub left_tailed : IsTailed eq m D (suc N) Left k e
    left_tailed = record {
      tail = λ w h l u i. tailed.tail w h (omega arith) u (omega arith);
      recorded = λ o d r p. still_recorded (tailed.tail (suc N) (o (suc N) (omega arith)) (omega arith)) d r p;
    }
