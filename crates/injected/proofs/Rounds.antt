-- The sets round a version up to which a value stays.
use Rattle.std.proofs.Common.{◌≡◌, ◌≤◌, ◌<◌, ◌-◌, ◌⊎◌, ℕ, zero, suc, Bool, true, false, cond, leb, List, [], ◌∷◌, length, get_or, Option, Some, None, refl, ap, sym, ◌∙◌, subst, inl, inr, arith}
use Rattle.std.proofs.lemmas.Bool.{cases_lt, cases_Bool, le-leb, lt-leb}
use Rattle.version_ranges.specs.declared.half_open.Range.{Range}
use Rattle.version_ranges.specs.Members.{is_in}
use Rattle.injected.specs.History.{value_at, IsRising}
use Rattle.std.specs.Prelude.{nat_eq}
use Rattle.std.specs.Option.{option_eq}
use Rattle.std.proofs.lemmas.List.{get_or-map, length-map}
use Rattle.injected.specs.Numbers.{tests, names, AreBegun}
use Rattle.version_ranges.specs.Rounds.{all_between}
use Rattle.version_ranges.proofs.Ends.{in_from}
use Rattle.version_ranges.proofs.Rounds.{between_up, from_between, there, longer, in_to, is_open_in, is_closed_in, not_both, round_is}
use Rattle.injected.specs.Rounds.{stays}
use Rattle.injected.proofs.Histories.{value_here, value_before}
use Rattle.injected.proofs.Numbered.{rising_tests}

-- sets rise from place to place
pub first_below : {V : Type 0} (s : ℕ × V) (ss : List (ℕ × V)) (j : ℕ) (d : ℕ × V) → IsRising (s ∷ ss) → j < length ss → s.0 < (get_or ss j d).0
first_below s [] j d r l = absurd (omega arith)
first_below s (t ∷ ts) zero d r l = r.0
first_below s (t ∷ ts) (suc j) d r l = let n = first_below t ts j d r.1 (omega arith) in let m = r.0 in omega arith

pub rising_at : {V : Type 0} (h : List (ℕ × V)) (i j : ℕ) (d : ℕ × V) → IsRising h → i < j → j < length h → (get_or h i d).0 < (get_or h j d).0
rising_at [] i j d r l m = absurd (omega arith)
rising_at (s ∷ ss) zero zero d r l m = absurd (omega arith)
rising_at (s ∷ ss) zero (suc j) d r l m = first_below s ss j d r (omega arith)
rising_at (s ∷ ss) (suc i) zero d r l m = absurd (omega arith)
rising_at (s ∷ ss) (suc i) (suc j) d r l m = rising_at ss i j d r.1 (omega arith) (omega arith)

-- sets that say whether the value is the one that is meant
all_true : (b : Bool) → cond b true true ≡ true
all_true true = refl
all_true false = refl

held : (h : List (ℕ × Bool)) (u : ℕ) (d : ℕ × Bool) → ((i : ℕ) → i < length h → ((get_or h i d).1 ≡ true) ⊎ (u < (get_or h i d).0)) → value_at true h u ≡ true
held [] u d g = refl
held (s ∷ ss) u d g =
    ap (λ b. value_at b ss u) (first (g 0 (omega arith))) ∙ held ss u d (λ i l. g (suc i) (omega arith))
  where
    first : ((s.1 ≡ true) ⊎ (u < s.0)) → cond (leb s.0 u) s.1 true ≡ true
    first (inl e) = ap (λ b. cond (leb s.0 u) b true) e ∙ all_true (leb s.0 u)
    first (inr l) = ap (λ c. cond c s.1 true) (lt-leb s.0 u l)

held_from : (h : List (ℕ × Bool)) (b : ℕ) (x : Bool) (u : ℕ) (d : ℕ × Bool) → b < length h → (get_or h b d).0 ≤ u → ((i : ℕ) → b ≤ i → i < length h → ((get_or h i d).1 ≡ true) ⊎ (u < (get_or h i d).0)) → value_at x h u ≡ true
held_from [] b x u d l m g = absurd (omega arith)
held_from (s ∷ ss) zero x u d l m g =
    ap (λ b. value_at b ss u) (first (g 0 (omega arith) (omega arith))) ∙ held ss u d (λ i l. g (suc i) (omega arith) (omega arith))
  where
    first : ((s.1 ≡ true) ⊎ (u < s.0)) → cond (leb s.0 u) s.1 x ≡ true
    first (inl e) = ap (λ c. cond c s.1 x) (le-leb s.0 u m) ∙ e
    first (inr l) = absurd (omega arith)
held_from (s ∷ ss) (suc b) x u d l m g = held_from ss b (cond (leb s.0 u) s.1 x) u d (omega arith) m (λ i p q. g (suc i) (omega arith) (omega arith))

-- of these sets a run says yes: those from the place b on, up to e; the sets at version v or below are the first k, and the run has
-- the last of these
pub record IsRun (first : Bool) (h : List (ℕ × Bool)) (v k b e : ℕ) : Type 0 where
  pub rising : IsRising h
  pub begins : b ≤ k
  pub ends : k ≤ e
  pub within : e ≤ length h
  pub low : (d : ℕ × Bool) → 0 < k → (get_or h (k - 1) d).0 ≤ v
  pub high : (d : ℕ × Bool) → k < length h → v < (get_or h k d).0
  pub none : k ≡ 0 → first ≡ true
  pub last : (d : ℕ × Bool) → 0 < k → (get_or h (k - 1) d).1 ≡ true
  pub run : (i : ℕ) (d : ℕ × Bool) → b ≤ i → i < e → (get_or h i d).1 ≡ true
  pub before : (d : ℕ × Bool) → 0 < b → (get_or h (b - 1) d).1 ≡ false
  pub behind : (d : ℕ × Bool) → e < length h → (get_or h e d).1 ≡ false

-- where a range begins that has the run, and where it ends
abbrev pub BeginsAt : Bool → List (ℕ × Bool) → ℕ → ℕ → Type 0
BeginsAt first h b a = ((b ≡ 0) × (first ≡ true) × (a ≡ 0)) ⊎ ((b ≡ 0 → first ≡ false) × (b < length h) × ((d : ℕ × Bool) → a ≡ (get_or h b d).0))

abbrev pub EndsAt : List (ℕ × Bool) → ℕ → Option ℕ → Type 0
EndsAt h e o = ((e ≡ length h) × (o ≡ None)) ⊎ ((e < length h) × ((d : ℕ × Bool) → o ≡ Some (get_or h e d).0))

module _ (first : Bool) (h : List (ℕ × Bool)) (v k b e : ℕ) (r : IsRun first h v k b e) where
  abbrev pub D : ℕ × Bool
  D = (0, false)

  -- a place of the run, or a set above a version before its end
  run_or_above : (u : ℕ) → (e < length h → u < (get_or h e D).0) → (i : ℕ) → b ≤ i → i < length h → ((get_or h i D).1 ≡ true) ⊎ (u < (get_or h i D).0)
  run_or_above u m i p q = elim (cases_lt i e) as (λ _. ((get_or h i D).1 ≡ true) ⊎ (u < (get_or h i D).0)) [
    | inl l ↦ inl (r.run i D p l)
    | inr l ↦ inr (elim (cases_lt e i) as (λ _. u < (get_or h i D).0) [
      | inl j ↦ (let x = m (omega arith) in let y = rising_at h e i D r.rising j q in omega arith)
      | inr j ↦ (let same : e ≡ i = omega arith in subst (λ n. u < (get_or h n D).0) same (m (omega arith)))
    ])
  ]

  holds_in : (a : ℕ) → BeginsAt first h b a → (u : ℕ) → a ≤ u → (e < length h → u < (get_or h e D).0) → value_at first h u ≡ true
  holds_in a (inl p) u l m = ap (λ x. value_at x h u) p.1 ∙ held h u D (λ i q. run_or_above u m i (omega (arith, p.0)) q)
  holds_in a (inr p) u l m = held_from h b first u D p.1 (subst (λ n. n ≤ u) (p.2 D) l) (run_or_above u m)

  fails_before : (a : ℕ) → BeginsAt first h b a → (u : ℕ) → suc u ≡ a → value_at first h u ≡ false
  fails_before a (inl p) u l = absurd (let z = p.2 in omega arith)
  fails_before a (inr p) u l = elim (cases_lt 0 b) as (λ _. value_at first h u ≡ false) [
    | inl i ↦
        let x = rising_at h (b - 1) b D r.rising (omega arith) p.1 in
        let y = p.2 D in
        value_here first h b u D r.rising i (omega (arith, p.1)) (omega arith) (λ q. omega arith) ∙ r.before D i
    | inr i ↦
        let none : b ≡ 0 = omega arith in
        let y : a ≡ (get_or h 0 D).0 = subst (λ n. a ≡ (get_or h n D).0) none (p.2 D) in
        value_before first h u D r.rising (λ q. omega arith) ∙ p.0 none
  ]

  fails_at : e < length h → value_at first h (get_or h e D).0 ≡ false
  fails_at l =
      let back : suc e - 1 ≡ e = omega arith in
      let there : (get_or h (suc e - 1) D).0 ≤ (get_or h e D).0 = subst (λ n. (get_or h n D).0 ≤ (get_or h e D).0) (sym back) (omega arith) in
      value_here first h (suc e) (get_or h e D).0 D r.rising (omega arith) (omega arith) there (λ q. rising_at h e (suc e) D r.rising (omega arith) q)
      ∙ (ap (λ n. (get_or h n D).1) back ∙ r.behind D l)

  begins_by : (a : ℕ) → BeginsAt first h b a → a ≤ v
  begins_by a (inl p) = omega (arith, p.2)
  begins_by a (inr p) = elim (cases_lt b k) as (λ _. a ≤ v) [
    | inl i ↦ (let x = r.low D (omega arith) in let y = p.2 D in elim (cases_lt b (k - 1)) as (λ _. a ≤ v) [
      | inl j ↦ (let z = rising_at h b (k - 1) D r.rising j (let m = r.ends in let n = r.within in omega arith) in omega arith)
      | inr j ↦ (let same : b ≡ k - 1 = omega arith in let z : a ≡ (get_or h (k - 1) D).0 = subst (λ n. a ≡ (get_or h n D).0) same y in omega arith)
    ])
    | inr i ↦ (let same : b ≡ k = (let m = r.begins in omega arith) in absurd (elim (cases_lt 0 k) as (λ _. ⊥) [
      | inl j ↦ not_both (get_or h (b - 1) D).1 (subst (λ n. (get_or h (n - 1) D).1 ≡ true) (sym same) (r.last D j)) (r.before D (omega arith))
      | inr j ↦ (let none : k ≡ 0 = omega arith in not_both first (r.none none) (p.0 (omega arith)))
    ]))
  ]

  ends_by : e < length h → v < (get_or h e D).0
  ends_by l = elim (cases_lt k e) as (λ _. v < (get_or h e D).0) [
    | inl i ↦ (let x = r.high D (omega arith) in let y = rising_at h k e D r.rising i l in omega arith)
    | inr i ↦ (let same : k ≡ e = (let m = r.ends in omega arith) in subst (λ n. v < (get_or h n D).0) same (r.high D (omega arith)))
  ]

  by_end : (a : ℕ) (o : Option ℕ) → BeginsAt first h b a → EndsAt h e o
      → (is_in record { from = a; to = o } v ≡ true) × ((w : ℕ) → is_in record { from = a; to = o } w ≡ all_between (value_at first h) v w)
  by_end a None s (inl p) =
      let l = begins_by a s in
      let here = is_open_in a v l in
      (here, round_is (value_at first h) a v l (fails_before a s) None here (λ u i. holds_in a s u (in_from record { from = a; to = None } u i) (λ q. absurd (let z = p.0 in omega arith))) (λ t q. absurd (let z : None ≡ Some t = q in cc)))
  by_end a (Some t) s (inl p) = absurd (let z : Some t ≡ None = p.1 in cc)
  by_end a None s (inr p) = absurd (let z : None ≡ Some (get_or h e D).0 = p.1 D in cc)
  by_end a (Some t) s (inr p) =
      let l = begins_by a s in
      let at : t ≡ (get_or h e D).0 = let z : Some t ≡ Some (get_or h e D).0 = p.1 D in cc in
      let here = is_closed_in a t v l (subst (λ n. v < n) (sym at) (ends_by p.0)) in (
        here,
        round_is (value_at first h) a v l (fails_before a s) (Some t) here
            (λ u i. holds_in a s u (in_from record { from = a; to = Some t } u i) (λ q. subst (λ n. u < n) at (in_to a t u i)))
            (λ n q. let same : n ≡ (get_or h e D).0 = (let z : Some t ≡ Some n = q in let y : t ≡ n = cc in sym y ∙ at) in subst (λ x. value_at first h x ≡ false) (sym same) (fails_at p.0)),
      )

  -- the range has the versions up to which the value is the one that is meant, from each that it has
  pub run_round : (q : Range) → BeginsAt first h b q.from → EndsAt h e q.to → (is_in q v ≡ true) × ((w : ℕ) → is_in q w ≡ all_between (value_at first h) v w)
  run_round q s t = by_end q.from q.to s t

-- sets by number whose run of equal numbers was found
module _ (first : Bool) (n : Option ℕ) (ss : List (ℕ × ℕ)) where
  many : length (tests n ss) ≡ length ss
  many = length-map ss (λ (s : ℕ × ℕ). (s.0, option_eq nat_eq n (Some s.1)))

  at_place : (i : ℕ) (d : ℕ × Bool) (c : ℕ × ℕ) → i < length ss → get_or (tests n ss) i d ≡ ((get_or ss i c).0, names n (get_or ss i c))
  at_place i d c l = get_or-map (λ (s : ℕ × ℕ). (s.0, option_eq nat_eq n (Some s.1))) ss i c d l

  version_of : (i : ℕ) (d : ℕ × Bool) (c : ℕ × ℕ) → i < length ss → (get_or (tests n ss) i d).0 ≡ (get_or ss i c).0
  version_of i d c l = ap (λ (s : ℕ × Bool). s.0) (at_place i d c l)

  test_of : (i : ℕ) (d : ℕ × Bool) (c : ℕ × ℕ) (x : Bool) → i < length ss → names n (get_or ss i c) ≡ x → (get_or (tests n ss) i d).1 ≡ x
  test_of i d c x l e = ap (λ (s : ℕ × Bool). s.1) (at_place i d c l) ∙ e

  pub run_of : (v k b e : ℕ) → IsRising ss → AreBegun v ss k → (k ≡ 0 → first ≡ true) → ((d : ℕ × ℕ) → 0 < k → names n (get_or ss (k - 1) d) ≡ true)
      → b ≤ k → ((i : ℕ) (d : ℕ × ℕ) → b ≤ i → i < k → names n (get_or ss i d) ≡ true) → ((d : ℕ × ℕ) → 0 < b → names n (get_or ss (b - 1) d) ≡ false)
      → (k ≤ e) × (e ≤ length ss) → ((i : ℕ) (d : ℕ × ℕ) → k ≤ i → i < e → names n (get_or ss i d) ≡ true) → ((d : ℕ × ℕ) → e < length ss → names n (get_or ss e d) ≡ false)
      → IsRun first (tests n ss) v k b e
  run_of v k b e rises begun none last begins back before ends on behind = record {
    rising = rising_tests n ss rises;
    begins = begins;
    ends = ends.0;
    within = subst (λ m. e ≤ m) (sym many) ends.1;
    low = λ d p. subst (λ m. m ≤ v) (sym (version_of (k - 1) d (0, 0) (let q = begun.bound in omega arith))) (begun.low (0, 0) p);
    high = λ d p. (let l : k < length ss = subst (λ m. k < m) many p in subst (λ m. v < m) (sym (version_of k d (0, 0) l)) (begun.high (0, 0) l));
    none = none;
    last = λ d p. test_of (k - 1) d (0, 0) true (let q = begun.bound in omega arith) (last (0, 0) p);
    run = λ i d p q. elim (cases_lt i k) as (λ _. (get_or (tests n ss) i d).1 ≡ true) [
      | inl l ↦ test_of i d (0, 0) true (let z = ends.1 in omega arith) (back i (0, 0) p l)
      | inr l ↦ test_of i d (0, 0) true (let z = ends.1 in omega arith) (on i (0, 0) l q)
    ];
    before = λ d p. test_of (b - 1) d (0, 0) false (let z = begun.bound in omega arith) (before (0, 0) p);
    behind = λ d p. (let l : e < length ss = subst (λ m. e < m) many p in test_of e d (0, 0) false l (behind (0, 0) l));
  }

  pub begins_there : (k b : ℕ) → k ≤ length ss → (k ≡ 0 → first ≡ true) → ((d : ℕ × ℕ) → 0 < k → names n (get_or ss (k - 1) d) ≡ true) → b ≤ k → ((d : ℕ × ℕ) → 0 < b → names n (get_or ss (b - 1) d) ≡ false)
      → (b ≡ 0 → first ≡ false) → b < length ss
  begins_there k b l none last m before f = elim (cases_lt b k) as (λ _. b < length ss) [
    | inl i ↦ omega arith
    | inr i ↦ (let same : k ≡ b = omega arith in absurd (elim (cases_lt 0 k) as (λ _. ⊥) [
      | inl j ↦ not_both (names n (get_or ss (b - 1) (0, 0))) (subst (λ c. names n (get_or ss (c - 1) (0, 0)) ≡ true) same (last (0, 0) j)) (before (0, 0) (omega arith))
      | inr j ↦ not_both first (none (omega arith)) (f (omega arith))
    ]))
  ]

  pub begins_of : (b a : ℕ) → ((b ≡ 0 → first ≡ false) → b < length ss) → (b ≡ 0 → first ≡ true → a ≡ 0) → ((b ≡ 0 → first ≡ false) → (d : ℕ × ℕ) → a ≡ (get_or ss b d).0) → BeginsAt first (tests n ss) b a
  begins_of b a there at_zero set = elim (cases_Bool first) as (λ _. BeginsAt first (tests n ss) b a) [
    | inl t ↦ elim (cases_lt 0 b) as (λ _. BeginsAt first (tests n ss) b a) [
      | inl i ↦ inr (of_set (λ q. absurd (omega arith)))
      | inr i ↦ (let e : b ≡ 0 = omega arith in inl (e, t, at_zero e t))
    ]
    | inr t ↦ inr (of_set (λ q. t))
  ]
    where
      of_set : (f : b ≡ 0 → first ≡ false) → (b ≡ 0 → first ≡ false) × (b < length (tests n ss)) × ((d : ℕ × Bool) → a ≡ (get_or (tests n ss) b d).0)
      of_set f = (f, subst (λ m. b < m) (sym many) (there f), λ d. set f (0, 0) ∙ sym (version_of b d (0, 0) (there f)))

  pub ends_of : (e : ℕ) (o : Option ℕ) → e ≤ length ss → ((d : ℕ × ℕ) → e < length ss → o ≡ Some (get_or ss e d).0) → (length ss ≤ e → o ≡ None) → EndsAt (tests n ss) e o
  ends_of e o l there none = elim (cases_lt e (length ss)) as (λ _. EndsAt (tests n ss) e o) [
    | inl i ↦ inr (subst (λ m. e < m) (sym many) i, λ d. there (0, 0) i ∙ ap (λ m. Some m) (sym (version_of e d (0, 0) i)))
    | inr i ↦ inl ((let z : e ≡ length ss = omega arith in z ∙ sym many), none i)
  ]

-- a range that has a version ends above where it begins
pub ends_above : (q : Range) (v : ℕ) → is_in q v ≡ true → (t : ℕ) → q.to ≡ Some t → q.from < t
ends_above q v h t e =
    let i : is_in record { from = q.from; to = Some t } v ≡ true = subst (λ o. is_in record { from = q.from; to = o } v ≡ true) e h in
    let l = in_from q v h in
    let m = in_to q.from t v i in
    omega arith

-- if all values are the same, each stays
pub stays_always : {V : Type 0} (eq : V → V → Bool) → ((x : V) → eq x x ≡ true) → (at : ℕ → V) (x : V) → ((u : ℕ) → at u ≡ x) → (v w : ℕ) → stays eq at v w ≡ true
stays_always eq itself at x all v w = from_between (λ u. eq (at u) (at v)) v w (λ u l m. each u) (λ u l m. each u)
  where
    each : (u : ℕ) → eq (at u) (at v) ≡ true
    each u = ap (λ y. eq y (at v)) (all u) ∙ (ap (eq x) (all v) ∙ itself x)

module _ {V : Type 0} (eq : V → V → Bool) (at : ℕ → V) where
  -- a value that stays from v to w is the same at w
  pub stays_there : (v w : ℕ) → stays eq at v w ≡ true → eq (at w) (at v) ≡ true
  stays_there v w h = there (λ u. eq (at u) (at v)) v w h

  -- if from n on all values are that at n, one that stays from v, which is not above n, to above n
  -- stays from v on
  pub stays_longer : (n v w u : ℕ) → v ≤ n → n < w → n ≤ u → ((z : ℕ) → n ≤ z → at z ≡ at n) → stays eq at v w ≡ true → stays eq at v u ≡ true
  stays_longer n v w u hv hw hu same h =
      let f = λ (z : ℕ). eq (at z) (at v) in
      longer f n v w u hv hw hu (λ z l. ap (λ x. eq x (at v)) (same z l) ∙ between_up f v w h n hv (omega arith)) h
