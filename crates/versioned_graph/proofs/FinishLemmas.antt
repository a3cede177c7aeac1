-- `finish` keeps what is kept.
use Rattle.std.proofs.Common.{◌≡◌, ◌≢◌, ◌≤◌, ◌<◌, inl, inr, ℕ, suc, Bool, true, false, not, ◌&&◌, ◌||◌, cond, nat_eq, nat_le, List, [], length, Option, Some, None, refl, sym, ap, ◌∙◌, subst, arith, eqb-true}
use Rattle.std.specs.Prelude.{take}
use Rattle.std.proofs.lemmas.Bool.{leb-true, leb-false, eq-eqb, and_from, and_parts, not-true, or_cases, or_left, or_right}
use Rattle.std.proofs.lemmas.Option.{same_Some}
use Rattle.version_ranges.specs.declared.half_open.Range.{Range}
use Rattle.version_ranges.specs.Members.{contains}
use Rattle.dice_key.specs.Meaning.{Meaning, Answered, Ends}
use Rattle.dice_key.specs.Lawful.{IsLawful, IsEquality, AreSame}
use Rattle.dice_key.specs.declared.universe.Kind.{Kind}
use Rattle.dice_key.specs.declared.universe.Kind.TheVariants.{Injected, Computed, Projection}
use Rattle.dice_model.specs.Log.{last_value_of}
use Rattle.dice_model.specs.Eval.{HasValue}
use Rattle.dice_model.specs.Asks.{IsTrace, Goes, Reaches, here, through}
use Rattle.dice_model.proofs.EvalLaws.{one_value}
use Rattle.dice_model.proofs.Traces.{trace_value, one_trace}
use Rattle.dice_model.proofs.Alike.{same_answers}
use Rattle.versioned_graph.specs.Entries.{Kept, Stored, entry_at, if_injected, all_of, known_by, known, marked, joined, finished, goes_in, written}
use Rattle.versioned_graph.specs.Edges.{is_edge, is_asked, Records}
use Rattle.versioned_graph.specs.Sound.{IsOpenAt, IsTrue, IsRecorded, IsTailed, Edges, AreTrue, Holds}
use Rattle.versioned_graph.proofs.Asked.{asked_in_trace, is_asked_of}
use Rattle.versioned_graph.proofs.Bools.{all_map, HasKey, all_at}
use Rattle.versioned_graph.proofs.MarkLemmas.{marked_trace, marked_true, trace_true}
use Rattle.versioned_graph.proofs.Unbroken.{marked_sooner}
use Rattle.version_ranges.proofs.Rounds.{there, longer}
use Rattle.injected.specs.Rounds.{stays}
use Rattle.injected.proofs.Rounds.{stays_longer}
use Rattle.versioned_graph.proofs.Tails.{more_edges, written_tailed}
use Rattle.std.proofs.lemmas.List.{take_all}

module _ {K V : Type 0} (eq : K → K → Bool) (m : Meaning K V) (law : IsLawful m) (veq : V → V → Bool) (same : AreSame veq) (C : List (List (K × V))) where
  -- at a version that is not below either own one, and that the older one's ranges have, the trace of the newer one is the key's
  trace_moved : (k : K) (e n : Kept K V) → e.value ≡ n.value → IsTrue eq m C k e → IsTrue eq m C k n → e.version ≤ n.version → (w : ℕ) → n.version ≤ w → e.ranges w ≡ true → w ≤ length C → IsTrace eq m C w k n.trace e.value
  trace_moved k e n s p q o w l h i =
      let j : e.ranges n.version ≡ true = p.unbroken n.version w o l h in
      let t : e.trace ≡ n.trace = one_trace eq m C n.version k e.trace n.trace e.value n.value (p.traced n.version o j q.within) (q.traced n.version (omega arith) q.own q.within) in
      subst (λ A. IsTrace eq m C w k A e.value) t (p.traced w (omega arith) h i)

  -- the entry that is written is true, if the new one and the one that was there are
  joined_true : (k : K) (e n : Kept K V) (b : Bool) → nat_le e.version n.version ≡ b → e.value ≡ n.value → m.is_transient e.value ≡ false → IsTrue eq m C k e → IsTrue eq m C k n
      → IsTrue eq m C k (record { value = e.value; trace = cond b n.trace e.trace; ranges = λ w. e.ranges w || n.ranges w; version = cond b n.version e.version })
  joined_true k e n true c s lasts p q = record {
    single = λ t. absurd (let z : true ≡ false = sym t ∙ lasts in cc);
    within = q.within;
    unbroken = λ u w l i h. elim (or_cases (e.ranges w) (n.ranges w) h) as (λ _. (e.ranges u || n.ranges u) ≡ true) [
      | inl j ↦ or_left (e.ranges u) (n.ranges u) (p.unbroken u w (omega (arith, leb-true e.version n.version c)) i j)
      | inr j ↦ or_right (e.ranges u) (n.ranges u) (q.unbroken u w l i j)
    ];
    traced = λ w l h i. elim (or_cases (e.ranges w) (n.ranges w) h) as (λ _. IsTrace eq m C w k n.trace e.value) [
      | inl j ↦ trace_moved k e n s p q (leb-true e.version n.version c) w l j i
      | inr j ↦ subst (IsTrace eq m C w k n.trace) (sym s) (q.traced w l j i)
    ];
    same = subst (HasValue eq m C n.version k) (sym s) q.same;
    own = or_right (e.ranges n.version) (n.ranges n.version) q.own;
    holds = λ w h l. elim (or_cases (e.ranges w) (n.ranges w) h) as (λ _. HasValue eq m C w k e.value) [ inl i ↦ p.holds w i l | inr i ↦ subst (HasValue eq m C w k) (sym s) (q.holds w i l) ];
  }
  joined_true k e n false c s lasts p q = record {
    single = λ t. absurd (let z : true ≡ false = sym t ∙ lasts in cc);
    within = p.within;
    unbroken = λ u w l i h. elim (or_cases (e.ranges w) (n.ranges w) h) as (λ _. (e.ranges u || n.ranges u) ≡ true) [
      | inl j ↦ or_left (e.ranges u) (n.ranges u) (p.unbroken u w l i j)
      | inr j ↦ or_right (e.ranges u) (n.ranges u) (q.unbroken u w (omega (arith, leb-false e.version n.version c)) i j)
    ];
    traced = λ w l h i. elim (or_cases (e.ranges w) (n.ranges w) h) as (λ _. IsTrace eq m C w k e.trace e.value) [
      | inl j ↦ p.traced w l j i
      | inr j ↦ subst (IsTrace eq m C w k e.trace) (sym s) (trace_moved k n e (sym s) q p (omega (arith, leb-false e.version n.version c)) w l j i)
    ];
    same = p.same;
    own = or_left (e.ranges e.version) (n.ranges e.version) p.own;
    holds = λ w h l. elim (or_cases (e.ranges w) (n.ranges w) h) as (λ _. HasValue eq m C w k e.value) [ inl i ↦ p.holds w i l | inr i ↦ subst (HasValue eq m C w k) (sym s) (q.holds w i l) ];
  }

  pub written_true : (k : K) (o : Option (Kept K V)) (n : Kept K V) → ((e : Kept K V) → o ≡ Some e → IsTrue eq m C k e) → IsTrue eq m C k n → IsTrue eq m C k (written m veq o n)
  written_true k None n p q = q
  written_true k (Some e) n p q = by_first (veq e.value n.value && not (m.is_transient e.value)) refl
    where
      by_version : (b : Bool) → IsTrue eq m C k (cond b n e)
      by_version true = q
      by_version false = p e refl

      by_first : (b : Bool) → (veq e.value n.value && not (m.is_transient e.value)) ≡ b → IsTrue eq m C k (cond b (joined m veq e n) (cond (nat_le e.version n.version) n e))
      by_first true h = joined_true k e n (nat_le e.version n.version) refl (same e.value n.value (and_parts (veq e.value n.value) _ h).0) (not-true (m.is_transient e.value) (and_parts (veq e.value n.value) _ h).1) (p e refl) q
      by_first false h = by_version (nat_le e.version n.version)

  module _ (at : ℕ → K → V) (holds : Holds eq m C at) (es : K → Option (Kept K V)) (true_ones : (k : K) (e : Kept K V) → es k ≡ Some e → IsTrue eq m C k e) where
    -- the new entry is true
    pub new_true : (k : K) (v : ℕ) (x : V) (A : List (Answered K V)) → v ≤ length C → IsTrace eq m C v k A x → IsTrue eq m C k (finished m veq at es v x A)
    new_true k v x A h t = record {
      own = or_left (nat_eq v v) (not (m.is_transient x) && all_of (known m veq at es v v) A) (eq-eqb v v refl);
      single = λ tr w i. elim (or_cases (nat_eq w v) _ i) as (λ _. w ≡ v) [ inl p ↦ eqb-true w v p | inr q ↦ absurd (let z = not-true (m.is_transient x) (and_parts (not (m.is_transient x)) (all_of (known m veq at es v w) A) q).0 in let y : true ≡ false = sym tr ∙ z in cc) ];
      within = h;
      unbroken = λ u w l n i. marked_sooner m veq at es v w u l n x A i;
      traced = λ w _ i l. marked_trace eq m law veq same C at holds es true_ones v h k x A t w i l;
      same = trace_value eq m C v law k A x t.computed t.goes t.ends;
      holds = λ w i l. marked_true eq m law veq same C at holds es true_ones v h k x A t w i l;
    }

module _ {K V : Type 0} (eq : K → K → Bool) (m : Meaning K V) (law : IsLawful m) (veq : V → V → Bool) (same : AreSame veq) (C : List (List (K × V))) (at : ℕ → K → V) (holds : Holds eq m C at) (es : K → Option (Kept K V))
    (true_ones : (k : K) (e : Kept K V) → es k ≡ Some e → IsTrue eq m C k e) (Edge : K → K → Type 0) (tailed_ones : (k : K) (e : Kept K V) → es k ≡ Some e → IsTailed eq m C (length C) Edge k e) where
  -- what is known above the newest version is known from the newest on
  known_tail : (v w u : ℕ) → v ≤ length C → length C < w → length C ≤ u → (d : K) → known m veq at es v w d ≡ true → known m veq at es v u d ≡ true
  known_tail v w u hv hw hu d e = by_kinds (m.kind d) e
    where
      by_entry : (o : Option (Kept K V)) → es d ≡ o → known_by o v w ≡ true → known_by o v u ≡ true
      by_entry None p q = q
      by_entry (Some f) p q = longer f.ranges (length C) v w u hv hw hu ((tailed_ones d f p).tail w (there f.ranges v w q) hw) q

      by_kinds : (kd : Kind) → if_injected kd (stays veq (λ z. at z d) v w) (known_by (es d) v w) ≡ true → if_injected kd (stays veq (λ z. at z d) v u) (known_by (es d) v u) ≡ true
      by_kinds Injected q = stays_longer veq (λ z. at z d) (length C) v w u hv hw hu settled q
        where
          settled : (z : ℕ) → length C ≤ z → at z d ≡ at (length C) d
          settled z h =
              let s : take z C ≡ take (length C) C = take_all z C h ∙ sym (take_all (length C) C (omega arith)) in
              holds z d ∙ (ap (last_value_of (eq d) (m.absent d)) s ∙ sym (holds (length C) d))
      by_kinds Computed q = by_entry (es d) refl q
      by_kinds Projection q = by_entry (es d) refl q

  -- a dependency that is not injected and is known above the newest version has an open entry
  known_entry : (v w : ℕ) → length C < w → (d : K) → m.kind d ≢ Injected → known m veq at es v w d ≡ true → (f : Kept K V) × (es d ≡ Some f) × IsOpenAt (length C) f.ranges
  known_entry v w hw d c e = by_kinds (m.kind d) refl e
    where
      by_entry : (o : Option (Kept K V)) → es d ≡ o → known_by o v w ≡ true → (f : Kept K V) × (es d ≡ Some f) × IsOpenAt (length C) f.ranges
      by_entry None p q = absurd (let z : false ≡ true = q in cc)
      by_entry (Some f) p q = (f, p, (tailed_ones d f p).tail w (there f.ranges v w q) hw)

      by_kinds : (kd : Kind) → m.kind d ≡ kd → if_injected kd (stays veq (λ z. at z d) v w) (known_by (es d) v w) ≡ true → (f : Kept K V) × (es d ≡ Some f) × IsOpenAt (length C) f.ranges
      by_kinds Injected p q = absurd (c p)
      by_kinds Computed p q = by_entry (es d) refl q
      by_kinds Projection p q = by_entry (es d) refl q

  above : (v w : ℕ) (x : V) (A : List (Answered K V)) → v ≤ length C → length C < w → marked m veq at es v x A w ≡ true → (m.is_transient x ≡ false) × (all_of (known m veq at es v w) A ≡ true)
  above v w x A hv hw e = elim (or_cases (nat_eq w v) _ e) as (λ _. (m.is_transient x ≡ false) × (all_of (known m veq at es v w) A ≡ true)) [
    | inl p ↦ absurd (let z = eqb-true w v p in omega arith)
    | inr q ↦ (let b = and_parts (not (m.is_transient x)) (all_of (known m veq at es v w) A) q in (not-true (m.is_transient x) b.0, b.1))
  ]

  -- the new entry's tail, with its edges recorded
  new_tailed : (k : K) (v : ℕ) (x : V) (A : List (Answered K V)) → v ≤ length C → IsTrace eq m C v k A x
      → (More : K → K → Type 0) → ((i j : K) → Edge i j → More i j) → (IsOpenAt (length C) (marked m veq at es v x A) → (j : K) → HasKey A j → More j k)
      → IsTailed eq m C (length C) More k (finished m veq at es v x A)
  new_tailed k v x A hv t More more adds = record {
    tail = λ w h l u i. (let b = above v w x A hv l h in
        or_right (nat_eq u v) _ (let s : not (m.is_transient x) ≡ true = rw b.0 refl in rw s (all_map (known m veq at es v w) (known m veq at es v u) A (known_tail v w u hv l i) b.1)));
    recorded = λ o. at_newest o (above v (suc (length C)) x A hv (omega arith) (o (suc (length C)) (omega arith)));
  }
    where
      N : ℕ
      N = length C

      at_newest : IsOpenAt N (marked m veq at es v x A) → (m.is_transient x ≡ false) × (all_of (known m veq at es v (suc N)) A ≡ true) → (d : K) → Reaches eq m C N k d → m.kind d ≢ Injected → IsRecorded eq m C (length C) More d
      at_newest o b d r c =
          let known_now = all_map (known m veq at es v (suc N)) (known m veq at es v N) A (known_tail v (suc N) N hv (omega arith) (omega arith)) b.1 in
          let now = same_answers eq m law C C v N k A x t.computed t.goes t.ends b.0 (trace_true eq m law veq same C at holds es true_ones v N hv (omega arith) k [] A t.goes known_now) in
          by_chain now r c
        where
          by_chain : Goes eq m C N k [] A × (m.next k A N ≡ Ends x) × HasValue eq m C N k x → {d : K} → Reaches eq m C N k d → m.kind d ≢ Injected → IsRecorded eq m C (length C) More d
          by_chain now here c = record {
            lasts = λ y i. subst (λ z. m.is_transient z ≡ false) (one_value eq m C N k x y now.2 i) b.0;
            edges = λ j a. adds o j (asked_in_trace eq m C N k j x A now.0 now.1 a);
          }
          by_chain now (through {i = i} a q) c = by_kinds (m.kind i) refl q c
            where
              of_entry : m.kind i ≢ Injected → {d : K} → Reaches eq m C N i d → m.kind d ≢ Injected → IsRecorded eq m C (length C) More d
              of_entry ci q c =
                  let y = all_at (known m veq at es v (suc N)) A i b.1 (asked_in_trace eq m C N k i x A now.0 now.1 a) in
                  let f = known_entry v (suc N) (omega arith) i ci y in
                  let g = (tailed_ones i f.0 f.1).recorded f.2 _ q c in
                  record { lasts = g.lasts; edges = λ j s. more j _ (g.edges j s) }

              of_injected : m.kind i ≡ Injected → {d : K} → Reaches eq m C N i d → m.kind d ≢ Injected → IsRecorded eq m C (length C) More d
              of_injected p here c = absurd (c p)
              of_injected p (through a q) c = absurd (a.computed p)

              by_kinds : (kd : Kind) → m.kind i ≡ kd → {d : K} → Reaches eq m C N i d → m.kind d ≢ Injected → IsRecorded eq m C (length C) More d
              by_kinds Injected p q c = of_injected p q c
              by_kinds Computed p q c = of_entry (λ h. let z : Computed ≡ Injected = sym p ∙ h in cc) q c
              by_kinds Projection p q c = of_entry (λ h. let z : Projection ≡ Injected = sym p ∙ h in cc) q c

module _ {K V : Type 0} (eq : K → K → Bool) (equality : IsEquality eq) (m : Meaning K V) (law : IsLawful m) (veq : V → V → Bool) (same : AreSame veq) (C : List (List (K × V))) (at : ℕ → K → V) (holds : Holds eq m C at)
    (es fs : List (K × Stored K V)) (true_ones : AreTrue eq m C es) (k : K) (v : ℕ) (x : V) (A : List (Answered K V)) (within : v ≤ length C) (trace : IsTrace eq m C v k A x) where
  abbrev pub n : Kept K V
  n = finished m veq at (entry_at eq es) v x A

  finished_true : IsTrue eq m C k n
  finished_true = new_true eq m law veq same C at holds (entry_at eq es) (λ j e h. (true_ones j e h).0) k v x A within trace

  module _ (records : Records eq m veq k n es fs) where
    -- no edge is taken away
    edges_on : (i j : K) → Edges eq m es i j → Edges eq m fs i j
    edges_on i j h = records.edges i j ∙ or_left (is_edge eq es i j) (eq k j && (goes_in m veq (entry_at eq es k) n && (records.opened && is_asked eq A i))) h

    -- if the new entry goes in and is open, there is an edge from each key of its trace
    edges_new : goes_in m veq (entry_at eq es k) n ≡ true → IsOpenAt (length C) n.ranges → (j : K) → HasKey A j → Edges eq m fs j k
    edges_new g o j h =
        let i : records.opened ≡ true = records.is_open.1 (length C, o) in
        records.edges j k ∙ or_right (is_edge eq es j k) (eq k k && (goes_in m veq (entry_at eq es k) n && (records.opened && is_asked eq A j)))
        (and_from (eq k k) _ (equality.itself k) (and_from (goes_in m veq (entry_at eq es k) n) _ g (and_from records.opened (is_asked eq A j) i (is_asked_of eq equality A j h))))

    finished_tailed : goes_in m veq (entry_at eq es k) n ≡ true → IsTailed eq m C (length C) (Edges eq m fs) k n
    finished_tailed g = new_tailed eq m law veq same C at holds (entry_at eq es) (λ j e h. (true_ones j e h).0) (Edges eq m es) (λ j e h. (true_ones j e h).1) k v x A within trace (Edges eq m fs) edges_on (edges_new g)

    pub others_tailed : (q : K) (e : Kept K V) → entry_at eq es q ≡ Some e → IsTrue eq m C q e × IsTailed eq m C (length C) (Edges eq m fs) q e
    others_tailed q e h = (let t = true_ones q e h in (t.0, more_edges eq m C (length C) e (Edges eq m es) (Edges eq m fs) q edges_on t.1))

    -- what stands after a finish is true
    pub finish_true : (e : Kept K V) → Some (written m veq (entry_at eq es k) n) ≡ Some e → IsTrue eq m C k e × IsTailed eq m C (length C) (Edges eq m fs) k e
    finish_true e h = subst (λ z. IsTrue eq m C k z × IsTailed eq m C (length C) (Edges eq m fs) k z) (same_Some _ _ h) (
      written_true eq m law veq same C k (entry_at eq es k) n (λ f p. (true_ones k f p).0) finished_true,
      written_tailed eq m C (length C) veq k (entry_at eq es k) n (Edges eq m fs) (λ f p. (others_tailed k f p).1) finished_tailed,
    )

-- the entry that is made, as it is stored
pub made : {K V : Type 0} (m : Meaning K V) (veq : V → V → Bool) (at : ℕ → K → V) (es : K → Option (Kept K V)) (v : ℕ) (r : List Range) (x y : V) (A B : List (Answered K V)) → y ≡ x → B ≡ A
    → ((w : ℕ) → contains r w ≡ marked m veq at es v y B w) → ◌≡◌ {A = Kept K V} (record { value = x; trace = A; ranges = contains r; version = v }) (finished m veq at es v x A)
made {K} {V} m veq at es v r x y A B p q h = λ i. record { value = x; trace = A; ranges = λ w. (h w ∙ (λ j. marked m veq at es v (p j) (q j) w)) i; version = v }
