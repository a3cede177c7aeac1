-- What a look-up finds, and what stays true if one entry is written.
use Rattle.std.proofs.Common.{◌≡◌, ◌≤◌, inl, inr, ◌⊎◌, ℕ, Bool, true, false, cond, max, List, length, Option, Some, refl, ap, sym, ◌∙◌, subst, arith}
use Rattle.std.proofs.lemmas.Bool.{cases_lt}
use Rattle.std.proofs.lemmas.Option.{same_Some}
use Rattle.std.specs.Option.{option_map}
use Rattle.dice_key.specs.Meaning.{Meaning}
use Rattle.dice_key.specs.Lawful.{AreSame}
use Rattle.dice_model.specs.Eval.{HasValue}
use Rattle.versioned_graph.specs.Entries.{Stored, Kept, entry_at, seen_at}
use Rattle.versioned_graph.specs.Edges.{is_edge}
use Rattle.versioned_graph.specs.Looks.{Look, Matches, Computes, Checks, look}
use Rattle.versioned_graph.specs.declared.found.Why.TheVariants.{Transient}
use Rattle.versioned_graph.specs.Sound.{IsTrue, IsTailed, Edges, AreTrue}
use Rattle.versioned_graph.proofs.Tails.{more_edges}

module _ {K V : Type 0} (eq : K → K → Bool) (m : Meaning K V) (C : List (List (K × V))) where
  -- a match is the key's value
  pub matches_value : (es : List (K × Stored K V)) (k : K) (e : Kept K V) (v : ℕ) (x : V) (b : ℕ) → AreTrue eq m C es → entry_at eq es k ≡ Some e → v ≤ length C → look m.is_transient (Some e) v ≡ Matches x b → HasValue eq m C v k x
  matches_value es k e v x b t h l f = by_range (e.ranges v) refl f
    where
      by_transient : (c : Bool) → ◌≡◌ {A = Look K V} (cond c (Computes (Transient e.version)) (Checks e.value e.trace e.version)) (Matches x b) → ⊥
      by_transient true p = cc
      by_transient false p = cc

      by_range : (c : Bool) → e.ranges v ≡ c → cond c (Matches e.value e.version) (cond (m.is_transient e.value) (Computes (Transient e.version)) (Checks e.value e.trace e.version)) ≡ Matches x b → HasValue eq m C v k x
      by_range true r p = let q : e.value ≡ x = cc in subst (HasValue eq m C v k) q ((t k e h).0.holds v r l)
      by_range false r p = absurd (by_transient (m.is_transient e.value) p)

  -- if one entry is written, all are true afterwards if the new one is and the others are
  pub true_with : (same : AreSame eq) (k : K) (o : Option (Kept K V)) (es fs : List (K × Stored K V)) → ((q : K) → entry_at eq fs q ≡ cond (eq k q) o (entry_at eq es q))
      → ((e : Kept K V) → o ≡ Some e → IsTrue eq m C k e × IsTailed eq m C (length C) (Edges eq m fs) k e)
      → ((q : K) (e : Kept K V) → entry_at eq es q ≡ Some e → IsTrue eq m C q e × IsTailed eq m C (length C) (Edges eq m fs) q e)
      → AreTrue eq m C fs
  true_with same k o es fs up t s q e h = by_test (eq k q) refl (sym (up q) ∙ h)
    where
      by_test : (b : Bool) → eq k q ≡ b → cond b o (entry_at eq es q) ≡ Some e → IsTrue eq m C q e × IsTailed eq m C (length C) (Edges eq m fs) q e
      by_test true c p = subst (λ j. IsTrue eq m C j e × IsTailed eq m C (length C) (Edges eq m fs) j e) (same k q c) (t e p)
      by_test false c p = s q e p

  max_either : (a b : ℕ) → (max a b ≡ a) ⊎ ((max a b ≡ b) × (a ≤ b))
  max_either a b = elim (cases_lt a b) as (λ _. (max a b ≡ a) ⊎ ((max a b ≡ b) × (a ≤ b))) [ inl h ↦ inr (omega arith, omega arith) | inr h ↦ inl (omega arith) ]

  -- an entry that matched stays true when it is seen
  pub seen_true : (Edge : K → K → Type 0) (k : K) (e : Kept K V) (v : ℕ) → IsTrue eq m C k e × IsTailed eq m C (length C) Edge k e → e.ranges v ≡ true → v ≤ length C → IsTrue eq m C k (seen_at v e) × IsTailed eq m C (length C) Edge k (seen_at v e)
  seen_true Edge k e v t r l = (by_max (max_either e.version v), record { tail = t.1.tail; recorded = t.1.recorded })
    where
      by_max : (max e.version v ≡ e.version) ⊎ ((max e.version v ≡ v) × (e.version ≤ v)) → IsTrue eq m C k (seen_at v e)
      by_max (inl h) = record {
        within = let b = t.0.within in omega arith;
        unbroken = λ u w n. t.0.unbroken u w (omega arith);
        traced = λ w n. t.0.traced w (omega arith);
        same = subst (λ n. HasValue eq m C n k e.value) (sym h) t.0.same;
        own = subst (λ n. e.ranges n ≡ true) (sym h) t.0.own;
        single = λ s w i. t.0.single s w i ∙ sym h;
        holds = t.0.holds;
      }
      by_max (inr h) = record {
        within = let j = h.0 in omega arith;
        unbroken = λ u w n. t.0.unbroken u w (let i = h.1 in let j = h.0 in omega arith);
        traced = λ w n. t.0.traced w (let i = h.1 in let j = h.0 in omega arith);
        same = subst (λ n. HasValue eq m C n k e.value) (sym h.0) (t.0.holds v r l);
        own = subst (λ n. e.ranges n ≡ true) (sym h.0) r;
        single = λ s w i. t.0.single s w i ∙ (sym (t.0.single s v r) ∙ sym h.0);
        holds = t.0.holds;
      }

  pub one_seen : (same : AreSame eq) (k : K) (e : Kept K V) (v : ℕ) (es fs : List (K × Stored K V)) → ((q : K) → entry_at eq fs q ≡ cond (eq k q) (option_map (seen_at v) (entry_at eq es k)) (entry_at eq es q)) → ((j q : K) → is_edge eq fs j q ≡ is_edge eq es j q)
      → AreTrue eq m C es → v ≤ length C → entry_at eq es k ≡ Some e → e.ranges v ≡ true → AreTrue eq m C fs
  one_seen same k e v es fs up edges t l h r =
      true_with same k (Some (seen_at v e)) es fs (λ q. up q ∙ ap (λ o. cond (eq k q) (option_map (seen_at v) o) (entry_at eq es q)) h)
      (λ f p. subst (λ z. IsTrue eq m C k z × IsTailed eq m C (length C) (Edges eq m fs) k z) (same_Some (seen_at v e) f p) (seen_true (Edges eq m fs) k e v (on k e h) r l)) on
    where
      on : (q : K) (f : Kept K V) → entry_at eq es q ≡ Some f → IsTrue eq m C q f × IsTailed eq m C (length C) (Edges eq m fs) q f
      on q f p = (let i = t q f p in (i.0, more_edges eq m C (length C) f (Edges eq m es) (Edges eq m fs) q (λ j n d. edges j n ∙ d) i.1))
