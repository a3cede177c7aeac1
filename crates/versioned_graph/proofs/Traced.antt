-- By which finishes the traces of the entries were written.
use Rattle.std.proofs.Common.{◌≡◌, ◌⊎◌, inl, inr, ℕ, Bool, true, false, not, cond, ◌&&◌, ◌||◌, nat_le, List, [], ◌∷◌, ◌++◌, Option, Some, None, refl, sym, ◌∙◌, subst, arith}
use Rattle.std.specs.Option.{option_map}
use Rattle.std.proofs.lemmas.Bool.{and_parts, cases_Bool}
use Rattle.std.proofs.lemmas.Option.{none-some, same_Some}
use Rattle.dice_key.specs.Meaning.{Meaning}
use Rattle.dice_key.specs.Lawful.{AreSame}
use Rattle.dice_model.specs.Asks.{IsTrace}
use Rattle.versioned_graph.specs.Entries.{Kept, Stored, entry_at, seen_at, cut_at, written, writes_trace, writers_with}
use Rattle.versioned_graph.specs.Edges.{is_edge, CommitReaches, leads, IsCut}
use Rattle.versioned_graph.specs.Sound.{IsTracedAt, AreTrue, AreTracedAt}
use Rattle.versioned_graph.proofs.CutLemmas.{cut_from}
use Rattle.versioned_graph.proofs.Tails.{trace_stable}

module _ {K V : Type 0} (eq : K → K → Bool) (same_keys : AreSame eq) (m : Meaning K V) (C : List (List (K × V))) where
  -- what stands after a finish that made n: the trace is n's if the finish writes it
  written_traced : (veq : V → V → Bool) → AreSame veq → (k : K) (u : ℕ) (o : Option (Kept K V)) (n : Kept K V) → ((e : Kept K V) → o ≡ Some e → IsTracedAt eq m C u k e) → IsTrace eq m C n.version k n.trace n.value
      → IsTracedAt eq m C (cond (writes_trace o n.version) n.version u) k (written m veq o n)
  written_traced veq same k u None n p t = (omega arith, t)
  written_traced veq same k u (Some e) n p t = by_tests (veq e.value n.value && not (m.is_transient e.value)) (nat_le e.version n.version) (λ h. same e.value n.value (and_parts (veq e.value n.value) _ h).0)
    where
      by_tests : (a b : Bool) → (a ≡ true → e.value ≡ n.value)
          → IsTracedAt eq m C (cond b n.version u) k (cond a (record { value = e.value; trace = cond b n.trace e.trace; ranges = λ w. e.ranges w || n.ranges w; version = cond b n.version e.version }) (cond b n e))
      by_tests true true s = (omega arith, subst (IsTrace eq m C n.version k n.trace) (sym (s refl)) t)
      by_tests true false s = p e refl
      by_tests false true s = (omega arith, t)
      by_tests false false s = p e refl

  -- after a finish of k
  pub finish_traced : (veq : V → V → Bool) → AreSame veq → (k : K) (n : Kept K V) (es fs : List (K × Stored K V)) (w : K → ℕ) → ((q : K) → entry_at eq fs q ≡ cond (eq k q) (Some (written m veq (entry_at eq es k) n)) (entry_at eq es q))
      → IsTrace eq m C n.version k n.trace n.value → AreTracedAt eq m C w es → AreTracedAt eq m C (writers_with eq k (writes_trace (entry_at eq es k) n.version) n.version w) fs
  finish_traced veq same k n es fs w up t h q e p = by_test (eq k q) refl (sym (up q) ∙ p)
    where
      writes : Bool
      writes = writes_trace (entry_at eq es k) n.version

      by_test : (b : Bool) → eq k q ≡ b → cond b (Some (written m veq (entry_at eq es k) n)) (entry_at eq es q) ≡ Some e → IsTracedAt eq m C (cond (b && writes) n.version (w q)) q e
      by_test true c i = subst (λ j. IsTracedAt eq m C (cond writes n.version (w j)) j e) (same_keys k q c)
          (subst (IsTracedAt eq m C (cond writes n.version (w k)) k) (same_Some _ _ i) (written_traced veq same k (w k) (entry_at eq es k) n (λ f j. h k f j) t))
      by_test false c i = h q e i

  -- after an entry was seen
  pub seen_traced : (k : K) (v : ℕ) (es fs : List (K × Stored K V)) (w : K → ℕ) → ((q : K) → entry_at eq fs q ≡ cond (eq k q) (option_map (seen_at v) (entry_at eq es k)) (entry_at eq es q)) → AreTracedAt eq m C w es → AreTracedAt eq m C w fs
  seen_traced k v es fs w up h q e p = by_test (eq k q) refl (sym (up q) ∙ p)
    where
      by_entry : (o : Option (Kept K V)) → entry_at eq es k ≡ o → option_map (seen_at v) o ≡ Some e → IsTracedAt eq m C (w k) k e
      by_entry None j i = absurd (none-some e i)
      by_entry (Some f) j i = subst (IsTracedAt eq m C (w k) k) (same_Some (seen_at v f) e i) (let l = h k f j in (let a = l.0 in omega arith, l.1))

      by_test : (b : Bool) → eq k q ≡ b → cond b (option_map (seen_at v) (entry_at eq es k)) (entry_at eq es q) ≡ Some e → IsTracedAt eq m C (w q) q e
      by_test true c i = subst (λ j. IsTracedAt eq m C (w j) j e) (same_keys k q c) (by_entry (entry_at eq es k) refl i)
      by_test false c i = h q e i

-- after a commit
module _ {K V : Type 0} (eq : K → K → Bool) (es fs : List (K × Stored K V)) (changed : List K) (v : ℕ) (h : IsCut eq es changed v fs) where
  pub cut_traced : (m : Meaning K V) (C : List (List (K × V))) (c : List (K × V)) (w : K → ℕ) → AreTrue eq m C es → AreTracedAt eq m C w es → AreTracedAt eq m (C ++ c ∷ []) w fs
  cut_traced m C c w true_ones t k e p = elim from.2 as (λ _. IsTracedAt eq m (C ++ c ∷ []) (w k) k e) [
    | inl i ↦ subst (IsTracedAt eq m (C ++ c ∷ []) (w k) k) (sym i) (was.0, longer)
    | inr i ↦ subst (IsTracedAt eq m (C ++ c ∷ []) (w k) k) (sym i) (was.0, longer)
  ]
    where
      from : (f : Kept K V) × (entry_at eq es k ≡ Some f) × ((e ≡ f) ⊎ (e ≡ cut_at v f))
      from = cut_from eq es fs changed v h k e p

      was : IsTracedAt eq m C (w k) k from.0
      was = t k from.0 from.1

      longer : IsTrace eq m (C ++ c ∷ []) (w k) k from.0.trace from.0.value
      longer = let a = was.0 in let b = (true_ones k from.0 from.1).0.within in trace_stable eq m C c k (w k) from.0.trace from.0.value (omega arith) was.1

  -- no edge is left from a key that was reached: whatever used it was reached too
  pub none_from_reached : (j q : K) → CommitReaches eq es changed j → is_edge eq fs j q ≡ false
  none_from_reached j q r = elim (h.decided q) as (λ _. is_edge eq fs j q ≡ false) [
    | inl i ↦ h.taken j q i
    | inr n ↦ h.left j q n ∙ elim (cases_Bool (is_edge eq es j q)) as (λ _. is_edge eq es j q ≡ false) [ inl t ↦ absurd (n (leads r t)) | inr f ↦ f ]
  ]
