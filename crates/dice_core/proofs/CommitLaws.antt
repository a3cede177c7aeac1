-- What a commit keeps, and that its event is allowed.
use Rattle.std.proofs.Common.{◌≡◌, ◌≢◌, ◌<◌, ◌+◌, inl, inr, ℕ, suc, Bool, true, false, not, cond, List, [], ◌∷◌, ◌++◌, length, reverse, filter, refl, sym, ap, ◌∙◌, subst, arith, append-nil}
use Rattle.std.specs.List.{AllByRecursion}
use Rattle.std.specs.Map.{lookup, keys_of}
use Rattle.std.proofs.lemmas.List.{reverse-append, length-append}
use Rattle.dice_key.specs.Meaning.{Meaning}
use Rattle.dice_key.specs.Lawful.{IsEquality}
use Rattle.dice_key.specs.declared.universe.Kind.TheVariants.{Injected}
use Rattle.dice_model.specs.Log.{IsCommit, input}
use Rattle.injected.specs.Seen.{Seen, sets_at, newest_at}
use Rattle.injected.specs.Inputs.{set_if}
use Rattle.injected.proofs.LogLemmas.{log_more, log_newest}
use Rattle.journal.specs.declared.event.Told.{Told}
use Rattle.journal.specs.declared.event.Told.TheVariants.{Commit}
use Rattle.journal.specs.Events.{commits_of, event_of}
use Rattle.journal.specs.Law.{IsAllowed, IsLawfulBack, IsLawfulJournal}
use Rattle.dice_core.specs.Commits.{AreSettable, differs, differing_of, SameSets, AreSet, Commits, CommitsEntries}
use Rattle.versioned_graph.specs.Entries.{Stored}
use Rattle.versioned_graph.specs.Edges.{IsCut}
use Rattle.versioned_graph.specs.Sound.{AreTrue}
use Rattle.dice_steps.specs.Cells.{CellsStand}
use Rattle.dice_core.proofs.CommitLemmas.{all_mapped}
use Rattle.lists.specs.Lists.{AreDistinct, Has}

-- ---- filters

module _ {X : Type 0} (test : X → Bool) where
  all_left : (P : X → Type 0) (xs : List X) → AllByRecursion P xs → AllByRecursion P (filter test xs)
  all_left P [] a = tt
  all_left P (x ∷ xs) a = by_test (test x) (all_left P xs a.1)
    where
      by_test : (b : Bool) → AllByRecursion P (filter test xs) → AllByRecursion P (cond b (x ∷ filter test xs) (filter test xs))
      by_test true r = (a.0, r)
      by_test false r = r

  all_pass : (xs : List X) → AllByRecursion (λ x. test x ≡ true) (filter test xs)
  all_pass [] = tt
  all_pass (x ∷ xs) = by_test (test x) refl (all_pass xs)
    where
      by_test : (b : Bool) → test x ≡ b → AllByRecursion (λ x. test x ≡ true) (filter test xs) → AllByRecursion (λ x. test x ≡ true) (cond b (x ∷ filter test xs) (filter test xs))
      by_test true e r = (e, r)
      by_test false e r = r

module _ {K V : Type 0} (test : K × V → Bool) where
  has_left : (c : List (K × V)) (k : K) → Has (keys_of (filter test c)) k → Has (keys_of c) k
  has_left [] k h = h
  has_left (p ∷ c) k h = by_test (has_left c k) (test p) h
    where
      by_test : (Has (keys_of (filter test c)) k → Has (keys_of c) k) → (b : Bool) → Has (keys_of (cond b (p ∷ filter test c) (filter test c))) k → Has (keys_of (p ∷ c)) k
      by_test again true (inl e) = inl e
      by_test again true (inr q) = inr (again q)
      by_test again false q = inr (again q)

  pub distinct_left : (c : List (K × V)) → AreDistinct (keys_of c) → AreDistinct (keys_of (filter test c))
  distinct_left [] d = tt
  distinct_left (p ∷ c) d = by_test (test p) (distinct_left c d.1)
    where
      by_test : (b : Bool) → AreDistinct (keys_of (filter test c)) → AreDistinct (keys_of (cond b (p ∷ filter test c) (filter test c)))
      by_test true r = ((λ h. d.0 (has_left c p.0 h)), r)
      by_test false r = r

  injected_pairs : (m : Meaning K V) (c : List (K × V)) → AllByRecursion (λ k. m.kind k ≡ Injected) (keys_of c) → AllByRecursion (λ (p : K × V). m.kind p.0 ≡ Injected) c
  injected_pairs m [] a = tt
  injected_pairs m (p ∷ c) a = (a.0, injected_pairs m c a.1)

  -- injected and distinct keys of which some are left are a commit
  pub commit_left : (m : Meaning K V) (c : List (K × V)) → AreSettable m (keys_of c) → 0 < length (filter test c) → IsCommit m (filter test c)
  commit_left m c s n = record {
    some = n;
    injected = all_left test (λ (p : K × V). m.kind p.0 ≡ Injected) c (injected_pairs m c s.injected);
    distinct = distinct_left c s.distinct;
  }

-- ---- the event

module _ {K V : Type 0} (eq : K → K → Bool) (veq : V → V → Bool) (values : IsEquality veq) (m : Meaning K V) (R : List (Told K V)) (s : Seen K V) (h : CellsStand eq R s) where
  differs_so : (p : K × V) → differs eq veq m s p ≡ true → input eq m (commits_of R) (length (commits_of R)) p.0 ≢ p.1
  differs_so p d e =
      let n : newest_at eq m s p.0 ≡ p.1 = log_newest eq m (commits_of R) s h.are p.0 ∙ e in
      let t : veq (newest_at eq m s p.0) p.1 ≡ true = ap (λ x. veq x p.1) n ∙ values.itself p.1 in
      let f : false ≡ true = sym (ap not t) ∙ d in
      cc

  -- the event of the changes that differ may come next
  pub commit_allowed : (by : ℕ) (c : List (K × V)) → AreSettable m (keys_of c) → AllByRecursion (IsAllowed eq m R) (event_of by (differing_of eq veq m s c))
  commit_allowed by c a = by_changes (differing_of eq veq m s c) (commit_left (differs eq veq m s) m c a) (all_mapped (λ p. differs eq veq m s p ≡ true) (λ (p : K × V). input eq m (commits_of R) (length (commits_of R)) p.0 ≢ p.1) differs_so (differing_of eq veq m s c) (all_pass (differs eq veq m s) c))
    where
      by_changes : (d : List (K × V)) → (0 < length d → IsCommit m d) → AllByRecursion (λ (p : K × V). input eq m (commits_of R) (length (commits_of R)) p.0 ≢ p.1) d → AllByRecursion (IsAllowed eq m R) (event_of by d)
      by_changes [] f o = tt
      by_changes (p ∷ d) f o = ((f (omega arith), o), tt)

-- ---- what is written

module _ {K V : Type 0} (eq : K → K → Bool) where
  -- the changes that differ were set at the next version, and their event was appended
  pub committed : (by : ℕ) (c d : List (K × V)) (s r t : Seen K V) (J H I : List (Told K V)) (v : ℕ) → 0 < length c → d ≡ c → v ≡ s.last + 1
      → SameSets eq s r → AreSet eq v d r t → t.last ≡ v → H ≡ J → I ≡ H ++ Commit by c ∷ [] → Commits eq by c s t J I
  committed by [] d s r t J H I v n e f same sets l g h = absurd (omega arith)
  committed by (p ∷ c) d s r t J H I v n e f same sets l g h =
      let w : v ≡ suc s.last = omega arith in record {
        events = h ∙ ap (λ z. z ++ Commit by (p ∷ c) ∷ []) g;
        last = l ∙ f;
        sets = λ k. sets k ∙ (ap (λ ss. ss ++ set_if v (lookup (eq k) d)) (same k)
            ∙ (ap (λ q. sets_at eq s k ++ set_if v (lookup (eq k) q)) e ∙ ap (λ i. sets_at eq s k ++ set_if i (lookup (eq k) (p ∷ c))) w));
      }

-- ---- what is kept

-- the journal backwards, with the event of a commit
backwards : {K V : Type 0} (J : List (Told K V)) (e : Told K V) → reverse (J ++ e ∷ []) ≡ e ∷ reverse J
backwards J e = reverse-append J (e ∷ [])

module _ {K V : Type 0} (eq : K → K → Bool) where
  sets_same : (c : List (K × V)) (s t : Seen K V) (J : List (Told K V)) → c ≡ [] → AreSet eq (suc s.last) c s t → t.last ≡ s.last + 0 → CellsStand eq (reverse J) s → CellsStand eq (reverse J) t
  sets_same c s t J e sets last h = record {
    are = λ k. sets k ∙ (ap (λ d. sets_at eq s k ++ set_if (suc s.last) (lookup (eq k) d)) e ∙ (append-nil (sets_at eq s k) ∙ h.are k));
    newest = omega (arith, h.newest);
  }

  -- the cells stand after a commit
  pub commit_kept : (by : ℕ) (c : List (K × V)) (s t : Seen K V) (J I : List (Told K V)) → Commits eq by c s t J I → CellsStand eq (reverse J) s → CellsStand eq (reverse I) t
  commit_kept by [] s t J I w h = subst (λ R. CellsStand eq (reverse R) t) (sym (w.events ∙ append-nil J)) (sets_same [] s t J refl w.sets w.last h)
  commit_kept by (p ∷ c) s t J I w h =
      let C = commits_of (reverse J) in
      let e : reverse I ≡ Commit by (p ∷ c) ∷ reverse J = ap reverse w.events ∙ backwards J (Commit by (p ∷ c)) in
      let n : length (C ++ (p ∷ c) ∷ []) ≡ length C + 1 = length-append C ((p ∷ c) ∷ []) in
      let stands : CellsStand eq (Commit by (p ∷ c) ∷ reverse J) t = record {
        are = log_more eq C (p ∷ c) s t h.are (λ k. w.sets k ∙ ap (λ i. sets_at eq s k ++ set_if (suc i) (lookup (eq k) (p ∷ c))) h.newest);
        newest = omega (arith, n, h.newest, w.last);
      } in
      subst (λ R. CellsStand eq R t) (sym e) stands

module _ {K V : Type 0} (eq : K → K → Bool) (m : Meaning K V) where
  -- a journal with an allowed event of a commit is lawful
  pub commit_lawful : (by : ℕ) (c : List (K × V)) (J I : List (Told K V)) → I ≡ J ++ event_of by c → AllByRecursion (IsAllowed eq m (reverse J)) (event_of by c) → IsLawfulJournal eq m J → IsLawfulJournal eq m I
  commit_lawful by [] J I e a l = subst (IsLawfulJournal eq m) (sym (e ∙ append-nil J)) l
  commit_lawful by (p ∷ c) J I e a l = subst (IsLawfulBack eq m) (sym (ap reverse e ∙ backwards J (Commit by (p ∷ c)))) (a.0, l)

module _ {K V : Type 0} (eq : K → K → Bool) (m : Meaning K V) where
  -- if there are changes, the entries are cut
  pub cuts_entries : (c : List (K × V)) (v : ℕ) (es fs : List (K × Stored K V)) → 0 < length c
      → IsCut eq es (keys_of c) v fs × ((C : List (List (K × V))) (d : List (K × V)) → v ≡ suc (length C) → ((k : K) → Has (keys_of d) k → Has (keys_of c) k) → AreTrue eq m C es → AreTrue eq m (C ++ d ∷ []) fs)
      → CommitsEntries eq m c v es fs
  cuts_entries [] v es fs some h = absurd (omega arith)
  cuts_entries (p ∷ c) v es fs some h = record { cut = h.0; kept = λ C n t. h.1 C (p ∷ c) n (λ k i. i) t }

  -- without any they stay
  pub keeps_entries : (c : List (K × V)) (v : ℕ) (es : List (K × Stored K V)) → c ≡ [] → CommitsEntries eq m c v es es
  keeps_entries [] v es e = refl
  keeps_entries (p ∷ c) v es e = cc
