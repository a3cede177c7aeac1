-- What a look-up says, if the entries stand.
use Rattle.std.proofs.Common.{◌≡◌, ◌≤◌, ◌⊎◌, inl, inr, ℕ, Bool, true, false, cond, ◌||◌, eqb, List, ◌∷◌, length, Option, Some, None, refl, sym, ap, ◌∙◌, subst, arith}
use Rattle.std.proofs.lemmas.Bool.{both_ways, and_right}
use Rattle.dice_key.specs.Meaning.{Meaning, Answered}
use Rattle.dice_model.specs.Eval.{HasValue}
use Rattle.dice_model.specs.Asks.{IsTrace}
use Rattle.journal.specs.declared.event.Told.{Told}
use Rattle.journal.specs.declared.event.Reason.TheVariants.{New, Transient}
use Rattle.journal.specs.declared.event.Told.TheVariants.{Commit, Open, Close, Ask, Leave, Start, Keep, End, Cyclic, Drop, Lost}
use Rattle.journal.specs.declared.event.Reason.{Reason}
use Rattle.journal.specs.Events.{commits_of, is_base}
use Rattle.journal.specs.Law.{IsTrueCause}
use Rattle.versioned_graph.specs.Entries.{Kept, Stored, entry_at}
use Rattle.versioned_graph.specs.Looks.{Look, Matches, Computes, Checks, look}
use Rattle.versioned_graph.specs.declared.found.Why.TheVariants as why
use Rattle.core_laws.specs.Stands.{WasSeen}
use Rattle.dice_tasks.specs.Entries.{LeavesEntries, EntriesStand, IsMatched, LookStands}

module _ {K V : Type 0} (eq : K → K → Bool) (m : Meaning K V) (R : List (Told K V)) (es : List (K × Stored K V)) (h : EntriesStand eq m R es) (k : K) (v : ℕ) where
  -- what is answered of an entry whose ranges do not have the version
  abbrev other_look : Bool → Kept K V → Look K V
  other_look t f = cond t (Computes (why.Transient f.version)) (Checks f.value f.trace f.version)

  -- the value of an entry is that of its key at its version
  value_there : (f : Kept K V) (x : V) (b : ℕ) → entry_at eq es k ≡ Some f → f.value ≡ x → f.version ≡ b → HasValue eq m (commits_of R) b k x
  value_there f x b p d i = subst (λ n. HasValue eq m (commits_of R) n k x) i (subst (HasValue eq m (commits_of R) f.version k) d (h.entries_true k f p).0.same)

  base_there : (f : Kept K V) (b : ℕ) → entry_at eq es k ≡ Some f → f.version ≡ b → is_base eq R b k ≡ true
  base_there f b p i = subst (λ n. is_base eq R n k ≡ true) i (h.backed k f p).base

  -- a look-up that matches
  pub matched : (x : V) (b : ℕ) → v ≤ length (commits_of R) → look m.is_transient (entry_at eq es k) v ≡ Matches x b → IsMatched eq m R es v k x b
  matched x b within e = by_entry (entry_at eq es k) refl e
    where
      by_entry : (o : Option (Kept K V)) → entry_at eq es k ≡ o → look m.is_transient o v ≡ Matches x b → IsMatched eq m R es v k x b
      by_entry None p q = cc
      by_entry (Some f) p q = by_range (f.ranges v) refl q
        where
          no_match : (t : Bool) → other_look t f ≡ Matches x b → ⊥
          no_match true s = cc
          no_match false s = cc

          by_transient : (t : Bool) → m.is_transient f.value ≡ t → f.ranges v ≡ true → f.value ≡ x → f.version ≡ b → (v ≡ b) ⊎ (m.is_transient x ≡ false)
          by_transient true t r d i = inl ((h.entries_true k f p).0.single t v r ∙ i)
          by_transient false t r d i = inr (ap m.is_transient (sym d) ∙ t)

          by_range : (c : Bool) → f.ranges v ≡ c → cond c (Matches f.value f.version) (other_look (m.is_transient f.value) f) ≡ Matches x b → IsMatched eq m R es v k x b
          by_range true r s =
              let d : f.value ≡ x = cc in
              let i : f.version ≡ b = cc in
              record {
                base = base_there f b p i;
                here = subst (HasValue eq m (commits_of R) v k) d ((h.entries_true k f p).0.holds v r within);
                there = value_there f x b p d i;
                lasts = by_transient (m.is_transient f.value) refl r d i;
                entry = f;
                known = p;
                has = r;
              }
          by_range false r s = absurd (no_match (m.is_transient f.value) s)

  -- a look-up that finds nothing
  pub new_cause : look m.is_transient (entry_at eq es k) v ≡ Computes why.New → IsTrueCause eq m R v k New
  new_cause e b = by_base (is_base eq R b k) refl
    where
      no_new : (t : Bool) (f : Kept K V) → other_look t f ≡ Computes why.New → ⊥
      no_new true f s = cc
      no_new false f s = cc

      by_range : (c : Bool) (f : Kept K V) → cond c (Matches f.value f.version) (other_look (m.is_transient f.value) f) ≡ Computes why.New → ⊥
      by_range true f s = cc
      by_range false f s = no_new (m.is_transient f.value) f s

      by_base : (c : Bool) → is_base eq R b k ≡ c → c ≡ false
      by_base true p = let i = h.known k b p in absurd (by_range (i.0.ranges v) i.0 (ap (λ o. look m.is_transient o v) (sym i.1) ∙ e))
      by_base false p = refl

  -- a look-up that finds a transient value of another version
  pub transient_cause : (b : ℕ) → look m.is_transient (entry_at eq es k) v ≡ Computes (why.Transient b) → IsTrueCause eq m R v k (Transient b)
  transient_cause b e = by_entry (entry_at eq es k) refl e
    where
      by_entry : (o : Option (Kept K V)) → entry_at eq es k ≡ o → look m.is_transient o v ≡ Computes (why.Transient b) → IsTrueCause eq m R v k (Transient b)
      by_entry None p q = cc
      by_entry (Some f) p q = by_range (f.ranges v) refl q
        where
          by_transient : (t : Bool) → m.is_transient f.value ≡ t → f.ranges v ≡ false → other_look t f ≡ Computes (why.Transient b) → IsTrueCause eq m R v k (Transient b)
          by_transient true t r s =
              let i : f.version ≡ b = cc in (
                base_there f b p i,
                λ n. both_ways (f.ranges v) r (subst (λ w. f.ranges w ≡ true) (i ∙ n) (h.entries_true k f p).0.own),
                f.value,
                value_there f f.value b p refl i,
                t,
              )
          by_transient false t r s = cc

          by_range : (c : Bool) → f.ranges v ≡ c → cond c (Matches f.value f.version) (other_look (m.is_transient f.value) f) ≡ Computes (why.Transient b) → IsTrueCause eq m R v k (Transient b)
          by_range true r s = cc
          by_range false r s = by_transient (m.is_transient f.value) refl r s

  -- a look-up that finds a value to be checked
  pub was_seen : (x : V) (T : List (Answered K V)) (b : ℕ) → look m.is_transient (entry_at eq es k) v ≡ Checks x T b → WasSeen eq m R k x T b
  was_seen x T b e = by_entry (entry_at eq es k) refl e
    where
      by_entry : (o : Option (Kept K V)) → entry_at eq es k ≡ o → look m.is_transient o v ≡ Checks x T b → WasSeen eq m R k x T b
      by_entry None p q = cc
      by_entry (Some f) p q = by_range (f.ranges v) q
        where
          by_transient : (t : Bool) → m.is_transient f.value ≡ t → other_look t f ≡ Checks x T b → WasSeen eq m R k x T b
          by_transient true t s = cc
          by_transient false t s =
              let d : f.value ≡ x = cc in
              let j : f.trace ≡ T = cc in
              let i : f.version ≡ b = cc in
              let s = (h.entries_true k f p).0 in
              let a : IsTrace eq m (commits_of R) f.version k f.trace f.value = s.traced f.version (omega arith) s.own s.within in
              record {
                traced = subst (λ n. IsTrace eq m (commits_of R) n k T x) i (subst (λ A. IsTrace eq m (commits_of R) f.version k A x) j (subst (IsTrace eq m (commits_of R) f.version k f.trace) d a));
                within = subst (λ n. n ≤ length (commits_of R)) i s.within;
                same = value_there f x b p d i;
                lasts = ap m.is_transient (sym d) ∙ t;
                base = base_there f b p i;
              }

          by_range : (c : Bool) → cond c (Matches f.value f.version) (other_look (m.is_transient f.value) f) ≡ Checks x T b → WasSeen eq m R k x T b
          by_range true s = cc
          by_range false s = by_transient (m.is_transient f.value) refl s

  -- what a look-up answers, in any case
  pub look_stands : (o : Look K V) → v ≤ length (commits_of R) → look m.is_transient (entry_at eq es k) v ≡ o → LookStands eq m R es v k o
  look_stands (Matches x b) within e = matched x b within e
  look_stands (Computes why.New) within e = new_cause e
  look_stands (Computes (why.Transient b)) within e = transient_cause b e
  look_stands (Checks x T b) within e = was_seen x T b e

module _ {K V : Type 0} (eq : K → K → Bool) (m : Meaning K V) (R : List (Told K V)) (es fs : List (K × Stored K V)) (k : K) (v : ℕ) (same : entry_at eq fs k ≡ entry_at eq es k) where
  -- what was answered goes on to hold after events that say the same of commits and of the key's bases, if the key's entry is the same
  look_alike : (S : List (Told K V)) → commits_of R ≡ commits_of S → ((b : ℕ) → is_base eq R b k ≡ is_base eq S b k) → (o : Look K V) → LookStands eq m R es v k o → LookStands eq m S fs v k o
  look_alike S c f (Matches x b) h = record {
    base = sym (f b) ∙ h.base;
    here = subst (λ C. HasValue eq m C v k x) c h.here;
    there = subst (λ C. HasValue eq m C b k x) c h.there;
    lasts = h.lasts;
    entry = h.entry;
    known = same ∙ h.known;
    has = h.has;
  }
  look_alike S c f (Computes why.New) h = λ b. sym (f b) ∙ h b
  look_alike S c f (Computes (why.Transient b)) h = (sym (f b) ∙ h.0, h.1, h.2, subst (λ C. HasValue eq m C b k h.2) c h.3, h.4)
  look_alike S c f (Checks x T b) h = record {
    traced = subst (λ C. IsTrace eq m C b k T x) c h.traced;
    within = subst (λ C. b ≤ length C) c h.within;
    same = subst (λ C. HasValue eq m C b k x) c h.same;
    lasts = h.lasts;
    base = sym (f b) ∙ h.base;
  }

  pub look_on_ask : (by t : ℕ) (q : K) (o : Look K V) → LookStands eq m R es v k o → LookStands eq m (Ask by t q ∷ R) fs v k o
  look_on_ask by t q = look_alike (Ask by t q ∷ R) refl (λ b. refl)

  pub look_on_start : (w : ℕ) (q : K) (c : Reason K) (o : Look K V) → LookStands eq m R es v k o → LookStands eq m (Start w q c ∷ R) fs v k o
  look_on_start w q c = look_alike (Start w q c ∷ R) refl (λ b. refl)

  -- after any event that commits nothing and decides nothing by a value
  pub look_on : (e : Told K V) → LeavesEntries e → (o : Look K V) → LookStands eq m R es v k o → LookStands eq m (e ∷ R) fs v k o
  look_on (Commit by c) n = absurd n
  look_on (Keep w q d) n = absurd n
  look_on (End w q) n = absurd n
  look_on (Open by w) n = look_alike (Open by w ∷ R) refl (λ b. refl)
  look_on (Close by t) n = look_alike (Close by t ∷ R) refl (λ b. refl)
  look_on (Ask by t q) n = look_alike (Ask by t q ∷ R) refl (λ b. refl)
  look_on (Leave by i) n = look_alike (Leave by i ∷ R) refl (λ b. refl)
  look_on (Start w q c) n = look_alike (Start w q c ∷ R) refl (λ b. refl)
  look_on (Cyclic w q) n = look_alike (Cyclic w q ∷ R) refl (λ b. refl)
  look_on (Drop w q) n = look_alike (Drop w q ∷ R) refl (λ b. refl)
  look_on (Lost w q) n = look_alike (Lost w q ∷ R) refl (λ b. refl)

  -- a Keep of another key
  pub look_on_keep : (w : ℕ) (q : K) (d : ℕ) → eq k q ≡ false → (o : Look K V) → LookStands eq m R es v k o → LookStands eq m (Keep w q d ∷ R) fs v k o
  look_on_keep w q d n = look_alike (Keep w q d ∷ R) refl (λ b. sym (ap (λ c. c || is_base eq R b k) (and_right (eqb w b) (eq k q) n)))
