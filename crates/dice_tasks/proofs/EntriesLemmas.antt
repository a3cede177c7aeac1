-- The entries stand after each event.
use Rattle.std.proofs.Common.{◌≡◌, ◌≤◌, ◌⊎◌, inl, inr, ℕ, Bool, true, false, cond, not, ◌&&◌, ◌||◌, eqb, eq-eqb, nat_le, max, List, [], ◌∷◌, ◌++◌, reverse, Option, Some, None, refl, sym, ap, ◌∙◌, subst, arith}
use Rattle.std.specs.Option.{option_map}
use Rattle.std.specs.List.{AllByRecursion}
use Rattle.std.proofs.lemmas.List.{append-nil, append_assoc, reverse-append}
use Rattle.std.proofs.lemmas.Bool.{both_ways, and_from, or_left, or_right, cases_lt, and_parts, or_cases}
use Rattle.std.proofs.lemmas.Option.{none-some, same_Some}
use Rattle.dice_key.specs.Lawful.{IsEquality, AreSame}
use Rattle.dice_key.specs.Meaning.{Meaning}
use Rattle.dice_model.specs.Asks.{IsTrace}
use Rattle.dice_model.proofs.Stable.{goes_stable}
use Rattle.journal.specs.declared.event.Told.{Told}
use Rattle.journal.specs.declared.event.Told.TheVariants.{Commit, Open, Close, Ask, Leave, Start, Keep, End, Cyclic, Drop, Lost}
use Rattle.journal.specs.declared.event.Reason.{Reason}
use Rattle.journal.specs.Events.{names_by, commits_of, is_base}
use Rattle.versioned_graph.specs.Entries.{Kept, Stored, entry_at, seen_at, cut_at, joined, written}
use Rattle.versioned_graph.specs.Sound.{AreTrue}
use Rattle.versioned_graph.specs.Edges.{IsCut}
use Rattle.versioned_graph.proofs.CutLemmas.{cut_from, still_there}
use Rattle.dice_tasks.specs.Entries.{LeavesEntries, Backed, EntriesStand}

module _ {K V : Type 0} (eq : K → K → Bool) (m : Meaning K V) where
  -- with no events and no entries
  pub none_stand : EntriesStand eq m [] []
  none_stand = record {
    entries_true = λ k e p. absurd (none-some e p);
    backed = λ k e p. absurd (none-some e p);
    known = λ k b p. cc;
  }

  -- an entry comes from decisions after events that say the same of commits and leave the bases
  backed_on : (R S : List (Told K V)) (k : K) (e : Kept K V) → commits_of R ≡ commits_of S → ((b : ℕ) → is_base eq R b k ≡ true → is_base eq S b k ≡ true) → Backed eq m R k e → Backed eq m S k e
  backed_on R S k e c f h = record {
    finished = h.finished;
    below = h.below;
    traced = subst (λ C. IsTrace eq m C h.finished k e.trace e.value) c h.traced;
    finished_base = f h.finished h.finished_base;
    base = f e.version h.base;
  }

  -- after events that say the same of commits and bases
  pub stand_alike : (R S : List (Told K V)) (es : List (K × Stored K V)) → commits_of R ≡ commits_of S → ((b : ℕ) (k : K) → is_base eq S b k ≡ is_base eq R b k) → EntriesStand eq m R es → EntriesStand eq m S es
  stand_alike R S es c f h = record {
    entries_true = subst (λ C. AreTrue eq m C es) c h.entries_true;
    backed = λ k e p. backed_on R S k e c (λ b q. f b k ∙ q) (h.backed k e p);
    known = λ k b p. h.known k b (sym (f b k) ∙ p);
  }

  module _ (R : List (Told K V)) (es : List (K × Stored K V)) (h : EntriesStand eq m R es) where
    pub stand_open : (by v : ℕ) → EntriesStand eq m (Open by v ∷ R) es
    stand_open by v = stand_alike R (Open by v ∷ R) es refl (λ b k. refl) h

    pub stand_close : (by t : ℕ) → EntriesStand eq m (Close by t ∷ R) es
    stand_close by t = stand_alike R (Close by t ∷ R) es refl (λ b k. refl) h

    pub stand_ask : (by t : ℕ) (k : K) → EntriesStand eq m (Ask by t k ∷ R) es
    stand_ask by t k = stand_alike R (Ask by t k ∷ R) es refl (λ b k. refl) h

    pub stand_leave : (by i : ℕ) → EntriesStand eq m (Leave by i ∷ R) es
    stand_leave by i = stand_alike R (Leave by i ∷ R) es refl (λ b k. refl) h

    pub stand_start : (v : ℕ) (k : K) (c : Reason K) → EntriesStand eq m (Start v k c ∷ R) es
    stand_start v k c = stand_alike R (Start v k c ∷ R) es refl (λ b k. refl) h

    pub stand_cyclic : (v : ℕ) (k : K) → EntriesStand eq m (Cyclic v k ∷ R) es
    stand_cyclic v k = stand_alike R (Cyclic v k ∷ R) es refl (λ b k. refl) h

    pub stand_drop : (v : ℕ) (k : K) → EntriesStand eq m (Drop v k ∷ R) es
    stand_drop v k = stand_alike R (Drop v k ∷ R) es refl (λ b k. refl) h

    pub stand_lost : (v : ℕ) (k : K) → EntriesStand eq m (Lost v k ∷ R) es
    stand_lost v k = stand_alike R (Lost v k ∷ R) es refl (λ b k. refl) h

    -- a commit makes the log longer, and cuts entries
    pub stand_commit : (by v : ℕ) (c : List (K × V)) (changed : List K) (fs : List (K × Stored K V)) → IsCut eq es changed v fs → AreTrue eq m (commits_of R ++ c ∷ []) fs → EntriesStand eq m (Commit by c ∷ R) fs
    stand_commit by v c changed fs cut true_ones = record {
      entries_true = true_ones;
      backed = λ k e p. (let o = cut_from eq es fs changed v cut k e p in
          elim o.2 as (λ _. Backed eq m (Commit by c ∷ R) k e) [ inl i ↦ subst (Backed eq m (Commit by c ∷ R) k) (sym i) (backed_later k o.0 o.1) | inr i ↦ subst (Backed eq m (Commit by c ∷ R) k) (sym i) (backed_cut k o.0 (backed_later k o.0 o.1)) ]);
      known = λ k b p. (let o = h.known k b p in still_there eq es fs changed v cut k o.0 o.1);
    }
      where
        backed_later : (k : K) (e : Kept K V) → entry_at eq es k ≡ Some e → Backed eq m (Commit by c ∷ R) k e
        backed_later k e p = let from = h.backed k e p in record {
          finished = from.finished;
          below = from.below;
          traced = record {
            computed = from.traced.computed;
            goes = goes_stable eq m (commits_of R) (c ∷ []) from.finished (let w = (h.entries_true k e p).0.within in let b = from.below in omega arith) k [] e.trace from.traced.goes;
            ends = from.traced.ends;
          };
          finished_base = from.finished_base;
          base = from.base;
        }

        backed_cut : (k : K) (e : Kept K V) → Backed eq m (Commit by c ∷ R) k e → Backed eq m (Commit by c ∷ R) k (cut_at v e)
        backed_cut k e from = record { finished = from.finished; below = from.below; traced = from.traced; finished_base = from.finished_base; base = from.base }

module _ {K V : Type 0} (eq : K → K → Bool) (m : Meaning K V) (es : List (K × Stored K V)) where
  -- after an event that commits nothing and decides nothing by a value
  pub stand_on : (R : List (Told K V)) (e : Told K V) → LeavesEntries e → EntriesStand eq m R es → EntriesStand eq m (e ∷ R) es
  stand_on R (Commit by c) n h = absurd n
  stand_on R (Keep v k b) n h = absurd n
  stand_on R (End v k) n h = absurd n
  stand_on R (Open by v) n h = stand_open eq m R es h by v
  stand_on R (Close by t) n h = stand_close eq m R es h by t
  stand_on R (Ask by t k) n h = stand_ask eq m R es h by t k
  stand_on R (Leave by i) n h = stand_leave eq m R es h by i
  stand_on R (Start v k c) n h = stand_start eq m R es h v k c
  stand_on R (Cyclic v k) n h = stand_cyclic eq m R es h v k
  stand_on R (Drop v k) n h = stand_drop eq m R es h v k
  stand_on R (Lost v k) n h = stand_lost eq m R es h v k

  -- after such events in a row, if J is the journal before them in its order
  pub stand_after : (J E : List (Told K V)) → AllByRecursion LeavesEntries E → EntriesStand eq m (reverse J) es → EntriesStand eq m (reverse (J ++ E)) es
  stand_after J [] n h = subst (λ I. EntriesStand eq m (reverse I) es) (sym (append-nil J)) h
  stand_after J (e ∷ E) n h =
      subst (λ I. EntriesStand eq m (reverse I) es) (append_assoc J (e ∷ []) E)
      (stand_after (J ++ e ∷ []) E n.1 (subst (λ S. EntriesStand eq m S es) (sym (reverse-append J (e ∷ []))) (stand_on (reverse J) e n.0 h)))

max_either : (a b : ℕ) → (max a b ≡ a) ⊎ ((max a b ≡ b) × (a ≤ b))
max_either a b = elim (cases_lt a b) as (λ _. (max a b ≡ a) ⊎ ((max a b ≡ b) × (a ≤ b))) [ inl h ↦ inr (omega arith, omega arith) | inr h ↦ inl (omega arith) ]

-- after an event that decides k at v by a value: v is a base of k, and there is no other new base
record Decides {K V : Type 0} (eq : K → K → Bool) (R S : List (Told K V)) (v : ℕ) (k : K) : Type 0 where
  commits : commits_of R ≡ commits_of S
  here : is_base eq S v k ≡ true
  more : (b : ℕ) (q : K) → is_base eq R b q ≡ true → is_base eq S b q ≡ true
  only : (b : ℕ) (q : K) → is_base eq S b q ≡ true → (eq k q ≡ true) ⊎ (is_base eq R b q ≡ true)

module _ {K V : Type 0} (eq : K → K → Bool) (equality : IsEquality eq) (R : List (Told K V)) (v : ℕ) (k : K) where
  by_name : (b : ℕ) (q : K) → (names_by eq v k b q || is_base eq R b q) ≡ true → (eq k q ≡ true) ⊎ (is_base eq R b q ≡ true)
  by_name b q e = elim (or_cases (names_by eq v k b q) (is_base eq R b q) e) as (λ _. (eq k q ≡ true) ⊎ (is_base eq R b q ≡ true)) [ inl n ↦ inl (ap (λ j. eq k j) (equality.same q k (and_parts (eqb v b) (eq q k) n).1) ∙ equality.itself k) | inr o ↦ inr o ]

  named_here : (names_by eq v k v k || is_base eq R v k) ≡ true
  named_here = or_left (names_by eq v k v k) (is_base eq R v k) (and_from (eqb v v) (eq k k) (eq-eqb v v refl) (equality.itself k))

  end_decides : Decides eq R (End v k ∷ R) v k
  end_decides = record { commits = refl; here = named_here; more = λ b q e. or_right (names_by eq v k b q) (is_base eq R b q) e; only = by_name }

  keep_decides : (b : ℕ) → Decides eq R (Keep v k b ∷ R) v k
  keep_decides b = record { commits = refl; here = named_here; more = λ c q e. or_right (names_by eq v k c q) (is_base eq R c q) e; only = by_name }

module _ {K V : Type 0} (eq : K → K → Bool) (m : Meaning K V) (S : List (Told K V)) (k : K) where
  -- an entry that is joined from two comes from decisions, as they do
  joined_backed : (e n : Kept K V) (b : Bool) (r : ℕ → Bool) → e.value ≡ n.value → Backed eq m S k e → Backed eq m S k n → Backed eq m S k (record { value = e.value; trace = cond b n.trace e.trace; ranges = r; version = cond b n.version e.version })
  joined_backed e n true r d p q = record { finished = q.finished; below = q.below; traced = subst (IsTrace eq m (commits_of S) q.finished k n.trace) (sym d) q.traced; finished_base = q.finished_base; base = q.base }
  joined_backed e n false r d p q = record { finished = p.finished; below = p.below; traced = p.traced; finished_base = p.finished_base; base = p.base }

  -- so does the entry that stands after a finish
  written_backed : (veq : V → V → Bool) → AreSame veq → (o : Option (Kept K V)) (n : Kept K V) → ((e : Kept K V) → o ≡ Some e → Backed eq m S k e) → Backed eq m S k n → Backed eq m S k (written m veq o n)
  written_backed veq same None n p q = q
  written_backed veq same (Some e) n p q = by_first (veq e.value n.value && not (m.is_transient e.value)) refl
    where
      by_version : (b : Bool) → Backed eq m S k (cond b n e)
      by_version true = q
      by_version false = p e refl

      by_first : (b : Bool) → (veq e.value n.value && not (m.is_transient e.value)) ≡ b → Backed eq m S k (cond b (joined m veq e n) (cond (nat_le e.version n.version) n e))
      by_first true h = joined_backed e n (nat_le e.version n.version) (λ w. e.ranges w || n.ranges w) (same e.value n.value (and_parts (veq e.value n.value) (not (m.is_transient e.value)) h).0) (p e refl) q
      by_first false h = by_version (nat_le e.version n.version)

  -- and an entry that was seen at a base
  seen_backed : (v : ℕ) (e : Kept K V) → is_base eq S v k ≡ true → Backed eq m S k e → Backed eq m S k (seen_at v e)
  seen_backed v e b h = by_max (max_either e.version v)
    where
      by_max : (max e.version v ≡ e.version) ⊎ ((max e.version v ≡ v) × (e.version ≤ v)) → Backed eq m S k (seen_at v e)
      by_max (inl i) = record { finished = h.finished; below = subst (λ n. h.finished ≤ n) (sym i) h.below; traced = h.traced; finished_base = h.finished_base; base = subst (λ n. is_base eq S n k ≡ true) (sym i) h.base }
      by_max (inr i) = record { finished = h.finished; below = let l = h.below in let j = i.0 in let w = i.1 in omega arith; traced = h.traced; finished_base = h.finished_base; base = subst (λ n. is_base eq S n k ≡ true) (sym i.0) b }

module _ {K V : Type 0} (eq : K → K → Bool) (equality : IsEquality eq) (m : Meaning K V) (R : List (Told K V)) (es fs : List (K × Stored K V)) (h : EntriesStand eq m R es) (v : ℕ) (k : K) where
  -- if one entry is written, which comes from decisions
  one_written : (S : List (Told K V)) (f : Kept K V) → Decides eq R S v k → ((q : K) → entry_at eq fs q ≡ cond (eq k q) (Some f) (entry_at eq es q)) → Backed eq m S k f → AreTrue eq m (commits_of R) fs → EntriesStand eq m S fs
  one_written S f d up from true_ones = record {
    entries_true = subst (λ C. AreTrue eq m C fs) d.commits true_ones;
    backed = λ q e p. backed_by q e (eq k q) refl (sym (up q) ∙ p);
    known = λ q b p. known_by q b p (eq k q) refl;
  }
    where
      backed_by : (q : K) (e : Kept K V) (c : Bool) → eq k q ≡ c → cond c (Some f) (entry_at eq es q) ≡ Some e → Backed eq m S q e
      backed_by q e true n p = subst (λ j. Backed eq m S j e) (equality.same k q n) (subst (Backed eq m S k) (same_Some f e p) from)
      backed_by q e false n p = backed_on eq m R S q e d.commits (λ b i. d.more b q i) (h.backed q e p)

      known_by : (q : K) (b : ℕ) → is_base eq S b q ≡ true → (c : Bool) → eq k q ≡ c → (e : Kept K V) × (entry_at eq fs q ≡ Some e)
      known_by q b p true n = (f, up q ∙ ap (λ c. cond c (Some f) (entry_at eq es q)) n)
      known_by q b p false n = elim (d.only b q p) as (λ _. (e : Kept K V) × (entry_at eq fs q ≡ Some e)) [
        | inl i ↦ absurd (both_ways (eq k q) n i)
        | inr i ↦ (let r = h.known q b i in (r.0, up q ∙ (ap (λ c. cond c (Some f) (entry_at eq es q)) n ∙ r.1)))
      ]

  -- a match is kept, and its entry e was seen
  pub stand_seen : (b : ℕ) (e : Kept K V) → ((q : K) → entry_at eq fs q ≡ cond (eq k q) (option_map (seen_at v) (entry_at eq es k)) (entry_at eq es q)) → entry_at eq es k ≡ Some e → AreTrue eq m (commits_of R) fs → EntriesStand eq m (Keep v k b ∷ R) fs
  stand_seen b e up there true_ones =
      let d = keep_decides eq equality R v k b in
      one_written (Keep v k b ∷ R) (seen_at v e) d (λ q. up q ∙ ap (λ o. cond (eq k q) (option_map (seen_at v) o) (entry_at eq es q)) there)
      (seen_backed eq m (Keep v k b ∷ R) k v e d.here (backed_on eq m R (Keep v k b ∷ R) k e d.commits (λ c i. d.more c k i) (h.backed k e there))) true_ones

  module _ (veq : V → V → Bool) (same : AreSame veq) (n : Kept K V) (version : n.version ≡ v) (trace : IsTrace eq m (commits_of R) v k n.trace n.value)
      (up : (q : K) → entry_at eq fs q ≡ cond (eq k q) (Some (written m veq (entry_at eq es k) n)) (entry_at eq es q)) (true_ones : AreTrue eq m (commits_of R) fs) where
    stand_finished : (S : List (Told K V)) → Decides eq R S v k → EntriesStand eq m S fs
    stand_finished S d = one_written S (written m veq (entry_at eq es k) n) d up
        (written_backed eq m S k veq same (entry_at eq es k) n
        (λ e p. backed_on eq m R S k e d.commits (λ b i. d.more b k i) (h.backed k e p))
        (record { finished = v; below = subst (λ w. v ≤ w) (sym version) (omega arith); traced = subst (λ C. IsTrace eq m C v k n.trace n.value) d.commits trace; finished_base = d.here; base = subst (λ w. is_base eq S w k ≡ true) (sym version) d.here }))
        true_ones

    -- a run has ended with a value, which is finished
    pub stand_end : EntriesStand eq m (End v k ∷ R) fs
    stand_end = stand_finished (End v k ∷ R) (end_decides eq equality R v k)

    -- a check has kept an earlier value, which is finished
    pub stand_keep : (b : ℕ) → EntriesStand eq m (Keep v k b ∷ R) fs
    stand_keep b = stand_finished (Keep v k b ∷ R) (keep_decides eq equality R v k b)
