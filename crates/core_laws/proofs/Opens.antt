-- An Open leaves all versions at rest. If it begins an epoch there is no task, and nobody asks.
use Rattle.std.proofs.Common.{◌≡◌, ◌<◌, ◌+◌, ℕ, Bool, true, false, eqb, List, [], ◌∷◌, Option, refl, sym, ap, ◌∙◌, arith, append-nil, ◌≤◌, cond, length, length-append, Some, None}
use Rattle.std.proofs.lemmas.Bool.{both_ways, eqb-true, eqb-false, and_parts, eq-eqb}
use Rattle.std.proofs.lemmas.Option.{same_Some, none-some}
use Rattle.dice_key.specs.Lawful.{IsEquality, IsLawful}
use Rattle.dice_key.specs.Meaning.{Meaning}
use Rattle.task_share.specs.Asked.{By, Promised, Tasked, Asked}
use Rattle.journal.specs.declared.event.Told.{Told}
use Rattle.journal.specs.declared.event.Told.TheVariants.{Commit, Open, Close}
use Rattle.journal.specs.Events.{one_if, begins, commits_of, open_count, opened_at, Opened, is_for, open_at}
use Rattle.journal.specs.Law.{IsLawfulBack}
use Rattle.journal.proofs.Lawful.{closes_open}
use Rattle.journal.proofs.Counts.{none_open}
use Rattle.core_laws.specs.Tasks.{Task, batch_of}
use Rattle.core_laws.specs.Stands.{IsAtRest}
use Rattle.journal.proofs.Indices.{live_opened, opened_before}
use Rattle.core_laws.proofs.Frames.{Carries, SameLive, rest_stays, same_promises}

module _ {K V : Type 0} (eq : K → K → Bool) (m : Meaning K V) (R : List (Told K V)) (lawful : IsLawfulBack eq m R) (v by w : ℕ) (s : Asked K) (ts : K → Option (Task K V)) where
  -- an Open that begins no epoch of v
  module _ (n : begins R w v ≡ false) where
    carries : Carries eq R (Open by w ∷ R) v
    carries = record {
      later = [];
      commits = sym (append-nil (commits_of R));
      longer = omega arith;
      counts = by_version (eqb w v) refl;
      decides = λ k. rw n refl;
      asks = λ k h. rw n h;
      runs = λ k. refl;
      loses = λ k h. rw n h;
      bases = λ b k h. h;
    }
      where
        -- it adds to the transactions at v only if there is one
        by_version : (b : Bool) → eqb w v ≡ b → 0 < open_count R v + one_if b → 0 < open_count R v
        by_version true e h = let z : eqb (open_count R v) 0 ≡ false = rw e at n in let y = eqb-false (open_count R v) 0 z in omega arith
        by_version false e h = omega arith

    same_live : SameLive R (Open by w ∷ R) v
    same_live = record { lives = λ i. refl; opens = λ i a h. (let o = live_opened eq m R i a lawful h in opened_before R by w v a.opened o.0 o.1) }

  -- an Open that begins the epoch of v
  module _ (n : begins R w v ≡ true) (h : IsAtRest eq m R v s ts) where
    empty : open_count R v ≡ 0
    empty = eqb-true (open_count R v) 0 (and_parts (eqb w v) (eqb (open_count R v) 0) n).1

    nobody_asks : (P : Type 0) (k : K) (a : By K) → s.asks k a ≡ true → P
    nobody_asks P k a e = let t = h.tasked k a e in absurd (none-some t.0 (sym (h.closed empty k) ∙ t.1))

    begun : IsAtRest eq m (Open by w ∷ R) v s ts
    begun = record {
      stands = record {
        promised = λ k i e. nobody_asks _ k (Promised i) e;
        promises = λ i a e o q. (let z = live_opened eq m R i a lawful e in absurd (both_ways (opened_at R v a.opened) (none_open v R (closes_open eq m R lawful) empty a.opened) (sym (opened_before R by w v a.opened z.0 z.1) ∙ o)));
        waits = λ d k e. nobody_asks _ d (Tasked k) e;
        waiting = λ d k e. nobody_asks _ d (Tasked k) e;
        awaited = λ d k e. nobody_asks _ d (Tasked k) e;
        no_cycle = λ k i e l. nobody_asks _ i (Tasked k) e;
        stuck = λ k ks e. absurd (none-some ks (sym (ap batch_of (h.closed empty k)) ∙ e));
        batch = λ k ks e d q. absurd (none-some ks (sym (ap batch_of (h.closed empty k)) ∙ e));
        live = h.stands.live;
        each = λ k t e. absurd (none-some t (sym (h.closed empty k) ∙ e));
        running = h.stands.running;
        fresh = λ k e q. rw n refl;
      };
      tasked = h.tasked;
      wanted = h.wanted;
      closed = λ z k. h.closed empty k;
    }

  counted : open_count R v + one_if (eqb w v) ≡ 0 → open_count R v ≡ 0
  counted z = omega arith

module _ {K V : Type 0} (eq : K → K → Bool) (equality : IsEquality eq) (m : Meaning K V) (law : IsLawful m) (R : List (Told K V)) (v : ℕ) where
  -- a version at rest is at rest
  pub opened : (s : Asked K) (ts : K → Option (Task K V)) (by w : ℕ) → IsAtRest eq m R v s ts → IsLawfulBack eq m R → IsAtRest eq m (Open by w ∷ R) v s ts
  opened s ts by w h lawful = by_start (begins R w v) refl
    where
      by_start : (b : Bool) → begins R w v ≡ b → IsAtRest eq m (Open by w ∷ R) v s ts
      by_start true n = begun eq m R lawful v by w s ts n h
      by_start false n = rest_stays eq m R (Open by w ∷ R) v (carries eq m R lawful v by w s ts n) s ts (same_promises eq m R (Open by w ∷ R) v (same_live eq m R lawful v by w s ts n) [] s ts h.stands) (counted eq m R lawful v by w s ts) h

module _ {K V : Type 0} where
  -- a transaction that is open at v
  pub open_there : (R : List (Told K V)) (v i : ℕ) → opened_at R v i ≡ true → (o : Opened) × (open_at R i ≡ Some o) × (o.version ≡ v)
  open_there R v i e = by_open (open_at R i) refl e
    where
      by_open : (x : Option Opened) → open_at R i ≡ x → is_for (λ o. eqb o.version v) x ≡ true → (o : Opened) × (open_at R i ≡ Some o) × (o.version ≡ v)
      by_open None p q = absurd (both_ways false refl q)
      by_open (Some o) p q = (o, p, eqb-true o.version v q)

  pub there_open : (R : List (Told K V)) (v i : ℕ) (o : Opened) → open_at R i ≡ Some o → o.version ≡ v → opened_at R v i ≡ true
  there_open R v i o e h = ap (is_for (λ (x : Opened). eqb x.version v)) e ∙ eq-eqb o.version v h

module _ {K V : Type 0} (eq : K → K → Bool) (m : Meaning K V) where
  -- the version of an open transaction is no later than the newest
  pub open_within : (R : List (Told K V)) (i : ℕ) (o : Opened) → IsLawfulBack eq m R → open_at R i ≡ Some o → o.version ≤ length (commits_of R)
  open_within [] i o l e = absurd (none-some o e)
  open_within (Open by w ∷ R) i o l e = by_index (eqb (length R) i) e (λ h. open_within R i o l.1 h)
    where
      by_index : (b : Bool) → cond b (Some (record { by = by; version = w })) (open_at R i) ≡ Some o → (open_at R i ≡ Some o → o.version ≤ length (commits_of R)) → o.version ≤ length (commits_of R)
      by_index true q again = let h : w ≡ o.version = ap (λ (x : Opened). x.version) (same_Some _ _ q) in let a : w ≡ length (commits_of R) = l.0 in omega arith
      by_index false q again = again q
  open_within (Close by t ∷ R) i o l e = by_index (eqb t i) e (λ h. open_within R i o l.1 h)
    where
      by_index : (b : Bool) → cond b None (open_at R i) ≡ Some o → (open_at R i ≡ Some o → o.version ≤ length (commits_of R)) → o.version ≤ length (commits_of R)
      by_index true q again = absurd (none-some o q)
      by_index false q again = again q
  open_within (Commit by c ∷ R) i o l e = let h = open_within R i o l.1 e in let a = length-append (commits_of R) (c ∷ []) in omega arith
  open_within (_ ∷ R) i o l e = open_within R i o l.1 e
