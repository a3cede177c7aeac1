-- What each change of what is open makes of the journal's word on it.
use Rattle.std.proofs.Common.{◌≡◌, ◌≤◌, ◌<◌, ◌+◌, ◌-◌, ℕ, suc, Bool, true, false, cond, nat_eq, eqb, ◌&&◌, List, [], ◌∷◌, ◌++◌, length, Option, Some, None, is_some, Result, Ok, Err, refl, sym, ap, ◌∙◌, subst, arith}
use Rattle.std.specs.Prelude.{OnOk, IfOk, IsOk, IfSome}
use Rattle.std.specs.List.{AllByRecursion}
use Rattle.std.specs.Option.{option_map}
use Rattle.std.specs.Map.{lookup}
use Rattle.std.proofs.lemmas.Bool.{both_ways, eqb-true, ne_eqb, eq-eqb}
use Rattle.std.proofs.lemmas.Option.{none-some}
use Rattle.dice_key.specs.Meaning.{Meaning}
use Rattle.journal.specs.declared.event.Told.{Told}
use Rattle.journal.specs.declared.event.Told.TheVariants.{Open, Close, Ask, Leave}
use Rattle.journal.specs.Events.{Opened, Asking, is_for, one_if, open_at, opened_at, open_count, live_at}
use Rattle.journal.specs.Words.{begins_epoch}
use Rattle.journal.specs.Law.{IsLawfulBack}
use Rattle.journal.proofs.Indices.{opened_below, live_below, opened_counts}
use Rattle.version_epoch.specs.declared.open_versions.Standing.{Standing}
use Rattle.version_epoch.specs.Standings.{open_count_of, epoch_of}
use Rattle.dice_core.specs.Sessions.{SessionSeen, SessionsSeen, opened_of, has_ask, opened_in, among_in, session_at, transaction_at, ask_at, is_among, epochs_begun, asks_in, IsSame, Opens, Asks, Leaves, Closes, Takes, SessionsStand, Closing, moves_sessions}

-- the same test from the other side
pub eqb_flips : (a b : ℕ) → eqb a b ≡ eqb b a
eqb_flips a b = by_test (eqb a b) refl
  where
    by_test : (x : Bool) → eqb a b ≡ x → x ≡ eqb b a
    by_test true e = sym (eq-eqb b a (sym (eqb-true a b e)))
    by_test false e = sym (ne_eqb b a (λ h. both_ways (eqb a b) e (eq-eqb a b (sym h))))

-- what is at an index by two lists of cases
swapped : {X : Type 0} (n i : ℕ) (l : ℕ) (x : X) (a b : Option X) → l ≡ n → a ≡ b → cond (eqb n i) (Some x) a ≡ cond (eqb l i) (Some x) b
swapped n i l x a b e h = (λ j. cond (eqb (sym e j) i) (Some x) (h j))

none_passes : {X : Type 0} (f : X → Bool) (o : Option X) → o ≡ None → is_for f o ≡ false
none_passes f o e = ap (is_for f) e

-- a transaction that is not there lists nothing
unlisted : (ts : List (ℕ × SessionSeen)) (t i : ℕ) → option_map opened_of (lookup (nat_eq t) ts) ≡ None → among_in ts t i ≡ false
unlisted ts t i e = by_session (lookup (nat_eq t) ts) e
  where
    by_session : (o : Option SessionSeen) → option_map opened_of o ≡ None → is_for (λ (s : SessionSeen). has_ask s.asks i) o ≡ false
    by_session None q = refl
    by_session (Some s) q = absurd (none-some (opened_of s) (sym q))

-- the number of a version's open transactions with one more, by a test from either side
counted_more : (v w n m : ℕ) → n ≡ m → cond (eqb v w) (n + 1) n ≡ m + one_if (eqb w v)
counted_more v w n m e = rw (eqb_flips w v) (by_test (eqb v w))
  where
    by_test : (x : Bool) → cond x (n + 1) n ≡ m + one_if x
    by_test true = omega arith
    by_test false = omega arith

counted_fewer : (v w n m : ℕ) → n ≡ m → cond (eqb v w) (n - 1) n ≡ m - one_if (eqb w v)
counted_fewer v w n m e = rw (eqb_flips w v) (by_test (eqb v w))
  where
    by_test : (x : Bool) → cond x (n - 1) n ≡ m - one_if x
    by_test true = omega arith
    by_test false = omega arith

-- the number of a version's epochs with one more, by a test from either side
begun_more : (v w n m p q : ℕ) → n ≡ m → p ≡ q → cond (eqb w v && eqb p 0) (n + 1) n ≡ m + one_if (eqb v w && eqb q 0)
begun_more v w n m p q e f = by_test (eqb w v && eqb p 0) ∙ ap (λ b. m + one_if b) (ap (λ x. x && eqb p 0) (eqb_flips w v) ∙ ap (λ y. eqb v w && eqb y 0) f)
  where
    by_test : (x : Bool) → cond x (n + 1) n ≡ m + one_if x
    by_test true = omega arith
    by_test false = omega arith

-- an insertion with room made ahead succeeds
pub done : {X E : Type 0} (r : Result X E) (room : ℕ) (P : Type 0) → OnOk r P → (0 < room → IsOk r) → 0 < room → P
done (Ok x) room P h succeeds some = h
done (Err e) room P h succeeds some = let f = succeeds some in cc

-- and an insertion at a new key makes one entry more
pub grown : {X E : Type 0} (r : Result (Option X) E) (o : Option X) (room l m : ℕ) → IfOk r (λ old. old ≡ o) → IfOk r (λ old. l ≡ m + cond (is_some old) 0 1) → (0 < room → IsOk r) → 0 < room → o ≡ None → l ≡ m + 1
grown (Ok None) o room l m was len succeeds some none = len
grown (Ok (Some x)) o room l m was len succeeds some none = absurd (none-some x (sym none ∙ sym was))
grown (Err e) o room l m was len succeeds some none = let f = succeeds some in cc

pub unopened : (ts : List (ℕ × SessionSeen)) (t : ℕ) → opened_in ts t ≡ None → lookup (nat_eq t) ts ≡ None
unopened ts t e = by_session (lookup (nat_eq t) ts) e
  where
    by_session : (o : Option SessionSeen) → option_map opened_of o ≡ None → o ≡ None
    by_session None q = refl
    by_session (Some s) q = absurd (none-some (opened_of s) (sym q))

-- a transaction without asks is put in
pub opens_made : {K : Type 0} (n by v : ℕ) (ts us : List (ℕ × SessionSeen)) (ks : List (ℕ × Asking K)) (es fs : List (ℕ × Standing)) (room : ℕ) (x : SessionSeen) → opened_of x ≡ record { by = by; version = v } → x.asks ≡ []
    → ((q : ℕ) → lookup (nat_eq q) us ≡ cond (nat_eq n q) (Some x) (lookup (nat_eq q) ts)) → length us ≡ length ts + 1
    → ((w : ℕ) → open_count_of fs w ≡ cond (nat_eq w v) (open_count_of es w + 1) (open_count_of es w))
    → ((w : ℕ) → epoch_of fs w ≡ cond (nat_eq w v && nat_eq (open_count_of es w) 0) (epoch_of es w + 1) (epoch_of es w))
    → Opens {K = K} n by v (record { transactions = ts; asks = ks; epochs = es; room = room }) (record { transactions = us; asks = ks; epochs = fs; room = room })
opens_made n by v ts us ks es fs room x named empty put more counts epochs = record {
  transactions = λ i. ap (option_map opened_of) (put i) ∙ opened (nat_eq n i) (lookup (nat_eq i) ts);
  asks = λ i. refl;
  among = λ t i. ap (is_for (λ (s : SessionSeen). has_ask s.asks i)) (put t) ∙ listed i (nat_eq n t) (lookup (nat_eq t) ts);
  counts = counts;
  epochs = epochs;
  owed = (let h = more in omega arith);
}
  where
    opened : (b : Bool) (o : Option SessionSeen) → option_map opened_of (cond b (Some x) o) ≡ cond b (Some (record { by = by; version = v })) (option_map opened_of o)
    opened true o = ap Some named
    opened false o = refl

    listed : (i : ℕ) (b : Bool) (o : Option SessionSeen) → is_for (λ (s : SessionSeen). has_ask s.asks i) (cond b (Some x) o) ≡ cond b false (is_for (λ (s : SessionSeen). has_ask s.asks i) o)
    listed i true o = ap (λ xs. has_ask xs i) empty
    listed i false o = refl

-- a transaction is taken out
pub closes_made : {K : Type 0} (t version : ℕ) (ts us : List (ℕ × SessionSeen)) (ks : List (ℕ × Asking K)) (es fs : List (ℕ × Standing)) (room : ℕ)
    → ((q : ℕ) → lookup (nat_eq q) us ≡ cond (nat_eq t q) None (lookup (nat_eq q) ts)) → length us + 1 ≡ length ts
    → ((w : ℕ) → open_count_of fs w ≡ cond (nat_eq w version) (open_count_of es w - 1) (open_count_of es w)) → ((w : ℕ) → epoch_of fs w ≡ epoch_of es w)
    → Closes {K = K} t version (record { transactions = ts; asks = ks; epochs = es; room = room }) (record { transactions = us; asks = ks; epochs = fs; room = room })
closes_made t version ts us ks es fs room gone fewer counts epochs = record {
  transactions = λ i. ap (option_map opened_of) (gone i) ∙ opened (nat_eq t i) (lookup (nat_eq i) ts);
  asks = λ i. refl;
  among = λ w i. ap (is_for (λ (s : SessionSeen). has_ask s.asks i)) (gone w) ∙ listed i (nat_eq t w) (lookup (nat_eq w) ts);
  counts = counts;
  epochs = epochs;
  owed = (let h = fewer in omega arith);
}
  where
    opened : (b : Bool) (o : Option SessionSeen) → option_map opened_of (cond b None o) ≡ cond b None (option_map opened_of o)
    opened true o = refl
    opened false o = refl

    listed : (i : ℕ) (b : Bool) (o : Option SessionSeen) → is_for (λ (s : SessionSeen). has_ask s.asks i) (cond b None o) ≡ cond b false (is_for (λ (s : SessionSeen). has_ask s.asks i) o)
    listed i true o = refl
    listed i false o = refl

module _ {K V : Type 0} where
  -- nothing stands yet at the index of the next event
  pub fresh_open : (R : List (Told K V)) (n : ℕ) → length R ≡ n → open_at R n ≡ None
  fresh_open R n e = by_open (open_at R n) refl
    where
      by_open : (o : Option Opened) → open_at R n ≡ o → o ≡ None
      by_open None q = refl
      by_open (Some x) q = absurd (let h = opened_below R n x q in omega arith)

  pub fresh_live : (R : List (Told K V)) (n : ℕ) → length R ≡ n → live_at R n ≡ None
  fresh_live R n e = by_live (live_at R n) refl
    where
      by_live : (o : Option (Asking K)) → live_at R n ≡ o → o ≡ None
      by_live None q = refl
      by_live (Some x) q = absurd (let h = live_below R n x q in omega arith)

  pub fresh_transaction : (R : List (Told K V)) (s : SessionsSeen K) (n : ℕ) → SessionsStand R s → length R ≡ n → transaction_at s n ≡ None
  fresh_transaction R s n st e = st.transactions n ∙ fresh_open R n e

  pub fresh_ask : (R : List (Told K V)) (s : SessionsSeen K) (n : ℕ) → SessionsStand R s → length R ≡ n → ask_at s n ≡ None
  fresh_ask R s n st e = st.asks n ∙ fresh_live R n e

  -- at most as many transactions are open as there are events
  pub count_within : (R : List (Told K V)) (v : ℕ) → open_count R v ≤ length R
  count_within [] v = omega arith
  count_within (Open by w ∷ R) v = by_test (eqb w v) (count_within R v)
    where
      by_test : (x : Bool) → open_count R v ≤ length R → open_count R v + one_if x ≤ suc (length R)
      by_test true h = omega arith
      by_test false h = omega arith
  count_within (Close by t ∷ R) v = let h = count_within R v in omega arith
  count_within (_ ∷ R) v = let h = count_within R v in omega arith

  -- at most as many epochs have begun as there are events
  epochs_within : (R : List (Told K V)) (v : ℕ) → epochs_begun R v ≤ length R
  epochs_within [] v = omega arith
  epochs_within (e ∷ R) v = by_test (begins_epoch e R v) (epochs_within R v)
    where
      by_test : (x : Bool) → epochs_begun R v ≤ length R → epochs_begun R v + one_if x ≤ suc (length R)
      by_test true h = omega arith
      by_test false h = omega arith

  -- a transaction may be opened while the journal is shorter than this number
  pub open_fits : (R : List (Told K V)) (s : SessionsSeen K) (top v : ℕ) → SessionsStand R s → length R < top → (open_count_of s.epochs v < top) × (epoch_of s.epochs v < top)
  open_fits R s top v st l = ((let a = st.counts v in let b = count_within R v in omega arith), (let c = st.epochs v in let d = epochs_within R v in omega arith))

  -- an open transaction counts at its version
  pub close_fits : (eq : K → K → Bool) (m : Meaning K V) (R : List (Told K V)) (s : SessionsSeen K) (t : ℕ) (o : Opened) → IsLawfulBack eq m R → SessionsStand R s → transaction_at s t ≡ Some o → 0 < open_count_of s.epochs o.version
  close_fits eq m R s t o l st e =
      let a : opened_at R o.version t ≡ true = ap (is_for (λ (p : Opened). eqb p.version o.version)) (sym (st.transactions t) ∙ e) ∙ eq-eqb o.version o.version refl in
      let b = opened_counts eq m R o.version t l a in
      let c = st.counts o.version in
      omega arith

  -- the transaction of an ask is open
  pub asking_opened : (R : List (Told K V)) (s : SessionsSeen K) (i : ℕ) (a : Asking K) → SessionsStand R s → ask_at s i ≡ Some a → (o : Opened) × (transaction_at s a.opened ≡ Some o)
  asking_opened R s i a st e =
      let h : is_among s a.opened i ≡ true = st.among a.opened i ∙ (ap (is_for (λ (x : Asking K). nat_eq a.opened x.opened)) (sym (st.asks i) ∙ e) ∙ eq-eqb a.opened a.opened refl) in
      by_open (transaction_at s a.opened) refl h
    where
      by_open : (p : Option Opened) → transaction_at s a.opened ≡ p → is_among s a.opened i ≡ true → (o : Opened) × (p ≡ Some o)
      by_open None q h = absurd (both_ways (is_among s a.opened i) (unlisted s.transactions a.opened i q) h)
      by_open (Some o) q h = (o, refl)

  -- nothing is open before the first event
  pub stands_first : (s : SessionsSeen K) → s.transactions ≡ [] → s.asks ≡ [] → ((v : ℕ) → open_count_of s.epochs v ≡ 0) → ((v : ℕ) → epoch_of s.epochs v ≡ 0) → SessionsStand {K = K} {V = V} [] s
  stands_first s t a c e = record {
    transactions = λ i. ap (λ ts. option_map opened_of (lookup (nat_eq i) ts)) t;
    asks = λ i. ap (lookup (nat_eq i)) a;
    counts = c;
    among = λ w i. ap (λ ts. among_in ts w i) t;
    epochs = e;
  }

  pub same_stands : (R : List (Told K V)) (s u : SessionsSeen K) → IsSame s u → SessionsStand R s → SessionsStand R u
  same_stands R s u e st = record {
    transactions = λ i. e.transactions i ∙ st.transactions i;
    asks = λ i. e.asks i ∙ st.asks i;
    counts = λ v. ap (λ es. open_count_of es v) e.epochs ∙ st.counts v;
    among = λ t i. e.among t i ∙ st.among t i;
    epochs = λ v. ap (λ es. epoch_of es v) e.epochs ∙ st.epochs v;
  }

  -- the other events change nothing of what is open
  pub quiet_stands : (R : List (Told K V)) (e : Told K V) (s : SessionsSeen K) → moves_sessions e ≡ false → SessionsStand R s → SessionsStand (e ∷ R) s
  quiet_stands R (Open by v) s q st = cc
  quiet_stands R (Close by t) s q st = cc
  quiet_stands R (Ask by t k) s q st = cc
  quiet_stands R (Leave by a) s q st = cc
  quiet_stands R _ s q st = record { transactions = st.transactions; asks = st.asks; counts = st.counts; among = st.among; epochs = λ v. (let h = st.epochs v in omega arith) }

  pub opens_stand : (R : List (Told K V)) (index by version : ℕ) (s u : SessionsSeen K) → Opens index by version s u → SessionsStand R s → length R ≡ index → SessionsStand (Open by version ∷ R) u
  opens_stand R n by v s u o st e = record {
    transactions = λ i. o.transactions i ∙ swapped n i (length R) _ _ _ e (st.transactions i);
    asks = λ i. o.asks i ∙ st.asks i;
    counts = λ w. o.counts w ∙ counted_more w v _ _ (st.counts w);
    among = λ t i. o.among t i ∙ listed t i (eqb n t) refl;
    epochs = λ w. o.epochs w ∙ begun_more v w _ _ _ _ (st.epochs w) (st.counts w);
  }
    where
      listed : (t i : ℕ) (b : Bool) → eqb n t ≡ b → cond b false (is_among s t i) ≡ asks_in R t i
      listed t i true q = sym (sym (st.among t i) ∙ unlisted s.transactions t i (fresh_transaction R s t st (e ∙ eqb-true n t q)))
      listed t i false q = st.among t i

  pub asks_stand : (R : List (Told K V)) (index by t : ℕ) (k : K) (s u : SessionsSeen K) → Asks index (record { by = by; opened = t; key = k }) s u → SessionsStand R s → length R ≡ index → SessionsStand (Ask by t k ∷ R) u
  asks_stand R n by t k s u o st e = record {
    transactions = λ i. o.transactions i ∙ st.transactions i;
    asks = λ i. o.asks i ∙ swapped n i (length R) _ _ _ e (st.asks i);
    counts = λ w. ap (λ es. open_count_of es w) o.epochs ∙ st.counts w;
    among = λ w i. o.among w i ∙ (listed w i (eqb n i) refl ∙ ap (λ x. is_for (λ (b : Asking K). nat_eq w b.opened) (cond (eqb x i) (Some a) (live_at R i))) (sym e));
    epochs = λ w. (let h = st.epochs w in let p : epoch_of u.epochs w ≡ epoch_of s.epochs w = ap (λ es. epoch_of es w) o.epochs in omega arith);
  }
    where
      a : Asking K
      a = record { by = by; opened = t; key = k }

      new : (w i : ℕ) (b : Bool) → eqb t w ≡ b → is_among s w i ≡ false → cond b true (is_among s w i) ≡ eqb w t
      new w i true q h = sym (eqb_flips w t ∙ q)
      new w i false q h = h ∙ sym (eqb_flips w t ∙ q)

      both : (b x : Bool) → cond b x x ≡ x
      both true x = refl
      both false x = refl

      listed : (w i : ℕ) (b : Bool) → eqb n i ≡ b → cond (eqb t w) (cond b true (is_among s w i)) (is_among s w i) ≡ is_for (λ (x : Asking K). nat_eq w x.opened) (cond b (Some a) (live_at R i))
      listed w i true q = new w i (eqb t w) refl (st.among w i ∙ none_passes _ _ (fresh_live R i (e ∙ eqb-true n i q)))
      listed w i false q = both (eqb t w) (is_among s w i) ∙ st.among w i

  pub leaves_stand : (R : List (Told K V)) (index by : ℕ) (a : Asking K) (s u : SessionsSeen K) → ask_at s index ≡ Some a → Leaves index a s u → SessionsStand R s → SessionsStand (Leave by index ∷ R) u
  leaves_stand R n by a s u known o st = record {
    transactions = λ i. o.transactions i ∙ st.transactions i;
    asks = λ i. o.asks i ∙ ap (cond (eqb n i) None) (st.asks i);
    counts = λ w. ap (λ es. open_count_of es w) o.epochs ∙ st.counts w;
    among = λ w i. o.among w i ∙ listed w i (eqb n i) refl;
    epochs = λ w. (let h = st.epochs w in let p : epoch_of u.epochs w ≡ epoch_of s.epochs w = ap (λ es. epoch_of es w) o.epochs in omega arith);
  }
    where
      both : (b x : Bool) → cond b x x ≡ x
      both true x = refl
      both false x = refl

      -- the ask is listed in its transaction alone
      alone : (w i : ℕ) (b : Bool) → eqb a.opened w ≡ b → n ≡ i → cond b false (is_among s w i) ≡ false
      alone w i true q h = refl
      alone w i false q h = st.among w i ∙ (ap (is_for (λ (x : Asking K). nat_eq w x.opened)) (sym (st.asks i) ∙ subst (λ j. ask_at s j ≡ Some a) h known) ∙ (eqb_flips w a.opened ∙ q))

      listed : (w i : ℕ) (b : Bool) → eqb n i ≡ b → cond (eqb a.opened w) (cond b false (is_among s w i)) (is_among s w i) ≡ is_for (λ (x : Asking K). nat_eq w x.opened) (cond b None (live_at R i))
      listed w i true q = alone w i (eqb a.opened w) refl (eqb-true n i q)
      listed w i false q = both (eqb a.opened w) (is_among s w i) ∙ st.among w i

  pub closes_closing : (R : List (Told K V)) (by t : ℕ) (x : SessionSeen) (s u : SessionsSeen K) → session_at s t ≡ Some x → Closes t x.version s u → SessionsStand R s → Closing R by t x.asks u
  closes_closing R by t x s u known o st = record {
    transactions = λ i. o.transactions i ∙ ap (cond (eqb t i) None) (st.transactions i);
    asks = λ i. o.asks i ∙ (st.asks i ∙ kept i (has_ask x.asks i) refl);
    counts = λ w. o.counts w ∙ (counted_fewer w x.version _ _ (st.counts w) ∙ ap (λ p. open_count R w - one_if (is_for (λ (q : Opened). eqb q.version w) p)) (sym opened));
    among = λ w i. o.among w i ∙ listed w i (live_at R i) refl;
    epochs = λ w. (let h = st.epochs w in let p = o.epochs w in omega arith);
    live = λ i h. sym (among i) ∙ h;
  }
    where
      opened : open_at R t ≡ Some (opened_of x)
      opened = sym (st.transactions t) ∙ ap (option_map opened_of) known

      among : (i : ℕ) → has_ask x.asks i ≡ asks_in R t i
      among i = sym (ap (is_for (λ (y : SessionSeen). has_ask y.asks i)) known) ∙ st.among t i

      kept : (i : ℕ) (b : Bool) → has_ask x.asks i ≡ b → live_at R i ≡ cond b (live_at R i) (cond (asks_in R t i) None (live_at R i))
      kept i true q = refl
      kept i false q = rw (sym (among i) ∙ q) refl

      -- the asks of other transactions stay
      listed : (w i : ℕ) (l : Option (Asking K)) → live_at R i ≡ l → cond (eqb t w) false (is_among s w i) ≡ is_for (λ (y : Asking K). nat_eq w y.opened) (cond (is_for (λ (y : Asking K). nat_eq t y.opened) l) None l)
      listed w i None q = by_test (eqb t w)
        where
          none : is_among s w i ≡ false
          none = st.among w i ∙ none_passes _ _ q

          by_test : (b : Bool) → cond b false (is_among s w i) ≡ false
          by_test true = refl
          by_test false = none
      listed w i (Some y) q = by_test (eqb t w) refl (eqb t y.opened) refl
        where
          here : is_among s w i ≡ eqb w y.opened
          here = st.among w i ∙ ap (is_for (λ (z : Asking K). nat_eq w z.opened)) q

          by_test : (b : Bool) → eqb t w ≡ b → (c : Bool) → eqb t y.opened ≡ c → cond b false (is_among s w i) ≡ is_for (λ (z : Asking K). nat_eq w z.opened) (cond c None (Some y))
          by_test true p true r = refl
          by_test true p false r = sym (ap (λ j. eqb j y.opened) (sym (eqb-true t w p)) ∙ r)
          by_test false p true r = here ∙ (ap (eqb w) (sym (eqb-true t y.opened r)) ∙ (eqb_flips w t ∙ p))
          by_test false p false r = here

  pub takes_closing : (R : List (Told K V)) (by t index : ℕ) (rest left : List ℕ) (s u : SessionsSeen K) → Takes index s u → Closing R by t rest s → has_ask rest index ≡ true → ((q : ℕ) → has_ask left q ≡ cond (nat_eq index q) false (has_ask rest q)) → Closing R by t left u
  takes_closing R by t n rest left s u o c h e = record {
    transactions = λ i. ap (λ ts. option_map opened_of (lookup (nat_eq i) ts)) o.transactions ∙ c.transactions i;
    asks = λ i. o.asks i ∙ (by_test i (eqb n i) refl ∙ ap (λ b. cond b (live_at R i) (live_at (Close by t ∷ R) i)) (sym (e i)));
    counts = λ w. ap (λ es. open_count_of es w) o.epochs ∙ c.counts w;
    among = λ w i. ap (λ ts. among_in ts w i) o.transactions ∙ c.among w i;
    epochs = λ w. ap (λ es. epoch_of es w) o.epochs ∙ c.epochs w;
    live = λ i p. c.live i (fewer (eqb n i) (has_ask rest i) (sym (e i) ∙ p));
  }
    where
      fewer : (a b : Bool) → cond a false b ≡ true → b ≡ true
      fewer true b p = cc
      fewer false b p = p

      by_test : (i : ℕ) (b : Bool) → eqb n i ≡ b → cond b None (ask_at s i) ≡ cond (cond b false (has_ask rest i)) (live_at R i) (cond (asks_in R t i) None (live_at R i))
      by_test i true q = let p : asks_in R t i ≡ true = c.live i (subst (λ j. has_ask rest j ≡ true) (eqb-true n i q) h) in rw p refl
      by_test i false q = c.asks i

  -- no ask is left: the transaction is closed
  pub closing_end : (R : List (Told K V)) (by t : ℕ) (s : SessionsSeen K) → Closing R by t [] s → SessionsStand (Close by t ∷ R) s
  closing_end R by t s c = record { transactions = c.transactions; asks = c.asks; counts = c.counts; among = c.among; epochs = λ v. (let h = c.epochs v in omega arith) }

-- the same if an ask may have been taken out
pub takes_closing_if : {K A : Type 0} (V : Type 0) (r : Option A) (index : ℕ) (s u : SessionsSeen K) → IfSome r (λ _. Takes index s u)
    → IfSome r (λ _. (R : List (Told K V)) (by t : ℕ) (rest left : List ℕ) → Closing R by t rest s → has_ask rest index ≡ true → ((q : ℕ) → has_ask left q ≡ cond (nat_eq index q) false (has_ask rest q)) → Closing R by t left u)
takes_closing_if V None n s u h = tt
takes_closing_if V (Some x) n s u h = λ R by t rest left c has fewer. takes_closing R by t n rest left s u h c has fewer

-- an ask that passes is there
passes : {K : Type 0} (t : ℕ) (o : Option (Asking K)) → is_for (λ (a : Asking K). nat_eq t a.opened) o ≡ true → (a : Asking K) × (o ≡ Some a) × (a.opened ≡ t)
passes t None e = cc
passes t (Some a) e = (a, refl, sym (eqb-true t a.opened e))

module _ {K V : Type 0} where
  -- an ask that a transaction lists is there, and of that transaction
  pub listed_asking : (R : List (Told K V)) (s : SessionsSeen K) (t i : ℕ) → SessionsStand R s → is_among s t i ≡ true → (a : Asking K) × (ask_at s i ≡ Some a) × (a.opened ≡ t)
  listed_asking R s t i st e = let p = passes t (live_at R i) (sym (st.among t i) ∙ e) in (p.0, st.asks i ∙ p.1, p.2)

  -- so is an ask that is still to be taken out, and it was live
  pub closing_asking : (R : List (Told K V)) (by t : ℕ) (rest : List ℕ) (s : SessionsSeen K) (i : ℕ) → Closing R by t rest s → has_ask rest i ≡ true → (a : Asking K) × (ask_at s i ≡ Some a) × (a.opened ≡ t) × (live_at R i ≡ Some a)
  closing_asking R by t rest s i c e = let p = passes t (live_at R i) (c.live i e) in (p.0, c.asks i ∙ (ap (λ b. cond b (live_at R i) (live_at (Close by t ∷ R) i)) e ∙ p.1), p.2, p.1)

  -- several events that change nothing of what is open, the newest first
  pub quiet_all : (es R : List (Told K V)) (s : SessionsSeen K) → AllByRecursion (λ (e : Told K V). moves_sessions e ≡ false) es → SessionsStand R s → SessionsStand (es ++ R) s
  quiet_all [] R s q st = st
  quiet_all (e ∷ es) R s q st = quiet_stands (es ++ R) e s q.0 (quiet_all es R s q.1 st)
