-- What the turns of a session's seat do.
use Rattle.std.proofs.Common.{◌≡◌, ◌<◌, ◌++◌, ◌∷◌, ℕ, zero, suc, Bool, List, [], length, map, get_or, arith, reverse, Option, Some, None, refl, sym, ap, ◌∙◌, subst, append-nil, append_assoc}
use Rattle.std.specs.Prelude.{Result, Ok, Err, OnOk, OnErr, IfOk, IfErr, IfSome, cond, true, false}
use Rattle.std.specs.Arc.{arc_value}
use Rattle.std.specs.List.{AllZip}
use Rattle.std.specs.declared.sync.Arc.{Arc}
use Rattle.std.specs.declared.vec.Vec.{Vec}
use Rattle.dice_engine.specs.Seats.{EngineId}
use Rattle.dice_key.specs.Meaning.{Meaning}
use Rattle.journal.specs.declared.event.Told.{Told}
use Rattle.journal.specs.declared.event.Told.TheVariants.{Open, Close, Ask, Leave}
use Rattle.journal.specs.Events.{NotClosed, live_at, event_of, NotLeft}
use Rattle.journal.specs.Tell.{event_by}
use Rattle.turnstile.specs.Events.{StartsWith, events_by, AllBelow}
use Rattle.dice_engine.specs.Seats.{SeatView, first_seat}
use Rattle.dice_core.specs.declared.commit.CommitRefusal.{CommitRefusal}
use Rattle.dice_core.specs.Commits.{Fault, fault_of}
use Rattle.dice_engine.specs.Turns.{log_of, newest_in, Later, Turn}
use Rattle.dice_engine.specs.Rises.{log_of-append}
use Rattle.dice_engine.specs.Calls.{AddsNothing, AreDrops, Opens, Asks, Leaves, Closes, Commits, differing_from}
use Rattle.dice_engine.specs.Conditions.{HasOpen, HasAsk, SawAsk}
use Rattle.dice_engine.specs.Seating.{GivesSeats}
use Rattle.dice_engine.specs.declared.promise.Promise.{Promise}
use Rattle.dice_engine.specs.declared.promise.Transaction.{Transaction}
use Rattle.dice_engine.proofs.Callers.{seat_later, same_number, same_writers, log_of_one, ask_later, live_in_seen, turn_open, turn_ask, open_after_work, saw_own}
use Rattle.dice_session.specs.Sole.{IsSole, IsReady, Goes, IsOpen, IsAsked, AreAsked}
use Rattle.dice_session.specs.Sole.{Asks as AsksOn}
use Rattle.dice_session.specs.declared.session.Found.{Found}
use Rattle.dice_session.specs.declared.refusal.CommitError.{CommitError}
use Rattle.dice_session.specs.declared.refusal.CommitError.TheVariants as error
use Rattle.dice_session.specs.Session.{SessionView, Rests, IsFound, IsOwned, fault_in, with_changes, committed}
use Rattle.dice_session.proofs.Zipped.{zipped_map, zipped_on}

below_first : {K V : Type 0} (n : ℕ) (xs ys : List (Told K V)) → AllBelow event_by n (xs ++ ys) → AllBelow event_by n xs
below_first n [] ys b = tt
below_first n (x ∷ xs) ys b = (b.0, below_first n xs ys b.1)

after_changes : {K V : Type 0} (n : ℕ) (C : List (List (K × V))) (c : List (K × V)) → C ++ log_of (event_of n c) ≡ with_changes C c
after_changes n C [] = append-nil C
after_changes n C (p ∷ c) = refl

-- a commit closes nothing
not_closed_by : {K V : Type 0} (i n : ℕ) (c : List (K × V)) → NotClosed i (event_of n c)
not_closed_by i n [] = tt
not_closed_by i n (p ∷ c) = tt

-- a leaving commits and closes nothing
leaves_open : {K V : Type 0} (i n ask v : ℕ) (b : Bool) (own work : List (Told K V)) → cond b ((own ≡ Leave n ask ∷ []) × AreDrops v work) (AddsNothing own work)
    → (log_of own ≡ []) × NotClosed i own
leaves_open i n ask v true own work h = subst (λ es. (log_of es ≡ []) × NotClosed i es) (sym h.0) (refl, tt)
leaves_open i n ask v false own work h = subst (λ es. (log_of es ≡ []) × NotClosed i es) (sym h.0) (refl, tt)

none_some : {X : Type 0} {x : X} → None ≡ Some x → ⊥
none_some e = cc

-- the first seat of an engine with one writer
pub first_sole : {K V : Type 0} (id : EngineId) → IsSole {K = K} {V = V} id (first_seat id 1)
first_sole id = record { seat = (refl, refl); number = refl; writers = refl; mine = refl; below = tt }

module _ {K V : Type 0} (id : EngineId) where
  -- a seat that gives seats away
  pub sole_gives : (s u : SeatView (Told K V)) → IsSole id s → GivesSeats s u → IsSole id u
  sole_gives s u o e = subst (IsSole id) (sym e) (record { seat = o.seat; number = o.number; writers = o.writers; mine = o.mine; below = o.below })

  pub sole_log : (s : SeatView (Told K V)) → IsSole id s → log_of s.seen ≡ log_of s.mine
  sole_log s o = sym (log_of_one s.seen o.below) ∙ ap log_of o.mine

  pub goes_rest : (s : SeatView (Told K V)) → IsSole id s → Goes id s s
  goes_rest s o = record { sole = o; begins = ([], sym (append-nil s.seen)); log = refl }

  pub goes_goes : (s t u : SeatView (Told K V)) → Goes id s t → Goes id t u → Goes id s u
  goes_goes s t u g h = record {
    sole = h.sole;
    begins = (g.begins.0 ++ h.begins.0, h.begins.1 ∙ (ap (λ l. l ++ h.begins.0) g.begins.1 ∙ append_assoc s.seen g.begins.0 h.begins.0));
    log = h.log ∙ g.log;
  }

  pub asks_rest : (s : SeatView (Told K V)) (t v : ℕ) → IsSole id s → IsOpen s t v → AsksOn id s s t v
  asks_rest s t v o n = record { goes = goes_rest s o; still = n; keeps = λ ask k h. h }

  pub asks_asks : (s t u : SeatView (Told K V)) (i v : ℕ) → AsksOn id s t i v → AsksOn id t u i v → AsksOn id s u i v
  asks_asks s t u i v g h = record { goes = goes_goes s t u g.goes h.goes; still = h.still; keeps = λ ask k a. h.keeps ask k (g.keeps ask k a) }

module _ {K V : Type 0} (eq : K → K → Bool) (m : Meaning K V) (id : EngineId) (s u : SeatView (Told K V)) (o : IsSole id s) where
  pub sole_later : Later eq m s u → IsSole id u
  sole_later l =
      let n : u.number ≡ 0 = same_number eq m s u l ∙ o.number in
      let w : u.writers ≡ 1 = same_writers eq m s u l ∙ o.writers in
      record {
        seat = seat_later eq m id s u l o.seat;
        number = n;
        writers = w;
        mine = ap (λ k. events_by event_by k u.seen) (sym n) ∙ sym l.mine;
        below = subst (λ k. AllBelow event_by k u.seen) w l.below;
      }

  -- turns without events of its own
  pub goes_work : Later eq m s u × (u.mine ≡ s.mine) → Goes id s u
  goes_work l = record {
    sole = sole_later l.0;
    begins = l.0.begins;
    log = sole_log id u (sole_later l.0) ∙ (ap log_of l.1 ∙ sym (sole_log id s o));
  }

  pub asks_work : (t v : ℕ) → IsOpen s t v → Later eq m s u × (u.mine ≡ s.mine) → AsksOn id s u t v
  asks_work t v n l =
      let g = goes_work l in
      record {
        goes = g;
        still = record { has = open_after_work eq m s u t v l n.has; newest = n.newest ∙ ap length (sym g.log) };
        keeps = λ ask k h. ask_later s u ask t v k (same_number eq m s u l.0) l.0.begins (subst (NotLeft ask) (sym l.1) h.not_left) h;
      }

  -- an ask in a transaction that is open is live after turns without events of its own
  pub not_gone : (ask opened v : ℕ) (k : K) → Later eq m s u × (u.mine ≡ s.mine) → HasAsk s ask opened v k → NotClosed opened s.mine → live_at (reverse u.seen) ask ≡ None → ⊥
  not_gone ask opened v k l h n gone =
      let a = ask_later s u ask opened v k (same_number eq m s u l.0) l.0.begins (subst (NotLeft ask) (sym l.1) h.not_left) h in
      none_some (sym gone ∙ live_in_seen eq m u ask opened v k l.0.lawful (sym l.0.mine) a (subst (NotClosed opened) (sym l.1) n))

module _ {K V : Type 0} (eq : K → K → Bool) (m : Meaning K V) (id : EngineId) (s u : SeatView (Told K V)) (o : IsSole id s)
    (P : List (Told K V) → List (Told K V) → List (Told K V) → Type 0) (t : Turn eq m s u P) where
  log_added : (own : List (Told K V)) → t.adds.own ≡ own → log_of u.seen ≡ log_of s.seen ++ log_of own
  log_added own e =
      sole_log id u (sole_later eq m id s u o t.later)
      ∙ (ap log_of (t.mine ∙ ap (λ es. s.mine ++ es) e)
      ∙ (log_of-append s.mine own ∙ ap (λ C. C ++ log_of own) (sym (sole_log id s o))))

  -- a turn whose own events are no commit
  pub goes_turn : (own : List (Told K V)) → t.adds.own ≡ own → log_of own ≡ [] → Goes id s u
  goes_turn own e none = record {
    sole = sole_later eq m id s u o t.later;
    begins = t.later.begins;
    log = log_added own e ∙ (ap (λ C. log_of s.seen ++ C) none ∙ append-nil (log_of s.seen));
  }

  pub found_log : log_of t.found ≡ log_of s.seen
  found_log =
      let b : AllBelow event_by 1 u.seen = (sole_later eq m id s u o t.later).below in
      let c : AllBelow event_by 1 t.found = below_first 1 t.found _ (subst (AllBelow event_by 1) t.adds.journal b) in
      sym (log_of_one t.found c) ∙ (ap log_of (ap (λ n. events_by event_by n t.found) (sym o.number) ∙ t.found_mine) ∙ sym (sole_log id s o))

  -- a turn in a transaction, which it does not close, and without a commit
  pub asks_turn : (i v : ℕ) (own : List (Told K V)) → t.adds.own ≡ own → log_of own ≡ [] → NotClosed i own → ((ask : ℕ) → NotLeft ask own) → IsOpen s i v → AsksOn id s u i v
  asks_turn i v own e none closed left n =
      let g = goes_turn own e none in
      record {
        goes = g;
        still = record { has = turn_open eq m s u P t i v (subst (NotClosed i) (sym e) closed) n.has; newest = n.newest ∙ ap length (sym g.log) };
        keeps = λ ask k h. turn_ask eq m s u P t ask i v k (subst (NotLeft ask) (sym e) (left ask)) h;
      }

module _ {K V : Type 0} (eq : K → K → Bool) (m : Meaning K V) (id : EngineId) (s u : SeatView (Told K V)) (o : IsSole id s) where
  pub goes_nothing : Turn eq m s u (λ found. AddsNothing) → Goes id s u
  goes_nothing t = goes_turn eq m id s u o _ t [] t.adds.did.0 refl

  pub asks_nothing : (i v : ℕ) → IsOpen s i v → Turn eq m s u (λ found. AddsNothing) → AsksOn id s u i v
  asks_nothing i v n t = asks_turn eq m id s u o _ t i v [] t.adds.did.0 refl tt (λ ask. tt) n

  abbrev pub IsOpening : ℕ → ℕ → Type 0
  IsOpening opened version = Turn eq m s u (λ found own work. Opens s.number found own work × (version ≡ newest_in found) × (opened ≡ length found))

  pub goes_open : (opened version : ℕ) → IsOpening opened version → Goes id s u
  goes_open opened version t = goes_turn eq m id s u o _ t (Open s.number (newest_in t.found) ∷ []) t.adds.did.0.0 refl

  pub is_open : (opened version : ℕ) → IsOpening opened version → HasOpen u opened version → IsOpen u opened version
  is_open opened version t h = record {
    has = h;
    newest = t.adds.did.1 ∙ ap length (found_log eq m id s u o _ t ∙ sym (goes_open opened version t).log);
  }

  module _ (opened version ask v : ℕ) (t : Turn eq m s u (λ found. Leaves s.number ask opened v found)) where
    left_so : (log_of t.adds.own ≡ []) × NotClosed opened t.adds.own
    left_so = leaves_open opened s.number ask v _ t.adds.own t.adds.work t.adds.did

    pub goes_leave : Goes id s u
    goes_leave = goes_turn eq m id s u o _ t t.adds.own refl left_so.0

    pub still_leave : IsOpen s opened version → IsOpen u opened version
    still_leave n = record { has = turn_open eq m s u _ t opened version left_so.1 n.has; newest = n.newest ∙ ap length (sym goes_leave.log) }

  -- a transaction that is kept stays open in turns that add nothing
  pub ready_nothing : (kept : Option Transaction) → IfSome kept (λ t. IsOpen s t.opened t.version) → Turn eq m s u (λ found. AddsNothing) → IsReady id u kept
  ready_nothing None h t = record { sole = (goes_nothing t).sole; still = tt }
  ready_nothing (Some k) h t = record { sole = (goes_nothing t).sole; still = (asks_nothing k.opened k.version h t).still }

  pub goes_close : (opened version : ℕ) → Turn eq m s u (λ found. Closes s.number opened version) → Goes id s u
  goes_close opened version t = goes_turn eq m id s u o _ t (Close s.number opened ∷ []) t.adds.did.0 refl

  pub asks_ask : (opened version ask : ℕ) (k : K) → IsOpen s opened version → Turn eq m s u (λ found own work. Asks s.number opened version k own work × (ask ≡ length found)) → AsksOn id s u opened version
  asks_ask opened version ask k n t = asks_turn eq m id s u o _ t opened version (Ask s.number opened k ∷ []) t.adds.did.0.0 refl tt (λ i. tt) n

  pub log_committed : (veq : V → V → Bool) (ps : List (K × V)) → Turn eq m s u (λ found. Commits eq veq m s.number (log_of found) ps) → log_of u.seen ≡ committed eq veq m (log_of s.seen) ps
  log_committed veq ps t =
      let D : List (List (K × V)) → List (K × V) = λ C. differing_from eq veq m C ps in
      log_added eq m id s u o _ t (event_of s.number (D (log_of t.found))) t.adds.did.0
      ∙ (after_changes s.number (log_of s.seen) (D (log_of t.found)) ∙ ap (λ C. with_changes (log_of s.seen) (D C)) (found_log eq m id s u o _ t))

-- what a promise is of
module _ {U K V R : Type 0} where
  pub is_asked : (s : SeatView (Told K V)) (opened version : ℕ) (k : K) (p : Promise U K V R) → (p.version ≡ version) × (p.opened ≡ opened) × (arc_value p.key ≡ k) → HasAsk s p.ask p.opened p.version (arc_value p.key) → IsAsked s opened version k p
  is_asked s opened version k p n h =
      let a : HasAsk s p.ask opened p.version (arc_value p.key) = subst (λ i. HasAsk s p.ask i p.version (arc_value p.key)) n.1 h in
      let b : HasAsk s p.ask opened version (arc_value p.key) = subst (λ v. HasAsk s p.ask opened v (arc_value p.key)) n.0 a in
      record { same_key = n.2; same_opened = n.1; same_version = n.0; has = subst (HasAsk s p.ask opened version) n.2 b }

  -- of an ask for its own key
  pub asked_own : (s : SeatView (Told K V)) (opened version : ℕ) (k : K) (p : Promise U K V R) → IsAsked s opened version k p → IsAsked s opened version (arc_value p.key) p
  asked_own s opened version k p a = record { same_key = refl; same_opened = a.same_opened; same_version = a.same_version; has = subst (HasAsk s p.ask opened version) (sym a.same_key) a.has }

  pub has_ask : (s : SeatView (Told K V)) (opened version : ℕ) (k : K) (p : Promise U K V R) → IsAsked s opened version k p → HasAsk s p.ask p.opened p.version (arc_value p.key)
  has_ask s opened version k p a =
      let b : HasAsk s p.ask opened version (arc_value p.key) = subst (HasAsk s p.ask opened version) (sym a.same_key) a.has in
      let c : HasAsk s p.ask opened p.version (arc_value p.key) = subst (λ v. HasAsk s p.ask opened v (arc_value p.key)) (sym a.same_version) b in
      subst (λ i. HasAsk s p.ask i p.version (arc_value p.key)) (sym a.same_opened) c

  pub saw_ask : (s : SeatView (Told K V)) (opened version : ℕ) (k : K) (p : Promise U K V R) → IsAsked s opened version k p → SawAsk s p.ask p.opened p.version (arc_value p.key)
  saw_ask s opened version k p a = saw_own s p.ask p.opened p.version (arc_value p.key) (has_ask s opened version k p a)

  pub asked_stays : (id : EngineId) (s u : SeatView (Told K V)) (opened version : ℕ) (k : K) (p : Promise U K V R) → AsksOn id s u opened version → IsAsked s opened version k p → IsAsked u opened version k p
  asked_stays id s u opened version k p g a = record { same_key = a.same_key; same_opened = a.same_opened; same_version = a.same_version; has = g.keeps p.ask k a.has }

-- what a call comes to, whether memory was refused or not
module _ {K V : Type 0} (eq : K → K → Bool) (m : Meaning K V) (id : EngineId) (s u : SeatView (Told K V)) (o : IsSole id s) where
  abbrev pub IsNothing : Type 0
  IsNothing = Turn eq m s u (λ found. AddsNothing)

  pub open_goes : {E : Type 0} (r : Result Transaction E) → IfOk r (λ t. IsOpening eq m id s u o t.opened t.version) → OnErr r IsNothing → Goes id s u
  open_goes (Ok t) k n = goes_open eq m id s u o t.opened t.version k
  open_goes (Err e) k n = goes_nothing eq m id s u o n

  pub open_is : {E : Type 0} (r : Result Transaction E) → IfOk r (λ t. IsOpening eq m id s u o t.opened t.version) → IfOk r (λ t. HasOpen u t.opened t.version) → IfOk r (λ t. IsOpen u t.opened t.version)
  open_is (Ok t) k h = is_open eq m id s u o t.opened t.version k h
  open_is (Err e) k h = tt

  module _ {U R E : Type 0} (opened version : ℕ) (k : K) where
    pub ask_goes : (r : Result (Promise U K V R) E) → IsOpen s opened version → IfOk r (λ p. Turn eq m s u (λ found own work. Asks s.number opened version k own work × (p.ask ≡ length found))) → OnErr r IsNothing → AsksOn id s u opened version
    ask_goes (Ok p) n t e = asks_ask eq m id s u o opened version p.ask k n t
    ask_goes (Err e) n t h = asks_nothing eq m id s u o opened version n h

    pub ask_is : (r : Result (Promise U K V R) E) → IfOk r (λ p. (p.version ≡ version) × (p.opened ≡ opened) × (arc_value p.key ≡ k)) → IfOk r (λ p. HasAsk u p.ask p.opened p.version (arc_value p.key)) → IfOk r (IsAsked u opened version k)
    ask_is (Ok p) n h = is_asked u opened version k p n h
    ask_is (Err e) n h = tt

  module _ (veq : V → V → Bool) (ps : List (K × V)) where
    abbrev pub IsCommitting : Type 0
    IsCommitting = Turn eq m s u (λ found. Commits eq veq m s.number (log_of found) ps)

    pub commit_sole : {A E : Type 0} (r : Result A E) → OnOk r IsCommitting → OnErr r IsNothing → IsSole id u
    commit_sole (Ok a) t n = sole_later eq m id s u o t.later
    commit_sole (Err e) t n = sole_later eq m id s u o n.later

    pub commit_open : {A E : Type 0} (r : Result A E) → OnOk r IsCommitting → OnErr r IsNothing → (i v : ℕ) → HasOpen s i v → HasOpen u i v
    commit_open (Ok a) t n i v h = turn_open eq m s u _ t i v (subst (NotClosed i) (sym t.adds.did.0) (not_closed_by i s.number (differing_from eq veq m (log_of t.found) ps))) h
    commit_open (Err e) t n i v h = turn_open eq m s u _ n i v (subst (NotClosed i) (sym n.adds.did.0) tt) h

    pub commit_begins : {A E : Type 0} (r : Result A E) → OnOk r IsCommitting → OnErr r IsNothing → StartsWith u.seen s.seen
    commit_begins (Ok a) t n = t.later.begins
    commit_begins (Err e) t n = n.later.begins

  module _ {U R : Type 0} (veq : V → V → Bool) (ps : List (K × V)) where
    pub commit_log : (made : Result ℕ (CommitRefusal U K V R)) (r : Result ℕ (CommitError U K V R)) → IsOwned made r → OnOk made (IsCommitting veq ps) → OnOk r (log_of u.seen ≡ committed eq veq m (log_of s.seen) ps)
    commit_log (Ok v) (Ok w) h t = log_committed eq m id s u o veq ps t
    commit_log (Ok v) (Err e) h t = tt
    commit_log (Err f) (Ok w) h t = absurd h
    commit_log (Err f) (Err e) h t = tt

    pub commit_rests : (made : Result ℕ (CommitRefusal U K V R)) (r : Result ℕ (CommitError U K V R)) → IsOwned made r → OnErr made IsNothing → OnErr r (log_of u.seen ≡ log_of s.seen)
    commit_rests (Ok v) (Ok w) h t = tt
    commit_rests (Ok v) (Err e) h t = absurd h
    commit_rests (Err f) (Ok w) h t = tt
    commit_rests (Err f) (Err e) h t = (goes_nothing eq m id s u o t).log

-- what the session's result tells is what the engine's does
module _ {U K V R : Type 0} where
  pub owned_ok : (X : Type 0) (made : Result ℕ (CommitRefusal U K V R)) (r : Result ℕ (CommitError U K V R)) → IsOwned made r → OnOk made X → OnOk r X
  owned_ok X (Ok v) (Ok w) h x = x
  owned_ok X (Ok v) (Err e) h x = tt
  owned_ok X (Err f) (Ok w) h x = absurd h
  owned_ok X (Err f) (Err e) h x = tt

  pub owned_version : (n : ℕ) (made : Result ℕ (CommitRefusal U K V R)) (r : Result ℕ (CommitError U K V R)) → IsOwned made r → IfOk made (λ v. v ≡ n) → IfOk r (λ v. v ≡ n)
  owned_version n (Ok v) (Ok w) h x = h ∙ x
  owned_version n (Ok v) (Err e) h x = tt
  owned_version n (Err f) (Ok w) h x = absurd h
  owned_version n (Err f) (Err e) h x = tt

  one_fault : (P : Fault K → Type 0) (f : CommitRefusal U K V R) (e : CommitError U K V R) → IfSome (fault_in e) (λ a. fault_of f ≡ Some a) → IfSome (fault_of f) P → IfSome (fault_in e) P
  one_fault P f (error.NotInjected k) h x = subst (λ a. IfSome a P) h x
  one_fault P f (error.Twice k) h x = subst (λ a. IfSome a P) h x
  one_fault P f error.NoMemory h x = tt

  pub owned_fault : (P : Fault K → Type 0) (made : Result ℕ (CommitRefusal U K V R)) (r : Result ℕ (CommitError U K V R)) → IsOwned made r → IfErr made (λ f. IfSome (fault_of f) P) → IfErr r (λ e. IfSome (fault_in e) P)
  owned_fault P (Ok v) (Ok w) h x = tt
  owned_fault P (Ok v) (Err e) h x = absurd h
  owned_fault P (Err f) (Ok w) h x = tt
  owned_fault P (Err f) (Err e) h x = one_fault P f e h x

-- the session as its caller sees it, after turns that committed nothing
pub rests_goes : {K V : Type 0} (id : EngineId) (s u : SeatView (Told K V)) (ps : List (K × V)) (X : SessionView K V) → record { commits = log_of s.seen; changes = ps; events = s.seen } ≡ X → Goes id s u
    → Rests X (record { commits = log_of u.seen; changes = ps; events = u.seen })
rests_goes id s u ps X e g = subst (λ Y. Rests Y (record { commits = log_of u.seen; changes = ps; events = u.seen })) e (record { commits = g.log; changes = refl; events = g.begins })

-- promises side by side with their keys
module _ {U K V R : Type 0} (s : SeatView (Told K V)) (opened version : ℕ) where
  pub are_asked : {A : Type 0} (ks : List (Arc K A)) (ps : List (Promise U K V R)) → AllZip (λ k p. IsAsked s opened version (arc_value k) p) ks ps → AreAsked s opened version ps
  are_asked [] [] z = tt
  are_asked [] (p ∷ ps) z = absurd z
  are_asked (k ∷ ks) [] z = absurd z
  are_asked (k ∷ ks) (p ∷ ps) z = (record { same_key = refl; same_opened = z.0.same_opened; same_version = z.0.same_version; has = subst (HasAsk s p.ask opened version) (sym z.0.same_key) z.0.has }, are_asked ks ps z.1)

  -- the promise at a place
  pub asked_at : (ps : List (Promise U K V R)) → AreAsked s opened version ps → (i : ℕ) → i < length ps → (p : Promise U K V R) → p ≡ get_or ps i p → IsAsked s opened version (arc_value p.key) p
  asked_at [] a i l p e = absurd (omega arith)
  asked_at (q ∷ ps) a zero l p e = subst (λ z. IsAsked s opened version (arc_value z.key) z) (sym e) a.0
  asked_at (q ∷ ps) a (suc i) l p e = asked_at ps a.1 i (omega arith) p e

-- what keys came to, side by side with them
module _ {U K V R A B E : Type 0} (eq : K → K → Bool) (m : Meaning K V) where
  pub all_found : (r : Result (Vec (Found U K V R) A) E) (C D : List (List (K × V))) → C ≡ D → (xs ys : List (Arc K B)) → ys ≡ xs → (ks : List K) → map arc_value xs ≡ ks
      → IfOk r (λ v. AllZip (λ k f. IsFound eq m C (arc_value k) f) ys v.items) → IfOk r (λ v. AllZip (IsFound eq m D) ks v.items)
  all_found (Ok v) C D c xs ys e ks k z =
      let a : AllZip (λ k f. IsFound eq m D (arc_value k) f) ys v.items = subst (λ C. AllZip (λ k f. IsFound eq m C (arc_value k) f) ys v.items) c z in
      let b : AllZip (λ k f. IsFound eq m D (arc_value k) f) xs v.items = subst (λ zs. AllZip (λ k f. IsFound eq m D (arc_value k) f) zs v.items) e a in
      subst (λ ks. AllZip (IsFound eq m D) ks v.items) k (zipped_map arc_value (IsFound eq m D) xs v.items b)
  all_found (Err h) C D c xs ys e ks k z = tt

  pub found_of_asked : (r : Result (Vec (Found U K V R) A) E) (s : SeatView (Told K V)) (opened version : ℕ) (C D : List (List (K × V))) → C ≡ D → (ks : List (Arc K B)) (ps qs : List (Promise U K V R)) → qs ≡ ps
      → AllZip (λ k p. IsAsked s opened version (arc_value k) p) ks ps → IfOk r (λ v. AllZip (λ p f. IsFound eq m C (arc_value p.key) f) qs v.items) → IfOk r (λ v. AllZip (λ k f. IsFound eq m D (arc_value k) f) ks v.items)
  found_of_asked (Ok v) s opened version C D c ks ps qs e z f =
      let a : AllZip (λ p f. IsFound eq m D (arc_value p.key) f) qs v.items = subst (λ C. AllZip (λ p f. IsFound eq m C (arc_value p.key) f) qs v.items) c f in
      let b : AllZip (λ p f. IsFound eq m D (arc_value p.key) f) ps v.items = subst (λ zs. AllZip (λ p f. IsFound eq m D (arc_value p.key) f) zs v.items) e a in
      zipped_on (λ k p. IsAsked s opened version (arc_value k) p) (λ p f. IsFound eq m D (arc_value p.key) f) (λ k f. IsFound eq m D (arc_value k) f) (λ k p f i h. subst (λ k. IsFound eq m D k f) i.same_key h) ks ps v.items z b
  found_of_asked (Err h) s opened version C D c ks ps qs e z f = tt

-- at another place
pub moved : {X Y : Type 0} (P : X → Y → Type 0) (a b : X) (v w : Y) → a ≡ b → v ≡ w → P a v → P b w
moved P a b v w e f p = subst (λ y. P b y) f (subst (λ x. P x v) e p)
