-- What a turn of the engine comes to for the driver's seat.
use Rattle.std.proofs.Common.{◌≡◌, ◌≤◌, ◌++◌, ◌∷◌, ℕ, Bool, true, false, cond, Result, Ok, Err, IfOk, OnErr, List, [], length, take, reverse, Some, IfSome, is_some, refl, sym, ap, ◌∙◌, subst, arith, append-nil, length-append}
use Rattle.std.specs.Arc.{arc_value}
use Rattle.std.specs.Map.{keys_of}
use Rattle.std.specs.List.{AllByRecursion}
use Rattle.dice_engine.specs.Seats.{EngineId}
use Rattle.dice_key.specs.declared.universe.Kind.TheVariants.{Injected}
use Rattle.dice_core.specs.Commits.{Fault, NotInjected, Twice, fault_of, IsFirstFault}
use Rattle.dice_core.specs.declared.commit.CommitRefusal.{CommitRefusal}
use Rattle.dice_core.specs.declared.commit.CommitRefusal.TheVariants as refusal
use Rattle.dice_run.specs.Commits.{AreDistinctSources}
use Rattle.dice_key.specs.declared.universe.NoMemory.{NoMemory}
use Rattle.dice_engine.specs.declared.promise.Transaction.{Transaction}
use Rattle.dice_run.specs.Looking.{Pledge}
use Rattle.journal.specs.declared.event.Told.{Told}
use Rattle.journal.specs.declared.event.Told.TheVariants.{Open, Close, Ask, Leave}
use Rattle.journal.specs.Events.{NotClosed, open_at, live_at, event_of}
use Rattle.journal.specs.Tell.{event_by}
use Rattle.turnstile.specs.Events.{events_by, AllBelow}
use Rattle.dice_engine.specs.Seats.{IsSeatOf, IsWriter}
use Rattle.dice_engine.specs.Turns.{log_of, newest_in, Later, Turn}
use Rattle.dice_engine.specs.Calls.{AddsNothing, Opens as OpensIn, Asks as AsksIn, Closes as ClosesIn, Leaves as LeavesIn, Commits as CommitsIn, differing_from}
use Rattle.dice_engine.specs.Conditions.{HasOpen, HasAsk}
use Rattle.dice_engine.proofs.Callers.{seat_later, same_number, same_writers, log_of_one, stands_longer, open_in_seen, live_in_seen}
use Rattle.dice_engine.proofs.Begun.{found_lawful}
use Rattle.action_digest.specs.declared.key.Key.{Key}
use Rattle.action_digest.specs.declared.value.Value.{Value}
use Rattle.action_digest.specs.Buck.{buck}
use Rattle.action_digest.specs.Same.{key_equal, value_equal}
use Rattle.dice_run.specs.Seats.{Place, log_in, IsOurs, Goes, Commits, Opens, Asks}
use Rattle.dice_run.proofs.Seating.{onward, still_asks}
use Rattle.lists.proofs.Distinct.{distinct_before}
use Rattle.lists.proofs.Each.{all_middle}
use Rattle.lists.specs.Lists.{AreDistinct}

abbrev Events : Type 0
Events = List (Told Key Value)

abbrev IsTurn : Place → Place → (Events → Events → Events → Type 0) → Type 0
IsTurn = Turn key_equal buck

below_first : (n : ℕ) (xs ys : Events) → AllBelow event_by n (xs ++ ys) → AllBelow event_by n xs
below_first n [] ys b = tt
below_first n (x ∷ xs) ys b = (b.0, below_first n xs ys b.1)

pub our_writer : (id : EngineId) (s : Place) → IsOurs id s → IsSeatOf id s × IsWriter s
our_writer id s o = (o.seat, (let a = o.number in let b = o.writers in omega arith))

pub later_ours : (id : EngineId) (s u : Place) → IsOurs id s → Later key_equal buck s u → IsOurs id u
later_ours id s u o l =
    let n : u.number ≡ 0 = same_number key_equal buck s u l ∙ o.number in
    let w : u.writers ≡ 1 = same_writers key_equal buck s u l ∙ o.writers in
    record {
      seat = seat_later key_equal buck id s u l o.seat;
      number = n;
      writers = w;
      lawful = l.lawful;
      mine = ap (λ m. events_by event_by m u.seen) (sym n) ∙ sym l.mine;
      below = subst (λ m. AllBelow event_by m u.seen) w l.below;
    }

pub our_log : (id : EngineId) (s : Place) → IsOurs id s → log_of s.seen ≡ log_in s
our_log id s o = sym (log_of_one s.seen o.below) ∙ ap log_of o.mine

take_first : (xs ys : Events) → take (length xs) (xs ++ ys) ≡ xs
take_first [] ys = refl
take_first (x ∷ xs) ys = ap (λ (zs : Events). x ∷ zs) (take_first xs ys)

module _ (id : EngineId) (s u : Place) (o : IsOurs id s) (P : Events → Events → Events → Type 0) (t : IsTurn s u P) where
  found_log : log_of t.found ≡ log_in s
  found_log =
      let b : AllBelow event_by 1 u.seen = (later_ours id s u o t.later).below in
      let c : AllBelow event_by 1 t.found = below_first 1 t.found _ (subst (AllBelow event_by 1) t.adds.journal b) in
      sym (log_of_one t.found c) ∙ ap log_of (ap (λ n. events_by event_by n t.found) (sym o.number) ∙ t.found_mine)

  found_longer : length s.seen ≤ length t.found
  found_longer = (let e : length t.found ≡ length (s.seen ++ t.begins.0) = ap length t.begins.1 in let l = length-append s.seen t.begins.0 in omega arith)

  -- the seat's own events before the end of what the turn found are those of before
  pub turn_before : (i : ℕ) → i ≡ length t.found → events_by event_by 0 (take i u.seen) ≡ s.mine
  turn_before i e =
      ap (λ n. events_by event_by 0 (take n u.seen)) e
      ∙ (ap (λ (J : Events). events_by event_by 0 (take (length t.found) J)) t.adds.journal
      ∙ (ap (events_by event_by 0) (take_first t.found _)
      ∙ (ap (λ n. events_by event_by n t.found) (sym o.number) ∙ t.found_mine)))

  pub turn_goes : (own : Events) → t.adds.own ≡ own → Goes id s u own
  turn_goes own e = record { ours = later_ours id s u o t.later; number = same_number key_equal buck s u t.later; begins = t.later.begins; mine = t.mine ∙ ap (λ es. s.mine ++ es) e }

  -- a transaction of the seat that it has not closed is open in the journal that the turn found
  found_open : (i v : ℕ) → HasOpen s i v → open_at (reverse t.found) i ≡ Some (record { by = s.number; version = v })
  found_open i v h =
      let f : Place = record s { seen = t.found } in
      open_in_seen key_equal buck f i v (found_lawful key_equal buck s u P t) t.found_mine (record { opening = stands_longer s.seen t.found i (Open s.number v) t.begins h.opening; not_closed = h.not_closed })

pub turn_commits : (id : EngineId) (s u : Place) (ps : List (Key × Value)) → (o : IsOurs id s) → IsTurn s u (λ found. CommitsIn key_equal value_equal buck s.number (log_of found) ps) → Commits id s u ps
turn_commits id s u ps o t =
    turn_goes id s u o _ t (event_of 0 (differing_from key_equal value_equal buck (log_in s) ps))
    (t.adds.did.0 ∙ (ap (λ n. event_of n (differing_from key_equal value_equal buck (log_of t.found) ps)) o.number
    ∙ ap (λ C. event_of 0 (differing_from key_equal value_equal buck C ps)) (found_log id s u o _ t)))

pub turn_opens : (id : EngineId) (s u : Place) (opened version : ℕ) → (o : IsOurs id s) → HasOpen u opened version → IsTurn s u (λ found own work. OpensIn s.number found own work × (version ≡ newest_in found) × (opened ≡ length found)) → Opens id s u opened version
turn_opens id s u opened version o h t = record {
  goes = turn_goes id s u o _ t (Open 0 version ∷ []) (t.adds.did.0.0 ∙ (ap (λ n. Open n (newest_in t.found) ∷ []) o.number ∙ ap (λ v. Open 0 v ∷ []) (sym t.adds.did.1)));
  newest = t.adds.did.1 ∙ ap length (found_log id s u o _ t);
  has = h;
  new = (let l = found_longer id s u o _ t in let e = t.adds.did.2 in omega arith);
  before = turn_before id s u o _ t opened t.adds.did.2;
}

pub turn_asks : (id : EngineId) (s u : Place) (ask opened version : ℕ) (k q : Key) → (o : IsOurs id s) → HasAsk u ask opened version q → (i v : ℕ) → opened ≡ i → q ≡ k → IsTurn s u (λ found own work. AsksIn s.number i v k own work × (ask ≡ length found)) → Asks id s u ask opened version q
turn_asks id s u ask opened version k q o h i v ei ek t = record {
  goes = turn_goes id s u o _ t (Ask 0 opened q ∷ []) (t.adds.did.0.0 ∙ (ap (λ n. Ask n i k ∷ []) o.number ∙ (ap (λ j. Ask 0 j k ∷ []) (sym ei) ∙ ap (λ j. Ask 0 opened j ∷ []) (sym ek))));
  has = h;
  new = (let l = found_longer id s u o _ t in let e = t.adds.did.1 in omega arith);
  before = turn_before id s u o _ t ask t.adds.did.1;
}

pub turn_closes : (id : EngineId) (s u : Place) (opened v : ℕ) → IsOurs id s → IsTurn s u (λ found. ClosesIn s.number opened v) → Goes id s u (Close 0 opened ∷ [])
turn_closes id s u opened v o t = turn_goes id s u o _ t (Close 0 opened ∷ []) (t.adds.did.0 ∙ ap (λ n. Close n opened ∷ []) o.number)

pub turn_leaves : (id : EngineId) (s u : Place) (ask opened v : ℕ) (k : Key) → IsOurs id s → HasAsk s ask opened v k → NotClosed opened s.mine → IsTurn s u (λ found. LeavesIn s.number ask opened v found) → Goes id s u (Leave 0 ask ∷ [])
turn_leaves id s u ask opened v k o h n t =
    let open_there = found_open id s u o _ t opened v (record { opening = h.opening; not_closed = n }) in
    let did = when_open (is_some (open_at (reverse t.found) opened)) _ _ (ap is_some open_there) t.adds.did in
    turn_goes id s u o _ t (Leave 0 ask ∷ []) (did.0 ∙ ap (λ m. Leave m ask ∷ []) o.number)
  where
    when_open : (b : Bool) (A B : Type 0) → b ≡ true → cond b A B → A
    when_open true A B e x = x
    when_open false A B e x = (let z : false ≡ true = e in cc)

-- a turn that adds nothing
pub turn_rests : (id : EngineId) (s u : Place) → IsOurs id s → IsTurn s u (λ found. AddsNothing) → Goes id s u []
turn_rests id s u o t = turn_goes id s u o _ t [] t.adds.did.0

pub opens_if : (id : EngineId) (s u : Place) → IsOurs id s → (r : Result Transaction NoMemory) → IfOk r (λ t. IsTurn s u (λ found own work. OpensIn s.number found own work × (t.version ≡ newest_in found) × (t.opened ≡ length found)))
    → IfOk r (λ t. HasOpen u t.opened t.version) → IfOk r (λ t. Opens id s u t.opened t.version)
opens_if id s u o (Ok t) p h = turn_opens id s u t.opened t.version o h p
opens_if id s u o (Err e) p h = tt

pub asks_if : (id : EngineId) (s u : Place) (i v : ℕ) (k : Key) → IsOurs id s → (r : Result Pledge NoMemory) → IfOk r (λ p. IsTurn s u (λ found own work. AsksIn s.number i v k own work × (p.ask ≡ length found)))
    → IfOk r (λ p. (p.version ≡ v) × (p.opened ≡ i) × (arc_value p.key ≡ k)) → IfOk r (λ p. HasAsk u p.ask p.opened p.version (arc_value p.key)) → IfOk r (λ p. Asks id s u p.ask p.opened p.version (arc_value p.key))
asks_if id s u i v k o (Ok p) t n h = turn_asks id s u p.ask p.opened p.version k (arc_value p.key) o h i v n.1 n.2 t
asks_if id s u i v k o (Err e) t n h = tt

pub later_goes : (id : EngineId) (s u : Place) → IsOurs id s → Later key_equal buck s u → u.mine ≡ s.mine → Goes id s u []
later_goes id s u o l e = record { ours = later_ours id s u o l; number = same_number key_equal buck s u l; begins = l.begins; mine = e ∙ sym (append-nil s.mine) }

pub later_log : (id : EngineId) (s u : Place) → IsOurs id s → Later key_equal buck s u → u.mine ≡ s.mine → log_of u.seen ≡ log_in s
later_log id s u o l e = our_log id u (later_ours id s u o l) ∙ ap log_of e

-- an ask of the seat, in a transaction that it has not closed, is live after a wait
pub later_live : (id : EngineId) (s u : Place) (ask opened v : ℕ) (k : Key) → IsOurs id s → Later key_equal buck s u → u.mine ≡ s.mine → HasAsk s ask opened v k → NotClosed opened s.mine → live_at (reverse u.seen) ask ≡ Some (record { by = u.number; opened = opened; key = k })
later_live id s u ask opened v k o l e h n =
    live_in_seen key_equal buck u ask opened v k l.lawful (sym l.mine) (still_asks s u [] (onward id s u [] (later_goes id s u o l e)) ask opened v k tt h) (subst (NotClosed opened) (sym e) n)

-- whatever a call answered, its turn leaves the seat ours
pub either_ours : {A E : Type 0} (id : EngineId) (s u : Place) → IsOurs id s → (r : Result A E) (P : A → Events → Events → Events → Type 0) (Q : Events → Events → Events → Type 0) → IfOk r (λ a. IsTurn s u (P a)) → OnErr r (IsTurn s u Q) → IsOurs id u
either_ours id s u o (Ok a) P Q p q = later_ours id s u o p.later
either_ours id s u o (Err e) P Q p q = later_ours id s u o q.later

-- ---- a refusal of distinct sources is `NoMemory`

all_keys : (P : Key → Type 0) (ps : List (Key × Value)) → AllByRecursion (λ (p : Key × Value). P p.0) ps → AllByRecursion P (keys_of ps)
all_keys P [] a = tt
all_keys P (p ∷ ps) a = (a.0, all_keys P ps a.1)

no_fault : (ps : List (Key × Value)) → AreDistinctSources ps → (f : Fault Key) → IsFirstFault buck (keys_of ps) f → ⊥
no_fault ps d (NotInjected k) f =
    f.fault (all_middle (λ (q : Key). buck.kind q ≡ Injected) f.before f.later k (subst (AllByRecursion (λ (q : Key). buck.kind q ≡ Injected)) f.all (all_keys (λ (q : Key). buck.kind q ≡ Injected) ps d.sources)))
no_fault ps d (Twice k) f = distinct_before f.before f.later k (subst AreDistinct f.all d.distinct) f.fault.1

abbrev pub is_memory : {U K V R : Type 0} → CommitRefusal U K V R → Bool
is_memory (refusal.NotInjected k) = false
is_memory (refusal.Twice k) = false
is_memory refusal.NoMemory = true

pub memory_alone : {U R : Type 0} (ps : List (Key × Value)) → AreDistinctSources ps → (e : CommitRefusal U Key Value R) → IfSome (fault_of e) (IsFirstFault buck (keys_of ps)) → is_memory e ≡ true
memory_alone ps d (refusal.NotInjected k) f = absurd (no_fault ps d (NotInjected (arc_value k.now)) f)
memory_alone ps d (refusal.Twice k) f = absurd (no_fault ps d (Twice (arc_value k.now)) f)
memory_alone ps d refusal.NoMemory f = refl
