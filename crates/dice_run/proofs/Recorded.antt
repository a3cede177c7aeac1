-- What the lines of a script add to the seat's own events.
use Rattle.std.proofs.Common.{◌≡◌, ◌≢◌, ◌<◌, zero, suc, ◌⊎◌, inl, inr, ℕ, Bool, true, false, cond, nat_eq, List, [], ◌∷◌, ◌++◌, length, take, filter, Option, Some, None, refl, sym, ap, ◌∙◌, subst, arith, append-nil}
use Rattle.std.specs.Option.{option_map}
use Rattle.std.specs.HashMap.{get}
use Rattle.std.specs.Str.{bytes_eq}
use Rattle.std.specs.Arc.{arc_value}
use Rattle.std.specs.Cmp.Lexicographic.{pointwise}
use Rattle.dice_engine.specs.Seats.{EngineId}
use Rattle.dice_key.specs.declared.universe.Kind.TheVariants.{Injected}
use Rattle.journal.specs.declared.event.Told.{Told}
use Rattle.journal.specs.declared.event.Told.TheVariants as told
use Rattle.journal.specs.Events.{NotClosed, event_of, StandsAt}
use Rattle.journal.specs.Tell.{event_by}
use Rattle.turnstile.specs.Events.{StartsWith, events_by, has_number, AllBelow}
use Rattle.dice_engine.specs.Calls.{differing_from}
use Rattle.dice_engine.specs.declared.promise.Transaction.{Transaction}
use Rattle.dice_engine.proofs.Callers.{stands_longer}
use Rattle.dice_engine.proofs.Indices.{closed_free, free_closed}
use Rattle.script.specs.declared.line.Line.{Line}
use Rattle.script.specs.declared.line.Line.TheVariants as line
use Rattle.script.specs.declared.line.Request.{Request}
use Rattle.script.specs.declared.fate.Fate.{Fate}
use Rattle.script.specs.declared.fate.Fate.TheVariants as fate
use Rattle.script.specs.declared.requests.Asked.{Asked}
use Rattle.script.specs.Past.{Past, Table, with_entry, nothing, after, fate_of, come_to, left_by, given_up, made_in, is_cancelled}
use Rattle.script.specs.Order.{IsNew}
use Rattle.script.specs.Plan.{Ends, Plan, Planned, Wish, Digest, Text, no_plan, wanted, planned}
use Rattle.action_digest.specs.declared.key.Key.{Key}
use Rattle.action_digest.specs.declared.key.Key.TheVariants as key
use Rattle.action_digest.specs.declared.value.Value.{Value}
use Rattle.action_digest.specs.Buck.{buck}
use Rattle.action_digest.specs.Same.{key_equal, value_equal}
use Rattle.script_trace.specs.Output.{log_of, pairs_of_changes, key_of}
use Rattle.dice_run.specs.Commits.{differs_from}
use Rattle.dice_run.specs.Seats.{Place, log_in, IsOurs, Goes}
use Rattle.script_trace.specs.Events.{Events, Indices, no_indices, IsNext, AddsLine, AddsLines, AddsAsk, IsDecidedIn, commit_events}
use Rattle.dice_run.specs.Looking.{Pledge, IsLive, WasDecided}
use Rattle.dice_run.specs.Driving.{Confirms, IsKnown, transaction_of, pledge_of, IsPending, IsAt, IsMade, Matches, KeepsNames, with_named, DidOpen, DidAsk, DidWait, was_told, is_told, DidCancel, DidClose, Starts}
use Rattle.dice_run.specs.Recording.{IsUnpolled, IsRecorded, KnowsIndices, Records, RecordsStep}
use Rattle.dice_run.specs.declared.driver.Driver.{Driver}
use Rattle.dice_run.proofs.Changing.{differing_same}
use Rattle.dice_run.proofs.Seating.{onward, begins_on, begins_itself, stands_below}
use Rattle.dice_run.proofs.Viewing.{live_on}
use Rattle.dice_run.proofs.Steps.{own_name, at_name, past_name, by_name, other_request, live_there}
use Rattle.lists.proofs.Members.{has_end, has_last, has_left}
use Rattle.lists.specs.Lists.{Has}
use Rattle.bulk_script.proofs.Blocks.{differ}
use Rattle.lists.proofs.Options.{none_some, some_same}

below_none : (n : ℕ) → n < 0 → ⊥
below_none n h = omega arith

-- the front of a longer list
pub take_longer : (n : ℕ) (xs ys : Events) → n < length xs → take n (xs ++ ys) ≡ take n xs
take_longer zero xs ys h = refl
take_longer (suc n) [] ys h = absurd (below_none (suc n) h)
take_longer (suc n) (x ∷ xs) ys h = ap (λ (zs : Events). x ∷ zs) (take_longer n xs ys (let e : length (x ∷ xs) ≡ suc (length xs) = refl in omega arith))

next_on : (I J own : Events) (e : Told Key Value) (i : ℕ) → StartsWith J I → IsNext I own e i → IsNext J own e i
next_on I J own e i b n = record {
  stands = stands_longer I J i e b n.stands;
  before = ap (λ (x : Events). events_by event_by 0 (take i x)) b.1 ∙ (ap (events_by event_by 0) (take_longer i I b.0 (stands_below I i e n.stands)) ∙ n.before);
}

-- ---- the beginning

pub records_first : (id : EngineId) (ls : List Line) (d : Driver) → Starts id d → Records ls ls d no_plan nothing
records_first id ls d s = record {
  indices = no_indices;
  knows = record {
    opened = λ t x h. absurd (none_some (sym (s.transactions t) ∙ h));
    asked = λ q x h. absurd (none_some (sym (s.promises q) ∙ h));
    closed = λ t h. absurd (none_some h);
    requests = λ r h. absurd h;
  };
  lines = λ J all m b h. subst (λ (own : Events). AddsLines J (is_cancelled ls) no_plan own no_indices ls all m) s.mine h;
}

-- ---- one line more

module _ (ls rest : List Line) (l : Line) (d e : Driver) (p : Plan) (past : Past) (r : Records ls (l ∷ rest) d p past) (begins : StartsWith e.seat.seen d.seat.seen) where
  pub records_on : (es : Events) (i : Indices) → ((J : Events) → StartsWith J e.seat.seen → AddsLine J p d.seat.mine r.indices l es i) → e.seat.mine ≡ d.seat.mine ++ es
      → KnowsIndices e (planned (is_cancelled ls) p l) (after past l) i → Records ls rest e (planned (is_cancelled ls) p l) (after past l)
  records_on es i adds mine knows = record {
    indices = i;
    knows = knows;
    lines = λ J all m s h. r.lines J all m (begins_on d.seat.seen e.seat.seen J s begins)
        (es, i, adds J s, subst (λ (own : Events). AddsLines J (is_cancelled ls) (planned (is_cancelled ls) p l) own i rest all m) mine h);
  }

pub decided_on : (I J : Events) (t v : ℕ) (k : Key) → StartsWith J I → WasDecided I t v k → WasDecided J t v k
decided_on I J t v k b w = record { earlier = w.earlier; begins = begins_on w.earlier I J b w.begins; opening = w.opening; open_ = w.open_; decided = w.decided }

-- a request that is recorded stays so
recorded_on : (I J : Events) (xs ys : List Pledge) (n m : Indices) (past new : Past) (r : Planned) → StartsWith J I → ((x : Pledge) → Has xs x → Has ys x) → m.opened r.transaction ≡ n.opened r.transaction → (past.opened r.transaction ≢ None → new.opened r.transaction ≢ None)
    → (fate_of new r.name ≡ Some fate.Answered → fate_of past r.name ≡ Some fate.Answered) → IsRecorded I xs n past r → IsRecorded J ys m new r
recorded_on I J xs ys n m past new r b more same known f i = record {
  transaction = i.transaction;
  opened = same ∙ i.opened;
  known = known i.known;
  decided = λ e. elim (i.decided (f e)) as (λ _. WasDecided J i.transaction r.version (key_of r.wish) ⊎ IsUnpolled ys i.transaction r) [
    | inl w ↦ inl (decided_on I J i.transaction r.version (key_of r.wish) b w)
    | inr u ↦ inr (record { pledge = u.pledge; has = more u.pledge u.has; opened = u.opened; version = u.version; key = u.key })
  ];
}

-- what is still to be polled is as it was
unpolled_same : (d e : Driver) → e.outlook.unpolled ≡ d.outlook.unpolled → (x : Pledge) → Has d.outlook.unpolled.items x → Has e.outlook.unpolled.items x
unpolled_same d e s x = subst (λ v. Has v.items x) (sym s)

outlook_same : (d e : Driver) → e.outlook ≡ d.outlook → (x : Pledge) → Has d.outlook.unpolled.items x → Has e.outlook.unpolled.items x
outlook_same d e s = unpolled_same d e (ap (λ o. o.unpolled) s)

-- ---- put, drop and commit

same_transaction : (d e : Driver) (k : KeepsNames d e) (t : List ℕ) → transaction_of e t ≡ transaction_of d t
same_transaction d e k t = ap (λ v. get (pointwise nat_eq) v t) k.transactions

same_pledge : (d e : Driver) (k : KeepsNames d e) (q : List ℕ) → pledge_of e q ≡ pledge_of d q
same_pledge d e k q = ap (λ v. get (pointwise nat_eq) v q) k.promises

knows_kept : (d e : Driver) (p o : Plan) (past new : Past) (n : Indices) (own : Events) → StartsWith e.seat.seen d.seat.seen → e.seat.mine ≡ d.seat.mine ++ own → KeepsNames d e → o.requests ≡ p.requests → new.opened ≡ past.opened → new.asked ≡ past.asked
    → KnowsIndices d p past n → KnowsIndices e o new n
knows_kept d e p o past new n own b mine k rs eo ea i = record {
  opened = λ t x h. i.opened t x (sym (same_transaction d e k t) ∙ h);
  asked = λ q x h. i.asked q x (sym (same_pledge d e k q) ∙ h);
  closed = λ t h. (let c = i.closed t (ap (λ (f : Table Bool). f t) (sym eo) ∙ h) in (c.0, c.1, subst (λ (xs : Events). Has xs (told.Close 0 c.0)) (sym mine) (has_left d.seat.mine own _ c.2)));
  requests = λ r h. recorded_on d.seat.seen e.seat.seen d.outlook.unpolled.items e.outlook.unpolled.items n n past new r b (outlook_same d e k.outlook) refl
      (λ g z. g (ap (λ (f : Table Bool). f r.transaction) (sym eo) ∙ z))
      (λ z. ap (λ (f : Table Asked). option_map (λ (a : Asked). a.fate) (f r.name)) (sym ea) ∙ z)
      (i.requests r (subst (λ (x : List Planned). Has x r) rs h));
}

pub put_records : (p : Plan) (past : Past) (path bytes : List ℕ) (d e : Driver) → e.seat ≡ d.seat → KeepsNames d e → RecordsStep p past (line.Put path bytes) d e
put_records p past path bytes d e seat k ls rest r =
    let b : StartsWith e.seat.seen d.seat.seen = ([], ap (λ (s : Place). s.seen) seat ∙ sym (append-nil d.seat.seen)) in
    let m : e.seat.mine ≡ d.seat.mine ++ [] = ap (λ (s : Place). s.mine) seat ∙ sym (append-nil d.seat.mine) in
    records_on ls rest (line.Put path bytes) d e p past r b [] r.indices (λ J s. (refl, refl)) m
    (knows_kept d e p (planned (is_cancelled ls) p (line.Put path bytes)) past (after past (line.Put path bytes)) r.indices [] b m k refl refl refl r.knows)

pub drop_records : (p : Plan) (past : Past) (path : List ℕ) (d e : Driver) → e.seat ≡ d.seat → KeepsNames d e → RecordsStep p past (line.Drop path) d e
drop_records p past path d e seat k ls rest r =
    let b : StartsWith e.seat.seen d.seat.seen = ([], ap (λ (s : Place). s.seen) seat ∙ sym (append-nil d.seat.seen)) in
    let m : e.seat.mine ≡ d.seat.mine ++ [] = ap (λ (s : Place). s.mine) seat ∙ sym (append-nil d.seat.mine) in
    records_on ls rest (line.Drop path) d e p past r b [] r.indices (λ J s. (refl, refl)) m
    (knows_kept d e p (planned (is_cancelled ls) p (line.Drop path)) past (after past (line.Drop path)) r.indices [] b m k refl refl refl r.knows)

-- the event of a commit, in the universe's terms and in the script's
commit_same : (C : List (List (Key × Value))) (g : List (Key × Value)) (p : Plan) → C ≡ log_of p.log → g ≡ pairs_of_changes p.gathered → event_of 0 (differing_from key_equal value_equal buck C g) ≡ commit_events p
commit_same C g p ec eg =
    ap (λ (C : List (List (Key × Value))). event_of 0 (filter (differs_from C) g)) ec
    ∙ (ap (λ (g : List (Key × Value)). event_of 0 (filter (differs_from (log_of p.log)) g)) eg
    ∙ ap (event_of 0) (differing_same p.log p.gathered))

pub commit_records : (id : EngineId) (p : Plan) (past : Past) (d e : Driver) → Matches id d p past → Goes id d.seat e.seat (event_of 0 (differing_from key_equal value_equal buck (log_in d.seat) d.gathered)) → KeepsNames d e → RecordsStep p past line.Commit d e
commit_records id p past d e m goes k ls rest r =
    let own = event_of 0 (differing_from key_equal value_equal buck (log_in d.seat) d.gathered) in
    records_on ls rest line.Commit d e p past r goes.begins own r.indices (λ J s. (commit_same (log_in d.seat) d.gathered p m.log m.gathered, refl)) goes.mine
    (knows_kept d e p (planned (is_cancelled ls) p line.Commit) past (after past line.Commit) r.indices own goes.begins goes.mine k refl refl refl r.knows)

-- ---- open

module _ (id : EngineId) (d e : Driver) (p : Plan) (past : Past) (t : List ℕ) (m : Matches id d p past) (new : past.opened t ≡ None) (x : DidOpen id t d e) where
  abbrev open_own : Events
  open_own = told.Open 0 x.transaction.version ∷ []

  knows_opened : (ends : Ends) (n : Indices) → KnowsIndices d p past n → KnowsIndices e (planned ends p (line.Open t)) (after past (line.Open t)) (record n { opened = with_entry t x.transaction.opened n.opened })
  knows_opened ends n i = record {
    opened = λ q y h. by_name t q _
        (λ s. ap (λ b. cond b (Some x.transaction.opened) (n.opened q)) (subst (λ u. bytes_eq u q ≡ true) (sym s) (own_name q))
        ∙ ap Some (ap (λ (z : Transaction). z.opened) (some_same (sym (at_name t (Some x.transaction) (transaction_of d)) ∙ (sym (x.transactions t) ∙ (ap (transaction_of e) s ∙ h))))))
        (λ f. ap (λ b. cond b (Some x.transaction.opened) (n.opened q)) f ∙ i.opened q y (sym (past_name t q (Some x.transaction) (transaction_of d) f) ∙ (sym (x.transactions q) ∙ h)));
    asked = λ q y h. i.asked q y (ap (λ v. get (pointwise nat_eq) v q) (sym x.promises) ∙ h);
    closed = λ u h. by_name t u _
        (λ s. absurd (true_none (sym (ap (λ b. cond b (Some true) (past.opened u)) (subst (λ w. bytes_eq w u ≡ true) (sym s) (own_name u))) ∙ h)))
        (λ f. (let c = i.closed u (sym (ap (λ b. cond b (Some true) (past.opened u)) f) ∙ h) in
        (c.0, ap (λ b. cond b (Some x.transaction.opened) (n.opened u)) f ∙ c.1, subst (λ (xs : Events). Has xs (told.Close 0 c.0)) (sym x.opens.goes.mine) (has_left d.seat.mine open_own _ c.2))));
    requests = λ r h. (let z = i.requests r h in
        let f = differ t r.transaction (λ s. z.known (ap past.opened (sym s) ∙ new)) in
        recorded_on d.seat.seen e.seat.seen d.outlook.unpolled.items e.outlook.unpolled.items n (record n { opened = with_entry t x.transaction.opened n.opened }) past (after past (line.Open t)) r x.opens.goes.begins
        (unpolled_same d e x.unpolled)
        (ap (λ b. cond b (Some x.transaction.opened) (n.opened r.transaction)) f) (λ g y. g (sym (ap (λ b. cond b (Some true) (past.opened r.transaction)) f) ∙ y)) (λ y. y) z);
  }
    where
      true_none : Some true ≡ Some false → ⊥
      true_none e = cc

  pub open_records : (version : ℕ) → x.transaction.version ≡ length p.log → RecordsStep p past (line.Open t) d e
  open_records version v ls rest r =
      records_on ls rest (line.Open t) d e p past r x.opens.goes.begins open_own (record r.indices { opened = with_entry t x.transaction.opened r.indices.opened })
      (λ J s. record {
        index = x.transaction.opened;
        next = next_on e.seat.seen J d.seat.mine (told.Open 0 (length p.log)) x.transaction.opened s (record {
          stands = subst (λ w. StandsAt e.seat.seen x.transaction.opened (told.Open 0 w)) v (subst (λ n. StandsAt e.seat.seen x.transaction.opened (told.Open n x.transaction.version)) x.opens.goes.ours.number x.opens.has.opening);
          before = x.opens.before;
        });
        adds = ap (λ w. told.Open 0 w ∷ []) v;
        indices = refl;
      })
      x.opens.goes.mine
      (knows_opened (is_cancelled ls) r.indices r.knows)

-- ---- ask and action

module _ (id : EngineId) (d e : Driver) (p : Plan) (past : Past) (r : Request) (w : Wish) (m : Matches id d p past) (new : IsNew past r) (x : DidAsk id r (key_of w) d e) where
  abbrev ask_own : Events
  ask_own = told.Ask 0 x.pledge.opened (arc_value x.pledge.key) ∷ []

  abbrev ask_indices : Indices → Indices
  ask_indices n = record n { asked = with_entry r.name x.pledge.ask n.asked }

  ask_transaction : (t : List ℕ) → transaction_of e t ≡ transaction_of d t
  ask_transaction t = ap (λ v. get (pointwise nat_eq) v t) x.transactions

  pending_now : (n : List ℕ) → bytes_eq r.name n ≡ true → fate_of (after past (line.Ask r)) n ≡ Some fate.Answered → ⊥
  pending_now n b h = no (sym (ap (λ c. option_map (λ (a : Asked). a.fate) (cond c (Some (made_in r.transaction)) (past.asked n))) b) ∙ h)
    where
      no : Some fate.Pending ≡ Some fate.Answered → ⊥
      no e = cc

  knows_asked : (ends : Ends) (n : Indices) → KnowsIndices d p past n → KnowsIndices e (planned ends p (line.Ask r)) (after past (line.Ask r)) (ask_indices n) × KnowsIndices e (planned ends p (line.Action r)) (after past (line.Action r)) (ask_indices n)
  knows_asked ends n i = (both (Digest r.label), both (Text r.label))
    where
      some_none : Some true ≡ None → ⊥
      some_none e = cc

      new_recorded : (wish : Wish) → IsRecorded e.seat.seen e.outlook.unpolled.items (ask_indices n) (after past (line.Ask r)) (wanted ends p r wish)
      new_recorded wish = record {
        transaction = x.transaction.opened;
        opened = i.opened r.transaction x.transaction x.held;
        known = λ h. some_none (sym new.opened ∙ h);
        decided = λ h. absurd (pending_now r.name (own_name r.name) h);
      }

      old_recorded : (s : Planned) → Has p.requests s → IsRecorded e.seat.seen e.outlook.unpolled.items (ask_indices n) (after past (line.Ask r)) s
      old_recorded s h =
          let f = other_request id d p past r.name s m new.free h in
          recorded_on d.seat.seen e.seat.seen d.outlook.unpolled.items e.outlook.unpolled.items n (ask_indices n) past (after past (line.Ask r)) s x.asks.goes.begins (outlook_same d e x.outlook) refl (λ g. g)
          (λ z. sym (ap (λ b. option_map (λ (a : Asked). a.fate) (cond b (Some (made_in r.transaction)) (past.asked s.name))) f) ∙ z) (i.requests s h)

      both : (wish : Wish) → KnowsIndices e (record p { requests = p.requests ++ wanted ends p r wish ∷ [] }) (after past (line.Ask r)) (ask_indices n)
      both wish = record {
        opened = λ t y h. i.opened t y (sym (ask_transaction t) ∙ h);
        asked = λ q y h. by_name r.name q _
            (λ s. ap (λ b. cond b (Some x.pledge.ask) (n.asked q)) (subst (λ u. bytes_eq u q ≡ true) (sym s) (own_name q))
            ∙ ap Some (ap (λ (z : Pledge). z.ask) (some_same (sym (at_name r.name (Some x.pledge) (pledge_of d)) ∙ (sym (x.promises r.name) ∙ (ap (pledge_of e) s ∙ h))))))
            (λ f. ap (λ b. cond b (Some x.pledge.ask) (n.asked q)) f ∙ i.asked q y (sym (past_name r.name q (Some x.pledge) (pledge_of d) f) ∙ (sym (x.promises q) ∙ h)));
        closed = λ t h. (let c = i.closed t h in (c.0, c.1, subst (λ (xs : Events). Has xs (told.Close 0 c.0)) (sym x.asks.goes.mine) (has_left d.seat.mine ask_own _ c.2)));
        requests = λ s h. elim (has_last p.requests (wanted ends p r wish) s h) as (λ _. IsRecorded e.seat.seen e.outlook.unpolled.items (ask_indices n) (after past (line.Ask r)) s) [
          | inl a ↦ old_recorded s a
          | inr b ↦ subst (IsRecorded e.seat.seen e.outlook.unpolled.items (ask_indices n) (after past (line.Ask r))) b (new_recorded wish)
        ];
      }

  ask_adds : (n : Indices) → KnowsIndices d p past n → (J : Events) → StartsWith J e.seat.seen → AddsAsk J d.seat.mine n r (key_of w) ask_own (ask_indices n)
  ask_adds n i J s = record {
    transaction = x.transaction.opened;
    opened = i.opened r.transaction x.transaction x.held;
    index = x.pledge.ask;
    next = next_on e.seat.seen J d.seat.mine (told.Ask 0 x.transaction.opened (key_of w)) x.pledge.ask s (record {
      stands = subst (λ k. StandsAt e.seat.seen x.pledge.ask (told.Ask 0 x.transaction.opened k)) x.key
          (subst (λ o. StandsAt e.seat.seen x.pledge.ask (told.Ask 0 o (arc_value x.pledge.key))) x.opened
          (subst (λ b. StandsAt e.seat.seen x.pledge.ask (told.Ask b x.pledge.opened (arc_value x.pledge.key))) x.asks.goes.ours.number x.asks.has.asked));
      before = x.asks.before;
    });
    adds = ap (λ o. told.Ask 0 o (arc_value x.pledge.key) ∷ []) x.opened ∙ ap (λ k. told.Ask 0 x.transaction.opened k ∷ []) x.key;
    indices = refl;
  }

pub ask_records : (id : EngineId) (p : Plan) (past : Past) (r : Request) (d e : Driver) → Matches id d p past → IsNew past r → DidAsk id r (key.Digest r.label) d e → RecordsStep p past (line.Ask r) d e
ask_records id p past r d e m new x ls rest z =
    records_on ls rest (line.Ask r) d e p past z x.asks.goes.begins (ask_own id d e p past r (Digest r.label) m new x) (ask_indices id d e p past r (Digest r.label) m new x z.indices)
    (ask_adds id d e p past r (Digest r.label) m new x z.indices z.knows) x.asks.goes.mine (knows_asked id d e p past r (Digest r.label) m new x (is_cancelled ls) z.indices z.knows).0

pub action_records : (id : EngineId) (p : Plan) (past : Past) (r : Request) (d e : Driver) → Matches id d p past → IsNew past r → DidAsk id r (key.Action r.label) d e → RecordsStep p past (line.Action r) d e
action_records id p past r d e m new x ls rest z =
    records_on ls rest (line.Action r) d e p past z x.asks.goes.begins (ask_own id d e p past r (Text r.label) m new x) (ask_indices id d e p past r (Text r.label) m new x z.indices)
    (ask_adds id d e p past r (Text r.label) m new x z.indices z.knows) x.asks.goes.mine (knows_asked id d e p past r (Text r.label) m new x (is_cancelled ls) z.indices z.knows).1

-- ---- wait

computed : (w : Wish) → buck.kind (key_of w) ≢ Injected
computed (Digest l) e = cc
computed (Text l) e = cc

-- a transaction that the seat has not closed is not closed in what it has seen
events_have : (J : Events) (e : Told Key Value) → Has J e → has_number 0 (event_by e) ≡ true → Has (events_by event_by 0 J) e
events_have [] e h n = absurd h
events_have (x ∷ J) e (inl s) n = subst (λ (b : Bool). Has (cond b (x ∷ events_by event_by 0 J) (events_by event_by 0 J)) e) (sym (ap (λ (y : Told Key Value). has_number 0 (event_by y)) s ∙ n)) (inl s)
events_have (x ∷ J) e (inr h) n = by_number (has_number 0 (event_by x)) (events_have J e h n)
  where
    by_number : (b : Bool) → Has (events_by event_by 0 J) e → Has (cond b (x ∷ events_by event_by 0 J) (events_by event_by 0 J)) e
    by_number true g = inr g
    by_number false g = g

close_by_zero : (J : Events) (by t : ℕ) → AllBelow event_by 1 J → Has J (told.Close by t) → by ≡ 0
close_by_zero [] by t b h = absurd h
close_by_zero (x ∷ J) by t b (inl s) = below (subst (λ (y : Told Key Value). AllBelow event_by 1 (y ∷ [])) s (b.0, tt)).0
  where
    below : by < 1 → by ≡ 0
    below l = omega arith
close_by_zero (x ∷ J) by t b (inr h) = close_by_zero J by t b.1 h

pub unclosed_seen : (id : EngineId) (s : Place) (t : ℕ) → IsOurs id s → NotClosed t s.mine → NotClosed t s.seen
unclosed_seen id s t o n = free_closed t s.seen (λ by h.
    let z = close_by_zero s.seen by t o.below h in
    let g : Has s.seen (told.Close 0 t) = subst (λ b. Has s.seen (told.Close b t)) z h in
    closed_free t s.mine n 0 (subst (λ (xs : Events). Has xs (told.Close 0 t)) o.mine (events_have s.seen (told.Close 0 t) g refl)))

-- a promise whose key is decided while it is live
pub decided_live : (id : EngineId) (s : Place) (x : Pledge) → IsOurs id s → IsLive s x → IsDecidedIn s.seen x.version (arc_value x.key) → WasDecided s.seen x.opened x.version (arc_value x.key)
decided_live id s x o l d = record {
  earlier = s.seen;
  begins = begins_itself s.seen;
  opening = subst (λ n. StandsAt s.seen x.opened (told.Open n x.version)) o.number l.asks.opening;
  open_ = unclosed_seen id s x.opened o l.open_;
  decided = d;
}

-- of another transaction, version and key, which are the same
decided_as : (x : Pledge) (t v : ℕ) (k : Key) (J : Events) → x.opened ≡ t → x.version ≡ v → arc_value x.key ≡ k → WasDecided J x.opened x.version (arc_value x.key) → WasDecided J t v k
decided_as x t v k J et ev ek w =
    subst (λ n. WasDecided J n v k) et (subst (λ u. WasDecided J x.opened u k) ev (subst (WasDecided J x.opened x.version) ek w))

module _ (id : EngineId) (d e : Driver) (p : Plan) (past : Past) (q : List ℕ) (m : Matches id d p past) (alive : fate_of past q ≢ Some fate.Cancelled) where
  abbrev waits : Past
  waits = after past (line.Wait q)

  fate_other : (n : List ℕ) → bytes_eq q n ≡ false → fate_of waits n ≡ fate_of past n
  fate_other n f = ap (λ b. option_map (λ (a : Asked). a.fate) (cond b (come_to fate.Answered (past.asked n)) (past.asked n))) f

  dead : (r : Planned) → r.name ≡ q → (i : IsMade d past r) → i.asked.fate ≡ fate.Cancelled → ⊥
  dead r n i c = alive (ap (fate_of past) (sym n) ∙ (ap (option_map (λ (b : Asked). b.fate)) i.made ∙ ap Some c))

  -- it was answered before
  module _ (none : pledge_of d q ≡ None) (is : e ≡ d) where
    abbrev left : List Pledge
    left = d.outlook.unpolled.items

    was_recorded : (n : Indices) (r : Planned) → Has p.requests r → IsRecorded d.seat.seen left n past r → IsRecorded d.seat.seen left n waits r
    was_recorded n r h i = by_name q r.name _
        (λ s. record { transaction = i.transaction; opened = i.opened; known = i.known; decided = λ z. again (sym s) })
        (λ f. recorded_on d.seat.seen d.seat.seen left left n n past waits r (begins_itself d.seat.seen) (λ x g. g) refl (λ g. g) (λ z. sym (fate_other r.name f) ∙ z) i)
      where
        made : IsMade d past r
        made = m.requests r h

        at_fate : (f : Fate) → made.asked.fate ≡ f → r.name ≡ q → IsAt d r f → WasDecided d.seat.seen i.transaction r.version (key_of r.wish) ⊎ IsUnpolled left i.transaction r
        at_fate fate.Pending g s a = absurd (none_some (sym none ∙ (ap (pledge_of d) (sym s) ∙ a.held)))
        at_fate fate.Answered g s a = i.decided (ap (option_map (λ (b : Asked). b.fate)) made.made ∙ ap Some g)
        at_fate fate.Cancelled g s a = absurd (dead r s made g)

        again : r.name ≡ q → WasDecided d.seat.seen i.transaction r.version (key_of r.wish) ⊎ IsUnpolled left i.transaction r
        again s = at_fate made.asked.fate refl s made.at

    knows_was : (n : Indices) → KnowsIndices d p past n → KnowsIndices e p waits n
    knows_was n i = subst (λ (x : Driver). KnowsIndices x p waits n) (sym is) (record {
      opened = i.opened;
      asked = i.asked;
      closed = i.closed;
      requests = λ r h. was_recorded n r h (i.requests r h);
    })

  -- it is answered now
  module _ (x : Pledge) (held : pledge_of d q ≡ Some x) (goes : Goes id d.seat e.seat []) (known : IsKnown x d e)
      (promises : (n : List ℕ) → pledge_of e n ≡ with_named q None (pledge_of d) n) (transactions : e.transactions ≡ d.transactions) where
    still_unpolled : (y : Pledge) → Has d.outlook.unpolled.items y → Has e.outlook.unpolled.items y
    still_unpolled y h = elim known as (λ _. Has e.outlook.unpolled.items y) [
      | inl more ↦ subst (λ xs. Has xs y) (sym more) (has_left d.outlook.unpolled.items (x ∷ []) y h)
      | inr same ↦ subst (λ xs. Has xs y) (sym same.0) h
    ]

    now_recorded : (n : Indices) → KnowsIndices d p past n → (r : Planned) → Has p.requests r → IsRecorded d.seat.seen d.outlook.unpolled.items n past r → IsRecorded e.seat.seen e.outlook.unpolled.items n waits r
    now_recorded n w r h i = by_name q r.name _
        (λ s. record { transaction = i.transaction; opened = i.opened; known = i.known; decided = λ z. at_fate made.asked.fate refl (sym s) made.at })
        (λ f. recorded_on d.seat.seen e.seat.seen d.outlook.unpolled.items e.outlook.unpolled.items n n past waits r goes.begins still_unpolled refl (λ g. g) (λ z. sym (fate_other r.name f) ∙ z) i)
      where
        made : IsMade d past r
        made = m.requests r h

        pending : (a : IsPending d r) → r.name ≡ q → WasDecided e.seat.seen i.transaction r.version (key_of r.wish) ⊎ IsUnpolled e.outlook.unpolled.items i.transaction r
        pending a s =
            let same : a.pledge ≡ x = some_same (sym a.held ∙ (ap (pledge_of d) s ∙ held)) in
            let index : a.pledge.opened ≡ i.transaction = sym a.same ∙ some_same (sym (w.opened r.transaction a.transaction a.within) ∙ i.opened) in
            let t : x.opened ≡ i.transaction = ap (λ (y : Pledge). y.opened) (sym same) ∙ index in
            let k : arc_value x.key ≡ key_of r.wish = ap (λ (y : Pledge). arc_value y.key) (sym same) ∙ a.key in
            let v : x.version ≡ r.version = ap (λ (y : Pledge). y.version) (sym same) ∙ a.version in
            let live : IsLive d.seat x = subst (IsLive d.seat) same (record { asks = a.asks; open_ = live_there id d p past r m a }) in
            elim known as (λ _. WasDecided e.seat.seen i.transaction r.version (key_of r.wish) ⊎ IsUnpolled e.outlook.unpolled.items i.transaction r) [
              | inl more ↦ inr (record { pledge = x; has = subst (λ xs. Has xs x) (sym more) (has_end d.outlook.unpolled.items x); opened = t; version = v; key = k })
              | inr known_now ↦ inl (decided_as x i.transaction r.version (key_of r.wish) e.seat.seen t v k
                  (decided_live id e.seat x goes.ours (live_on d.seat e.seat [] x (onward id d.seat e.seat [] goes) tt tt live) (known_now.1 (λ z. computed r.wish (ap buck.kind (sym k) ∙ z)))))
            ]

        at_fate : (f : Fate) → made.asked.fate ≡ f → r.name ≡ q → IsAt d r f → WasDecided e.seat.seen i.transaction r.version (key_of r.wish) ⊎ IsUnpolled e.outlook.unpolled.items i.transaction r
        at_fate fate.Pending g s a = pending a s
        at_fate fate.Answered g s a = absurd (none_some (sym a.0 ∙ (ap (pledge_of d) s ∙ held)))
        at_fate fate.Cancelled g s a = absurd (dead r s made g)

    knows_now : (n : Indices) → KnowsIndices d p past n → KnowsIndices e p waits n
    knows_now n i = record {
      opened = λ t y h. i.opened t y (ap (λ v. get (pointwise nat_eq) v t) (sym transactions) ∙ h);
      asked = λ u y h. by_name q u _
          (λ s. absurd (none_some (sym (promises q ∙ at_name q None (pledge_of d)) ∙ (ap (pledge_of e) s ∙ h))))
          (λ f. i.asked u y (sym (past_name q u None (pledge_of d) f) ∙ (sym (promises u) ∙ h)));
      closed = λ t h. (let c = i.closed t h in (c.0, c.1, subst (λ (xs : Events). Has xs (told.Close 0 c.0)) (sym (goes.mine ∙ append-nil d.seat.mine)) c.2));
      requests = λ r h. now_recorded n i r h (i.requests r h);
    }

  pub knows_waited : (n : Indices) → DidWait id q d e → KnowsIndices d p past n → KnowsIndices e p waits n
  knows_waited n (was_told none is) i = knows_was none is n i
  knows_waited n (is_told x text held goes told known sees promises answers transactions gathered newest) i = knows_now x held goes known promises transactions n i

  pub waits_begin : DidWait id q d e → StartsWith e.seat.seen d.seat.seen × (e.seat.mine ≡ d.seat.mine)
  waits_begin (was_told none is) = (([], ap (λ (y : Driver). y.seat.seen) is ∙ sym (append-nil d.seat.seen)), ap (λ (y : Driver). y.seat.mine) is)
  waits_begin (is_told x text held goes told known sees promises answers transactions gathered newest) = (goes.begins, goes.mine ∙ append-nil d.seat.mine)

  pub wait_records : DidWait id q d e → RecordsStep p past (line.Wait q) d e
  wait_records did ls rest r =
      let b = waits_begin did in
      records_on ls rest (line.Wait q) d e p past r b.0 [] r.indices (λ J s. (refl, refl)) (b.1 ∙ sym (append-nil d.seat.mine)) (knows_waited r.indices did r.knows)

  -- after the last line
  pub wait_at_end : (ls : List Line) → DidWait id q d e → Records ls [] d p past → Records ls [] e p waits
  wait_at_end ls did r =
      let b = waits_begin did in
      record {
        indices = r.indices;
        knows = knows_waited r.indices did r.knows;
        lines = λ J all n s h. r.lines J all n (begins_on d.seat.seen e.seat.seen J s b.0) (h.0 ∙ b.1, h.1);
      }

-- ---- promises that are polled

module _ (id : EngineId) (ls rest : List Line) (d e : Driver) (p : Plan) (past : Past) (m : Matches id d p past) (x : Confirms id d e) where
  confirmed : (n : Indices) (r : Planned) → IsRecorded d.seat.seen d.outlook.unpolled.items n past r → IsRecorded e.seat.seen e.outlook.unpolled.items n past r
  confirmed n r i = record {
    transaction = i.transaction;
    opened = i.opened;
    known = i.known;
    decided = λ z. inl (elim (i.decided z) as (λ _. WasDecided e.seat.seen i.transaction r.version (key_of r.wish)) [
      | inl w ↦ decided_on d.seat.seen e.seat.seen i.transaction r.version (key_of r.wish) x.goes.begins w
      | inr u ↦ decided_as u.pledge i.transaction r.version (key_of r.wish) e.seat.seen u.opened u.version u.key (x.decided u.pledge u.has (λ g. computed r.wish (ap buck.kind (sym u.key) ∙ g)))
    ]);
  }

  knows_confirmed : (n : Indices) → KnowsIndices d p past n → KnowsIndices e p past n
  knows_confirmed n i = record {
    opened = λ t y h. i.opened t y (ap (λ v. get (pointwise nat_eq) v t) (sym x.transactions) ∙ h);
    asked = λ q y h. i.asked q y (ap (λ v. get (pointwise nat_eq) v q) (sym x.promises) ∙ h);
    closed = λ t h. (let c = i.closed t h in (c.0, c.1, subst (λ (xs : Events). Has xs (told.Close 0 c.0)) (sym (x.goes.mine ∙ append-nil d.seat.mine)) c.2));
    requests = λ r h. confirmed n r (i.requests r h);
  }

  pub records_confirmed : Records ls rest d p past → Records ls rest e p past
  records_confirmed r = record {
    indices = r.indices;
    knows = knows_confirmed r.indices r.knows;
    lines = λ J all n s h. r.lines J all n (begins_on d.seat.seen e.seat.seen J s x.goes.begins)
        (subst (λ (own : Events). AddsLines J (is_cancelled ls) p own r.indices rest all n) (x.goes.mine ∙ append-nil d.seat.mine) h);
  }

-- ---- cancel

module _ (id : EngineId) (d e : Driver) (p : Plan) (past : Past) (q : List ℕ) (m : Matches id d p past) (x : DidCancel id q d e) where
  abbrev cancels : Past
  cancels = after past (line.Cancel q)

  cancels_fate : (n : List ℕ) → fate_of cancels n ≡ Some fate.Answered → fate_of past n ≡ Some fate.Answered
  cancels_fate n h = by_name q n _
      (λ s. absurd (by_asked (past.asked n) (sym (ap (λ b. option_map (λ (a : Asked). a.fate) (cond b (come_to fate.Cancelled (past.asked n)) (past.asked n))) (subst (λ u. bytes_eq u n ≡ true) (sym s) (own_name n))) ∙ h)))
      (λ f. sym (ap (λ b. option_map (λ (a : Asked). a.fate) (cond b (come_to fate.Cancelled (past.asked n)) (past.asked n))) f) ∙ h)
    where
      by_asked : (o : Option Asked) → option_map (λ (a : Asked). a.fate) (come_to fate.Cancelled o) ≡ Some fate.Answered → ⊥
      by_asked None z = none_some z
      by_asked (Some a) z = (let y : Some fate.Cancelled ≡ Some fate.Answered = z in cc)

  knows_cancelled : (n : Indices) → KnowsIndices d p past n → KnowsIndices e p cancels n
  knows_cancelled n i = record {
    opened = λ t y h. i.opened t y (ap (λ v. get (pointwise nat_eq) v t) (sym x.transactions) ∙ h);
    asked = λ u y h. by_name q u _
        (λ s. absurd (none_some (sym (x.promises q ∙ at_name q None (pledge_of d)) ∙ (ap (pledge_of e) s ∙ h))))
        (λ f. i.asked u y (sym (past_name q u None (pledge_of d) f) ∙ (sym (x.promises u) ∙ h)));
    closed = λ t h. (let c = i.closed t h in (c.0, c.1, subst (λ (xs : Events). Has xs (told.Close 0 c.0)) (sym x.goes.mine) (has_left d.seat.mine (told.Leave 0 x.pledge.ask ∷ []) _ c.2)));
    requests = λ r h. recorded_on d.seat.seen e.seat.seen d.outlook.unpolled.items e.outlook.unpolled.items n n past cancels r x.goes.begins (outlook_same d e x.outlook) refl (λ g. g) (cancels_fate r.name) (i.requests r h);
  }

  pub cancel_records : RecordsStep p past (line.Cancel q) d e
  cancel_records ls rest r =
      records_on ls rest (line.Cancel q) d e p past r x.goes.begins (told.Leave 0 x.pledge.ask ∷ []) r.indices
      (λ J s. (record { ask = x.pledge.ask; asked = r.knows.asked q x.pledge x.held; adds = refl }, refl)) x.goes.mine (knows_cancelled r.indices r.knows)

-- ---- close

module _ (id : EngineId) (d e : Driver) (p : Plan) (past : Past) (t : List ℕ) (x : DidClose id t d e) where
  abbrev closes : Past
  closes = after past (line.Close t)

  abbrev close_own : Events
  close_own = told.Close 0 x.transaction.opened ∷ []

  closes_fate : (n : List ℕ) → fate_of closes n ≡ Some fate.Answered → fate_of past n ≡ Some fate.Answered
  closes_fate n h = by_asked (past.asked n) h
    where
      by_fate : (b : Bool) (f : Fate) → Some (cond b (given_up f) f) ≡ Some fate.Answered → Some f ≡ Some fate.Answered
      by_fate true fate.Answered z = refl
      by_fate true fate.Pending z = (let y : Some fate.Cancelled ≡ Some fate.Answered = z in cc)
      by_fate true fate.Cancelled z = (let y : Some fate.Cancelled ≡ Some fate.Answered = z in cc)
      by_fate false f z = z

      by_asked : (o : Option Asked) → option_map (λ (a : Asked). a.fate) (left_by t o) ≡ Some fate.Answered → option_map (λ (a : Asked). a.fate) o ≡ Some fate.Answered
      by_asked None z = z
      by_asked (Some a) z = by_fate (bytes_eq t a.transaction) a.fate z

  pub knows_closed : (n : Indices) → KnowsIndices d p past n → KnowsIndices e p closes n
  knows_closed n i = record {
    opened = λ u y h. by_name t u _
        (λ s. absurd (none_some (sym (x.transactions t ∙ at_name t None (transaction_of d)) ∙ (ap (transaction_of e) s ∙ h))))
        (λ f. i.opened u y (sym (past_name t u None (transaction_of d) f) ∙ (sym (x.transactions u) ∙ h)));
    asked = λ u y h. i.asked u y (ap (λ v. get (pointwise nat_eq) v u) (sym x.promises) ∙ h);
    closed = λ u h. by_name t u _
        (λ s. (x.transaction.opened, ap n.opened (sym s) ∙ i.opened t x.transaction x.held, subst (λ (xs : Events). Has xs (told.Close 0 x.transaction.opened)) (sym x.goes.mine) (has_end d.seat.mine (told.Close 0 x.transaction.opened))))
        (λ f. (let c = i.closed u (sym (ap (λ b. cond b (Some false) (past.opened u)) f) ∙ h) in (c.0, c.1, subst (λ (xs : Events). Has xs (told.Close 0 c.0)) (sym x.goes.mine) (has_left d.seat.mine close_own _ c.2))));
    requests = λ r h. recorded_on d.seat.seen e.seat.seen d.outlook.unpolled.items e.outlook.unpolled.items n n past closes r x.goes.begins (outlook_same d e x.outlook) refl (known r.transaction) (closes_fate r.name) (i.requests r h);
  }
    where
      false_none : Some false ≡ None → ⊥
      false_none e = cc

      known : (u : List ℕ) → past.opened u ≢ None → closes.opened u ≢ None
      known u g h = by_test (bytes_eq t u) h
        where
          by_test : (b : Bool) → cond b (Some false) (past.opened u) ≡ None → ⊥
          by_test true z = false_none z
          by_test false z = g z

  pub close_records : RecordsStep p past (line.Close t) d e
  close_records ls rest r =
      records_on ls rest (line.Close t) d e p past r x.goes.begins close_own r.indices
      (λ J s. (record { transaction = x.transaction.opened; opened = r.knows.opened t x.transaction x.held; adds = refl }, refl)) x.goes.mine (knows_closed r.indices r.knows)
