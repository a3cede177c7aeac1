-- One line of a script more: what it leaves of the driver's requests and transactions, and what it adds.
use Rattle.std.proofs.Common.{◌≡◌, ◌≢◌, ◌≤◌, ◌<◌, ◌+◌, ◌⊎◌, inl, inr, ℕ, Bool, true, false, cond, nat_eq, List, [], ◌∷◌, ◌++◌, length, filter, Option, Some, None, refl, sym, ap, ◌∙◌, subst, arith, append-nil, length-append}
use Rattle.std.proofs.lemmas.List.{length-map}
use Rattle.std.specs.Option.{unwrap_or, option_map}
use Rattle.std.specs.Map.{lookup}
use Rattle.std.specs.Str.{bytes_eq}
use Rattle.std.specs.HashMap.{get}
use Rattle.std.specs.Arc.{arc_value}
use Rattle.std.specs.Cmp.Lexicographic.{pointwise, nat_list_eq_equiv}
use Rattle.std.proofs.lemmas.Slice.Eq.{bytes_eq-Decides}
use Rattle.dice_engine.specs.Seats.{EngineId}
use mathlib.Core.List.{map-append}
use Rattle.dice_model.proofs.Stable.{value_stable, reaches_stable, cycle_stable}
use Rattle.journal.specs.declared.event.Told.{Told}
use Rattle.journal.specs.declared.event.Told.TheVariants.{Open, Close, Ask, Leave}
use Rattle.journal.specs.Events.{NotClosed, event_of, NotLeft}
use Rattle.dice_engine.specs.Calls.{differing_from}
use Rattle.dice_engine.specs.Conditions.{HasOpen}
use Rattle.dice_engine.specs.declared.promise.Transaction.{Transaction}
use Rattle.script.specs.declared.line.Line.{Line}
use Rattle.script.specs.declared.line.Line.TheVariants as line
use Rattle.script.specs.declared.line.Request.{Request}
use Rattle.script.specs.declared.fate.Fate.{Fate}
use Rattle.script.specs.declared.fate.Fate.TheVariants as fate
use Rattle.script.specs.declared.requests.Asked.{Asked}
use Rattle.script.specs.Past.{Past, after, fate_of, come_to, left_by, given_up, made_in}
use Rattle.script.specs.Order.{IsNew}
use Rattle.script.specs.Plan.{Ends, Plan, Planned, Change, Wish, Digest, Text, version_of, wanted, requested, gathering, differs, committed, with_commit}
use Rattle.action_digest.specs.declared.key.Key.{Key}
use Rattle.action_digest.specs.declared.key.Key.TheVariants as key
use Rattle.action_digest.specs.declared.value.Value.{Value}
use Rattle.action_digest.specs.declared.value.Value.TheVariants as value
use Rattle.action_digest.specs.Buck.{buck}
use Rattle.action_digest.specs.Same.{key_equal, value_equal}
use Rattle.action_digest.specs.Cycles.{keys_of, ReachesFirst}
use Rattle.script_trace.specs.Output.{log_of, pair_of_change, pairs_of_changes, key_of}
use Rattle.dice_run.specs.Answers.{IsToldOf, told_value, told_cycle}
use Rattle.dice_run.specs.Commits.{differs_from, with_pairs}
use Rattle.dice_run.specs.Seats.{Place, log_in, IsOurs, Goes}
use Rattle.dice_run.specs.Looking.{Pledge, Sees, IsLive}
use Rattle.dice_run.specs.Driving.{Looks, IsKnown, Confirms, transaction_of, pledge_of, answer_of, paths_of, IsPending, IsTold, IsAt, IsMade, Matches, KeepsNames, HasTransaction, MayWait, MayCancel, with_named, DidOpen, DidAsk, DidWait, was_told, is_told, DidCancel, DidClose, Steps, newest_of}
use Rattle.dice_run.specs.declared.driver.Driver.{Driver}
use Rattle.dice_run.proofs.Changing.{differing_same}
use Rattle.dice_run.proofs.Viewing.{sees_on, looks_on, looks_same, looks_more, looks_none}
use Rattle.dice_run.proofs.Seating.{Onward, onward, onward_same, still_open, still_asks, seen_longer, log_open, log_close, log_ask, log_leave, log_none, log_commit, commit_closes_none, commit_leaves_none, open_below, ask_below}
use Rattle.lists.proofs.Distinct.{distinct_end}
use Rattle.lists.proofs.Members.{has_end, has_last}
use Rattle.lists.specs.Lists.{AreDistinct, Has}
use Rattle.bulk_script.proofs.Blocks.{differ}
use Rattle.lists.proofs.Options.{none_some, some_same}

-- what is told of a key is so over each log that goes on
pub told_on : (C D : List (List (Key × Value))) (v : ℕ) (k : Key) (text : List ℕ) → v ≤ length C → IsToldOf C v k text → IsToldOf (C ++ D) v k text
told_on C D v k _ h (told_value x i) = told_value x (value_stable key_equal buck C D v h k x i)
told_on C D v k _ h (told_cycle ls c t) =
    told_cycle ls (record { cycle = cycle_stable key_equal buck C D v h (keys_of ls) c.cycle; distinct = c.distinct; least = c.least }) (first_on (keys_of ls) t)
  where
    first_on : (ks : List Key) → ReachesFirst C v k ks → ReachesFirst (C ++ D) v k ks
    first_on [] r = r
    first_on (j ∷ js) r = reaches_stable key_equal buck C D v h k j r

-- ---- requests that a line does not touch

module _ (d e : Driver) (own : List (Told Key Value)) (o : Onward d.seat e.seat own) (more : List (List (Key × Value))) (log : log_in e.seat ≡ log_in d.seat ++ more) (r : Planned) where
  log_longer : length (log_in d.seat) ≤ length (log_in e.seat)
  log_longer = (let x : length (log_in e.seat) ≡ length (log_in d.seat ++ more) = ap length log in let y = length-append (log_in d.seat) more in omega arith)

  pub told_still : r.version ≤ length (log_in d.seat) → answer_of e r.name ≡ answer_of d r.name → IsTold d r → IsTold e r
  told_still h a t = record { text = t.text; held = a ∙ t.held; told = subst (λ C. IsToldOf C r.version (key_of r.wish) t.text) (sym log) (told_on (log_in d.seat) more r.version (key_of r.wish) t.text h t.told) }

  pub pending_still : ((x : Pledge) → pledge_of d r.name ≡ Some x → NotLeft x.ask own) → pledge_of e r.name ≡ pledge_of d r.name → ((x : Transaction) → transaction_of d r.transaction ≡ Some x → transaction_of e r.transaction ≡ Some x) → IsPending d r → IsPending e r
  pending_still n p t i = record {
    pledge = i.pledge;
    held = p ∙ i.held;
    asks = still_asks d.seat e.seat own o i.pledge.ask i.pledge.opened i.pledge.version (arc_value i.pledge.key) (n i.pledge i.held) i.asks;
    key = i.key;
    version = i.version;
    transaction = i.transaction;
    within = t i.transaction i.within;
    same = i.same;
  }

  at_still : (f : Fate) → r.version ≤ length (log_in d.seat) → ((x : Pledge) → pledge_of d r.name ≡ Some x → NotLeft x.ask own) → pledge_of e r.name ≡ pledge_of d r.name → answer_of e r.name ≡ answer_of d r.name
      → ((x : Transaction) → transaction_of d r.transaction ≡ Some x → transaction_of e r.transaction ≡ Some x) → IsAt d r f → IsAt e r f
  at_still fate.Pending h n p a t i = pending_still n p t i
  at_still fate.Answered h n p a t i = (p ∙ i.0, told_still h a i.1)
  at_still fate.Cancelled h n p a t i = tt

  pub made_still : (past new : Past) → new.asked r.name ≡ past.asked r.name → ((x : Pledge) → pledge_of d r.name ≡ Some x → NotLeft x.ask own) → pledge_of e r.name ≡ pledge_of d r.name → answer_of e r.name ≡ answer_of d r.name
      → ((x : Transaction) → transaction_of d r.transaction ≡ Some x → transaction_of e r.transaction ≡ Some x) → IsMade d past r → IsMade e new r
  made_still past new q n p a t m = record {
    asked = m.asked;
    made = q ∙ m.made;
    transaction = m.transaction;
    within = (let x = log_longer in let y = m.within in omega arith);
    at = at_still m.asked.fate m.within n p a t m.at;
  }

-- ---- put and drop

put_gathered : (g : List (Key × Value)) (cs : List Change) (c : Change) → g ≡ pairs_of_changes cs → g ++ pair_of_change c ∷ [] ≡ pairs_of_changes (cs ++ c ∷ [])
put_gathered g cs c e = ap (λ (x : List (Key × Value)). x ++ pair_of_change c ∷ []) e ∙ sym (map-append pair_of_change cs (c ∷ []))

put_paths : (cs : List Change) (c : Change) → paths_of (cs ++ c ∷ []) ≡ paths_of cs ++ c.path ∷ []
put_paths cs c = map-append (λ (c : Change). c.path) cs (c ∷ [])

if_not : (b c : Bool) → cond b true c ≡ false → c ≡ false
if_not true c e = cc
if_not false c e = e

put_touched : (past : Past) (path q : List ℕ) (xs : List (List ℕ)) → ((p : List ℕ) → past.touched p ≡ false → Has xs p → ⊥) → cond (bytes_eq path q) true (past.touched q) ≡ false → Has (xs ++ path ∷ []) q → ⊥
put_touched past path q xs t e h = elim (has_last xs path q h) as (λ _. ⊥) [
  | inl a ↦ t q (if_not (bytes_eq path q) (past.touched q) e) a
  | inr s ↦ (let b : bytes_eq path q ≡ true = (bytes_eq-Decides path q).1 s in let f : cond true true (past.touched q) ≡ false = subst (λ (x : Bool). cond x true (past.touched q) ≡ false) b e in cc)
]

module _ (id : EngineId) (d e : Driver) (p : Plan) (past : Past) (m : Matches id d p past) (seat : e.seat ≡ d.seat) (k : KeepsNames d e) where
  same_transaction : (t : List ℕ) → transaction_of e t ≡ transaction_of d t
  same_transaction t = ap (λ v. get (pointwise nat_eq) v t) k.transactions

  same_pledge : (q : List ℕ) → pledge_of e q ≡ pledge_of d q
  same_pledge q = ap (λ v. get (pointwise nat_eq) v q) k.promises

  same_answer : (q : List ℕ) → answer_of e q ≡ answer_of d q
  same_answer q = ap (λ v. option_map (λ w. w.items) (get (pointwise nat_eq) v q)) k.answers

  same_log : log_in e.seat ≡ log_in d.seat
  same_log = ap log_in seat

  pub gathered_stands : (path : List ℕ) (file : Option (List ℕ)) → past.touched path ≡ false → e.gathered ≡ d.gathered ++ (key.Source path, value.Source file) ∷ [] → Matches id e (gathering p path file) (after past (line.Drop path))
  gathered_stands path file fresh eg =
      let c : Change = record { path = path; file = file } in
      record {
        ours = subst (IsOurs id) (sym seat) m.ours;
        log = same_log ∙ m.log;
        gathered = eg ∙ put_gathered d.gathered p.gathered c m.gathered;
        within = m.within;
        known = λ t b. (let x = m.known t b in (x.0, same_transaction t ∙ x.1));
        open_ = λ t x h. (let y = m.open_ t x (sym (same_transaction t) ∙ h) in (subst (λ (s : Place). HasOpen s x.opened x.version) (sym seat) y.0, y.1, y.2));
        apart = λ t u x y h i. m.apart t u x y (sym (same_transaction t) ∙ h) (sym (same_transaction u) ∙ i);
        pledged = λ q x h. subst (λ (s : Place). x.ask < length s.seen) (sym seat) (m.pledged q x (sym (same_pledge q) ∙ h));
        asks_apart = λ q r x y h i. m.asks_apart q r x y (sym (same_pledge q) ∙ h) (sym (same_pledge r) ∙ i);
        requests = λ r h. made_still d e [] (onward_same d.seat e.seat seat) [] (same_log ∙ sym (append-nil (log_in d.seat))) r past (after past (line.Drop path)) refl (λ x i. tt) (same_pledge r.name) (same_answer r.name) (λ x i. same_transaction r.transaction ∙ i) (m.requests r h);
        found = m.found;
        looks = looks_same d e [] (onward_same d.seat e.seat seat) m.looks k.outlook (λ x h. (tt, tt)) (λ q y h. inl (sym (same_pledge q) ∙ h));
        distinct = subst AreDistinct (sym (put_paths p.gathered c)) (distinct_end (paths_of p.gathered) path m.distinct (m.touched path fresh));
        touched = λ q t h. put_touched past path q (paths_of p.gathered) m.touched t (subst (λ (xs : List (List ℕ)). Has xs q) (put_paths p.gathered c) h);
      }

-- ---- commit

pub log_more : (log : List (List Change)) (cs : List Change) → (m : List (List Change)) × (with_commit log cs ≡ log ++ m)
log_more log [] = ([], sym (append-nil log))
log_more log (c ∷ cs) = ((c ∷ cs) ∷ [], refl)

pairs_more : (C : List (List (Key × Value))) (ps : List (Key × Value)) → (m : List (List (Key × Value))) × (with_pairs C ps ≡ C ++ m)
pairs_more C [] = ([], sym (append-nil C))
pairs_more C (p ∷ ps) = ((p ∷ ps) ∷ [], refl)

pub log_of_more : (xs ys : List (List Change)) → log_of (xs ++ ys) ≡ log_of xs ++ log_of ys
log_of_more xs ys = map-append pairs_of_changes xs ys

pub log_length : (log : List (List Change)) → length (log_of log) ≡ length log
log_length log = length-map log pairs_of_changes

with_same : (log : List (List Change)) (cs : List Change) → with_pairs (log_of log) (pairs_of_changes cs) ≡ log_of (with_commit log cs)
with_same log [] = refl
with_same log (c ∷ cs) = sym (log_of_more log ((c ∷ cs) ∷ []))

committed_same : (C : List (List (Key × Value))) (g : List (Key × Value)) (p : Plan) → C ≡ log_of p.log → g ≡ pairs_of_changes p.gathered → with_pairs C (filter (differs_from C) g) ≡ log_of (committed p.log p.gathered)
committed_same C g p ec eg =
    ap (λ (C : List (List (Key × Value))). with_pairs C (filter (differs_from C) g)) ec
    ∙ (ap (λ (g : List (Key × Value)). with_pairs (log_of p.log) (filter (differs_from (log_of p.log)) g)) eg
    ∙ (ap (with_pairs (log_of p.log)) (differing_same p.log p.gathered) ∙ with_same p.log (filter (differs p.log) p.gathered)))

pub commit_stands : (id : EngineId) (ends : Ends) (d e : Driver) (p : Plan) (past : Past) → Matches id d p past → Goes id d.seat e.seat (event_of 0 (differing_from key_equal value_equal buck (log_in d.seat) d.gathered))
    → e.gathered ≡ [] → KeepsNames d e → e.newest.items ≡ d.newest.items ++ length (log_in e.seat) ∷ [] → Steps id ends p past line.Commit d e
commit_stands id ends d e p past m goes eg k en =
    let C = log_in d.seat in
    let ps = differing_from key_equal value_equal buck C d.gathered in
    let own = event_of 0 ps in
    let o = onward id d.seat e.seat own goes in
    let log = log_commit d.seat e.seat own o 0 ps refl in
    let committed_is : log_in e.seat ≡ log_of (committed p.log p.gathered) = log ∙ committed_same C d.gathered p m.log m.gathered in
    let more = pairs_more C ps in
    let grown = log_more p.log (filter (differs p.log) p.gathered) in
    let l : length (committed p.log p.gathered) ≡ length p.log + length grown.0 = ap length grown.1 ∙ length-append p.log grown.0 in
    record {
      stands = record {
        ours = goes.ours;
        log = committed_is;
        gathered = eg;
        within = λ t. (let w = m.within t in omega arith);
        known = λ t b. (let x = m.known t b in (x.0, ap (λ v. get (pointwise nat_eq) v t) k.transactions ∙ x.1));
        open_ = λ t x h. (let y = m.open_ t x (ap (λ v. get (pointwise nat_eq) v t) (sym k.transactions) ∙ h) in (still_open d.seat e.seat own o x.opened x.version (commit_closes_none x.opened 0 ps) y.0, y.1, y.2));
        apart = λ t u x y h i. m.apart t u x y (ap (λ v. get (pointwise nat_eq) v t) (sym k.transactions) ∙ h) (ap (λ v. get (pointwise nat_eq) v u) (sym k.transactions) ∙ i);
        pledged = λ q x h. (let a = m.pledged q x (ap (λ v. get (pointwise nat_eq) v q) (sym k.promises) ∙ h) in let b = seen_longer d.seat e.seat own o in omega arith);
        asks_apart = λ q r x y h i. m.asks_apart q r x y (ap (λ v. get (pointwise nat_eq) v q) (sym k.promises) ∙ h) (ap (λ v. get (pointwise nat_eq) v r) (sym k.promises) ∙ i);
        requests = λ r h. made_still d e own o more.0 (log ∙ more.1) r past (after past line.Commit) refl (λ x i. commit_leaves_none x.ask 0 ps) (ap (λ v. get (pointwise nat_eq) v r.name) k.promises)
            (ap (λ v. option_map (λ w. w.items) (get (pointwise nat_eq) v r.name)) k.answers) (λ x i. ap (λ v. get (pointwise nat_eq) v r.transaction) k.transactions ∙ i) (m.requests r h);
        found = m.found;
        looks = looks_same d e own o m.looks k.outlook (λ x h. (commit_leaves_none x.ask 0 ps, commit_closes_none x.opened 0 ps)) (λ q y h. inl (ap (λ v. get (pointwise nat_eq) v q) (sym k.promises) ∙ h));
        distinct = tt;
        touched = λ q t h. h;
      };
      newest = en ∙ ap (λ n. d.newest.items ++ n ∷ []) (ap length committed_is ∙ log_length (committed p.log p.gathered));
    }

-- ---- names

pub same_name : (t q : List ℕ) → bytes_eq t q ≡ true → t ≡ q
same_name t q e = (bytes_eq-Decides t q).0 e

pub own_name : (t : List ℕ) → bytes_eq t t ≡ true
own_name t = (bytes_eq-Decides t t).1 refl

-- of a look-up with one name more: at the name itself, and at another one
pub at_name : {X : Type 0} (t : List ℕ) (x : Option X) (f : List ℕ → Option X) → with_named t x f t ≡ x
at_name t x f = ap (λ b. cond b x (f t)) (own_name t)

pub past_name : {X : Type 0} (t q : List ℕ) (x : Option X) (f : List ℕ → Option X) → bytes_eq t q ≡ false → with_named t x f q ≡ f q
past_name t q x f e = ap (λ b. cond b x (f q)) e

-- either it is the name, or it is another
pub by_name : (t q : List ℕ) (G : Type 0) → (t ≡ q → G) → (bytes_eq t q ≡ false → G) → G
by_name t q G f g = by_test (bytes_eq t q) refl
  where
    by_test : (b : Bool) → bytes_eq t q ≡ b → G
    by_test true e = f (same_name t q e)
    by_test false e = g e

-- ---- open

open_looked : (t q : List ℕ) (n : ℕ) (opened : List (List ℕ × ℕ)) → bytes_eq t q ≡ false → lookup (bytes_eq q) ((t, n) ∷ opened) ≡ lookup (bytes_eq q) opened
open_looked t q n opened e = ap (λ b. cond b (Some n) (lookup (bytes_eq q) opened)) (nat_list_eq_equiv.symm q t ∙ e)

open_within : (t q : List ℕ) (n : ℕ) (opened : List (List ℕ × ℕ)) → version_of q opened ≤ n → version_of q ((t, n) ∷ opened) ≤ n
open_within t q n opened w = by_test (bytes_eq q t)
  where
    by_test : (b : Bool) → unwrap_or (cond b (Some n) (lookup (bytes_eq q) opened)) 0 ≤ n
    by_test true = omega arith
    by_test false = w

module _ (id : EngineId) (ends : Ends) (d e : Driver) (p : Plan) (past : Past) (t : List ℕ) (m : Matches id d p past) (new : past.opened t ≡ None) (x : DidOpen id t d e) where
  abbrev pub opens_own : List (Told Key Value)
  opens_own = Open 0 x.transaction.version ∷ []

  opens_onward : Onward d.seat e.seat opens_own
  opens_onward = onward id d.seat e.seat opens_own x.opens.goes

  opens_log : log_in e.seat ≡ log_in d.seat
  opens_log = log_open d.seat e.seat opens_own opens_onward 0 x.transaction.version refl

  pub version_is : x.transaction.version ≡ length p.log
  version_is = x.opens.newest ∙ (ap length m.log ∙ log_length p.log)

  -- an open transaction has another name than the new one
  other : (q : List ℕ) (y : Transaction) → transaction_of d q ≡ Some y → bytes_eq t q ≡ false
  other q y h = differ t q (λ s. none_some (sym new ∙ (ap past.opened s ∙ (m.open_ q y h).2)))

  opens_kept : (q : List ℕ) (y : Transaction) → transaction_of d q ≡ Some y → transaction_of e q ≡ Some y
  opens_kept q y h = x.transactions q ∙ (past_name t q (Some x.transaction) (transaction_of d) (other q y h) ∙ h)

  opens_open : (q : List ℕ) (y : Transaction) → transaction_of e q ≡ Some y → HasOpen e.seat y.opened y.version × (lookup (bytes_eq q) ((t, length p.log) ∷ p.opened) ≡ Some y.version) × ((after past (line.Open t)).opened q ≡ Some true)
  opens_open q y h = by_name t q _
      (λ s.
      let is : x.transaction ≡ y = some_same (sym (at_name t (Some x.transaction) (transaction_of d)) ∙ (sym (x.transactions t) ∙ (ap (transaction_of e) s ∙ h))) in (
        subst (λ (z : Transaction). HasOpen e.seat z.opened z.version) is x.opens.has,
        ap (λ b. cond b (Some (length p.log)) (lookup (bytes_eq q) p.opened)) (subst (λ u. bytes_eq q u ≡ true) (sym s) (own_name q)) ∙ ap Some (sym version_is ∙ ap (λ (z : Transaction). z.version) is),
        ap (λ b. cond b (Some true) (past.opened q)) (subst (λ u. bytes_eq u q ≡ true) (sym s) (own_name q)),
      ))
      (λ f.
      let old : transaction_of d q ≡ Some y = sym (past_name t q (Some x.transaction) (transaction_of d) f) ∙ (sym (x.transactions q) ∙ h) in
      let z = m.open_ q y old in (
        still_open d.seat e.seat opens_own opens_onward y.opened y.version tt z.0,
        open_looked t q (length p.log) p.opened f ∙ z.1,
        ap (λ b. cond b (Some true) (past.opened q)) f ∙ z.2,
      ))

  -- what was opened before has a lower index
  opens_below : (q : List ℕ) (y : Transaction) → transaction_of d q ≡ Some y → y.opened < x.transaction.opened
  opens_below q y h = (let a = open_below d.seat y.opened y.version (m.open_ q y h).0 in let b = x.opens.new in omega arith)

  opens_was : (q : List ℕ) (y : Transaction) → transaction_of e q ≡ Some y → (t ≡ q) × (x.transaction ≡ y) ⊎ (transaction_of d q ≡ Some y)
  opens_was q y h = by_name t q _
      (λ s. inl (s, some_same (sym (at_name t (Some x.transaction) (transaction_of d)) ∙ (sym (x.transactions t) ∙ (ap (transaction_of e) s ∙ h)))))
      (λ f. inr (sym (past_name t q (Some x.transaction) (transaction_of d) f) ∙ (sym (x.transactions q) ∙ h)))

  opens_apart : (q u : List ℕ) (y z : Transaction) → transaction_of e q ≡ Some y → transaction_of e u ≡ Some z → y.opened ≡ z.opened → q ≡ u
  opens_apart q u y z h i s = elim (opens_was q y h) as (λ _. q ≡ u) [
    | inl a ↦ elim (opens_was u z i) as (λ _. q ≡ u) [
      | inl b ↦ sym a.0 ∙ b.0
      | inr b ↦ absurd (let l = opens_below u z b in let k : x.transaction.opened ≡ y.opened = ap (λ (w : Transaction). w.opened) a.1 in omega arith)
    ]
    | inr a ↦ elim (opens_was u z i) as (λ _. q ≡ u) [
      | inl b ↦ absurd (let l = opens_below q y a in let k : x.transaction.opened ≡ z.opened = ap (λ (w : Transaction). w.opened) b.1 in omega arith)
      | inr b ↦ m.apart q u y z a b s
    ]
  ]

  opens_known : (q : List ℕ) → (after past (line.Open t)).opened q ≡ Some true → (y : Transaction) × (transaction_of e q ≡ Some y)
  opens_known q k = by_name t q _
      (λ s. (x.transaction, ap (transaction_of e) (sym s) ∙ (x.transactions t ∙ at_name t (Some x.transaction) (transaction_of d))))
      (λ f. (let y = m.known q (sym (ap (λ b. cond b (Some true) (past.opened q)) f) ∙ k) in (y.0, opens_kept q y.0 y.1)))

  pub open_stands : Steps id ends p past (line.Open t) d e
  open_stands = record {
    stands = record {
      ours = x.opens.goes.ours;
      log = opens_log ∙ m.log;
      gathered = x.gathered ∙ m.gathered;
      within = λ q. open_within t q (length p.log) p.opened (m.within q);
      known = opens_known;
      open_ = opens_open;
      apart = opens_apart;
      pledged = λ q y h. (let a = m.pledged q y (ap (λ v. get (pointwise nat_eq) v q) (sym x.promises) ∙ h) in let b = seen_longer d.seat e.seat opens_own opens_onward in omega arith);
      asks_apart = λ q r y z h i. m.asks_apart q r y z (ap (λ v. get (pointwise nat_eq) v q) (sym x.promises) ∙ h) (ap (λ v. get (pointwise nat_eq) v r) (sym x.promises) ∙ i);
      requests = λ r h. made_still d e opens_own opens_onward [] (opens_log ∙ sym (append-nil (log_in d.seat))) r past (after past (line.Open t)) refl (λ y i. tt) (ap (λ v. get (pointwise nat_eq) v r.name) x.promises)
          (ap (λ v. option_map (λ w. w.items) (get (pointwise nat_eq) v r.name)) x.answers) (opens_kept r.transaction) (m.requests r h);
      looks = looks_on d e opens_own opens_onward m.looks x.sees (ap (λ v. v.items) x.unpolled) (λ y h. (tt, tt)) (λ q y h. inl (ap (λ v. get (pointwise nat_eq) v q) (sym x.promises) ∙ h));
      found = m.found;
      distinct = m.distinct;
      touched = m.touched;
    };
    newest = ap (λ v. v.items) x.newest ∙ sym (append-nil d.newest.items);
  }

-- ---- requests that are made

-- a request that was made before has another name than a new one
pub other_request : (id : EngineId) (d : Driver) (p : Plan) (past : Past) (q : List ℕ) (r : Planned) → Matches id d p past → past.asked q ≡ None → Has p.requests r → bytes_eq q r.name ≡ false
other_request id d p past q r m new h = differ q r.name (λ s. none_some (sym new ∙ (ap past.asked s ∙ (m.requests r h).made)))

module _ (id : EngineId) (ends : Ends) (d e : Driver) (p : Plan) (past : Past) (r : Request) (w : Wish) (m : Matches id d p past) (new : IsNew past r) (x : DidAsk id r (key_of w) d e) where
  abbrev pub asks_own : List (Told Key Value)
  asks_own = Ask 0 x.pledge.opened (arc_value x.pledge.key) ∷ []

  asks_onward : Onward d.seat e.seat asks_own
  asks_onward = onward id d.seat e.seat asks_own x.asks.goes

  asks_log : log_in e.seat ≡ log_in d.seat
  asks_log = log_ask d.seat e.seat asks_own asks_onward 0 x.pledge.opened (arc_value x.pledge.key) refl

  abbrev pub asked_now : Planned
  asked_now = wanted ends p r w

  asks_transaction : (t : List ℕ) → transaction_of e t ≡ transaction_of d t
  asks_transaction t = ap (λ v. get (pointwise nat_eq) v t) x.transactions

  -- the new request
  new_made : IsMade e (after past (line.Ask r)) asked_now
  new_made =
      let o = m.open_ r.transaction x.transaction x.held in
      let v : x.transaction.version ≡ version_of r.transaction p.opened = ap (λ (n : Option ℕ). unwrap_or n 0) (sym o.1) in
      let l : length (log_in e.seat) ≡ length p.log = ap length asks_log ∙ (ap length m.log ∙ log_length p.log) in
      record {
        asked = made_in r.transaction;
        made = ap (λ b. cond b (Some (made_in r.transaction)) (past.asked r.name)) (own_name r.name);
        transaction = refl;
        within = (let a = m.within r.transaction in omega arith);
        at = record {
          pledge = x.pledge;
          held = x.promises r.name ∙ at_name r.name (Some x.pledge) (pledge_of d);
          asks = x.asks.has;
          key = x.key;
          version = x.version ∙ v;
          transaction = x.transaction;
          within = asks_transaction r.transaction ∙ x.held;
          same = sym x.opened;
        };
      }

  old_made : (s : Planned) → Has p.requests s → IsMade e (after past (line.Ask r)) s
  old_made s h =
      let f = other_request id d p past r.name s m new.free h in
      made_still d e asks_own asks_onward [] (asks_log ∙ sym (append-nil (log_in d.seat))) s past (after past (line.Ask r))
      (ap (λ b. cond b (Some (made_in r.transaction)) (past.asked s.name)) f) (λ y i. tt)
      (x.promises s.name ∙ past_name r.name s.name (Some x.pledge) (pledge_of d) f)
      (ap (λ v. option_map (λ u. u.items) (get (pointwise nat_eq) v s.name)) x.answers) (λ y i. asks_transaction s.transaction ∙ i) (m.requests s h)

  asks_requests : (s : Planned) → Has (p.requests ++ asked_now ∷ []) s → IsMade e (after past (line.Ask r)) s
  asks_requests s h = elim (has_last p.requests asked_now s h) as (λ _. IsMade e (after past (line.Ask r)) s) [
    | inl a ↦ old_made s a
    | inr i ↦ subst (IsMade e (after past (line.Ask r))) i new_made
  ]

  has_first : {X : Type 0} (xs : List X) (y z : X) → Has xs z → Has (xs ++ y ∷ []) z
  has_first (u ∷ us) y z (inl i) = inl i
  has_first (u ∷ us) y z (inr h) = inr (has_first us y z h)
  has_first [] y z h = absurd h

  asks_found : (q : List ℕ) (a : Asked) → (after past (line.Ask r)).asked q ≡ Some a → (s : Planned) × Has (p.requests ++ asked_now ∷ []) s × (s.name ≡ q)
  asks_found q a h = by_name r.name q _
      (λ s. (asked_now, has_end p.requests asked_now, s))
      (λ f. (let y = m.found q a (sym (ap (λ b. cond b (Some (made_in r.transaction)) (past.asked q)) f) ∙ h) in (y.0, has_first p.requests asked_now y.0 y.1, y.2)))

  asks_was : (q : List ℕ) (y : Pledge) → pledge_of e q ≡ Some y → (r.name ≡ q) × (x.pledge ≡ y) ⊎ (pledge_of d q ≡ Some y)
  asks_was q y h = by_name r.name q _
      (λ s. inl (s, some_same (sym (at_name r.name (Some x.pledge) (pledge_of d)) ∙ (sym (x.promises r.name) ∙ (ap (pledge_of e) s ∙ h)))))
      (λ f. inr (sym (past_name r.name q (Some x.pledge) (pledge_of d) f) ∙ (sym (x.promises q) ∙ h)))

  asks_below : (q : List ℕ) (y : Pledge) → pledge_of d q ≡ Some y → y.ask < x.pledge.ask
  asks_below q y h = (let a = m.pledged q y h in let b = x.asks.new in omega arith)

  asks_later : (q : List ℕ) (y : Pledge) → pledge_of e q ≡ Some y → (pledge_of d q ≡ Some y) ⊎ (length d.seat.seen ≤ y.ask)
  asks_later q y h = elim (asks_was q y h) as (λ _. (pledge_of d q ≡ Some y) ⊎ (length d.seat.seen ≤ y.ask)) [
    | inl a ↦ inr (subst (λ (z : Pledge). length d.seat.seen ≤ z.ask) a.1 x.asks.new)
    | inr b ↦ inl b
  ]

  asks_pledged : (q : List ℕ) (y : Pledge) → pledge_of e q ≡ Some y → y.ask < length e.seat.seen
  asks_pledged q y h = elim (asks_was q y h) as (λ _. y.ask < length e.seat.seen) [
    | inl a ↦ subst (λ (z : Pledge). z.ask < length e.seat.seen) a.1 (ask_below e.seat x.pledge.ask x.pledge.opened x.pledge.version (arc_value x.pledge.key) x.asks.has)
    | inr b ↦ (let a = m.pledged q y b in let c = seen_longer d.seat e.seat asks_own asks_onward in omega arith)
  ]

  asks_apart : (q u : List ℕ) (y z : Pledge) → pledge_of e q ≡ Some y → pledge_of e u ≡ Some z → y.ask ≡ z.ask → q ≡ u
  asks_apart q u y z h i s = elim (asks_was q y h) as (λ _. q ≡ u) [
    | inl a ↦ elim (asks_was u z i) as (λ _. q ≡ u) [
      | inl b ↦ sym a.0 ∙ b.0
      | inr b ↦ absurd (let l = asks_below u z b in let k : x.pledge.ask ≡ y.ask = ap (λ (v : Pledge). v.ask) a.1 in omega arith)
    ]
    | inr a ↦ elim (asks_was u z i) as (λ _. q ≡ u) [
      | inl b ↦ absurd (let l = asks_below q y a in let k : x.pledge.ask ≡ z.ask = ap (λ (v : Pledge). v.ask) b.1 in omega arith)
      | inr b ↦ m.asks_apart q u y z a b s
    ]
  ]

  pub ask_stands : Matches id e (requested p asked_now) (after past (line.Ask r))
  ask_stands = record {
    ours = x.asks.goes.ours;
    log = asks_log ∙ m.log;
    gathered = x.gathered ∙ m.gathered;
    within = m.within;
    known = λ t k. (let y = m.known t k in (y.0, asks_transaction t ∙ y.1));
    open_ = λ t y h. (let z = m.open_ t y (sym (asks_transaction t) ∙ h) in (still_open d.seat e.seat asks_own asks_onward y.opened y.version tt z.0, z.1, z.2));
    apart = λ t u y z h i. m.apart t u y z (sym (asks_transaction t) ∙ h) (sym (asks_transaction u) ∙ i);
    pledged = asks_pledged;
    asks_apart = asks_apart;
    requests = asks_requests;
    looks = looks_same d e asks_own asks_onward m.looks x.outlook (λ y h. (tt, tt)) asks_later;
    found = asks_found;
    distinct = m.distinct;
    touched = m.touched;
  }

-- ---- wait, cancel and close

-- a request whose name is this one, by what has become of it
fate_there : (past : Past) (q : List ℕ) (a : Asked) (f : Fate) → past.asked q ≡ Some a → fate_of past q ≡ Some f → a.fate ≡ f
fate_there past q a f h e = some_same (sym (ap (option_map (λ (b : Asked). b.fate)) h) ∙ e)

-- a pending request is live
pub live_there : (id : EngineId) (d : Driver) (p : Plan) (past : Past) (r : Planned) → Matches id d p past → (i : IsPending d r) → NotClosed i.pledge.opened d.seat.mine
live_there id d p past r m i = subst (λ n. NotClosed n d.seat.mine) i.same (m.open_ r.transaction i.transaction i.within).0.not_closed

module _ (id : EngineId) (d : Driver) (p : Plan) (past : Past) (m : Matches id d p past) where
  pub has_transaction : (t : List ℕ) → past.opened t ≡ Some true → HasTransaction d t
  has_transaction t k = (let x = m.known t k in record { transaction = x.0; held = x.1; has = (m.open_ t x.0 x.1).0 })

  -- of a request that was not given up: it is live, if it is still to be answered
  may_wait_at : (q : List ℕ) (r : Planned) (f : Fate) → r.name ≡ q → f ≢ fate.Cancelled → IsAt d r f → MayWait d q
  may_wait_at q r fate.Pending n c i = λ x h.
      let s : i.pledge ≡ x = some_same (sym i.held ∙ (ap (pledge_of d) n ∙ h)) in
      subst (IsLive d.seat) s (record { asks = i.asks; open_ = live_there id d p past r m i })
  may_wait_at q r fate.Answered n c i = λ x h. absurd (none_some (sym i.0 ∙ (ap (pledge_of d) n ∙ h)))
  may_wait_at q r fate.Cancelled n c i = absurd (c refl)

  pub may_wait : (q : List ℕ) → (fate_of past q ≢ None) → (fate_of past q ≢ Some fate.Cancelled) → MayWait d q
  may_wait q s c = by_asked (past.asked q) refl
    where
      by_asked : (o : Option Asked) → past.asked q ≡ o → MayWait d q
      by_asked None h = absurd (s (ap (option_map (λ (b : Asked). b.fate)) h))
      by_asked (Some a) h =
          let r = m.found q a h in
          let i = m.requests r.0 r.1 in
          let same : i.asked ≡ a = some_same (sym i.made ∙ (ap past.asked r.2 ∙ h)) in
          may_wait_at q r.0 i.asked.fate r.2 (λ e. c (ap (option_map (λ (b : Asked). b.fate)) h ∙ ap Some (ap (λ (b : Asked). b.fate) (sym same) ∙ e))) i.at

  may_cancel_at : (q : List ℕ) (r : Planned) (f : Fate) → r.name ≡ q → f ≡ fate.Pending → IsAt d r f → MayCancel d q
  may_cancel_at q r fate.Pending n e i = (i.pledge, ap (pledge_of d) (sym n) ∙ i.held, i.asks, live_there id d p past r m i)
  may_cancel_at q r fate.Answered n e i = (let z : fate.Answered ≡ fate.Pending = e in cc)
  may_cancel_at q r fate.Cancelled n e i = (let z : fate.Cancelled ≡ fate.Pending = e in cc)

  pub may_cancel : (q : List ℕ) → fate_of past q ≡ Some fate.Pending → MayCancel d q
  may_cancel q f = by_asked (past.asked q) refl
    where
      by_asked : (o : Option Asked) → past.asked q ≡ o → MayCancel d q
      by_asked None h = absurd (none_some (sym (ap (option_map (λ (b : Asked). b.fate)) h) ∙ f))
      by_asked (Some a) h =
          let r = m.found q a h in
          let i = m.requests r.0 r.1 in
          let same : i.asked ≡ a = some_same (sym i.made ∙ (ap past.asked r.2 ∙ h)) in
          may_cancel_at q r.0 i.asked.fate r.2 (ap (λ (b : Asked). b.fate) same ∙ fate_there past q a fate.Pending h f) i.at

-- ---- a request that was waited for

module _ (id : EngineId) (ends : Ends) (d e : Driver) (p : Plan) (past : Past) (q : List ℕ) (m : Matches id d p past) (some : fate_of past q ≢ None) (alive : fate_of past q ≢ Some fate.Cancelled) where
  abbrev pub waits : Past
  waits = after past (line.Wait q)

  -- what is asked of a name now
  waits_there : (r : Planned) → r.name ≡ q → (a : Asked) → past.asked r.name ≡ Some a → waits.asked r.name ≡ Some (record { transaction = a.transaction; fate = fate.Answered })
  waits_there r n a h =
      ap (λ b. cond b (come_to fate.Answered (past.asked r.name)) (past.asked r.name)) (subst (λ u. bytes_eq u r.name ≡ true) n (own_name r.name)) ∙ ap (come_to fate.Answered) h

  waits_other : (n : List ℕ) → bytes_eq q n ≡ false → waits.asked n ≡ past.asked n
  waits_other n f = ap (λ b. cond b (come_to fate.Answered (past.asked n)) (past.asked n)) f

  waits_found : (n : List ℕ) (a : Asked) → waits.asked n ≡ Some a → (r : Planned) × Has p.requests r × (r.name ≡ n)
  waits_found n a h = by_name q n _
      (λ s. by_asked (past.asked n) refl (sym (ap (λ b. cond b (come_to fate.Answered (past.asked n)) (past.asked n)) (subst (λ u. bytes_eq u n ≡ true) (sym s) (own_name n))) ∙ h))
      (λ f. m.found n a (sym (waits_other n f) ∙ h))
    where
      by_asked : (o : Option Asked) → past.asked n ≡ o → come_to fate.Answered (past.asked n) ≡ Some a → (r : Planned) × Has p.requests r × (r.name ≡ n)
      by_asked None e h = absurd (none_some (sym (ap (come_to fate.Answered) e) ∙ h))
      by_asked (Some b) e h = m.found n b e

  not_cancelled : (r : Planned) → r.name ≡ q → (i : IsMade d past r) → i.asked.fate ≢ fate.Cancelled
  not_cancelled r n i c = alive (ap (fate_of past) (sym n) ∙ (ap (option_map (λ (b : Asked). b.fate)) i.made ∙ ap Some c))

  -- what is made of it, if it is answered in e
  waits_made : (r : Planned) → r.name ≡ q → (i : IsMade d past r) → r.version ≤ length (log_in e.seat) → (pledge_of e r.name ≡ None) → IsTold e r → IsMade e waits r
  waits_made r n i h none told = record {
    asked = record { transaction = i.asked.transaction; fate = fate.Answered };
    made = waits_there r n i.asked i.made;
    transaction = i.transaction;
    within = h;
    at = (none, told);
  }

  -- nothing was done, as it was answered before
  told_before : pledge_of d q ≡ None → e ≡ d → Steps id ends p past (line.Wait q) d e
  told_before none is = record {
    stands = record {
      ours = subst (λ (x : Driver). IsOurs id x.seat) (sym is) m.ours;
      log = ap (λ (x : Driver). log_in x.seat) is ∙ m.log;
      gathered = ap (λ (x : Driver). x.gathered) is ∙ m.gathered;
      within = m.within;
      known = λ t k. (let y = m.known t k in (y.0, ap (λ (x : Driver). transaction_of x t) is ∙ y.1));
      open_ = λ t x h. (let y = m.open_ t x (ap (λ (z : Driver). transaction_of z t) (sym is) ∙ h) in (subst (λ (z : Driver). HasOpen z.seat x.opened x.version) (sym is) y.0, y.1, y.2));
      apart = λ t u x y h i. m.apart t u x y (ap (λ (z : Driver). transaction_of z t) (sym is) ∙ h) (ap (λ (z : Driver). transaction_of z u) (sym is) ∙ i);
      pledged = λ n x h. subst (λ (z : Driver). x.ask < length z.seat.seen) (sym is) (m.pledged n x (ap (λ (z : Driver). pledge_of z n) (sym is) ∙ h));
      asks_apart = λ n r x y h i. m.asks_apart n r x y (ap (λ (z : Driver). pledge_of z n) (sym is) ∙ h) (ap (λ (z : Driver). pledge_of z r) (sym is) ∙ i);
      requests = λ r h. by_name q r.name _ (λ s. again r (sym s) (m.requests r h))
          (λ f. (let i = m.requests r h in record { asked = i.asked; made = waits_other r.name f ∙ i.made; transaction = i.transaction; within = subst (λ (z : Driver). r.version ≤ length (log_in z.seat)) (sym is) i.within; at = subst (λ (z : Driver). IsAt z r i.asked.fate) (sym is) i.at }));
      looks = subst Looks (sym is) m.looks;
      found = waits_found;
      distinct = m.distinct;
      touched = m.touched;
    };
    newest = ap (λ (x : Driver). x.newest.items) is ∙ sym (append-nil d.newest.items);
  }
    where
      at_again : (r : Planned) (f : Fate) → r.name ≡ q → f ≢ fate.Cancelled → IsAt d r f → (pledge_of d r.name ≡ None) × IsTold d r
      at_again r fate.Pending n c i = absurd (none_some (sym none ∙ (ap (pledge_of d) (sym n) ∙ i.held)))
      at_again r fate.Answered n c i = i
      at_again r fate.Cancelled n c i = absurd (c refl)

      again : (r : Planned) → r.name ≡ q → IsMade d past r → IsMade e waits r
      again r n i =
          let a = at_again r i.asked.fate n (not_cancelled r n i) i.at in
          waits_made r n i (subst (λ (z : Driver). r.version ≤ length (log_in z.seat)) (sym is) i.within) (subst (λ (z : Driver). pledge_of z r.name ≡ None) (sym is) a.0) (subst (λ (z : Driver). IsTold z r) (sym is) a.1)

  module _ (x : Pledge) (text : List ℕ) (held : pledge_of d q ≡ Some x) (goes : Goes id d.seat e.seat []) (told : IsToldOf (log_in d.seat) x.version (arc_value x.key) text) (known : IsKnown x d e) (sees : Sees e.seat e.outlook)
      (promises : (n : List ℕ) → pledge_of e n ≡ with_named q None (pledge_of d) n) (answers : (n : List ℕ) → answer_of e n ≡ with_named q (Some text) (answer_of d) n)
      (transactions : e.transactions ≡ d.transactions) (gathered : e.gathered ≡ d.gathered) (newest : e.newest ≡ d.newest) where
    told_onward : Onward d.seat e.seat []
    told_onward = onward id d.seat e.seat [] goes

    told_log : log_in e.seat ≡ log_in d.seat
    told_log = log_none d.seat e.seat [] told_onward refl

    told_transaction : (t : List ℕ) → transaction_of e t ≡ transaction_of d t
    told_transaction t = ap (λ v. get (pointwise nat_eq) v t) transactions

    told_was : (n : List ℕ) (y : Pledge) → pledge_of e n ≡ Some y → pledge_of d n ≡ Some y
    told_was n y h = by_name q n _
        (λ s. absurd (none_some (sym (promises q ∙ at_name q None (pledge_of d)) ∙ (ap (pledge_of e) s ∙ h))))
        (λ f. sym (past_name q n None (pledge_of d) f) ∙ (sym (promises n) ∙ h))

    at_told : (r : Planned) (f : Fate) → r.name ≡ q → f ≢ fate.Cancelled → IsAt d r f → IsToldOf (log_in d.seat) r.version (key_of r.wish) text
    at_told r fate.Pending n c i =
        let s : i.pledge ≡ x = some_same (sym i.held ∙ (ap (pledge_of d) n ∙ held)) in
        subst (λ k. IsToldOf (log_in d.seat) r.version k text) (ap (λ (y : Pledge). arc_value y.key) (sym s) ∙ i.key)
        (subst (λ v. IsToldOf (log_in d.seat) v (arc_value x.key) text) (ap (λ (y : Pledge). y.version) (sym s) ∙ i.version) told)
    at_told r fate.Answered n c i = absurd (none_some (sym i.0 ∙ (ap (pledge_of d) n ∙ held)))
    at_told r fate.Cancelled n c i = absurd (c refl)

    told_made : (r : Planned) → r.name ≡ q → IsMade d past r → IsMade e waits r
    told_made r n i = waits_made r n i (subst (λ C. r.version ≤ length C) (sym told_log) i.within)
        (ap (pledge_of e) n ∙ (promises q ∙ at_name q None (pledge_of d)))
        (record {
          text = text;
          held = ap (answer_of e) n ∙ (answers q ∙ at_name q (Some text) (answer_of d));
          told = subst (λ C. IsToldOf C r.version (key_of r.wish) text) (sym told_log) (at_told r i.asked.fate n (not_cancelled r n i) i.at);
        })

    told_other : (r : Planned) → bytes_eq q r.name ≡ false → IsMade d past r → IsMade e waits r
    told_other r f i = made_still d e [] told_onward [] (told_log ∙ sym (append-nil (log_in d.seat))) r past waits (waits_other r.name f) (λ y j. tt)
        (promises r.name ∙ past_name q r.name None (pledge_of d) f) (answers r.name ∙ past_name q r.name (Some text) (answer_of d) f) (λ y j. told_transaction r.transaction ∙ j) i

    -- what is still to be answered is not what is answered now
    told_apart : (n : List ℕ) (y : Pledge) → pledge_of e n ≡ Some y → (pledge_of d n ≡ Some y) × (x.ask ≡ y.ask → ⊥)
    told_apart n y h = (
      told_was n y h,
      λ s. none_some (sym (promises q ∙ at_name q None (pledge_of d)) ∙ (ap (pledge_of e) (m.asks_apart q n x y held (told_was n y h) s) ∙ h)),
    )

    told_looks : Looks e
    told_looks = elim known as (λ _. Looks e) [
      | inl more ↦ looks_more d e [] told_onward m.looks x refl sees more (may_wait id d p past m q some alive x held) told_apart
      | inr same ↦ looks_on d e [] told_onward m.looks sees same.0 (λ y h. (tt, tt)) (λ n y h. inl (told_was n y h))
    ]

    told_now : Steps id ends p past (line.Wait q) d e
    told_now = record {
      stands = record {
        ours = goes.ours;
        log = told_log ∙ m.log;
        gathered = gathered ∙ m.gathered;
        within = m.within;
        known = λ t k. (let y = m.known t k in (y.0, told_transaction t ∙ y.1));
        open_ = λ t y h. (let z = m.open_ t y (sym (told_transaction t) ∙ h) in (still_open d.seat e.seat [] told_onward y.opened y.version tt z.0, z.1, z.2));
        apart = λ t u y z h i. m.apart t u y z (sym (told_transaction t) ∙ h) (sym (told_transaction u) ∙ i);
        pledged = λ n y h. (let a = m.pledged n y (told_was n y h) in let b = seen_longer d.seat e.seat [] told_onward in omega arith);
        asks_apart = λ n r y z h i. m.asks_apart n r y z (told_was n y h) (told_was r z i);
        requests = λ r h. by_name q r.name _ (λ s. told_made r (sym s) (m.requests r h)) (λ f. told_other r f (m.requests r h));
        looks = told_looks;
        found = waits_found;
        distinct = m.distinct;
        touched = m.touched;
      };
      newest = ap (λ v. v.items) newest ∙ sym (append-nil d.newest.items);
    }

  pub wait_stands : DidWait id q d e → Steps id ends p past (line.Wait q) d e
  wait_stands (was_told none is) = told_before none is
  wait_stands (is_told x text held goes told known sees promises answers transactions gathered newest) = told_now x text held goes told known sees promises answers transactions gathered newest

-- ---- promises that are polled

module _ (id : EngineId) (d e : Driver) (p : Plan) (past : Past) (m : Matches id d p past) (x : Confirms id d e) where
  confirms_onward : Onward d.seat e.seat []
  confirms_onward = onward id d.seat e.seat [] x.goes

  confirms_log : log_in e.seat ≡ log_in d.seat
  confirms_log = log_none d.seat e.seat [] confirms_onward refl

  confirms_transaction : (t : List ℕ) → transaction_of e t ≡ transaction_of d t
  confirms_transaction t = ap (λ v. get (pointwise nat_eq) v t) x.transactions

  confirms_pledge : (q : List ℕ) → pledge_of e q ≡ pledge_of d q
  confirms_pledge q = ap (λ v. get (pointwise nat_eq) v q) x.promises

  pub confirm_stands : Matches id e p past
  confirm_stands = record {
    ours = x.goes.ours;
    log = confirms_log ∙ m.log;
    gathered = x.gathered ∙ m.gathered;
    within = m.within;
    known = λ t k. (let y = m.known t k in (y.0, confirms_transaction t ∙ y.1));
    open_ = λ t y h. (let z = m.open_ t y (sym (confirms_transaction t) ∙ h) in (still_open d.seat e.seat [] confirms_onward y.opened y.version tt z.0, z.1, z.2));
    apart = λ t u y z h i. m.apart t u y z (sym (confirms_transaction t) ∙ h) (sym (confirms_transaction u) ∙ i);
    pledged = λ q y h. (let a = m.pledged q y (sym (confirms_pledge q) ∙ h) in let b = seen_longer d.seat e.seat [] confirms_onward in omega arith);
    asks_apart = λ q r y z h i. m.asks_apart q r y z (sym (confirms_pledge q) ∙ h) (sym (confirms_pledge r) ∙ i);
    requests = λ r h. made_still d e [] confirms_onward [] (confirms_log ∙ sym (append-nil (log_in d.seat))) r past past refl (λ y i. tt) (confirms_pledge r.name)
        (ap (λ v. option_map (λ w. w.items) (get (pointwise nat_eq) v r.name)) x.answers) (λ y i. confirms_transaction r.transaction ∙ i) (m.requests r h);
    looks = looks_none e (x.sees e.seat (sees_on d.seat e.seat d.outlook confirms_onward.begins m.looks.sees)) x.unpolled;
    found = m.found;
    distinct = m.distinct;
    touched = m.touched;
  }

-- a step after that
pub after_confirming : (id : EngineId) (ends : Ends) (d b e : Driver) (p : Plan) (past : Past) (l : Line) → Confirms id d b → Steps id ends p past l b e → Steps id ends p past l d e
after_confirming id ends d b e p past l x s = record { stands = s.stands; newest = s.newest ∙ ap (λ v. v.items ++ newest_of p l) x.newest }

-- ---- a request that is given up

module _ (id : EngineId) (ends : Ends) (d e : Driver) (p : Plan) (past : Past) (q : List ℕ) (m : Matches id d p past) (pending : fate_of past q ≡ Some fate.Pending) (x : DidCancel id q d e) where
  abbrev pub cancels : Past
  cancels = after past (line.Cancel q)

  abbrev pub cancels_own : List (Told Key Value)
  cancels_own = Leave 0 x.pledge.ask ∷ []

  cancels_onward : Onward d.seat e.seat cancels_own
  cancels_onward = onward id d.seat e.seat cancels_own x.goes

  cancels_log : log_in e.seat ≡ log_in d.seat
  cancels_log = log_leave d.seat e.seat cancels_own cancels_onward 0 x.pledge.ask refl

  cancels_transaction : (t : List ℕ) → transaction_of e t ≡ transaction_of d t
  cancels_transaction t = ap (λ v. get (pointwise nat_eq) v t) x.transactions

  cancels_other : (n : List ℕ) → bytes_eq q n ≡ false → cancels.asked n ≡ past.asked n
  cancels_other n f = ap (λ b. cond b (come_to fate.Cancelled (past.asked n)) (past.asked n)) f

  cancels_found : (n : List ℕ) (a : Asked) → cancels.asked n ≡ Some a → (r : Planned) × Has p.requests r × (r.name ≡ n)
  cancels_found n a h = by_name q n _
      (λ s. by_asked (past.asked n) refl (sym (ap (λ b. cond b (come_to fate.Cancelled (past.asked n)) (past.asked n)) (subst (λ u. bytes_eq u n ≡ true) (sym s) (own_name n))) ∙ h))
      (λ f. m.found n a (sym (cancels_other n f) ∙ h))
    where
      by_asked : (o : Option Asked) → past.asked n ≡ o → come_to fate.Cancelled (past.asked n) ≡ Some a → (r : Planned) × Has p.requests r × (r.name ≡ n)
      by_asked None e h = absurd (none_some (sym (ap (come_to fate.Cancelled) e) ∙ h))
      by_asked (Some b) e h = m.found n b e

  cancels_was : (n : List ℕ) (y : Pledge) → pledge_of e n ≡ Some y → pledge_of d n ≡ Some y
  cancels_was n y h = by_name q n _
      (λ s. absurd (none_some (sym (x.promises q ∙ at_name q None (pledge_of d)) ∙ (ap (pledge_of e) s ∙ h))))
      (λ f. sym (past_name q n None (pledge_of d) f) ∙ (sym (x.promises n) ∙ h))

  cancels_apart : (n : List ℕ) (y : Pledge) → bytes_eq q n ≡ false → pledge_of d n ≡ Some y → NotLeft y.ask cancels_own
  cancels_apart n y f h = ((λ s. true_false (sym (subst (λ u. bytes_eq q u ≡ true) (m.asks_apart q n x.pledge y x.held h s) (own_name q)) ∙ f)), tt)
    where
      true_false : true ≡ false → ⊥
      true_false e = cc

  cancels_made : (r : Planned) → r.name ≡ q → IsMade d past r → IsMade e cancels r
  cancels_made r n i = record {
    asked = record { transaction = i.asked.transaction; fate = fate.Cancelled };
    made = ap (λ b. cond b (come_to fate.Cancelled (past.asked r.name)) (past.asked r.name)) (subst (λ u. bytes_eq u r.name ≡ true) n (own_name r.name)) ∙ ap (come_to fate.Cancelled) i.made;
    transaction = i.transaction;
    within = subst (λ C. r.version ≤ length C) (sym cancels_log) i.within;
    at = tt;
  }

  cancels_kept : (r : Planned) → bytes_eq q r.name ≡ false → IsMade d past r → IsMade e cancels r
  cancels_kept r f i = made_still d e cancels_own cancels_onward [] (cancels_log ∙ sym (append-nil (log_in d.seat))) r past cancels (cancels_other r.name f) (λ y j. cancels_apart r.name y f j)
      (x.promises r.name ∙ past_name q r.name None (pledge_of d) f) (ap (λ v. option_map (λ u. u.items) (get (pointwise nat_eq) v r.name)) x.answers) (λ y j. cancels_transaction r.transaction ∙ j) i

  pub cancel_stands : Steps id ends p past (line.Cancel q) d e
  cancel_stands = record {
    stands = record {
      ours = x.goes.ours;
      log = cancels_log ∙ m.log;
      gathered = x.gathered ∙ m.gathered;
      within = m.within;
      known = λ t k. (let y = m.known t k in (y.0, cancels_transaction t ∙ y.1));
      open_ = λ t y h. (let z = m.open_ t y (sym (cancels_transaction t) ∙ h) in (still_open d.seat e.seat cancels_own cancels_onward y.opened y.version tt z.0, z.1, z.2));
      apart = λ t u y z h i. m.apart t u y z (sym (cancels_transaction t) ∙ h) (sym (cancels_transaction u) ∙ i);
      pledged = λ n y h. (let a = m.pledged n y (cancels_was n y h) in let b = seen_longer d.seat e.seat cancels_own cancels_onward in omega arith);
      asks_apart = λ n r y z h i. m.asks_apart n r y z (cancels_was n y h) (cancels_was r z i);
      requests = λ r h. by_name q r.name _ (λ s. cancels_made r (sym s) (m.requests r h)) (λ f. cancels_kept r f (m.requests r h));
      looks = looks_same d e cancels_own cancels_onward m.looks x.outlook (λ y h. (((λ s. m.looks.apart y q x.pledge h x.held (sym s)), tt), tt)) (λ n y h. inl (cancels_was n y h));
      found = cancels_found;
      distinct = m.distinct;
      touched = m.touched;
    };
    newest = ap (λ v. v.items) x.newest ∙ sym (append-nil d.newest.items);
  }

-- ---- a transaction that is closed

module _ (id : EngineId) (ends : Ends) (d e : Driver) (p : Plan) (past : Past) (t : List ℕ) (m : Matches id d p past) (polled : d.outlook.unpolled.items ≡ []) (x : DidClose id t d e) where
  abbrev pub closes : Past
  closes = after past (line.Close t)

  abbrev pub closes_own : List (Told Key Value)
  closes_own = Close 0 x.transaction.opened ∷ []

  closes_onward : Onward d.seat e.seat closes_own
  closes_onward = onward id d.seat e.seat closes_own x.goes

  closes_log : log_in e.seat ≡ log_in d.seat
  closes_log = log_close d.seat e.seat closes_own closes_onward 0 x.transaction.opened refl

  closes_pledge : (q : List ℕ) → pledge_of e q ≡ pledge_of d q
  closes_pledge q = ap (λ v. get (pointwise nat_eq) v q) x.promises

  closes_answer : (q : List ℕ) → answer_of e q ≡ answer_of d q
  closes_answer q = ap (λ v. option_map (λ u. u.items) (get (pointwise nat_eq) v q)) x.answers

  closes_was : (u : List ℕ) (y : Transaction) → transaction_of e u ≡ Some y → (bytes_eq t u ≡ false) × (transaction_of d u ≡ Some y)
  closes_was u y h = by_name t u _
      (λ s. absurd (none_some (sym (x.transactions t ∙ at_name t None (transaction_of d)) ∙ (ap (transaction_of e) s ∙ h))))
      (λ f. (f, sym (past_name t u None (transaction_of d) f) ∙ (sym (x.transactions u) ∙ h)))

  closes_apart : (u : List ℕ) (y : Transaction) → bytes_eq t u ≡ false → transaction_of d u ≡ Some y → NotClosed y.opened closes_own
  closes_apart u y f h = ((λ s. true_false (sym (subst (λ n. bytes_eq t n ≡ true) (m.apart t u x.transaction y x.held h s) (own_name t)) ∙ f)), tt)
    where
      true_false : true ≡ false → ⊥
      true_false e = cc

  closes_found : (n : List ℕ) (a : Asked) → closes.asked n ≡ Some a → (r : Planned) × Has p.requests r × (r.name ≡ n)
  closes_found n a h = by_asked (past.asked n) refl h
    where
      by_asked : (o : Option Asked) → past.asked n ≡ o → left_by t (past.asked n) ≡ Some a → (r : Planned) × Has p.requests r × (r.name ≡ n)
      by_asked None e h = absurd (none_some (sym (ap (left_by t) e) ∙ h))
      by_asked (Some b) e h = m.found n b e

  -- a request of the transaction, and one of another
  own_at : (r : Planned) (f : Fate) → r.version ≤ length (log_in d.seat) → IsAt d r f → IsAt e r (given_up f)
  own_at r fate.Pending h i = tt
  own_at r fate.Answered h i = (closes_pledge r.name ∙ i.0, told_still d e closes_own closes_onward [] (closes_log ∙ sym (append-nil (log_in d.seat))) r h (closes_answer r.name) i.1)
  own_at r fate.Cancelled h i = tt

  other_at : (r : Planned) (f : Fate) → bytes_eq t r.transaction ≡ false → r.version ≤ length (log_in d.seat) → IsAt d r f → IsAt e r f
  other_at r fate.Pending g h i = pending_still d e closes_own closes_onward [] (closes_log ∙ sym (append-nil (log_in d.seat))) r (λ y j. tt) (closes_pledge r.name)
      (λ y j. x.transactions r.transaction ∙ (past_name t r.transaction None (transaction_of d) g ∙ j)) i
  other_at r fate.Answered g h i = (closes_pledge r.name ∙ i.0, told_still d e closes_own closes_onward [] (closes_log ∙ sym (append-nil (log_in d.seat))) r h (closes_answer r.name) i.1)
  other_at r fate.Cancelled g h i = tt

  closes_made : (r : Planned) → IsMade d past r → IsMade e closes r
  closes_made r i = by_transaction (bytes_eq t i.asked.transaction) refl
    where
      at_by : (b : Bool) → bytes_eq t i.asked.transaction ≡ b → IsAt e r (cond b (given_up i.asked.fate) i.asked.fate)
      at_by true c = own_at r i.asked.fate i.within i.at
      at_by false c = other_at r i.asked.fate (ap (bytes_eq t) (sym i.transaction) ∙ c) i.within i.at

      by_transaction : (b : Bool) → bytes_eq t i.asked.transaction ≡ b → IsMade e closes r
      by_transaction b c = record {
        asked = record { transaction = i.asked.transaction; fate = cond b (given_up i.asked.fate) i.asked.fate };
        made = ap (left_by t) i.made ∙ ap (λ b. Some (record { transaction = i.asked.transaction; fate = cond b (given_up i.asked.fate) i.asked.fate })) c;
        transaction = i.transaction;
        within = subst (λ C. r.version ≤ length C) (sym closes_log) i.within;
        at = at_by b c;
      }

  pub close_stands : Steps id ends p past (line.Close t) d e
  close_stands = record {
    stands = record {
      ours = x.goes.ours;
      log = closes_log ∙ m.log;
      gathered = x.gathered ∙ m.gathered;
      within = m.within;
      known = λ u k. closes_known u k;
      open_ = λ u y h. (let w = closes_was u y h in let z = m.open_ u y w.1 in (still_open d.seat e.seat closes_own closes_onward y.opened y.version (closes_apart u y w.0 w.1) z.0, z.1, ap (λ b. cond b (Some false) (past.opened u)) w.0 ∙ z.2));
      apart = λ u v y z h i. m.apart u v y z (closes_was u y h).1 (closes_was v z i).1;
      pledged = λ n y h. (let a = m.pledged n y (sym (closes_pledge n) ∙ h) in let b = seen_longer d.seat e.seat closes_own closes_onward in omega arith);
      asks_apart = λ n r y z h i. m.asks_apart n r y z (sym (closes_pledge n) ∙ h) (sym (closes_pledge r) ∙ i);
      requests = λ r h. closes_made r (m.requests r h);
      looks = looks_none e (subst (Sees e.seat) (sym x.outlook) (sees_on d.seat e.seat d.outlook closes_onward.begins m.looks.sees)) (ap (λ o. o.unpolled.items) x.outlook ∙ polled);
      found = closes_found;
      distinct = m.distinct;
      touched = m.touched;
    };
    newest = ap (λ v. v.items) x.newest ∙ sym (append-nil d.newest.items);
  }
    where
      some_false : Some false ≡ Some true → ⊥
      some_false e = cc

      closes_known : (u : List ℕ) → closes.opened u ≡ Some true → (y : Transaction) × (transaction_of e u ≡ Some y)
      closes_known u k = by_name t u _
          (λ s. absurd (some_false (sym (ap (λ b. cond b (Some false) (past.opened u)) (subst (λ n. bytes_eq n u ≡ true) (sym s) (own_name u))) ∙ k)))
          (λ f. (let y = m.known u (sym (ap (λ b. cond b (Some false) (past.opened u)) f) ∙ k) in (y.0, x.transactions u ∙ (past_name t u None (transaction_of d) f ∙ y.1))))

-- ---- put and drop, as steps

pub put_steps : (id : EngineId) (ends : Ends) (d e : Driver) (p : Plan) (past : Past) (path bytes : List ℕ) → Matches id d p past → past.touched path ≡ false → e.seat ≡ d.seat
    → e.gathered ≡ d.gathered ++ (key.Source path, value.Source (Some bytes)) ∷ [] → KeepsNames d e → e.newest ≡ d.newest → Steps id ends p past (line.Put path bytes) d e
put_steps id ends d e p past path bytes m fresh seat eg k en = record {
  stands = gathered_stands id d e p past m seat k path (Some bytes) fresh eg;
  newest = ap (λ v. v.items) en ∙ sym (append-nil d.newest.items);
}

pub drop_steps : (id : EngineId) (ends : Ends) (d e : Driver) (p : Plan) (past : Past) (path : List ℕ) → Matches id d p past → past.touched path ≡ false → e.seat ≡ d.seat
    → e.gathered ≡ d.gathered ++ (key.Source path, value.Source None) ∷ [] → KeepsNames d e → e.newest ≡ d.newest → Steps id ends p past (line.Drop path) d e
drop_steps id ends d e p past path m fresh seat eg k en = record {
  stands = gathered_stands id d e p past m seat k path None fresh eg;
  newest = ap (λ v. v.items) en ∙ sym (append-nil d.newest.items);
}

-- ---- requests, as steps

pub ask_steps : (id : EngineId) (ends : Ends) (d e : Driver) (p : Plan) (past : Past) (r : Request) → Matches id d p past → IsNew past r → DidAsk id r (key.Digest r.label) d e → Steps id ends p past (line.Ask r) d e
ask_steps id ends d e p past r m n x = record { stands = ask_stands id ends d e p past r (Digest r.label) m n x; newest = ap (λ v. v.items) x.newest ∙ sym (append-nil d.newest.items) }

pub action_steps : (id : EngineId) (ends : Ends) (d e : Driver) (p : Plan) (past : Past) (r : Request) → Matches id d p past → IsNew past r → DidAsk id r (key.Action r.label) d e → Steps id ends p past (line.Action r) d e
action_steps id ends d e p past r m n x =
    let s = ask_stands id ends d e p past r (Text r.label) m n x in
    record {
      stands = record { ours = s.ours; log = s.log; gathered = s.gathered; within = s.within; known = s.known; open_ = s.open_; apart = s.apart; pledged = s.pledged; asks_apart = s.asks_apart; requests = s.requests; found = s.found; distinct = s.distinct; touched = s.touched; looks = s.looks };
      newest = ap (λ v. v.items) x.newest ∙ sym (append-nil d.newest.items);
    }

-- a transaction that is held is open
pub has_held : (id : EngineId) (d : Driver) (p : Plan) (past : Past) (t : List ℕ) → Matches id d p past → (x : Transaction) → transaction_of d t ≡ Some x → HasTransaction d t
has_held id d p past t m x h = record { transaction = x; held = h; has = (m.open_ t x h).0 }
