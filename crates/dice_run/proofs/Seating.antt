-- What the driver's seat keeps from one turn to the next.
use Rattle.std.proofs.Common.{◌≡◌, ◌≤◌, ◌<◌, ℕ, List, [], ◌∷◌, ◌++◌, length, reverse, refl, sym, ap, ◌∙◌, subst, arith, append_assoc, append-nil, length-append}
use Rattle.std.proofs.lemmas.List.{reverse-append, length-reverse}
use Rattle.dice_engine.specs.Seats.{EngineId}
use Rattle.journal.specs.declared.event.Told.{Told}
use Rattle.journal.specs.declared.event.Told.TheVariants.{Commit, Open, Close, Ask, Leave}
use Rattle.journal.specs.Events.{NotClosed, commits_of, event_of, StandsAt, NotLeft}
use Rattle.turnstile.specs.Events.{StartsWith}
use Rattle.dice_engine.specs.Turns.{log_of}
use Rattle.dice_engine.specs.Conditions.{HasOpen, HasAsk}
use Rattle.dice_engine.proofs.Callers.{open_later, ask_later, closed_both, left_both}
use Rattle.dice_engine.proofs.Indices.{back_below, from_front}
use Rattle.action_digest.specs.declared.key.Key.{Key}
use Rattle.action_digest.specs.declared.value.Value.{Value}
use Rattle.dice_run.specs.Commits.{with_pairs}
use Rattle.dice_run.specs.Seats.{Place, log_in, Goes}

pub begins_on : (I J K : List (Told Key Value)) → StartsWith K J → StartsWith J I → StartsWith K I
begins_on I J K a b = (b.0 ++ a.0, a.1 ∙ (ap (λ (x : List (Told Key Value)). x ++ a.0) b.1 ∙ append_assoc I b.0 a.0))

pub begins_itself : (J : List (Told Key Value)) → StartsWith J J
begins_itself J = ([], sym (append-nil J))

-- the seat has seen what it had seen, and its own events are those that it had, and these
pub record Onward (s u : Place) (own : List (Told Key Value)) : Type 0 where
  pub number : u.number ≡ s.number
  pub begins : StartsWith u.seen s.seen
  pub mine : u.mine ≡ s.mine ++ own

pub onward : (id : EngineId) (s u : Place) (own : List (Told Key Value)) → Goes id s u own → Onward s u own
onward id s u own g = record { number = g.number; begins = g.begins; mine = g.mine }

pub onward_same : (s u : Place) → u ≡ s → Onward s u []
onward_same s u e = record {
  number = ap (λ (x : Place). x.number) e;
  begins = ([], ap (λ (x : Place). x.seen) e ∙ sym (append-nil s.seen));
  mine = ap (λ (x : Place). x.mine) e ∙ sym (append-nil s.mine);
}

module _ (s u : Place) (own : List (Told Key Value)) (o : Onward s u own) where
  pub still_open : (t v : ℕ) → NotClosed t own → HasOpen s t v → HasOpen u t v
  still_open t v n h = open_later s u t v o.number o.begins (subst (NotClosed t) (sym o.mine) (closed_both t s.mine own h.not_closed n)) h

  pub still_asks : (i t v : ℕ) (k : Key) → NotLeft i own → HasAsk s i t v k → HasAsk u i t v k
  still_asks i t v k n h = ask_later s u i t v k o.number o.begins (subst (NotLeft i) (sym o.mine) (left_both i s.mine own h.not_left n)) h

  pub seen_longer : length s.seen ≤ length u.seen
  seen_longer =
      let e : length u.seen ≡ length (s.seen ++ o.begins.0) = ap length o.begins.1 in
      let l = length-append s.seen o.begins.0 in
      omega arith

  log_on : (e : Told Key Value) → own ≡ e ∷ [] → ((R : List (Told Key Value)) → commits_of (e ∷ R) ≡ commits_of R) → log_in u ≡ log_in s
  log_on e is f =
      ap log_of (o.mine ∙ ap (λ (es : List (Told Key Value)). s.mine ++ es) is)
      ∙ (ap commits_of (reverse-append s.mine (e ∷ [])) ∙ f (reverse s.mine))

  pub log_open : (n v : ℕ) → own ≡ Open n v ∷ [] → log_in u ≡ log_in s
  log_open n v is = log_on (Open n v) is (λ R. refl)

  pub log_close : (n t : ℕ) → own ≡ Close n t ∷ [] → log_in u ≡ log_in s
  log_close n t is = log_on (Close n t) is (λ R. refl)

  pub log_ask : (n t : ℕ) (k : Key) → own ≡ Ask n t k ∷ [] → log_in u ≡ log_in s
  log_ask n t k is = log_on (Ask n t k) is (λ R. refl)

  pub log_leave : (n i : ℕ) → own ≡ Leave n i ∷ [] → log_in u ≡ log_in s
  log_leave n i is = log_on (Leave n i) is (λ R. refl)

  pub log_none : own ≡ [] → log_in u ≡ log_in s
  log_none is = ap log_of (o.mine ∙ (ap (λ (es : List (Told Key Value)). s.mine ++ es) is ∙ append-nil s.mine))

  pub log_commit : (n : ℕ) (ps : List (Key × Value)) → own ≡ event_of n ps → log_in u ≡ with_pairs (log_in s) ps
  log_commit n [] is = log_none is
  log_commit n (p ∷ ps) is =
      ap log_of (o.mine ∙ ap (λ (es : List (Told Key Value)). s.mine ++ es) is) ∙ ap commits_of (reverse-append s.mine (Commit n (p ∷ ps) ∷ []))

-- a commit closes and leaves nothing
pub commit_closes_none : (t n : ℕ) (ps : List (Key × Value)) → NotClosed t (event_of n ps)
commit_closes_none t n [] = tt
commit_closes_none t n (p ∷ ps) = tt

pub commit_leaves_none : (i n : ℕ) (ps : List (Key × Value)) → NotLeft i (event_of n ps)
commit_leaves_none i n [] = tt
commit_leaves_none i n (p ∷ ps) = tt

-- what stands at an index stands before the end
pub stands_below : (J : List (Told Key Value)) (i : ℕ) (e : Told Key Value) → StandsAt J i e → i < length J
stands_below J i e h = subst (λ n. i < n) (length-reverse J) (back_below (reverse J) i e (from_front J i ∙ h))

pub open_below : (s : Place) (t v : ℕ) → HasOpen s t v → t < length s.seen
open_below s t v h = stands_below s.seen t (Open s.number v) h.opening

pub ask_below : (s : Place) (i t v : ℕ) (k : Key) → HasAsk s i t v k → i < length s.seen
ask_below s i t v k h = stands_below s.seen i (Ask s.number t k) h.asked
