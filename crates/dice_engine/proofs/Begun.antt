-- What a seat has after it opened a transaction, or asked for a key.
use Rattle.std.proofs.Common.{◌≡◌, ℕ, Bool, List, [], ◌∷◌, ◌++◌, length, Some, sym, ap, ◌∙◌, subst}
use Rattle.std.specs.Prelude.{reverse, Result, Ok, Err, IfOk, OnOk}
use Rattle.std.proofs.lemmas.Option.{same_Some}
use Rattle.std.specs.List.{slice_get}
use Rattle.dice_key.specs.Meaning.{Meaning}
use Rattle.journal.specs.declared.event.Told.{Told}
use Rattle.journal.specs.declared.event.Told.TheVariants.{Open, Ask}
use Rattle.journal.specs.Events.{Opened, NotClosed, open_at, StandsAt, NotLeft}
use Rattle.journal.specs.Law.{IsLawfulJournal}
use Rattle.journal.specs.Tell.{event_by}
use Rattle.journal.proofs.Lawful.{lawful_front}
use Rattle.turnstile.specs.Events.{events_by}
use Rattle.turnstile.specs.Seats.{SeatView as Place}
use Rattle.job_line.specs.Ends.{PassView}
use Rattle.dice_engine.specs.Seats.{SeatView, seated}
use Rattle.dice_engine.specs.Turns.{newest_in, Adds, Turn}
use Rattle.dice_engine.specs.Conditions.{HasOpen, HasAsk}
use Rattle.dice_engine.specs.Calls.{Opens, Closes, Asks}
use Rattle.dice_engine.proofs.Indices.{get_seam}
use Rattle.dice_engine.proofs.Kept.{has_open, next_unclosed, next_unleft}
use Rattle.dice_engine.proofs.Turned.{Entered}
use Rattle.dice_engine.proofs.Callers.{same_number, stands_longer, closed_both, left_both}

module _ {K V : Type 0} (eq : K → K → Bool) (m : Meaning K V) (old new : SeatView (Told K V)) where
  -- the journal that was found is lawful
  pub found_lawful : (P : List (Told K V) → List (Told K V) → List (Told K V) → Type 0) → (t : Turn eq m old new P) → IsLawfulJournal eq m t.found
  found_lawful P t = lawful_front eq m t.found (t.adds.own ++ t.adds.work) (subst (IsLawfulJournal eq m) t.adds.journal t.adds.lawful)

  -- its one event stands where the journal that was found ended
  stands : (P : List (Told K V) → List (Told K V) → List (Told K V) → Type 0) (t : Turn eq m old new P) (e : Told K V) → t.adds.own ≡ e ∷ [] → StandsAt new.seen (length t.found) e
  stands P t e is = ap (λ l. slice_get l (length t.found)) (t.adds.journal ∙ ap (λ o. t.found ++ (o ++ t.adds.work)) is) ∙ get_seam t.found t.adds.work e

  pub has_opened : (i v : ℕ) → Turn eq m old new (λ found own work. Opens old.number found own work × (v ≡ newest_in found) × (i ≡ length found)) → HasOpen new i v
  has_opened i v t =
      let P : List (Told K V) → List (Told K V) → List (Told K V) → Type 0 = λ found own work. Opens old.number found own work × (v ≡ newest_in found) × (i ≡ length found) in
      let own : t.adds.own ≡ Open old.number (newest_in t.found) ∷ [] = t.adds.did.0.0 in
      let number = same_number eq m old new t.later in
      let mine : new.mine ≡ events_by event_by old.number t.found ++ Open old.number (newest_in t.found) ∷ [] = t.mine ∙ (λ j. sym t.found_mine j ++ own j) in record {
        opening = subst (λ x. StandsAt new.seen x (Open new.number v)) (sym t.adds.did.2) (stands P t (Open new.number v) (own ∙ (λ j. Open (sym number j) (sym t.adds.did.1 j) ∷ [])));
        not_closed = subst (λ x. NotClosed x new.mine) (sym t.adds.did.2)
            (subst (NotClosed (length t.found)) (sym mine) (closed_both (length t.found) (events_by event_by old.number t.found) (Open old.number (newest_in t.found) ∷ []) (next_unclosed eq m t.found (found_lawful P t) old.number) tt));
      }

  pub has_asked : (i o v : ℕ) (k : K) → HasOpen old o v → Turn eq m old new (λ found own work. Asks old.number o v k own work × (i ≡ length found)) → HasAsk new i o v k
  has_asked i o v k h t =
      let P : List (Told K V) → List (Told K V) → List (Told K V) → Type 0 = λ found own work. Asks old.number o v k own work × (i ≡ length found) in
      let own : t.adds.own ≡ Ask old.number o k ∷ [] = t.adds.did.0.0 in
      let number = same_number eq m old new t.later in
      let mine : new.mine ≡ events_by event_by old.number t.found ++ Ask old.number o k ∷ [] = t.mine ∙ (λ j. sym t.found_mine j ++ own j) in record {
        asked = subst (λ x. StandsAt new.seen x (Ask new.number o k)) (sym t.adds.did.1) (stands P t (Ask new.number o k) (own ∙ (λ j. Ask (sym number j) o k ∷ [])));
        opening = subst (λ n. StandsAt new.seen o (Open n v)) (sym number) (stands_longer old.seen new.seen o (Open old.number v) t.later.begins h.opening);
        not_left = subst (λ x. NotLeft x new.mine) (sym t.adds.did.1)
            (subst (NotLeft (length t.found)) (sym mine) (left_both (length t.found) (events_by event_by old.number t.found) (Ask old.number o k ∷ []) (next_unleft eq m t.found (found_lawful P t) old.number) tt));
      }

module _ {K V : Type 0} (eq : K → K → Bool) (m : Meaning K V) where
  -- the journal to which something was added is lawful
  pub was_lawful : (n : ℕ) (J I : List (Told K V)) (P : List (Told K V) → List (Told K V) → Type 0) → Adds eq m n J I P → IsLawfulJournal eq m J
  was_lawful n J I P a = lawful_front eq m J (a.own ++ a.work) (subst (IsLawfulJournal eq m) a.journal a.lawful)

  -- what a seat closes is its own
  pub closes_own : {H : Type 0} (p : PassView H) (s mid : Place (Told K V)) (J I : List (Told K V)) (t v : ℕ) → Entered eq m s mid J → HasOpen (seated p s) t v → (o : Opened) → open_at (reverse J) t ≡ Some o → Adds eq m o.by J I (Closes o.by t o.version)
      → Adds eq m s.number J I (Closes s.number t v)
  closes_own p s mid J I t v e h o at a =
      let same : o ≡ record { by = s.number; version = v } = same_Some _ _ (sym at ∙ has_open eq m (seated p s) J e.begins (was_lawful o.by J I (Closes o.by t o.version) a) e.found t v h) in
      subst (λ (x : Opened). Adds eq m x.by J I (Closes x.by t x.version)) same a

-- both facts of a result that is Ok
pub if_ok_both : {A B : Type 0} (r : Result A B) (P R : A → Type 0) (Q : Type 0) → IfOk r P → OnOk r Q → ((x : A) → P x → Q → R x) → IfOk r R
if_ok_both (Ok x) P R Q p q f = f x p q
if_ok_both (Err e) P R Q p q f = tt
