-- An Ask, a Leave or a Close at the version that is worked on, over all versions.
use Rattle.std.proofs.Common.{◌≡◌, ◌≢◌, ◌≤◌, ◌+◌, ◌*◌, ℕ, Bool, true, false, not, ◌&&◌, eqb, List, ◌∷◌, length, Option, Some, None, refl, sym, ◌∙◌}
use Rattle.std.proofs.lemmas.Bool.{both_ways, eqb-true, ne_eqb, eq-eqb}
use Rattle.dice_key.specs.Meaning.{Meaning}
use Rattle.dice_key.specs.Lawful.{IsLawful, IsEquality}
use Rattle.dice_key.specs.declared.universe.Kind.TheVariants.{Injected}
use Rattle.task_share.specs.Asked.{By, Promised, Asked}
use Rattle.journal.specs.declared.event.Told.{Told}
use Rattle.journal.specs.declared.event.Told.TheVariants.{Ask, Leave, Close}
use Rattle.journal.specs.Events.{Opened, Asking, is_for, open_at, opened_at, live_at, ended_at}
use Rattle.journal.specs.Law.{IsAllowed}
use Rattle.core_laws.specs.Tasks.{Task}
use Rattle.core_laws.specs.Changes.{SameAsks, SameLives, Joins, Leaves}
use Rattle.core_laws.specs.Promises.{is_promise_in}
use Rattle.core_laws.specs.Desk.{World, Desk, DeskStays, Stand, with_version}
use Rattle.core_laws.proofs.Turns.{stands_here}
use Rattle.core_laws.proofs.Opens.{there_open}
use Rattle.core_laws.proofs.Asks.{asked, asked_elsewhere_rests}
use Rattle.core_laws.proofs.Leaves.{left, left_elsewhere_rests, ended_on_leave}
use Rattle.core_laws.proofs.Closes.{closed, closed_elsewhere_rests, ended_on_close}
use Rattle.core_laws.proofs.Steps.{asks_on}

-- a transaction at v is at no other version
pub open_elsewhere : (v n : ℕ) (o : Opened) → o.version ≡ v → eqb n v ≡ false → o.version ≢ n
open_elsewhere v n o at f h = both_ways (eqb n v) f (eq-eqb n v (sym h ∙ at))

-- and an ask in a transaction at v is at no other version
pub ask_elsewhere : {K V : Type 0} (R : List (Told K V)) (v n t : ℕ) → opened_at R v t ≡ true → eqb n v ≡ false → opened_at R n t ≡ false
ask_elsewhere R v n t at f = by_open (open_at R t) at
  where
    by_open : (o : Option Opened) → is_for (λ (x : Opened). eqb x.version v) o ≡ true → is_for (λ (x : Opened). eqb x.version n) o ≡ false
    by_open None e = refl
    by_open (Some o) e = ne_eqb o.version n (open_elsewhere v n o (eqb-true o.version v e) f)

module _ {K V : Type 0} (eq : K → K → Bool) (equality : IsEquality eq) (m : Meaning K V) (law : IsLawful m) (R : List (Told K V)) (v : ℕ) where
  -- a key is asked for in a transaction at v: one promise more, of a key that is not injected
  pub asked_stand : (w : World K V) (W : List K) (s u : Asked K) (ts : K → Option (Task K V)) (by t : ℕ) (k : K) (o : Opened) (d e : Desk K) (owed owed2 : ℕ) → Stand eq m R v W (with_version v s ts w) d owed
      → open_at R t ≡ Some o → o.version ≡ v → (m.kind k ≡ Injected → SameAsks eq s u) → (m.kind k ≢ Injected → Joins eq k (Promised (length R)) s u) → SameLives eq s u
      → DeskStays d e → 2 * e.live + owed2 ≤ e.spare
      → IsAllowed eq m R (Ask by t k) × Stand eq m (Ask by t k ∷ R) v W (with_version v u ts w) e owed2
  asked_stand w W s u ts by t k o d e owed owed2 st open_is at same joins lives stays room =
      let a : IsAllowed eq m R (Ask by t k) = (o, open_is) in (
        a,
        asks_on eq equality m law R v w W W s u ts d e owed owed2 (Ask by t k ∷ R) st (a, st.lawful)
            (asked eq equality m law R v W s u ts by t k o (stands_here eq equality m R v W s ts w d owed st) open_is at same joins lives)
            (λ n b bs f r. asked_elsewhere_rests eq equality m law R n b bs by t k o r open_is (open_elsewhere v n o at f)) stays room,
      )

  -- an ask at v is left: its promise goes
  pub left_stand : (w : World K V) (W : List K) (s u : Asked K) (ts : K → Option (Task K V)) (by i : ℕ) (a : Asking K) (d e : Desk K) (owed owed2 : ℕ) → Stand eq m R v W (with_version v s ts w) d owed
      → live_at R i ≡ Some a → a.by ≡ by → opened_at R v a.opened ≡ true → Leaves eq a.key (Promised i) s u → SameLives eq s u
      → DeskStays d e → 2 * e.live + owed2 ≤ e.spare
      → IsAllowed eq m R (Leave by i) × Stand eq m (Leave by i ∷ R) v W (with_version v u ts w) e owed2 × (ended_at (Leave by i ∷ R) ≡ Some v)
  left_stand w W s u ts by i a d e owed owed2 st live_is his at leaves lives stays room =
      let b : IsAllowed eq m R (Leave by i) = (a, live_is, his) in (
        b,
        asks_on eq equality m law R v w W W s u ts d e owed owed2 (Leave by i ∷ R) st (b, st.lawful)
            (left eq equality m law R v W s u ts by i a (stands_here eq equality m R v W s ts w d owed st) live_is leaves lives)
            (λ n c bs f r. left_elsewhere_rests eq equality m law R n c bs by i a r live_is (ask_elsewhere R v n a.opened at f)) stays room,
        ended_on_leave R v by i a live_is at,
      )

  -- a transaction at v is closed: all its promises go
  pub closed_stand : (w : World K V) (W : List K) (s u : Asked K) (ts : K → Option (Task K V)) (by t : ℕ) (o : Opened) (d e : Desk K) (owed owed2 : ℕ) → Stand eq m R v W (with_version v s ts w) d owed
      → open_at R t ≡ Some o → o.by ≡ by → o.version ≡ v → ((q : K) (a : By K) → u.asks q a ≡ (s.asks q a && not (is_promise_in R t a))) → SameLives eq s u
      → DeskStays d e → 2 * e.live + owed2 ≤ e.spare
      → IsAllowed eq m R (Close by t) × Stand eq m (Close by t ∷ R) v W (with_version v u ts w) e owed2 × (ended_at (Close by t ∷ R) ≡ Some v)
  closed_stand w W s u ts by t o d e owed owed2 st open_is his at leaves lives stays room =
      let a : IsAllowed eq m R (Close by t) = (o, open_is, his) in (
        a,
        asks_on eq equality m law R v w W W s u ts d e owed owed2 (Close by t ∷ R) st (a, st.lawful)
            (closed eq equality m law R v W s u ts by t (stands_here eq equality m R v W s ts w d owed st) leaves lives)
            (λ n c bs f r. closed_elsewhere_rests eq equality m law R n c bs by t o r open_is (open_elsewhere v n o at f)) stays room,
        ended_on_close R v by t (there_open R v t o open_is at),
      )
