-- An Ask of an injected key, and its Leave, change no task and no ask of a task.
use Rattle.std.proofs.Common.{◌≡◌, ◌≤◌, ◌+◌, ◌*◌, ℕ, Bool, true, false, not, ◌&&◌, eqb, List, [], ◌∷◌, Option, Some, refl, sym, ◌∙◌, subst}
use Rattle.std.proofs.lemmas.Bool.{eqb-true, eqb-false, and_parts, false_from_ne_true}
use Rattle.dice_key.specs.Meaning.{Meaning}
use Rattle.dice_key.specs.Lawful.{IsLawful, IsEquality}
use Rattle.dice_key.specs.declared.universe.Kind.TheVariants.{Injected}
use Rattle.task_share.specs.Asked.{By, Promised, Asked, is_by}
use Rattle.journal.specs.declared.event.Told.{Told}
use Rattle.journal.specs.declared.event.Told.TheVariants.{Ask, Leave}
use Rattle.journal.specs.Events.{Opened, Asking, open_at, live_at}
use Rattle.journal.specs.Law.{IsAllowed}
use Rattle.core_laws.specs.Tasks.{Task}
use Rattle.core_laws.specs.Stands.{IsAtRest}
use Rattle.core_laws.specs.Changes.{Leaves}
use Rattle.core_laws.specs.Desk.{World, Desk, DeskStays, Rests}
use Rattle.core_laws.proofs.Asks.{asked, asked_elsewhere_rests}
use Rattle.core_laws.proofs.Leaves.{left}
use Rattle.core_laws.proofs.StepsRests.{rests_on}

module _ {K V : Type 0} (eq : K → K → Bool) (equality : IsEquality eq) (m : Meaning K V) (law : IsLawful m) (R : List (Told K V)) where
  -- at rest nobody asks for an injected key
  pub injected_unasked : (v : ℕ) (s : Asked K) (ts : K → Option (Task K V)) → IsAtRest eq m R v s ts → (k : K) → m.kind k ≡ Injected → (a : By K) → s.asks k a ≡ false
  injected_unasked v s ts h k i a = false_from_ne_true (s.asks k a) (λ e. (let t = h.tasked k a e in (h.stands.each k t.0 t.1).computed i))

  -- so there is nobody to withdraw
  nobody_leaves : (v : ℕ) (s : Asked K) (ts : K → Option (Task K V)) → IsAtRest eq m R v s ts → (k : K) → m.kind k ≡ Injected → (b : By K) → Leaves eq k b s s
  nobody_leaves v s ts h k i b q a = by_test (s.asks q a) (eq k q && is_by eq b a) refl refl
    where
      by_test : (x y : Bool) → s.asks q a ≡ x → (eq k q && is_by eq b a) ≡ y → x ≡ (x && not y)
      by_test false y e f = refl
      by_test true false e f = refl
      by_test true true e f =
          let same = equality.same k q (and_parts (eq k q) (is_by eq b a) f).0 in
          let c : true ≡ false = sym e ∙ subst (λ z. s.asks z a ≡ false) same (injected_unasked v s ts h k i a) in cc

  module _ (w : World K V) (d e : Desk K) (owed owed2 : ℕ) (r : Rests eq m R w d owed) (stays : DeskStays d e) (room : 2 * e.live + owed2 ≤ e.spare) where
    -- an injected key is asked for
    pub rests_asked_injected : (by t : ℕ) (k : K) (o : Opened) → open_at R t ≡ Some o → m.kind k ≡ Injected → IsAllowed eq m R (Ask by t k) × Rests eq m (Ask by t k ∷ R) w e owed2
    rests_asked_injected by t k o open_is injected =
        let a : IsAllowed eq m R (Ask by t k) = (o, open_is) in
        (a, rests_on eq equality m law R w d e owed owed2 r stays room (Ask by t k ∷ R) (a, r.lawful) (λ n s ts h. by_version n s ts h (eqb o.version n) refl))
      where
        by_version : (n : ℕ) (s : Asked K) (ts : K → Option (Task K V)) → IsAtRest eq m R n s ts → (b : Bool) → eqb o.version n ≡ b → IsAtRest eq m (Ask by t k ∷ R) n s ts
        by_version n s ts h true f = record {
          stands = asked eq equality m law R n [] s s ts by t k o h.stands open_is (eqb-true o.version n f) (λ i q a. refl) (λ i. absurd (i injected)) (λ q. refl);
          tasked = h.tasked;
          wanted = h.wanted;
          closed = h.closed;
        }
        by_version n s ts h false f = asked_elsewhere_rests eq equality m law R n s ts by t k o h open_is (eqb-false o.version n f)

    -- its ask is left
    pub rests_left_injected : (by i : ℕ) (a : Asking K) → live_at R i ≡ Some a → a.by ≡ by → m.kind a.key ≡ Injected → IsAllowed eq m R (Leave by i) × Rests eq m (Leave by i ∷ R) w e owed2
    rests_left_injected by i a live_is his injected =
        let b : IsAllowed eq m R (Leave by i) = (a, live_is, his) in (
          b,
          rests_on eq equality m law R w d e owed owed2 r stays room (Leave by i ∷ R) (b, r.lawful) (λ n s ts h. record {
            stands = left eq equality m law R n [] s s ts by i a h.stands live_is (nobody_leaves n s ts h a.key injected (Promised i)) (λ q. refl);
            tasked = h.tasked;
            wanted = h.wanted;
            closed = h.closed;
          }),
        )
