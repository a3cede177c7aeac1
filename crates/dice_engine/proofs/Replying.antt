-- What the core has come to, and what is answered, is true of the journal.
use Rattle.std.proofs.Common.{◌≡◌, ◌≢◌, ◌<◌, ◌⊎◌, inl, inr, ℕ, zero, suc, Bool, true, cond, eqb, List, [], length, Option, Some, None, refl, sym, ap, ◌∙◌, subst, arith}
use Rattle.std.specs.Prelude.{reverse, is_some}
use Rattle.std.proofs.lemmas.Bool.{ne_eqb, eq-eqb}
use Rattle.dice_key.specs.Meaning.{Meaning}
use Rattle.dice_key.specs.declared.universe.Kind.{Kind}
use Rattle.dice_key.specs.declared.universe.Kind.TheVariants.{Injected, Computed, Projection}
use Rattle.dice_model.specs.Eval.{HasValue}
use Rattle.journal.specs.declared.event.Told.{Told}
use Rattle.journal.specs.Events.{Opened, Asking, ByValue, ByCycle, is_for, decided, open_at, opened_at, live_at, open_count, lost_in_epoch}
use Rattle.journal.specs.Law.{IsLawfulJournal, CycleStands}
use Rattle.journal.proofs.Indices.{live_opened, opened_counts}
use Rattle.dice_core.specs.Cores.{Came, ToValue, ToCycle, ToNothing, Pending, Absent, decision_of, injected_to}
use Rattle.dice_engine.specs.Turns.{log_of}
use Rattle.dice_engine.specs.Replies.{Reply, TheCycle, NoRoom, Tells, IsLiveIn, IsValued, MayRefuse, IsReply}
use Rattle.std.proofs.lemmas.List.{nil_from_length}

module _ {K V : Type 0} where
  -- if a transaction is open an injected key has its value
  pub injected_value : (q : Kind) (n : ℕ) (x : V) (o : Came K V) → q ≡ Injected → 0 < n → injected_to q n x o ≡ ToValue x
  injected_value q n x o e some = ap (λ k. injected_to k n x o) e ∙ by_count n some
    where
      by_count : (n : ℕ) → 0 < n → injected_to Injected n x o ≡ ToValue x
      by_count zero l = absurd (omega arith)
      by_count (suc n) l = ap (λ b. cond b o (ToValue x)) (ne_eqb (suc n) 0 (λ h. omega arith))

-- an ask that is live, whose transaction is at v
module _ {K V : Type 0} (eq : K → K → Bool) (m : Meaning K V) (J : List (Told K V)) (lawful : IsLawfulJournal eq m J) (v ask : ℕ) where
  pub asking_of : IsLiveIn J ask → (a : Asking K) × (live_at (reverse J) ask ≡ Some a)
  asking_of live = by_option (live_at (reverse J) ask) refl live
    where
      by_option : (o : Option (Asking K)) → live_at (reverse J) ask ≡ o → is_some o ≡ true → (a : Asking K) × (live_at (reverse J) ask ≡ Some a)
      by_option (Some a) e h = (a, e)
      by_option None e h = absurd (cc)

  pub opened_there : (a : Asking K) → live_at (reverse J) ask ≡ Some a → ((o : Opened) → open_at (reverse J) a.opened ≡ Some o → o.version ≡ v) → opened_at (reverse J) v a.opened ≡ true
  opened_there a e f = let o = live_opened eq m (reverse J) ask a lawful e in ap (is_for (λ (o : Opened). eqb o.version v)) o.1 ∙ eq-eqb o.0.version v (f o.0 o.1)

  pub some_open : (a : Asking K) → live_at (reverse J) ask ≡ Some a → ((o : Opened) → open_at (reverse J) a.opened ≡ Some o → o.version ≡ v) → 0 < open_count (reverse J) v
  some_open a e f = opened_counts eq m (reverse J) v a.opened lawful (opened_there a e f)

module _ {K V A B : Type 0} (eq : K → K → Bool) (m : Meaning K V) (J : List (Told K V)) (v : ℕ) (k : K) (ask mark : ℕ) (ready : List A) (out : List B) (live : IsLiveIn J ask)
    (came : Came K V)
    (injected : m.kind k ≡ Injected → (x : V) × (came ≡ ToValue x))
    (value : (x : V) → came ≡ ToValue x → HasValue eq m (log_of J) v k x)
    (cycle : (p : List K) → came ≡ ToCycle p → CycleStands eq m (log_of J) v k p)
    (decides : m.kind k ≢ Injected → decided eq (reverse J) v k ≡ decision_of came)
    (lost : came ≡ ToNothing → lost_in_epoch eq (reverse J) v k ≡ true)
    (quiet : ready ≡ [] → out ≡ [] → came ≢ Pending) where
  valued : (x : V) → came ≡ ToValue x → IsValued eq m J v k
  valued x e = by_kind (m.kind k) refl
    where
      by_kind : (q : Kind) → m.kind k ≡ q → IsValued eq m J v k
      by_kind Injected h = inl h
      by_kind Computed h = inr (decides (λ i. cc) ∙ ap decision_of e)
      by_kind Projection h = inr (decides (λ i. cc) ∙ ap decision_of e)

  may_refuse : (x : V) → IsValued eq m J v k → MayRefuse eq m J v k
  may_refuse x (inl h) = inl h
  may_refuse x (inr h) = inr (inl (ByValue, h))

  -- what is told of what the core has come to
  pub told_so : (c : Came K V) → came ≡ c → (r : Reply K V) → Tells c r → IsReply eq m J v k ask (length ready, length out, mark) r
  told_so (ToValue x) e r (inl t) = subst (IsReply eq m J v k ask (length ready, length out, mark)) (sym t) (live, valued x e, value x e)
  told_so (ToValue x) e r (inr t) = subst (IsReply eq m J v k ask (length ready, length out, mark)) (sym t) (live, may_refuse x (valued x e))
  told_so (ToCycle p) e r t =
      let computed : m.kind k ≢ Injected = λ i. (let h = (injected i).1 in cc) in
      let d : decided eq (reverse J) v k ≡ Some ByCycle = decides computed ∙ ap decision_of e in
      by_told t computed d
    where
      by_told : (r ≡ TheCycle p) ⊎ (r ≡ NoRoom) → m.kind k ≢ Injected → decided eq (reverse J) v k ≡ Some ByCycle → IsReply eq m J v k ask (length ready, length out, mark) r
      by_told (inl t) computed d = subst (IsReply eq m J v k ask (length ready, length out, mark)) (sym t) (live, computed, d, cycle p e)
      by_told (inr t) computed d = subst (IsReply eq m J v k ask (length ready, length out, mark)) (sym t) (live, inr (inl (ByCycle, d)))
  told_so ToNothing e r t = subst (IsReply eq m J v k ask (length ready, length out, mark)) (sym t) (live, inr (inr (lost e)))
  told_so Pending e r t =
      let computed : m.kind k ≢ Injected = λ i. (let h = (injected i).1 in cc) in
      subst (IsReply eq m J v k ask (length ready, length out, mark)) (sym t) (live, computed, decides computed ∙ ap decision_of e, λ a b. quiet (nil_from_length ready a) (nil_from_length out b) e)
  told_so Absent e r t = absurd t
