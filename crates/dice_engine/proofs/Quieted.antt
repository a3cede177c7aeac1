-- When a promise is settled, and what a leaving leaves as it is.
use Rattle.std.proofs.Common.{◌≡◌, ◌↔◌, ◌⊎◌, ◌+◌, ◌++◌, inl, inr, ℕ, Bool, true, false, cond, eqb, List, [], ◌∷◌, map, Some, None, refl, sym, ap, ◌∙◌, subst}
use Rattle.std.specs.Prelude.{reverse, is_some}
use Rattle.std.specs.Arc.{arc_value}
use Rattle.std.specs.List.{AllByRecursion}
use Rattle.std.proofs.lemmas.Option.{none-some}
use Rattle.dice_key.specs.Meaning.{Meaning}
use Rattle.dice_key.specs.Lawful.{IsEquality}
use Rattle.journal.specs.declared.event.Told.{Told}
use Rattle.journal.specs.declared.event.Told.TheVariants.{Close, Leave, Drop}
use Rattle.journal.specs.Events.{Asking, decided, open_at, live_at, lost_in_epoch}
use Rattle.journal.proofs.Indices.{still_live}
use Rattle.dice_core.specs.Cores.{CoreSeen, Came, ToValue, ToCycle, ToNothing, Pending, Absent, events_of, poll_of}
use Rattle.dice_core.proofs.EventLemmas.{along}
use Rattle.dice_engine.specs.Seats.{SeatView}
use Rattle.dice_engine.specs.Turns.{left_of}
use Rattle.dice_engine.specs.Calls.{AddsNothing, AreDrops, Closes, Leaves}
use Rattle.dice_engine.specs.Replies.{Reply, TheValue, TheCycle, NoRoom, NotYet, NotLive, Tells, IsReply, IsLiveIn}
use Rattle.dice_engine.specs.Doings.{TellsOfCore}
use Rattle.dice_engine.specs.Leaving.{DecidesNothing}
use Rattle.dice_engine.proofs.Lining.{lined_rest, lined_poll}
use Rattle.dice_engine.specs.declared.promise.Promise.{Promise}

module _ {K V : Type 0} (eq : K → K → Bool) (m : Meaning K V) (J : List (Told K V)) (v : ℕ) (k : K) (ask : ℕ) (left : ℕ × ℕ × ℕ) where
  pub settled : (r : Reply K V) → IsReply eq m J v k ask left r → IsLiveIn J ask → left.0 ≡ 0 → left.1 ≡ 0 → ((x : V) × (r ≡ TheValue x)) ⊎ ((p : List K) × (r ≡ TheCycle p)) ⊎ (r ≡ NoRoom)
  settled NotLive h live ready out = absurd (let e : false ≡ true = sym (ap is_some h) ∙ live in cc)
  settled NotYet h live ready out = absurd (h.3 ready out)
  settled (TheValue x) h live ready out = inl (x, refl)
  settled (TheCycle p) h live ready out = inr (inl (p, refl))
  settled NoRoom h live ready out = inr (inr refl)

module _ {K V : Type 0} where
  pending_told : (o : Came K V) (r : Reply K V) → Tells o r → (r ≡ NotYet) ↔ (o ≡ Pending)
  pending_told (ToValue x) r (inl t) = ((λ e. (let z : TheValue x ≡ NotYet = sym t ∙ e in cc)), (λ e. (let z : ToValue x ≡ Pending = e in cc)))
  pending_told (ToValue x) r (inr t) = ((λ e. (let z : NoRoom ≡ NotYet = sym t ∙ e in cc)), (λ e. (let z : ToValue x ≡ Pending = e in cc)))
  pending_told (ToCycle p) r (inl t) = ((λ e. (let z : TheCycle p ≡ NotYet = sym t ∙ e in cc)), (λ e. (let z : ToCycle p ≡ Pending = e in cc)))
  pending_told (ToCycle p) r (inr t) = ((λ e. (let z : NoRoom ≡ NotYet = sym t ∙ e in cc)), (λ e. (let z : ToCycle p ≡ Pending = e in cc)))
  pending_told ToNothing r t = ((λ e. (let z : NoRoom ≡ NotYet = sym t ∙ e in cc)), (λ e. (let z : ToNothing ≡ Pending = e in cc)))
  pending_told Pending r t = ((λ e. refl), (λ e. t))
  pending_told Absent r t = absurd t

  lost_told : (o : Came K V) (r : Reply K V) → Tells o r → o ≡ ToNothing → r ≡ NoRoom
  lost_told (ToValue x) r t e = (let z : ToValue x ≡ ToNothing = e in cc)
  lost_told (ToCycle p) r t e = (let z : ToCycle p ≡ ToNothing = e in cc)
  lost_told ToNothing r t e = t
  lost_told Pending r t e = (let z : Pending ≡ ToNothing = e in cc)
  lost_told Absent r t e = absurd t

module _ {U K V R : Type 0} (eq : K → K → Bool) (m : Meaning K V) (p : Promise U K V R) (r : Reply K V) (s u : SeatView (Told K V)) where
  pub pending_exact : IsEquality eq → TellsOfCore eq m p r s u → IsLiveIn u.seen p.ask → (c : CoreSeen K V) × (events_of c ≡ u.seen) × (left_of u.left.2 c ≡ u.left) × (u.turns ≡ s.turns + 1) × ((r ≡ NotYet) ↔ (poll_of eq m c p.version (arc_value p.key) ≡ Pending)) × (poll_of eq m c p.version (arc_value p.key) ≡ ToNothing → r ≡ NoRoom)
  pending_exact laws t live =
      let o = poll_of eq m t.left p.version (arc_value p.key) in
      let same : events_of t.left ≡ events_of t.done = (lined_rest eq t.puts t.more t.done t.left t.lines_up).0 in
      let told : Tells o r = subst (λ o. Tells o r) (sym (lined_poll eq m laws t.puts t.more t.done t.left t.lines_up p.version (arc_value p.key))) (t.did.1 (subst (λ J. IsLiveIn J p.ask) (sym t.ends ∙ same) live)) in
      (t.left, t.ends, t.counts, t.turn.turns, pending_told o r told, lost_told o r told)

-- an event of a leaving
abbrev IsLeaving : {K V : Type 0} → Told K V → Type 0
IsLeaving (Close by t) = Unit {0}
IsLeaving (Leave by a) = Unit {0}
IsLeaving (Drop v k) = Unit {0}
IsLeaving _ = ⊥

all_leave : {K : Type 0} (V : Type 0) (v : ℕ) (ks : List K) → AllByRecursion (IsLeaving {K = K} {V = V}) (map (Drop v) ks)
all_leave V v [] = tt
all_leave V v (k ∷ ks) = (tt, all_leave V v ks)

module _ {K V : Type 0} (eq : K → K → Bool) where
  -- the same as `DecidesNothing`, of journals that are read backwards
  record StaysBack (S R : List (Told K V)) : Type 0 where
    live : (i : ℕ) (a : Asking K) → live_at R i ≡ Some a → live_at S i ≡ Some a
    decided : (v : ℕ) (k : K) → decided eq R v k ≡ decided eq S v k
    lost : (v : ℕ) (k : K) → lost_in_epoch eq R v k ≡ lost_in_epoch eq S v k

  one_more : (S : List (Told K V)) (e : Told K V) (R : List (Told K V)) → IsLeaving e → StaysBack S R → StaysBack S (e ∷ R)
  one_more S (Close by t) R q h = record { live = λ i a e. h.live i a (still_live R t i a e).0; decided = h.decided; lost = h.lost }
  one_more S (Leave by l) R q h = record { live = λ i a e. h.live i a (by_index i a (eqb l i) e); decided = h.decided; lost = h.lost }
    where
      by_index : (i : ℕ) (a : Asking K) (b : Bool) → cond b None (live_at R i) ≡ Some a → live_at R i ≡ Some a
      by_index i a true e = absurd (none-some a e)
      by_index i a false e = e
  one_more S (Drop v k) R q h = record { live = h.live; decided = h.decided; lost = h.lost }
  one_more S _ R q h = absurd q

  leaves_all : (J E : List (Told K V)) → AllByRecursion IsLeaving E → DecidesNothing eq J (J ++ E)
  leaves_all J E all =
      let h = along (StaysBack (reverse J)) IsLeaving (one_more (reverse J)) J E all (record { live = λ i a e. e; decided = λ v k. refl; lost = λ v k. refl }) in
      record { live = h.live; decided = h.decided; lost = h.lost }

  -- one event, and drops after it
  after_one : (J I own work : List (Told K V)) (e : Told K V) (v : ℕ) → IsLeaving e → own ≡ e ∷ [] → AreDrops v work → I ≡ J ++ (own ++ work) → DecidesNothing eq J I
  after_one J I own work e v q is drops all =
      subst (DecidesNothing eq J) (sym (all ∙ (ap (λ o. J ++ (o ++ work)) is ∙ ap (λ w. J ++ (e ∷ w)) drops.1))) (leaves_all J (e ∷ map (Drop v) drops.0) (q, all_leave V v drops.0))

  pub closed_so : (J I own work : List (Told K V)) (n t v : ℕ) → Closes n t v own work → I ≡ J ++ (own ++ work) → DecidesNothing eq J I
  closed_so J I own work n t v h all = after_one J I own work (Close n t) v tt h.0 h.1 all

  pub left_so : (J I own work : List (Told K V)) (n ask t v : ℕ) → Leaves n ask t v J own work → I ≡ J ++ (own ++ work) → DecidesNothing eq J I
  left_so J I own work n ask t v h all = by_open (is_some (open_at (reverse J) t)) h
    where
      by_open : (b : Bool) → cond b ((own ≡ Leave n ask ∷ []) × AreDrops v work) (AddsNothing own work) → DecidesNothing eq J I
      by_open true k = after_one J I own work (Leave n ask) v tt k.0 k.1 all
      by_open false k = subst (DecidesNothing eq J) (sym (all ∙ (ap (λ o. J ++ (o ++ work)) k.0 ∙ ap (λ w. J ++ w) k.1))) (leaves_all J [] tt)
