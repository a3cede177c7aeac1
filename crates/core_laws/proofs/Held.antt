-- What is held is wanted: a chain of asks leads from a promise to each task at work.
use Rattle.std.proofs.Common.{◌≡◌, ◌<◌, ◌+◌, inl, inr, ℕ, zero, suc, Bool, true, cond, List, [], ◌∷◌, length, Option, Some, None, refl, ap, ◌∙◌, subst, arith, eq-eqb}
use Rattle.dice_key.specs.Meaning.{Meaning}
use Rattle.dice_key.specs.Lawful.{IsEquality}
use Rattle.dice_model.specs.Asks.{AsksFor, Reaches, here, through}
use Rattle.dice_key.proofs.KeySets.{has_or_not}
use Rattle.task_share.specs.Asked.{By, Promised, Tasked, Asked, Held, by_promise, by_task, Leads, stays, asks_on, HasNoCycle, AskersLive, IsDone}
use Rattle.journal.specs.declared.event.Told.{Told}
use Rattle.journal.specs.declared.event.Told.TheVariants.{Ask, Start, Keep, End, Cyclic, Drop, Lost}
use Rattle.journal.specs.declared.event.Reason.{Reason}
use Rattle.journal.specs.Events.{commits_of, opened_at, open_count, live_at, asked_in_epoch}
use Rattle.journal.specs.Law.{IsWanted, IsLawfulBack}
use Rattle.core_laws.specs.Tasks.{Task, Standing, Works, Ended, is_going, batch_of}
use Rattle.core_laws.specs.Stands.{VersionStands, IsAtRest}
use Rattle.journal.proofs.Indices.{live_asked, live_counts}
use Rattle.lists.proofs.Distinct.{few}
use Rattle.lists.specs.Lists.{AreDistinct, Has}

module _ {K : Type 0} (eq : K → K → Bool) (equality : IsEquality eq) (s : Asked K) (done : IsDone s) (free : HasNoCycle s) (living : AskersLive s) (all : List K) (finite : (q : K) → s.live q ≡ true → Has all q) where
  rises : (n : ℕ) (q : K) (path : List K) → ((e : K) → Has (q ∷ path) e → Leads s q e) → ((e : K) → Has (q ∷ path) e → s.live e ≡ true) → AreDistinct (q ∷ path) → length all < length (q ∷ path) + n → Held s q
  rises zero q path l v d room = absurd (let z = few (q ∷ path) all d (λ e h. finite e (v e h)) in omega arith)
  rises (suc n) q path l v d room = let a = done q (v q (inl refl)) in by_asker (λ j p. rises n j p) a.0 a.1
    where
      by_asker : ((j : K) (p : List K) → ((e : K) → Has (j ∷ p) e → Leads s j e) → ((e : K) → Has (j ∷ p) e → s.live e ≡ true) → AreDistinct (j ∷ p) → length all < length (j ∷ p) + n → Held s j) → (a : By K) → s.asks q a ≡ true → Held s q
      by_asker again (Promised i) e = by_promise i e
      by_asker again (Tasked j) e = elim (has_or_not eq equality (q ∷ path) j) as (λ _. Held s q) [
        | inl found ↦ absurd (free j q e (l j found))
        | inr fresh ↦ by_task e (again j (q ∷ path)
            (λ x h. elim h as (λ _. Leads s j x) [ inl i ↦ subst (Leads s j) i stays | inr g ↦ asks_on e (l x g) ])
            (λ x h. elim h as (λ _. s.live x ≡ true) [ inl i ↦ subst (λ y. s.live y ≡ true) i (living q j e) | inr g ↦ v x g ])
            (fresh, d) (let z : length (j ∷ q ∷ path) ≡ suc (length (q ∷ path)) = refl in omega arith))
      ]

  -- if each task at work has an asker, a promise holds each of them
  pub climbs : (q : K) → s.live q ≡ true → Held s q
  climbs q v = rises (length all) q []
      (λ e g. elim g as (λ _. Leads s q e) [ inl i ↦ subst (Leads s q) i stays | inr b ↦ absurd b ])
      (λ e g. elim g as (λ _. s.live e ≡ true) [ inl i ↦ subst (λ y. s.live y ≡ true) i v | inr b ↦ absurd b ])
      ((λ b. b), tt) (let z : length (q ∷ []) ≡ 1 = refl in omega arith)

module _ {K V : Type 0} where
  -- a task that waits for a batch has not ended
  pub going_where_waiting : (o : Option (Task K V)) (ks : List K) → batch_of o ≡ Some ks → is_going o ≡ true
  going_where_waiting None ks e = let n : None ≡ Some ks = e in cc
  going_where_waiting (Some t) ks e = by_standing t.standing e
    where
      by_standing : (d : Standing K V) → batch_of (Some (record { born = t.born; standing = d })) ≡ Some ks → is_going (Some (record { born = t.born; standing = d })) ≡ true
      by_standing (Works w p A) f = refl
      by_standing (Ended o) f = let n : None ≡ Some ks = f in cc

module _ {K V : Type 0} (eq : K → K → Bool) (m : Meaning K V) where
  pub reaches_on : (C : List (List (K × V))) (v : ℕ) (a b d : K) → Reaches eq m C v a b → AsksFor eq m C v b d → Reaches eq m C v a d
  reaches_on C v a b d here q = through q here
  reaches_on C v a b d (through {i = i} p r) q = through p (reaches_on C v i b d r q)

  module _ (R : List (Told K V)) (v : ℕ) where
    -- what a wanted key asks for is wanted
    pub wanted_next : (k d : K) → IsWanted eq m R v k → AsksFor eq m (commits_of R) v k d → IsWanted eq m R v d
    wanted_next k d w a = record { ask = w.ask; asking = w.asking; live = w.live; at = w.at; reaches = reaches_on (commits_of R) v w.asking.key k d w.reaches a }

    -- what a wanted key reaches is wanted
    pub wanted_through : (k d : K) → IsWanted eq m R v k → Reaches eq m (commits_of R) v k d → IsWanted eq m R v d
    wanted_through k d w here = w
    wanted_through k d w (through {i = i} a r) = wanted_through i d (wanted_next k i w a) r

    -- what is wanted stays so
    pub wanted_on_start : (w : ℕ) (q : K) (c : Reason K) (k : K) → IsWanted eq m R v k → IsWanted eq m (Start w q c ∷ R) v k
    wanted_on_start w q c k h = record { ask = h.ask; asking = h.asking; live = h.live; at = h.at; reaches = h.reaches }

    pub wanted_on_keep : (w : ℕ) (q : K) (b : ℕ) (k : K) → IsWanted eq m R v k → IsWanted eq m (Keep w q b ∷ R) v k
    wanted_on_keep w q b k h = record { ask = h.ask; asking = h.asking; live = h.live; at = h.at; reaches = h.reaches }

    pub wanted_on_end : (w : ℕ) (q : K) (k : K) → IsWanted eq m R v k → IsWanted eq m (End w q ∷ R) v k
    wanted_on_end w q k h = record { ask = h.ask; asking = h.asking; live = h.live; at = h.at; reaches = h.reaches }

    pub wanted_on_cyclic : (w : ℕ) (q : K) (k : K) → IsWanted eq m R v k → IsWanted eq m (Cyclic w q ∷ R) v k
    wanted_on_cyclic w q k h = record { ask = h.ask; asking = h.asking; live = h.live; at = h.at; reaches = h.reaches }

    pub wanted_on_drop : (w : ℕ) (q : K) (k : K) → IsWanted eq m R v k → IsWanted eq m (Drop w q ∷ R) v k
    wanted_on_drop w q k h = record { ask = h.ask; asking = h.asking; live = h.live; at = h.at; reaches = h.reaches }

    pub wanted_on_lost : (w : ℕ) (q : K) (k : K) → IsWanted eq m R v k → IsWanted eq m (Lost w q ∷ R) v k
    wanted_on_lost w q k h = record { ask = h.ask; asking = h.asking; live = h.live; at = h.at; reaches = h.reaches }

    module _ (W : List K) (s : Asked K) (ts : K → Option (Task K V)) (h : VersionStands eq m R v W s ts) where
      -- each task that asks is at work
      pub askers_live : AskersLive s
      askers_live i k e = let w = h.waiting i k e in h.live k ∙ going_where_waiting (ts k) w.0 w.1

      -- what a promise holds is wanted
      pub held_wanted : (k : K) → Held s k → IsWanted eq m R v k
      held_wanted k (by_promise i e) =
          let p = h.promised k i e in
          record { ask = i; asking = p.0; live = p.1; at = p.2; reaches = subst (λ q. Reaches eq m (commits_of R) v p.0.key q) p.3 here }
      held_wanted k (by_task {j = j} e g) = wanted_next j k (held_wanted j g) (h.waits k j e)

    -- between the engine's calls each task at work is wanted
    pub all_wanted : IsEquality eq → (s : Asked K) (ts : K → Option (Task K V)) → IsAtRest eq m R v s ts → (all : List K) → ((q : K) → s.live q ≡ true → Has all q) → (k : K) → s.live k ≡ true → IsWanted eq m R v k
    all_wanted equality s ts h all finite k l = held_wanted [] s ts h.stands k (climbs eq equality s h.wanted h.stands.no_cycle (askers_live [] s ts h.stands) all finite k l)

  -- what is wanted is reached by a key that was asked for in the epoch, and a transaction is open
  pub wanted_once : IsEquality eq → (R : List (Told K V)) (v : ℕ) (k : K) → IsLawfulBack eq m R → IsWanted eq m R v k → (once : K) × (asked_in_epoch eq R v once ≡ true) × Reaches eq m (commits_of R) v once k × (0 < open_count R v)
  wanted_once equality R v k lawful w = (
    w.asking.key,
    live_asked eq equality m R v w.ask w.asking lawful w.live w.at,
    w.reaches,
    live_counts eq m R v w.ask w.asking lawful w.live w.at,
  )

  -- the key of a new ask is wanted
  pub wanted_asked : (R : List (Told K V)) (v by t : ℕ) (k : K) → opened_at R v t ≡ true → IsWanted eq m (Ask by t k ∷ R) v k
  wanted_asked R v by t k o = record {
    ask = length R;
    asking = record { by = by; opened = t; key = k };
    live = ap (λ b. cond b (Some (record { by = by; opened = t; key = k })) (live_at R (length R))) (eq-eqb (length R) (length R) refl);
    at = o;
    reaches = here;
  }
