-- All that is at work at a version is wanted: what keeps this.
use Rattle.std.proofs.Common.{◌≡◌, inl, inr, ℕ, Bool, true, false, not, eqb, List, ◌∷◌, length, sym, ◌∙◌, subst, arith}
use Rattle.std.proofs.lemmas.Bool.{ne_eqb, and_parts}
use Rattle.dice_key.specs.Meaning.{Meaning}
use Rattle.dice_key.specs.Lawful.{IsLawful, IsEquality}
use Rattle.task_share.specs.Asked.{Asked, Takes}
use Rattle.journal.specs.declared.event.Told.{Told}
use Rattle.journal.specs.declared.event.Told.TheVariants.{Ask, Start, Keep, End, Cyclic, Drop, Lost}
use Rattle.journal.specs.Law.{IsWanted}
use Rattle.core_laws.specs.Changes.{SameLives, Lives}
use Rattle.core_laws.specs.Desk.{World, Desk, Rests}
use Rattle.journal.proofs.Indices.{live_below}
use Rattle.core_laws.proofs.Shapes.{not_both, same_or_other, lives_here, lives_other}
use Rattle.core_laws.proofs.StepsRests.{wanted_here}

-- the event is one of a task
abbrev pub IsOfTask : {K V : Type 0} → Told K V → Type 0
IsOfTask (Start w q c) = Unit {0}
IsOfTask (Keep w q b) = Unit {0}
IsOfTask (End w q) = Unit {0}
IsOfTask (Cyclic w q) = Unit {0}
IsOfTask (Drop w q) = Unit {0}
IsOfTask (Lost w q) = Unit {0}
IsOfTask _ = ⊥

-- all that is at work at v is wanted
abbrev pub AllWanted : {K V : Type 0} → (K → K → Bool) → Meaning K V → List (Told K V) → ℕ → Asked K → Type 0
AllWanted {K} eq m R v s = (q : K) → s.live q ≡ true → IsWanted eq m R v q

module _ {K V : Type 0} (eq : K → K → Bool) (equality : IsEquality eq) (m : Meaning K V) (law : IsLawful m) (R : List (Told K V)) (v : ℕ) where
  -- what is wanted stays so at each event of a task
  pub wanted_on : (k : K) (x : Told K V) → IsOfTask x → IsWanted eq m R v k → IsWanted eq m (x ∷ R) v k
  wanted_on k (Start w q c) t h = record { ask = h.ask; asking = h.asking; live = h.live; at = h.at; reaches = h.reaches }
  wanted_on k (Keep w q b) t h = record { ask = h.ask; asking = h.asking; live = h.live; at = h.at; reaches = h.reaches }
  wanted_on k (End w q) t h = record { ask = h.ask; asking = h.asking; live = h.live; at = h.at; reaches = h.reaches }
  wanted_on k (Cyclic w q) t h = record { ask = h.ask; asking = h.asking; live = h.live; at = h.at; reaches = h.reaches }
  wanted_on k (Drop w q) t h = record { ask = h.ask; asking = h.asking; live = h.live; at = h.at; reaches = h.reaches }
  wanted_on k (Lost w q) t h = record { ask = h.ask; asking = h.asking; live = h.live; at = h.at; reaches = h.reaches }
  wanted_on k _ t h = absurd t

  -- and at an Ask
  pub wanted_on_ask : (k : K) (by t : ℕ) (q : K) → IsWanted eq m R v k → IsWanted eq m (Ask by t q ∷ R) v k
  wanted_on_ask k by t q h = record {
    ask = h.ask;
    asking = h.asking;
    live = (let z : eqb (length R) h.ask ≡ false = ne_eqb (length R) h.ask (λ e. (let l = live_below R h.ask h.asking h.live in omega arith)) in rw z h.live);
    at = h.at;
    reaches = h.reaches;
  }

  module _ (s u : Asked K) (h : AllWanted eq m R v s) where
    -- the same tasks are at work
    pub all_wanted_same : SameLives eq s u → AllWanted eq m R v u
    all_wanted_same same q l = h q (sym (same q) ∙ l)

    -- the task of k has come to work, and k is wanted
    pub all_wanted_made : (k : K) → Lives eq k true s u → IsWanted eq m R v k → AllWanted eq m R v u
    all_wanted_made k lives wanted q l = elim (same_or_other eq equality k q) as (λ _. IsWanted eq m R v q) [
      | inl i ↦ subst (IsWanted eq m R v) i wanted
      | inr n ↦ h q (sym (lives_other eq equality k true s u lives q n) ∙ l)
    ]

    -- the task of k is at work no more
    pub all_wanted_ended : (k : K) → Lives eq k false s u → AllWanted eq m R v u
    all_wanted_ended k lives q l = elim (same_or_other eq equality k q) as (λ _. IsWanted eq m R v q) [
      | inl i ↦ absurd (not_both (subst (λ y. u.live y ≡ true) (sym i) l) (lives_here eq equality k false s u lives))
      | inr n ↦ h q (sym (lives_other eq equality k false s u lives q n) ∙ l)
    ]

    -- the task of k was taken out
    pub all_wanted_taken : (k : K) → Takes eq s k u → AllWanted eq m R v u
    all_wanted_taken k t q l = h q (and_parts (s.live q) (not (eq k q)) (sym (t.live q) ∙ l)).0

  -- all this over one event more
  pub all_wanted_on : (s : Asked K) (x : Told K V) → IsOfTask x → AllWanted eq m R v s → AllWanted eq m (x ∷ R) v s
  all_wanted_on s x t h q l = wanted_on q x t (h q l)

  pub all_wanted_on_ask : (s : Asked K) (by t : ℕ) (k : K) → AllWanted eq m R v s → AllWanted eq m (Ask by t k ∷ R) v s
  all_wanted_on_ask s by t k h q l = wanted_on_ask q by t k (h q l)

  -- at rest all that is at work is wanted
  pub all_wanted_rests : (w : World K V) (d : Desk K) (owed : ℕ) → Rests eq m R w d owed → AllWanted eq m R v (w.asked v)
  all_wanted_rests w d owed r k l = wanted_here eq equality m law R v w d owed r k l
