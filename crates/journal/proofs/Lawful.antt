-- One more event; beginnings; and what an open transaction is.
use Rattle.std.proofs.Common.{◌≡◌, ℕ, Bool, true, false, cond, eqb, List, [], ◌∷◌, ◌++◌, length, Some, None, refl, sym, ap, ◌∙◌, subst, eqb-true, eq-eqb}
use Rattle.std.specs.Prelude.{reverse}
use Rattle.std.proofs.lemmas.List.{reverse-append}
use Rattle.std.proofs.lemmas.Option.{same_Some, none-some}
use Rattle.dice_key.specs.Meaning.{Meaning}
use Rattle.journal.specs.declared.event.Told.{Told}
use Rattle.journal.specs.declared.event.Told.TheVariants.{Commit, Open, Close, Ask, Leave, Start, Keep, End, Cyclic, Drop, Lost}
use Rattle.journal.specs.Events.{Opened, ClosesOpen, NotClosed, IsOpenByWords, open_at}
use Rattle.journal.specs.Law.{IsAllowed, IsLawfulBack, IsLawfulJournal}

module _ {K V : Type 0} (eq : K → K → Bool) (m : Meaning K V) where
  -- a lawful journal stays lawful with an event that is allowed
  pub lawful_more : (J : List (Told K V)) (e : Told K V) → IsLawfulJournal eq m J → IsAllowed eq m (reverse J) e → IsLawfulJournal eq m (J ++ e ∷ [])
  lawful_more J e l a = subst (IsLawfulBack eq m) (sym (reverse-append J (e ∷ []))) (a, l)

  lawful_back : (D R : List (Told K V)) → IsLawfulBack eq m (D ++ R) → IsLawfulBack eq m R
  lawful_back [] R l = l
  lawful_back (e ∷ D) R l = lawful_back D R l.1

  -- a beginning of a lawful journal is lawful
  pub lawful_front : (J D : List (Told K V)) → IsLawfulJournal eq m (J ++ D) → IsLawfulJournal eq m J
  lawful_front J D l = lawful_back (reverse D) (reverse J) (subst (IsLawfulBack eq m) (reverse-append J D) l)

module _ {K V : Type 0} where
  one_more : (e : Told K V) (R : List (Told K V)) (i : ℕ) (o : Opened) → (w : IsOpenByWords R i o) → NotClosed i (e ∷ w.later) → IsOpenByWords (e ∷ R) i o
  one_more e R i o w n = record { later = e ∷ w.later; before = w.before; all = ap (λ x. e ∷ x) w.all; index = w.index; not_closed = n }

  pub open_says : (R : List (Told K V)) (i : ℕ) (o : Opened) → open_at R i ≡ Some o → IsOpenByWords R i o
  open_says [] i o e = absurd (none-some o e)
  open_says (Open by v ∷ R) i o e = by_index (eqb (length R) i) refl e (λ h. open_says R i o h)
    where
      by_index : (b : Bool) → eqb (length R) i ≡ b → cond b (Some (record { by = by; version = v })) (open_at R i) ≡ Some o → (open_at R i ≡ Some o → IsOpenByWords R i o) → IsOpenByWords (Open by v ∷ R) i o
      by_index true p q again = record { later = []; before = R; all = ap (λ (o : Opened). Open o.by o.version ∷ R) (same_Some _ _ q); index = eqb-true (length R) i p; not_closed = tt }
      by_index false p q again = let w = again q in one_more (Open by v) R i o w w.not_closed
  open_says (Close by t ∷ R) i o e = by_index (eqb t i) refl e (λ h. open_says R i o h)
    where
      by_index : (b : Bool) → eqb t i ≡ b → cond b None (open_at R i) ≡ Some o → (open_at R i ≡ Some o → IsOpenByWords R i o) → IsOpenByWords (Close by t ∷ R) i o
      by_index true p q again = absurd (none-some o q)
      by_index false p q again = let w = again q in one_more (Close by t) R i o w ((λ h. let z : eqb t i ≡ true = eq-eqb t i h in let y : true ≡ false = sym z ∙ p in cc), w.not_closed)
  open_says (Commit by c ∷ R) i o e = let w = open_says R i o e in one_more (Commit by c) R i o w w.not_closed
  open_says (Ask by t k ∷ R) i o e = let w = open_says R i o e in one_more (Ask by t k) R i o w w.not_closed
  open_says (Leave by a ∷ R) i o e = let w = open_says R i o e in one_more (Leave by a) R i o w w.not_closed
  open_says (Start v k c ∷ R) i o e = let w = open_says R i o e in one_more (Start v k c) R i o w w.not_closed
  open_says (Keep v k b ∷ R) i o e = let w = open_says R i o e in one_more (Keep v k b) R i o w w.not_closed
  open_says (End v k ∷ R) i o e = let w = open_says R i o e in one_more (End v k) R i o w w.not_closed
  open_says (Cyclic v k ∷ R) i o e = let w = open_says R i o e in one_more (Cyclic v k) R i o w w.not_closed
  open_says (Drop v k ∷ R) i o e = let w = open_says R i o e in one_more (Drop v k) R i o w w.not_closed
  open_says (Lost v k ∷ R) i o e = let w = open_says R i o e in one_more (Lost v k) R i o w w.not_closed

module _ {K V : Type 0} (eq : K → K → Bool) (m : Meaning K V) where
  pub closes_open : (R : List (Told K V)) → IsLawfulBack eq m R → ClosesOpen R
  closes_open [] l = tt
  closes_open (Close by t ∷ R) l = ((l.0.0, l.0.1), closes_open R l.1)
  closes_open (Commit by c ∷ R) l = closes_open R l.1
  closes_open (Open by v ∷ R) l = closes_open R l.1
  closes_open (Ask by t k ∷ R) l = closes_open R l.1
  closes_open (Leave by a ∷ R) l = closes_open R l.1
  closes_open (Start v k c ∷ R) l = closes_open R l.1
  closes_open (Keep v k b ∷ R) l = closes_open R l.1
  closes_open (End v k ∷ R) l = closes_open R l.1
  closes_open (Cyclic v k ∷ R) l = closes_open R l.1
  closes_open (Drop v k ∷ R) l = closes_open R l.1
  closes_open (Lost v k ∷ R) l = closes_open R l.1
