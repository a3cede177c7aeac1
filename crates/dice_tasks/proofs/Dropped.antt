-- Which tasks are dropped one after the other: each was at work, and each is dropped once.
use Rattle.std.proofs.Common.{◌≡◌, inl, inr, Bool, true, false, not, ◌&&◌, List, [], ◌∷◌, refl, sym, ap, ◌∙◌, subst}
use Rattle.dice_key.specs.Lawful.{IsEquality}
use Rattle.task_share.specs.Asked.{Asked, Cascade}
use Rattle.core_laws.proofs.Shapes.{not_both}
use Rattle.lists.specs.Lists.{AreDistinct, Has}
use Rattle.std.proofs.lemmas.Bool.{and_parts}

module _ {K : Type 0} (eq : K → K → Bool) (equality : IsEquality eq) where
  pub cascade_live : (ks : List K) (s t : Asked K) → Cascade eq s ks t → (q : K) → Has ks q → s.live q ≡ true
  cascade_live [] s t c q h = absurd h
  cascade_live (k ∷ ks) s t c q (inl i) = subst (λ z. s.live z ≡ true) i c.1.taken
  cascade_live (k ∷ ks) s t c q (inr h) = (and_parts (s.live q) (not (eq k q)) (sym (c.1.live q) ∙ cascade_live ks c.0 t c.2 q h)).0

  pub cascade_distinct : (ks : List K) (s t : Asked K) → Cascade eq s ks t → AreDistinct ks
  cascade_distinct [] s t c = tt
  cascade_distinct (k ∷ ks) s t c = (
    λ h. not_both (cascade_live ks c.0 t c.2 k h) (c.1.live k ∙ (ap (λ b. s.live k && not b) (equality.itself k) ∙ and_false (s.live k))),
    cascade_distinct ks c.0 t c.2,
  )
    where
      and_false : (b : Bool) → (b && false) ≡ false
      and_false true = refl
      and_false false = refl
