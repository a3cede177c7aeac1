-- Events of tasks commit nothing, and open and close no transaction.
use Rattle.std.proofs.Common.{◌≡◌, ◌<◌, ℕ, Bool, List, [], ◌∷◌, ◌++◌, length, reverse, refl, sym, ap, ◌∙◌, subst}
use Rattle.std.specs.List.{AllByRecursion}
use Rattle.std.proofs.lemmas.List.{append-nil, append_assoc, reverse-append}
use Rattle.injected.specs.Seen.{Seen}
use Rattle.injected.specs.Inputs.{AreOf}
use Rattle.journal.specs.declared.event.Told.{Told}
use Rattle.journal.specs.declared.event.Told.TheVariants.{Start, Keep, End, Cyclic, Drop, Lost}
use Rattle.journal.specs.Events.{commits_of, open_count}
use Rattle.core_laws.proofs.StepsWanted.{IsOfTask}
use Rattle.dice_steps.specs.Cells.{CellsStand}

module _ {K V : Type 0} where
  commits_on : (x : Told K V) (R : List (Told K V)) → IsOfTask x → commits_of (x ∷ R) ≡ commits_of R
  commits_on (Start w q c) R t = refl
  commits_on (Keep w q b) R t = refl
  commits_on (End w q) R t = refl
  commits_on (Cyclic w q) R t = refl
  commits_on (Drop w q) R t = refl
  commits_on (Lost w q) R t = refl
  commits_on _ R t = absurd t

  opens_on : (x : Told K V) (R : List (Told K V)) (v : ℕ) → IsOfTask x → open_count (x ∷ R) v ≡ open_count R v
  opens_on (Start w q c) R v t = refl
  opens_on (Keep w q b) R v t = refl
  opens_on (End w q) R v t = refl
  opens_on (Cyclic w q) R v t = refl
  opens_on (Drop w q) R v t = refl
  opens_on (Lost w q) R v t = refl
  opens_on _ R v t = absurd t

  -- the same commits after events of tasks; J is the journal before them, in its order
  pub commits_after : (J E : List (Told K V)) → AllByRecursion IsOfTask E → commits_of (reverse (J ++ E)) ≡ commits_of (reverse J)
  commits_after J [] t = ap (λ (I : List (Told K V)). commits_of (reverse I)) (append-nil J)
  commits_after J (e ∷ E) t =
      ap (λ (I : List (Told K V)). commits_of (reverse I)) (sym (append_assoc J (e ∷ []) E))
      ∙ (commits_after (J ++ e ∷ []) E t.1 ∙ (ap commits_of (reverse-append J (e ∷ [])) ∙ commits_on e (reverse J) t.0))

  -- and as many open transactions
  pub opens_after : (J E : List (Told K V)) (v : ℕ) → AllByRecursion IsOfTask E → open_count (reverse (J ++ E)) v ≡ open_count (reverse J) v
  opens_after J [] v t = ap (λ (I : List (Told K V)). open_count (reverse I) v) (append-nil J)
  opens_after J (e ∷ E) v t =
      ap (λ (I : List (Told K V)). open_count (reverse I) v) (sym (append_assoc J (e ∷ []) E))
      ∙ (opens_after (J ++ e ∷ []) E v t.1 ∙ (ap (λ (R : List (Told K V)). open_count R v) (reverse-append J (e ∷ [])) ∙ opens_on e (reverse J) v t.0))

  pub cells_after : (eq : K → K → Bool) (s : Seen K V) (J I E : List (Told K V)) → I ≡ J ++ E → AllByRecursion IsOfTask E → CellsStand eq (reverse J) s → CellsStand eq (reverse I) s
  cells_after eq s J I E told t h =
      let same : commits_of (reverse I) ≡ commits_of (reverse J) = ap (λ (X : List (Told K V)). commits_of (reverse X)) told ∙ commits_after J E t in record {
        are = subst (λ (C : List (List (K × V))). AreOf eq C s) (sym same) h.are;
        newest = h.newest ∙ ap length (sym same);
      }

  pub open_after : (J I E : List (Told K V)) (v : ℕ) → I ≡ J ++ E → AllByRecursion IsOfTask E → 0 < open_count (reverse J) v → 0 < open_count (reverse I) v
  open_after J I E v told t h = subst (λ n. 0 < n) (sym (ap (λ (X : List (Told K V)). open_count (reverse X) v) told ∙ opens_after J E v t)) h
