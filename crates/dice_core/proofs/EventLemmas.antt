-- What stands along the events of tasks at one version.
use Rattle.std.proofs.Common.{◌≡◌, inl, inr, ℕ, Bool, false, List, [], ◌∷◌, ◌++◌, map, reverse, Option, Some, None, refl, sym, ◌∙◌, subst, append_assoc}
use Rattle.std.proofs.lemmas.List.{append-nil}
use Rattle.std.specs.List.{AllByRecursion}
use Rattle.dice_key.specs.Meaning.{Meaning}
use Rattle.injected.specs.Seen.{Seen}
use Rattle.journal.specs.declared.event.Told.{Told}
use Rattle.journal.specs.declared.event.Told.TheVariants.{Start, Keep, End, Cyclic, Drop, Lost}
use Rattle.journal.specs.Events.{open_count}
use Rattle.versioned_graph.specs.Entries.{Stored}
use Rattle.core_laws.specs.Tasks.{Outcome}
use Rattle.dice_steps.specs.Cells.{CellsStand}
use Rattle.dice_tasks.specs.Endings.{ComesOf, told_end}
use Rattle.dice_tasks.specs.Entries.{EntriesStand}
use Rattle.dice_core.specs.Sessions.{SessionsSeen, SessionsStand, moves_sessions}
use Rattle.dice_core.specs.Cores.{IsWorkAt, WorksOn}
use Rattle.dice_tasks.proofs.EndsLemmas.{back_more}
use Rattle.dice_tasks.proofs.EntriesLemmas.{stand_cyclic, stand_drop, stand_lost}
use Rattle.dice_core.proofs.SessionLemmas.{quiet_stands}
use Rattle.lists.specs.Lists.{Has}

-- what each event keeps stands after all of them
pub along : {K V : Type 0} (P : List (Told K V) → Type 0) (Q : Told K V → Type 0) → ((e : Told K V) (R : List (Told K V)) → Q e → P R → P (e ∷ R)) → (J E : List (Told K V)) → AllByRecursion Q E → P (reverse J) → P (reverse (J ++ E))
along P Q step J [] a p = subst (λ X. P (reverse X)) (sym (append-nil J)) p
along P Q step J (e ∷ E) a p = subst (λ X. P (reverse X)) (append_assoc J (e ∷ []) E) (along P Q step (J ++ e ∷ []) E a.1 (subst P (sym (back_more J e)) (step e (reverse J) a.0 p)))

module _ {K V : Type 0} (v : ℕ) where
  -- an event that ends or drops a task at v without a value
  abbrev pub GivesUp : Told K V → Type 0
  GivesUp (Cyclic w k) = w ≡ v
  GivesUp (Drop w k) = w ≡ v
  GivesUp (Lost w k) = w ≡ v
  GivesUp _ = ⊥

  -- one that ends it so
  abbrev pub EndsSo : Told K V → Type 0
  EndsSo (Cyclic w k) = w ≡ v
  EndsSo (Lost w k) = w ≡ v
  EndsSo _ = ⊥

  pub works_given_up : (e : Told K V) → GivesUp e → IsWorkAt v e
  works_given_up (Cyclic w k) h = h
  works_given_up (Drop w k) h = h
  works_given_up (Lost w k) h = h
  works_given_up _ h = absurd h

  pub given_up_so : (e : Told K V) → EndsSo e → GivesUp e
  given_up_so (Cyclic w k) h = h
  given_up_so (Lost w k) h = h
  given_up_so _ h = absurd h

  -- the events of tasks leave what is open as it is
  pub count_on : (u : ℕ) (e : Told K V) (R : List (Told K V)) → IsWorkAt v e → open_count (e ∷ R) u ≡ open_count R u
  count_on u (Start w k c) R h = refl
  count_on u (Keep w k b) R h = refl
  count_on u (End w k) R h = refl
  count_on u (Cyclic w k) R h = refl
  count_on u (Drop w k) R h = refl
  count_on u (Lost w k) R h = refl
  count_on u _ R h = absurd h

  moves_none : (e : Told K V) → IsWorkAt v e → moves_sessions e ≡ false
  moves_none (Start w k c) h = refl
  moves_none (Keep w k b) h = refl
  moves_none (End w k) h = refl
  moves_none (Cyclic w k) h = refl
  moves_none (Drop w k) h = refl
  moves_none (Lost w k) h = refl
  moves_none _ h = absurd h

  -- and the cells
  pub cells_on : (eq : K → K → Bool) (s : Seen K V) (e : Told K V) (R : List (Told K V)) → IsWorkAt v e → CellsStand eq R s → CellsStand eq (e ∷ R) s
  cells_on eq s (Start w k c) R h t = record { are = t.are; newest = t.newest }
  cells_on eq s (Keep w k b) R h t = record { are = t.are; newest = t.newest }
  cells_on eq s (End w k) R h t = record { are = t.are; newest = t.newest }
  cells_on eq s (Cyclic w k) R h t = record { are = t.are; newest = t.newest }
  cells_on eq s (Drop w k) R h t = record { are = t.are; newest = t.newest }
  cells_on eq s (Lost w k) R h t = record { are = t.are; newest = t.newest }
  cells_on eq s _ R h t = absurd h

  -- those that write no value leave the entries
  pub entries_on : (eq : K → K → Bool) (m : Meaning K V) (es : List (K × Stored K V)) (e : Told K V) (R : List (Told K V)) → GivesUp e → EntriesStand eq m R es → EntriesStand eq m (e ∷ R) es
  entries_on eq m es (Cyclic w k) R h t = stand_cyclic eq m R es t w k
  entries_on eq m es (Drop w k) R h t = stand_drop eq m R es t w k
  entries_on eq m es (Lost w k) R h t = stand_lost eq m R es t w k
  entries_on eq m es _ R h t = absurd h

  -- all over a list of events
  pub sessions_works : (J I : List (Told K V)) (s : SessionsSeen K) → WorksOn v J I → SessionsStand (reverse J) s → SessionsStand (reverse I) s
  sessions_works J I s w t = subst (λ X. SessionsStand (reverse X) s) (sym w.1) (along (λ R. SessionsStand R s) (IsWorkAt v) (λ e R h p. quiet_stands R e s (moves_none e h) p) J w.0 w.2 t)

  pub count_works : (J I : List (Told K V)) (u : ℕ) → WorksOn v J I → open_count (reverse I) u ≡ open_count (reverse J) u
  count_works J I u w = subst (λ X. open_count (reverse X) u ≡ open_count (reverse J) u) (sym w.1) (along (λ R. open_count R u ≡ open_count (reverse J) u) (IsWorkAt v) (λ e R h p. count_on u e R h ∙ p) J w.0 w.2 refl)

  pub cells_works : (eq : K → K → Bool) (s : Seen K V) (J I : List (Told K V)) → WorksOn v J I → CellsStand eq (reverse J) s → CellsStand eq (reverse I) s
  cells_works eq s J I w t = subst (λ X. CellsStand eq (reverse X) s) (sym w.1) (along (λ R. CellsStand eq R s) (IsWorkAt v) (λ e R h p. cells_on eq s e R h p) J w.0 w.2 t)

  pub entries_given_up : (eq : K → K → Bool) (m : Meaning K V) (es : List (K × Stored K V)) (J E : List (Told K V)) → AllByRecursion GivesUp E → EntriesStand eq m (reverse J) es → EntriesStand eq m (reverse (J ++ E)) es
  entries_given_up eq m es J E a t = along (λ R. EntriesStand eq m R es) GivesUp (λ e R h p. entries_on eq m es e R h p) J E a t

  pub all_works : (E : List (Told K V)) → AllByRecursion GivesUp E → AllByRecursion (IsWorkAt v) E
  all_works [] a = tt
  all_works (e ∷ E) a = (works_given_up e a.0, all_works E a.1)

  pub all_both : (Q : Told K V → Type 0) (D E : List (Told K V)) → AllByRecursion Q D → AllByRecursion Q E → AllByRecursion Q (D ++ E)
  all_both Q [] E a b = b
  all_both Q (d ∷ D) E a b = (a.0, all_both Q D E a.1 b)

  -- ends that come of a cycle, or since memory was refused
  module _ (path : Option (List K)) where
    tells_so : (k : K) (o : Outcome K V) → ComesOf path o → EndsSo (told_end v k o)
    tells_so k o h = by_path path h
      where
        by_path : (p : Option (List K)) → ComesOf p o → EndsSo (told_end v k o)
        by_path None e = subst (λ z. EndsSo (told_end v k z)) (sym e) refl
        by_path (Some p) e = subst (λ z. EndsSo (told_end v k z)) (sym e) refl

    pub all_tell : (es : List (K × Outcome K V)) → ((p : K × Outcome K V) → Has es p → ComesOf path p.1) → AllByRecursion EndsSo (map (λ (p : K × Outcome K V). told_end v p.0 p.1) es)
    all_tell [] h = tt
    all_tell (p ∷ es) h = (tells_so p.0 p.1 (h p (inl refl)), all_tell es (λ q i. h q (inr i)))

  pub all_given_up : (E : List (Told K V)) → AllByRecursion EndsSo E → AllByRecursion GivesUp E
  all_given_up [] a = tt
  all_given_up (e ∷ E) a = (given_up_so e a.0, all_given_up E a.1)

-- drops
module _ {K : Type 0} (V : Type 0) (v : ℕ) where
  pub all_drops : (ks : List K) → AllByRecursion (GivesUp {K = K} {V = V} v) (map (Drop v) ks)
  all_drops [] = tt
  all_drops (k ∷ ks) = (refl, all_drops ks)
