-- Tests.
use Rattle.std.proofs.Common.{◌≡◌, ◌<◌, ◌≤◌, ◌+◌, ◌&&◌, ◌||◌, ◌∙◌, ap, sym, ℕ, inl, inr, ◌⊎◌, Bool, true, false, refl, List, [], ◌∷◌, drop, length, get_or}
use Rattle.std.proofs.lemmas.List.{at_drop_more, at_drop_all}
use Rattle.std.specs.Arc.{arc_value}
use Rattle.std.specs.List.{list_all}
use Rattle.std.specs.declared.sync.Arc.{Arc}
use Rattle.dep_recorder.specs.Recordings.{keys_in}
use Rattle.dice_key.specs.Meaning.{Answered}
use Rattle.versioned_graph.specs.Entries.{all_of}
use Rattle.lists.specs.Lists.{Has}
use Rattle.std.proofs.lemmas.Bool.{and_from, and_parts}

module _ {K : Type 0} where
  batch_map : (f g : K → Bool) (ks : List K) → ((k : K) → f k ≡ true → g k ≡ true) → list_all f ks ≡ true → list_all g ks ≡ true
  batch_map f g [] h e = refl
  batch_map f g (k ∷ ks) h e =
      let b = and_parts (f k) (list_all f ks) e in
      and_from (g k) (list_all g ks) (h k b.0) (batch_map f g ks h b.1)

  batch_at : (f : K → Bool) (ks : List K) (k : K) → list_all f ks ≡ true → Has ks k → f k ≡ true
  batch_at f [] k e h = absurd h
  batch_at f (j ∷ js) k e h =
      let b = and_parts (f j) (list_all f js) e in
      elim h as (λ _. f k ≡ true) [ inl p ↦ rw p at b.0 | inr q ↦ batch_at f js k b.1 q ]

module _ {K V : Type 0} where
  pub all_map : (f g : K → Bool) (A : List (Answered K V)) → ((k : K) → f k ≡ true → g k ≡ true) → all_of f A ≡ true → all_of g A ≡ true
  all_map f g [] h e = refl
  all_map f g (b ∷ bs) h e =
      let p = and_parts (list_all f b.keys) (all_of f bs) e in
      and_from (list_all g b.keys) (all_of g bs) (batch_map f g b.keys h p.0) (all_map f g bs h p.1)

  -- one of the keys, in one of the batches
  abbrev pub HasKey : List (Answered K V) → K → Type 0
  HasKey [] k = ⊥
  HasKey (b ∷ bs) k = Has b.keys k ⊎ HasKey bs k

  pub all_at : (f : K → Bool) (A : List (Answered K V)) (k : K) → all_of f A ≡ true → HasKey A k → f k ≡ true
  all_at f [] k e h = absurd h
  all_at f (b ∷ bs) k e h =
      let p = and_parts (list_all f b.keys) (all_of f bs) e in
      elim h as (λ _. f k ≡ true) [ inl i ↦ batch_at f b.keys k p.0 i | inr j ↦ all_at f bs k p.1 j ]

pub and_chain : (a b c : Bool) → ((a && b) && c) ≡ (a && (b && c))
and_chain true b c = refl
and_chain false b c = refl

pub and_all : (a : Bool) → (a && true) ≡ a
and_all true = refl
and_all false = refl

pub or_none : (a b : Bool) → b ≡ false → (a || b) ≡ a
or_none true b e = refl
or_none false b e = e

module _ {K V A B : Type 0} (f : K → Bool) (ps : List (Arc K A × Arc V B)) (i : ℕ) where
  -- one pair goes from what is left to what was asked
  pub pair_asked : (p : Arc K A × Arc V B) → i < length ps → p ≡ get_or ps i p → (old new x : Bool) → new ≡ (old && f (arc_value p.0))
      → (old && list_all f (keys_in (drop i ps))) ≡ x → (new && list_all f (keys_in (drop (i + 1) ps))) ≡ x
  pair_asked p l at old new x e h =
      ap (λ b. b && list_all f (keys_in (drop (i + 1) ps))) e
      ∙ (and_chain old (f (arc_value p.0)) (list_all f (keys_in (drop (i + 1) ps)))
      ∙ (ap (λ b. old && b) (ap (λ q. f (arc_value q.0) && list_all f (keys_in (drop (i + 1) ps))) at ∙ sym (at_drop_more (λ qs. list_all f (keys_in qs)) ps i p l))
      ∙ h))

  -- none is left
  pub pairs_asked : length ps ≤ i → (old x : Bool) → (old && list_all f (keys_in (drop i ps))) ≡ x → old ≡ x
  pairs_asked l old x h = sym (ap (λ b. old && b) (at_drop_all (λ qs. list_all f (keys_in qs)) ps i l) ∙ and_all old) ∙ h
