-- Cycles that begin elsewhere, and what stands on one.
use Rattle.std.proofs.Common.{◌≡◌, inl, inr, ℕ, Bool, true, false, List, [], ◌∷◌, ◌++◌, refl, sym, ap, ◌∙◌, subst, append_assoc, append-nil}
use Rattle.dice_model.specs.Asks.{AsksFor, Reaches, here, through, GoesRound, IsCycle}
use Rattle.buck_label.specs.Labels.{package_of, target_file_of}
use Rattle.target_file.specs.declared.source.Source.{Source}
use Rattle.target_file.specs.declared.source.Source.TheVariants as source
use Rattle.action_digest.specs.declared.key.Key.{Key}
use Rattle.action_digest.specs.declared.key.Key.TheVariants as key
use Rattle.action_digest.specs.declared.value.Value.{Value}
use Rattle.action_digest.specs.Actions.{wanted_by}
use Rattle.action_digest.specs.Written.{key_in}
use Rattle.action_digest.specs.Buck.{buck}
use Rattle.action_digest.specs.Same.{key_equal}
use Rattle.action_digest.specs.Cycles.{keys_of, labels_of, ReachesFirst}
use Rattle.action_digest.proofs.Asking.{May, asks_may}
use Rattle.lists.proofs.Distinct.{distinct_end}
use Rattle.lists.proofs.Members.{has_mapped}
use Rattle.lists.specs.Lists.{Has}

module _ (C : List (List (Key × Value))) (v : ℕ) where
  abbrev Asks : Key → Key → Type 0
  Asks k j = AsksFor key_equal buck C v k j

  abbrev Round : Key → Key → List Key → Type 0
  Round f k ks = GoesRound key_equal buck C v f k ks

  abbrev pub Cycle : List Key → Type 0
  Cycle ks = IsCycle key_equal buck C v ks

  -- ---- a cycle from another of its keys on

  round_end : (first k i : Key) (ks : List Key) → Round k i ks → Asks k first → Round first i (ks ++ k ∷ [])
  round_end first k i [] c a = (c, a)
  round_end first k i (l ∷ ls) c a = (c.0, round_end first k l ls c.1 a)

  turned : (k : Key) (ks : List Key) → Cycle (k ∷ ks) → Cycle (ks ++ k ∷ [])
  turned k [] c = c
  turned k (j ∷ js) c = (distinct_end (j ∷ js) k c.0.1 c.0.0, round_end j k j js c.1.1 c.1.0)

  reaches_on : (a k j : Key) → Reaches key_equal buck C v a k → Asks k j → Reaches key_equal buck C v a j
  reaches_on a k j here q = through q here
  reaches_on a k j (through p r) q = through p (reaches_on _ k j r q)

  leads_on : (a k : Key) (ks : List Key) → Cycle (k ∷ ks) → ReachesFirst C v a (k ∷ ks) → ReachesFirst C v a (ks ++ k ∷ [])
  leads_on a k [] c r = r
  leads_on a k (j ∷ js) c r = reaches_on a k j r c.1.0

  pub turned_many : (xs ys : List Key) → Cycle (xs ++ ys) → Cycle (ys ++ xs)
  turned_many [] ys c = subst Cycle (sym (append-nil ys)) c
  turned_many (x ∷ xs) ys c = subst Cycle (append_assoc ys (x ∷ []) xs) (turned_many xs (ys ++ x ∷ []) (subst Cycle (append_assoc xs ys (x ∷ [])) (turned x (xs ++ ys) c)))

  pub leads_many : (a : Key) (xs ys : List Key) → Cycle (xs ++ ys) → ReachesFirst C v a (xs ++ ys) → ReachesFirst C v a (ys ++ xs)
  leads_many a [] ys c r = subst (ReachesFirst C v a) (sym (append-nil ys)) r
  leads_many a (x ∷ xs) ys c r =
      subst (ReachesFirst C v a) (append_assoc ys (x ∷ []) xs)
      (leads_many a xs (ys ++ x ∷ []) (subst Cycle (append_assoc xs ys (x ∷ [])) (turned x (xs ++ ys) c)) (subst (ReachesFirst C v a) (append_assoc xs ys (x ∷ [])) (leads_on a x (xs ++ ys) c r)))

  -- ---- what stands on a cycle

  round_asks : (first k : Key) (rest : List Key) (P : Key → Type 0) → Round first k rest → P first → ((j : Key) → Has rest j → P j) → (j : Key) → Has (k ∷ rest) j → (i : Key) × Asks j i × P i
  round_asks first k [] P c p q j (inl e) = (first, subst (λ i. Asks i first) e c, p)
  round_asks first k [] P c p q j (inr h) = absurd h
  round_asks first k (i ∷ is) P c p q j (inl e) = (i, subst (λ l. Asks l i) e c.0, q i (inl refl))
  round_asks first k (i ∷ is) P c p q j (inr h) = round_asks first i is P c.1 p (λ l z. q l (inr z)) j h

  asks_on_it : (ks : List Key) → Cycle ks → (j : Key) → Has ks j → (i : Key) × Asks j i × Has ks i
  asks_on_it [] c j h = absurd c
  asks_on_it (k ∷ ks) c j h = round_asks k k ks (Has (k ∷ ks)) c.1 (inl refl) (λ l z. inr z) j h

  no_source : (ks : List Key) → Cycle ks → (p : List ℕ) → Has ks (key.Source p) → ⊥
  no_source ks c p h = let a = asks_on_it ks c (key.Source p) h in asks_may C v (key.Source p) a.0 a.1

  no_package : (ks : List Key) → Cycle ks → (p : List ℕ) → Has ks (key.Package p) → ⊥
  no_package ks c p h = let a = asks_on_it ks c (key.Package p) h in no_source ks c (target_file_of p) (subst (Has ks) (asks_may C v (key.Package p) a.0 a.1) a.2)

  no_rule : (ks : List Key) → Cycle ks → (l : List ℕ) → Has ks (key.Rule l) → ⊥
  no_rule ks c l h = let a = asks_on_it ks c (key.Rule l) h in no_package ks c (package_of l) (subst (Has ks) (asks_may C v (key.Rule l) a.0 a.1) a.2)

  -- an action or a digest
  abbrev IsOfTarget : Key → Type 0
  IsOfTarget (key.Source p) = ⊥
  IsOfTarget (key.Package p) = ⊥
  IsOfTarget (key.Rule l) = ⊥
  IsOfTarget (key.Action l) = Unit {0}
  IsOfTarget (key.Digest l) = Unit {0}

  of_target : (ks : List Key) → Cycle ks → (j : Key) → Has ks j → IsOfTarget j
  of_target ks c (key.Source p) h = no_source ks c p h
  of_target ks c (key.Package p) h = no_package ks c p h
  of_target ks c (key.Rule l) h = no_rule ks c l h
  of_target ks c (key.Action l) h = tt
  of_target ks c (key.Digest l) h = tt

  -- ---- a cycle is of digests and actions in turn

  not_wanted : (home : List ℕ) (w : Source) (m : List ℕ) → key_in home w ≡ key.Action m → ⊥
  not_wanted home (source.Path p) m e = cc
  not_wanted home (source.Label l) m e = cc

  no_action : (l m : List ℕ) → May C v (key.Action l) (key.Action m) → ⊥
  no_action l m (inl e) = cc
  no_action l m (inr i) = let r = has_mapped (key_in (package_of l)) (wanted_by i.target.action) (key.Action m) i.among in not_wanted (package_of l) r.0 m r.2

  no_digest : (l m : List ℕ) → May C v (key.Digest l) (key.Digest m) → ⊥
  no_digest l m e = cc

  same_label : (l m : List ℕ) → key.Action m ≡ key.Action l → m ≡ l
  same_label l m e = cc

  -- the key of a target, its digest or its action, and the keys that follow it on a cycle
  abbrev key_at : Bool → List ℕ → Key
  key_at true l = key.Digest l
  key_at false l = key.Action l

  abbrev following : Bool → List ℕ → List Key → List Key
  following true l ks = key.Action l ∷ keys_of (labels_of ks)
  following false l ks = keys_of (labels_of ks)

  in_turn : (digest : Bool) (f l : List ℕ) (ks : List Key) → Round (key.Digest f) (key_at digest l) ks → ((j : Key) → Has ks j → IsOfTarget j) → ks ≡ following digest l ks
  in_turn true f l [] c g = absurd (no_digest l f (asks_may C v (key.Digest l) (key.Digest f) c))
  in_turn true f l (key.Source p ∷ ks) c g = absurd (g (key.Source p) (inl refl))
  in_turn true f l (key.Package p ∷ ks) c g = absurd (g (key.Package p) (inl refl))
  in_turn true f l (key.Rule m ∷ ks) c g = absurd (g (key.Rule m) (inl refl))
  in_turn true f l (key.Action m ∷ ks) c g =
      ap (λ js. key.Action m ∷ js) (in_turn false f m ks c.1 (λ j h. g j (inr h)))
      ∙ ap (λ n. key.Action n ∷ keys_of (labels_of ks)) (same_label l m (asks_may C v (key.Digest l) (key.Action m) c.0))
  in_turn true f l (key.Digest m ∷ ks) c g = absurd (no_digest l m (asks_may C v (key.Digest l) (key.Digest m) c.0))
  in_turn false f l [] c g = refl
  in_turn false f l (key.Source p ∷ ks) c g = absurd (g (key.Source p) (inl refl))
  in_turn false f l (key.Package p ∷ ks) c g = absurd (g (key.Package p) (inl refl))
  in_turn false f l (key.Rule m ∷ ks) c g = absurd (g (key.Rule m) (inl refl))
  in_turn false f l (key.Action m ∷ ks) c g = absurd (no_action l m (asks_may C v (key.Action l) (key.Action m) c.0))
  in_turn false f l (key.Digest m ∷ ks) c g = ap (λ js. key.Digest m ∷ js) (in_turn true f m ks c.1 (λ j h. g j (inr h)))

  digest_first : (l : List ℕ) (ks : List Key) → Cycle (key.Digest l ∷ ks) → key.Digest l ∷ ks ≡ keys_of (labels_of (key.Digest l ∷ ks))
  digest_first l ks c = ap (λ js. key.Digest l ∷ js) (in_turn true l l ks c.1 (λ j h. of_target (key.Digest l ∷ ks) c j (inr h)))

  labels_end : (ks : List Key) (l : List ℕ) → labels_of (ks ++ key.Action l ∷ []) ≡ labels_of ks
  labels_end [] l = refl
  labels_end (key.Source p ∷ ks) l = labels_end ks l
  labels_end (key.Package p ∷ ks) l = labels_end ks l
  labels_end (key.Rule m ∷ ks) l = labels_end ks l
  labels_end (key.Action m ∷ ks) l = labels_end ks l
  labels_end (key.Digest m ∷ ks) l = ap (λ ls. m ∷ ls) (labels_end ks l)

  -- the parts of a cycle that changed places are digests and actions in turn
  pub record IsInTurn (ks : List Key) : Type 0 where
    pub front : List Key
    pub back : List Key
    pub parts : ks ≡ front ++ back
    pub turn : back ++ front ≡ keys_of (labels_of ks)

  after_action : (l : List ℕ) (ks : List Key) → Cycle (key.Action l ∷ ks) → IsInTurn (key.Action l ∷ ks)
  after_action l [] c = absurd (no_action l l (asks_may C v (key.Action l) (key.Action l) c.1))
  after_action l (key.Source p ∷ ks) c = absurd (no_source (key.Action l ∷ key.Source p ∷ ks) c p (inr (inl refl)))
  after_action l (key.Package p ∷ ks) c = absurd (no_package (key.Action l ∷ key.Package p ∷ ks) c p (inr (inl refl)))
  after_action l (key.Rule m ∷ ks) c = absurd (no_rule (key.Action l ∷ key.Rule m ∷ ks) c m (inr (inl refl)))
  after_action l (key.Action m ∷ ks) c = absurd (no_action l m (asks_may C v (key.Action l) (key.Action m) c.1.0))
  after_action l (key.Digest m ∷ ks) c = record {
    front = key.Action l ∷ [];
    back = key.Digest m ∷ ks;
    parts = refl;
    turn = digest_first m (ks ++ key.Action l ∷ []) (turned (key.Action l) (key.Digest m ∷ ks) c) ∙ ap keys_of (labels_end (key.Digest m ∷ ks) l);
  }

  pub is_in_turn : (ks : List Key) → Cycle ks → IsInTurn ks
  is_in_turn [] c = absurd c
  is_in_turn (key.Source p ∷ ks) c = absurd (no_source (key.Source p ∷ ks) c p (inl refl))
  is_in_turn (key.Package p ∷ ks) c = absurd (no_package (key.Package p ∷ ks) c p (inl refl))
  is_in_turn (key.Rule l ∷ ks) c = absurd (no_rule (key.Rule l ∷ ks) c l (inl refl))
  is_in_turn (key.Action l ∷ ks) c = after_action l ks c
  is_in_turn (key.Digest l ∷ ks) c = record { front = key.Digest l ∷ ks; back = []; parts = sym (append-nil (key.Digest l ∷ ks)); turn = digest_first l ks c }
