-- There is an owner of a cycle's path for each task that ends with it.
use Rattle.std.proofs.Common.{◌≡◌, ◌≤◌, ◌+◌, inl, inr, ℕ, suc, Bool, true, false, List, [], ◌∷◌, ◌++◌, length, map, Option, Some, refl, sym, ap, ◌∙◌, subst, arith, length-append}
use Rattle.std.proofs.lemmas.List.{length-map, map-append}
use Rattle.std.specs.Arc.{arc_value}
use Rattle.std.specs.declared.sync.Arc.{Arc}
use Rattle.task_share.specs.Asked.{Tasked, Leads, stays, asks_on}
use Rattle.task_share.specs.Seen.{Share, asks, asked_of, is_live}
use Rattle.core_laws.specs.Tasks.{Outcome}
use Rattle.core_laws.proofs.Shapes.{not_both}
use Rattle.dice_tasks.specs.Helds.{Held}
use Rattle.dice_tasks.specs.Hands.{DeskSeen}
use Rattle.dice_tasks.specs.Owned.{AreAllOf}
use Rattle.dice_tasks.specs.declared.end.How.{How}
use Rattle.dice_tasks.specs.declared.end.How.TheVariants.{Lost, Cycle}
use Rattle.dice_tasks.specs.Endings.{path_of, HasOwners, AreGiven, IsEnough, EndAbove, EndsAsker, EndsTasks}
use Rattle.lists.proofs.Distinct.{few}
use Rattle.lists.proofs.Members.{has_end, has_last, has_more, has_mapped}
use Rattle.lists.specs.Lists.{Has}

-- ---- the owners in memory

pub no_owners : {X A : Type 0} (x : X) (xs : List (Arc X A)) → xs ≡ [] → AreAllOf x (map arc_value xs)
no_owners x xs e y h = absurd (subst (λ zs. Has (map arc_value zs) y) e h)

pub owner_more : {X A : Type 0} (x : X) (p : Arc X A) (xs ys : List (Arc X A)) → AreAllOf x (map arc_value xs) → arc_value p ≡ x → ys ≡ xs ++ p ∷ [] → AreAllOf x (map arc_value ys)
owner_more x p xs ys all e f y h = elim (has_last (map arc_value xs) (arc_value p) y (subst (λ zs. Has zs y) (ap (map arc_value) f ∙ map-append arc_value xs (p ∷ [])) h)) as (λ _. y ≡ x) [ inl i ↦ all y i | inr i ↦ sym i ∙ e ]

pub owners_rest : {X A : Type 0} (x : X) (p : Arc X A) (xs ys : List (Arc X A)) → AreAllOf x (map arc_value xs) → xs ≡ ys ++ p ∷ [] → AreAllOf x (map arc_value ys) × (arc_value p ≡ x)
owners_rest x p xs ys all e = (λ y h. all y (subst (λ zs. Has zs y) (sym parts) (has_more (map arc_value ys) (arc_value p) y h)), all (arc_value p) (subst (λ zs. Has zs (arc_value p)) (sym parts) (has_end (map arc_value ys) (arc_value p))))
  where
    parts : map arc_value xs ≡ map arc_value ys ++ arc_value p ∷ []
    parts = ap (map arc_value) e ∙ map-append arc_value ys (p ∷ [])

-- ---- owners that were given away

pub given_none : {K : Type 0} (h : How K) → AreGiven 0 h h
given_none Lost = tt
given_none (Cycle c) = (refl, omega arith)

pub given_more : {K : Type 0} (n : ℕ) (h i j : How K) → AreGiven n h i → AreGiven 1 i j → AreGiven (n + 1) h j
given_more n Lost Lost Lost a b = tt
given_more n Lost Lost (Cycle d) a b = absurd b
given_more n Lost (Cycle c) j a b = absurd a
given_more n (Cycle c) Lost j a b = absurd a
given_more n (Cycle c) (Cycle d) Lost a b = absurd b
given_more n (Cycle c) (Cycle d) (Cycle e) a b = (b.0 ∙ a.0, (let x = a.1 in let y = b.1 in omega arith))

pub given_path : {K : Type 0} (n : ℕ) (h i : How K) → AreGiven n h i → path_of i ≡ path_of h
given_path n Lost Lost a = refl
given_path n Lost (Cycle d) a = absurd a
given_path n (Cycle c) Lost a = absurd a
given_path n (Cycle c) (Cycle d) a = ap Some a.0

pub one_given : {K X : Type 0} (h i j : How K) (xs : List X) (x : X) → AreGiven (length xs) h i → AreGiven 1 i j → AreGiven (length (xs ++ x ∷ [])) h j
one_given h i j xs x a b = subst (λ n. AreGiven n h j) (sym (length-append xs (x ∷ []))) (given_more (length xs) h i j a b)

-- ---- tasks that end

module _ {K V : Type 0} (eq : K → K → Bool) where
  -- there is an owner for the first
  pub owner_first : (ps : List (K × Share K (Held K V))) (k : K) (h : How K) → IsEnough eq ps k h → HasOwners 1 h
  owner_first ps k Lost e = tt
  owner_first ps k (Cycle c) e = some e.0 (e.1.all k stays) e.2
    where
      some : (ks : List K) → Has ks k → length ks ≡ c.count → 1 ≤ c.count
      some [] h n = absurd h
      some (x ∷ ks) h n = let l : length (x ∷ ks) ≡ suc (length ks) = refl in omega arith

  pub above_first : (ps : List (K × Share K (Held K V))) (k : K) (o : Outcome K V) → EndAbove eq ((k, o) ∷ []) ps k
  above_first ps k o q r (inl e) = subst (λ z. Leads (asked_of eq ps) z k) (ap (λ (p : K × Outcome K V). p.0) e) stays
  above_first ps k o q r (inr h) = absurd h

  module _ (v : ℕ) (path : Option (List K)) (k : K) (es : List (K × Outcome K V)) (ps qs rs : List (K × Share K (Held K V))) (d e f : DeskSeen K V) (all : EndsTasks eq v path k es ps qs d e) (above : EndAbove eq es ps k) where
    -- whoever asks for one of these is above too
    asker_above : (q j : K) (o : Outcome K V) → Has es (q, o) → asks eq qs q (Tasked j) ≡ true → Leads (asked_of eq ps) j k
    asker_above q j o h on = asks_on (all.fewer q (Tasked j) on) (above q o h)

    pub above_more : (a : EndsAsker eq v path qs rs e f) → ((o : Outcome K V) × Has es (a.key, o)) → EndAbove eq (es ++ (a.asker, a.came) ∷ []) ps k
    above_more a there q o h = elim (has_last es (a.asker, a.came) (q, o) h) as (λ _. Leads (asked_of eq ps) q k) [
      | inl i ↦ above q o i
      | inr i ↦ subst (λ z. Leads (asked_of eq ps) z k) (ap (λ (p : K × Outcome K V). p.0) i) (asker_above a.key a.asker there.0 there.1 a.asks)
    ]

    -- there is an owner for one that is at work and asks for one of these
    pub owner_left : (h i : How K) → IsEnough eq ps k h → AreGiven (length es) h i → (q j : K) → ((o : Outcome K V) × Has es (q, o)) → asks eq qs q (Tasked j) ≡ true → is_live eq qs j ≡ true → HasOwners 1 i
    owner_left Lost Lost enough given q j there on live = tt
    owner_left Lost (Cycle x) enough given q j there on live = absurd given
    owner_left (Cycle c) Lost enough given q j there on live = absurd given
    owner_left (Cycle c) (Cycle x) enough given q j there on live =
        let n = few (j ∷ keys) enough.0 (new, all.distinct) among in
        let l : length (j ∷ keys) ≡ suc (length keys) = refl in
        let m = length-map es key_of in
        let s = enough.2 in
        let g = given.1 in
        omega arith
      where
        key_of : K × Outcome K V → K
        key_of p = p.0

        keys : List K
        keys = map key_of es

        new : Has keys j → ⊥
        new h = let r = has_mapped key_of es j h in not_both live (subst (λ z. is_live eq qs z ≡ false) r.2 (all.idle r.0 r.1))

        among : (y : K) → Has (j ∷ keys) y → Has enough.0 y
        among y (inl e) = enough.1.all y (subst (λ z. Leads (asked_of eq ps) z k) e (asker_above q j there.0 there.1 on))
        among y (inr h) = let r = has_mapped key_of es y h in enough.1.all y (above y r.0.1 (subst (λ (p : K × Outcome K V). Has es p) (λ i. (r.2 i, r.0.1)) r.1))
