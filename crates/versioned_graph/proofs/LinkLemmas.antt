-- Keys that are linked: each stands in the list of what it uses.
use Rattle.std.proofs.Common.{◌≡◌, ◌<◌, ◌||◌, ℕ, ◌+◌, Bool, true, false, cond, List, ◌∷◌, drop, length, get_or, refl, sym, ap, ◌∙◌, subst}
use Rattle.std.specs.Arc.{arc_value}
use Rattle.std.specs.declared.sync.Arc.{Arc}
use Rattle.std.specs.List.{list_any}
use Rattle.std.proofs.lemmas.List.{at_drop_more}
use Rattle.dice_key.specs.Lawful.{IsEquality}
use Rattle.dice_key.specs.Meaning.{Answered}
use Rattle.dep_recorder.specs.Recordings.{keys_in}
use Rattle.versioned_graph.specs.Users.{users_of}
use Rattle.versioned_graph.specs.Edges.{is_asked}
use Rattle.lists.specs.Lists.{Has}

module _ {K : Type 0} (eq : K → K → Bool) (k : K) where
  -- k stands in the list of each key of the set; and all that stood in a list still does
  pub record IsLinked (deps : K → Bool) (us vs : List (K × List K)) : Type 0 where
    pub there : (j : K) → deps j ≡ true → Has (users_of eq vs j) k
    pub stay : (j q : K) → Has (users_of eq us j) q → Has (users_of eq vs j) q

  pub linked_none : (deps : K → Bool) (us : List (K × List K)) → ((j : K) → deps j ≡ false) → IsLinked deps us us
  linked_none deps us n = record { there = λ j e. absurd (let z : false ≡ true = sym (n j) ∙ e in cc); stay = λ j q h. h }

  -- one key more
  pub linked_more : (law : IsEquality eq) (deps later : K → Bool) (us vs ws : List (K × List K)) (d : K) → IsLinked deps us vs → ((q : K) → later q ≡ cond (eq d q) true (deps q))
      → Has (users_of eq ws d) k → ((j q : K) → Has (users_of eq vs j) q → Has (users_of eq ws j) q) → IsLinked later us ws
  linked_more law deps later us vs ws d h marks ok stay = record {
    there = λ j e. by_test j (eq d j) refl (sym (marks j) ∙ e);
    stay = λ j q i. stay j q (h.stay j q i);
  }
    where
      by_test : (j : K) (b : Bool) → eq d j ≡ b → cond b true (deps j) ≡ true → Has (users_of eq ws j) k
      by_test j true e t = subst (λ n. Has (users_of eq ws n) k) (law.same d j e) ok
      by_test j false e t = stay j k (h.there j t)

module _ {K V A B : Type 0} where
  -- the keys that are left, the first one named
  pub keys_left : (ps : List (Arc K A × Arc V B)) (i : ℕ) (p : Arc K A × Arc V B) → i < length ps → p ≡ get_or ps i p → keys_in (drop i ps) ≡ arc_value p.0 ∷ keys_in (drop (i + 1) ps)
  keys_left ps i p l e = at_drop_more keys_in ps i p l ∙ ap (λ q. arc_value q.0 ∷ keys_in (drop (i + 1) ps)) (sym e)

or_swap : (a b c : Bool) → ((a || b) || c) ≡ (b || (a || c))
or_swap true true c = refl
or_swap true false c = refl
or_swap false b c = refl

module _ {K V : Type 0} (eq : K → K → Bool) where
  -- a whole batch was added
  pub batch_added : (q : K) (A A' : List (Answered K V)) (b : Answered K V) (u w x : Bool) → A ≡ b ∷ A' → w ≡ (list_any (eq q) b.keys || u) → (is_asked eq A q || u) ≡ x → (is_asked eq A' q || w) ≡ x
  batch_added q A A' b u w x e h p = ap (λ y. is_asked eq A' q || y) h ∙ (sym (or_swap (list_any (eq q) b.keys) (is_asked eq A' q) u) ∙ (ap (λ c. is_asked eq c q || u) (sym e) ∙ p))
