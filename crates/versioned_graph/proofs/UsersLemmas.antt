-- Sets of users, read through the map that holds them.
use Rattle.std.proofs.Common.{MatchOption, None, ◌≡◌, subst, Bool, true, false, cond, List, [], ◌∷◌, map, Option, Some, refl, ap, sym, ◌∙◌}
use Rattle.std.specs.Map.{lookup}
use Rattle.std.specs.Arc.{arc_value, arc_with_value}
use Rattle.std.specs.Option.{option_map, option_copied}
use Rattle.std.specs.Borrow.{Bor}
use Rattle.std.specs.List.{list_any}
use Rattle.versioned_graph.proofs.Sets.{any_map}
use Rattle.std.specs.declared.sync.Arc.{Arc}
use Rattle.dice_key.specs.Lawful.{IsEquality, AreSame}
use Rattle.versioned_graph.specs.Users.{set_of, or_none, users_of}
use Rattle.dice_key.proofs.KeySets.{any_has, has_any}
use Rattle.lists.specs.Lists.{Has}

abbrev pub keys_in : {K B : Type 0} → List (Arc K B) → List K
keys_in s = map arc_value s

module _ {K A B : Type 0} (eq : K → K → Bool) where
  -- the list of a key is what the map has there
  pub set-named : (k : K) (es : List (Arc K A × List (Arc K B))) → users_of eq (map set_of es) k ≡ or_none (option_map keys_in (lookup (λ a. eq k (arc_value a)) es))
  set-named k [] = refl
  set-named k (e ∷ es) = by_test (eq k (arc_value e.0)) (set-named k es)
    where
      by_test : (b : Bool) → users_of eq (map set_of es) k ≡ or_none (option_map keys_in (lookup (λ a. eq k (arc_value a)) es))
          → or_none (cond b (Some (keys_in e.1)) (lookup (eq k) (map set_of es))) ≡ or_none (option_map keys_in (cond b (Some e.1) (lookup (λ a. eq k (arc_value a)) es)))
      by_test true h = refl
      by_test false h = h

  -- one list is written, or taken out
  pub set-put : (k : K) (a : Arc K A) (es fs : List (Arc K A × List (Arc K B))) (o : Option (List (Arc K B)))
      → ((q : Arc K A) → lookup (λ y. eq (arc_value q) (arc_value y)) fs ≡ cond (eq k (arc_value q)) o (lookup (λ y. eq (arc_value q) (arc_value y)) es))
      → (q : K) → users_of eq (map set_of fs) q ≡ cond (eq k q) (or_none (option_map keys_in o)) (users_of eq (map set_of es) q)
  set-put k a es fs o up q =
      set-named q fs
      ∙ (ap (λ p. or_none (option_map keys_in p)) (up (arc_with_value a q))
      ∙ (by_test (eq k q) (lookup (λ y. eq q (arc_value y)) es)
      ∙ ap (cond (eq k q) (or_none (option_map keys_in o))) (sym (set-named q es))))
    where
      by_test : (b : Bool) (p : Option (List (Arc K B))) → or_none (option_map keys_in (cond b o p)) ≡ cond b (or_none (option_map keys_in o)) (or_none (option_map keys_in p))
      by_test true p = refl
      by_test false p = refl

  -- what stands in the lists still does, if it does in the one that is written
  pub set-more : (same : AreSame eq) (k : K) (a : Arc K A) (es fs : List (Arc K A × List (Arc K B))) (p o : Option (List (Arc K B))) → lookup (λ y. eq k (arc_value y)) es ≡ p
      → ((q : Arc K A) → lookup (λ y. eq (arc_value q) (arc_value y)) fs ≡ cond (eq k (arc_value q)) o (lookup (λ y. eq (arc_value q) (arc_value y)) es))
      → ((q : K) → Has (or_none (option_map keys_in p)) q → Has (or_none (option_map keys_in o)) q)
      → (j q : K) → Has (users_of eq (map set_of es) j) q → Has (users_of eq (map set_of fs) j) q
  set-more same k a es fs p o known up more j q h = subst (λ l. Has l q) (sym (set-put k a es fs o up j)) (by_test (eq k j) refl)
    where
      by_test : (b : Bool) → eq k j ≡ b → Has (cond b (or_none (option_map keys_in o)) (users_of eq (map set_of es) j)) q
      by_test true e = more q (subst (λ l. Has l q) (set-named k es ∙ ap (λ x. or_none (option_map keys_in x)) known) (subst (λ n. Has (users_of eq (map set_of es) n) q) (sym (same k j e)) h))
      by_test false e = h

  -- what stands in another list
  pub set-other : (k : K) (a : Arc K A) (es fs : List (Arc K A × List (Arc K B))) (o : Option (List (Arc K B)))
      → ((q : Arc K A) → lookup (λ y. eq (arc_value q) (arc_value y)) fs ≡ cond (eq k (arc_value q)) o (lookup (λ y. eq (arc_value q) (arc_value y)) es))
      → (j q : K) → eq k j ≡ false → Has (users_of eq (map set_of es) j) q → Has (users_of eq (map set_of fs) j) q
  set-other k a es fs o up j q n h = subst (λ l. Has l q) (sym (set-put k a es fs o up j ∙ ap (λ b. cond b (or_none (option_map keys_in o)) (users_of eq (map set_of es) j)) n)) h

  -- what stands in the list that is written
  pub set-has : (law : IsEquality eq) (k : K) (a : Arc K A) (es fs : List (Arc K A × List (Arc K B))) (o : Option (List (Arc K B)))
      → ((q : Arc K A) → lookup (λ y. eq (arc_value q) (arc_value y)) fs ≡ cond (eq k (arc_value q)) o (lookup (λ y. eq (arc_value q) (arc_value y)) es))
      → (q : K) → Has (or_none (option_map keys_in o)) q → Has (users_of eq (map set_of fs) k) q
  set-has law k a es fs o up q h = subst (λ l. Has l q) (sym (set-put k a es fs o up k ∙ ap (λ b. cond b (or_none (option_map keys_in o)) (users_of eq (map set_of es) k)) (law.itself k))) h

module _ {K B : Type 0} (eq : K → K → Bool) (law : IsEquality eq) where
  -- what is in a set stays there when one key is added
  pub still_in : (old new : List (Arc K B)) (k : K) → ((q : K) → list_any (λ y. eq q (arc_value y)) new ≡ cond (eq k q) true (list_any (λ y. eq q (arc_value y)) old)) → (q : K) → Has (map arc_value old) q → Has (map arc_value new) q
  still_in old new k marks q h =
      any_has eq law (map arc_value new) q (any_map eq q new ∙ (marks q ∙ by_test (eq k q) (sym (any_map eq q old) ∙ has_any eq law (map arc_value old) q h)))
    where
      by_test : (b : Bool) → list_any (λ y. eq q (arc_value y)) old ≡ true → cond b true (list_any (λ y. eq q (arc_value y)) old) ≡ true
      by_test true e = refl
      by_test false e = e

  -- and the key is there
  pub now_in : (old new : List (Arc K B)) (k : K) → ((q : K) → list_any (λ y. eq q (arc_value y)) new ≡ cond (eq k q) true (list_any (λ y. eq q (arc_value y)) old)) → Has (map arc_value new) k
  now_in old new k marks = any_has eq law (map arc_value new) k (any_map eq k new ∙ (marks k ∙ ap (λ b. cond b true (list_any (λ y. eq k (arc_value y)) old)) (law.itself k)))

module _ {K : Type 0} (eq : K → K → Bool) (same : AreSame eq) where
  -- what stands in the lists still does, if one that had none is written
  pub all_stay : (k : K) (us vs : List (K × List K)) → users_of eq us k ≡ [] → ((j q : K) → eq k j ≡ false → Has (users_of eq us j) q → Has (users_of eq vs j) q) → (j q : K) → Has (users_of eq us j) q → Has (users_of eq vs j) q
  all_stay k us vs none others j q h = by_test (eq k j) refl
    where
      by_test : (b : Bool) → eq k j ≡ b → Has (users_of eq vs j) q
      by_test true e = absurd (subst (λ l. Has l q) none (subst (λ n. Has (users_of eq us n) q) (sym (same k j e)) h))
      by_test false e = others j q e h

  -- to forget the users of a key that has none changes nothing
  pub none_forgot : (k : K) (us : List (K × List K)) → users_of eq us k ≡ [] → (j : K) → users_of eq us j ≡ cond (eq k j) [] (users_of eq us j)
  none_forgot k us none j = by_test (eq k j) refl
    where
      by_test : (b : Bool) → eq k j ≡ b → users_of eq us j ≡ cond b [] (users_of eq us j)
      by_test true e = subst (λ n. users_of eq us n ≡ []) (same k j e) none
      by_test false e = refl

-- what was found, or that there is none
pub of_found : {K B : Type 0} (r : Option (Bor (List (Arc K B)))) (ks : List K) → or_none (option_map keys_in (option_copied r)) ≡ ks → MatchOption r (ks ≡ []) (λ s. map arc_value s.now ≡ ks)
of_found None ks e = sym e
of_found (Some s) ks e = e
