-- What each kind of key asks.
use Rattle.std.proofs.Common.{◌≡◌, ◌⊎◌, inl, inr, ℕ, List, [], ◌∷◌, Some, Result, Ok, Err, refl, sym, ap, ◌∙◌, subst}
use Rattle.std.specs.List.{AllZip}
use Rattle.dice_key.specs.Meaning.{Answered, Step, Asks, Ends}
use Rattle.dice_model.specs.Log.{input}
use Rattle.dice_model.specs.Eval.{HasValue}
use Rattle.dice_model.specs.Asks.{Goes, AsksFor}
use Rattle.dice_model.proofs.EvalLaws.{one_value}
use Rattle.buck_label.specs.Labels.{package_of, target_file_of}
use Rattle.target_file.specs.Targets.{Target}
use Rattle.target_file.specs.declared.action.Action.{Action}
use Rattle.action_digest.specs.declared.key.Key.{Key}
use Rattle.action_digest.specs.declared.key.Key.TheVariants as key
use Rattle.action_digest.specs.declared.value.Value.{Value}
use Rattle.action_digest.specs.declared.value.Value.TheVariants as value
use Rattle.action_digest.specs.declared.fault.Fault.{Fault}
use Rattle.action_digest.specs.Actions.{asked_by}
use Rattle.action_digest.specs.Buck.{buck, buck_next, package_value, rule_value, rule_in, first_of, with_asked, with_rule}
use Rattle.action_digest.specs.Laws.{rule_ends}
use Rattle.action_digest.specs.Same.{key_equal}
use Rattle.lists.specs.Lists.{Has}

no_end : (x : Value) (ks : List Key) (s : Step Key Value) → s ≡ Ends x → s ≡ Asks ks → ⊥
no_end x ks s p q = let r : Ends x ≡ Asks ks = sym p ∙ q in cc

same_asked : (ks js : List Key) (s : Step Key Value) → s ≡ Asks ks → s ≡ Asks js → ks ≡ js
same_asked ks js s p q = let r : Asks ks ≡ Asks js = sym p ∙ q in cc

-- of one key that is asked there is no other
only : (k j : Key) (ks : List Key) → k ∷ [] ≡ ks → Has ks j → j ≡ k
only k j ks e h = elim (subst (λ is. Has is j) (sym e) h) as (λ _. j ≡ k) [ inl p ↦ sym p | inr q ↦ absurd q ]

module _ (C : List (List (Key × Value))) (v : ℕ) where
  abbrev pub source_at : List ℕ → Value
  source_at p = input key_equal buck C v (key.Source p)

  -- the rule of a label at this version
  abbrev pub rule_at : List ℕ → Value
  rule_at l = rule_value l (Some (package_value (package_of l) (Some (source_at (target_file_of (package_of l))))))

  rule_is : (l : List ℕ) (x : Value) → HasValue key_equal buck C v (key.Rule l) x → x ≡ rule_at l
  rule_is l x h = one_value key_equal buck C v (key.Rule l) x (rule_at l) h (record { depth = 3; gives = refl })

  -- what the target of a label asks for
  pub record IsWanted (l : List ℕ) (j : Key) : Type 0 where
    pub target : Target
    pub found : rule_at l ≡ value.Rule (Ok target)
    pub among : Has (asked_by (package_of l) target.action) j

  -- the keys that a key may ask
  abbrev pub May : Key → Key → Type 0
  May (key.Source p) j = ⊥
  May (key.Package p) j = j ≡ key.Source (target_file_of p)
  May (key.Rule l) j = j ≡ key.Package (package_of l)
  May (key.Action l) j = (j ≡ key.Rule l) ⊎ IsWanted l j
  May (key.Digest l) j = j ≡ key.Action l

  by_package : (p : List ℕ) (j : Key) (before : List (Answered Key Value)) (ks : List Key) → buck_next (key.Package p) before v ≡ Asks ks → Has ks j → j ≡ key.Source (target_file_of p)
  by_package p j [] ks e h = only _ j ks (same_asked _ ks _ refl e) h
  by_package p j (a ∷ A) ks e h = absurd (no_end _ ks _ refl e)

  by_rule : (l : List ℕ) (j : Key) (before : List (Answered Key Value)) (ks : List Key) → buck_next (key.Rule l) before v ≡ Asks ks → Has ks j → j ≡ key.Package (package_of l)
  by_rule l j [] ks e h = only _ j ks (same_asked _ ks _ refl e) h
  by_rule l j (a ∷ A) ks e h = absurd (no_end _ ks _ refl e)

  by_digest : (l : List ℕ) (j : Key) (before : List (Answered Key Value)) (ks : List Key) → buck_next (key.Digest l) before v ≡ Asks ks → Has ks j → j ≡ key.Action l
  by_digest l j [] ks e h = only _ j ks (same_asked _ ks _ refl e) h
  by_digest l j (a ∷ A) ks e h = absurd (no_end _ ks _ refl e)

  first_answer : (l : List ℕ) (ks : List Key) (xs : List Value) → key.Rule l ∷ [] ≡ ks → AllZip (HasValue key_equal buck C v) ks xs → first_of xs ≡ Some (rule_at l)
  first_answer l ks xs e z = from_one xs (subst (λ js. AllZip (HasValue key_equal buck C v) js xs) (sym e) z)
    where
      from_one : (ys : List Value) → AllZip (HasValue key_equal buck C v) (key.Rule l ∷ []) ys → first_of ys ≡ Some (rule_at l)
      from_one [] z = absurd z
      from_one (y ∷ ys) z = ap Some (rule_is l y z.0)

  from_asked : (a : Action) (ks js : List Key) (j : Key) → with_asked v a ks [] ≡ Asks js → Has js j → Has ks j
  from_asked a [] js j e h = absurd (no_end _ js _ refl e)
  from_asked a (k ∷ ks) js j e h = subst (λ is. Has is j) (sym (same_asked (k ∷ ks) js _ refl e)) h

  from_rule : (l : List ℕ) (r : Result Target Fault) (js : List Key) (j : Key) → rule_at l ≡ value.Rule r → with_rule v l r [] ≡ Asks js → Has js j → IsWanted l j
  from_rule l (Ok t) js j f e h = record { target = t; found = f; among = from_asked t.action (asked_by (package_of l) t.action) js j e h }
  from_rule l (Err x) js j f e h = absurd (no_end _ js _ refl e)

  by_action : (l : List ℕ) (j : Key) (before : List (Answered Key Value)) (ks : List Key) → Goes key_equal buck C v (key.Action l) [] before → buck_next (key.Action l) before v ≡ Asks ks → Has ks j → (j ≡ key.Rule l) ⊎ IsWanted l j
  by_action l j [] ks g e h = inl (only _ j ks (same_asked _ ks _ refl e) h)
  by_action l j (a ∷ []) ks g e h =
      let f : first_of a.values ≡ Some (rule_at l) = first_answer l a.keys a.values (same_asked _ a.keys _ refl g.0) g.1 in
      inr (from_rule l (rule_in (Some (rule_at l))) ks j refl (subst (λ x. with_rule v l (rule_in x) [] ≡ Asks ks) f e) h)
  by_action l j (a ∷ b ∷ A) ks g e h = let r = rule_ends v l (rule_in (first_of a.values)) b A in absurd (no_end r.0 ks _ r.1 e)

  pub asks_may : (k j : Key) → AsksFor key_equal buck C v k j → May k j
  asks_may (key.Source p) j a = a.computed refl
  asks_may (key.Package p) j a = by_package p j a.before a.keys a.asks a.among
  asks_may (key.Rule l) j a = by_rule l j a.before a.keys a.asks a.among
  asks_may (key.Action l) j a = by_action l j a.before a.keys a.goes a.asks a.among
  asks_may (key.Digest l) j a = by_digest l j a.before a.keys a.asks a.among
