-- What the typed fronts say of keys and values.
use Rattle.std.specs.Prelude.{◌≡◌, ℕ, List, [], ◌∷◌, Option, Some, None, Result, Ok, Err, IsSome, refl}
use Rattle.std.proofs.Common.{sym, ◌∙◌, subst}
use Rattle.dice_key.specs.Meaning.{Answered, Step, Asks, Ends}
use Rattle.dice_key.specs.Fronts.{ValuesAreOf}
use Rattle.buck_label.specs.Labels.{package_of}
use Rattle.target_file.specs.Targets.{Target, Located}
use Rattle.target_file.specs.declared.action.Action.{Action}
use Rattle.action_digest.specs.declared.key.Key.{Key}
use Rattle.action_digest.specs.declared.key.Key.TheVariants as key
use Rattle.action_digest.specs.declared.value.Value.{Value}
use Rattle.action_digest.specs.declared.value.Value.TheVariants as value
use Rattle.action_digest.specs.declared.fault.Fault.{Fault}
use Rattle.action_digest.specs.declared.value.ActionText.{ActionText}
use Rattle.action_digest.specs.Actions.{action_of, asked_by}
use Rattle.action_digest.specs.Buck.{buck, buck_next, base_of, package_value, rule_value, digest_value, rule_in, with_asked, with_rule, first_of}

-- what a value of each kind holds
abbrev pub as_source : Value → Option (Option (List ℕ))
as_source (value.Source o) = Some o
as_source x = None

abbrev pub as_package : Value → Option (Result (List Located) Fault)
as_package (value.Package r) = Some r
as_package x = None

abbrev pub as_rule : Value → Option (Result Target Fault)
as_rule (value.Rule r) = Some r
as_rule x = None

abbrev pub as_action : Value → Option (Result ActionText Fault)
as_action (value.Action r) = Some r
as_action x = None

abbrev pub as_digest : Value → Option (Result (List ℕ) Fault)
as_digest (value.Digest r) = Some r
as_digest x = None

ends_same : (x y : Value) (s : Step Key Value) → s ≡ Ends x → s ≡ Ends y → x ≡ y
ends_same x y s p q = let r : Ends x ≡ Ends y = sym p ∙ q in cc

asks_no_end : (ks : List Key) (y : Value) (s : Step Key Value) → s ≡ Asks ks → s ≡ Ends y → ⊥
asks_no_end ks y s p q = let r : Asks ks ≡ Ends y = sym p ∙ q in cc

-- each value of a key of the kind holds what the kind's front reads
pub source_front : (p : List ℕ) → ValuesAreOf buck (key.Source p) as_source
source_front p = record { absent = refl; ends = λ A v x e. subst (λ y. IsSome (as_source y)) (ends_same (value.Source None) x (buck_next (key.Source p) A v) refl e) refl }

package_ends : (p : List ℕ) (A : List (Answered Key Value)) (v : ℕ) (x : Value) → buck_next (key.Package p) A v ≡ Ends x → IsSome (as_package x)
package_ends p [] v x e = absurd (asks_no_end (base_of (key.Package p) ∷ []) x (buck_next (key.Package p) [] v) refl e)
package_ends p (a ∷ A) v x e = subst (λ y. IsSome (as_package y)) (ends_same (package_value p (first_of a.values)) x (buck_next (key.Package p) (a ∷ A) v) refl e) refl

pub package_front : (p : List ℕ) → ValuesAreOf buck (key.Package p) as_package
package_front p = record { absent = refl; ends = package_ends p }

rule_ends : (p : List ℕ) (A : List (Answered Key Value)) (v : ℕ) (x : Value) → buck_next (key.Rule p) A v ≡ Ends x → IsSome (as_rule x)
rule_ends p [] v x e = absurd (asks_no_end (base_of (key.Rule p) ∷ []) x (buck_next (key.Rule p) [] v) refl e)
rule_ends p (a ∷ A) v x e = subst (λ y. IsSome (as_rule y)) (ends_same (rule_value p (first_of a.values)) x (buck_next (key.Rule p) (a ∷ A) v) refl e) refl

pub rule_front : (p : List ℕ) → ValuesAreOf buck (key.Rule p) as_rule
rule_front p = record { absent = refl; ends = rule_ends p }

asked_ends : (v : ℕ) (a : Action) (ks : List Key) (A : List (Answered Key Value)) (x : Value) → with_asked v a ks A ≡ Ends x → IsSome (as_action x)
asked_ends v a [] A x e = subst (λ y. IsSome (as_action y)) (ends_same (value.Action (action_of v a [] [])) x (with_asked v a [] A) refl e) refl
asked_ends v a (k ∷ ks) [] x e = absurd (asks_no_end (k ∷ ks) x (with_asked v a (k ∷ ks) []) refl e)
asked_ends v a (k ∷ ks) (b ∷ A) x e = subst (λ y. IsSome (as_action y)) (ends_same (value.Action (action_of v a (k ∷ ks) b.values)) x (with_asked v a (k ∷ ks) (b ∷ A)) refl e) refl

with_rule_ends : (v : ℕ) (l : List ℕ) (r : Result Target Fault) (A : List (Answered Key Value)) (x : Value) → with_rule v l r A ≡ Ends x → IsSome (as_action x)
with_rule_ends v l (Ok t) A x e = asked_ends v t.action (asked_by (package_of l) t.action) A x e
with_rule_ends v l (Err f) A x e = subst (λ y. IsSome (as_action y)) (ends_same (value.Action (Err f)) x (with_rule v l (Err f) A) refl e) refl

action_ends : (l : List ℕ) (A : List (Answered Key Value)) (v : ℕ) (x : Value) → buck_next (key.Action l) A v ≡ Ends x → IsSome (as_action x)
action_ends l [] v x e = absurd (asks_no_end (base_of (key.Action l) ∷ []) x (buck_next (key.Action l) [] v) refl e)
action_ends l (a ∷ A) v x e = with_rule_ends v l (rule_in (first_of a.values)) A x e

pub action_front : (p : List ℕ) → ValuesAreOf buck (key.Action p) as_action
action_front p = record { absent = refl; ends = action_ends p }

digest_ends : (p : List ℕ) (A : List (Answered Key Value)) (v : ℕ) (x : Value) → buck_next (key.Digest p) A v ≡ Ends x → IsSome (as_digest x)
digest_ends p [] v x e = absurd (asks_no_end (base_of (key.Digest p) ∷ []) x (buck_next (key.Digest p) [] v) refl e)
digest_ends p (a ∷ A) v x e = subst (λ y. IsSome (as_digest y)) (ends_same (digest_value (first_of a.values)) x (buck_next (key.Digest p) (a ∷ A) v) refl e) refl

pub digest_front : (p : List ℕ) → ValuesAreOf buck (key.Digest p) as_digest
digest_front p = record { absent = refl; ends = digest_ends p }
