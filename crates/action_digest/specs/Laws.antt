-- The laws of the universe.
use Rattle.std.specs.Prelude.{◌≡◌, ◌≤◌, ◌++◌, ℕ, false, List, [], ◌∷◌, length, Result, Ok, Err, refl}
use Rattle.std.proofs.Common.{arith, ap, ◌∙◌}
use Rattle.dice_key.specs.Meaning.{Answered, Step, Asks, Ends}
use Rattle.dice_key.specs.Lawful.{IsLawful}
use Rattle.dice_key.specs.declared.universe.Kind.TheVariants.{Projection}
use Rattle.buck_label.specs.Labels.{package_of}
use Rattle.target_file.specs.Targets.{Target}
use Rattle.target_file.specs.declared.action.Action.{Action}
use Rattle.target_file.specs.declared.action.Action.TheVariants as action
use Rattle.action_digest.specs.declared.key.Key.{Key}
use Rattle.action_digest.specs.declared.key.Key.TheVariants as key
use Rattle.action_digest.specs.declared.value.Value.{Value}
use Rattle.action_digest.specs.declared.value.Value.TheVariants as value
use Rattle.action_digest.specs.declared.fault.Fault.{Fault}
use Rattle.action_digest.specs.Actions.{action_of, text_with, head_of, is_stamp, asked_by, lines_by, names_sources}
use Rattle.action_digest.specs.Buck.{buck, buck_next, most_of, kind_of, base_of, projected, package_value, rule_value, digest_value, rule_in, first_of, absent_of, with_asked, with_rule, is_transient_value}

-- ---- an action, after its rule was answered

-- it ends after one batch more
asked_ends : (v : ℕ) (a : Action) (ks : List Key) (b : Answered Key Value) (A : List (Answered Key Value)) → (x : Value) × (with_asked v a ks (b ∷ A) ≡ Ends x)
asked_ends v a [] b A = (value.Action (action_of v a [] []), refl)
asked_ends v a (k ∷ ks) b A = (value.Action (action_of v a (k ∷ ks) b.values), refl)

pub rule_ends : (v : ℕ) (l : List ℕ) (r : Result Target Fault) (b : Answered Key Value) (A : List (Answered Key Value)) → (x : Value) × (with_rule v l r (b ∷ A) ≡ Ends x)
rule_ends v l (Ok t) b A = asked_ends v t.action (asked_by (package_of l) t.action) b A
rule_ends v l (Err e) b A = (value.Action (Err e), refl)

-- what it asks does not depend on the version
asked_asks : (v w : ℕ) (a : Action) (ks : List Key) (A : List (Answered Key Value)) (js : List Key) → with_asked v a ks A ≡ Asks js → with_asked w a ks A ≡ Asks js
asked_asks v w a [] A js e = cc
asked_asks v w a (k ∷ ks) [] js e = e
asked_asks v w a (k ∷ ks) (b ∷ A) js e = cc

rule_asks : (v w : ℕ) (l : List ℕ) (r : Result Target Fault) (A : List (Answered Key Value)) (js : List Key) → with_rule v l r A ≡ Asks js → with_rule w l r A ≡ Asks js
rule_asks v w l (Ok t) A js e = asked_asks v w t.action (asked_by (package_of l) t.action) A js e
rule_asks v w l (Err f) A js e = e

-- only the text of a stamp depends on it
head_alike : (v w : ℕ) (a : Action) → is_stamp a ≡ false → head_of v a ≡ head_of w a
head_alike v w (action.ExportFile src out) e = refl
head_alike v w (action.Filegroup srcs) e = refl
head_alike v w (action.WriteFile content out) e = refl
head_alike v w (action.Genrule srcs out cmd) e = refl
head_alike v w (action.StampFile out) e = cc

abbrev the_end : Value → Step Key Value
the_end x = Ends x

text_alike : (v w : ℕ) (a : Action) (r : Result (List ℕ) Fault) (x : Value) → the_end (value.Action (text_with v a r)) ≡ Ends x → is_transient_value x ≡ false → the_end (value.Action (text_with w a r)) ≡ Ends x
text_alike v w a (Ok lines) x e h =
    let f : value.Action (Ok (record { text = head_of v a ++ lines; holds_version = is_stamp a })) ≡ x = cc in
    ap (λ (head : List ℕ). the_end (value.Action (Ok (record { text = head ++ lines; holds_version = is_stamp a })))) (head_alike w v a (ap is_transient_value f ∙ h)) ∙ e
text_alike v w a (Err f) x e h = e

asked_alike : (v w : ℕ) (a : Action) (ks : List Key) (A : List (Answered Key Value)) (x : Value) → with_asked v a ks A ≡ Ends x → is_transient_value x ≡ false → with_asked w a ks A ≡ Ends x
asked_alike v w a [] A x e h = text_alike v w a (Ok []) x e h
asked_alike v w a (k ∷ ks) [] x e h = cc
asked_alike v w a (k ∷ ks) (b ∷ A) x e h = text_alike v w a (lines_by (names_sources a) (k ∷ ks) b.values) x e h

rule_alike : (v w : ℕ) (l : List ℕ) (r : Result Target Fault) (A : List (Answered Key Value)) (x : Value) → with_rule v l r A ≡ Ends x → is_transient_value x ≡ false → with_rule w l r A ≡ Ends x
rule_alike v w l (Ok t) A x e h = asked_alike v w t.action (asked_by (package_of l) t.action) A x e h
rule_alike v w l (Err f) A x e h = e

-- ---- each key

ends : (k : Key) (A : List (Answered Key Value)) (v : ℕ) → most_of k ≤ length A → (x : Value) × (buck_next k A v ≡ Ends x)
ends (key.Source p) A v h = (absent_of (key.Source p), refl)
ends (key.Package p) [] v h = absurd (omega arith)
ends (key.Package p) (a ∷ A) v h = (package_value p (first_of a.values), refl)
ends (key.Rule l) [] v h = absurd (omega arith)
ends (key.Rule l) (a ∷ A) v h = (rule_value l (first_of a.values), refl)
ends (key.Action l) [] v h = absurd (omega arith)
ends (key.Action l) (a ∷ []) v h = absurd (omega arith)
ends (key.Action l) (a ∷ b ∷ A) v h = rule_ends v l (rule_in (first_of a.values)) b A
ends (key.Digest l) [] v h = absurd (omega arith)
ends (key.Digest l) (a ∷ A) v h = (digest_value (first_of a.values), refl)

asks_alike : (k : Key) (A : List (Answered Key Value)) (v w : ℕ) (ks : List Key) → buck_next k A v ≡ Asks ks → buck_next k A w ≡ Asks ks
asks_alike (key.Source p) A v w ks e = e
asks_alike (key.Package p) [] v w ks e = e
asks_alike (key.Package p) (a ∷ A) v w ks e = e
asks_alike (key.Rule l) [] v w ks e = e
asks_alike (key.Rule l) (a ∷ A) v w ks e = e
asks_alike (key.Action l) [] v w ks e = e
asks_alike (key.Action l) (a ∷ A) v w ks e = rule_asks v w l (rule_in (first_of a.values)) A ks e
asks_alike (key.Digest l) [] v w ks e = e
asks_alike (key.Digest l) (a ∷ A) v w ks e = e

ends_alike : (k : Key) (A : List (Answered Key Value)) (v w : ℕ) (x : Value) → buck_next k A v ≡ Ends x → is_transient_value x ≡ false → buck_next k A w ≡ Ends x
ends_alike (key.Source p) A v w x e h = e
ends_alike (key.Package p) [] v w x e h = e
ends_alike (key.Package p) (a ∷ A) v w x e h = e
ends_alike (key.Rule l) [] v w x e h = e
ends_alike (key.Rule l) (a ∷ A) v w x e h = e
ends_alike (key.Action l) [] v w x e h = e
ends_alike (key.Action l) (a ∷ A) v w x e h = rule_alike v w l (rule_in (first_of a.values)) A x e h
ends_alike (key.Digest l) [] v w x e h = e
ends_alike (key.Digest l) (a ∷ A) v w x e h = e

asks_base : (k : Key) (v : ℕ) → kind_of k ≡ Projection → buck_next k [] v ≡ Asks (base_of k ∷ [])
asks_base (key.Source p) v e = cc
asks_base (key.Package p) v e = refl
asks_base (key.Rule l) v e = refl
asks_base (key.Action l) v e = refl
asks_base (key.Digest l) v e = refl

projects : (k : Key) (v : ℕ) (x : Value) → kind_of k ≡ Projection → buck_next k (record { keys = base_of k ∷ []; values = x ∷ [] } ∷ []) v ≡ Ends (projected k x)
projects (key.Source p) v x e = cc
projects (key.Package p) v x e = cc
projects (key.Rule l) v x e = refl
projects (key.Action l) v x e = cc
projects (key.Digest l) v x e = refl

lasts : (k : Key) (x : Value) → is_transient_value (projected k x) ≡ false
lasts (key.Source p) x = refl
lasts (key.Package p) x = refl
lasts (key.Rule l) x = refl
lasts (key.Action l) x = refl
lasts (key.Digest l) x = refl

pub buck_lawful : IsLawful buck
buck_lawful = record {
  ends = ends;
  asks_alike = asks_alike;
  ends_alike = ends_alike;
  asks_base = asks_base;
  projects = λ k v _ x e. projects k v x e;
  projected_lasts = λ k x e. lasts k x;
}
