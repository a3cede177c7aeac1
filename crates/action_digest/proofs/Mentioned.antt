-- What the target files of a log mention.
use Rattle.std.proofs.Common.{◌≡◌, ◌⊎◌, inl, inr, ℕ, Bool, true, false, List, [], ◌∷◌, ◌++◌, take, Option, Some, None, Result, Ok, Err, unwrap_or, refl, ◌∙◌, subst}
use Rattle.std.specs.Map.{lookup}
use Rattle.std.specs.Str.{bytes_eq}
use Rattle.dice_model.specs.Log.{last_value_of}
use Rattle.buck_label.specs.Labels.{package_of, target_of, target_file_of}
use Rattle.target_file.specs.Targets.{Target, Located, target_named}
use Rattle.target_file.specs.Contents.{Contents, Holds, Fails, contents}
use Rattle.target_file.specs.declared.source.Source.{Source}
use Rattle.action_digest.specs.declared.key.Key.{Key}
use Rattle.action_digest.specs.declared.key.Key.TheVariants as key
use Rattle.action_digest.specs.declared.value.Value.{Value}
use Rattle.action_digest.specs.declared.value.Value.TheVariants as value
use Rattle.action_digest.specs.declared.fault.Fault.{Fault}
use Rattle.action_digest.specs.Actions.{wanted_by, source_in}
use Rattle.action_digest.specs.Written.{key_in}
use Rattle.action_digest.specs.Buck.{file_by, package_by, found_by, rule_by}
use Rattle.action_digest.specs.Same.{key_equal}
use Rattle.action_digest.proofs.Asking.{source_at, IsWanted}
use Rattle.lists.proofs.Members.{has_left, has_mapped, has_right}
use Rattle.lists.specs.Lists.{Has}

abbrev pub of_file : List Located → List Source
of_file [] = []
of_file (l ∷ ls) = wanted_by l.target.action ++ of_file ls

abbrev pub of_contents : Contents → List Source
of_contents (Holds f) = of_file f
of_contents (Fails n) = []

abbrev pub of_bytes : Option (List ℕ) → List Source
of_bytes (Some bytes) = of_contents (contents bytes)
of_bytes None = []

abbrev pub of_value : Value → List Source
of_value x = of_bytes (source_in (Some x))

abbrev pub of_commit : List (Key × Value) → List Source
of_commit [] = []
of_commit (p ∷ ps) = of_value p.1 ++ of_commit ps

abbrev pub of_log : List (List (Key × Value)) → List Source
of_log [] = []
of_log (c ∷ cs) = of_commit c ++ of_log cs

in_commit : (test : Key → Bool) (x : Value) (c : List (Key × Value)) (w : Source) → Has (of_value (unwrap_or (lookup test c) x)) w → Has (of_value x) w ⊎ Has (of_commit c) w
in_commit test x [] w h = inl h
in_commit test x (p ∷ ps) w h = at (test p.0) refl (in_commit test x ps w)
  where
    at : (b : Bool) → test p.0 ≡ b → (Has (of_value (unwrap_or (lookup test ps) x)) w → Has (of_value x) w ⊎ Has (of_commit ps) w) → Has (of_value x) w ⊎ Has (of_commit (p ∷ ps)) w
    at true e again = let g : Has (of_value p.1) w = rw e at h in inr (has_left (of_value p.1) (of_commit ps) w g)
    at false e again =
        let g : Has (of_value (unwrap_or (lookup test ps) x)) w = rw e at h in
        elim (again g) as (λ _. Has (of_value x) w ⊎ Has (of_commit (p ∷ ps)) w) [ inl a ↦ inl a | inr b ↦ inr (has_right (of_value p.1) (of_commit ps) w b) ]

in_log : (test : Key → Bool) (x : Value) (cs : List (List (Key × Value))) (w : Source) → Has (of_value (last_value_of test x cs)) w → Has (of_value x) w ⊎ Has (of_log cs) w
in_log test x [] w h = inl h
in_log test x (c ∷ cs) w h = elim (in_log test (unwrap_or (lookup test c) x) cs w h) as (λ _. Has (of_value x) w ⊎ Has (of_log (c ∷ cs)) w) [
  | inl a ↦ elim (in_commit test x c w a) as (λ _. Has (of_value x) w ⊎ Has (of_log (c ∷ cs)) w) [ inl g ↦ inl g | inr g ↦ inr (has_left (of_commit c) (of_log cs) w g) ]
  | inr b ↦ inr (has_right (of_commit c) (of_log cs) w b)
]

no_ok : (t : Target) (e : Fault) → Err e ≡ Ok t → ⊥
no_ok t e h = cc

no_target : (t : Target) → None ≡ Some t → ⊥
no_target t h = cc

named_in : (q : List ℕ) (f : List Located) (t : Target) (w : Source) → target_named q f ≡ Some t → Has (wanted_by t.action) w → Has (of_file f) w
named_in q [] t w e h = absurd (no_target t e)
named_in q (l ∷ ls) t w e h = at (bytes_eq q l.target.name) refl (named_in q ls t w)
  where
    at : (b : Bool) → bytes_eq q l.target.name ≡ b → (target_named q ls ≡ Some t → Has (wanted_by t.action) w → Has (of_file ls) w) → Has (of_file (l ∷ ls)) w
    at true s again =
        let g : Some l.target ≡ Some t = rw s at e in
        let i : t ≡ l.target = cc in
        has_left (wanted_by l.target.action) (of_file ls) w (subst (λ (u : Target). Has (wanted_by u.action) w) i h)
    at false s again =
        let g : target_named q ls ≡ Some t = rw s at e in
        has_right (wanted_by l.target.action) (of_file ls) w (again g h)

in_found : (l q : List ℕ) (f : List Located) (o : Option Target) (t : Target) (w : Source) → target_named q f ≡ o → found_by l o ≡ Ok t → Has (wanted_by t.action) w → Has (of_file f) w
in_found l q f None t w e g h = absurd (no_ok t _ g)
in_found l q f (Some s) t w e g h = let i : Some s ≡ Some t = cc in named_in q f t w (e ∙ i) h

in_contents : (l p : List ℕ) (c : Contents) (t : Target) (w : Source) → rule_by l (file_by p c) ≡ Ok t → Has (wanted_by t.action) w → Has (of_contents c) w
in_contents l p (Holds f) t w e h = in_found l (target_of l) f (target_named (target_of l) f) t w refl e h
in_contents l p (Fails n) t w e h = absurd (no_ok t _ e)

in_bytes : (l p : List ℕ) (o : Option (List ℕ)) (t : Target) (w : Source) → rule_by l (package_by p o) ≡ Ok t → Has (wanted_by t.action) w → Has (of_bytes o) w
in_bytes l p (Some bytes) t w e h = in_contents l p (contents bytes) t w e h
in_bytes l p None t w e h = absurd (no_ok t _ e)

rule_same : (r s : Result Target Fault) → value.Rule r ≡ value.Rule s → r ≡ s
rule_same r s e = cc

module _ (C : List (List (Key × Value))) (v : ℕ) where
  abbrev pub mentioned : List Source
  mentioned = of_log (take v C)

  -- what a target wants is mentioned in the log
  pub wanted_is_mentioned : (l : List ℕ) (j : Key) → IsWanted C v l j → (w : Source) × Has mentioned w × (key_in (package_of l) w ≡ j)
  wanted_is_mentioned l j i =
      let p = target_file_of (package_of l) in
      let r = has_mapped (key_in (package_of l)) (wanted_by i.target.action) j i.among in
      let g = in_bytes l (package_of l) (source_in (Some (source_at C v p))) i.target r.0 (rule_same _ _ i.found) r.1 in
      elim (in_log (key_equal (key.Source p)) (value.Source None) (take v C) r.0 g) as (λ _. (w : Source) × Has mentioned w × (key_in (package_of l) w ≡ j)) [
        | inl a ↦ absurd a
        | inr b ↦ (r.0, b, r.2)
      ]
