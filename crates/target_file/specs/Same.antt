-- Equality of lists of texts and of actions is exact.
use Rattle.std.specs.Prelude.{◌≡◌, ◌&&◌, Bool, true, nat_eq, List, ℕ, refl}
use Rattle.std.specs.Bool.{Decides}
use Rattle.std.specs.Cmp.Lexicographic.{pointwise, bytes_decides, pointwise_decides}
use Rattle.std.proofs.Common.{ap, subst, ◌∙◌}
use Rattle.target_file.specs.SameSources.{same_sources, sources_decide}
use Rattle.target_file.specs.declared.source.Source.{Source}
use Rattle.target_file.specs.declared.action.Action.{Action}
use Rattle.target_file.specs.declared.action.Action.TheVariants.{ExportFile, Filegroup, WriteFile, Genrule, StampFile}
use Rattle.target_file.specs.contracts.action.ActionPartialEq.TheImpl as action_eq
use Rattle.std.proofs.lemmas.Bool.{and_from, and_parts}

abbrev pub same_texts : List (List ℕ) → List (List ℕ) → Bool
same_texts = pointwise (pointwise nat_eq)

pub texts_decide : (x y : List (List ℕ)) → Decides (same_texts x y) (x ≡ y)
texts_decide = pointwise_decides bytes_decides

abbrev pub same_action : Action → Action → Bool
same_action = action_eq.ghosts.eq

self : (x : List ℕ) → pointwise nat_eq x x ≡ true
self x = (bytes_decides x x).1 refl

same : (x y : List ℕ) → pointwise nat_eq x y ≡ true → x ≡ y
same x y h = (bytes_decides x y).0 h

action_self : (x : Action) → same_action x x ≡ true
action_self (ExportFile s o) = and_from (pointwise nat_eq s s) (pointwise nat_eq o o) (self s) (self o)
action_self (Filegroup ss) = (sources_decide ss ss).1 refl
action_self (WriteFile c o) = and_from (pointwise nat_eq c c) (pointwise nat_eq o o) (self c) (self o)
action_self (Genrule ss o c) =
    and_from (same_sources ss ss) (pointwise nat_eq o o && pointwise nat_eq c c) ((sources_decide ss ss).1 refl) (and_from (pointwise nat_eq o o) (pointwise nat_eq c c) (self o) (self c))
action_self (StampFile o) = self o

only_action : (x y : Action) → same_action x y ≡ true → x ≡ y
only_action (ExportFile s o) (ExportFile t p) h =
    let b = and_parts (pointwise nat_eq s t) (pointwise nat_eq o p) h in ap (λ (z : List ℕ). ExportFile z o) (same s t b.0) ∙ ap (ExportFile t) (same o p b.1)
only_action (Filegroup ss) (Filegroup ts) h = ap Filegroup ((sources_decide ss ts).0 h)
only_action (WriteFile c o) (WriteFile d p) h =
    let b = and_parts (pointwise nat_eq c d) (pointwise nat_eq o p) h in ap (λ (z : List ℕ). WriteFile z o) (same c d b.0) ∙ ap (WriteFile d) (same o p b.1)
only_action (Genrule ss o c) (Genrule ts p d) h =
    let a = and_parts (same_sources ss ts) (pointwise nat_eq o p && pointwise nat_eq c d) h in
    let b = and_parts (pointwise nat_eq o p) (pointwise nat_eq c d) a.1 in
    ap (λ (z : List Source). Genrule z o c) ((sources_decide ss ts).0 a.0) ∙ ap (λ (z : List ℕ). Genrule ts z c) (same o p b.0) ∙ ap (Genrule ts p) (same c d b.1)
only_action (StampFile o) (StampFile p) h = ap StampFile (same o p h)
only_action x y h = cc

pub action_decides : (x y : Action) → Decides (same_action x y) (x ≡ y)
action_decides x y = (only_action x y, λ e. subst (λ (z : Action). same_action x z ≡ true) e (action_self x))
