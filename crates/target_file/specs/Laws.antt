-- Equality of targets and of files is exact.
use Rattle.std.specs.Prelude.{◌≡◌, ◌&&◌, ℕ, true, nat_eq, List, refl}
use Rattle.std.specs.Bool.{Decides}
use Rattle.std.specs.Str.{bytes_eq}
use Rattle.std.specs.Cmp.{IsEquivalence, decided, unsigned_Decides}
use Rattle.std.specs.Cmp.Lexicographic.{bytes_decides, pointwise_decides}
use Rattle.std.proofs.Common.{ap, inl, inr}
use Rattle.buck_label.specs.Labels.{Name, IsLabelIn, IsSomeLabel}
use Rattle.target_file.specs.Same.{same_texts, texts_decide, same_action, action_decides}
use Rattle.target_file.specs.Targets.{Target, Located, same_target, same_located, same_file}
use Rattle.std.proofs.lemmas.Bool.{and_from, and_parts}

target_is : (x y : Target) → x.name ≡ y.name → x.visibility ≡ y.visibility → x.labels ≡ y.labels → x.action ≡ y.action → x ≡ y
target_is x y e f g h = λ i. record { name = e i; visibility = f i; labels = g i; action = h i }

located_is : (x y : Located) → x.line ≡ y.line → x.target ≡ y.target → x ≡ y
located_is x y e f = λ i. record { line = e i; target = f i }

pub target_decides : (x y : Target) → Decides (same_target x y) (x ≡ y)
target_decides x y = (
  λ h.
      let a = and_parts (bytes_eq x.name y.name && same_texts x.visibility y.visibility) (same_texts x.labels y.labels && same_action x.action y.action) h in
      let b = and_parts (bytes_eq x.name y.name) (same_texts x.visibility y.visibility) a.0 in
      let c = and_parts (same_texts x.labels y.labels) (same_action x.action y.action) a.1 in
      target_is x y ((bytes_decides x.name y.name).0 b.0) ((texts_decide x.visibility y.visibility).0 b.1) ((texts_decide x.labels y.labels).0 c.0) ((action_decides x.action y.action).0 c.1),
  λ e. and_from (bytes_eq x.name y.name && same_texts x.visibility y.visibility) (same_texts x.labels y.labels && same_action x.action y.action)
      (and_from (bytes_eq x.name y.name) (same_texts x.visibility y.visibility) ((bytes_decides x.name y.name).1 (ap (λ (t : Target). t.name) e)) ((texts_decide x.visibility y.visibility).1 (ap (λ (t : Target). t.visibility) e)))
      (and_from (same_texts x.labels y.labels) (same_action x.action y.action) ((texts_decide x.labels y.labels).1 (ap (λ (t : Target). t.labels) e)) ((action_decides x.action y.action).1 (ap (λ (t : Target). t.action) e))),
)

pub located_decides : (x y : Located) → Decides (same_located x y) (x ≡ y)
located_decides x y = (
  λ h.
      let a = and_parts (nat_eq x.line y.line) (same_target x.target y.target) h in
      located_is x y ((unsigned_Decides x.line y.line).0 a.0) ((target_decides x.target y.target).0 a.1),
  λ e. and_from (nat_eq x.line y.line) (same_target x.target y.target) ((unsigned_Decides x.line y.line).1 (ap (λ (l : Located). l.line) e)) ((target_decides x.target y.target).1 (ap (λ (l : Located). l.target) e)),
)

pub file_decides : (x y : List Located) → Decides (same_file x y) (x ≡ y)
file_decides = pointwise_decides located_decides

pub target_equiv : IsEquivalence same_target
target_equiv = decided same_target target_decides

pub located_equiv : IsEquivalence same_located
located_equiv = decided same_located located_decides

pub file_equiv : IsEquivalence same_file
file_equiv = decided same_file file_decides

-- equal targets are the same, and so are equal files
pub same_targets : (x y : Target) → same_target x y ≡ true → x ≡ y
same_targets x y h = (target_decides x y).0 h

pub same_located_ones : (x y : Located) → same_located x y ≡ true → x ≡ y
same_located_ones x y h = (located_decides x y).0 h

pub same_files : (x y : List Located) → same_file x y ≡ true → x ≡ y
same_files x y h = (file_decides x y).0 h

-- a label as written names a target in every package
pub label_in : (home text : List ℕ) → IsSomeLabel text → (n : Name) × IsLabelIn home text n
label_in home text (n, inl l) = (n, inl l)
label_in home text (n, inr l) = (record { home = home; target = n.target }, inr (record { text_is = l.text_is; home_is = refl; target = l.target }))
