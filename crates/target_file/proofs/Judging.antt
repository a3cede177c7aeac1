-- Whether a text is a label, a source or a command.
use Rattle.std.proofs.Common.{◌≡◌, ◌⊎◌, ◌≤◌, ◌∙◌, sym, ap, refl, subst, inl, inr, ℕ, suc, Bool, true, false, not, if◌then◌else◌, ◌&&◌, ◌||◌, nat_eq, nat_lt, List, [], ◌∷◌, ◌++◌, length, take, drop, arith}
use Rattle.std.specs.List.{list_all, AllByRecursion, starts_with}
use Rattle.std.specs.Str.{bytes_eq}
use borrow.Author.Tests.{ltb-true, ltb-false}
use Rattle.std.proofs.lemmas.Bool.{eqb-true, cases_Bool}
use Rattle.buck_label.specs.Paths.{IsPath}
use Rattle.buck_label.specs.Labels.{Name, IsPackage, IsLabel, IsSomeLabel, NoColon, before_colon}
use Rattle.buck_label.proofs.LabelLemmas.{at_colon, front_no_colon, none_no_colon, long_some, long_none, short_some, short_only, local_some, local_none, label_short}
use Rattle.target_file.specs.Strings.{source_is, is_label_like, IsSource, IsLocated, IsCommand, opener, before_close, locations}
use Rattle.target_file.specs.Contents.{is_path, is_absolute, is_slashed, is_some_label, is_source, has_close, is_located, is_command}
use Rattle.target_file.proofs.Locations.{NoClose}
use Rattle.target_file.proofs.Saying.{Says, both_say, bytes_say, path_says}

pub alike_say : (b : Bool) (P Q : Type 0) → (P → Q) → (Q → P) → Says b P → Says b Q
alike_say true P Q f g s = f s
alike_say false P Q f g s = λ q. s (g q)

either_say : (a b : Bool) (P Q : Type 0) → Says a P → Says b Q → Says (a || b) (P ⊎ Q)
either_say true b P Q p q = inl p
either_say false true P Q p q = inr q
either_say false false P Q p q = λ h. elim h [ inl k ↦ p k | inr k ↦ q k ]

implied_says : (a b : Bool) (P : Type 0) → Says b P → Says (not a || b) (a ≡ true → P)
implied_says true true P p = λ e. p
implied_says true false P p = λ f. p (f refl)
implied_says false b P p = λ e. cc

-- an absolute label, after its two slashes
package_says : (h : List ℕ) → Says (bytes_eq h [] || is_path h) (IsPackage h)
package_says h = either_say (bytes_eq h []) (is_path h) (h ≡ []) (IsPath h) (bytes_say h []) (path_says h)

colon_fits : (bs : List ℕ) → before_colon bs ≤ length bs
colon_fits [] = omega arith
colon_fits (b ∷ bs) = elim (cases_Bool (nat_eq b 58)) [
  | inl t ↦ rw t (omega arith)
  | inr f ↦ let h = colon_fits bs in rw f (omega arith)
]

abbrev Absolute : List ℕ → Type 0
Absolute x = (n : Name) × IsLabel (47 ∷ 47 ∷ x) n

long_says : (h t x : List ℕ) → x ≡ h ++ 58 ∷ t → NoColon h → Says ((bytes_eq h [] || is_path h) && is_path t) (Absolute x)
long_says h t x e n =
    alike_say ((bytes_eq h [] || is_path h) && is_path t) (IsPackage h × IsPath t) (Absolute x)
    (λ p. subst Absolute (sym e) (long_some h t n p.0 p.1)) (λ l. let k = subst Absolute e l in long_none h t n k.0 k.1)
    (both_say (bytes_eq h [] || is_path h) (is_path t) (IsPackage h) (IsPath t) (package_says h) (path_says t))

short_says : (x : List ℕ) → NoColon x → Says (is_path x) (Absolute x)
short_says x n = alike_say (is_path x) (IsPath x) (Absolute x) (λ p. short_some x p) (λ l. (short_only x l.0 n l.1).1) (path_says x)

absolute_says : (x : List ℕ) → Says (is_absolute x) (Absolute x)
absolute_says x = elim (cases_Bool (nat_lt (before_colon x) (length x))) [
  | inl t ↦ rw t (long_says (take (before_colon x) x) (drop (suc (before_colon x)) x) x (at_colon x (ltb-true _ _ t)) (front_no_colon x))
  | inr f ↦ let g : length x ≤ before_colon x = ltb-false _ _ f in let h = colon_fits x in rw f (short_says x (none_no_colon x (omega arith)))
]

two_slashes : (text : List ℕ) (n : Name) → IsLabel text n → (rest : List ℕ) × (text ≡ 47 ∷ 47 ∷ rest)
two_slashes text n (inl l) = (_, l.text_is)
two_slashes text n (inr s) = (_, s.text_is)

-- a label that does not begin with a colon is absolute
absolute_only : (b : ℕ) (x : List ℕ) → nat_eq b 58 ≡ false → IsSomeLabel (b ∷ x) → (n : Name) × IsLabel (b ∷ x) n
absolute_only b x f (n, inl l) = (n, l)
absolute_only b x f (n, inr l) =
    let h : b ≡ 58 = let e = l.text_is in cc in let k : nat_eq 58 58 ≡ false = subst (λ (c : ℕ). nat_eq c 58 ≡ false) h f in cc

local_says : (x : List ℕ) → Says (is_path x) (IsSomeLabel (58 ∷ x))
local_says x = alike_say (is_path x) (IsPath x) (IsSomeLabel (58 ∷ x)) (λ p. local_some x p) (λ l. local_none x l.0 l.1) (path_says x)

empty_no_label : IsSomeLabel [] → ⊥
empty_no_label (n, inl l) = let r = two_slashes [] n l in let e = r.1 in cc
empty_no_label (n, inr l) = let e = l.text_is in cc

-- the same, when the second byte is tested
slashed_says : (x : List ℕ) → Says (is_slashed x) ((n : Name) × IsLabel (47 ∷ x) n)
slashed_says [] = λ l. let r = two_slashes (47 ∷ []) l.0 l.1 in let e = r.1 in cc
slashed_says (b ∷ x) = elim (cases_Bool (nat_eq b 47)) [
  | inl t ↦ let e : 47 ≡ b = sym (eqb-true b 47 t) in rw t (subst (λ (c : ℕ). Says (is_absolute x) ((n : Name) × IsLabel (47 ∷ c ∷ x) n)) e (absolute_says x))
  | inr f ↦ rw f (λ l. let r = two_slashes (47 ∷ b ∷ x) l.0 l.1 in let e : b ≡ 47 = let i = r.1 in cc in let k : nat_eq 47 47 ≡ false = subst (λ (c : ℕ). nat_eq c 47 ≡ false) e f in cc)
]

other_says : (b : ℕ) (x : List ℕ) → nat_eq b 58 ≡ false → Says (nat_eq b 47 && is_slashed x) (IsSomeLabel (b ∷ x))
other_says b x g = elim (cases_Bool (nat_eq b 47)) [
  | inl t ↦
      let e : 47 ≡ b = sym (eqb-true b 47 t) in
      let s : Says (is_slashed x) ((n : Name) × IsLabel (b ∷ x) n) = subst (λ (c : ℕ). Says (is_slashed x) ((n : Name) × IsLabel (c ∷ x) n)) e (slashed_says x) in
      rw t (alike_say (is_slashed x) ((n : Name) × IsLabel (b ∷ x) n) (IsSomeLabel (b ∷ x)) (λ l. (l.0, inl l.1)) (absolute_only b x g) s)
  | inr f ↦
      rw f (λ l.
      let a = absolute_only b x g l in
      let r = two_slashes (b ∷ x) a.0 a.1 in
      let e : b ≡ 47 = let i = r.1 in cc in
      let k : nat_eq 47 47 ≡ false = subst (λ (c : ℕ). nat_eq c 47 ≡ false) e f in cc)
]

pub label_says : (x : List ℕ) → Says (is_some_label x) (IsSomeLabel x)
label_says [] = empty_no_label
label_says (b ∷ x) = elim (cases_Bool (nat_eq b 58)) [
  | inl t ↦ let e : 58 ≡ b = sym (eqb-true b 58 t) in rw t (subst (λ (c : ℕ). Says (is_path x) (IsSomeLabel (c ∷ x))) e (local_says x))
  | inr f ↦ rw f (other_says b x f)
]

source_by : (b : Bool) (x : List ℕ) → Says (if b then is_some_label x else is_path x) (source_is b x)
source_by true x = label_says x
source_by false x = path_says x

pub source_says : (x : List ℕ) → Says (is_source x) (IsSource x)
source_says x = source_by (is_label_like x) x

pub sources_say : (xs : List (List ℕ)) → Says (list_all is_source xs) (AllByRecursion IsSource xs)
sources_say [] = tt
sources_say (x ∷ xs) = both_say (is_source x) (list_all is_source xs) (IsSource x) (AllByRecursion IsSource xs) (source_says x) (sources_say xs)

-- a label in front of a closing parenthesis
abbrev Closed : List ℕ → Type 0
Closed x = (rest : List ℕ) × (x ≡ before_close x ++ 41 ∷ rest)

close_says : (x : List ℕ) → Says (has_close x) (Closed x)
close_says [] = λ h. let e = h.1 in cc
close_says (b ∷ x) = elim (cases_Bool (nat_eq b 41)) [
  | inl t ↦ let e : b ≡ 41 = eqb-true b 41 t in rw t (x, ap (λ (c : ℕ). c ∷ x) e)
  | inr f ↦
      rw f (alike_say (has_close x) (Closed x) ((rest : List ℕ) × (b ∷ x ≡ (b ∷ before_close x) ++ 41 ∷ rest)) (λ h. (h.0, ap (λ (r : List ℕ). b ∷ r) h.1)) (λ h. (h.0, (let e = h.1 in cc))) (close_says x))
]

pub before_is : (p s : List ℕ) → NoClose p → before_close (p ++ 41 ∷ s) ≡ p
before_is [] s n = refl
before_is (b ∷ p) s n = elim (cases_Bool (nat_eq b 41)) [
  | inl t ↦ absurd (n.0 (eqb-true b 41 t))
  | inr f ↦ rw f (ap (λ (r : List ℕ). b ∷ r) (before_is p s n.1))
]

located_label : (x : List ℕ) (l : IsLocated x) → before_close x ≡ l.label
located_label x l = ap before_close l.text_is ∙ before_is l.label l.rest (label_short l.label l.is_label.0 l.is_label.1).1

pub located_says : (x : List ℕ) → Says (is_located x) (IsLocated x)
located_says x =
    alike_say (is_located x) (Closed x × IsSomeLabel (before_close x)) (IsLocated x)
    (λ h. record { label = before_close x; rest = h.0.0; text_is = h.0.1; is_label = h.1 })
    (λ l. let e = located_label x l in ((l.rest, l.text_is ∙ ap (λ (r : List ℕ). r ++ 41 ∷ l.rest) (sym e)), subst IsSomeLabel (sym e) l.is_label))
    (both_say (has_close x) (is_some_label (before_close x)) (Closed x) (IsSomeLabel (before_close x)) (close_says x) (label_says (before_close x)))

pub command_says : (x : List ℕ) → Says (is_command x) (IsCommand x)
command_says [] = tt
command_says (b ∷ x) =
    both_say (not (starts_with nat_eq (b ∷ x) opener) || is_located (drop 10 x)) (is_command x) (starts_with nat_eq (b ∷ x) opener ≡ true → IsLocated (drop 10 x)) (IsCommand x)
    (implied_says (starts_with nat_eq (b ∷ x) opener) (is_located (drop 10 x)) (IsLocated (drop 10 x)) (located_says (drop 10 x))) (command_says x)

-- what a command names are labels
pub located_is : (x : List ℕ) → IsLocated x → IsSomeLabel (before_close x)
located_is x l = subst IsSomeLabel (sym (located_label x l)) l.is_label

labels_more : (b : Bool) (x : List ℕ) (ls : List (List ℕ)) → (b ≡ true → IsLocated x) → AllByRecursion IsSomeLabel ls → AllByRecursion IsSomeLabel ((if b then before_close x ∷ [] else []) ++ ls)
labels_more true x ls h k = (located_is x (h refl), k)
labels_more false x ls h k = k

pub locations_are_labels : (x : List ℕ) → IsCommand x → AllByRecursion IsSomeLabel (locations x)
locations_are_labels [] h = tt
locations_are_labels (b ∷ x) h = labels_more (starts_with nat_eq (b ∷ x) opener) (drop 10 x) (locations x) h.0 (locations_are_labels x h.1)
