-- Labels in full.
use Rattle.std.proofs.Common.{◌≡◌, ◌⊎◌, inl, inr, ℕ, ◌+◌, Bool, true, false, nat_eq, if◌then◌else◌, List, [], ◌∷◌, ◌++◌, length, take, drop, refl, sym, ap, ◌∙◌, arith, length-append}
use Rattle.std.specs.Cmp.{unsigned_Decides}
use Rattle.std.proofs.Math.Seq.{take-append_seam}
use Rattle.buck_label.specs.Labels.{Name, IsLabelIn, NoColon, printed, before_colon, last_from, package_of}
use Rattle.buck_label.proofs.LabelLemmas.{before_at, before_none, front_no_colon, package_no_colon, path_no_colon, last_one}
use Rattle.action_digest.specs.Written.{in_full, full_label}
use Rattle.std.proofs.lemmas.Bool.{cases_Bool}

unequal : (a b : ℕ) → (a ≡ b → ⊥) → nat_eq a b ≡ false
unequal a b h = elim (cases_Bool (nat_eq a b)) [ inl t ↦ absurd (h ((unsigned_Decides a b).0 t)) | inr f ↦ f ]

long_full : (home u t : List ℕ) → NoColon u → full_label home (47 ∷ 47 ∷ (u ++ 58 ∷ t)) ≡ 47 ∷ 47 ∷ (u ++ 58 ∷ t)
long_full home u t h =
    let text = 47 ∷ 47 ∷ (u ++ 58 ∷ t) in
    let e : before_colon (u ++ 58 ∷ t) ≡ length u = before_at u t h in
    let l : length (u ++ 58 ∷ t) ≡ length u + length (58 ∷ t) = length-append u (58 ∷ t) in
    let f : nat_eq (before_colon text) (length text) ≡ false = unequal (before_colon text) (length text) (λ g. let d : before_colon (u ++ 58 ∷ t) + 1 + 1 ≡ length (47 ∷ 47 ∷ (u ++ 58 ∷ t)) = g in absurd (omega arith)) in
    ap (λ (b : Bool). if b then text ++ 58 ∷ last_from (drop 2 text) (drop 2 text) else text) f

short_full : (home u t : List ℕ) → NoColon u → last_from u u ≡ t → full_label home (47 ∷ 47 ∷ u) ≡ 47 ∷ 47 ∷ (u ++ 58 ∷ t)
short_full home u t h k =
    let text = 47 ∷ 47 ∷ u in
    let e : before_colon u ≡ length u = before_none u h in
    let d : before_colon text ≡ length text = (let c : before_colon u + 1 + 1 ≡ length (47 ∷ 47 ∷ u) = omega arith in c) in
    let f : nat_eq (before_colon text) (length text) ≡ true = (unsigned_Decides (before_colon text) (length text)).1 d in
    ap (λ (b : Bool). if b then text ++ 58 ∷ last_from (drop 2 text) (drop 2 text) else text) f ∙ ap (λ (w : List ℕ). 47 ∷ 47 ∷ (u ++ 58 ∷ w)) k

-- a label as written is in full the one that it names
pub full_is : (home text : List ℕ) (n : Name) → IsLabelIn home text n → full_label home text ≡ printed n
full_is home text n (inl (inl l)) = ap (full_label home) l.text_is ∙ long_full home n.home n.target (package_no_colon n.home l.name.home)
full_is home text n (inl (inr s)) = ap (full_label home) s.text_is ∙ short_full home n.home n.target (path_no_colon n.home s.home) (last_one n.home n.target s.last)
full_is home text n (inr l) = ap (full_label home) l.text_is ∙ ap (λ (h : List ℕ). printed (record { home = h; target = n.target })) (sym l.home_is)

pub named_full : (home text l : List ℕ) → ((n : Name) × IsLabelIn home text n × (l ≡ printed n)) → l ≡ full_label home text
named_full home text l h = h.2 ∙ sym (full_is home text h.0 h.1)

-- the package of a label in full: its own if the label is local, otherwise the same in each package
home_is : (home t : List ℕ) → NoColon home → package_of (printed (record { home = home; target = t })) ≡ home
home_is home t h = ap (λ (k : ℕ). take k (home ++ 58 ∷ t)) (before_at home t h) ∙ take-append_seam home (58 ∷ t)

pub package_stays : (home text : List ℕ) → NoColon home → (package_of (full_label home text) ≡ home) ⊎ (package_of (full_label home text) ≡ package_of (full_label [] text))
package_stays home [] h = inr refl
package_stays home (b ∷ text) h = elim (cases_Bool (nat_eq b 58)) as (λ _. (package_of (full_label home (b ∷ text)) ≡ home) ⊎ (package_of (full_label home (b ∷ text)) ≡ package_of (full_label [] (b ∷ text)))) [
  | inl t ↦ inl (ap (λ (c : Bool). package_of (if c then printed (record { home = home; target = text }) else in_full (b ∷ text))) t ∙ home_is home text h)
  | inr f ↦ inr (ap (λ (c : Bool). package_of (if c then printed (record { home = home; target = text }) else in_full (b ∷ text))) f ∙ sym (ap (λ (c : Bool). package_of (if c then printed (record { home = []; target = text }) else in_full (b ∷ text))) f))
]

pub package_plain : (text : List ℕ) → NoColon (package_of text)
package_plain text = front_no_colon (drop 2 text)
