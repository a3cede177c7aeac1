-- The machine reads exactly the paths.
use Rattle.std.proofs.Common.{◌≡◌, ◌≢◌, ◌≤◌, ◌⊎◌, ◌∙◌, sym, ap, refl, subst, inl, inr, ℕ, Bool, true, false, cond, List, [], ◌∷◌, ◌++◌, length, append_assoc, append-nil, if◌then◌else◌, nat_eq, codes}
use Rattle.std.specs.List.{AllByRecursion}
use Rattle.buck_label.specs.declared.path.Segment.{Segment}
use Rattle.buck_label.specs.declared.path.Segment.TheVariants.{Empty, Dot, Dots, Good, Bad}
use Rattle.buck_label.specs.Paths.{is_segment_byte, IsSegmentByte, IsSegment, IsPathText, IsPath, joined}
use Rattle.buck_label.specs.Labels.{IsPackage}
use Rattle.buck_label.specs.Machine.{after, in_segment, dotted, path_from, Stands}
use borrow.Author.Tests.{eqb-true}
use Rattle.std.proofs.lemmas.Bool.{cases_Bool}

-- a chosen value is one of the two
pub chosen : {A : Type 0} {x y z : A} (b : Bool) → cond b x y ≡ z → ((b ≡ true) × (x ≡ z)) ⊎ ((b ≡ false) × (y ≡ z))
chosen true e = inl (refl, e)
chosen false e = inr (refl, e)

all_more : (xs : List ℕ) (x : ℕ) → AllByRecursion IsSegmentByte xs → IsSegmentByte x → AllByRecursion IsSegmentByte (xs ++ x ∷ [])
all_more [] x a p = (p, tt)
all_more (y ∷ ys) x a p = (a.0, all_more ys x a.1 p)

all_end : (xs : List ℕ) (x : ℕ) (ys : List ℕ) → AllByRecursion IsSegmentByte (xs ++ x ∷ ys) → IsSegmentByte x
all_end [] x ys a = a.0
all_end (y ∷ xs) x ys a = all_end xs x ys a.1

not_empty : {A : Type 0} (u : List A) (b : A) (v : List A) → u ++ b ∷ v ≡ [] → ⊥
not_empty [] b v e = cc
not_empty (x ∷ xs) b v e = cc

-- one byte more of a segment that has one byte or more and is no dot
longer : (u : List ℕ) (b : ℕ) → IsSegment u → IsSegmentByte b → IsSegment (u ++ b ∷ [])
longer [] b s p = absurd (s.some refl)
longer (c ∷ []) b s p = record {
  some = λ e. cc;
  each = all_more (c ∷ []) b s.each p;
  no_dot = λ e. cc;
  no_dots = λ e. let h : c ∷ [] ≡ 46 ∷ [] = cc in s.no_dot h;
}
longer (c ∷ d ∷ u) b s p = record {
  some = λ e. cc;
  each = all_more (c ∷ d ∷ u) b s.each p;
  no_dot = λ e. cc;
  no_dots = λ e. not_empty u b [] cc;
}

pub off : (b : ℕ) → nat_eq b 46 ≡ false → b ≡ 46 → ⊥
off b f e = let g : nat_eq 46 46 ≡ false = subst (λ (n : ℕ). nat_eq n 46 ≡ false) e f in cc

dot_or_good : (b : ℕ) → IsSegmentByte b → Stands (if nat_eq b 46 then Dot else Good) (b ∷ [])
dot_or_good b p = elim (cases_Bool (nat_eq b 46)) [
  | inl t ↦ rw t (ap (λ (n : ℕ). n ∷ []) (eqb-true b 46 t))
  | inr f ↦ rw f record {
    some = λ e. cc;
    each = (p, tt);
    no_dot = λ e. off b f cc;
    no_dots = λ e. cc;
  }
]

dots_or_good : (b : ℕ) → IsSegmentByte b → Stands (if nat_eq b 46 then Dots else Good) (46 ∷ b ∷ [])
dots_or_good b p = elim (cases_Bool (nat_eq b 46)) [
  | inl t ↦ rw t (ap (λ (n : ℕ). 46 ∷ n ∷ []) (eqb-true b 46 t))
  | inr f ↦ rw f record {
    some = λ e. cc;
    each = (refl, (p, tt));
    no_dot = λ e. cc;
    no_dots = λ e. off b f cc;
  }
]

three : (b : ℕ) → IsSegmentByte b → IsSegment (46 ∷ 46 ∷ b ∷ [])
three b p = record {
  some = λ e. cc;
  each = (refl, (refl, (p, tt)));
  no_dot = λ e. cc;
  no_dots = λ e. cc;
}

-- the state after one more byte of a segment
stands_more : (s : Segment) (u : List ℕ) (b : ℕ) → Stands s u → IsSegmentByte b → Stands (dotted s b) (u ++ b ∷ [])
stands_more Empty u b e p = subst (λ (u : List ℕ). Stands (dotted Empty b) (u ++ b ∷ [])) (sym e) (dot_or_good b p)
stands_more Dot u b e p = subst (λ (u : List ℕ). Stands (dotted Dot b) (u ++ b ∷ [])) (sym e) (dots_or_good b p)
stands_more Dots u b e p = subst (λ (u : List ℕ). Stands (dotted Dots b) (u ++ b ∷ [])) (sym e) (three b p)
stands_more Good u b s p = longer u b s p
stands_more Bad u b e p = absurd e

pub bad_stays : (bs : List ℕ) → path_from Bad bs ≡ Good → ⊥
bad_stays [] e = cc
bad_stays (b ∷ bs) e = bad_stays bs e

-- what the machine reads from here on, after what it has read of a segment
pub record Found (u bs : List ℕ) : Type 0 where
  pub first : List ℕ
  pub others : List (List ℕ)
  pub each : AllByRecursion IsSegment (first ∷ others)
  pub text_is : u ++ bs ≡ joined (first ∷ others)

slash : (u bs : List ℕ) → IsSegment u → Found [] bs → Found u (47 ∷ bs)
slash u bs s f = record {
  first = u;
  others = f.first ∷ f.others;
  each = (s, f.each);
  text_is = ap (λ (t : List ℕ). u ++ 47 ∷ t) f.text_is;
}

along : (u : List ℕ) (b : ℕ) (bs : List ℕ) → Found (u ++ b ∷ []) bs → Found u (b ∷ bs)
along u b bs f = record {
  first = f.first;
  others = f.others;
  each = f.each;
  text_is = sym (append_assoc u (b ∷ []) bs) ∙ f.text_is;
}

-- what is read is a path
stepped : (bs : List ℕ) (s : Segment) (u : List ℕ) (b : ℕ) → ((s : Segment) (u : List ℕ) → Stands s u → path_from s bs ≡ Good → Found u bs) → Stands s u → path_from (in_segment s b) bs ≡ Good → Found u (b ∷ bs)
stepped bs s u b again h e = elim (cases_Bool (is_segment_byte b)) [
  | inl t ↦ along u b bs (again (dotted s b) (u ++ b ∷ []) (stands_more s u b h t) (rw t at e))
  | inr f ↦ absurd (bad_stays bs (rw f at e))
]

found : (bs : List ℕ) (s : Segment) (u : List ℕ) → Stands s u → path_from s bs ≡ Good → Found u bs
found [] s u h e = record {
  first = u;
  others = [];
  each = (subst (λ (s : Segment). Stands s u) e h, tt);
  text_is = append-nil u;
}
found (b ∷ bs) Empty u h e = stepped bs Empty u b (found bs) h e
found (b ∷ bs) Dot u h e = stepped bs Dot u b (found bs) h e
found (b ∷ bs) Dots u h e = stepped bs Dots u b (found bs) h e
found (b ∷ bs) Bad u h e = absurd (bad_stays bs e)
found (b ∷ bs) Good u h e = elim (cases_Bool (nat_eq b 47)) [
  | inl t ↦ subst (λ (n : ℕ). Found u (n ∷ bs)) (sym (eqb-true b 47 t)) (slash u bs h (found bs Empty [] refl (rw t at e)))
  | inr f ↦ stepped bs Good u b (found bs) h (rw f at e)
]

-- one segment is a path
pub one_segment : (s : List ℕ) → IsSegment s → length s ≤ 255 → IsPath s
one_segment s h f =
    let t : IsPathText s = record { segments = s ∷ []; some = λ e. cc; each = (h, tt); text_is = refl } in
    record { text_is = t; fits = f }

pub no_slash : (c : ℕ) → IsSegmentByte c → nat_eq c 47 ≡ false
no_slash c p = elim (cases_Bool (nat_eq c 47)) [
  | inl t ↦ let h : is_segment_byte 47 ≡ true = subst IsSegmentByte (eqb-true c 47 t) p in cc
  | inr f ↦ f
]

after_plain : (s : Segment) (u : List ℕ) (c : ℕ) → Stands s u → IsSegmentByte c → after s c ≡ dotted s c
after_plain Empty u c h p = rw p refl
after_plain Dot u c h p = rw p refl
after_plain Dots u c h p = rw p refl
after_plain Good u c h p = let f : nat_eq c 47 ≡ false = no_slash c p in rw (f, p) refl
after_plain Bad u c h p = absurd h

-- the rest of a segment is read to its end
segment_read : (t : List ℕ) (s : Segment) (u rest : List ℕ) → Stands s u → IsSegment (u ++ t) → path_from s (t ++ rest) ≡ path_from Good rest
segment_read [] Empty u rest h g = absurd (g.some (append-nil u ∙ h))
segment_read [] Dot u rest h g = absurd (g.no_dot (append-nil u ∙ h))
segment_read [] Dots u rest h g = absurd (g.no_dots (append-nil u ∙ h))
segment_read [] Good u rest h g = refl
segment_read [] Bad u rest h g = absurd h
segment_read (c ∷ t) s u rest h g =
    let p : IsSegmentByte c = all_end u c t g.each in
    let more : IsSegment ((u ++ c ∷ []) ++ t) = subst IsSegment (sym (append_assoc u (c ∷ []) t)) g in
    ap (λ (s : Segment). path_from s (t ++ rest)) (after_plain s u c h p) ∙ segment_read t (dotted s c) (u ++ c ∷ []) rest (stands_more s u c h p) more

all_read : (ss : List (List ℕ)) → ss ≢ [] → AllByRecursion IsSegment ss → path_from Empty (joined ss) ≡ Good
all_read [] some each = absurd (some refl)
all_read (s ∷ []) some each = rw (sym (append-nil s)) (segment_read s Empty [] [] refl each.0)
all_read (s ∷ t ∷ ss) some each = segment_read s Empty [] (47 ∷ joined (t ∷ ss)) refl each.0 ∙ all_read (t ∷ ss) (λ e. cc) each.1

pub path_is : (bs : List ℕ) → path_from Empty bs ≡ Good → IsPathText bs
path_is bs e = let f = found bs Empty [] refl e in record {
  segments = f.first ∷ f.others;
  some = λ e. cc;
  each = f.each;
  text_is = f.text_is;
}

pub path_read : (bs : List ℕ) → IsPathText bs → path_from Empty bs ≡ Good
path_read bs p = ap (path_from Empty) p.text_is ∙ all_read p.segments p.some p.each

path_along : (u v : List ℕ) (s : Segment) → path_from s (u ++ v) ≡ path_from (path_from s u) v
path_along [] v s = refl
path_along (b ∷ u) v s = path_along u v (after s b)

-- a path named in a package that is not the root is a path
pub joined_path : (home path : List ℕ) → IsPackage home → (home ≡ [] → ⊥) → IsPathText path → IsPathText (home ++ 47 ∷ path)
joined_path home path (inl e) some p = absurd (some e)
joined_path home path (inr h) some p =
    path_is _ (path_along home (47 ∷ path) Empty ∙ ap (λ (s : Segment). path_from s (47 ∷ path)) (path_read home h.text_is) ∙ path_read path p)

pub buck_path : IsPathText (codes "BUCK")
buck_path = path_is _ refl
