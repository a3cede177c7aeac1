-- The paths and labels of the script are paths and labels.
use Rattle.std.proofs.Common.{◌≡◌, ◌≤◌, sym, refl, subst, inl, inr, ℕ, ◌/◌, true, false, nat_eq, List, [], ◌∷◌, ◌++◌, length, codes, length-append, arith}
use Rattle.std.specs.Prelude.{decimal}
use Rattle.std.specs.List.{AllByRecursion}
use Rattle.std.proofs.lemmas.List.{append_cancel_left, append_cancel_right}
use Rattle.buck_label.specs.Paths.{is_segment_byte, IsSegmentByte, IsSegment, joined, IsPathText, IsPath}
use Rattle.buck_label.specs.Labels.{IsName as IsTarget, IsLong, IsLabel, printed}
use Rattle.bulk_script.specs.Bulk.{name_of, source_path, package_path}
use Rattle.bulk_script.proofs.Words.{IsSolid, solid_all, all_append}
use Rattle.bulk_script.proofs.Decimals.{few_digits, decimal_segment, decimals_differ}
use Rattle.buck_label.proofs.PathLemmas.{off, one_segment}

-- a segment that begins with no dot
pub segment_from : (c : ℕ) (bs : List ℕ) → is_segment_byte c ≡ true → nat_eq c 46 ≡ false → AllByRecursion IsSegmentByte bs → IsSegment (c ∷ bs)
segment_from c bs h f a = record {
  some = λ e. cc;
  each = (h, a);
  no_dot = λ e. off c f cc;
  no_dots = λ e. off c f cc;
}

pub two_segments : (s t : List ℕ) → IsSegment s → IsSegment t → length (s ++ 47 ∷ t) ≤ 255 → IsPath (s ++ 47 ∷ t)
two_segments s t h k f =
    let x : IsPathText (s ++ 47 ∷ t) = record { segments = s ∷ t ∷ []; some = λ e. cc; each = (h, (k, tt)); text_is = refl } in
    record { text_is = x; fits = f }

src_segment : IsSegment (codes "src")
src_segment = segment_from 115 (codes "rc") refl refl (refl, (refl, tt))

buck_segment : IsSegment (codes "BUCK")
buck_segment = segment_from 66 (codes "UCK") refl refl (refl, (refl, (refl, tt)))

numbered : (c n : ℕ) → is_segment_byte c ≡ true → nat_eq c 46 ≡ false → n ≤ 10000 → IsSegment (c ∷ decimal n)
numbered c n h f k = segment_from c (decimal n) h f (decimal_segment n k)

pub numbered_path : (c n : ℕ) → is_segment_byte c ≡ true → nat_eq c 46 ≡ false → n ≤ 10000 → IsPath (c ∷ decimal n)
numbered_path c n h f k = let d = few_digits n k in one_segment (c ∷ decimal n) (numbered c n h f k) (omega arith)

pub sources_file : IsPath (codes "src/BUCK")
sources_file = two_segments (codes "src") (codes "BUCK") src_segment buck_segment (omega arith)

pub first_source : IsPath (codes "src/s0")
first_source = two_segments (codes "src") (codes "s0") src_segment (segment_from 115 (codes "0") refl refl (refl, tt)) (omega arith)

pub source_is_path : (j : ℕ) → j ≤ 10000 → IsPath (source_path j)
source_is_path j h =
    let d = few_digits j h in
    two_segments (codes "src") (115 ∷ decimal j) src_segment (numbered 115 j refl refl h) (omega arith)

pub package_is_path : (g : ℕ) → g ≤ 10000 → IsPath (package_path g)
package_is_path g h =
    let d = few_digits g h in
    let e = length-append (112 ∷ decimal g) (codes "/BUCK") in
    two_segments (112 ∷ decimal g) (codes "BUCK") (numbered 112 g refl refl h) buck_segment (omega arith)

pub one_source : (i j : ℕ) → i ≤ 10000 → j ≤ 10000 → source_path i ≡ source_path j → i ≡ j
one_source i j h k e = decimals_differ i j h k (append_cancel_left (codes "src/s") (decimal i) (decimal j) e)

pub one_package : (i j : ℕ) → i ≤ 10000 → j ≤ 10000 → package_path i ≡ package_path j → i ≡ j
one_package i j h k e =
    let f : codes "p" ++ decimal i ≡ codes "p" ++ decimal j = append_cancel_right (codes "p" ++ decimal i) (codes "p" ++ decimal j) (codes "/BUCK") e in
    decimals_differ i j h k (append_cancel_left (codes "p") (decimal i) (decimal j) f)

-- ---- no path has a space or an LF

segments_solid : (ss : List (List ℕ)) → AllByRecursion IsSegment ss → IsSolid (joined ss)
segments_solid [] a = tt
segments_solid (s ∷ []) a = solid_all is_segment_byte refl refl s a.0.each
segments_solid (s ∷ t ∷ ss) a =
    let h : IsSolid (47 ∷ joined (t ∷ ss)) = (refl, segments_solid (t ∷ ss) a.1) in
    all_append _ s (47 ∷ joined (t ∷ ss)) (solid_all is_segment_byte refl refl s a.0.each) h

pub path_solid : (path : List ℕ) → IsPath path → IsSolid path
path_solid path h = subst (λ (bs : List ℕ). IsSolid bs) (sym h.text_is.text_is) (segments_solid h.text_is.segments h.text_is.each)

pub label_solid : (home target : List ℕ) → IsPath home → IsPath target → IsSolid (47 ∷ 47 ∷ (home ++ 58 ∷ target))
label_solid home target h k =
    let t : IsSolid (58 ∷ target) = (refl, path_solid target k) in
    (refl, (refl, all_append _ home (58 ∷ target) (path_solid home h) t))

-- ---- the target of a number

pub home_is_path : (i : ℕ) → i ≤ 10000 → IsPath (name_of i).home
home_is_path i h = numbered_path 112 (i / 100) refl refl (omega arith)

pub target_is_path : (i : ℕ) → i ≤ 10000 → IsPath (name_of i).target
target_is_path i h = numbered_path 116 i refl refl h

pub label_is : (i : ℕ) → i ≤ 10000 → IsLabel (printed (name_of i)) (name_of i)
label_is i h =
    let n : IsTarget (name_of i) = record { home = inr (home_is_path i h); target = target_is_path i h } in
    let l : IsLong (printed (name_of i)) (name_of i) = record { text_is = refl; name = n } in
    inl l
