-- How long the script is.
use Rattle.std.proofs.Common.{◌≡◌, ◌∙◌, ◌<◌, ◌≤◌, ap, refl, inl, inr, ℕ, zero, suc, ◌+◌, ◌-◌, ◌*◌, ◌/◌, ◌%◌, ◌==◌, min, Bool, true, false, cond, codes, List, [], ◌∷◌, ◌++◌, length, map, flat_map, length-append, arith}
use Rattle.std.specs.Prelude.{decimal}
use Rattle.std.proofs.lemmas.List.{length_push}
use Rattle.std.proofs.lemmas.Bool.{cases_lt}
use Rattle.std.proofs.lemmas.List.FromFn.{length-range_with_len}
use Rattle.std.proofs.lemmas.Fmt.{length-decimal-le}
use Rattle.script.specs.declared.line.Line.{Line}
use Rattle.script.specs.declared.line.Line.TheVariants.{Put}
use Rattle.bulk_script.specs.Spelled.{spelled, text_of}
use Rattle.bulk_script.specs.Bulk.{numbers_below, targets_in, label_of, export_line, first_line, group_line, target_line, ask_in}
use Rattle.bulk_script.proofs.Numbers.{targets_none, targets_more, targets_past}
use Rattle.bulk_script.proofs.Decimals.{few_digits}
use Rattle.bulk_script.proofs.Blocks.{Ascends}

-- many short texts
pub texts_length : (f : ℕ → List ℕ) (k limit a : ℕ) (xs : List ℕ) → Ascends limit a xs → ((i : ℕ) → i < limit → length (f i) ≤ k) → length (flat_map f xs) ≤ length xs * k
texts_length f k limit a [] u h = omega arith
texts_length f k limit a (x ∷ xs) u h =
    let l : x < limit = u.1 in
    let r = texts_length f k limit (x + 1) xs u.2 h in
    let s = h x l in
    let e = length-append (f x) (flat_map f xs) in
    let m : suc (length xs) * k ≡ length xs * k + k = omega arith in
    omega arith

pub lines_length : (F : ℕ → Line) (k limit a : ℕ) (xs : List ℕ) → Ascends limit a xs → ((i : ℕ) → i < limit → length (spelled (F i)) ≤ k) → length (text_of (map F xs)) ≤ length xs * k
unfolding text_of
lines_length F k limit a [] u h = omega arith
lines_length F k limit a (x ∷ xs) u h =
    let l : x < limit = u.1 in
    let r = lines_length F k limit (x + 1) xs u.2 h in
    let s = h x l in
    let e = length-append (spelled (F x)) (flat_map spelled (map F xs)) in
    let m : suc (length xs) * k ≡ length xs * k + k = omega arith in
    omega arith

pub below_length : (n : ℕ) → length (numbers_below n) ≡ n
unfolding numbers_below
below_length n = length-range_with_len 0 n

-- ---- the target files

pub export_length : (j : ℕ) → j ≤ 10000 → length (export_line j) ≤ 40
export_length j h =
    let d = few_digits j h in
    let e = length-append (decimal j) (codes "\")\n") in
    omega arith

label_length : (i : ℕ) → i ≤ 10000 → length (label_of i) ≤ 20
label_length i h =
    let a = few_digits (i / 100) (omega arith) in
    let b = few_digits i h in
    let e = length-append (decimal (i / 100)) (58 ∷ 116 ∷ decimal i) in
    omega arith

pub piece : (a b : List ℕ) (m n : ℕ) → length a ≤ m → length b ≤ n → length (a ++ b) ≤ m + n
piece a b m n h k = let e = length-append a b in omega arith

group_length : (i : ℕ) → i ≤ 10000 → length (group_line i) ≤ 150
group_length i h =
    let p = codes "filegroup(name = \"t" in
    let q = codes "\", srcs = [\"//src:s" in
    let r = codes "\", \"" in
    let s = codes "\"])\n" in
    let x = label_of (i / 2) in
    let y = label_of (i / 3) in
    let d = decimal i in
    let m = decimal (i % 16) in
    let x2 = piece p d 30 5 (omega arith) (few_digits i h) in
    let x3 = piece (p ++ d) q 35 30 x2 (omega arith) in
    let x4 = piece (p ++ d ++ q) m 65 5 x3 (few_digits (i % 16) (omega arith)) in
    let x5 = piece (p ++ d ++ q ++ m) r 70 5 x4 (omega arith) in
    let x6 = piece (p ++ d ++ q ++ m ++ r) x 75 20 x5 (label_length (i / 2) (omega arith)) in
    let x7 = piece (p ++ d ++ q ++ m ++ r ++ x) r 95 5 x6 (omega arith) in
    let x8 = piece (p ++ d ++ q ++ m ++ r ++ x ++ r) y 100 20 x7 (label_length (i / 3) (omega arith)) in
    let x9 = piece (p ++ d ++ q ++ m ++ r ++ x ++ r ++ y) s 120 5 x8 (omega arith) in
    let o : length (group_line i) ≤ 125 = x9 in
    omega arith

first_or_group : (b : Bool) (xs ys : List ℕ) (k : ℕ) → length xs ≤ k → length ys ≤ k → length (cond b xs ys) ≤ k
first_or_group true xs ys k h l = h
first_or_group false xs ys k h l = l

pub target_length : (i : ℕ) → i ≤ 10000 → length (target_line i) ≤ 150
target_length i h = first_or_group (i == 0) first_line (group_line i) 150 (omega arith) (group_length i h)

pub targets_few : (g m : ℕ) → length (targets_in m g) ≤ min 100 (m - 100 * g)
targets_few g zero = let e : length (targets_in 0 g) ≡ 0 = ap length (targets_none g 0 (omega arith)) in omega arith
targets_few g (suc m) =
    let r = targets_few g m in
    let s : suc m ≡ m + 1 = omega arith in
    elim (cases_lt m (100 * g)) [
      | inl h ↦ let e : length (targets_in (suc m) g) ≡ 0 = ap length (targets_none g (suc m) (omega arith)) in omega arith
      | inr h ↦ elim (cases_lt m (100 * g + 100)) [
        | inl k ↦ let e : length (targets_in (suc m) g) ≡ length (targets_in m g) + 1 =
            ap (λ (n : ℕ). length (targets_in n g)) s ∙ ap length (targets_more g m h k) ∙ length_push (targets_in m g) m in omega arith
        | inr k ↦ let e : length (targets_in (suc m) g) ≡ length (targets_in m g) = ap (λ (n : ℕ). length (targets_in n g)) s ∙ ap length (targets_past g m 1 k) in omega arith
      ]
    ]

-- ---- the lines

seven_digits : (n : ℕ) → n ≤ 4194304 → length (decimal n) ≤ 7
seven_digits n h = length-decimal-le 7 n (omega arith) (omega arith) (omega arith)

pub put_length : (path bytes : List ℕ) → length path ≤ 30 → length bytes ≤ 4194304 → length (spelled (Put path bytes)) ≤ length bytes + 50
put_length path bytes h k =
    let d = decimal (length bytes) in
    let s = seven_digits (length bytes) k in
    let front = codes "put " ++ (path ++ 32 ∷ (d ++ 10 ∷ [])) in
    let e1 = length-append d (10 ∷ []) in
    let e2 = length-append path (32 ∷ (d ++ 10 ∷ [])) in
    let e3 = length-append front bytes in
    let e4 = length-append (front ++ bytes) (10 ∷ []) in
    let o : length (spelled (Put path bytes)) ≡ length front + length bytes + 1 = e4 ∙ ap (λ (n : ℕ). n + 1) e3 in
    let f : length front ≡ 4 + length (path ++ 32 ∷ (d ++ 10 ∷ [])) = omega arith in
    omega arith

pub ask_length : (c i : ℕ) → i ≤ 10000 → length (spelled (ask_in (c ∷ []) i)) ≤ 50
ask_length c i h =
    let d = decimal i in
    let a = few_digits i h in
    let l = label_length i h in
    let e1 = length-append (label_of i) (10 ∷ []) in
    let e2 = length-append d (32 ∷ (label_of i ++ 10 ∷ [])) in
    let f1 : length (32 ∷ (label_of i ++ 10 ∷ [])) ≡ suc (length (label_of i ++ 10 ∷ [])) = refl in
    let o : length (spelled (ask_in (c ∷ []) i)) ≡ 7 + length (d ++ 32 ∷ (label_of i ++ 10 ∷ [])) = omega arith in
    omega arith
