-- Numbers in decimal are numbers, names and parts of paths.
use Rattle.std.proofs.Common.{◌≡◌, ◌≢◌, ◌<◌, ◌≤◌, refl, ℕ, ◌+◌, ◌-◌, ◌*◌, ◌/◌, ◌%◌, ◌^◌, true, List, [], ◌∷◌, ◌++◌, length, arith}
use Rattle.std.specs.Prelude.{decimal}
use Rattle.std.specs.List.{AllByRecursion}
use Rattle.std.proofs.lemmas.Fmt.{decimal_by_steps, length-decimal-le, decimal_injective}
use Rattle.std.proofs.lemmas.Bool.Decides.{nat_tests}
use Rattle.script.specs.Lines.{value_from, is_digit, AreDigits, IsPlain, IsDecimal, is_name_byte, AreNameBytes, IsName}
use Rattle.buck_label.specs.Paths.{is_segment_byte, IsSegmentByte}
use Rattle.bulk_script.proofs.Words.{IsSolid, solid_all, all_append}

abbrev pub StartsPlain : List ℕ → Type 0
StartsPlain [] = ⊥
StartsPlain (d ∷ ds) = d ≢ 48

-- these digits write this number
pub record Writes (n : ℕ) (ds : List ℕ) : Type 0 where
  pub plain : IsPlain ds
  pub each : AreDigits ds
  pub number : n ≡ value_from 0 ds
  pub starts : 1 ≤ n → StartsPlain ds

plain_push : (ds : List ℕ) (d : ℕ) → StartsPlain ds → IsPlain (ds ++ d ∷ [])
plain_push [] d h = absurd h
plain_push (e ∷ []) d h = h
plain_push (e ∷ f ∷ ds) d h = h

starts_push : (ds : List ℕ) (d : ℕ) → StartsPlain ds → StartsPlain (ds ++ d ∷ [])
starts_push [] d h = absurd h
starts_push (e ∷ ds) d h = h

value_push : (v : ℕ) (ds : List ℕ) (d : ℕ) → value_from v (ds ++ d ∷ []) ≡ 10 * value_from v ds + (d - 48)
value_push v [] d = refl
value_push v (e ∷ ds) d = value_push (10 * v + (e - 48)) ds d

digit_of : (n : ℕ) → n < 10 → is_digit (48 + n) ≡ true
digit_of n h = grind (arith, nat_tests)

one_digit : (n : ℕ) → n < 10 → Writes n ((48 + n) ∷ [])
one_digit n h = record {
  plain = tt;
  each = (digit_of n h, tt);
  number = omega arith;
  starts = λ k. λ e. omega arith;
}

more_digits : (n : ℕ) (ds : List ℕ) → 10 ≤ n → Writes (n / 10) ds → Writes n (ds ++ ((48 + n % 10) ∷ []))
more_digits n ds h w =
    let s : StartsPlain ds = w.starts (omega arith) in
    let d : n % 10 < 10 = omega arith in
    let v = value_push 0 ds (48 + n % 10) in
    let e = w.number in
    let last : AreDigits ((48 + n % 10) ∷ []) = (digit_of (n % 10) d, tt) in
    record {
      plain = plain_push ds (48 + n % 10) s;
      each = all_append (λ x. is_digit x ≡ true) ds ((48 + n % 10) ∷ []) w.each last;
      number = omega arith;
      starts = λ k. starts_push ds (48 + n % 10) s;
    }

written : (n : ℕ) → n < 2 ^ 64 → Writes n (decimal n)
written n h = decimal_by_steps Writes one_digit more_digits n h

pub decimal_is : (n : ℕ) → n < 2 ^ 64 → IsDecimal (decimal n) n
decimal_is n h = let w = written n h in record { plain = w.plain; each = w.each; number = w.number }

pub digits_of : (n : ℕ) → n < 2 ^ 64 → AreDigits (decimal n)
digits_of n h = (written n h).each

digit_in_segment : (b : ℕ) → is_digit b ≡ true → is_segment_byte b ≡ true
digit_in_segment b h =
    let l : 48 ≤ b = grind (arith, nat_tests) in
    let u : b ≤ 57 = grind (arith, nat_tests) in
    grind (arith, nat_tests)

digit_in_name : (b : ℕ) → is_digit b ≡ true → is_name_byte b ≡ true
digit_in_name b h =
    let l : 48 ≤ b = grind (arith, nat_tests) in
    let u : b ≤ 57 = grind (arith, nat_tests) in
    grind (arith, nat_tests)

segment_bytes : (ds : List ℕ) → AreDigits ds → AllByRecursion IsSegmentByte ds
segment_bytes [] a = tt
segment_bytes (d ∷ ds) a = (digit_in_segment d a.0, segment_bytes ds a.1)

name_bytes : (ds : List ℕ) → AreDigits ds → AreNameBytes ds
name_bytes [] a = tt
name_bytes (d ∷ ds) a = (digit_in_name d a.0, name_bytes ds a.1)

small : (n : ℕ) → n ≤ 10000 → n < 2 ^ 64
small n h = omega arith

pub few_digits : (n : ℕ) → n ≤ 10000 → length (decimal n) ≤ 5
few_digits n h = length-decimal-le 5 n (omega arith) (omega arith) (small n h)

pub decimal_segment : (n : ℕ) → n ≤ 10000 → AllByRecursion IsSegmentByte (decimal n)
decimal_segment n h = segment_bytes (decimal n) (digits_of n (small n h))

pub decimal_solid : (n : ℕ) → n < 2 ^ 64 → IsSolid (decimal n)
decimal_solid n h = solid_all is_digit refl refl (decimal n) (digits_of n h)

pub decimals_differ : (m n : ℕ) → m ≤ 10000 → n ≤ 10000 → decimal m ≡ decimal n → m ≡ n
decimals_differ m n h k e = decimal_injective m n (small m h) (small n k) e

-- a letter and a number
pub numbered_name : (c n : ℕ) → is_name_byte c ≡ true → n ≤ 10000 → IsName (c ∷ decimal n)
numbered_name c n h k =
    let f = few_digits n k in
    record { some = omega arith; fits = omega arith; each = (h, name_bytes (decimal n) (digits_of n (small n k))) }

pub letter_name : (c : ℕ) → is_name_byte c ≡ true → IsName (c ∷ [])
letter_name c h = record { some = omega arith; fits = omega arith; each = (h, tt) }

pub name_solid : (bs : List ℕ) → IsName bs → IsSolid bs
name_solid bs h = solid_all is_name_byte refl refl bs h.each
