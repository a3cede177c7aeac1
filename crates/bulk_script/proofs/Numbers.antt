-- One number more.
use Rattle.std.proofs.Common.{◌≡◌, ◌≢◌, ◌⊎◌, ◌∙◌, ◌<◌, ◌≤◌, sym, ap, refl, inl, inr, ℕ, zero, suc, ◌+◌, ◌-◌, ◌*◌, ◌/◌, ◌%◌, ◌==◌, min, Bool, true, false, cond, List, [], ◌∷◌, ◌++◌, length, map, filter, flat_map, append-nil, arith, add-one}
use Rattle.std.specs.List.{range_with_len}
use Rattle.std.proofs.lemmas.List.FromFn.{map-range_with_len_more, filter_of_map_range_with_len_more}
use Rattle.std.proofs.lemmas.List.{map-id, map_push, flat_map_more, length_push}
use Rattle.std.proofs.lemmas.Bool.Decides.{nat_tests}
use Rattle.std.proofs.lemmas.Bool.{cases_eq, cases_lt}
use Rattle.script.specs.declared.line.Line.{Line}
use Rattle.bulk_script.specs.Spelled.{spelled, text_of}
use Rattle.bulk_script.specs.Bulk.{numbers_below, targets_in, asked_of, target_line, export_line, ask_in, requests}

pub below_none : numbers_below 0 ≡ []
unfolding numbers_below
below_none = refl

pub below_more : (n : ℕ) → numbers_below (n + 1) ≡ numbers_below n ++ n ∷ []
unfolding numbers_below
below_more n =
    sym (map-id (range_with_len 0 (n + 1))) ∙ map-range_with_len_more (λ (i : ℕ). i) 0 n n (omega arith)
    ∙ ap (λ (xs : List ℕ). xs ++ n ∷ []) (map-id (range_with_len 0 n))

pub filter_more : (p : ℕ → Bool) (n : ℕ) → filter p (numbers_below (n + 1)) ≡ filter p (numbers_below n) ++ cond (p n) (n ∷ []) []
unfolding numbers_below
filter_more p n =
    ap (filter p) (sym (map-id (range_with_len 0 (n + 1)))) ∙ filter_of_map_range_with_len_more p (λ (i : ℕ). i) 0 n n (omega arith)
    ∙ ap (λ (xs : List ℕ). filter p xs ++ cond (p n) (n ∷ []) []) (map-id (range_with_len 0 n))

filter_yes : (p : ℕ → Bool) (n : ℕ) → p n ≡ true → filter p (numbers_below (n + 1)) ≡ filter p (numbers_below n) ++ n ∷ []
filter_yes p n h = filter_more p n ∙ ap (λ (b : Bool). filter p (numbers_below n) ++ cond b (n ∷ []) []) h

filter_no : (p : ℕ → Bool) (n : ℕ) → p n ≡ false → filter p (numbers_below (n + 1)) ≡ filter p (numbers_below n)
filter_no p n h =
    filter_more p n ∙ ap (λ (b : Bool). filter p (numbers_below n) ++ cond b (n ∷ []) []) h ∙ append-nil (filter p (numbers_below n))

-- ---- texts

pub texts_more : (f : ℕ → List ℕ) (xs : List ℕ) (x : ℕ) → flat_map f xs ++ f x ≡ flat_map f (xs ++ x ∷ [])
texts_more f xs x = flat_map_more f [] xs x

pub line_more : (F : ℕ → Line) (out : List ℕ) (xs : List ℕ) (x : ℕ) → (out ++ text_of (map F xs)) ++ spelled (F x) ≡ out ++ text_of (map F (xs ++ x ∷ []))
unfolding text_of
line_more F out xs x =
    flat_map_more spelled out (map F xs) (F x) ∙ ap (λ (ls : List Line). out ++ flat_map spelled ls) (sym (map_push F xs x))

pub exports_none : [] ≡ flat_map export_line (numbers_below 0)
exports_none = ap (flat_map export_line) (sym below_none)

pub exports_more : (text : List ℕ) (n : ℕ) → text ≡ flat_map export_line (numbers_below n) → text ++ export_line n ≡ flat_map export_line (numbers_below (n + 1))
exports_more text n h =
    ap (λ (t : List ℕ). t ++ export_line n) h ∙ texts_more export_line (numbers_below n) n ∙ ap (flat_map export_line) (sym (below_more n))

pub lines_none : (F : ℕ → Line) (out : List ℕ) → out ≡ out ++ text_of (map F (numbers_below 0))
unfolding text_of
lines_none F out = sym (append-nil out) ∙ ap (λ (xs : List ℕ). out ++ flat_map spelled (map F xs)) (sym below_none)

pub lines_more : (F : ℕ → Line) (script out : List ℕ) (n : ℕ) → script ≡ out ++ text_of (map F (numbers_below n)) → script ++ spelled (F n) ≡ out ++ text_of (map F (numbers_below (n + 1)))
lines_more F script out n h =
    ap (λ (t : List ℕ). t ++ spelled (F n)) h ∙ line_more F out (numbers_below n) n ∙ ap (λ (xs : List ℕ). out ++ text_of (map F xs)) (sym (below_more n))

-- ---- the targets of a package

above_off : (m g : ℕ) → 100 * g + 100 ≤ m → (m / 100 == g) ≡ false
above_off m g h = let k : m / 100 ≢ g = (λ e. omega arith) in grind (arith, nat_tests)

below_off : (m g : ℕ) → m < 100 * g → (m / 100 == g) ≡ false
below_off m g h = let k : m / 100 ≢ g = (λ e. omega arith) in grind (arith, nat_tests)

within_on : (m g : ℕ) → 100 * g ≤ m → m < 100 * g + 100 → (m / 100 == g) ≡ true
within_on m g h k = let e : m / 100 ≡ g = omega arith in grind (arith, nat_tests)

pub targets_none : (g m : ℕ) → m ≤ 100 * g → targets_in m g ≡ []
unfolding targets_in
targets_none g zero h = ap (filter (λ i. i / 100 == g)) below_none
targets_none g (suc m) h =
    ap (λ (n : ℕ). filter (λ i. i / 100 == g) (numbers_below n)) (sym (add-one m)) ∙ filter_no (λ i. i / 100 == g) m (below_off m g (omega arith))
    ∙ targets_none g m (omega arith)

pub targets_more : (g m : ℕ) → 100 * g ≤ m → m < 100 * g + 100 → targets_in (m + 1) g ≡ targets_in m g ++ m ∷ []
unfolding targets_in
targets_more g m h k = filter_yes (λ i. i / 100 == g) m (within_on m g h k)

pub targets_past : (g m k : ℕ) → 100 * g + 100 ≤ m → targets_in (m + k) g ≡ targets_in m g
unfolding targets_in
targets_past g m zero h = ap (λ (n : ℕ). filter (λ i. i / 100 == g) (numbers_below n)) (omega arith)
targets_past g m (suc k) h =
    let e : m + suc k ≡ (m + k) + 1 = omega arith in
    ap (λ (n : ℕ). filter (λ i. i / 100 == g) (numbers_below n)) e ∙ filter_no (λ i. i / 100 == g) (m + k) (above_off (m + k) g (omega arith))
    ∙ targets_past g m k h

-- where a walk over a package's targets ends
pub record Walked (n g first end t : ℕ) : Type 0 where
  pub first_is : first ≡ g * 100
  pub end_is : end ≡ min (first + 100) n
  pub begun : first ≤ t
  pub ended : end ≤ t
  pub within : first ≤ end → t ≤ end
  pub nothing : end < first → t ≡ first

walked_by : (n g first end t : ℕ) → Walked n g first end t → (end < first) ⊎ (first ≤ end) → (first + 100 < n) ⊎ (n ≤ first + 100) → targets_in t g ≡ targets_in n g
walked_by n g first end t w (inl h) o =
    let f = w.first_is in let e = w.end_is in let s : t ≡ first = w.nothing h in
    targets_none g t (omega arith) ∙ sym (targets_none g n (omega arith))
walked_by n g first end t w (inr h) (inr k) =
    let e = w.end_is in let a = w.ended in let b : t ≤ end = w.within h in
    let s : t ≡ n = omega arith in ap (λ (m : ℕ). targets_in m g) s
walked_by n g first end t w (inr h) (inl k) =
    let f = w.first_is in let e = w.end_is in let a = w.ended in let b : t ≤ end = w.within h in
    let s : n ≡ t + (n - t) = omega arith in
    sym (ap (λ (m : ℕ). targets_in m g) s ∙ targets_past g t (n - t) (omega arith))

pub walked : (n g first end t : ℕ) → Walked n g first end t → targets_in t g ≡ targets_in n g
walked n g first end t w = walked_by n g first end t w (cases_lt end first) (cases_lt (first + 100) n)

pub rules_none : (g first : ℕ) → first ≡ g * 100 → [] ≡ flat_map target_line (targets_in first g)
rules_none g first h = ap (flat_map target_line) (sym (targets_none g first (omega arith)))

pub rules_more : (text : List ℕ) (g first m : ℕ) → first ≡ g * 100 → first ≤ m → m < first + 100 → text ≡ flat_map target_line (targets_in m g) →
    text ++ target_line m ≡ flat_map target_line (targets_in (m + 1) g)
rules_more text g first m f h k e =
    ap (λ (t : List ℕ). t ++ target_line m) e ∙ texts_more target_line (targets_in m g) m
    ∙ ap (flat_map target_line) (sym (targets_more g m (omega arith) (omega arith)))

pub rules_walked : (text : List ℕ) (n g first end t : ℕ) → Walked n g first end t → text ≡ flat_map target_line (targets_in t g) → text ≡ flat_map target_line (targets_in n g)
rules_walked text n g first end t w e = e ∙ ap (flat_map target_line) (walked n g first end t w)

-- ---- every tenth target

pub asked_none : asked_of 0 ≡ []
unfolding asked_of
asked_none = ap (filter (λ i. i % 10 == 0)) below_none

is_tenth : (n : ℕ) → n % 10 ≡ 0 → (n % 10 == 0) ≡ true
is_tenth n h = grind (arith, nat_tests)

is_no_tenth : (n : ℕ) → n % 10 ≢ 0 → (n % 10 == 0) ≡ false
is_no_tenth n h = grind (arith, nat_tests)

pub asked_yes : (n : ℕ) → n % 10 ≡ 0 → asked_of (n + 1) ≡ asked_of n ++ n ∷ []
unfolding asked_of
asked_yes n h = filter_yes (λ i. i % 10 == 0) n (is_tenth n h)

pub asked_no : (n : ℕ) → n % 10 ≢ 0 → asked_of (n + 1) ≡ asked_of n
unfolding asked_of
asked_no n h = filter_no (λ i. i % 10 == 0) n (is_no_tenth n h)

pub asks_none : (t out : List ℕ) → out ≡ out ++ text_of (map (ask_in t) (asked_of 0))
unfolding text_of
asks_none t out = sym (append-nil out) ∙ ap (λ (xs : List ℕ). out ++ flat_map spelled (map (ask_in t) xs)) (sym asked_none)

pub asks_yes : (t script out : List ℕ) (n : ℕ) → n % 10 ≡ 0 → script ≡ out ++ text_of (map (ask_in t) (asked_of n)) →
    script ++ spelled (ask_in t n) ≡ out ++ text_of (map (ask_in t) (asked_of (n + 1)))
asks_yes t script out n h e =
    ap (λ (s : List ℕ). s ++ spelled (ask_in t n)) e ∙ line_more (ask_in t) out (asked_of n) n ∙ ap (λ (xs : List ℕ). out ++ text_of (map (ask_in t) xs)) (sym (asked_yes n h))

pub asks_no : (t script out : List ℕ) (n : ℕ) → n % 10 ≢ 0 → script ≡ out ++ text_of (map (ask_in t) (asked_of n)) →
    script ≡ out ++ text_of (map (ask_in t) (asked_of (n + 1)))
asks_no t script out n h e = e ∙ ap (λ (xs : List ℕ). out ++ text_of (map (ask_in t) xs)) (sym (asked_no n h))

count_more : (n : ℕ) → (n % 10 ≡ 0) ⊎ (n % 10 ≢ 0) → length (asked_of n) ≡ (n + 9) / 10 → length (asked_of (n + 1)) ≡ (n + 1 + 9) / 10
count_more n (inl h) e = let k : length (asked_of (n + 1)) ≡ length (asked_of n) + 1 = ap length (asked_yes n h) ∙ length_push (asked_of n) n in omega arith
count_more n (inr h) e = let k : length (asked_of (n + 1)) ≡ length (asked_of n) = ap length (asked_no n h) in omega arith

tenth_or_not : (n : ℕ) → (n % 10 ≡ 0) ⊎ (n % 10 ≢ 0)
tenth_or_not n = cases_eq (n % 10) 0

pub count_of : (n : ℕ) → length (asked_of n) ≡ (n + 9) / 10
count_of zero = ap length asked_none
count_of (suc n) =
    let h = count_more n (tenth_or_not n) (count_of n) in
    let e : suc n ≡ n + 1 = omega arith in
    ap (λ (m : ℕ). length (asked_of m)) e ∙ h ∙ ap (λ (m : ℕ). (m + 9) / 10) (sym e)

pub requests_are : (n : ℕ) → (n / 10 + min 1 (n % 10)) * 2 ≡ requests n
unfolding requests
requests_are n = let h = count_of n in omega arith
