-- Many lines are read as themselves, if their numbers ascend.
use Rattle.std.proofs.Common.{◌≡◌, ◌∙◌, ◌<◌, ◌≤◌, sym, ap, refl, subst, inl, inr, ℕ, zero, suc, ◌+◌, Bool, true, false, cond, if◌then◌else◌, List, [], ◌∷◌, ◌++◌, length, map, filter, Option, Some, None, arith}
use Rattle.std.specs.Prelude.{decimal}
use Rattle.std.specs.List.{range_with_len}
use Rattle.std.specs.Str.{bytes_eq}
use Rattle.std.proofs.lemmas.Slice.Eq.{bytes_eq-Decides}
use Rattle.script.specs.declared.line.Line.{Line}
use Rattle.script.specs.declared.line.Line.TheVariants.{Put}
use Rattle.script.specs.declared.requests.Asked.{Asked}
use Rattle.script.specs.Lines.{is_name_byte}
use Rattle.script.specs.Past.{Past, after, after_all, adding, with_entry, made_in}
use Rattle.buck_label.specs.Paths.{IsPath}
use Rattle.bulk_script.specs.Bulk.{numbers_below, targets_in, asked_of, ask_in}
use Rattle.bulk_script.proofs.Decimals.{decimals_differ, numbered_name, letter_name}
use Rattle.bulk_script.proofs.Lines.{IsRead, put_read, ask_read}
use Rattle.std.proofs.lemmas.Bool.{cases_Bool}

-- ascending numbers from a on, below limit
abbrev pub Ascends : ℕ → ℕ → List ℕ → Type 0
Ascends limit a [] = Unit {0}
Ascends limit a (x ∷ xs) = (a ≤ x) × (x < limit) × Ascends limit (x + 1) xs

pub ascends_from : (limit a b : ℕ) (xs : List ℕ) → a ≤ b → Ascends limit b xs → Ascends limit a xs
ascends_from limit a b [] h u = tt
ascends_from limit a b (x ∷ xs) h u = let k : b ≤ x = u.0 in (omega arith, u.1, u.2)

pub filter_ascends : (p : ℕ → Bool) (limit a : ℕ) (xs : List ℕ) → Ascends limit a xs → Ascends limit a (filter p xs)
filter_ascends p limit a [] u = tt
filter_ascends p limit a (x ∷ xs) u =
    let h : a ≤ x = u.0 in
    let r = filter_ascends p limit (x + 1) xs u.2 in
    elim (cases_Bool (p x)) [
      | inl t ↦ subst (λ (b : Bool). Ascends limit a (cond b (x ∷ filter p xs) (filter p xs))) (sym t) (h, u.1, r)
      | inr f ↦ subst (λ (b : Bool). Ascends limit a (cond b (x ∷ filter p xs) (filter p xs))) (sym f) (ascends_from limit a (x + 1) (filter p xs) (omega arith) r)
    ]

range_ascends : (limit a n : ℕ) → a + n ≤ limit → Ascends limit a (range_with_len a n)
range_ascends limit a zero h = tt
range_ascends limit a (suc n) h = (omega arith, omega arith, range_ascends limit (a + 1) n (omega arith))

pub below_ascends : (limit n : ℕ) → n ≤ limit → Ascends limit 0 (numbers_below n)
unfolding numbers_below
below_ascends limit n h = range_ascends limit 0 n (omega arith)

pub targets_ascend : (limit n g : ℕ) → n ≤ limit → Ascends limit 0 (targets_in n g)
unfolding targets_in
targets_ascend limit n g h = filter_ascends _ limit 0 (numbers_below n) (below_ascends limit n h)

pub asked_ascend : (limit n : ℕ) → n ≤ limit → Ascends limit 0 (asked_of n)
unfolding asked_of
asked_ascend limit n h = filter_ascends _ limit 0 (numbers_below n) (below_ascends limit n h)

pub ascends_few : (limit a : ℕ) (xs : List ℕ) → Ascends limit a xs → a ≤ limit → length xs + a ≤ limit
ascends_few limit a [] u h = omega arith
ascends_few limit a (x ∷ xs) u h =
    let k : a ≤ x = u.0 in let l : x < limit = u.1 in let r = ascends_few limit (x + 1) xs u.2 (omega arith) in omega arith

-- ---- texts that differ

pub differ : (x y : List ℕ) → (x ≡ y → ⊥) → bytes_eq x y ≡ false
differ x y h = elim (cases_Bool (bytes_eq x y)) [
  | inl t ↦ absurd (h ((bytes_eq-Decides x y).0 t))
  | inr f ↦ f
]

kept_touched : (x y : List ℕ) (set : List ℕ → Bool) → (x ≡ y → ⊥) → adding x set y ≡ set y
kept_touched x y set h = ap (λ (b : Bool). if b then true else set y) (differ x y h)

kept_asked : (x y : List ℕ) (a : Asked) (table : List ℕ → Option Asked) → (x ≡ y → ⊥) → with_entry x a table y ≡ table y
kept_asked x y a table h = ap (λ (b : Bool). if b then Some a else table y) (differ x y h)

-- ---- puts of numbered paths

abbrev pub put_at : (ℕ → List ℕ) → (ℕ → List ℕ) → ℕ → Line
put_at path bytes i = Put (path i) (bytes i)

-- numbered paths with small files
pub record ArePaths (path bytes : ℕ → List ℕ) (limit : ℕ) : Type 0 where
  pub each : (i : ℕ) → i < limit → IsPath (path i)
  pub one : (i j : ℕ) → i < limit → j < limit → path i ≡ path j → i ≡ j
  pub small : (i : ℕ) → i < limit → length (bytes i) ≤ 4194304

pub puts_read : (path bytes : ℕ → List ℕ) (limit a : ℕ) (xs : List ℕ) (p : Past) (ls : List Line) → ArePaths path bytes limit → Ascends limit a xs →
    ((i : ℕ) → a ≤ i → i < limit → p.touched (path i) ≡ false) → IsRead (after_all p (map (put_at path bytes) xs)) ls → IsRead p (map (put_at path bytes) xs ++ ls)
puts_read path bytes limit a [] p ls are u free go = go
puts_read path bytes limit a (x ∷ xs) p ls are u free go =
    let h : a ≤ x = u.0 in
    let k : x < limit = u.1 in
    let q = after p (Put (path x) (bytes x)) in
    let still : (i : ℕ) → x + 1 ≤ i → i < limit → q.touched (path i) ≡ false =
    λ i l m. let other : path x ≡ path i → ⊥ = (λ e. let s = are.one x i k m e in absurd (omega arith)) in
    let o : a ≤ i = omega arith in kept_touched (path x) (path i) p.touched other ∙ free i o m in
    put_read p (path x) (bytes x) (map (put_at path bytes) xs ++ ls) (are.each x k) (free x h k) (are.small x k)
    (puts_read path bytes limit (x + 1) xs q ls are u.2 still go)

-- what puts leave as it was
pub puts_keep : (path bytes : ℕ → List ℕ) (xs : List ℕ) (p : Past) (s : List ℕ) → ((i : ℕ) → path i ≡ s → ⊥) → (after_all p (map (put_at path bytes) xs)).touched s ≡ p.touched s
puts_keep path bytes [] p s other = refl
puts_keep path bytes (x ∷ xs) p s other = puts_keep path bytes xs (after p (Put (path x) (bytes x))) s other ∙ kept_touched (path x) s p.touched (other x)

pub puts_opened : (path bytes : ℕ → List ℕ) (xs : List ℕ) (p : Past) → (after_all p (map (put_at path bytes) xs)).opened ≡ p.opened
puts_opened path bytes [] p = refl
puts_opened path bytes (x ∷ xs) p = puts_opened path bytes xs (after p (Put (path x) (bytes x)))

pub puts_asked : (path bytes : ℕ → List ℕ) (xs : List ℕ) (p : Past) → (after_all p (map (put_at path bytes) xs)).asked ≡ p.asked
puts_asked path bytes [] p = refl
puts_asked path bytes (x ∷ xs) p = puts_asked path bytes xs (after p (Put (path x) (bytes x)))

-- ---- requests in a transaction whose name is one letter

other_name : (c x i : ℕ) → x ≤ 10000 → i ≤ 10000 → x < i → c ∷ decimal x ≡ c ∷ decimal i → ⊥
other_name c x i h k l e = let f : decimal x ≡ decimal i = cc in let s = decimals_differ x i h k f in absurd (omega arith)

pub asks_read : (c a : ℕ) (xs : List ℕ) (p : Past) (ls : List Line) → is_name_byte c ≡ true → Ascends 10000 a xs → p.opened (c ∷ []) ≡ Some true →
    ((i : ℕ) → a ≤ i → i < 10000 → p.asked (c ∷ decimal i) ≡ None) → IsRead (after_all p (map (ask_in (c ∷ [])) xs)) ls → IsRead p (map (ask_in (c ∷ [])) xs ++ ls)
asks_read c a [] p ls ok u stands free go = go
asks_read c a (x ∷ xs) p ls ok u stands free go =
    let h : a ≤ x = u.0 in
    let k : x < 10000 = u.1 in
    let s : x ≤ 10000 = omega arith in
    let q = after p (ask_in (c ∷ []) x) in
    let still : (i : ℕ) → x + 1 ≤ i → i < 10000 → q.asked (c ∷ decimal i) ≡ None =
    λ i l m. let o : a ≤ i = omega arith in
    kept_asked (c ∷ decimal x) (c ∷ decimal i) (made_in (c ∷ [])) p.asked (other_name c x i s (omega arith) (omega arith)) ∙ free i o m in
    ask_read p (c ∷ []) (c ∷ decimal x) x (map (ask_in (c ∷ [])) xs ++ ls) (letter_name c ok) stands (numbered_name c x ok s) (free x h k) s
    (asks_read c (x + 1) xs q ls ok u.2 stands still go)

pub asks_keep : (c : ℕ) (xs : List ℕ) (p : Past) (s : List ℕ) → ((i : ℕ) → c ∷ decimal i ≡ s → ⊥) → (after_all p (map (ask_in (c ∷ [])) xs)).asked s ≡ p.asked s
asks_keep c [] p s other = refl
asks_keep c (x ∷ xs) p s other = asks_keep c xs (after p (ask_in (c ∷ []) x)) s other ∙ kept_asked (c ∷ decimal x) s (made_in (c ∷ [])) p.asked (other x)

pub asks_opened : (c : ℕ) (xs : List ℕ) (p : Past) → (after_all p (map (ask_in (c ∷ [])) xs)).opened ≡ p.opened
asks_opened c [] p = refl
asks_opened c (x ∷ xs) p = asks_opened c xs (after p (ask_in (c ∷ []) x))

pub asks_touched : (c : ℕ) (xs : List ℕ) (p : Past) → (after_all p (map (ask_in (c ∷ [])) xs)).touched ≡ p.touched
asks_touched c [] p = refl
asks_touched c (x ∷ xs) p = asks_touched c xs (after p (ask_in (c ∷ []) x))
