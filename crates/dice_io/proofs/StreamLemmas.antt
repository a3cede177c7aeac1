-- What a sink gained and a source gave, piece by piece.
use Rattle.std.proofs.Common.{Result, Ok, Err, OnErr, min, ◌≤◌, ◌<◌, ◌+◌, Some, None, [], refl, ◌≡◌, ◌-◌, ℕ, List, ◌++◌, length, take, drop, Option, sym, ap, ◌∙◌, append_assoc, arith}
use Rattle.std.proofs.lemmas.Grind.{common_steps}
use Rattle.std.proofs.lemmas.List.{drop-drop, take-append-drop}
use Rattle.std.proofs.lemmas.Option.{none-some, same_Some}
use Rattle.std.proofs.Math.Seq.{take-add}
use Rattle.std.specs.Io.KnownBytes.{Consumes, IsAtEnd}
use Rattle.dice_io.specs.Streams.{Reads, ReadPart, Takes, Gained, GainedPart, Unchanged, Unread}

pub gained_more : {t u w : Option (List ℕ)} {bytes : List ℕ} {n : ℕ} (front : List ℕ) → Gained t u front → (h : Takes u w bytes n) → Gained t w (front ++ h.front)
gained_more front g h after e =
    let a = h.gained after e in
    let b = g a.0 a.1 in
    (b.0, b.1, a.2 ∙ (ap (λ xs. xs ++ h.front) b.2 ∙ append_assoc b.0 front h.front))

rest_is : (xs ys : List ℕ) (m : ℕ) → m ≡ length (xs ++ ys) → take (m - length xs) (drop (length xs) (xs ++ ys)) ≡ ys
rest_is xs ys m e = grind (arith, common_steps)

pub split_more : {u w : Option (List ℕ)} {bytes : List ℕ} {n : ℕ} (all front : List ℕ) (m : ℕ) → all ≡ front ++ bytes → (h : Takes u w bytes n) → m ≡ length bytes → all ≡ (front ++ h.front) ++ take (m - n) (drop n bytes)
split_more {bytes = bytes} {n = n} all front m e h k =
    let a : take (m - n) (drop n bytes) ≡ h.back = rw (sym h.counted, h.split) (rest_is h.front h.back m (k ∙ ap length h.split)) in
    e ∙ (ap (λ xs. front ++ xs) (h.split ∙ ap (λ ys. h.front ++ ys) (sym a)) ∙ sym (append_assoc front h.front (take (m - n) (drop n bytes))))

-- a piece of n bytes from the front
pub takes_front : (old new : List ℕ) (bytes : List ℕ) (n : ℕ) → n ≤ length bytes → new ≡ old ++ take n bytes → Takes (Some old) (Some new) bytes n
takes_front old new bytes n few e = record {
  front = take n bytes;
  back = drop n bytes;
  split = grind (arith, common_steps);
  counted = grind (arith, common_steps);
  gained = λ after h. (old, refl, sym (same_Some _ _ h) ∙ e);
}

pub takes_untold : (bytes : List ℕ) (n : ℕ) → n ≤ length bytes → Takes None None bytes n
takes_untold bytes n few = record {
  front = take n bytes;
  back = drop n bytes;
  split = grind (arith, common_steps);
  counted = grind (arith, common_steps);
  gained = λ after h. absurd (none-some _ h);
}

-- what a reader that knows its bytes gave and has left is all that it had
consumed : (left left' : Option (List ℕ)) (got all : List ℕ) → Consumes left left' got → left ≡ Some all → (rest : List ℕ) × (left' ≡ Some rest) × (all ≡ got ++ rest)
consumed None left' got all c e = absurd (none-some _ e)
consumed (Some xs) None got all c e = absurd c
consumed (Some xs) (Some ys) got all c e = (ys, refl, sym (same_Some _ _ e) ∙ c)

at_end : (left' : Option (List ℕ)) (rest : List ℕ) → IsAtEnd left' → left' ≡ Some rest → rest ≡ []
at_end None rest a e = absurd (none-some _ e)
at_end (Some xs) rest a e = sym (same_Some _ _ e) ∙ a

none_of_none : (got rest all : List ℕ) → length got ≡ 0 → rest ≡ [] → all ≡ got ++ rest → all ≡ []
none_of_none got rest all g r e = grind (arith, common_steps)

-- a buffer that was made longer, then filled from `start` on, where it had ended, then cut after
-- the n bytes that were read
pub reads_from : (left left' : Option (List ℕ)) (into grown filled into' : List ℕ) (start most n : ℕ) → n ≤ most
    → take start grown ≡ into → take start filled ≡ take start grown → start < length filled → start + n ≤ length filled
    → Consumes left left' (take n (drop start filled)) × (n ≡ 0 → 0 < length (drop start filled) → IsAtEnd left') → into' ≡ take (start + n) filled → Reads left left' into into' most n
reads_from left left' into grown filled into' start most n few kept same room fits moved cut =
    let got : List ℕ = take n (drop start filled) in
    let long : length got ≡ n = grind (arith, common_steps) in
    record {
      got = got;
      appended = cut ∙ (take-add start n filled ∙ ap (λ xs. xs ++ got) (same ∙ kept));
      counted = long;
      few = few;
      told = λ all e. consumed left left' got all moved.0 e;
      ended = λ all e z.
          let c = consumed left left' got all moved.0 e in
          none_of_none got c.0 all (long ∙ z) (at_end left' c.0 (moved.1 z (grind (arith, common_steps))) c.1) c.2;
    }

pub grown_keeps : (into grown pad : List ℕ) (start n : ℕ) → start ≡ length into → grown ≡ take n into ++ pad → length into ≤ n → take start grown ≡ into
grown_keeps into grown pad start n s e room =
    let whole : take n into ≡ into = grind (arith, common_steps) in
    let f : take (length into) (into ++ pad) ≡ into = grind (arith, common_steps) in
    ap (λ k. take k grown) s ∙ (ap (take (length into)) (e ∙ ap (λ xs. xs ++ pad) whole) ∙ f)

-- ---- a whole input

-- what was read, and what is left, is what was left
abbrev pub Told : Option (List ℕ) → Option (List ℕ) → List ℕ → Type 0
Told left left' got = (all : List ℕ) → left ≡ Some all → (rest : List ℕ) × (left' ≡ Some rest) × (all ≡ got ++ rest)

pub read_more : {left mid left' : Option (List ℕ)} {bytes into' : List ℕ} {most n : ℕ} → Told left mid bytes → Reads mid left' bytes into' most n → Told left left' into'
read_more {bytes = bytes} told h all e =
    let a = told all e in
    let b = h.told a.0 a.1 in
    (b.0, b.1, a.2 ∙ (ap (λ xs. bytes ++ xs) b.2 ∙ (sym (append_assoc bytes h.got b.0) ∙ ap (λ xs. xs ++ b.0) (sym h.appended))))

pub read_fits : {mid left' : Option (List ℕ)} {bytes into' : List ℕ} {most n : ℕ} (limit : ℕ) → Reads mid left' bytes into' most n → most ≤ limit - length bytes → length bytes ≤ limit
    → length into' ≤ limit
read_fits limit h room few = rw h.appended (grind (arith, common_steps, h.counted, h.few))

pub read_part : {left mid left' : Option (List ℕ)} (bytes : List ℕ) {limit : ℕ} → Told left mid bytes → length bytes ≤ limit → Unread mid left' → ReadPart left left' limit
read_part bytes told few unread all e =
    let a = told all e in
    (bytes, a.0, unread a.0 a.1, a.2, few)

pub on_err_always : {T E P : Type 0} (r : Result T E) → P → OnErr r P
on_err_always (Ok x) p = tt
on_err_always (Err e) p = p

-- ---- a piece of bytes in memory

pub reads_front : (left bytes slice into into' : List ℕ) (at len most n : ℕ) → left ≡ drop at bytes → slice ≡ bytes → len ≡ length bytes → at ≤ length bytes → 1 ≤ most → n ≡ min most (len - at)
    → into' ≡ into ++ take (at + n - at) (drop at slice) → Reads (Some left) (Some (drop (at + n) bytes)) into into' most n
reads_front left bytes slice into into' at len most n is same counted within some e grown =
    let width : at + n - at ≡ n = omega arith in
    let whole : drop at bytes ≡ take n (drop at bytes) ++ drop (at + n) bytes =
    sym (take-append-drop n (drop at bytes)) ∙ ap (λ xs. take n (drop at bytes) ++ xs) (drop-drop n at bytes) in
    record {
      got = take n (drop at bytes);
      appended = grown ∙ (ap (λ k. into ++ take k (drop at slice)) width ∙ ap (λ xs. into ++ take n (drop at xs)) same);
      counted = grind (arith, common_steps);
      few = omega arith;
      told = λ all h. (drop (at + n) bytes, refl, sym (same_Some _ _ h) ∙ (is ∙ whole));
      ended = λ all h z.
          let none : drop at bytes ≡ [] = grind (arith, common_steps) in
          sym (same_Some _ _ h) ∙ (is ∙ none);
    }

pub reads_wider : {left left' : Option (List ℕ)} {into into' : List ℕ} {most n : ℕ} (wide : ℕ) → Reads left left' into into' most n → most ≤ wide → Reads left left' into into' wide n
reads_wider wide h e = record { got = h.got; appended = h.appended; counted = h.counted; few = omega (arith, h.few); told = h.told; ended = h.ended }

-- ---- a whole output

pub gained_whole : {t u : Option (List ℕ)} {bytes : List ℕ} (front rest : List ℕ) → bytes ≡ front ++ rest → length rest ≡ 0 → Gained t u front → Gained t u bytes
gained_whole {bytes = bytes} front rest e none g after h =
    let a = g after h in
    let same : bytes ≡ front = grind (arith, common_steps) in
    (a.0, a.1, a.2 ∙ ap (λ xs. a.0 ++ xs) (sym same))

pub gained_part : {t u w : Option (List ℕ)} {bytes : List ℕ} (front rest : List ℕ) → bytes ≡ front ++ rest → Gained t u front → Unchanged u w → GainedPart t w bytes
gained_part front rest e g kept = (front, rest, e, λ after h. g after (kept after h))
