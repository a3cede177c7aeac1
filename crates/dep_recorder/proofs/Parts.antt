-- Rows of keys and values that are parted into batches.
use Rattle.std.proofs.Common.{◌≡◌, ◌≤◌, ◌<◌, ◌-◌, ◌+◌, ℕ, zero, suc, List, [], ◌∷◌, ◌++◌, length, map, take, drop, get_or, refl, sym, ap, ◌∙◌, subst, arith, length-append, Result, Ok, Err}
use Rattle.std.specs.Prelude.{OnErr}
use Rattle.std.specs.Arc.{arc_value}
use Rattle.std.specs.declared.sync.Arc.{Arc}
use Rattle.std.proofs.lemmas.List.{take-append-le, drop-append-le, drop-map, take-map, length-map}
use Rattle.std.proofs.Math.Seq.{drop-append_seam}
use Rattle.dice_key.specs.Meaning.{Answered}
use Rattle.dep_recorder.specs.Recordings.{parted, RiseTo, begins, keys_in, values_in, answered_in}

pub begins_get : (s i : ℕ) (es : List ℕ) (d : ℕ) → i < length es → get_or es i d ≡ begins s es (suc i)
begins_get s i [] d h = absurd (omega arith)
begins_get s zero (e ∷ es) d h = refl
begins_get s (suc i) (e ∷ es) d h = begins_get e i es d (omega arith)

pub rise_le : (s n : ℕ) (es : List ℕ) → RiseTo s es n → s ≤ n
rise_le s n [] r = omega arith
rise_le s n (e ∷ es) r = let h = rise_le e n es r.1 in let l = r.0 in omega arith

pub rise_at : (s n i : ℕ) (es : List ℕ) → RiseTo s es n → i < length es → (begins s es i < begins s es (suc i)) × (begins s es (suc i) ≤ n)
rise_at s n i [] r h = absurd (omega arith)
rise_at s n zero (e ∷ es) r h = (r.0, rise_le e n es r.1)
rise_at s n (suc i) (e ∷ es) r h = rise_at e n i es r.1 (omega arith)

module _ {K V : Type 0} (ks : List K) (xs : List V) where
  pub parted_length : (s : ℕ) (es : List ℕ) → length (parted ks xs s es) ≡ length es
  parted_length s [] = refl
  parted_length s (e ∷ es) = ap suc (parted_length e es)

  pub parted_drop : (s i : ℕ) (es : List ℕ) → i < length es
      → drop i (parted ks xs s es) ≡ record { keys = take (begins s es (suc i) - begins s es i) (drop (begins s es i) ks); values = take (begins s es (suc i) - begins s es i) (drop (begins s es i) xs) } ∷ drop (suc i) (parted ks xs s es)
  parted_drop s i [] h = absurd (omega arith)
  parted_drop s zero (e ∷ es) h = refl
  parted_drop s (suc i) (e ∷ es) h = parted_drop e i es (omega arith)

module _ {K V : Type 0} (ks more : List K) (xs plus : List V) where
  part_same : {X : Type 0} (ys zs : List X) (s e : ℕ) → s ≤ e → e ≤ length ys → take (e - s) (drop s (ys ++ zs)) ≡ take (e - s) (drop s ys)
  part_same ys zs s e l h =
      let n : s ≤ length ys = omega arith in
      let d : length (drop s ys) ≡ length ys - s = length-dropped s ys in
      ap (take (e - s)) (drop-append-le s ys zs n) ∙ take-append-le (e - s) (drop s ys) zs (omega arith)
    where
      length-dropped : {X : Type 0} (n : ℕ) (l : List X) → length (drop n l) ≡ length l - n
      length-dropped zero l = omega arith
      length-dropped (suc n) [] = omega arith
      length-dropped (suc n) (y ∷ ys) = let h = length-dropped n ys in omega arith

  -- what is added after the last end is no part yet
  parted_same : (s n : ℕ) (es : List ℕ) → RiseTo s es n → n ≡ length ks → n ≡ length xs → parted (ks ++ more) (xs ++ plus) s es ≡ parted ks xs s es
  parted_same s n [] r p q = refl
  parted_same s n (e ∷ es) r p q =
      let l = rise_le e n es r.1 in
      let h = r.0 in
      let a = part_same ks more s e (omega arith) (omega arith) in
      let b = part_same xs plus s e (omega arith) (omega arith) in
      let t = parted_same e n es r.1 p q in
      λ i. record { keys = a i; values = b i } ∷ t i

  parted_last : (s : ℕ) (es : List ℕ) (l e : ℕ) (A : List (Answered K V)) → RiseTo s es l → l ≡ length ks → l ≡ length xs → e ≡ l + length more → e ≡ l + length plus
      → parted (ks ++ more) (xs ++ plus) s (es ++ e ∷ []) ≡ parted (ks ++ more) (xs ++ plus) s es ++ record { keys = more; values = plus } ∷ []
  parted_last s [] l e A r p q f g =
      let u : s ≡ length ks = r ∙ p in
      let v : s ≡ length xs = r ∙ q in
      let a : take (e - s) (drop s (ks ++ more)) ≡ more = last_part ks more s e u (omega arith) in
      let b : take (e - s) (drop s (xs ++ plus)) ≡ plus = last_part xs plus s e v (omega arith) in
      λ i. record { keys = a i; values = b i } ∷ []
    where
      take_all : {X : Type 0} (n : ℕ) (ys : List X) → n ≡ length ys → take n ys ≡ ys
      take_all zero [] h = refl
      take_all zero (y ∷ ys) h = absurd (omega arith)
      take_all (suc n) [] h = refl
      take_all (suc n) (y ∷ ys) h = ap (λ zs. y ∷ zs) (take_all n ys (omega arith))

      last_part : {X : Type 0} (ys zs : List X) (s e : ℕ) → s ≡ length ys → e ≡ s + length zs → take (e - s) (drop s (ys ++ zs)) ≡ zs
      last_part ys zs s e u f = ap (λ n. take (e - s) (drop n (ys ++ zs))) u ∙ (ap (take (e - s)) (drop-append_seam ys zs) ∙ take_all (e - s) zs (omega arith))
  parted_last s (c ∷ es) l e A r p q f g = let t = parted_last c es l e A r.1 p q f g in λ i. record { keys = take (c - s) (drop s (ks ++ more)); values = take (c - s) (drop s (xs ++ plus)) } ∷ t i

  -- one more part
  pub parted_more : (s : ℕ) (es : List ℕ) (n e : ℕ) → RiseTo s es n → n ≡ length ks → n ≡ length xs → e ≡ n + length more → e ≡ n + length plus
      → parted (ks ++ more) (xs ++ plus) s (es ++ e ∷ []) ≡ parted ks xs s es ++ record { keys = more; values = plus } ∷ []
  parted_more s es n e r p q f g = parted_last s es n e [] r p q f g ∙ ap (λ A. A ++ record { keys = more; values = plus } ∷ []) (parted_same s n es r p q)

pub rise_more : (s : ℕ) (es : List ℕ) (n e : ℕ) → RiseTo s es n → n < e → RiseTo s (es ++ e ∷ []) e
rise_more s [] n e r h = (let z : s ≡ n = r in omega arith, refl)
rise_more s (c ∷ es) n e r h = (r.0, rise_more c es n e r.1 h)

-- the part of the pairs is the batch of their keys and values
pub part_of : {K V A B : Type 0} (ps qs part : List (Arc K A × Arc V B)) (es fs : List ℕ) (at : ℕ) (T : List (Answered K V)) → parted (keys_in ps) (values_in ps) 0 es ≡ T → qs ≡ ps → fs ≡ es
    → part ≡ take (begins 0 fs (at + 1) - begins 0 fs at) (drop (begins 0 fs at) qs) → at < length es → drop at T ≡ answered_in part ∷ drop (at + 1) T
part_of {K} {V} {A} {B} ps qs part es fs at T v p f e h =
    let b : part ≡ take (begins 0 es (at + 1) - begins 0 es at) (drop (begins 0 es at) ps) = e ∙ (λ i. take (begins 0 (f i) (at + 1) - begins 0 (f i) at) (drop (begins 0 (f i) at) (p i))) in
    let n : suc at ≡ at + 1 = omega arith in
    let d : drop at (parted (keys_in ps) (values_in ps) 0 es) ≡ answered_in part ∷ drop (at + 1) (parted (keys_in ps) (values_in ps) 0 es)
    = subst (λ k. drop at (parted (keys_in ps) (values_in ps) 0 es) ≡ record { keys = take (begins 0 es k - begins 0 es at) (drop (begins 0 es at) (keys_in ps)); values = take (begins 0 es k - begins 0 es at) (drop (begins 0 es at) (values_in ps)) } ∷ drop k (parted (keys_in ps) (values_in ps) 0 es)) n (parted_drop (keys_in ps) (values_in ps) 0 at es h)
    ∙ ap (λ a. a ∷ drop (at + 1) (parted (keys_in ps) (values_in ps) 0 es)) (λ i. record { keys = sym (mapped (λ p. arc_value p.0) b) i; values = sym (mapped (λ p. arc_value p.1) b) i }) in
    subst (λ S. drop at S ≡ answered_in part ∷ drop (at + 1) S) v d
  where
    mapped : {X : Type 0} (f : Arc K A × Arc V B → X) → part ≡ take (begins 0 es (at + 1) - begins 0 es at) (drop (begins 0 es at) ps) → map f part ≡ take (begins 0 es (at + 1) - begins 0 es at) (drop (begins 0 es at) (map f ps))
    mapped f b = ap (map f) b ∙ (sym (take-map f (begins 0 es (at + 1) - begins 0 es at) (drop (begins 0 es at) ps)) ∙ ap (take (begins 0 es (at + 1) - begins 0 es at)) (sym (drop-map f (begins 0 es at) ps)))

-- a batch that is added after the pairs
module _ {K V A B : Type 0} (ps qs : List (Arc K A × Arc V B)) where
  pub pushed_rise : (more : List K) (es fs : List ℕ) (n : ℕ) → RiseTo 0 es (length ps) → fs ≡ es ++ n ∷ [] → n ≡ length qs → keys_in qs ≡ keys_in ps ++ more → 0 < length more → RiseTo 0 fs (length qs)
  pushed_rise more es fs n r f l k h =
      let a = ap length k in
      let b = length-append (keys_in ps) more in
      let c = length-map ps (λ (p : Arc K A × Arc V B). arc_value p.0) in
      let d = length-map qs (λ (p : Arc K A × Arc V B). arc_value p.0) in
      let m : length ps < n = omega arith in
      subst (λ i. RiseTo 0 fs i) l (subst (λ es. RiseTo 0 es n) (sym f) (rise_more 0 es (length ps) n r m))

  pub pushed_parts : (more : List K) (plus : List V) (es fs : List ℕ) (n : ℕ) (T : List (Answered K V)) → RiseTo 0 es (length ps) → fs ≡ es ++ n ∷ [] → n ≡ length qs → keys_in qs ≡ keys_in ps ++ more → values_in qs ≡ values_in ps ++ plus
      → parted (keys_in ps) (values_in ps) 0 es ≡ T → parted (keys_in qs) (values_in qs) 0 fs ≡ T ++ record { keys = more; values = plus } ∷ []
  pushed_parts more plus es fs n T r f l k x v =
      let a = ap length k in
      let b = length-append (keys_in ps) more in
      let c = length-map ps (λ (p : Arc K A × Arc V B). arc_value p.0) in
      let d = length-map qs (λ (p : Arc K A × Arc V B). arc_value p.0) in
      let a' = ap length x in
      let b' = length-append (values_in ps) plus in
      let c' = length-map ps (λ (p : Arc K A × Arc V B). arc_value p.1) in
      let d' = length-map qs (λ (p : Arc K A × Arc V B). arc_value p.1) in
      (λ i. parted (k i) (x i) 0 (f i)) ∙ (parted_more (keys_in ps) more (values_in ps) plus 0 es (length ps) n r (omega arith) (omega arith) (omega arith) (omega arith) ∙ ap (λ S. S ++ record { keys = more; values = plus } ∷ []) v)

-- a trace with the same pairs and ends is the same
pub same_trace : {K V A B : Type 0} (ps qs : List (Arc K A × Arc V B)) (es fs : List ℕ) (T : List (Answered K V)) → qs ≡ ps → fs ≡ es → parted (keys_in ps) (values_in ps) 0 es ≡ T → parted (keys_in qs) (values_in qs) 0 fs ≡ T
same_trace ps qs es fs T e f v = (λ i. parted (keys_in (e i)) (values_in (e i)) 0 (f i)) ∙ v

pub on_err : {X E P : Type 0} (r : Result X E) → P → OnErr r P
on_err (Ok x) p = tt
on_err (Err e) p = p
