-- What a longer list says of each number.
use Rattle.std.proofs.Common.{◌≡◌, ◌≢◌, ℕ, ◌≤◌, Bool, true, false, if◌then◌else◌, List, [], ◌∷◌, ◌++◌, Option, Some, None, refl, sym, ap, ◌∙◌, append_assoc, append-nil, ne_eqb, length, length-append, arith, drop, get_or}
use Rattle.turnstile.specs.Events.{StartsWith, has_number, events_by, IsBelow, AllBelow, IsOwn, AllOwn}
use Rattle.turnstile.specs.Seats.{EachNote}
use Rattle.turnstile.specs.Rule.{Misses, OnceEach}
use Rattle.turnstile.specs.declared.view.Note.{Note}

module _ {E : Type 0} (by : E → Option ℕ) where
  either_way : (x : E) (both xs ys : List E) (b : Bool) → both ≡ xs ++ ys → (if b then x ∷ both else both) ≡ (if b then x ∷ xs else xs) ++ ys
  either_way x both xs ys true e = ap (λ (l : List E). x ∷ l) e
  either_way x both xs ys false e = e

  pub events_by-append : (n : ℕ) (xs ys : List E) → events_by by n (xs ++ ys) ≡ events_by by n xs ++ events_by by n ys
  events_by-append n [] ys = refl
  events_by-append n (x ∷ xs) ys = either_way x (events_by by n (xs ++ ys)) (events_by by n xs) (events_by by n ys) (has_number n (by x)) (events_by-append n xs ys)

  not_own : (n m w : ℕ) (o : Option ℕ) → n ≢ m → IsOwn m w o → has_number n o ≡ false
  not_own n m w None apart own = refl
  not_own n m w (Some k) apart own = ne_eqb k n (λ e. apart (sym e ∙ own.0))

  -- events of one number have none of another
  pub none_of : (n m w : ℕ) (es : List E) → n ≢ m → AllOwn by m w es → events_by by n es ≡ []
  none_of n m w [] apart own = refl
  none_of n m w (e ∷ es) apart own =
      ap (λ (b : Bool). if b then e ∷ events_by by n es else events_by by n es) (not_own n m w (by e) apart own.0) ∙ none_of n m w es apart own.1

  own_below : (n m : ℕ) (o : Option ℕ) → IsOwn m n o → IsBelow n o
  own_below n m None own = tt
  own_below n m (Some k) own = own.1

  pub below-append : (n m : ℕ) (xs es : List E) → AllBelow by n xs → AllOwn by m n es → AllBelow by n (xs ++ es)
  below-append n m [] [] all own = tt
  below-append n m [] (e ∷ es) all own = (own_below n m (by e) own.0, below-append n m [] es tt own.1)
  below-append n m (x ∷ xs) es all own = (all.0, below-append n m xs es all.1 own)

  pub whole : (xs : List E) → StartsWith xs xs
  whole xs = ([], sym (append-nil xs))

  pub still_begins : (xs ys es seen : List E) → ys ≡ xs ++ es → StartsWith xs seen → StartsWith ys seen
  still_begins xs ys es seen is pre = (pre.0 ++ es, is ∙ (ap (λ (l : List E). l ++ es) pre.1 ∙ append_assoc seen pre.0 es))

  pub each_map : (P Q : Note E → Type 0) → ((x : Note E) → P x → Q x) → (xs : List (Note E)) → EachNote P xs → EachNote Q xs
  each_map P Q f [] a = tt
  each_map P Q f (x ∷ xs) a = (f x a.0, each_map P Q f xs a.1)

  pub each_both : (P : Note E → Type 0) (xs ys : List (Note E)) → EachNote P xs → EachNote P ys → EachNote P (xs ++ ys)
  each_both P [] ys a b = b
  each_both P (x ∷ xs) ys a b = (a.0, each_both P xs ys a.1 b)

  nothing_more : (xs ys : List E) → length (xs ++ ys) ≤ length xs → ys ≡ []
  nothing_more [] [] l = refl
  nothing_more [] (y ∷ ys) l = absurd (omega arith)
  nothing_more (x ∷ xs) ys l = nothing_more xs ys (omega arith)

  -- a list between two that have the same events of a number has them too
  pub between : (n : ℕ) (xs ys zs es : List E) → StartsWith ys xs → StartsWith zs ys → events_by by n xs ≡ es → events_by by n zs ≡ es → events_by by n ys ≡ es
  between n xs ys zs es low high a b =
      let p : events_by by n ys ≡ es ++ events_by by n low.0 = ap (events_by by n) low.1 ∙ (events_by-append n xs low.0 ∙ ap (λ (l : List E). l ++ events_by by n low.0) a) in
      let q : events_by by n zs ≡ events_by by n ys ++ events_by by n high.0 = ap (events_by by n) high.1 ∙ events_by-append n ys high.0 in
      let lp = ap length p in
      let lq = ap length q in
      let lb = ap length b in
      let none : events_by by n low.0 ≡ [] = nothing_more es (events_by by n low.0)
      (omega (arith, length-append es (events_by by n low.0), length-append (events_by by n ys) (events_by by n high.0))) in
      p ∙ (ap (λ (l : List E). es ++ l) none ∙ append-nil es)

  -- of two beginnings of one list the shorter begins the longer
  pub nested : (all xs ys : List E) → StartsWith all xs → StartsWith all ys → length xs ≤ length ys → StartsWith ys xs
  nested all [] ys p q l = (ys, refl)
  nested all (x ∷ xs) [] p q l = absurd (omega arith)
  nested [] (x ∷ xs) (y ∷ ys) p q l = absurd (cc)
  nested (z ∷ all) (x ∷ xs) (y ∷ ys) p q l =
      let a = nested all xs ys (p.0, ap (drop 1) p.1) (q.0, ap (drop 1) q.1) (omega arith) in
      let heads : y ≡ x = ap (λ (m : List E). get_or m 0 z) (sym q.1 ∙ p.1) in
      (a.0, (λ i. heads i ∷ a.1 i))

  -- a beginning has no event of a number that the whole has none of
  pub none_before : (n : ℕ) (xs seen : List E) → StartsWith xs seen → events_by by n xs ≡ [] → events_by by n seen ≡ []
  none_before n xs seen p none = first_nil (events_by by n seen) (events_by by n p.0) (sym (events_by-append n seen p.0) ∙ (ap (events_by by n) (sym p.1) ∙ none))
    where
      first_nil : (a b : List E) → a ++ b ≡ [] → a ≡ []
      first_nil [] b e = refl
      first_nil (x ∷ a) b e = absurd (cc)

  pub misses_by : (P : Note E → Type 0) (n : ℕ) (xs : List (Note E)) → ((x : Note E) → P x → n ≢ x.number) → EachNote P xs → Misses n xs
  misses_by P n [] f a = tt
  misses_by P n (x ∷ xs) f a = (f x a.0, misses_by P n xs f a.1)

  misses_both : (n : ℕ) (xs ys : List (Note E)) → Misses n xs → Misses n ys → Misses n (xs ++ ys)
  misses_both n [] ys a b = b
  misses_both n (x ∷ xs) ys a b = (a.0, misses_both n xs ys a.1 b)

  once_both : (P Q : Note E → Type 0) (xs ys : List (Note E)) → ((x y : Note E) → P x → Q y → x.number ≢ y.number) → EachNote P xs → EachNote Q ys → OnceEach xs → OnceEach ys → OnceEach (xs ++ ys)
  once_both P Q [] ys f a b o q = q
  once_both P Q (x ∷ xs) ys f a b o q = (misses_both x.number xs ys o.0 (misses_by Q x.number ys (λ y h. f x y a.0 h) b), once_both P Q xs ys f a.1 b o.1 q)

  -- the notes after a join
  pub once_joined : (P Q : Note E → Type 0) (z : Note E) (xs ys : List (Note E)) → ((x y : Note E) → P x → Q y → x.number ≢ y.number) → ((x : Note E) → P x → z.number ≢ x.number) → ((y : Note E) → Q y → z.number ≢ y.number)
      → EachNote P xs → EachNote Q ys → OnceEach xs → OnceEach ys → OnceEach (z ∷ (xs ++ ys))
  once_joined P Q z xs ys f g h a b o q = (misses_both z.number xs ys (misses_by P z.number xs g a) (misses_by Q z.number ys h b), once_both P Q xs ys f a b o q)
