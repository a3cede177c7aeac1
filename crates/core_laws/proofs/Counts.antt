-- Lists of exactly the things that pass a test, and how many there are.
use Rattle.std.proofs.Common.{◌≡◌, ◌⊎◌, inl, inr, ◌+◌, ℕ, suc, Bool, true, false, List, [], ◌∷◌, ◌++◌, length, refl, sym, ◌∙◌, subst, arith, length-append}
use Rattle.core_laws.specs.Desk.{AreAll, IsCount}
use Rattle.lists.proofs.Distinct.{distinct_end}
use Rattle.lists.proofs.Members.{has_end, has_last, has_more}
use Rattle.lists.specs.Lists.{AreDistinct, Has}

module _ {X : Type 0} where
  -- the same test by other words
  pub all_alike : (f g : X → Bool) → ((x : X) → g x ≡ f x) → (xs : List X) → AreAll f xs → AreAll g xs
  all_alike f g e xs a = record { passes = λ x h. e x ∙ a.passes x h; found = λ x h. a.found x (sym (e x) ∙ h); distinct = a.distinct }

  pub count_alike : (f g : X → Bool) → ((x : X) → g x ≡ f x) → (n : ℕ) → IsCount f n → IsCount g n
  count_alike f g e n c = record { all = c.all; are = all_alike f g e c.all c.are; count = c.count }

  -- one thing more passes the test
  pub all_more : (f g : X → Bool) (y : X) → f y ≡ false → g y ≡ true → ((x : X) → (y ≡ x → ⊥) → g x ≡ f x) → ((x : X) → (y ≡ x) ⊎ (y ≡ x → ⊥)) → (xs : List X) → AreAll f xs → AreAll g (xs ++ y ∷ [])
  all_more f g y off on e test xs a = record {
    passes = λ x h. elim (has_last xs y x h) as (λ _. g x ≡ true) [
      | inl i ↦ elim (test x) as (λ _. g x ≡ true) [ inl q ↦ subst (λ z. g z ≡ true) q on | inr q ↦ e x q ∙ a.passes x i ]
      | inr q ↦ subst (λ z. g z ≡ true) q on
    ];
    found = λ x h. elim (test x) as (λ _. Has (xs ++ y ∷ []) x) [ inl q ↦ subst (λ z. Has (xs ++ y ∷ []) z) q (has_end xs y) | inr q ↦ has_more xs y x (a.found x (sym (e x q) ∙ h)) ];
    distinct = distinct_end xs y a.distinct (λ h. let c : true ≡ false = sym (a.passes y h) ∙ off in cc);
  }

  pub count_more : (f g : X → Bool) (y : X) → f y ≡ false → g y ≡ true → ((x : X) → (y ≡ x → ⊥) → g x ≡ f x) → ((x : X) → (y ≡ x) ⊎ (y ≡ x → ⊥)) → (n : ℕ) → IsCount f n → IsCount g (suc n)
  count_more f g y off on e test n c = record {
    all = c.all ++ y ∷ [];
    are = all_more f g y off on e test c.all c.are;
    count = (let h : length (c.all ++ y ∷ []) ≡ length c.all + 1 = length-append c.all (y ∷ []) in let i = c.count in omega arith);
  }

  -- of a list that has y once: the rest
  pub record Rest (y : X) (xs : List X) : Type 0 where
    pub rest : List X
    pub fewer : suc (length rest) ≡ length xs
    pub among : (x : X) → Has rest x → Has xs x × (y ≡ x → ⊥)
    pub others : (x : X) → Has xs x → (y ≡ x → ⊥) → Has rest x
    pub distinct : AreDistinct rest

  pub rest_of : (y : X) → ((x : X) → (y ≡ x) ⊎ (y ≡ x → ⊥)) → (xs : List X) → AreDistinct xs → Has xs y → Rest y xs
  rest_of y test [] d h = absurd h
  rest_of y test (z ∷ xs) d h = by_test (test z) h (λ i. rest_of y test xs d.1 i)
    where
      by_test : (y ≡ z) ⊎ (y ≡ z → ⊥) → Has (z ∷ xs) y → (Has xs y → Rest y xs) → Rest y (z ∷ xs)
      by_test (inl e) i again = record {
        rest = xs;
        fewer = refl;
        among = λ x j. (inr j, (λ q. d.0 (subst (Has xs) (sym q ∙ e) j)));
        others = λ x j n. elim j as (λ _. Has xs x) [ inl q ↦ absurd (n (e ∙ q)) | inr i ↦ i ];
        distinct = d.1;
      }
      by_test (inr n) (inl e) again = absurd (n (sym e))
      by_test (inr n) (inr i) again =
          let r = again i in record {
            rest = z ∷ r.rest;
            fewer = (let h = r.fewer in omega arith);
            among = λ x j. elim j as (λ _. Has (z ∷ xs) x × (y ≡ x → ⊥)) [ inl q ↦ (inl q, (λ p. n (p ∙ sym q))) | inr k ↦ (inr (r.among x k).0, (r.among x k).1) ];
            others = λ x j m. elim j as (λ _. Has (z ∷ r.rest) x) [ inl q ↦ inl q | inr k ↦ inr (r.others x k m) ];
            distinct = ((λ j. d.0 (r.among z j).0), r.distinct);
          }

  -- one thing fewer passes the test: the list may be any that has the others
  pub all_fewer : (f g : X → Bool) (y : X) → g y ≡ false → ((x : X) → (y ≡ x → ⊥) → g x ≡ f x) → ((x : X) → (y ≡ x) ⊎ (y ≡ x → ⊥)) → (xs ys : List X) → AreAll f xs
      → ((x : X) → Has ys x → Has xs x × (y ≡ x → ⊥)) → ((x : X) → Has xs x → (y ≡ x → ⊥) → Has ys x) → AreDistinct ys → AreAll g ys
  all_fewer f g y off e test xs ys a among others d = record {
    passes = λ x h. let i = among x h in e x i.1 ∙ a.passes x i.0;
    found = λ x h. elim (test x) as (λ _. Has ys x) [
      | inl q ↦ absurd (let c : true ≡ false = sym h ∙ subst (λ z. g z ≡ false) q off in cc)
      | inr q ↦ others x (a.found x (sym (e x q) ∙ h)) q
    ];
    distinct = d;
  }

  pub count_fewer : (f g : X → Bool) (y : X) → f y ≡ true → g y ≡ false → ((x : X) → (y ≡ x → ⊥) → g x ≡ f x) → ((x : X) → (y ≡ x) ⊎ (y ≡ x → ⊥)) → (n : ℕ) → IsCount f n → (l : ℕ) × (n ≡ suc l) × IsCount g l
  count_fewer f g y on off e test n c =
      let r = rest_of y test c.all c.are.distinct (c.are.found y on) in (
        length r.rest,
        (let h = r.fewer in let i = c.count in omega arith),
        record { all = r.rest; are = all_fewer f g y off e test c.all r.rest c.are r.among r.others r.distinct; count = refl },
      )

  -- a thing that passes is counted
  pub counted : (f : X → Bool) (y : X) → f y ≡ true → ((x : X) → (y ≡ x) ⊎ (y ≡ x → ⊥)) → (n : ℕ) → IsCount f n → (l : ℕ) × (n ≡ suc l)
  counted f y on test n c = let r = rest_of y test c.all c.are.distinct (c.are.found y on) in (length r.rest, (let h = r.fewer in let i = c.count in omega arith))
