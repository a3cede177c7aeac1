-- Parts of lists whose elements stand once.
use Rattle.std.proofs.Common.{inl, inr, List, [], ◌∷◌, ◌++◌, refl, sym, subst}
use Rattle.core_laws.specs.Desk.{Loses}
use Rattle.dice_tasks.specs.Hands.{Gains, Stays}
use Rattle.lists.proofs.Distinct.{apart, distinct_left, distinct_right}
use Rattle.lists.proofs.Members.{has_either, has_left, has_right}
use Rattle.lists.specs.Lists.{AreDistinct, Has}

module _ {X : Type 0} where
  -- the same elements
  pub record Same (xs ys : List X) : Type 0 where
    pub there : (x : X) → Has xs x → Has ys x
    pub back : (x : X) → Has ys x → Has xs x

  -- the first part has one element more, and the whole the same elements: the other part has lost it
  pub moves_left : (A B C : List X) (p : X) → AreDistinct (A ++ B) → AreDistinct ((A ++ p ∷ []) ++ C) → Same (A ++ B) ((A ++ p ∷ []) ++ C) → Loses p B C
  moves_left A B C p d e s = record {
    among = λ x h. (
      elim (has_either A B x (s.back x (has_right (A ++ p ∷ []) C x h))) [ inl l ↦ absurd (apart (A ++ p ∷ []) C x e (has_left A (p ∷ []) x l) h) | inr r ↦ r ],
      λ q. apart (A ++ p ∷ []) C x e (has_right A (p ∷ []) x (inl q)) h,
    );
    others = λ x h n. elim (has_either (A ++ p ∷ []) C x (s.there x (has_right A B x h))) [ inl l ↦ elim (has_either A (p ∷ []) x l) [ inl a ↦ absurd (apart A B x d a h) | inr b ↦ elim b [ inl q ↦ absurd (n q) | inr z ↦ absurd z ] ] | inr r ↦ r ];
    distinct = distinct_right (A ++ p ∷ []) C e;
  }

  -- the first part stays, and the whole has one element fewer: the other part has lost it
  pub leaves_right : (A B C : List X) (p : X) → AreDistinct (A ++ B) → AreDistinct (p ∷ (A ++ C)) → Same (A ++ B) (p ∷ (A ++ C)) → Loses p B C
  leaves_right A B C p d e s = record {
    among = λ x h. (
      elim (has_either A B x (s.back x (inr (has_right A C x h)))) [ inl l ↦ absurd (apart A C x e.1 l h) | inr r ↦ r ],
      λ q. e.0 (subst (λ z. Has (A ++ C) z) (sym q) (has_right A C x h)),
    );
    others = λ x h n. elim (s.there x (has_right A B x h)) [ inl q ↦ absurd (n q) | inr r ↦ elim (has_either A C x r) [ inl a ↦ absurd (apart A B x d a h) | inr c ↦ c ] ];
    distinct = distinct_right A C e.1;
  }

  -- an element is put between the two parts, and the second part is laid anew
  pub comes_between : (A B C : List X) (p : X) → AreDistinct ((A ++ B) ++ p ∷ []) → AreDistinct ((A ++ p ∷ []) ++ C) → Same ((A ++ B) ++ p ∷ []) ((A ++ p ∷ []) ++ C) → Stays B C
  comes_between A B C p d e s = record {
    kept = λ x h. elim (has_either (A ++ p ∷ []) C x (s.there x (has_left (A ++ B) (p ∷ []) x (has_right A B x h)))) [
      | inl l ↦ elim (has_either A (p ∷ []) x l) [
        | inl a ↦ absurd (apart A B x (distinct_left (A ++ B) (p ∷ []) d) a h)
        | inr b ↦ absurd (apart (A ++ B) (p ∷ []) x d (has_right A B x h) b)
      ]
      | inr r ↦ r
    ];
    only = λ x h. elim (has_either (A ++ B) (p ∷ []) x (s.back x (has_right (A ++ p ∷ []) C x h))) [
      | inl l ↦ elim (has_either A B x l) [ inl a ↦ absurd (apart (A ++ p ∷ []) C x e (has_left A (p ∷ []) x a) h) | inr b ↦ b ]
      | inr r ↦ absurd (apart (A ++ p ∷ []) C x e (has_right A (p ∷ []) x r) h)
    ];
    distinct = distinct_right (A ++ p ∷ []) C e;
  }

  -- the last element of the first part becomes the first of the second
  pub goes_over : (A B : List X) (p : X) → AreDistinct ((A ++ p ∷ []) ++ B) → Gains p B (p ∷ B)
  goes_over A B p d = record {
    came = inl refl;
    kept = λ x h. inr h;
    only = λ x h. elim h [ inl q ↦ inr q | inr r ↦ inl r ];
    distinct = (λ h. apart (A ++ p ∷ []) B p d (has_right A (p ∷ []) p (inl refl)) h, distinct_right (A ++ p ∷ []) B d);
  }

  -- a list in another order but for its last
  pub loses_last : (A D : List X) (p : X) → AreDistinct (D ++ p ∷ []) → Same A (D ++ p ∷ []) → Loses p A D
  loses_last A D p d s = record {
    among = λ x h. (s.back x (has_left D (p ∷ []) x h), λ q. apart D (p ∷ []) x d h (inl q));
    others = λ x h n. elim (has_either D (p ∷ []) x (s.there x h)) [ inl l ↦ l | inr r ↦ elim r [ inl q ↦ absurd (n q) | inr z ↦ absurd z ] ];
    distinct = distinct_left D (p ∷ []) d;
  }

  -- what has lost its first has the others
  pub loses_first : (B C : List X) (p : X) → AreDistinct (p ∷ B) → Loses p (p ∷ B) C → Stays B C
  loses_first B C p d l = record {
    kept = λ x h. l.others x (inr h) (λ q. d.0 (subst (λ z. Has B z) (sym q) h));
    only = λ x h. let a = l.among x h in elim a.0 [ inl q ↦ absurd (a.1 q) | inr r ↦ r ];
    distinct = l.distinct;
  }

  -- two lists with the same elements, and the same rest, have the same first parts
  pub same_front : (A D B : List X) → AreDistinct (A ++ B) → AreDistinct (D ++ B) → Same (A ++ B) (D ++ B) → Same A D
  same_front A D B d e s = record {
    there = λ x h. elim (has_either D B x (s.there x (has_left A B x h))) [ inl l ↦ l | inr r ↦ absurd (apart A B x d h r) ];
    back = λ x h. elim (has_either A B x (s.back x (has_left D B x h))) [ inl l ↦ l | inr r ↦ absurd (apart D B x e h r) ];
  }
