-- The labels of a cycle, from the least on.
use Rattle.std.proofs.Common.{◌≡◌, ◌<◌, inl, inr, ℕ, zero, suc, Bool, true, false, List, [], ◌∷◌, ◌++◌, length, take, drop, get_or, ◌+◌, add-one, refl, sym, ap, ◌∙◌, subst, arith}
use Rattle.std.specs.Ordering.{nat_cmp, is_gt, is_lt, ordering_reverse}
use Rattle.std.specs.declared.cmp.Ordering.{Ordering}
use Rattle.std.specs.declared.cmp.Ordering.TheVariants.{Less, Equal, Greater}
use Rattle.std.specs.Cmp.Lexicographic.{slice_cmp, nat_list_cmp_total}
use Rattle.std.specs.List.{AllByRecursion}
use Rattle.std.proofs.lemmas.Cmp.{upto, tied_itself}
use Rattle.std.proofs.Math.Seq.{drop-cons}
use Rattle.action_digest.specs.declared.key.Key.{Key}
use Rattle.action_digest.specs.declared.key.Key.TheVariants as key
use Rattle.action_digest.specs.declared.value.Value.{Value}
use Rattle.action_digest.specs.Cycles.{keys_of, labels_of, IsAtMost, BeginsWithLeast, IsLabelCycle, ReachesFirst}
use Rattle.action_digest.proofs.Rounds.{Cycle, turned_many, leads_many, is_in_turn}
use Rattle.lists.proofs.Each.{all_append, all_take}
use Rattle.lists.specs.Lists.{AreDistinct, Has}

-- ---- the order

less_is : (o : Ordering) → is_lt o ≡ true → is_gt o ≡ false
less_is Less e = refl
less_is Equal e = refl
less_is Greater e = cc

turned_order : (o : Ordering) → is_lt (ordering_reverse o) ≡ false → is_gt o ≡ false
turned_order Less e = refl
turned_order Equal e = refl
turned_order Greater e = cc

at_most_itself : (l : List ℕ) → IsAtMost l l
at_most_itself l = ap is_gt (tied_itself nat_list_cmp_total l)

module _ {X : Type 0} (P : X → Type 0) where
  all_drop : (n : ℕ) (xs : List X) → AllByRecursion P xs → AllByRecursion P (drop n xs)
  all_drop zero [] a = tt
  all_drop zero (x ∷ xs) a = a
  all_drop (suc n) [] a = tt
  all_drop (suc n) (x ∷ xs) a = all_drop n xs a.1

all_more : {X : Type 0} (P Q : X → Type 0) (xs : List X) → ((x : X) → P x → Q x) → AllByRecursion P xs → AllByRecursion Q xs
all_more P Q [] f a = tt
all_more P Q (x ∷ xs) f a = (f x a.0, all_more P Q xs f a.1)

-- one label more is looked at: it is less than the least so far, or not
less_more : (l m : List ℕ) (xs : List (List ℕ)) → is_lt (slice_cmp nat_cmp m l) ≡ true → AllByRecursion (IsAtMost l) xs → AllByRecursion (IsAtMost m) (xs ++ m ∷ [])
less_more l m xs e a =
    all_append (IsAtMost m) xs (m ∷ []) (all_more (IsAtMost l) (IsAtMost m) xs (λ x h. upto nat_list_cmp_total m l x (less_is (slice_cmp nat_cmp m l) e) h) a) (at_most_itself m, tt)

other_more : (l m : List ℕ) (xs : List (List ℕ)) → is_lt (slice_cmp nat_cmp m l) ≡ false → AllByRecursion (IsAtMost l) xs → AllByRecursion (IsAtMost l) (xs ++ m ∷ [])
other_more l m xs e a =
    all_append (IsAtMost l) xs (m ∷ []) a (turned_order (slice_cmp nat_cmp l m) (sym (ap is_lt (nat_list_cmp_total.antisymm m l)) ∙ e), tt)

place : (ls : List (List ℕ)) (i : ℕ) (x : List ℕ) → i < length ls → x ≡ get_or ls i x → x ≡ get_or ls i []
place [] i x h e = absurd (omega arith)
place (l ∷ ls) zero x h e = e
place (l ∷ ls) (suc i) x h e = place ls i x (omega arith) e

take_next : (ls : List (List ℕ)) (i : ℕ) → i < length ls → take (suc i) ls ≡ take i ls ++ get_or ls i [] ∷ []
take_next [] i h = absurd (omega arith)
take_next (l ∷ []) zero h = refl
take_next (l ∷ m ∷ ls) zero h = refl
take_next (l ∷ ls) (suc i) h = ap (λ (ms : List (List ℕ)). l ∷ ms) (take_next ls i (omega arith))

one_more : (ls : List (List ℕ)) (i : ℕ) (P : List (List ℕ) → Type 0) → i < length ls → P (take i ls ++ get_or ls i [] ∷ []) → P (take (i + 1) ls)
one_more ls i P h a = subst P (sym (ap (λ (n : ℕ). take n ls) (add-one i) ∙ take_next ls i h)) a

-- one place more of a list of labels is looked at
module _ (ls : List (List ℕ)) (i n : ℕ) (x y : List ℕ) (in_i : i < length ls) (in_n : n < length ls) (x_is : x ≡ get_or ls i x) (y_is : y ≡ get_or ls n y) where
  compared : (b : Bool) → is_lt (slice_cmp nat_cmp x y) ≡ b → is_lt (slice_cmp nat_cmp (get_or ls i []) (get_or ls n [])) ≡ b
  compared b e = sym (ap (λ (z : List ℕ). is_lt (slice_cmp nat_cmp z y)) (place ls i x in_i x_is) ∙ ap (λ (z : List ℕ). is_lt (slice_cmp nat_cmp (get_or ls i []) z)) (place ls n y in_n y_is)) ∙ e

  pub less_next : is_lt (slice_cmp nat_cmp x y) ≡ true → AllByRecursion (IsAtMost (get_or ls n [])) (take i ls) → AllByRecursion (IsAtMost (get_or ls i [])) (take (i + 1) ls)
  less_next e a = one_more ls i (AllByRecursion (IsAtMost (get_or ls i []))) in_i (less_more (get_or ls n []) (get_or ls i []) (take i ls) (compared true e) a)

  pub other_next : is_lt (slice_cmp nat_cmp x y) ≡ false → AllByRecursion (IsAtMost (get_or ls n [])) (take i ls) → AllByRecursion (IsAtMost (get_or ls n [])) (take (i + 1) ls)
  other_next e a = one_more ls i (AllByRecursion (IsAtMost (get_or ls n []))) in_i (other_more (get_or ls n []) (get_or ls i []) (take i ls) (compared false e) a)

begins : (ls : List (List ℕ)) (i : ℕ) → i < length ls → AllByRecursion (IsAtMost (get_or ls i [])) ls → BeginsWithLeast (drop i ls ++ take i ls)
begins ls i h a =
    subst (λ (xs : List (List ℕ)). BeginsWithLeast (xs ++ take i ls)) (sym (drop-cons ls i [] h))
    (all_append (IsAtMost (get_or ls i [])) (drop (suc i) ls) (take i ls) (all_drop (IsAtMost (get_or ls i [])) (suc i) ls a) (all_take (IsAtMost (get_or ls i [])) i ls a))

-- ---- the labels

keys_append : (xs ys : List (List ℕ)) → keys_of (xs ++ ys) ≡ keys_of xs ++ keys_of ys
keys_append [] ys = refl
keys_append (x ∷ xs) ys = ap (λ ks. key.Digest x ∷ key.Action x ∷ ks) (keys_append xs ys)

has_key : (ls : List (List ℕ)) (l : List ℕ) → Has ls l → Has (keys_of ls) (key.Digest l)
has_key [] l h = absurd h
has_key (m ∷ ls) l (inl e) = inl (ap key.Digest e)
has_key (m ∷ ls) l (inr h) = inr (inr (has_key ls l h))

pub distinct_labels : (ls : List (List ℕ)) → AreDistinct (keys_of ls) → AreDistinct ls
distinct_labels [] d = tt
distinct_labels (l ∷ ls) d = ((λ h. d.0 (inr (has_key ls l h))), distinct_labels ls d.1.1)

parted : (i : ℕ) (ls : List (List ℕ)) → take i ls ++ drop i ls ≡ ls
parted zero [] = refl
parted zero (l ∷ ls) = refl
parted (suc i) [] = refl
parted (suc i) (l ∷ ls) = ap (λ ms. l ∷ ms) (parted i ls)

module _ (C : List (List (Key × Value))) (v : ℕ) where
  distinct_cycle : (ks : List Key) → Cycle C v ks → AreDistinct ks
  distinct_cycle [] c = absurd c
  distinct_cycle (k ∷ ks) c = c.0

  pub cycle_labels : (ks : List Key) → Cycle C v ks → Cycle C v (keys_of (labels_of ks))
  cycle_labels ks c = let t = is_in_turn C v ks c in subst (Cycle C v) t.turn (turned_many C v t.front t.back (subst (Cycle C v) t.parts c))

  lead_labels : (a : Key) (ks : List Key) → Cycle C v ks → ReachesFirst C v a ks → ReachesFirst C v a (keys_of (labels_of ks))
  lead_labels a ks c r =
      let t = is_in_turn C v ks c in
      subst (ReachesFirst C v a) t.turn (leads_many C v a t.front t.back (subst (Cycle C v) t.parts c) (subst (ReachesFirst C v a) t.parts r))

  pub labels_distinct : (ks : List Key) → Cycle C v ks → AreDistinct (labels_of ks)
  labels_distinct ks c = distinct_labels (labels_of ks) (distinct_cycle (keys_of (labels_of ks)) (cycle_labels ks c))

  parts_of : (i : ℕ) (ls : List (List ℕ)) → keys_of ls ≡ keys_of (take i ls) ++ keys_of (drop i ls)
  parts_of i ls = ap keys_of (sym (parted i ls)) ∙ keys_append (take i ls) (drop i ls)

  from_place : (i : ℕ) (ls : List (List ℕ)) → Cycle C v (keys_of ls) → Cycle C v (keys_of (drop i ls ++ take i ls))
  from_place i ls c = subst (Cycle C v) (sym (keys_append (drop i ls) (take i ls))) (turned_many C v (keys_of (take i ls)) (keys_of (drop i ls)) (subst (Cycle C v) (parts_of i ls) c))

  lead_place : (a : Key) (i : ℕ) (ls : List (List ℕ)) → Cycle C v (keys_of ls) → ReachesFirst C v a (keys_of ls) → ReachesFirst C v a (keys_of (drop i ls ++ take i ls))
  lead_place a i ls c r =
      subst (ReachesFirst C v a) (sym (keys_append (drop i ls) (take i ls)))
      (leads_many C v a (keys_of (take i ls)) (keys_of (drop i ls)) (subst (Cycle C v) (parts_of i ls) c) (subst (ReachesFirst C v a) (parts_of i ls) r))

  some_labels : (ls : List (List ℕ)) → Cycle C v (keys_of ls) → 0 < length ls
  some_labels [] c = absurd c
  some_labels (l ∷ ls) c = omega arith

  -- the labels of a cycle of keys, from the place of the least on
  from_least : (ks : List Key) (ls : List (List ℕ)) (i : ℕ) → ls ≡ drop i (labels_of ks) ++ take i (labels_of ks) → (0 < length (labels_of ks) → i < length (labels_of ks)) → AllByRecursion (IsAtMost (get_or (labels_of ks) i [])) (labels_of ks) → Cycle C v ks → IsLabelCycle C v ls
  from_least ks ls i e h a c =
      let d : Cycle C v (keys_of (labels_of ks)) = cycle_labels ks c in
      let g : Cycle C v (keys_of ls) = subst (λ (ms : List (List ℕ)). Cycle C v (keys_of ms)) (sym e) (from_place i (labels_of ks) d) in
      record {
        cycle = g;
        distinct = distinct_labels ls (distinct_cycle (keys_of ls) g);
        least = subst BeginsWithLeast (sym e) (begins (labels_of ks) i (h (some_labels (labels_of ks) d)) a);
      }

  pub from_least_of : (ks : List Key) (ls all : List (List ℕ)) (i : ℕ) → all ≡ labels_of ks → ls ≡ drop i all ++ take i all → (0 < length all → i < length all) → AllByRecursion (IsAtMost (get_or all i [])) all → Cycle C v ks → IsLabelCycle C v ls
  from_least_of ks ls all i q e h a c =
      from_least ks ls i (e ∙ ap (λ (xs : List (List ℕ)). drop i xs ++ take i xs) q) (subst (λ (xs : List (List ℕ)). 0 < length xs → i < length xs) q h) (subst (λ (xs : List (List ℕ)). AllByRecursion (IsAtMost (get_or xs i [])) xs) q a) c

  pub leads_least : (a : Key) (ks : List Key) (ls : List (List ℕ)) (all : List (List ℕ)) (i : ℕ) → all ≡ labels_of ks → ls ≡ drop i all ++ take i all → Cycle C v ks → ReachesFirst C v a ks → ReachesFirst C v a (keys_of ls)
  leads_least a ks ls all i q e c r = subst (λ (ms : List (List ℕ)). ReachesFirst C v a (keys_of ms)) (sym (e ∙ ap (λ (xs : List (List ℕ)). drop i xs ++ take i xs) q)) (lead_place a i (labels_of ks) (cycle_labels ks c) (lead_labels a ks c r))
