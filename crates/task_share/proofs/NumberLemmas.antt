-- Places by number, and keys that stand by their numbers.
use Rattle.std.proofs.Common.{◌≡◌, ◌<◌, ◌⊎◌, inl, inr, ℕ, suc, zero, Bool, true, false, cond, ◌||◌, List, [], ◌∷◌, ◌++◌, length, map, Option, Some, None, is_some, nat_eq, eq-eqb, eqb-true, refl, sym, ap, ◌∙◌, subst, arith, slice_get, slice_index_or as get_or}
use Rattle.std.specs.Arc.{arc_value}
use Rattle.std.specs.Map.{lookup, set_value, keys_of, values_of}
use Rattle.std.specs.List.{list_any, sum_by, position, position_or_len, IsDistinct, AllByRecursion}
use Rattle.std.proofs.lemmas.List.Sums.{position_or_len_is}
use Rattle.dice_key.proofs.KeySets.{has_any}
use Rattle.task_share.specs.Numbers.{key_at, number_of, waits_by, KeepsNumbers}
use Rattle.task_share.proofs.TableLemmas.{distinct_values}
use Rattle.std.specs.Option.{option_map}
use Rattle.std.specs.declared.sync.Arc.{Arc}
use Rattle.indexmap.specs.IndexMap.{set_value_at, insert_entry}
use Rattle.std.proofs.lemmas.Option.{same_Some, none-some, slice_get_within, slice_get-map, slice_get-get_or}
use Rattle.std.proofs.lemmas.List.Quantifiers.{position-Some}
use Rattle.dice_key.specs.Lawful.{IsEquality}
use Rattle.task_share.specs.Seen.{Share, is_for, has_by, list_for, waits_at}
use Rattle.task_share.specs.Asked.{Tasked}
use Rattle.task_share.specs.Listed.{share_of, entry_of, shares_of, names_of, AreNumbered, IsLinked, IsWhole, kept_name, IsChanged, IsChangedAt}
use Rattle.task_share.specs.declared.place.Place.{Place}
use Rattle.task_share.proofs.PlaceLemmas.{lookup_shares, IsWritten, changed_written}
use Rattle.std.proofs.lemmas.List.{map-append}
use Rattle.lists.proofs.Members.{has_last}
use Rattle.lists.proofs.Places.{get_longer}
use Rattle.lists.specs.Lists.{Has, AreDistinct}

pub turned : {K : Type 0} (eq : K → K → Bool) → IsEquality eq → (x y : K) → eq x y ≡ false → eq y x ≡ false
turned eq law x y e = by_test (eq y x) refl
  where
    by_test : (b : Bool) → eq y x ≡ b → b ≡ false
    by_test true f = absurd (let s = law.same y x f in let g : true ≡ false = sym (law.itself x) ∙ subst (λ z. eq x z ≡ false) s e in cc)
    by_test false f = refl

-- the entry that a look-up finds
pub entry_found : {K X : Type 0} (test : K → Bool) (es : List (K × X)) (x : X) → lookup test es ≡ Some x → (k : K) × Has es (k, x) × (test k ≡ true)
entry_found test [] x e = absurd (none-some x e)
entry_found {K} {X} test (p ∷ es) x e = by_test (test p.0) refl e (entry_found test es x)
  where
    by_test : (b : Bool) → test p.0 ≡ b → cond b (Some p.1) (lookup test es) ≡ Some x → (lookup test es ≡ Some x → (k : K) × Has es (k, x) × (test k ≡ true)) → (k : K) × Has (p ∷ es) (k, x) × (test k ≡ true)
    by_test true t f again = (p.0, inl (ap (λ y. (p.0, y)) (same_Some p.1 x f)), t)
    by_test false t f again = let r = again f in (r.0, inr r.1, r.2)

-- a write keeps all keys, and puts nothing else there
pub keys_set : {K X : Type 0} (test : K → Bool) (es : List (K × X)) (w : X) → keys_of (set_value test es w) ≡ keys_of es
keys_set test [] w = refl
keys_set {K} {X} test (p ∷ es) w = by_test (test p.0) (keys_set test es w)
  where
    by_test : (b : Bool) → keys_of (set_value test es w) ≡ keys_of es → keys_of (cond b ((p.0, w) ∷ es) (p ∷ set_value test es w)) ≡ keys_of (p ∷ es)
    by_test true again = refl
    by_test false again = ap (λ ks. p.0 ∷ ks) again

pub has_set : {K X : Type 0} (test : K → Bool) (es : List (K × X)) (w : X) (e : K × X) → Has (set_value test es w) e → (e.1 ≡ w) ⊎ Has es e
has_set test [] w e h = absurd h
has_set {K} {X} test (p ∷ es) w e h = by_test (test p.0) h (has_set test es w e)
  where
    by_test : (b : Bool) → Has (cond b ((p.0, w) ∷ es) (p ∷ set_value test es w)) e → (Has (set_value test es w) e → (e.1 ≡ w) ⊎ Has es e) → (e.1 ≡ w) ⊎ Has (p ∷ es) e
    by_test true (inl i) again = inl (ap (λ (x : K × X). x.1) (sym i))
    by_test true (inr i) again = inr (inr i)
    by_test false (inl i) again = inr (inl i)
    by_test false (inr i) again = elim (again i) as (λ _. (e.1 ≡ w) ⊎ Has (p ∷ es) e) [ inl s ↦ inl s | inr s ↦ inr (inr s) ]

names_keys : {K A T : Type 0} (es : List (Arc K A × Place K T)) → names_of es ≡ map arc_value (keys_of es)
names_keys [] = refl
names_keys (e ∷ es) = ap (λ ks. arc_value e.0 ∷ ks) (names_keys es)

pub names_at_set : {K A T : Type 0} (es : List (Arc K A × Place K T)) (n : ℕ) (w : Place K T) → names_of (set_value_at es n w) ≡ names_of es
names_at_set [] n w = refl
names_at_set (e ∷ es) zero w = refl
names_at_set (e ∷ es) (suc n) w = ap (λ ks. arc_value e.0 ∷ ks) (names_at_set es n w)

module _ {K A T : Type 0} (eq : K → K → Bool) where
  -- a place whose keys by number still stand by their numbers was written
  pub linked_set : (test : Arc K A → Bool) (es fs : List (Arc K A × Place K T)) (h w : Place K T) → IsLinked eq es → fs ≡ set_value test es w → lookup test es ≡ Some h
      → (AreNumbered (names_of es) h.askers.entries → AreNumbered (names_of es) w.askers.entries) → (AreNumbered (names_of es) h.waits.entries → AreNumbered (names_of es) w.waits.entries) → IsLinked eq fs
  linked_set test es fs h w l set known askers waits = record {
    distinct = subst (IsDistinct (λ a b. eq (arc_value a) (arc_value b))) (sym keys) l.distinct;
    askers = λ e i. subst (λ ns. AreNumbered ns e.1.askers.entries) (sym names) (elim (has_set test es w e (subst (λ xs. Has xs e) set i)) as (λ _. AreNumbered (names_of es) e.1.askers.entries) [
      | inl s ↦ subst (λ (p : Place K T). AreNumbered (names_of es) p.askers.entries) (sym s) (askers (l.askers (found.0, h) found.1))
      | inr s ↦ l.askers e s
    ]);
    waits = λ e i. subst (λ ns. AreNumbered ns e.1.waits.entries) (sym names) (elim (has_set test es w e (subst (λ xs. Has xs e) set i)) as (λ _. AreNumbered (names_of es) e.1.waits.entries) [
      | inl s ↦ subst (λ (p : Place K T). AreNumbered (names_of es) p.waits.entries) (sym s) (waits (l.waits (found.0, h) found.1))
      | inr s ↦ l.waits e s
    ]);
  }
    where
      found : (k : Arc K A) × Has es (k, h) × (test k ≡ true)
      found = entry_found test es h known

      keys : keys_of fs ≡ keys_of es
      keys = ap keys_of set ∙ keys_set test es w

      names : names_of fs ≡ names_of es
      names = names_keys fs ∙ (ap (map arc_value) keys ∙ sym (names_keys es))

  pub names_set : (test : Arc K A → Bool) (es fs : List (Arc K A × Place K T)) (w : Place K T) → fs ≡ set_value test es w → names_of fs ≡ names_of es
  names_set test es fs w set = names_keys fs ∙ (ap (map arc_value) (ap keys_of set ∙ keys_set test es w) ∙ sym (names_keys es))

  module _ (law : IsEquality eq) where
    apart : (es : List (Arc K A × Place K T)) (n : ℕ) (e : Arc K A × Place K T) (a : Arc K A) → AllByRecursion (λ b. eq (arc_value a) (arc_value b) ≡ false) (keys_of es) → slice_get es n ≡ Some e → eq (arc_value a) (arc_value e.0) ≡ false
    apart [] n e a d g = absurd (none-some e g)
    apart (f ∷ es) zero e a d g = subst (λ (x : Arc K A × Place K T). eq (arc_value a) (arc_value x.0) ≡ false) (same_Some f e g) d.0
    apart (f ∷ es) (suc n) e a d g = apart es n e a d.1 g

    clash : (es : List (Arc K A × Place K T)) (m : ℕ) (k : K) (a : Arc K A) → AllByRecursion (λ b. eq (arc_value a) (arc_value b) ≡ false) (keys_of es) → arc_value a ≡ k → slice_get (names_of es) m ≡ Some k → ⊥
    clash [] m k a d e g = none-some k g
    clash (f ∷ es) zero k a d e g = let t : true ≡ false = sym (law.itself k) ∙ (ap (λ x. eq x k) (sym e) ∙ (ap (eq (arc_value a)) (sym (same_Some (arc_value f.0) k g)) ∙ d.0)) in cc
    clash (f ∷ es) (suc m) k a d e g = clash es m k a d.1 e g

    -- a write by number is one by key
    set_at : (es : List (Arc K A × Place K T)) (n : ℕ) (e : Arc K A × Place K T) (w : Place K T) → IsDistinct (λ a b. eq (arc_value a) (arc_value b)) (keys_of es) → slice_get es n ≡ Some e → set_value_at es n w ≡ set_value (λ b. eq (arc_value e.0) (arc_value b)) es w
    unfolding IsDistinct
    set_at [] n e w d g = refl
    set_at (f ∷ es) zero e w d g = let s = same_Some f e g in let t : eq (arc_value e.0) (arc_value f.0) ≡ true = ap (λ (x : Arc K A × Place K T). eq (arc_value e.0) (arc_value x.0)) s ∙ law.itself (arc_value e.0) in rw t refl
    set_at (f ∷ es) (suc n) e w d g = let t = turned eq law (arc_value f.0) (arc_value e.0) (apart es n e f.0 d.0 g) in rw t (ap (λ xs. f ∷ xs) (set_at es n e w d.1 g))

    -- the place of a number is that of its key
    pub lookup_at : (es : List (Arc K A × Place K T)) (n : ℕ) (e : Arc K A × Place K T) → IsDistinct (λ a b. eq (arc_value a) (arc_value b)) (keys_of es) → slice_get es n ≡ Some e → lookup (λ b. eq (arc_value e.0) (arc_value b)) es ≡ Some e.1
    unfolding IsDistinct
    lookup_at [] n e d g = absurd (none-some e g)
    lookup_at (f ∷ es) zero e d g = let s = same_Some f e g in let t : eq (arc_value e.0) (arc_value f.0) ≡ true = ap (λ (x : Arc K A × Place K T). eq (arc_value e.0) (arc_value x.0)) s ∙ law.itself (arc_value e.0) in rw t (ap (λ (x : Arc K A × Place K T). Some x.1) s)
    lookup_at (f ∷ es) (suc n) e d g = let t = turned eq law (arc_value f.0) (arc_value e.0) (apart es n e f.0 d.0 g) in rw t (lookup_at es n e d.1 g)

    pub same_number : (es : List (Arc K A × Place K T)) → IsDistinct (λ a b. eq (arc_value a) (arc_value b)) (keys_of es) → (n m : ℕ) (k : K) → slice_get (names_of es) n ≡ Some k → slice_get (names_of es) m ≡ Some k → n ≡ m
    unfolding IsDistinct
    same_number [] d n m k g h = absurd (none-some k g)
    same_number (f ∷ es) d zero zero k g h = refl
    same_number (f ∷ es) d (suc n) (suc m) k g h = ap suc (same_number es d.1 n m k g h)
    same_number (f ∷ es) d zero (suc m) k g h = absurd (clash es m k f.0 d.0 (same_Some (arc_value f.0) k g) h)
    same_number (f ∷ es) d (suc n) zero k g h = absurd (clash es n k f.0 d.0 (same_Some (arc_value f.0) k h) g)

    set_here : (a : Arc K A) (es : List (Arc K A × Place K T)) (h w : Place K T) → lookup (λ b. eq (arc_value a) (arc_value b)) es ≡ Some h → lookup (λ b. eq (arc_value a) (arc_value b)) (set_value (λ b. eq (arc_value a) (arc_value b)) es w) ≡ Some w
    set_here a [] h w e = absurd (none-some h e)
    set_here a (p ∷ es) h w e = by_test (set_here a es h w) (eq (arc_value a) (arc_value p.0)) refl e
      where
        by_test : (lookup (λ b. eq (arc_value a) (arc_value b)) es ≡ Some h → lookup (λ b. eq (arc_value a) (arc_value b)) (set_value (λ b. eq (arc_value a) (arc_value b)) es w) ≡ Some w) → (b : Bool) → eq (arc_value a) (arc_value p.0) ≡ b → cond b (Some p.1) (lookup (λ b. eq (arc_value a) (arc_value b)) es) ≡ Some h
            → lookup (λ b. eq (arc_value a) (arc_value b)) (cond b ((p.0, w) ∷ es) (p ∷ set_value (λ b. eq (arc_value a) (arc_value b)) es w)) ≡ Some w
        by_test f true t e = rw t refl
        by_test f false t e = rw t (f e)

    set_apart : (a q : Arc K A) (es : List (Arc K A × Place K T)) (w : Place K T) → eq (arc_value a) (arc_value q) ≡ false → lookup (λ b. eq (arc_value q) (arc_value b)) (set_value (λ b. eq (arc_value a) (arc_value b)) es w) ≡ lookup (λ b. eq (arc_value q) (arc_value b)) es
    set_apart a q [] w e = refl
    set_apart a q (p ∷ es) w e = by_test (set_apart a q es w e) (eq (arc_value a) (arc_value p.0)) refl
      where
        other : eq (arc_value a) (arc_value p.0) ≡ true → (b : Bool) → eq (arc_value q) (arc_value p.0) ≡ b → b ≡ false
        other t true u = absurd (let z : true ≡ false = sym (law.itself (arc_value a)) ∙ subst (λ x. eq (arc_value a) x ≡ false) (law.same (arc_value q) (arc_value p.0) u ∙ sym (law.same (arc_value a) (arc_value p.0) t)) e in cc)
        other t false u = refl

        by_test : lookup (λ b. eq (arc_value q) (arc_value b)) (set_value (λ b. eq (arc_value a) (arc_value b)) es w) ≡ lookup (λ b. eq (arc_value q) (arc_value b)) es → (b : Bool) → eq (arc_value a) (arc_value p.0) ≡ b
            → lookup (λ b. eq (arc_value q) (arc_value b)) (cond b ((p.0, w) ∷ es) (p ∷ set_value (λ b. eq (arc_value a) (arc_value b)) es w)) ≡ cond (eq (arc_value q) (arc_value p.0)) (Some p.1) (lookup (λ b. eq (arc_value q) (arc_value b)) es)
        by_test f true t = let u = other t (eq (arc_value q) (arc_value p.0)) refl in rw u refl
        by_test f false t = ap (cond (eq (arc_value q) (arc_value p.0)) (Some p.1)) f

    -- a place that was written by number
    pub written_at : (es fs : List (Arc K A × Place K T)) (n : ℕ) (a : Arc K A) (h w : Place K T) → IsDistinct (λ a b. eq (arc_value a) (arc_value b)) (keys_of es) → slice_get es n ≡ Some (a, h) → fs ≡ set_value_at es n w → IsWritten eq a es fs h w
    written_at es fs n a h w d g put =
        let known = lookup_at es n (a, h) d g in
        let set = put ∙ set_at es n (a, h) w d g in record {
          known = known;
          set = set;
          here = ap (lookup (λ b. eq (arc_value a) (arc_value b))) set ∙ set_here a es h w known;
          others = λ q t. ap (lookup (λ b. eq (arc_value q) (arc_value b))) set ∙ set_apart a q es w t;
        }

    pub named_at : (es : List (Arc K A × Place K T)) (n : ℕ) → slice_get (names_of es) n ≡ option_map (λ e. arc_value e.0) (slice_get es n)
    named_at es n = slice_get-map (λ (e : Arc K A × Place K T). arc_value e.0) es n

    -- the place of a number changed
    pub changed_at : (es fs : List (Arc K A × Place K T)) (n : ℕ) (a : Arc K A) (h w : Place K T) (R : Share K T → Share K T → Type 0) → IsLinked eq es → slice_get es n ≡ Some (a, h) → fs ≡ set_value_at es n w
        → (AreNumbered (names_of es) h.askers.entries → AreNumbered (names_of es) w.askers.entries) → (AreNumbered (names_of es) h.waits.entries → AreNumbered (names_of es) w.waits.entries) → R (share_of h) (share_of w) → IsChangedAt eq n R es fs
    changed_at es fs n a h w R l g put askers waits r =
        let i = written_at es fs n a h w l.distinct g put in record {
          names = names_set (λ b. eq (arc_value a) (arc_value b)) es fs w i.set;
          linked = linked_set (λ b. eq (arc_value a) (arc_value b)) es fs h w l i.set i.known askers waits;
          changed = λ k e. subst (λ x. IsChanged eq x R (shares_of es) (shares_of fs)) (same_Some (arc_value a) k (sym (named_at es n ∙ ap (option_map (λ (e : Arc K A × Place K T). arc_value e.0)) g) ∙ e)) (changed_written eq law a es fs h w R i r);
        }

    -- there is no place with this number
    pub changed_nowhere : (es fs : List (Arc K A × Place K T)) (n : ℕ) (R : Share K T → Share K T → Type 0) → IsLinked eq es → slice_get es n ≡ None → fs ≡ es → IsChangedAt eq n R es fs
    changed_nowhere es fs n R l none same = record {
      names = ap names_of same;
      linked = subst (IsLinked eq) (sym same) l;
      changed = λ k e. absurd (none-some k (sym (named_at es n ∙ ap (option_map (λ (e : Arc K A × Place K T). arc_value e.0)) none) ∙ e));
    }

    -- the place of a number by its key
    pub key_named : (es : List (Arc K A × Place K T)) (n : ℕ) (a : Arc K A) (h : Place K T) → slice_get es n ≡ Some (a, h) → slice_get (names_of es) n ≡ Some (arc_value a)
    key_named es n a h g = named_at es n ∙ ap (option_map (λ (e : Arc K A × Place K T). arc_value e.0)) g

    pub share_at : (es : List (Arc K A × Place K T)) (n : ℕ) (a : Arc K A) (h : Place K T) (k : K) → IsDistinct (λ a b. eq (arc_value a) (arc_value b)) (keys_of es) → slice_get es n ≡ Some (a, h) → slice_get (names_of es) n ≡ Some k → lookup (eq k) (shares_of es) ≡ Some (share_of h)
    share_at es n a h k d g e = subst (λ x. lookup (eq x) (shares_of es) ≡ Some (share_of h)) (same_Some (arc_value a) k (sym (key_named es n a h g) ∙ e)) (lookup_shares (eq (arc_value a)) es ∙ ap (option_map share_of) (lookup_at es n (a, h) d g))

pub has_at : {X : Type 0} (xs : List X) (n : ℕ) (x : X) → slice_get xs n ≡ Some x → Has xs x
has_at [] n x g = absurd (none-some x g)
has_at (y ∷ xs) zero x g = inl (same_Some y x g)
has_at (y ∷ xs) (suc n) x g = inr (has_at xs n x g)

-- a value by number has an entry
pub entry_of_value : {K X : Type 0} (es : List (K × X)) (n : ℕ) (h : X) → Some h ≡ slice_get (values_of es) n → (k : K) × (slice_get es n ≡ Some (k, h))
entry_of_value [] n h g = absurd (none-some h (sym g))
entry_of_value (e ∷ es) zero h g = (e.0, ap (λ x. Some (e.0, x)) (same_Some e.1 h (sym g)))
entry_of_value (e ∷ es) (suc n) h g = entry_of_value es n h g

pub no_entry : {K X : Type 0} (es : List (K × X)) (n : ℕ) → None ≡ slice_get (values_of es) n → slice_get es n ≡ None
no_entry [] n g = refl
no_entry (e ∷ es) zero g = absurd (none-some e.1 g)
no_entry (e ∷ es) (suc n) g = no_entry es n g

-- the number that a look-up of a key finds
pub found_number : {K A T : Type 0} (eq : K → K → Bool) → IsEquality eq → (es : List (Arc K A × Place K T)) (d : Arc K A) (n : ℕ) → Some n ≡ position (λ a. eq (arc_value d) (arc_value a)) (keys_of es) → slice_get (names_of es) n ≡ Some (arc_value d)
found_number eq law es d n e =
    let p = position-Some (λ a. eq (arc_value d) (arc_value a)) (keys_of es) n d (sym e) in
    ap (λ ks. slice_get ks n) (names_keys es) ∙ (slice_get-map arc_value (keys_of es) n ∙ (ap (option_map arc_value) (slice_get-get_or (keys_of es) n d p.0) ∙ ap Some (sym (law.same (arc_value d) (arc_value (get_or (keys_of es) n d)) p.1))))

-- a new place at the end, with no number in it
pub linked_more : {K A T : Type 0} (eq : K → K → Bool) (es : List (Arc K A × Place K T)) (e : Arc K A × Place K T) → IsLinked eq es → IsDistinct (λ a b. eq (arc_value a) (arc_value b)) (keys_of (es ++ e ∷ [])) → e.1.askers.entries ≡ [] → e.1.waits.entries ≡ [] → IsLinked eq (es ++ e ∷ [])
linked_more {K} {A} {T} eq es e l d none nothing = record {
  distinct = d;
  askers = λ x i. elim (has_last es e x i) as (λ _. AreNumbered (names_of (es ++ e ∷ [])) x.1.askers.entries) [
    | inl h ↦ (λ y j. later y.0 (arc_value y.1) (l.askers x h y j))
    | inr s ↦ (λ y j. absurd (subst (λ xs. Has xs y) (ap (λ (z : Arc K A × Place K T). z.1.askers.entries) (sym s) ∙ none) j))
  ];
  waits = λ x i. elim (has_last es e x i) as (λ _. AreNumbered (names_of (es ++ e ∷ [])) x.1.waits.entries) [
    | inl h ↦ (λ y j. later y.0 (arc_value y.1) (l.waits x h y j))
    | inr s ↦ (λ y j. absurd (subst (λ xs. Has xs y) (ap (λ (z : Arc K A × Place K T). z.1.waits.entries) (sym s) ∙ nothing) j))
  ];
}
  where
    later : (n : ℕ) (k : K) → slice_get (names_of es) n ≡ Some k → slice_get (names_of (es ++ e ∷ [])) n ≡ Some k
    later n k g = ap (λ ks. slice_get ks n) (map-append (λ (x : Arc K A × Place K T). arc_value x.0) es (e ∷ [])) ∙ get_longer (names_of es) (arc_value e.0 ∷ []) n k g

pub entry_new : {K X : Type 0} (eq : K → K → Bool) (es : List (K × X)) (k : K) (v : X) → lookup (eq k) es ≡ None → insert_entry eq es k v ≡ es ++ (k, v) ∷ []
entry_new eq [] k v n = refl
entry_new {K = K} {X = X} eq (e ∷ es) k v n = by_test (eq k e.0) n (entry_new eq es k v)
  where
    by_test : (b : Bool) → cond b (Some e.1) (lookup (eq k) es) ≡ None → (lookup (eq k) es ≡ None → insert_entry eq es k v ≡ es ++ (k, v) ∷ []) → cond b ((e.0, v) ∷ es) (e ∷ insert_entry eq es k v) ≡ e ∷ es ++ (k, v) ∷ []
    by_test true f again = absurd (none-some e.1 (sym f))
    by_test false f again = ap (λ xs. e ∷ xs) (again f)

number_itself : (n : ℕ) → nat_eq n n ≡ true
number_itself n = eq-eqb n n refl

number_same : (m n : ℕ) → nat_eq m n ≡ true → m ≡ n
number_same m n e = eqb-true m n e

pub found_of : {X : Type 0} (xs : List (ℕ × X)) (x : ℕ × X) → IsDistinct nat_eq (keys_of xs) → Has xs x → lookup (nat_eq x.0) xs ≡ Some x.1
unfolding IsDistinct
found_of [] x d h = absurd h
found_of {X} (y ∷ xs) x d (inl i) = let t : nat_eq x.0 y.0 ≡ true = ap (λ (z : ℕ × X). nat_eq x.0 z.0) i ∙ number_itself x.0 in rw t (ap (λ (z : ℕ × X). Some z.1) i)
found_of {X} (y ∷ xs) x d (inr h) = let t : nat_eq x.0 y.0 ≡ false = other (nat_eq x.0 y.0) refl in rw t (found_of xs x d.1 h)
  where
    unequal : (zs : List (ℕ × X)) → AllByRecursion (λ z. nat_eq y.0 z ≡ false) (keys_of zs) → Has zs x → nat_eq y.0 x.0 ≡ false
    unequal [] a h = absurd h
    unequal (z ∷ zs) a (inl i) = subst (λ (v : ℕ × X). nat_eq y.0 v.0 ≡ false) i a.0
    unequal (z ∷ zs) a (inr h) = unequal zs a.1 h

    other : (b : Bool) → nat_eq x.0 y.0 ≡ b → b ≡ false
    other true e = absurd (let f : true ≡ false = sym (number_itself x.0) ∙ (ap (λ n. nat_eq n x.0) (number_same x.0 y.0 e) ∙ unequal xs d.0 h) in cc)
    other false e = refl

-- keys that stand by their numbers after a change at one number
pub numbered_on : {K A : Type 0} (names : List K) (xs ys : List (ℕ × Arc K A)) (n : ℕ) (o : Option (Arc K A)) → AreNumbered names xs → IsDistinct nat_eq (keys_of ys) → ((m : ℕ) → lookup (nat_eq m) ys ≡ cond (nat_eq n m) o (lookup (nat_eq m) xs))
    → ((a : Arc K A) → o ≡ Some a → slice_get names n ≡ Some (arc_value a)) → AreNumbered names ys
numbered_on {K} {A} names xs ys n o numbered d upd new y h = by_test (nat_eq n y.0) refl (sym (upd y.0) ∙ found_of ys y d h)
  where
    by_test : (b : Bool) → nat_eq n y.0 ≡ b → cond b o (lookup (nat_eq y.0) xs) ≡ Some y.1 → slice_get names y.0 ≡ Some (arc_value y.1)
    by_test true t e = subst (λ m. slice_get names m ≡ Some (arc_value y.1)) (number_same n y.0 t) (new y.1 e)
    by_test false t e = let f = entry_found (nat_eq y.0) xs y.1 e in subst (λ m. slice_get names m ≡ Some (arc_value y.1)) (sym (number_same y.0 f.0 f.2)) (numbered (f.0, y.1) f.1)

module _ {K : Type 0} (eq : K → K → Bool) (law : IsEquality eq) where
  has_number : (names : List K) (q : K) → ((m : ℕ) × (slice_get names m ≡ Some q)) ⊎ ((m : ℕ) → slice_get names m ≡ Some q → ⊥)
  has_number [] q = inr (λ m e. none-some q e)
  has_number (k ∷ names) q = by_test (eq k q) refl (has_number names q)
    where
      later : eq k q ≡ false → ((m : ℕ) → slice_get names m ≡ Some q → ⊥) → (m : ℕ) → slice_get (k ∷ names) m ≡ Some q → ⊥
      later t none zero e = let f : true ≡ false = sym (law.itself q) ∙ subst (λ x. eq x q ≡ false) (same_Some k q e) t in cc
      later t none (suc m) e = none m e

      by_test : (b : Bool) → eq k q ≡ b → ((m : ℕ) × (slice_get names m ≡ Some q)) ⊎ ((m : ℕ) → slice_get names m ≡ Some q → ⊥) → ((m : ℕ) × (slice_get (k ∷ names) m ≡ Some q)) ⊎ ((m : ℕ) → slice_get (k ∷ names) m ≡ Some q → ⊥)
      by_test true t r = inl (zero, ap Some (law.same k q t))
      by_test false t (inl r) = inl (suc r.0, r.1)
      by_test false t (inr r) = inr (later t r)

  module _ {A : Type 0} (names : List K) (same : (n m : ℕ) (k : K) → slice_get names n ≡ Some k → slice_get names m ≡ Some k → n ≡ m) where
    -- a key is among those that stand by their numbers exactly if its number is
    pub any_numbered : (xs : List (ℕ × Arc K A)) (m : ℕ) (q : K) → AreNumbered names xs → slice_get names m ≡ Some q → list_any (eq q) (map arc_value (values_of xs)) ≡ is_some (lookup (nat_eq m) xs)
    any_numbered [] m q numbered named = refl
    any_numbered (x ∷ xs) m q numbered named = by_test (nat_eq m x.0) refl (any_numbered xs m q (λ y h. numbered y (inr h)) named)
      where
        there : slice_get names x.0 ≡ Some (arc_value x.1)
        there = numbered x (inl refl)

        other : nat_eq m x.0 ≡ false → (b : Bool) → eq q (arc_value x.1) ≡ b → b ≡ false
        other t true e = absurd (let i : m ≡ x.0 = same m x.0 (arc_value x.1) (named ∙ ap Some (law.same q (arc_value x.1) e)) there in let f : true ≡ false = sym (number_itself m) ∙ subst (λ n. nat_eq m n ≡ false) (sym i) t in cc)
        other t false e = refl

        by_test : (b : Bool) → nat_eq m x.0 ≡ b → list_any (eq q) (map arc_value (values_of xs)) ≡ is_some (lookup (nat_eq m) xs) → (eq q (arc_value x.1) || list_any (eq q) (map arc_value (values_of xs))) ≡ is_some (cond b (Some x.1) (lookup (nat_eq m) xs))
        by_test true t again = let i : q ≡ arc_value x.1 = same_Some q (arc_value x.1) (sym named ∙ (ap (slice_get names) (number_same m x.0 t) ∙ there)) in let e : eq q (arc_value x.1) ≡ true = ap (eq q) (sym i) ∙ law.itself q in rw e refl
        by_test false t again = let e = other t (eq q (arc_value x.1)) refl in rw e again

    any_unnumbered : (xs : List (ℕ × Arc K A)) (q : K) → AreNumbered names xs → ((m : ℕ) → slice_get names m ≡ Some q → ⊥) → list_any (eq q) (map arc_value (values_of xs)) ≡ false
    any_unnumbered [] q numbered none = refl
    any_unnumbered (x ∷ xs) q numbered none = by_test (eq q (arc_value x.1)) refl (any_unnumbered xs q (λ y h. numbered y (inr h)) none)
      where
        by_test : (b : Bool) → eq q (arc_value x.1) ≡ b → list_any (eq q) (map arc_value (values_of xs)) ≡ false → (b || list_any (eq q) (map arc_value (values_of xs))) ≡ false
        by_test true e again = absurd (none x.0 (numbered x (inl refl) ∙ ap Some (sym (law.same q (arc_value x.1) e))))
        by_test false e again = again

    -- the same keys after a change at one number
    pub any_on : (xs ys : List (ℕ × Arc K A)) (n : ℕ) (k : K) (o : Option (Arc K A)) → AreNumbered names xs → AreNumbered names ys → slice_get names n ≡ Some k → ((m : ℕ) → lookup (nat_eq m) ys ≡ cond (nat_eq n m) o (lookup (nat_eq m) xs))
        → (q : K) → list_any (eq q) (map arc_value (values_of ys)) ≡ cond (eq k q) (is_some o) (list_any (eq q) (map arc_value (values_of xs)))
    any_on xs ys n k o before after named upd q = elim (has_number names q) as (λ _. list_any (eq q) (map arc_value (values_of ys)) ≡ cond (eq k q) (is_some o) (list_any (eq q) (map arc_value (values_of xs)))) [
      | inl r ↦ any_numbered ys r.0 q after r.1 ∙ (ap is_some (upd r.0) ∙ (by_option (nat_eq n r.0) (lookup (nat_eq r.0) xs) ∙ (ap (λ b. cond b (is_some o) (is_some (lookup (nat_eq r.0) xs))) (sym (alike r.0 r.1)) ∙ ap (cond (eq k q) (is_some o)) (sym (any_numbered xs r.0 q before r.1)))))
      | inr r ↦ any_unnumbered ys q after r ∙ (sym (any_unnumbered xs q before r) ∙ ap (λ b. cond b (is_some o) (list_any (eq q) (map arc_value (values_of xs)))) (sym (no_key r (eq k q) refl)))
    ]
      where
        by_option : (b : Bool) (p : Option (Arc K A)) → is_some (cond b o p) ≡ cond b (is_some o) (is_some p)
        by_option true p = refl
        by_option false p = refl

        alike : (m : ℕ) → slice_get names m ≡ Some q → eq k q ≡ nat_eq n m
        alike m g = by_test (eq k q) refl (nat_eq n m) refl
          where
            by_test : (b : Bool) → eq k q ≡ b → (c : Bool) → nat_eq n m ≡ c → b ≡ c
            by_test true e true f = refl
            by_test false e false f = refl
            by_test true e false f = absurd (let i : n ≡ m = same n m q (named ∙ ap Some (law.same k q e)) g in let z : true ≡ false = sym (number_itself n) ∙ subst (λ x. nat_eq n x ≡ false) (sym i) f in cc)
            by_test false e true f = absurd (let i : k ≡ q = same_Some k q (sym named ∙ (ap (slice_get names) (number_same n m f) ∙ g)) in let z : true ≡ false = sym (law.itself k) ∙ subst (λ x. eq k x ≡ false) (sym i) e in cc)

        no_key : ((m : ℕ) → slice_get names m ≡ Some q → ⊥) → (b : Bool) → eq k q ≡ b → b ≡ false
        no_key none true e = absurd (none n (named ∙ ap Some (law.same k q e)))
        no_key none false e = refl

    lookup_apart : (n : ℕ) (xs : List (ℕ × Arc K A)) → AllByRecursion (λ z. nat_eq n z ≡ false) (keys_of xs) → lookup (nat_eq n) xs ≡ None
    lookup_apart n [] a = refl
    lookup_apart n (x ∷ xs) a = rw a.0 (lookup_apart n xs a.1)

    -- keys at distinct numbers are distinct
    pub numbers_apart : (xs : List (ℕ × Arc K A)) → AreNumbered names xs → IsDistinct nat_eq (keys_of xs) → AreDistinct (map arc_value (values_of xs))
    unfolding IsDistinct
    numbers_apart [] numbered d = tt
    numbers_apart (x ∷ xs) numbered d = (
      λ h. (let f : true ≡ false = sym (has_any eq law (map arc_value (values_of xs)) (arc_value x.1) h) ∙ (any_numbered xs x.0 (arc_value x.1) (λ y i. numbered y (inr i)) (numbered x (inl refl)) ∙ ap is_some (lookup_apart x.0 xs d.0)) in cc),
      numbers_apart xs (λ y i. numbered y (inr i)) d.1,
    )

-- the keys of a table, and those of its list
pub keys_shares : {K A T : Type 0} (es : List (Arc K A × Place K T)) → keys_of (shares_of es) ≡ names_of es
keys_shares [] = refl
keys_shares (e ∷ es) = ap (λ ks. arc_value e.0 ∷ ks) (keys_shares es)

pub key_found : {K A T : Type 0} (es : List (Arc K A × Place K T)) (n : ℕ) → key_at (shares_of es) n ≡ slice_get (names_of es) n
key_found es n = ap (λ ks. slice_get ks n) (keys_shares es)

-- the keys that stand by their numbers are those of the numbers
pub numbered_keys : {K A T : Type 0} (es : List (Arc K A × Place K T)) (xs : List (ℕ × Arc K A)) → AreNumbered (names_of es) xs → map (key_at (shares_of es)) (keys_of xs) ≡ map Some (map arc_value (values_of xs))
numbered_keys es [] numbered = refl
numbered_keys es (x ∷ xs) numbered = ap (λ o. o ∷ map (key_at (shares_of es)) (keys_of xs)) (key_found es x.0 ∙ numbered x (inl refl)) ∙ ap (λ os. Some (arc_value x.1) ∷ os) (numbered_keys es xs (λ y h. numbered y (inr h)))

module _ {K A T : Type 0} (eq : K → K → Bool) (law : IsEquality eq) (es : List (Arc K A × Place K T)) (distinct : IsDistinct (λ a b. eq (arc_value a) (arc_value b)) (keys_of es)) where
  -- the number of a key that stands at a number
  pub number_named : (m : ℕ) (k : K) → slice_get (names_of es) m ≡ Some k → number_of eq (shares_of es) k ≡ m
  number_named m k g =
      ap (λ ks. position_or_len (eq k) ks) (keys_shares es)
      ∙ position_or_len_is (eq k) (names_of es) m k (let w = slice_get_within (names_of es) m k g in omega arith) (λ i lt. before i lt (eq k (get_or (names_of es) i k)) refl)
      (λ lt. ap (eq k) (sym (same_Some k (get_or (names_of es) m k) (sym g ∙ slice_get-get_or (names_of es) m k lt))) ∙ law.itself k)
    where
      before : (i : ℕ) → i < m → (b : Bool) → eq k (get_or (names_of es) i k) ≡ b → b ≡ false
      before i lt true e = absurd (let w = slice_get_within (names_of es) m k g in let s : i ≡ m = same_number eq law es distinct i m k (slice_get-get_or (names_of es) i k (omega arith) ∙ ap Some (sym (law.same k (get_or (names_of es) i k) e))) g in omega arith)
      before i lt false e = refl

  pub numbers_named : {B : Type 0} (xs : List (ℕ × Arc K B)) → AreNumbered (names_of es) xs → map (number_of eq (shares_of es)) (map arc_value (values_of xs)) ≡ keys_of xs
  numbers_named [] numbered = refl
  numbers_named (x ∷ xs) numbered = ap (λ n. n ∷ map (number_of eq (shares_of es)) (map arc_value (values_of xs))) (number_named x.0 (arc_value x.1) (numbered x (inl refl))) ∙ ap (λ ns. x.0 ∷ ns) (numbers_named xs (λ y h. numbered y (inr h)))

  -- a key that is waited for has its number
  pub waited_number : IsLinked eq es → (k d : K) → list_any (eq d) (waits_at eq (shares_of es) k) ≡ true → key_at (shares_of es) (number_of eq (shares_of es) d) ≡ Some d
  waited_number l k d w = elim (has_number eq law (names_of es) d) as (λ _. key_at (shares_of es) (number_of eq (shares_of es) d) ≡ Some d) [
    | inl r ↦ key_found es (number_of eq (shares_of es) d) ∙ (ap (slice_get (names_of es)) (number_named r.0 d r.1) ∙ r.1)
    | inr none ↦ absurd (by_place none (lookup (λ a. eq k (arc_value a)) es) refl)
  ]
    where
      by_place : ((m : ℕ) → slice_get (names_of es) m ≡ Some d → ⊥) → (o : Option (Place K T)) → lookup (λ a. eq k (arc_value a)) es ≡ o → ⊥
      by_place none None e = let f : true ≡ false = sym w ∙ ap (λ o. list_any (eq d) (list_for (λ (p : Share K T). p.waits) o)) (lookup_shares (eq k) es ∙ ap (option_map share_of) e) in cc
      by_place none (Some h) e =
          let x = entry_found (λ a. eq k (arc_value a)) es h e in
          let f : true ≡ false = sym w ∙ (ap (λ o. list_any (eq d) (list_for (λ (p : Share K T). p.waits) o)) (lookup_shares (eq k) es ∙ ap (option_map share_of) e) ∙ any_unnumbered eq law (names_of es) (same_number eq law es distinct) h.waits.entries d (l.waits (x.0, h) x.1) none) in cc

  pub waits_numbered : IsLinked eq es → (n : ℕ) (a : Arc K A) (h : Place K T) → slice_get es n ≡ Some (a, h) → waits_by eq (shares_of es) n ≡ keys_of h.waits.entries
  waits_numbered l n a h g = ap (list_for (λ (p : K × Share K T). map (number_of eq (shares_of es)) p.1.waits)) (slice_get-map entry_of es n ∙ ap (option_map entry_of) g) ∙ numbers_named h.waits.entries (l.waits (a, h) (has_at es n (a, h) g))

  pub no_waits : (n : ℕ) → slice_get es n ≡ None → waits_by eq (shares_of es) n ≡ []
  no_waits n g = ap (list_for (λ (p : K × Share K T). map (number_of eq (shares_of es)) p.1.waits)) (slice_get-map entry_of es n ∙ ap (option_map entry_of) g)

  pub distinct_keys : AreDistinct (keys_of (shares_of es))
  distinct_keys = subst AreDistinct (sym (keys_shares es ∙ names_keys es)) (distinct_values eq law (keys_of es) distinct)

-- a table without a place
pub empty_linked : {K A T : Type 0} (eq : K → K → Bool) (es : List (Arc K A × Place K T)) → es ≡ [] → IsDistinct (λ a b. eq (arc_value a) (arc_value b)) (keys_of es) → IsLinked eq es
empty_linked {K} {A} {T} eq es e d = record { distinct = d; askers = λ x h. absurd (subst (λ xs. Has xs x) e h); waits = λ x h. absurd (subst (λ xs. Has xs x) e h) }

pub empty_whole : {K T : Type 0} (eq : K → K → Bool) (ps : List (K × Share K T)) (cs : List K) (room : ℕ) → ps ≡ [] → cs ≡ [] → IsWhole eq ps cs room
empty_whole eq ps cs room e f = record {
  listed = record {
    each = λ k p h. absurd (none-some p (sym (ap (lookup (eq k)) e) ∙ h));
    fits = (let a : sum_by kept_name (values_of ps) ≡ 0 = ap (λ xs. sum_by kept_name (values_of xs)) e in let b : length cs ≡ 0 = ap length f in omega arith);
  };
  mirrored = λ d k. ap (λ xs. is_for (λ p. has_by eq p (Tasked k)) (lookup (eq d) xs)) e ∙ sym (ap (λ xs. list_any (eq d) (list_for (λ p. p.waits) (lookup (eq k) xs))) e);
}

-- the key of a number, for a table that is seen as ps
pub number_names : {K A T : Type 0} (es : List (Arc K A × Place K T)) (ps : List (K × Share K T)) (n : ℕ) (k : K) → shares_of es ≡ ps → key_at ps n ≡ Some k → slice_get (names_of es) n ≡ Some k
number_names es ps n k view e = sym (key_found es n) ∙ (ap (λ qs. key_at qs n) view ∙ e)

-- a number at which nothing stands has no key, and one at which a place stands has one
pub no_key : {K A T : Type 0} (es : List (Arc K A × Place K T)) (ps : List (K × Share K T)) (n : ℕ) (k : K) → shares_of es ≡ ps → slice_get es n ≡ None → key_at ps n ≡ Some k → ⊥
no_key es ps n k view g at = none-some k (sym (slice_get-map (λ (e : Arc _ _ × Place _ _). arc_value e.0) es n ∙ ap (option_map (λ (e : Arc _ _ × Place _ _). arc_value e.0)) g) ∙ number_names es ps n k view at)

pub some_key : {K A T : Type 0} (es : List (Arc K A × Place K T)) (ps : List (K × Share K T)) (n : ℕ) (e : Arc K A × Place K T) → shares_of es ≡ ps → slice_get es n ≡ Some e → key_at ps n ≡ None → ⊥
some_key es ps n e view g none = none-some (arc_value e.0) (sym none ∙ (ap (λ qs. key_at qs n) (sym view) ∙ (key_found es n ∙ (slice_get-map (λ (f : Arc _ _ × Place _ _). arc_value f.0) es n ∙ ap (option_map (λ (f : Arc _ _ × Place _ _). arc_value f.0)) g))))

pub numbers_kept : {K A T : Type 0} (es fs : List (Arc K A × Place K T)) → names_of fs ≡ names_of es → KeepsNumbers (shares_of es) (shares_of fs)
numbers_kept es fs same n = key_found fs n ∙ (ap (λ ns. slice_get ns n) same ∙ sym (key_found es n))

-- what stands at a number is written there
pub set_at_same : {K X : Type 0} (es : List (K × X)) (n : ℕ) (e : K × X) → slice_get es n ≡ Some e → set_value_at es n e.1 ≡ es
set_at_same [] n e g = refl
set_at_same (f ∷ es) zero e g = ap (λ x. (f.0, x.1) ∷ es) (sym (same_Some f e g))
set_at_same (f ∷ es) (suc n) e g = ap (λ xs. f ∷ xs) (set_at_same es n e g)
