-- The first fault among the keys of a commit, and what is set so far.
use Rattle.std.proofs.Common.{◌≡◌, ◌<◌, ◌+◌, inl, inr, ℕ, max, Bool, true, false, cond, List, [], ◌∷◌, ◌++◌, length, get_or, take, drop, Some, None, refl, sym, ap, ◌∙◌, subst, arith, append_assoc, append-nil}
use Rattle.std.specs.Arc.{arc_value}
use Rattle.std.specs.declared.sync.Arc.{Arc}
use Rattle.std.specs.List.{AllByRecursion}
use Rattle.std.specs.Map.{lookup, keys_of}
use Rattle.std.proofs.lemmas.List.{map-append, map_more, take-append-drop}
use Rattle.dice_key.specs.Meaning.{Meaning}
use Rattle.dice_key.specs.Lawful.{IsEquality}
use Rattle.dice_key.specs.declared.universe.Kind.TheVariants.{Injected}
use Rattle.dice_model.specs.Log.{pair_of, pairs_of}
use Rattle.injected.specs.History.{AllBelow}
use Rattle.injected.specs.Seen.{Seen, sets_at, room_at}
use Rattle.injected.specs.Inputs.{set_if}
use Rattle.dice_core.specs.Commits.{Fault, NotInjected, Twice, key_of, AreSettable, IsFault, IsFirstFault, HaveRoom, AreSet}
use Rattle.dice_key.proofs.KeySets.{turned_is, unequal}
use Rattle.lists.proofs.Distinct.{distinct_after, distinct_before, distinct_end}
use Rattle.lists.proofs.Each.{all_end, all_middle}
use Rattle.lists.specs.Lists.{AreDistinct, Has}
use Rattle.dice_model.proofs.Inputs.{lookup_unset}

-- ---- lists

module _ {X : Type 0} where
  pub none_left : (xs : List X) (n : ℕ) → n ≡ 0 → n ≡ length xs → xs ≡ []
  none_left [] n e f = refl
  none_left (x ∷ xs) n e f = absurd (omega arith)

  pub all_mapped : (P Q : X → Type 0) → ((x : X) → P x → Q x) → (xs : List X) → AllByRecursion P xs → AllByRecursion Q xs
  all_mapped P Q f [] a = tt
  all_mapped P Q f (x ∷ xs) a = (f x a.0, all_mapped P Q f xs a.1)

-- how two splits of one list lie: at the same place, the first before the second, or after it
data Lie {X : Type 0} (a : List X) (x : X) (b : List X) (y : X) : Type 0 where
  AtOnce : a ≡ b → x ≡ y → Lie a x b y
  Earlier : (r : List X) → b ≡ a ++ x ∷ r → Lie a x b y
  Later : (r : List X) → a ≡ b ++ y ∷ r → Lie a x b y

module _ {X : Type 0} where
  head_of : (x y : X) (a b : List X) → x ∷ a ≡ y ∷ b → x ≡ y
  head_of x y a b e = cc

  tail_of : (x y : X) (a b : List X) → x ∷ a ≡ y ∷ b → a ≡ b
  tail_of x y a b e = cc

  lie_on : (z w : X) (a b : List X) (x y : X) → z ≡ w → Lie a x b y → Lie (z ∷ a) x (w ∷ b) y
  lie_on z w a b x y e (AtOnce p q) = let f : z ∷ a ≡ w ∷ b = cc in AtOnce f q
  lie_on z w a b x y e (Earlier r p) = let f : w ∷ b ≡ z ∷ (a ++ x ∷ r) = cc in Earlier r f
  lie_on z w a b x y e (Later r p) = let f : z ∷ a ≡ w ∷ (b ++ y ∷ r) = cc in Later r f

  lies : (a b : List X) (x y : X) (c d : List X) → a ++ x ∷ c ≡ b ++ y ∷ d → Lie a x b y
  lies [] [] x y c d e = AtOnce refl (head_of x y c d e)
  lies [] (w ∷ b) x y c d e = let f : w ∷ b ≡ x ∷ b = ap (λ u. u ∷ b) (sym (head_of x w c (b ++ y ∷ d) e)) in Earlier b f
  lies (z ∷ a) [] x y c d e = let f : z ∷ a ≡ y ∷ a = ap (λ u. u ∷ a) (head_of z y (a ++ x ∷ c) d e) in Later a f
  lies (z ∷ a) (w ∷ b) x y c d e = lie_on z w a b x y (head_of z w (a ++ x ∷ c) (b ++ y ∷ d) e) (lies a b x y c d (tail_of z w (a ++ x ∷ c) (b ++ y ∷ d) e))

-- ---- faults

module _ {K V : Type 0} (m : Meaning K V) where
  pub settable_more : (ks : List K) (k : K) → AreSettable m ks → m.kind k ≡ Injected → (Has ks k → ⊥) → AreSettable m (ks ++ k ∷ [])
  settable_more ks k s e n = record { injected = all_end (λ q. m.kind q ≡ Injected) ks k s.injected e; distinct = distinct_end ks k s.distinct n }

  -- no fault among keys that are injected and distinct
  pub no_fault : (before later : List K) (f : Fault K) → AreSettable m (before ++ key_of f ∷ later) → IsFault m before f → ⊥
  no_fault before later (NotInjected k) s i = i (all_middle (λ q. m.kind q ≡ Injected) before later k s.injected)
  no_fault before later (Twice k) s i = distinct_before before later k s.distinct i.1

  pub settable_has_none : (ks : List K) → AreSettable m ks → (f : Fault K) → IsFirstFault m ks f → ⊥
  settable_has_none ks s f i = no_fault i.before i.later f (subst (AreSettable m) i.all s) i.fault

  same_fault : (before : List K) (f g : Fault K) → key_of f ≡ key_of g → IsFault m before f → IsFault m before g → g ≡ f
  same_fault before (NotInjected k) (NotInjected q) e i j = ap NotInjected (sym e)
  same_fault before (NotInjected k) (Twice q) e i j = absurd (i (ap m.kind e ∙ j.0))
  same_fault before (Twice k) (NotInjected q) e i j = absurd (j (sym (ap m.kind e) ∙ i.0))
  same_fault before (Twice k) (Twice q) e i j = ap Twice (sym e)

  -- there is one first fault
  pub one_fault : (ks : List K) (f g : Fault K) → IsFirstFault m ks f → IsFirstFault m ks g → g ≡ f
  one_fault ks f g i j =
      elim (lies i.before j.before (key_of f) (key_of g) i.later j.later (sym i.all ∙ j.all)) as (λ _. g ≡ f) [
        | AtOnce p q ↦ same_fault j.before f g q (subst (λ b. IsFault m b f) p i.fault) j.fault
        | Earlier r p ↦ absurd (no_fault i.before r f (subst (AreSettable m) p j.settable) i.fault)
        | Later r p ↦ absurd (no_fault j.before r g (subst (AreSettable m) p i.settable) j.fault)
      ]

-- ---- sets

module _ {K V A B : Type 0} where
  -- the pairs up to an index, and their keys
  pub pairs_more : (ps : List (Arc K A × Arc V B)) (i : ℕ) (p : Arc K A × Arc V B) → i < length ps → p ≡ get_or ps i p → pairs_of (take (i + 1) ps) ≡ pairs_of (take i ps) ++ pair_of p ∷ []
  pairs_more ps i p l e = map_more pair_of ps i p l ∙ ap (λ (q : Arc K A × Arc V B). pairs_of (take i ps) ++ pair_of q ∷ []) (sym e)

  pub keys_more : (ps : List (Arc K A × Arc V B)) (i : ℕ) (p : Arc K A × Arc V B) → i < length ps → p ≡ get_or ps i p → keys_of (pairs_of (take (i + 1) ps)) ≡ keys_of (pairs_of (take i ps)) ++ arc_value p.0 ∷ []
  keys_more ps i p l e = ap keys_of (pairs_more ps i p l e) ∙ map-append (λ (q : K × V). q.0) (pairs_of (take i ps)) (pair_of p ∷ [])

  pub keys_split : (ps : List (Arc K A × Arc V B)) (i : ℕ) (p : Arc K A × Arc V B) → i < length ps → p ≡ get_or ps i p
      → keys_of (pairs_of ps) ≡ keys_of (pairs_of (take i ps)) ++ arc_value p.0 ∷ keys_of (pairs_of (drop (i + 1) ps))
  keys_split ps i p l e =
      ap (λ (q : List (Arc K A × Arc V B)). keys_of (pairs_of q)) (sym (take-append-drop (i + 1) ps))
      ∙ (ap keys_of (map-append pair_of (take (i + 1) ps) (drop (i + 1) ps))
      ∙ (map-append (λ (q : K × V). q.0) (pairs_of (take (i + 1) ps)) (pairs_of (drop (i + 1) ps))
      ∙ (ap (λ ks. ks ++ keys_of (pairs_of (drop (i + 1) ps))) (keys_more ps i p l e)
      ∙ append_assoc (keys_of (pairs_of (take i ps))) (arc_value p.0 ∷ []) (keys_of (pairs_of (drop (i + 1) ps))))))

module _ {K V : Type 0} (eq : K → K → Bool) (law : IsEquality eq) where
  lookup_other : (c : List (K × V)) (k q : K) (x : V) → eq q k ≡ false → lookup (eq q) (c ++ (k, x) ∷ []) ≡ lookup (eq q) c
  lookup_other [] k q x e = rw e refl
  lookup_other (p ∷ c) k q x e = ap (cond (eq q p.0) (Some p.1)) (lookup_other c k q x e)

  lookup_last : (c : List (K × V)) (k q : K) (x : V) → eq q k ≡ true → lookup (eq q) c ≡ None → lookup (eq q) (c ++ (k, x) ∷ []) ≡ Some x
  lookup_last [] k q x e n = rw e refl
  lookup_last (p ∷ c) k q x e n = by_test (eq q p.0) n (lookup_last c k q x e)
    where
      by_test : (b : Bool) → cond b (Some p.1) (lookup (eq q) c) ≡ None → (lookup (eq q) c ≡ None → lookup (eq q) (c ++ (k, x) ∷ []) ≡ Some x) → cond b (Some p.1) (lookup (eq q) (c ++ (k, x) ∷ [])) ≡ Some x
      by_test true f again = cc
      by_test false f again = again f

  -- room for one key more
  pub room_more : (s t : Seen K V) (c : List (K × V)) (k : K) (x : V) → HaveRoom eq s c
      → ((q : K) → eq k q ≡ false → room_at eq t q ≡ room_at eq s q) → 0 < room_at eq t k → HaveRoom eq t (c ++ (k, x) ∷ [])
  room_more s t c k x h others here =
      all_end (λ (p : K × V). 0 < room_at eq t p.0) c (k, x) (all_mapped (λ (p : K × V). 0 < room_at eq s p.0) (λ (p : K × V). 0 < room_at eq t p.0) (λ p r. still p.0 r (eq k p.0) refl) c h) here
    where
      still : (q : K) → 0 < room_at eq s q → (b : Bool) → eq k q ≡ b → 0 < room_at eq t q
      still q r true e = let f : k ≡ q = law.same k q e in subst (λ z. 0 < room_at eq t z) f here
      still q r false e = let f : room_at eq t q ≡ room_at eq s q = others q e in subst (λ n. 0 < n) (sym f) r

module _ {K V A B : Type 0} (eq : K → K → Bool) (law : IsEquality eq) where
  -- room for one pair more, whose key was copied
  pub room_reserved : (s t : Seen K V) (ps : List (Arc K A × Arc V B)) (i : ℕ) (p : Arc K A × Arc V B) (j : K) → i < length ps → p ≡ get_or ps i p → j ≡ arc_value p.0
      → HaveRoom eq s (pairs_of (take i ps)) → ((q : K) → eq j q ≡ false → room_at eq t q ≡ room_at eq s q) → 0 < room_at eq t j → HaveRoom eq t (pairs_of (take (i + 1) ps))
  room_reserved s t ps i p j l e k h others here =
      subst (HaveRoom eq t) (sym (pairs_more ps i p l e))
      (room_more eq law s t (pairs_of (take i ps)) (arc_value p.0) (arc_value p.1) h (λ q f. others q (subst (λ z. eq z q ≡ false) (sym k) f)) (subst (λ z. 0 < room_at eq t z) k here))

-- the last version that was set, after these sets at v
abbrev pub last_after : {K V : Type 0} → ℕ → ℕ → List (K × V) → ℕ
last_after v n [] = n
last_after v n (p ∷ c) = v

-- of all changes those before the rest were set, at v, in the cells s, which are t now; for the rest there is room
pub record IsSetting {K V : Type 0} (eq : K → K → Bool) (v : ℕ) (s t : Seen K V) (all rest : List (K × V)) : Type 0 where
  pub before : List (K × V)
  pub parts : all ≡ before ++ rest
  pub sets : AreSet eq v before s t
  pub last : t.last ≡ last_after v s.last before
  pub room : HaveRoom eq t rest

module _ {K V : Type 0} (eq : K → K → Bool) (law : IsEquality eq) (v : ℕ) (s : Seen K V) (all : List (K × V)) where
  pub setting_begins : HaveRoom eq s all → IsSetting eq v s s all all
  setting_begins h = record { before = []; parts = refl; sets = λ k. sym (append-nil (sets_at eq s k)); last = refl; room = h }

  pub setting_ends : (t : Seen K V) → IsSetting eq v s t all [] → AreSet eq v all s t × (t.last ≡ last_after v s.last all)
  setting_ends t h =
      let e : all ≡ h.before = h.parts ∙ append-nil h.before in
      (subst (λ c. AreSet eq v c s t) (sym e) h.sets, subst (λ c. t.last ≡ last_after v s.last c) (sym e) h.last)

  module _ (distinct : AreDistinct (keys_of all)) (k : K) (x : V) (rest : List (K × V)) (t : Seen K V) (h : IsSetting eq v s t all ((k, x) ∷ rest)) where
    keys_around : keys_of all ≡ keys_of h.before ++ k ∷ keys_of rest
    keys_around = ap keys_of h.parts ∙ map-append (λ (p : K × V). p.0) h.before ((k, x) ∷ rest)

    not_before : lookup (eq k) h.before ≡ None
    not_before = lookup_unset eq law h.before k (distinct_before (keys_of h.before) (keys_of rest) k (subst AreDistinct keys_around distinct))

    -- the key was not set yet
    pub still_below : AllBelow (sets_at eq s k) v → AllBelow (sets_at eq t k) v
    still_below b =
        let e : sets_at eq t k ≡ sets_at eq s k = h.sets k ∙ (ap (λ o. sets_at eq s k ++ set_if v o) not_before ∙ append-nil (sets_at eq s k)) in
        subst (λ ss. AllBelow ss v) (sym e) b

    set_more : (u : Seen K V) → ((q : K) → sets_at eq u q ≡ cond (eq k q) (sets_at eq t q ++ (v, x) ∷ []) (sets_at eq t q)) → AreSet eq v (h.before ++ (k, x) ∷ []) s u
    set_more u w = λ q. by_test q (eq k q) refl
      where
        by_test : (q : K) (b : Bool) → eq k q ≡ b → sets_at eq u q ≡ sets_at eq s q ++ set_if v (lookup (eq q) (h.before ++ (k, x) ∷ []))
        by_test q true e =
            let f : k ≡ q = law.same k q e in
            let n : lookup (eq q) h.before ≡ None = subst (λ z. lookup (eq z) h.before ≡ None) f not_before in
            let l : lookup (eq q) (h.before ++ (k, x) ∷ []) ≡ Some x = lookup_last eq law h.before k q x (turned_is eq law k q true e) n in
            let a : sets_at eq t q ≡ sets_at eq s q = h.sets q ∙ (ap (λ o. sets_at eq s q ++ set_if v o) n ∙ append-nil (sets_at eq s q)) in
            w q ∙ (ap (λ b. cond b (sets_at eq t q ++ (v, x) ∷ []) (sets_at eq t q)) e ∙ (ap (λ ss. ss ++ (v, x) ∷ []) a ∙ ap (λ o. sets_at eq s q ++ set_if v o) (sym l)))
        by_test q false e =
            let l : lookup (eq q) (h.before ++ (k, x) ∷ []) ≡ lookup (eq q) h.before = lookup_other eq law h.before k q x (turned_is eq law k q false e) in
            w q ∙ (ap (λ b. cond b (sets_at eq t q ++ (v, x) ∷ []) (sets_at eq t q)) e ∙ (h.sets q ∙ ap (λ o. sets_at eq s q ++ set_if v o) (sym l)))

    room_kept : (u : Seen K V) → ((q : K) → eq k q ≡ false → room_at eq u q ≡ room_at eq t q) → (c : List (K × V)) → (Has (keys_of c) k → ⊥) → HaveRoom eq t c → HaveRoom eq u c
    room_kept u o [] n r = tt
    room_kept u o (p ∷ c) n r =
        let e : room_at eq u p.0 ≡ room_at eq t p.0 = o p.0 (unequal eq law k p.0 (λ f. n (inl (sym f)))) in
        (subst (λ i. 0 < i) (sym e) r.0, room_kept u o c (λ i. n (inr i)) r.1)

    last_more : (u : Seen K V) → s.last < v → u.last ≡ max t.last v → u.last ≡ last_after v s.last (h.before ++ (k, x) ∷ [])
    last_more u l e = by_before h.before h.last
      where
        by_before : (c : List (K × V)) → t.last ≡ last_after v s.last c → u.last ≡ last_after v s.last (c ++ (k, x) ∷ [])
        by_before [] f = omega arith
        by_before (p ∷ c) f = omega arith

    -- one change more was set
    pub setting_goes : (u : Seen K V) → s.last < v → ((q : K) → sets_at eq u q ≡ cond (eq k q) (sets_at eq t q ++ (v, x) ∷ []) (sets_at eq t q))
        → ((q : K) → eq k q ≡ false → room_at eq u q ≡ room_at eq t q) → u.last ≡ max t.last v → IsSetting eq v s u all rest
    setting_goes u l w o e = record {
      before = h.before ++ (k, x) ∷ [];
      parts = h.parts ∙ sym (append_assoc h.before ((k, x) ∷ []) rest);
      sets = set_more u w;
      last = last_more u l e;
      room = room_kept u o rest (distinct_after (keys_of h.before) (keys_of rest) k (subst AreDistinct keys_around distinct)) h.room.1;
    }
