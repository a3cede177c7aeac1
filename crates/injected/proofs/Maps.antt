-- A map of histories without pointers, and what a write makes of it.
use Rattle.std.proofs.Common.{◌≡◌, ℕ, Bool, true, false, cond, List, [], ◌∷◌, map, Some, None, IsSome, Result, Ok, Err, OnOk, OnErr, refl, ap, sym, ◌∙◌, subst}
use Rattle.std.specs.Map.{lookup, set_value}
use Rattle.std.specs.Arc.{arc_value, arc_with_value}
use Rattle.std.specs.declared.sync.Arc.{Arc}
use Rattle.std.proofs.lemmas.Map.Steps.{set_value_same}
use Rattle.injected.specs.Seen.{Cell, named, sets_in, room_in, Writes}

module _ {K V A : Type 0} (eq : K → K → Bool) where
  pub lookup-named : (q : K) (es : List (Arc K A × Cell V)) → lookup (eq q) (map named es) ≡ lookup (λ a. eq q (arc_value a)) es
  lookup-named q [] = refl
  lookup-named q (e ∷ es) = ap (cond (eq q (arc_value e.0)) (Some e.1)) (lookup-named q es)

  cond_list : (b : Bool) (p q : List (Arc K A × Cell V)) → map named (cond b p q) ≡ cond b (map named p) (map named q)
  cond_list true p q = refl
  cond_list false p q = refl

  pub set-named : (k : K) (es : List (Arc K A × Cell V)) (w : Cell V) → map named (set_value (λ a. eq k (arc_value a)) es w) ≡ set_value (eq k) (map named es) w
  set-named k [] w = refl
  set-named k (e ∷ es) w =
      cond_list (eq k (arc_value e.0)) ((e.0, w) ∷ es) (e ∷ set_value (λ a. eq k (arc_value a)) es w)
      ∙ ap (λ ys. cond (eq k (arc_value e.0)) ((arc_value e.0, w) ∷ map named es) (named e ∷ ys)) (set-named k es w)

  -- a write at a key, read without pointers
  pub writes_at : (k : K) (a : Arc K A) (es fs : List (Arc K A × Cell V)) (f : Cell V)
      → ((q : Arc K A) → lookup (λ y. eq (arc_value q) (arc_value y)) fs ≡ cond (eq k (arc_value q)) (Some f) (lookup (λ y. eq (arc_value q) (arc_value y)) es))
      → Writes eq (map named es) (map named fs) k f
  writes_at k a es fs f up = record {
    at = λ q. lookup-named q fs
        ∙ (up (arc_with_value a q)
        ∙ ap (cond (eq k q) (Some f)) (sym (lookup-named q es)));
  }

  -- what is written in place is as before, so all is
  pub same_entries : (k : K) (es fs : List (Arc K A × Cell V)) (v w : Cell V) → lookup (λ a. eq k (arc_value a)) es ≡ Some v → w ≡ v → fs ≡ set_value (λ a. eq k (arc_value a)) es w → map named fs ≡ map named es
  same_entries k es fs v w known same written =
      ap (map named) written ∙ (set-named k es w ∙ (ap (set_value (eq k) (map named es)) same ∙ set_value_same (eq k) (map named es) v (lookup-named k es ∙ known)))

  pub sets_known : (k : K) (es : List (Arc K A × Cell V)) (v : Cell V) → lookup (λ a. eq k (arc_value a)) es ≡ Some v → sets_in (lookup (eq k) (map named es)) ≡ v.sets
  sets_known k es v known = ap sets_in (lookup-named k es ∙ known)

  pub room_known : (k : K) (es : List (Arc K A × Cell V)) (v : Cell V) → lookup (λ a. eq k (arc_value a)) es ≡ Some v → room_in (lookup (eq k) (map named es)) ≡ v.room
  room_known k es v known = ap room_in (lookup-named k es ∙ known)

  pub sets_unknown : (k : K) (es : List (Arc K A × Cell V)) → lookup (λ a. eq k (arc_value a)) es ≡ None → sets_in (lookup (eq k) (map named es)) ≡ []
  sets_unknown k es known = ap sets_in (lookup-named k es ∙ known)

  pub room_unknown : (k : K) (es : List (Arc K A × Cell V)) → lookup (λ a. eq k (arc_value a)) es ≡ None → room_in (lookup (eq k) (map named es)) ≡ 0
  room_unknown k es known = ap room_in (lookup-named k es ∙ known)

  pub is_known : (k : K) (es : List (Arc K A × Cell V)) → lookup (λ a. eq k (arc_value a)) es ≡ None → IsSome (lookup (eq k) (map named es)) → ⊥
  is_known k es none some = let e : lookup (eq k) (map named es) ≡ None = lookup-named k es ∙ none in let h = subst IsSome e some in cc

  pub some_known : (k : K) (es : List (Arc K A × Cell V)) → IsSome (lookup (λ a. eq k (arc_value a)) es) → IsSome (lookup (eq k) (map named es))
  some_known k es h = subst IsSome (sym (lookup-named k es)) h

pub writes_as : {K V : Type 0} (eq : K → K → Bool) (k : K) (es fs : List (K × Cell V)) (c d : Cell V) → c ≡ d → Writes eq es fs k c → Writes eq es fs k d
writes_as eq k es fs c d e w = subst (Writes eq es fs k) e w

pub cell_is : {V : Type 0} (c : Cell V) (r : ℕ) (ss : List (ℕ × V)) → c.room ≡ r → c.sets ≡ ss → c ≡ record { room = r; sets = ss }
cell_is c r ss p q = ap (λ n. record { room = n; sets = c.sets }) p ∙ ap (λ ts. record { room = r; sets = ts }) q

pub on_err : {T E P : Type 0} (r : Result T E) → P → OnErr r P
on_err (Ok x) p = tt
on_err (Err e) p = p

pub on_ok : {T E P : Type 0} (r : Result T E) → P → OnOk r P
on_ok (Ok x) p = p
on_ok (Err e) p = tt

pub either_way : {T E P : Type 0} (r : Result T E) → OnOk r P → OnErr r P → P
either_way (Ok x) p q = p
either_way (Err e) p q = q
