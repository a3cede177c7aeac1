-- The entries, read through the map that holds them.
use Rattle.std.proofs.Common.{◌≡◌, ◌<◌, ◌||◌, ◌&&◌, ℕ, nat_le, leb-true, not, arith, Bool, true, false, cond, List, [], ◌∷◌, map, Option, Some, None, refl, ap, sym, ◌∙◌}
use Rattle.std.specs.Map.{lookup, set_value}
use Rattle.std.proofs.lemmas.Map.Steps.{set_value_same}
use Rattle.std.specs.Arc.{arc_value, arc_with_value}
use Rattle.std.specs.Borrow.{Bor}
use Rattle.std.specs.Option.{option_map, option_copied}
use Rattle.std.specs.declared.sync.Arc.{Arc}
use Rattle.dice_key.specs.Lawful.{AreSame}
use Rattle.std.specs.List.{list_any}
use Rattle.dice_key.specs.Meaning.{Meaning, Answered}
use Rattle.version_ranges.specs.declared.half_open.Range.{Range}
use Rattle.version_ranges.specs.Members.{contains}
use Rattle.versioned_graph.specs.Entries.{Stored, Kept, kept_of, named, joined, entry_at, written, goes_in}
use Rattle.versioned_graph.specs.Edges.{deps_of, is_edge}

pub cond_map : {A B : Type 0} (f : A → B) (b : Bool) (x : A) (o : Option A) → cond b (Some (f x)) (option_map f o) ≡ option_map f (cond b (Some x) o)
cond_map f true x o = refl
cond_map f false x o = refl

pub copied : {K V : Type 0} (r : Option (Bor (Stored K V))) → option_map (λ e. kept_of e.now) r ≡ option_map kept_of (option_copied r)
copied None = refl
copied (Some e) = refl

module _ {K V A : Type 0} (eq : K → K → Bool) where
  -- the entry of a key is what the map has there
  pub lookup-named : (k : K) (es : List (Arc K A × Stored K V)) → lookup (eq k) (map named es) ≡ lookup (λ a. eq k (arc_value a)) es
  lookup-named k [] = refl
  lookup-named k (e ∷ es) = ap (cond (eq k (arc_value e.0)) (Some e.1)) (lookup-named k es)

  pub entry-named : (k : K) (es : List (Arc K A × Stored K V)) → entry_at eq (map named es) k ≡ option_map kept_of (lookup (λ a. eq k (arc_value a)) es)
  entry-named k es = ap (option_map kept_of) (lookup-named k es)

  -- one entry is written
  pub entry-put : (k : K) (a : Arc K A) (es fs : List (Arc K A × Stored K V)) (f : Stored K V)
      → ((q : Arc K A) → lookup (λ y. eq (arc_value q) (arc_value y)) fs ≡ cond (eq k (arc_value q)) (Some f) (lookup (λ y. eq (arc_value q) (arc_value y)) es))
      → (q : K) → entry_at eq (map named fs) q ≡ cond (eq k q) (Some (kept_of f)) (entry_at eq (map named es) q)
  entry-put k a es fs f up q =
      entry-named q fs
      ∙ (ap (option_map kept_of) (up (arc_with_value a q))
      ∙ (sym (cond_map kept_of (eq k q) f (lookup (λ y. eq q (arc_value y)) es))
      ∙ ap (cond (eq k q) (Some (kept_of f))) (sym (entry-named q es))))

  -- the edges that are recorded with the entry of a key
  pub edge-named : (j k : K) (es : List (Arc K A × Stored K V)) → is_edge eq (map named es) j k ≡ deps_of eq (lookup (λ a. eq k (arc_value a)) es) j
  edge-named j k es = ap (λ o. deps_of eq o j) (lookup-named k es)

  -- one entry is written
  pub edge-put : (k : K) (a : Arc K A) (es fs : List (Arc K A × Stored K V)) (f : Stored K V)
      → ((q : Arc K A) → lookup (λ y. eq (arc_value q) (arc_value y)) fs ≡ cond (eq k (arc_value q)) (Some f) (lookup (λ y. eq (arc_value q) (arc_value y)) es))
      → (j q : K) → is_edge eq (map named fs) j q ≡ cond (eq k q) (list_any (eq j) f.deps) (is_edge eq (map named es) j q)
  edge-put k a es fs f up j q =
      edge-named j q fs
      ∙ (ap (λ o. deps_of eq o j) (up (arc_with_value a q))
      ∙ (by_test (eq k q) (lookup (λ y. eq q (arc_value y)) es)
      ∙ ap (cond (eq k q) (list_any (eq j) f.deps)) (sym (edge-named j q es))))
    where
      by_test : (b : Bool) (o : Option (Stored K V)) → deps_of eq (cond b (Some f) o) j ≡ cond b (list_any (eq j) f.deps) (deps_of eq o j)
      by_test true o = refl
      by_test false o = refl

-- what is at a key is at each key that equals it
pub at_same : {K X : Type 0} (eq : K → K → Bool) (same : AreSame eq) (f : K → X) (k q : K) (o : X) → f k ≡ o → f q ≡ cond (eq k q) o (f q)
at_same eq same f k q o h = by_test (eq k q) refl
  where
    by_test : (b : Bool) → eq k q ≡ b → f q ≡ cond b o (f q)
    by_test true e = ap f (sym (same k q e)) ∙ h
    by_test false e = refl

-- what is read at k is read at q, if one entry is written that has what was there and more
put-edge : {K : Type 0} (eq : K → K → Bool) (same : AreSame eq) (f : K → Bool) (k q : K) (u x : Bool) → x ≡ (f k || u) → cond (eq k q) x (f q) ≡ (f q || (eq k q && u))
put-edge eq same f k q u x h = by_test (eq k q) refl
  where
    none : (a : Bool) → a ≡ (a || false)
    none true = refl
    none false = refl

    by_test : (b : Bool) → eq k q ≡ b → cond b x (f q) ≡ (f q || (b && u))
    by_test true p = h ∙ ap (λ j. f j || u) (same k q p)
    by_test false p = none (f q)

-- what is written in place is as before, so all is
pub entry-same : {K V A : Type 0} (eq : K → K → Bool) (k : K) (es fs : List (Arc K A × Stored K V)) (e f : Stored K V) → lookup (λ a. eq k (arc_value a)) es ≡ Some e → f ≡ e → fs ≡ set_value (λ a. eq k (arc_value a)) es f → map named fs ≡ map named es
entry-same eq k es fs e f known same written = ap (map named) (written ∙ (ap (set_value (λ a. eq k (arc_value a)) es) same ∙ set_value_same (λ a. eq k (arc_value a)) es e known))

-- what a finish has made of the entry of a key is written there
module _ {K V A : Type 0} (eq : K → K → Bool) (m : Meaning K V) (veq : V → V → Bool) (k : K) (a : Arc K A) (es fs : List (Arc K A × Stored K V)) (o : Option (Stored K V)) (f n : Stored K V)
    (known : lookup (λ y. eq k (arc_value y)) es ≡ o)
    (up : (q : Arc K A) → lookup (λ y. eq (arc_value q) (arc_value y)) fs ≡ cond (eq k (arc_value q)) (Some f) (lookup (λ y. eq (arc_value q) (arc_value y)) es)) where
  here : entry_at eq (map named es) k ≡ option_map kept_of o
  here = entry-named eq k es ∙ ap (option_map kept_of) known

  pub entry-taken : kept_of f ≡ written m veq (option_map kept_of o) (kept_of n) → (q : K) → entry_at eq (map named fs) q ≡ cond (eq k q) (Some (written m veq (entry_at eq (map named es) k) (kept_of n))) (entry_at eq (map named es) q)
  entry-taken h q = entry-put eq k a es fs f up q ∙ ap (λ e. cond (eq k q) (Some e) (entry_at eq (map named es) q)) (h ∙ ap (λ p. written m veq p (kept_of n)) (sym here))

  pub edges-taken : (same : AreSame eq) → ((j : K) → list_any (eq j) f.deps ≡ (deps_of eq o j || (goes_in m veq (option_map kept_of o) (kept_of n) && list_any (eq j) n.deps)))
      → (j q : K) → is_edge eq (map named fs) j q ≡ (is_edge eq (map named es) j q || (eq k q && (goes_in m veq (entry_at eq (map named es) k) (kept_of n) && list_any (eq j) n.deps)))
  edges-taken same h j q =
      edge-put eq k a es fs f up j q
      ∙ put-edge eq same (λ i. is_edge eq (map named es) j i) k q (goes_in m veq (entry_at eq (map named es) k) (kept_of n) && list_any (eq j) n.deps) (list_any (eq j) f.deps)
      (h j ∙ ((λ i. (sym (edge-named eq j k es ∙ ap (λ p. deps_of eq p j) known)) i || (goes_in m veq (sym here i) (kept_of n) && list_any (eq j) n.deps))))

-- the entry that is joined from two, as it is stored
pub joined_made : {K V : Type 0} (m : Meaning K V) (veq : V → V → Bool) (e n : Stored K V) (x : V) (t : List (Answered K V)) (r : List Range) (w : ℕ) (b : Bool) → nat_le e.version n.version ≡ b → x ≡ e.value → t ≡ cond b n.trace e.trace
    → ((u : ℕ) → contains r u ≡ (contains e.ranges u || contains n.ranges u)) → w ≡ cond b n.version e.version
    → ◌≡◌ {A = Kept K V} (record { value = x; trace = t; ranges = contains r; version = w }) (joined m veq (kept_of e) (kept_of n))
joined_made m veq e n x t r w b h p q u s = λ i. record { value = p i; trace = (q ∙ (λ j. cond (sym h j) n.trace e.trace)) i; ranges = λ z. u z i; version = (s ∙ (λ j. cond (sym h j) n.version e.version)) i }

pub not_le : (a b : ℕ) → b < a → nat_le a b ≡ false
not_le a b h = by_test (nat_le a b) refl
  where
    by_test : (r : Bool) → nat_le a b ≡ r → nat_le a b ≡ false
    by_test true e = absurd (let l = leb-true a b e in omega arith)
    by_test false e = e

module _ {K V : Type 0} (m : Meaning K V) (veq : V → V → Bool) (e n : Kept K V) where
  -- the new entry is joined with the one that is there; takes its place; or is let go
  pub written_joined : (veq e.value n.value && not (m.is_transient e.value)) ≡ true → joined m veq e n ≡ written m veq (Some e) n
  written_joined h = sym (ap (λ b. cond b (joined m veq e n) (cond (nat_le e.version n.version) n e)) h)

  pub in_joined : (veq e.value n.value && not (m.is_transient e.value)) ≡ true → goes_in m veq (Some e) n ≡ true
  in_joined h = ap (λ b. b || nat_le e.version n.version) h

  pub written_left : (veq e.value n.value && not (m.is_transient e.value)) ≡ false → nat_le e.version n.version ≡ false → e ≡ written m veq (Some e) n
  written_left h l = sym (ap (λ b. cond b (joined m veq e n) (cond (nat_le e.version n.version) n e)) h ∙ ap (λ b. cond b n e) l)

  pub in_left : (veq e.value n.value && not (m.is_transient e.value)) ≡ false → nat_le e.version n.version ≡ false → goes_in m veq (Some e) n ≡ false
  in_left h l = ap (λ b. b || nat_le e.version n.version) h ∙ l
