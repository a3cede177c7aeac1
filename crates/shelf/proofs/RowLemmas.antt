-- The hash map of a copy agrees with the list of all operations as both grow.
use Rattle.std.proofs.Common.{◌≡◌, Bool, true, false, cond, ◌&&◌, ℕ, ◌+◌, ◌≤◌, List, [], ◌∷◌, ◌++◌, length, take, drop, refl, sym, ap, subst, ◌∙◌, true≢false, map, append_assoc, Result, Ok, Err, Option, None, Some, is_some, nat_eq, if◌then◌else◌, arith}
use Rattle.std.proofs.lemmas.List.{take-append-le, drop-append-le, take_all, drop_all, length-append, map-append}
use Rattle.std.proofs.lemmas.Option.{none-some, same_Some}
use Rattle.std.specs.Arc.{arc_value}
use Rattle.std.specs.declared.sync.Arc.{Arc}
use Rattle.std.specs.Cmp.{IsEquivalence, unsigned_Decides, first_so, second_so}
use Rattle.std.specs.Map.{lookup}
use Rattle.std.specs.Option.{option_map, option_or}
use Rattle.indexmap.specs.IndexMap.{IndexMap, insert_entry}
use Rattle.shelf.specs.declared.op.Plain.{Plain}
use Rattle.shelf.specs.declared.op.Plain.TheVariants as bare
use Rattle.shelf.specs.declared.row.RowKey.{RowKey}
use Rattle.shelf.specs.declared.store.Aside.{Aside}
use Rattle.shelf.specs.Ops.{plain, is_row, value_of, row_at}
use Rattle.shelf.specs.Rows.{is_place, value_in, Agrees, AddsRow, plain_row, woven, InOrder, IsNoNewRow, PutsRow, PutsNew}

or_none : {V : Type 0} (x : Option V) → x ≡ option_or x None
or_none None = refl
or_none (Some x) = refl

some_or : {V : Type 0} (x o : Option V) → is_some x ≡ true → x ≡ option_or x o
some_or None o e = absurd (true≢false (sym e))
some_or (Some x) o e = refl

map_is_some : {X Y : Type 0} (f : X → Y) (x : Option X) → is_some (option_map f x) ≡ is_some x
map_is_some f None = refl
map_is_some f (Some x) = refl

module _ {K V : Type 0} where
  -- what a list with one more operation has at a version and key
  abbrev More : (K → Bool) → ℕ → List (Plain K V) → Plain K V → Option V → Option V → Type 0
  More test v ops x old new = new ≡ option_or old (if is_row test v x then value_of x else None)

  row_more : (test : K → Bool) (v : ℕ) (ops : List (Plain K V)) (x : Plain K V) → More test v ops x (row_at test v ops) (row_at test v (ops ++ x ∷ []))
  row_more test v [] x = refl
  row_more test v (bare.Commit c ∷ ops) x = row_more test v ops x
  row_more test v (bare.Row w k y ∷ ops) x = by (nat_eq v w && test k) (row_at test v ops) (row_at test v (ops ++ x ∷ [])) (row_more test v ops x)
    where
      by : (b : Bool) (old new : Option V) → More test v ops x old new → More test v ops x (if b then Some y else old) (if b then Some y else new)
      by true old new e = refl
      by false old new e = e

lookup_more : {X Y : Type 0} (test : X → Bool) (es : List (X × Y)) (x : X) (y : Y) → lookup test (es ++ (x, y) ∷ []) ≡ option_or (lookup test es) (cond (test x) (Some y) None)
lookup_more test [] x y = refl
lookup_more test (e ∷ es) x y = by (test e.0) (lookup_more test es x y)
  where
    by : (b : Bool) → lookup test (es ++ (x, y) ∷ []) ≡ option_or (lookup test es) (cond (test x) (Some y) None)
        → cond b (Some e.1) (lookup test (es ++ (x, y) ∷ [])) ≡ option_or (cond b (Some e.1) (lookup test es)) (cond (test x) (Some y) None)
    by true h = refl
    by false h = h

-- a key that has a value is given that value again
pub same_again : {X Y : Type 0} (test : X → X → Bool) (es : List (X × Y)) (r : X) (z : Y) → lookup (test r) es ≡ Some z → insert_entry test es r z ≡ es
same_again test [] r z e = absurd (none-some _ e)
same_again test (p ∷ ps) r z e = by (test r p.0) (same_again test ps r z) e
  where
    by : (b : Bool) → (lookup (test r) ps ≡ Some z → insert_entry test ps r z ≡ ps) → cond b (Some p.1) (lookup (test r) ps) ≡ Some z → (if b then (p.0, z) ∷ ps else p ∷ insert_entry test ps r z) ≡ p ∷ ps
    by true again h = ap (λ w. (p.0, w) ∷ ps) (sym (same_Some _ _ h))
    by false again h = ap (λ l. p ∷ l) (again h)

lookup_alike : {X Y : Type 0} (test other : X → Bool) → ((x : X) → test x ≡ other x) → (es : List (X × Y)) → lookup test es ≡ lookup other es
lookup_alike test other same [] = refl
lookup_alike test other same (e ∷ es) = λ i. cond (same e.0 i) (Some e.1) (lookup_alike test other same es i)

value_or : {V A : Type 0} (x : Option (Arc V A)) (b : Bool) (y : Arc V A) → option_map (λ z. arc_value z) (option_or x (cond b (Some y) None)) ≡ option_or (option_map (λ z. arc_value z) x) (if b then Some (arc_value y) else None)
value_or None true y = refl
value_or None false y = refl
value_or (Some x) b y = refl

abbrev pub same_row : {K : Type 0} → (K → K → Bool) → RowKey K → RowKey K → Bool
same_row eq r z = is_place eq r.version (arc_value r.key) z

-- the same version and equal keys are the same place
same_place : {K : Type 0} (eq : K → K → Bool) → IsEquivalence eq → (v w : ℕ) (k q : K) → nat_eq w v && eq q k ≡ true → (r : RowKey K) → is_place eq w q r ≡ is_place eq v k r
same_place eq laws v w k q e r = λ i. nat_eq ((unsigned_Decides w v).0 (first_so (nat_eq w v) (eq q k) e) i) r.version && laws.congr q k (arc_value r.key) (second_so (nat_eq w v) (eq q k) e) i

module _ {K V A : Type 0} (eq : K → K → Bool) where
  -- a row is put in
  pub agrees_row : (v : ℕ) (k : K) (x : V) (es fs : List (RowKey K × Arc V A)) (ops : List (Plain K V)) → Agrees eq es ops → AddsRow eq v k x es fs → Agrees eq fs (ops ++ bare.Row v k x ∷ [])
  agrees_row v k x es fs ops h adds w q = adds w q ∙ (ap (λ o. option_or o (if nat_eq w v && eq q k then Some x else None)) (h w q) ∙ sym (row_more (eq q) w ops (bare.Row v k x)))

  -- if a row is there, it stays
  put_there : IsEquivalence eq → (v : ℕ) (k : K) (x : V) (es fs : List (RowKey K × Arc V A)) → is_some (lookup (is_place eq v k) es) ≡ true → fs ≡ es → AddsRow eq v k x es fs
  put_there laws v k x es fs there same w q = ap (value_in eq w q) same ∙ by (nat_eq w v && eq q k) refl
    where
      by : (b : Bool) → nat_eq w v && eq q k ≡ b → value_in eq w q es ≡ option_or (value_in eq w q es) (if b then Some x else None)
      by false e = or_none (value_in eq w q es)
      by true e = some_or (value_in eq w q es) (Some x) (map_is_some (λ z. arc_value z) (lookup (is_place eq w q) es) ∙ (ap is_some (lookup_alike (is_place eq w q) (is_place eq v k) (same_place eq laws v w k q e) es) ∙ there))

  -- if none is there, it is put in
  new_row : {S : Type 0} (m : IndexMap (RowKey K) (Arc V A) S) (r : RowKey K) (y : Arc V A) (fs : List (RowKey K × Arc V A)) → fs ≡ m.entries ++ (r, y) ∷ [] → AddsRow eq r.version (arc_value r.key) (arc_value y) m.entries fs
  new_row m r y fs is w q =
      ap (value_in eq w q) is ∙ (ap (option_map (λ z. arc_value z)) (lookup_more (is_place eq w q) m.entries r y) ∙ value_or (lookup (is_place eq w q) m.entries) (is_place eq w q r) y)

  -- what is no new row changes nothing of the map
  agrees_aside : IsEquivalence eq → (x : Plain K V) (es : List (RowKey K × Arc V A)) (ops : List (Plain K V)) → Agrees eq es ops → IsNoNewRow eq ops x → Agrees eq es (ops ++ x ∷ [])
  agrees_aside laws (bare.Commit c) es ops h none w q = h w q ∙ (or_none (row_at (eq q) w ops) ∙ sym (row_more (eq q) w ops (bare.Commit c)))
  agrees_aside laws (bare.Row v k x) es ops h there w q =
      agrees_row v k x es es ops h (put_there laws v k x es es (sym (map_is_some (λ z. arc_value z) (lookup (is_place eq v k) es)) ∙ (ap is_some (h v k) ∙ there)) refl) w q

module _ {K V : Type 0} where
  within : (n end : ℕ) (os : List (Aside K V)) → InOrder n end os → n ≤ end
  within n end [] h = h
  within n end (o ∷ os) h = let rest = within o.after end os h.1 in omega arith

  later : (n end : ℕ) (os : List (Aside K V)) → InOrder n end os → InOrder n (end + 1) os
  later n end [] h = omega arith
  later n end (o ∷ os) h = (h.0, later o.after end os h.1)

  -- one more of the others stands last
  one_more : (n end : ℕ) (os : List (Aside K V)) (o : Aside K V) → o.after ≡ end → InOrder n end os → InOrder n end (os ++ o ∷ [])
  one_more n end [] o at h = (omega arith, omega arith)
  one_more n end (p ∷ os) o at h = (h.0, one_more p.after end os o at h.1)

module _ {K V A : Type 0} where
  row_woven : (n : ℕ) (es : List (RowKey K × Arc V A)) (os : List (Aside K V)) (e : RowKey K × Arc V A) → InOrder n (length es) os → woven n (es ++ e ∷ []) os ≡ woven n es os ++ plain_row e ∷ []
  row_woven n es [] e h = ap (map plain_row) (drop-append-le n es (e ∷ []) h) ∙ map-append plain_row (drop n es) (e ∷ [])
  row_woven n es (o ∷ os) e h =
      (λ i. map plain_row (drop n (take-append-le o.after es (e ∷ []) (within o.after (length es) os h.1) i)) ++ plain o.op ∷ row_woven o.after es os e h.1 i)
      ∙ sym (append_assoc (map plain_row (drop n (take o.after es))) (plain o.op ∷ woven o.after es os) (plain_row e ∷ []))

  pub other_woven : (n : ℕ) (es : List (RowKey K × Arc V A)) (os : List (Aside K V)) (o : Aside K V) → o.after ≡ length es → woven n es (os ++ o ∷ []) ≡ woven n es os ++ plain o.op ∷ []
  other_woven n es [] o at =
      λ i. map plain_row (drop n (take_all o.after es (omega arith) i)) ++ plain o.op ∷ map plain_row (drop_all o.after es (omega arith) i)
  other_woven n es (p ∷ os) o at =
      (λ i. map plain_row (drop n (take p.after es)) ++ plain p.op ∷ other_woven p.after es os o at i)
      ∙ sym (append_assoc (map plain_row (drop n (take p.after es))) (plain p.op ∷ woven p.after es os) (plain o.op ∷ []))

-- what holds of the two parts of a copy
module _ {K V A : Type 0} (eq : K → K → Bool) where
  abbrev pub Kept : List (RowKey K × Arc V A) → List (Aside K V) → Type 0
  Kept es os = Agrees eq es (woven 0 es os) × InOrder 0 (length es) os

  pub row_put : {S : Type 0} (r : Result (Option (Arc V A)) (Arc V A)) (m n : IndexMap (RowKey K) (Arc V A) S) (os : List (Aside K V)) (k : RowKey K) (x : Arc V A) → Kept m.entries os → PutsNew (same_row eq) k x r m n
      → PutsRow eq k.version (arc_value k.key) x r (woven 0 m.entries os) (woven 0 n.entries os)
  row_put (Ok None) m n os k x h put = ap (λ es. woven 0 es os) put.1 ∙ row_woven 0 m.entries os (k, x) h.1
  row_put (Ok (Some y)) m n os k x h put =
      (put.0, ap (λ es. woven 0 es os) put.2, ap is_some (sym (h.0 k.version (arc_value k.key))) ∙ (map_is_some (λ z. arc_value z) (lookup (same_row eq k) m.entries) ∙ put.1))
  row_put (Err y) m n os k x h put = (put.0, ap (λ es. woven 0 es os) put.1)

  pub row_kept : {S : Type 0} (r : Result (Option (Arc V A)) (Arc V A)) (m n : IndexMap (RowKey K) (Arc V A) S) (os : List (Aside K V)) (k : RowKey K) (x : Arc V A) → Kept m.entries os → PutsNew (same_row eq) k x r m n → Kept n.entries os
  row_kept (Ok None) m n os k x h put = (
    subst (Agrees eq n.entries) (sym (ap (λ es. woven 0 es os) put.1 ∙ row_woven 0 m.entries os (k, x) h.1)) (agrees_row eq k.version (arc_value k.key) (arc_value x) m.entries n.entries (woven 0 m.entries os) h.0 (new_row eq m k x n.entries put.1)),
    subst (λ l. InOrder 0 l os) (sym (ap length put.1 ∙ length-append m.entries ((k, x) ∷ []))) (later 0 (length m.entries) os h.1),
  )
  row_kept (Ok (Some y)) m n os k x h put = subst (λ es. Kept es os) (sym put.2) h
  row_kept (Err y) m n os k x h put = subst (λ es. Kept es os) (sym put.1) h

  pub aside_kept : IsEquivalence eq → (es : List (RowKey K × Arc V A)) (os : List (Aside K V)) (o : Aside K V) → o.after ≡ length es → Kept es os → IsNoNewRow eq (woven 0 es os) (plain o.op) → Kept es (os ++ o ∷ [])
  aside_kept laws es os o at h none =
      (subst (Agrees eq es) (sym (other_woven 0 es os o at)) (agrees_aside eq laws (plain o.op) es (woven 0 es os) h.0 none), one_more 0 (length es) os o at h.1)
