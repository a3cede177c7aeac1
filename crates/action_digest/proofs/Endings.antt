-- The lines of answers, one after the other, and at their end.
use Rattle.std.proofs.Common.{◌≡◌, ◌≤◌, ◌<◌, ◌+◌, ◌⊎◌, inl, inr, ◌∙◌, ℕ, sym, ap, subst, refl, List, [], ◌∷◌, ◌++◌, append_assoc, get_or, length, drop, map, min, Result, Ok, Err, zero, suc, arith, append-nil, Bool}
use Rattle.std.specs.Arc.{arc_value}
use Rattle.std.specs.declared.sync.Arc.{Arc}
use Rattle.action_digest.specs.declared.key.Key.{Key}
use Rattle.action_digest.specs.declared.value.Value.{Value}
use Rattle.action_digest.specs.declared.fault.Fault.{Fault}
use Rattle.action_digest.specs.Actions.{behind, joined, line_by, lines_by, IsAppended}
use Rattle.lists.proofs.Places.{drop_item}
use Rattle.std.proofs.lemmas.List.{drop_all}

no_values : (named : Bool) (ks : List Key) → lines_by named ks [] ≡ Ok []
no_values named [] = refl
no_values named (k ∷ ks) = refl

least : (a b : ℕ) → (a ≤ b) ⊎ (b ≤ a)
least zero b = inl (omega arith)
least (suc a) zero = inr (omega arith)
least (suc a) (suc b) = elim (least a b) as (λ _. (suc a ≤ suc b) ⊎ (suc b ≤ suc a)) [ inl h ↦ inl (omega arith) | inr h ↦ inr (omega arith) ]

which : (a b n : ℕ) → n ≡ min a b → (a ≤ n) ⊎ (b ≤ n)
which a b n e = elim (least a b) as (λ _. (a ≤ n) ⊎ (b ≤ n)) [ inl h ↦ inl (omega arith) | inr h ↦ inr (omega arith) ]

-- a line was appended, or a fault was told
line_before : (old new : List ℕ) (u : Unit {0}) (a b : Result (List ℕ) Fault) → IsAppended old new (Ok u) a → behind new b ≡ behind old (joined a b)
line_before old new u (Ok l) (Ok m) h = ap (λ (t : List ℕ). Ok (t ++ m)) h ∙ ap Ok (append_assoc old l m)
line_before old new u (Ok l) (Err e) h = refl
line_before old new u (Err f) b h = absurd h

fault_before : (old new : List ℕ) (e : Fault) (a b : Result (List ℕ) Fault) → IsAppended old new (Err e) a → Err e ≡ behind old (joined a b)
fault_before old new e (Ok l) b h = absurd h
fault_before old new e (Err f) b h = ap Err h

module _ {A B : Type 0} where
  -- the lines from one answer on
  from_here : (named : Bool) (ks : List (Arc Key A)) (xs : List (Arc Value B)) (n : ℕ) (k : Arc Key A) (x : Arc Value B) (key : Key) (value : Value) →
      n < length ks → n < length xs → k ≡ get_or ks n k → x ≡ get_or xs n x → key ≡ arc_value k → value ≡ arc_value x →
      lines_by named (map arc_value (drop n ks)) (map arc_value (drop n xs)) ≡ joined (line_by named key value) (lines_by named (map arc_value (drop (n + 1) ks)) (map arc_value (drop (n + 1) xs)))
  from_here named ks xs n k x key value h i e f a b =
      let rest : Result (List ℕ) Fault = lines_by named (map arc_value (drop (n + 1) ks)) (map arc_value (drop (n + 1) xs)) in
      ap (λ (js : List (Arc Key A)). lines_by named (map arc_value js) (map arc_value (drop n xs))) (drop_item ks n k h e)
      ∙ ap (λ (ys : List (Arc Value B)). lines_by named (map arc_value (k ∷ drop (n + 1) ks)) (map arc_value ys)) (drop_item xs n x i f)
      ∙ ap (λ (j : Key). joined (line_by named j (arc_value x)) rest) (sym a)
      ∙ ap (λ (y : Value). joined (line_by named key y) rest) (sym b)

  pub line_added : (named : Bool) (ks : List (Arc Key A)) (xs : List (Arc Value B)) (n : ℕ) (k : Arc Key A) (x : Arc Value B) (old new : List ℕ) (r : Result (Unit {0}) Fault) (u : Unit {0}) (key : Key) (value : Value) →
      n < length ks → n < length xs → k ≡ get_or ks n k → x ≡ get_or xs n x → r ≡ Ok u → key ≡ arc_value k → value ≡ arc_value x → IsAppended old new r (line_by named key value) →
      behind new (lines_by named (map arc_value (drop (n + 1) ks)) (map arc_value (drop (n + 1) xs))) ≡ behind old (lines_by named (map arc_value (drop n ks)) (map arc_value (drop n xs)))
  line_added named ks xs n k x old new r u key value h i e f o a b g =
      let told : IsAppended old new (Ok u) (line_by named key value) = subst (λ (t : Result (Unit {0}) Fault). IsAppended old new t (line_by named key value)) o g in
      line_before old new u (line_by named key value) (lines_by named (map arc_value (drop (n + 1) ks)) (map arc_value (drop (n + 1) xs))) told
      ∙ ap (behind old) (sym (from_here named ks xs n k x key value h i e f a b))

  pub fault_told : (named : Bool) (ks : List (Arc Key A)) (xs : List (Arc Value B)) (n : ℕ) (k : Arc Key A) (x : Arc Value B) (old new : List ℕ) (r : Result (Unit {0}) Fault) (t : Fault) (key : Key) (value : Value) →
      n < length ks → n < length xs → k ≡ get_or ks n k → x ≡ get_or xs n x → r ≡ Err t → key ≡ arc_value k → value ≡ arc_value x → IsAppended old new r (line_by named key value) →
      Err t ≡ behind old (lines_by named (map arc_value (drop n ks)) (map arc_value (drop n xs)))
  fault_told named ks xs n k x old new r t key value h i e f o a b g =
      let told : IsAppended old new (Err t) (line_by named key value) = subst (λ (s : Result (Unit {0}) Fault). IsAppended old new s (line_by named key value)) o g in
      fault_before old new t (line_by named key value) (lines_by named (map arc_value (drop (n + 1) ks)) (map arc_value (drop (n + 1) xs))) told
      ∙ ap (behind old) (sym (from_here named ks xs n k x key value h i e f a b))

  ended : (named : Bool) (ks : List (Arc Key A)) (xs : List (Arc Value B)) (n : ℕ) → (length ks ≤ n) ⊎ (length xs ≤ n) → lines_by named (map arc_value (drop n ks)) (map arc_value (drop n xs)) ≡ Ok []
  ended named ks xs n (inl h) = ap (λ (js : List (Arc Key A)). lines_by named (map arc_value js) (map arc_value (drop n xs))) (drop_all n ks h)
  ended named ks xs n (inr h) = ap (λ (ys : List (Arc Value B)). lines_by named (map arc_value (drop n ks)) (map arc_value ys)) (drop_all n xs h) ∙ no_values named (map arc_value (drop n ks))

  pub no_lines : (named : Bool) (ks : List (Arc Key A)) (xs : List (Arc Value B)) (n : ℕ) (text : List ℕ) → n ≡ min (length ks) (length xs) → Ok text ≡ behind text (lines_by named (map arc_value (drop n ks)) (map arc_value (drop n xs)))
  no_lines named ks xs n text e = ap Ok (sym (append-nil text)) ∙ sym (ap (behind text) (ended named ks xs n (which (length ks) (length xs) n e)))
