-- A target of a file, by its number.
use Rattle.std.proofs.Common.{◌≡◌, ◌<◌, ◌+◌, ◌-◌, ◌∙◌, sym, ap, refl, ℕ, zero, suc, List, [], ◌∷◌, ◌++◌, Some, length, map, get_or, append_assoc, append-nil, arith}
use Rattle.std.specs.Arc.{arc_value}
use Rattle.target_file.specs.declared.file.Located.{Located}
use Rattle.target_file.specs.Targets as targets
use Rattle.target_file.specs.declared.action.Action.TheVariants as action
use Rattle.target_file.specs.declared.call.Call.{Call}
use Rattle.target_file.specs.Seen.{call_of}
use Rattle.target_file.specs.Targets.{located, target_named}
use Rattle.target_file.specs.Lent.{located_of, all_of, number_at}
use Rattle.target_file.proofs.Meaning.{found_at}

all_length : (ls : List Located) → length (all_of ls) ≡ length ls
all_length [] = refl
all_length (l ∷ ls) = let h = all_length ls in omega arith

all_get : (ls : List Located) (k : ℕ) (x : Located) → get_or (all_of ls) k (located_of x) ≡ located_of (get_or ls k x)
all_get [] k x = refl
all_get (l ∷ ls) zero x = refl
all_get (l ∷ ls) (suc k) x = all_get ls k x

nowhere : targets.Located
nowhere = record { line = 0; target = record { name = []; visibility = []; labels = []; action = action.StampFile [] } }

pub found_below : (q : List ℕ) (ls : List Located) (k : ℕ) → number_at 0 q (all_of ls) ≡ Some k → k < length ls
found_below q ls k h = let r = found_at 0 q (all_of ls) k nowhere h in let b : k < 0 + length (all_of ls) = r.1 in let e = all_length ls in omega arith

pub found_target : (q : List ℕ) (ls : List Located) (k : ℕ) (x : Located) → number_at 0 q (all_of ls) ≡ Some k → x ≡ get_or ls k x → Some (arc_value x.target) ≡ target_named q (all_of ls)
found_target q ls k x h e =
    let r = found_at 0 q (all_of ls) k (located_of x) h in
    let z : k - 0 ≡ k = omega arith in
    let g : get_or (all_of ls) (k - 0) (located_of x) ≡ located_of x = ap (λ (n : ℕ). get_or (all_of ls) n (located_of x)) z ∙ all_get ls k x ∙ ap located_of (sym e) in
    ap (λ (l : targets.Located). Some l.target) (sym g) ∙ sym r.2

-- a loop that locates calls one by one
all_end : (ls : List Located) (l : Located) → all_of (ls ++ l ∷ []) ≡ all_of ls ++ located_of l ∷ []
all_end [] l = refl
all_end (m ∷ ls) l = ap (λ (r : List targets.Located). located_of m ∷ r) (all_end ls l)

pub put_last : (old new : List Located) (l : Located) (x : Call) → new ≡ old ++ l ∷ [] → located_of l ≡ located (call_of x) → all_of new ≡ all_of old ++ located (call_of x) ∷ []
put_last old new l x n i = ap all_of n ∙ all_end old l ∙ ap (λ (y : targets.Located). all_of old ++ y ∷ []) i

pub pushed : (all : List targets.Located) (old new : List Located) (x : Call) (rest more : List Call) →
    all_of old ++ map located (map call_of rest) ≡ all → rest ≡ x ∷ more → all_of new ≡ all_of old ++ located (call_of x) ∷ [] →
    all_of new ++ map located (map call_of more) ≡ all
pushed all old new x rest more h e n =
    ap (λ (r : List targets.Located). r ++ map located (map call_of more)) n
    ∙ append_assoc (all_of old) (located (call_of x) ∷ []) (map located (map call_of more))
    ∙ ap (λ (r : List Call). all_of old ++ map located (map call_of r)) (sym e) ∙ h

pub all_done : (ls : List Located) (rest first all : List Call) → all_of ls ++ map located (map call_of rest) ≡ map located (map call_of first) → rest ≡ [] → first ≡ all → all_of ls ≡ map located (map call_of all)
all_done ls rest first all h e f =
    sym (append-nil (all_of ls)) ∙ ap (λ (r : List Call). all_of ls ++ map located (map call_of r)) (sym e) ∙ h ∙ ap (λ (r : List Call). map located (map call_of r)) f
