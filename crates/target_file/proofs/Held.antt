-- The invariant of the loop over the bytes.
use Rattle.std.proofs.Common.{◌≡◌, ◌<◌, ◌≤◌, ◌+◌, ◌*◌, ◌^◌, ◌∙◌, sym, ap, refl, subst, ℕ, List, [], ◌∷◌, ◌++◌, inl, inr, nat_eq, Some, length, length-append, append_assoc, append-nil, arith}
use Rattle.std.proofs.Common.{suc, take, drop, get_or, add-one, drop-cons}
use Rattle.std.proofs.Math.Seq.{take-suc, take-length}
use Rattle.std.proofs.lemmas.List.{take-append-drop}
use Rattle.target_file.specs.declared.table.Rule.TheVariants.{WriteFile}
use Rattle.target_file.specs.Tokens.{Scan, start, next}
use Rattle.target_file.specs.Files.{names, IsBad, IsWritten}
use Rattle.target_file.specs.Calls.{Call}
use Rattle.target_file.specs.Machine.{State, first}
use Rattle.target_file.specs.Code.{bare, Refuses, Takes, Ran, Stops, Breaks, Fails, IsEnd}
use Rattle.target_file.proofs.Fresh.{doubled}
use Rattle.target_file.proofs.Prefixes.{blank, shift}
use Rattle.target_file.proofs.Reached.{Reached, took, bad_byte, bad_end, good_end, end_only, reached_first}
use Rattle.target_file.proofs.Counting.{weight, run_weight, out_few}
use Rattle.std.proofs.lemmas.Bool.{cases_Bool}
use Rattle.lists.specs.Lines.{line_feeds}

-- after these bytes: the bare scan, and the machine's state
pub record Held (p : List ℕ) (b : Scan) (m : State) : Type 0 where
  pub scan : Scan
  pub bare : blank scan ≡ b
  pub reached : Reached WriteFile p scan m
  pub few : weight m ≤ 2 * length p

pub held_first : Held [] start (first WriteFile)
held_first = record { scan = start; bare = refl; reached = reached_first WriteFile; few = omega arith }

feeds_few : (p : List ℕ) → line_feeds p ≤ length p
feeds_few [] = omega arith
feeds_few (b ∷ p) = elim (cases_Bool (nat_eq b 10)) [
  | inl t ↦ let h = feeds_few p in rw t (omega arith)
  | inr f ↦ let h = feeds_few p in rw f (omega arith)
]

pub held_more : (p : List ℕ) (b : ℕ) (s t : Scan) (m e : State) → length p < 2 ^ 64 → Held p s m → Takes s b m t e → Held (p ++ b ∷ []) (blank t) e
held_more p b s t m e n h k =
    let out : Scan = record { tokens = k.out; mode = t.mode; line = t.line } in
    let nx : next (blank h.scan) b ≡ Some out = subst (λ (x : Scan). next x b ≡ Some out) (sym h.bare) k.next_is in
    let two : length k.out ≤ 2 = out_few h.scan.mode h.scan.line b out nx in
    let w : weight e ≤ weight m + length k.out = run_weight k.out m e k.runs in
    let f = h.few in
    let l : length (p ++ b ∷ []) ≡ length p + 1 = length-append p (b ∷ []) in
    let fits : length (names e.calls) < doubled 128 = omega arith in
    record {
      scan = shift h.scan.tokens out;
      bare = refl;
      reached = took WriteFile p h.scan out m e b h.reached nx k.runs fits;
      few = omega arith;
    }

-- bytes that are taken one after the other
pub held_ran : (p bs : List ℕ) (s t : Scan) (m e : State) → length (p ++ bs) < 2 ^ 64 → Held p s m → Ran s bs m t e → Held (p ++ bs) t e
held_ran p [] s t m e n h r =
    subst (λ (q : List ℕ). Held q t e) (sym (append-nil p)) (subst (λ (x : Scan). Held p x e) (sym r.0) (subst (λ (x : State). Held p s x) (sym r.1) h))
held_ran p (b ∷ bs) s t m e n h r =
    let l = length-append p (b ∷ bs) in
    let a : (p ++ b ∷ []) ++ bs ≡ p ++ b ∷ bs = append_assoc p (b ∷ []) bs in
    let k : length ((p ++ b ∷ []) ++ bs) < 2 ^ 64 = let i = ap length a in omega arith in
    let g : Held (p ++ b ∷ []) (bare r.0 r.1) r.2 = held_more p b s (bare r.0 r.1) m r.2 (omega arith) h r.3 in
    subst (λ (q : List ℕ). Held q t e) a (held_ran (p ++ b ∷ []) bs (bare r.0 r.1) t r.2 e k g r.4)

pub held_bad : (text p rest : List ℕ) (b : ℕ) (s : Scan) (m : State) → text ≡ p ++ b ∷ rest → Held p s m → Refuses s b m → IsBad text s.line
held_bad text p rest b s m e h k =
    let r = bad_byte WriteFile text p rest h.scan m b e h.reached (subst (λ (x : Scan). Refuses x b m) (sym h.bare) k) in
    subst (IsBad text) (ap (λ (x : Scan). x.line) h.bare) r

pub held_line : (p : List ℕ) (s : Scan) (m : State) → Held p s m → s.line ≤ 1 + length p
held_line p s m h =
    let a = h.reached.line_is in let b = feeds_few p in let c : h.scan.line ≡ s.line = ap (λ (x : Scan). x.line) h.bare in omega arith

same_end : (a s : Scan) (m : State) → blank a ≡ s → IsEnd a m → IsEnd s m
same_end a s m e h = subst (λ (x : Scan). IsEnd x m) e h

pub held_end_bad : (text : List ℕ) (s : Scan) (m : State) → Held text s m → (IsEnd s m → ⊥) → IsBad text s.line
held_end_bad text s m h k =
    subst (IsBad text) (ap (λ (x : Scan). x.line) h.bare) (bad_end WriteFile text h.scan m h.reached (λ i. k (same_end h.scan s m h.bare i)))

-- if no file goes on
stopped : (text p bs : List ℕ) (s : Scan) (m : State) (line : ℕ) → length text < 2 ^ 64 → text ≡ p ++ bs → Held p s m → Stops s bs m line → IsBad text line
stopped text p bs s m line n e h g =
    let w : text ≡ (p ++ g.front) ++ g.byte ∷ g.back = e ∙ ap (λ (x : List ℕ). p ++ x) g.bytes_are ∙ sym (append_assoc p g.front (g.byte ∷ g.back)) in
    let l : length text ≡ length (p ++ g.front) + length (g.byte ∷ g.back) = ap length w ∙ length-append (p ++ g.front) (g.byte ∷ g.back) in
    held_bad text (p ++ g.front) g.back g.byte (bare g.mode line) g.state w (held_ran p g.front s (bare g.mode line) m g.state (omega arith) h g.ran) g.refused

broken : (text p bs : List ℕ) (s : Scan) (m : State) (line : ℕ) → length text < 2 ^ 64 → text ≡ p ++ bs → Held p s m → Breaks s bs m line → IsBad text line
broken text p bs s m line n e h g =
    let l : length (p ++ bs) < 2 ^ 64 = let i = ap length e in omega arith in
    let k : Held text (bare g.mode line) g.state = subst (λ (x : List ℕ). Held x (bare g.mode line) g.state) (sym e) (held_ran p bs s (bare g.mode line) m g.state l h g.ran) in
    held_end_bad text (bare g.mode line) g.state k (λ i. g.inside i.0)

pub held_fails : (text p bs : List ℕ) (s : Scan) (m : State) (line : ℕ) → length text < 2 ^ 64 → text ≡ p ++ bs → Held p s m → Fails s bs m line → IsBad text line
held_fails text p bs s m line n e h (inl g) = stopped text p bs s m line n e h g
held_fails text p bs s m line n e h (inr g) = broken text p bs s m line n e h g

pub held_file : (text : List ℕ) (s : Scan) (m : State) → Held text s m → IsEnd s m → IsWritten text m.calls × ((others : List Call) → IsWritten text others → others ≡ m.calls)
held_file text s m h k = (
  good_end WriteFile text h.scan m h.reached (subst (λ (x : Scan). IsEnd x m) (sym h.bare) k),
  λ others f. (end_only WriteFile text h.scan m others h.reached f).1,
)

-- the text at a byte
pub cut_at : (bs : List ℕ) (i : ℕ) → i < length bs → bs ≡ take i bs ++ get_or bs i 0 ∷ drop (suc i) bs
cut_at bs i h = sym (take-append-drop i bs) ∙ ap (λ (r : List ℕ). take i bs ++ r) (drop-cons bs i 0 h)

pub take_more : (bs : List ℕ) (i : ℕ) → i < length bs → take (i + 1) bs ≡ take i bs ++ get_or bs i 0 ∷ []
take_more bs i h = ap (λ (n : ℕ). take n bs) (add-one i) ∙ take-suc bs i 0 h

pub take_whole : (bs : List ℕ) (i : ℕ) → i ≤ length bs → length bs ≤ i → take i bs ≡ bs
take_whole bs i h k = let e : i ≡ length bs = omega arith in ap (λ (n : ℕ). take n bs) e ∙ take-length bs

pub whole_file : (bs : List ℕ) (i : ℕ) (s : Scan) (m : State) → Held (take i bs) s m → i ≤ length bs → length bs ≤ i → IsEnd s m → IsWritten bs m.calls
whole_file bs i s m h j k e = (held_file bs s m (subst (λ (p : List ℕ). Held p s m) (take_whole bs i j k) h) e).0
