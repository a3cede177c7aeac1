-- The line of a fault, by a live prefix and a dead one with no LF between.
use Rattle.std.proofs.Common.{◌≡◌, ◌+◌, ◌∙◌, sym, ap, refl, subst, ℕ, List, [], ◌∷◌, ◌++◌, append_assoc, append-nil, arith}
use Rattle.target_file.specs.Calls.{Call}
use Rattle.target_file.specs.Files.{IsWritten, IsDead, IsShortestDead, IsFaultLine}
use Rattle.target_file.proofs.Faults.{IsLive}
use Rattle.lists.proofs.Lines.{line_feeds_append}
use Rattle.lists.specs.Lines.{line_feeds}

-- one begins the other
pub data Compared (p q x y : List ℕ) : Type 0 where
  longer : (z : List ℕ) → p ≡ q ++ z → z ++ x ≡ y → Compared p q x y
  shorter : (c : ℕ) (z : List ℕ) → q ≡ p ++ c ∷ z → x ≡ c ∷ (z ++ y) → Compared p q x y

consed : (b c : ℕ) (p q x y : List ℕ) → b ≡ c → Compared p q x y → Compared (b ∷ p) (c ∷ q) x y
consed b c p q x y e (longer z f g) = longer z (cc) g
consed b c p q x y e (shorter d z f g) = shorter d z (cc) g

compared : (p q x y : List ℕ) → p ++ x ≡ q ++ y → Compared p q x y
compared [] [] x y e = longer [] refl e
compared [] (c ∷ q) x y e = shorter c q refl e
compared (b ∷ p) [] x y e = longer (b ∷ p) refl e
compared (b ∷ p) (c ∷ q) x y e = let h : b ≡ c = cc in let k : p ++ x ≡ q ++ y = cc in consed b c p q x y h (compared p q x y k)

live_dead : (q before : List ℕ) (c : ℕ) (z : List ℕ) → IsLive q → q ≡ before ++ c ∷ z → IsDead (before ++ c ∷ []) → ⊥
live_dead q before c z l e d =
    let f : q ++ l.more ≡ (before ++ c ∷ []) ++ (z ++ l.more) = ap (λ (x : List ℕ). x ++ l.more) e ∙ append_assoc before (c ∷ z) l.more ∙ sym (append_assoc before (c ∷ []) (z ++ l.more)) in
    d (z ++ l.more) l.calls (subst (λ (t : List ℕ). IsWritten t l.calls) f l.file)

-- the shortest dead prefix ends after a live one
behind_cases : (q y before rest : List ℕ) (c : ℕ) → IsLive q → IsDead (before ++ c ∷ []) → Compared before q (c ∷ rest) y → (z : List ℕ) × (before ≡ q ++ z) × (z ++ c ∷ rest ≡ y)
behind_cases q y before rest c l d (longer z e f) = (z, e, f)
behind_cases q y before rest c l d (shorter b z e f) = let g : c ≡ b = cc in absurd (live_dead q before c z l (e ∙ ap (λ (n : ℕ). before ++ n ∷ z) (sym g)) d)

behind_live : (text q y before : List ℕ) (c : ℕ) → IsLive q → text ≡ q ++ y → (s : IsShortestDead text before c) → (z : List ℕ) × (before ≡ q ++ z) × (z ++ c ∷ s.rest ≡ y)
behind_live text q y before c l e s = behind_cases q y before s.rest c l s.dead (compared before q (c ∷ s.rest) y (sym s.text_is ∙ e))

none_in : (z x : List ℕ) (n : ℕ) → line_feeds (z ++ x) ≡ n → n ≡ 0 → line_feeds z ≡ 0
none_in z x n e h = let f = line_feeds_append z x in omega arith

feeds_behind : (q z before : List ℕ) → before ≡ q ++ z → line_feeds z ≡ 0 → 1 + line_feeds q ≡ 1 + line_feeds before
feeds_behind q z before e h = let f = line_feeds_append q z in let g : line_feeds before ≡ line_feeds (q ++ z) = ap line_feeds e in omega arith

-- the end is on the line of a live prefix
pub told_end : (text q r : List ℕ) → text ≡ q ++ r → IsLive q → line_feeds r ≡ 0 → IsFaultLine text (1 + line_feeds q)
told_end text q r e l h = record {
  dead = λ before c s. let k = behind_live text q r before c l e s in feeds_behind q k.0 before k.1 (none_in k.0 (c ∷ s.rest) (line_feeds r) (ap line_feeds k.2) h);
  end = λ n. feeds_behind q r text e h;
}

within : (q r rest z more before : List ℕ) (b c : ℕ) → before ≡ q ++ z → ((front back : List ℕ) → before ≡ front ++ back → IsDead front → ⊥) → IsDead ((q ++ r) ++ b ∷ []) → line_feeds r ≡ 0 → Compared z r (c ∷ more) (b ∷ rest) → line_feeds z ≡ 0
within q r rest z more before b c e s d h (longer [] f g) = ap line_feeds (f ∙ append-nil r) ∙ h
within q r rest z more before b c e s d h (longer (a ∷ w) f g) =
    let i : a ≡ b = cc in
    let k : before ≡ ((q ++ r) ++ b ∷ []) ++ w = e ∙ ap (λ (x : List ℕ). q ++ x) f ∙ ap (λ (n : ℕ). q ++ (r ++ n ∷ w)) i ∙ sym (append_assoc q r (b ∷ w)) ∙ sym (append_assoc (q ++ r) (b ∷ []) w) in
    absurd (s ((q ++ r) ++ b ∷ []) w k d)
within q r rest z more before b c e s d h (shorter a w f g) = none_in z (a ∷ w) (line_feeds r) (sym (ap line_feeds f)) h

-- a dead prefix ends on the line of a live one
pub told : (text q r rest : List ℕ) (b : ℕ) → text ≡ (q ++ r) ++ b ∷ rest → IsLive q → line_feeds r ≡ 0 → IsDead ((q ++ r) ++ b ∷ []) → IsFaultLine text (1 + line_feeds q)
told text q r rest b e l h d =
    let e2 : text ≡ q ++ (r ++ b ∷ rest) = e ∙ append_assoc q r (b ∷ rest) in
    record {
      dead = λ before c s.
          let k = behind_live text q (r ++ b ∷ rest) before c l e2 s in
          feeds_behind q k.0 before k.1 (within q r rest k.0 s.rest before b c k.1 s.shorter d h (compared k.0 r (c ∷ s.rest) (b ∷ rest) k.2));
      end = λ n. absurd (n ((q ++ r) ++ b ∷ []) rest (e ∙ sym (append_assoc (q ++ r) (b ∷ []) rest)) d);
    }

-- and the text is no file
pub dead_text : (text p rest : List ℕ) (b : ℕ) → text ≡ p ++ b ∷ rest → IsDead (p ++ b ∷ []) → (calls : List Call) → IsWritten text calls → ⊥
dead_text text p rest b e d calls f = d rest calls (subst (λ (t : List ℕ). IsWritten t calls) (e ∙ sym (append_assoc p (b ∷ []) rest)) f)
