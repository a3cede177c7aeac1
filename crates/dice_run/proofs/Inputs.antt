-- What was read, and the whole input.
use Rattle.std.proofs.Common.{◌≡◌, ◌≤◌, ◌+◌, ◌⊎◌, inl, inr, ℕ, List, [], ◌++◌, length, Option, Some, refl, sym, ap, ◌∙◌, subst, arith, append-nil, length-append}
use Rattle.script.specs.declared.line.Line.{Line}
use Rattle.script.specs.declared.fault.Word.{Word}
use Rattle.script.specs.Scripts.{IsScript, IsFirstFault}
use Rattle.dice_io.specs.Streams.{ReadTo}
use Rattle.dice_run.specs.Run.{ReadWhole, Refuses, too_long, faulty}
use Rattle.dice_run.specs.declared.status.Status.{Status}
use Rattle.dice_run.specs.declared.status.Status.TheVariants.{Done, WordsRefused, ReadFailed, WriteFailed, ScriptRefused, NoMemory}

-- what is no longer than a script may be was read to the end
pub read_whole : (left after : Option (List ℕ)) (bytes : List ℕ) → ReadTo left after bytes 4194305 → length bytes ≤ 4194304 → ReadWhole left after bytes
read_whole left after bytes r h all l =
    let p = r all l in
    let none : p.0 ≡ [] = elim p.3 as (λ _. p.0 ≡ []) [ inl e ↦ e | inr e ↦ absurd (omega arith) ] in
    (p.2 ∙ (ap (λ (x : List ℕ). bytes ++ x) none ∙ append-nil bytes), p.1 ∙ ap Some none)

-- a script is not refused, if it was read as far as scripts are
pub not_refused : ((text : List ℕ) (ls : List Line) (n : ℕ) (w : Word) → IsScript text ls → IsFirstFault text n w → ⊥) → (left after : Option (List ℕ)) (text bytes out : List ℕ) (ls : List Line) → left ≡ Some text → IsScript text ls → ReadTo left after bytes 4194305 → Refuses bytes out → ⊥
not_refused not_both left after text bytes out ls told s r f =
    let p = r text told in
    let long : length text ≡ length bytes + length p.0 = ap length p.2 ∙ length-append bytes p.0 in
    let fits = s.fits in
    let none : p.0 ≡ [] = elim p.3 as (λ _. p.0 ≡ []) [ inl e ↦ e | inr e ↦ absurd (omega arith) ] in
    let whole : text ≡ bytes = p.2 ∙ (ap (λ (x : List ℕ). bytes ++ x) none ∙ append-nil bytes) in
    by_fault out whole f
  where
    by_fault : (o : List ℕ) → text ≡ bytes → Refuses bytes o → ⊥
    by_fault _ whole (too_long l) = (let n : length text ≡ length bytes = ap length whole in let fits = s.fits in let z : ⊥ = omega arith in z)
    by_fault _ whole (faulty n w first) = not_both text ls n w s (subst (λ x. IsFirstFault x n w) (sym whole) first)

-- what is left of the statuses
pub carried_out : (s : Status) → (s ≡ WordsRefused → ⊥) → (s ≡ ReadFailed → ⊥) → (s ≡ WriteFailed → ⊥) → (s ≡ ScriptRefused → ⊥) → (s ≡ Done) ⊎ (s ≡ NoMemory)
carried_out Done a b d e = inl refl
carried_out WordsRefused a b d e = absurd (a refl)
carried_out ReadFailed a b d e = absurd (b refl)
carried_out WriteFailed a b d e = absurd (d refl)
carried_out ScriptRefused a b d e = absurd (e refl)
carried_out NoMemory a b d e = inr refl
