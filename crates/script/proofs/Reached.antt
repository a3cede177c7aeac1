-- How far a text has been read.
use Rattle.std.proofs.Common.{◌≡◌, ◌≢◌, ◌⊎◌, ◌≤◌, ◌∙◌, refl, sym, ap, subst, inl, inr, ℕ, List, [], ◌∷◌, ◌++◌, append_assoc, append-nil, length, ◌<◌, ◌+◌, ◌-◌, take, drop, arith, option_to_list, Option, Some, None}
use Rattle.std.proofs.lemmas.List.{length-drop, drop-drop, drop_all, take_rest}
use Rattle.script.specs.declared.fault.Word.{Word}
use Rattle.script.specs.declared.fault.Word.TheVariants as fault
use Rattle.script.specs.declared.line.Line.{Line}
use Rattle.script.specs.Lines.{words, line_of, behind_line}
use Rattle.script.specs.Past.{Past, nothing, after, after_all}
use Rattle.script.specs.Faults.{Form, form_of, FirstToFail, tests}
use Rattle.script.specs.Scripts.{IsSkipped, IsFrom, ended, skipped, told, FaultAt, no_form, fails, behind_skipped, behind}
use Rattle.script.specs.Taking.{HasDone, HasFault, IsLineTaken, IsBroken, broken_at}
use Rattle.script.specs.declared.fault.Stop.{Stop}
use Rattle.script.specs.declared.fault.Stop.TheVariants as stop
use Rattle.std.proofs.Common.{Err}

-- These lines were taken. The text reads as these lines, and then as what the rest reads as.
pub record Reached (text : List ℕ) (p : Past) (so_far : List Line) (rest : List ℕ) : Type 0 where
  pub script : (ls : List Line) → IsFrom p rest ls → IsFrom nothing text (so_far ++ ls)
  pub fault : (left : List ℕ) (w : Word) → FaultAt p rest left w → FaultAt nothing text left w
  pub past : p ≡ after_all nothing so_far

pub at_start : (text : List ℕ) → Reached text nothing [] text
at_start text = record { script = λ ls h. h; fault = λ left w h. h; past = refl }

after_one_more : (p : Past) (ls : List Line) (l : Line) → after_all p (ls ++ l ∷ []) ≡ after (after_all p ls) l
after_one_more p [] l = refl
after_one_more p (m ∷ ls) l = after_one_more (after p m) ls l

moved : (text : List ℕ) (p q : Past) (ls : List Line) (rest : List ℕ) → q ≡ p → Reached text p ls rest → Reached text q ls rest
moved text p q ls rest e r = subst (λ (x : Past). Reached text x ls rest) (sym e) r

at_rest : (text : List ℕ) (p : Past) (ls : List Line) (rest more : List ℕ) → more ≡ rest → Reached text p ls rest → Reached text p ls more
at_rest text p ls rest more e r = subst (λ (x : List ℕ). Reached text p ls x) (sym e) r

-- after a line that does nothing
pub step_skipped : (text : List ℕ) (p q : Past) (ls : List Line) (rest more : List ℕ) → rest ≢ [] → Reached text p ls rest → HasDone p rest None more q → Reached text q ls more
step_skipped text p q ls rest more some r d =
    moved text p q ls more d.2 (at_rest text p ls (behind_line rest) more d.1 record {
      script = λ ms h. r.script ms (skipped p rest ms some d.0 h);
      fault = λ left w h. r.fault left w (behind_skipped p rest left w some d.0 h);
      past = r.past;
    })

-- after a line that does something
pub step_told : (text : List ℕ) (p q : Past) (ls : List Line) (l : Line) (rest more : List ℕ) → Reached text p ls rest → HasDone p rest (Some l) more q → Reached text q (ls ++ l ∷ []) more
step_told text p q ls l rest more r d =
    moved text (after p l) q (ls ++ l ∷ []) more d.5 record {
      script = λ ms h. subst (λ (xs : List Line). IsFrom nothing text xs) (sym (append_assoc ls (l ∷ []) ms)) (r.script (l ∷ ms) (told p rest more d.0 l ms d.1 d.2 d.3 d.4 h));
      fault = λ left w h. r.fault left w (behind p rest more left d.0 l w d.1 d.2 d.3 d.4 h);
      past = ap (λ (x : Past). after x l) r.past ∙ sym (after_one_more nothing ls l);
    }

step_more : (text : List ℕ) (p q : Past) (ls : List Line) (rest more : List ℕ) (made : Option Line) → rest ≢ [] → Reached text p ls rest → HasDone p rest made more q → Reached text q (ls ++ option_to_list made) more
step_more text p q ls rest more None some r d = subst (λ (xs : List Line). Reached text q xs more) (sym (append-nil ls)) (step_skipped text p q ls rest more some r d)
step_more text p q ls rest more (Some l) some r d = step_told text p q ls l rest more r d

some_left : (text : List ℕ) (at : ℕ) → at < length text → drop at text ≢ []
some_left text at h e = let k : length (drop at text) ≡ 0 = ap length e in let g = length-drop at text in omega arith

-- after the line that begins here
pub step : (text : List ℕ) (p q : Past) (ls : List Line) (at n : ℕ) (made : Option Line) → at < length text → Reached text p ls (drop at text) →
    HasDone p (take (length text - at) (drop at text)) made (drop n (take (length text - at) (drop at text))) q → Reached text q (ls ++ option_to_list made) (drop (at + n) text)
step text p q ls at n made h r d =
    let e = take_rest text at in
    let d' : HasDone p (drop at text) made (drop n (drop at text)) q = subst (λ (x : List ℕ). HasDone p x made (drop n x) q) e d in
    subst (λ (x : List ℕ). Reached text q (ls ++ option_to_list made) x) (drop-drop n at text) (step_more text p q ls (drop at text) (drop n (drop at text)) made (some_left text at h) r d')

fault_cases : (p : Past) (rest : List ℕ) (w : Word) → (IsSkipped (line_of rest) → ⊥) →
    ((form_of (words (line_of rest)) ≡ None) × (w ≡ fault.Word)) ⊎ ((f : Form) × (form_of (words (line_of rest)) ≡ Some f) × FirstToFail (tests p f (behind_line rest)) w) → FaultAt p rest rest w
fault_cases p rest w k (inl h) = subst (λ (v : Word). FaultAt p rest rest v) (sym h.1) (no_form p rest k h.0)
fault_cases p rest w k (inr h) = fails p rest h.0 w k h.1 h.2

-- at a line with a fault
pub found_fault : (text : List ℕ) (p : Past) (ls : List Line) (rest : List ℕ) (w : Word) → Reached text p ls rest → HasFault p rest w → FaultAt nothing text rest w
found_fault text p ls rest w r h = r.fault rest w (fault_cases p rest w h.0 h.1)

-- at the end
pub all_read : (text : List ℕ) (p : Past) (ls : List Line) (rest : List ℕ) → rest ≡ [] → Reached text p ls rest → IsFrom nothing text ls
all_read text p ls rest e r = subst (λ (xs : List Line). IsFrom nothing text xs) (append-nil ls) (r.script [] (subst (λ (x : List ℕ). IsFrom p x []) (sym e) (ended p)))

-- the line that begins here has this fault
pub stopped : (text : List ℕ) (p : Past) (ls : List Line) (at : ℕ) (w : Word) → Reached text p ls (drop at text) → HasFault p (take (length text - at) (drop at text)) w → FaultAt nothing text (drop at text) w
stopped text p ls at w r h = found_fault text p ls (drop at text) w r (subst (λ (x : List ℕ). HasFault p x w) (take_rest text at) h)

pub stopped_by : (text : List ℕ) (p q : Past) (ls : List Line) (at : ℕ) (s : Stop) → at ≤ length text → Reached text p ls (drop at text) →
    IsLineTaken p (take (length text - at) (drop at text)) (Err s) q → IsBroken text (broken_at at s)
stopped_by text p q ls at (stop.Fault w) h r f = (h, stopped text p ls at w r f)
stopped_by text p q ls at stop.NoMemory h r f = tt

-- nothing is left
pub finished : (text : List ℕ) (p : Past) (ls : List Line) (at : ℕ) → length text ≤ at → Reached text p ls (drop at text) → IsFrom nothing text ls
finished text p ls at h r = all_read text p ls (drop at text) (drop_all at text h) r
