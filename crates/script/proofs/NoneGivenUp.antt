-- No request is given up where no line gives one up.
use Rattle.std.proofs.Common.{◌≡◌, refl, inl, inr, ℕ, true, false, List, [], ◌∷◌, Option, Some, None}
use Rattle.std.specs.Option.{option_map}
use Rattle.std.specs.Str.{bytes_eq}
use Rattle.std.proofs.lemmas.Bool.{cases_Bool}
use Rattle.script.specs.declared.fate.Fate.TheVariants.{Answered}
use Rattle.script.specs.declared.requests.Asked.{Asked}
use Rattle.script.specs.declared.line.Line.{Line}
use Rattle.script.specs.declared.line.Line.TheVariants.{Put, Drop, Commit, Open, Ask, Action, Wait, Cancel, Close}
use Rattle.script.specs.Past.{Past, after, after_all, fate_of, is_given_up, come_to}
use Rattle.script.specs.GivingUp.{gives_up, some_give_up}

abbrev Keeps : Past → Type 0
Keeps p = (name : List ℕ) → is_given_up (fate_of p name) ≡ false

answered : (a : Option Asked) → is_given_up (option_map (λ x. x.fate) (come_to Answered a)) ≡ false
answered None = refl
answered (Some a) = refl

keeps_after : (p : Past) (l : Line) → gives_up l ≡ false → Keeps p → Keeps (after p l)
keeps_after p (Put path bytes) g k = k
keeps_after p (Drop path) g k = k
keeps_after p Commit g k = k
keeps_after p (Open t) g k = k
keeps_after p (Ask r) g k = λ name. elim (cases_Bool (bytes_eq r.name name)) [ inl t ↦ rw t refl | inr f ↦ rw f (k name) ]
keeps_after p (Action r) g k = λ name. elim (cases_Bool (bytes_eq r.name name)) [ inl t ↦ rw t refl | inr f ↦ rw f (k name) ]
keeps_after p (Wait n) g k = λ name. elim (cases_Bool (bytes_eq n name)) [ inl t ↦ rw t (answered (p.asked name)) | inr f ↦ rw f (k name) ]
keeps_after p (Cancel n) g k = cc
keeps_after p (Close t) g k = cc

pub keeps_all : (ls : List Line) (p : Past) → some_give_up ls ≡ false → Keeps p → Keeps (after_all p ls)
keeps_all [] p g k = k
keeps_all (l ∷ ls) p g k = elim (cases_Bool (gives_up l)) [
  | inl t ↦ let h : true ≡ false = rw t at g in cc
  | inr f ↦ keeps_all ls (after p l) (rw f at g) (keeps_after p l f k)
]
