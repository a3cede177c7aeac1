-- A map of requests after one of them was settled.
use Rattle.std.proofs.Common.{◌≡◌, ◌∙◌, sym, ap, refl, ℕ, Bool, true, false, cond, List, Some}
use Rattle.std.specs.Str.{bytes_eq}
use Rattle.std.proofs.lemmas.Slice.Eq.{bytes_eq-Decides}
use Rattle.script.specs.declared.fate.Fate.{Fate}
use Rattle.script.specs.declared.requests.Asked.{Asked}
use Rattle.script.specs.Past.{Table, with_entry, come_to, settling}

settled_at : (name q : List ℕ) (a : Asked) (f : Fate) (noted : Table Asked) → noted name ≡ Some a → (b : Bool) → (b ≡ true → name ≡ q) →
    cond b (Some (record { transaction = a.transaction; fate = f })) (noted q) ≡ cond b (come_to f (noted q)) (noted q)
settled_at name q a f noted h true same = ap (come_to f) (sym h ∙ ap noted (same refl))
settled_at name q a f noted h false same = refl

pub entry_settled : (name : List ℕ) (a : Asked) (f : Fate) (old new : Table Asked) → old name ≡ Some a →
    ((q : List ℕ) → new q ≡ with_entry name (record { transaction = a.transaction; fate = f }) old q) → new ≡ settling name f old
entry_settled name a f old new h k =
    λ i q. (k q ∙ settled_at name q a f old h (bytes_eq name q) (bytes_eq-Decides name q).0) i
