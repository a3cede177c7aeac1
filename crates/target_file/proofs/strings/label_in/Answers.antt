use Rattle.std.proofs.Common.{◌<◌, ◌≤◌, ℕ, nat_lt, inl, inr, min, length, arith}
use borrow.Author.Tests.{ltb-true, ltb-false}
use Rattle.target_file.proofs.Locations.{located_none}
use Rattle.target_file.proofs.Gathering.{label_is}
use Rattle.target_file.proofs.strings.label_in.Goals as goal
use Rattle.std.proofs.lemmas.Bool.{cases_Bool}

below : (m n : ℕ) → (n ≤ m → ⊥) → m < n
below m n h = elim (cases_Bool (nat_lt m n)) [ inl t ↦ ltb-true m n t | inr f ↦ absurd (h (ltb-false m n f)) ]

pub returns : goal.returns
returns c =
    let rest = c.args.rest.now in
    let at = c.close.result in
    let k : at < min 514 (length rest) = below at (min 514 (length rest)) (λ h. located_none rest at h c.close.ensures.none c.labels_are_short.ensures.short c.requires) in
    let h : at < length rest = omega arith in
    label_is rest at h (c.close.ensures.at k) c.close.ensures.none
