-- The last range decides.
use Rattle.std.proofs.Common.{◌≡◌, ◌-◌, ◌∙◌, Bool, true, false, not, Option, Some, None, ℕ, is_some, is_none, length, get_or, refl, sym, ap, arith}
use Rattle.version_ranges.specs.declared.half_open.Range.{Range}
use Rattle.version_ranges.specs.Members.{is_open}
use Rattle.version_ranges.proofs.Canonical.{open_last}
use Rattle.version_ranges.proofs.set.Ranges.is_open.Goals as goal

none_is : (e : Option ℕ) (b : Bool) → is_some e ≡ not b → b ≡ is_none e
none_is None true h = refl
none_is None false h = cc
none_is (Some t) true h = cc
none_is (Some t) false h = refl

pub returns-in-len1-up : goal.returns-in-len1-up
returns-in-len1-up c =
    let rs = c.as_slice.result.now in
    let d : Range = record { from = 0; to = None } in
    none_is (get_or rs (length rs - 1) d).to _ c.is_none.ensures ∙ (sym (open_last rs d (omega arith)) ∙ ap is_open (c.as_slice.ensures.value ∙ c.self.view_is))
