use Rattle.std.proofs.Common.{◌≡◌, ◌<◌, ◌≤◌, min, length, get_or, arith}
use borrow.Author.Tests.{ltb-true}
use Rattle.target_file.proofs.Locations.{located_some, located_only, located_none}
use Rattle.target_file.proofs.strings.is_located.Goals as goal

pub returns-then-at-min : goal.returns-then-at-min
returns-then-at-min c =
    let rest = c.args.rest.now in
    let at = c.close-at.result in
    let h : at < length rest = let m = c.min.ensures in omega arith in
    let k : at < min 514 (length rest) = let m = c.min.ensures in omega arith in
    let g : get_or rest at 0 ≡ 41 = c.close-at.ensures.at k in (
      λ t. located_some rest at h g (c.is_label_text.ensures.0 t),
      λ l. c.is_label_text.ensures.1 (located_only rest at h g c.close-at.ensures.none c.labels_are_short.ensures.no_close l),
    )

pub returns-else-at-min : goal.returns-else-at-min
returns-else-at-min c =
    let rest = c.args.rest.now in
    let at = c.close-at.result in
    let h : min 514 (length rest) ≤ at = let m = c.min.ensures in omega arith in (
      λ t. let u : at < c.min.result = ltb-true _ _ t in absurd (omega arith),
      λ l. absurd (located_none rest at h c.close-at.ensures.none c.labels_are_short.ensures.short l),
    )
