use Rattle.std.proofs.Common.{◌≡◌, ◌∙◌, ◌+◌, ◌∷◌, ◌++◌, [], map, take, sym, ap, refl, append-nil, slice_index_or, arith}
use Rattle.std.specs.Arc.{arc_value}
use Rattle.std.proofs.lemmas.List.{map-append}
use Rattle.task_share.specs.Numbers.{keys_of, names_at, with_name}
use Rattle.cycle_guard.proofs.WayLemmas.{some_key, next_named}
use Rattle.cycle_guard.proofs.guard.path_of.Goals.{in-Some+in_ok-try_clone-2+in_ok-push-2, in_default}
use Rattle.cycle_guard.proofs.guard.path_of.Goals as goal

pub from_keys-requires : goal.from_keys-requires
from_keys-requires g c = some_key arc_value c.loop-number.keys.items (arc_value c.args.first.now) (names_at (keys_of c.args.table.now) (take c.loop-number.number-index c.args.rest.now)) c.loop-number.invariant

pub loop-number-preserved : goal.loop-number-preserved
loop-number-preserved g c =
    let names = keys_of c.args.table.now in
    let i = c.loop-number.number-index in
    let n = slice_index_or c.args.rest.now i 0 in
    let old = map arc_value c.loop-number.keys.items in
    let later = map arc_value c.match-key.keys.items in
    let next = next_named names c.args.rest.now i n (arc_value c.args.first.now) old later (omega (arith, c.loop-number-test.true)) c.loop-number.invariant refl in
    elim c.match-key.branch as (λ _. later ≡ arc_value c.args.first.now ∷ names_at names (take (i + 1) c.args.rest.now)) [
      | in-Some+in_ok-try_clone-2+in_ok-push-2 w ↦
          next (ap (λ v. map arc_value v.items) w.keys-is ∙ (ap (map arc_value) w.in_ok-push-2.ensures.items
          ∙ (map-append arc_value c.loop-number.keys.items (w.in_ok-try_clone-2.field-0 ∷ []) ∙ ap (λ ks. old ++ ks) (ap (λ k. k ∷ []) w.in_ok-try_clone-2.ensures ∙ ap (λ o. with_name o []) w.in-Some.ensures))))
      | in_default w ↦ next (ap (λ v. map arc_value v.items) w.keys-is ∙ (sym (append-nil old) ∙ ap (λ o. old ++ with_name o []) w.in_default.ensures))
    ]
