use Rattle.std.proofs.Common.{None, refl, arith}
use Rattle.std.proofs.lemmas.Option.{none-some}
use Rattle.indexmap.specs.IndexMap.{set_value_at}
use Rattle.task_share.specs.Listed.{share_of, names_of}
use Rattle.task_share.specs.declared.place.Place.{Place}
use Rattle.task_share.proofs.PlaceLemmas.{left_wait, kept_listed}
use Rattle.task_share.proofs.NumberLemmas.{entry_of_value, has_at, written_at, changed_at, numbered_on, same_number, any_on}
use Rattle.task_share.proofs.places.drop_wait.Goals as goal

pub returns-clause-listed : goal.returns-clause-listed
returns-clause-listed g c =
    let eq = g.K.PartialEq.eq in
    let law = c.requires.equality in
    let es = c.args.places.now.entries in
    let h = c.in-Some.place.now in
    let w : Place g.row.K.Denot g.row.T.Denot = record { task = h.task; live = h.live; promises = h.promises; askers = h.askers; waits = c.swap_remove.new.self; name = h.name } in
    let e = entry_of_value es c.args.at h c.in-Some.ensures.value in
    let i = written_at eq law es (set_value_at es c.args.at w) c.args.at e.0 h w c.requires.linked.distinct e.1 refl in
    kept_listed eq law e.0 es (set_value_at es c.args.at w) h w i refl refl (λ b. b) (λ r. r)

pub returns-clause-changed : goal.returns-clause-changed
returns-clause-changed g c = λ d named.
    let eq = g.K.PartialEq.eq in
    let law = c.requires.equality in
    let es = c.args.places.now.entries in
    let h = c.in-Some.place.now in
    let w : Place g.row.K.Denot g.row.T.Denot = record { task = h.task; live = h.live; promises = h.promises; askers = h.askers; waits = c.swap_remove.new.self; name = h.name } in
    let e = entry_of_value es c.args.at h c.in-Some.ensures.value in
    let i = written_at eq law es (set_value_at es c.args.at w) c.args.at e.0 h w c.requires.linked.distinct e.1 refl in
    let names = names_of es in
    let before = c.requires.linked.waits (e.0, h) (has_at es c.args.at (e.0, h) e.1) in
    let after = numbered_on names h.waits.entries c.swap_remove.new.self.entries c.args.asked None before c.swap_remove.ensures.distinct (λ m. c.swap_remove.ensures.updates m) (λ a z. absurd (none-some a z)) in
    let same = same_number eq law es c.requires.linked.distinct in
    changed_at eq law es (set_value_at es c.args.at w) c.args.at e.0 h w _ c.requires.linked e.1 refl (λ n. n) (λ _. after)
    (record { task = refl; live = refl; asks = λ a. refl; waits = left_wait eq (share_of h) (share_of w) d (any_on eq law names same h.waits.entries c.swap_remove.new.self.entries c.args.asked d None before after named (λ m. c.swap_remove.ensures.updates m)) }, record { promises = omega arith; askers = omega arith; waits = omega (arith, c.swap_remove.ensures.room); count = omega arith; stays = λ t. t })
