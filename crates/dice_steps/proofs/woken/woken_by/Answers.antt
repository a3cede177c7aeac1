use Rattle.std.proofs.Common.{◌≡◌, ◌∙◌, ◌+◌, ◌≤◌, length, length-append, min, refl, sym, ap, subst, map, take, arith, Some}
use Rattle.std.specs.Arc.{arc_value}
use Rattle.std.proofs.lemmas.Slice.Zip.{zip_turn, zip_end}
use Rattle.std.specs.Iterator.Adapters.{zip_first, zip_second}
use Rattle.std.specs.Slice.Iter.{iter_rest}
use Rattle.std.specs.List.{list_any}
use Rattle.task_share.specs.Asked.{Tasked}
use Rattle.task_share.specs.Seen.{asks}
use Rattle.task_share.specs.Numbers.{key_at}
use Rattle.lists.specs.Lists.{AreDistinct, Has}
use Rattle.dice_tasks.specs.Waitings.{Wakes}
use Rattle.dice_steps.specs.Wokens.{IsAnswered}
use Rattle.dice_steps.proofs.WokenLemmas.{SoFar, none_so_far, other_more, woken_more, all_woken, first_more, is_new, among, all_taken, as_many, named_at}
use Rattle.dice_key.proofs.KeySets.{has_any}
use Rattle.dice_steps.proofs.woken.woken_by.Goals as goal

pub loop-asker-init : goal.loop-asker-init
loop-asker-init g c = none_so_far g.U.Key.PartialEq.eq g.U.Universe.meaning c.args.shared.now.cells c.args.version (arc_value c.args.key.now) (arc_value c.args.value.now) c.args.tasks.now _ _ refl c.new-woken.ensures.items

pub next_of-requires-after_bounds : goal.next_of-requires-after_bounds
next_of-requires-after_bounds g c κs within =
    let asking = iter_rest (zip_first c.into_iter-asker-iterator.result) in
    let numbers = iter_rest (zip_second c.into_iter-asker-iterator.result) in
    let tasks : asking ≡ c.askers.result.tasks.now = ap (λ z. iter_rest (zip_first z)) c.into_iter-asker-iterator.ensures.into_iter_gives ∙ (ap iter_rest c.zip-asker-items.ensures.first ∙ c.iter.ensures.rest) in
    let second : iter_rest (zip_second c.zip-asker-items.result) ≡ c.askers.result.numbers.now = c.zip-asker-items.ensures.second.0 in
    let all : numbers ≡ c.askers.result.numbers.now = ap (λ z. iter_rest (zip_second z)) c.into_iter-asker-iterator.ensures.into_iter_gives ∙ second in
    let named : map (key_at c.args.tasks.now) numbers ≡ map Some (map arc_value asking) = ap (map (key_at c.args.tasks.now)) all ∙ (c.askers.ensures.numbers ∙ ap (λ ks. map Some (map arc_value ks)) (sym tasks)) in
    let i = length c.loop-asker.yielded in
    let z = zip_turn asking numbers c.loop-asker.yielded c.into_iter-asker-iterator.result c.loop-asker.asker-iterator c.next.new.self c.next.result refl refl c.loop-asker.yielded_by (c.in-Some.asker, c.in-Some.number) c.in-Some.is c.next.ensures.steps in
    let a = c.in-Some.asker.now in
    let j = arc_value a in
    let at = named_at (key_at c.args.tasks.now) arc_value numbers asking named i c.in-Some.number.now a z.1 z.0 (z.3 c.in-Some.number.now) (z.2 a) in
    let asks = sym (c.askers.ensures.tasks j) ∙ has_any g.U.Key.PartialEq.eq c.laws_of.ensures.keys (map arc_value c.askers.result.tasks.now) j (subst (λ ks. Has (map arc_value ks) j) tasks (among arc_value asking i a z.0 (z.2 a))) in
    (j, at, c.requires.answers j asks (c.if-asks_alone.ensures.alone j at refl), c.args.shared.now.graph, c.entry_of-kept.ensures, c.requires.agree j asks)

pub loop-asker-preserved-in-Continue-branch-3 : goal.loop-asker-preserved-in-Continue-branch-3
loop-asker-preserved-in-Continue-branch-3 g c =
    let eq = g.U.Key.PartialEq.eq in
    let m = g.U.Universe.meaning in
    let k = arc_value c.args.key.now in
    let x = arc_value c.args.value.now in
    let asking = iter_rest (zip_first c.into_iter-asker-iterator.result) in
    let numbers = iter_rest (zip_second c.into_iter-asker-iterator.result) in
    let tasks : asking ≡ c.askers.result.tasks.now = ap (λ z. iter_rest (zip_first z)) c.into_iter-asker-iterator.ensures.into_iter_gives ∙ (ap iter_rest c.zip-asker-items.ensures.first ∙ c.iter.ensures.rest) in
    let second : iter_rest (zip_second c.zip-asker-items.result) ≡ c.askers.result.numbers.now = c.zip-asker-items.ensures.second.0 in
    let all : numbers ≡ c.askers.result.numbers.now = ap (λ z. iter_rest (zip_second z)) c.into_iter-asker-iterator.ensures.into_iter_gives ∙ second in
    let named : map (key_at c.args.tasks.now) numbers ≡ map Some (map arc_value asking) = ap (map (key_at c.args.tasks.now)) all ∙ (c.askers.ensures.numbers ∙ ap (λ ks. map Some (map arc_value ks)) (sym tasks)) in
    let i = length c.loop-asker.yielded in
    let z = zip_turn asking numbers c.loop-asker.yielded c.into_iter-asker-iterator.result c.loop-asker.asker-iterator c.next.new.self c.next.result refl refl c.loop-asker.yielded_by (c.in-Some.asker, c.in-Some.number) c.in-Some.is c.next.ensures.steps in
    let a = c.in-Some.asker.now in
    let j = arc_value a in
    let at = named_at (key_at c.args.tasks.now) arc_value numbers asking named i c.in-Some.number.now a z.1 z.0 (z.3 c.in-Some.number.now) (z.2 a) in
    let done = map arc_value (take i asking) in
    let more = first_more arc_value asking i a z.0 (z.2 a) in
    let one = c.in_ok-one.ensures in
    rw length-append
    (woken_more eq m c.args.shared.now.cells c.args.version k x c.args.tasks.now done c.loop-asker.woken.items c.loop-asker.invariant j (map arc_value (take (i + 1) asking)) c.in_ok-one.one c.push.new.self.items more
    c.in_ok-push.ensures.items
    (is_new arc_value asking i a z.0 (z.2 a) (subst (λ ks. AreDistinct (map arc_value ks)) (sym tasks) c.askers.ensures.distinct))
    (ap (λ (z : Wakes g.row.U-Key.Denot g.row.U-Value.Denot). z.place) one) (c.if-asks_alone.ensures.alone j at refl)
    (subst (IsAnswered eq m c.args.shared.now.cells c.args.version k x c.args.tasks.now j) (sym (ap (λ (z : Wakes g.row.U-Key.Denot g.row.U-Value.Denot). z.ahead) one)) (c.in_ok-next.ensures j at)))

pub loop-asker-preserved : goal.loop-asker-preserved
loop-asker-preserved g c =
    let eq = g.U.Key.PartialEq.eq in
    let m = g.U.Universe.meaning in
    let k = arc_value c.args.key.now in
    let x = arc_value c.args.value.now in
    let asking = iter_rest (zip_first c.into_iter-asker-iterator.result) in
    let numbers = iter_rest (zip_second c.into_iter-asker-iterator.result) in
    let tasks : asking ≡ c.askers.result.tasks.now = ap (λ z. iter_rest (zip_first z)) c.into_iter-asker-iterator.ensures.into_iter_gives ∙ (ap iter_rest c.zip-asker-items.ensures.first ∙ c.iter.ensures.rest) in
    let second : iter_rest (zip_second c.zip-asker-items.result) ≡ c.askers.result.numbers.now = c.zip-asker-items.ensures.second.0 in
    let all : numbers ≡ c.askers.result.numbers.now = ap (λ z. iter_rest (zip_second z)) c.into_iter-asker-iterator.ensures.into_iter_gives ∙ second in
    let named : map (key_at c.args.tasks.now) numbers ≡ map Some (map arc_value asking) = ap (map (key_at c.args.tasks.now)) all ∙ (c.askers.ensures.numbers ∙ ap (λ ks. map Some (map arc_value ks)) (sym tasks)) in
    let i = length c.loop-asker.yielded in
    let z = zip_turn asking numbers c.loop-asker.yielded c.into_iter-asker-iterator.result c.loop-asker.asker-iterator c.next.new.self c.next.result refl refl c.loop-asker.yielded_by (c.in-Some.asker, c.in-Some.number) c.in-Some.is c.next.ensures.steps in
    let a = c.in-Some.asker.now in
    let j = arc_value a in
    let at = named_at (key_at c.args.tasks.now) arc_value numbers asking named i c.in-Some.number.now a z.1 z.0 (z.3 c.in-Some.number.now) (z.2 a) in
    let done = map arc_value (take i asking) in
    let more = first_more arc_value asking i a z.0 (z.2 a) in
    rw length-append
    (other_more eq m c.args.shared.now.cells c.args.version k x c.args.tasks.now done c.loop-asker.woken.items c.loop-asker.invariant j (map arc_value (take (i + 1) asking)) more (c.if-asks_alone.ensures.more j at refl))

pub returns : goal.returns
returns g c =
    let eq = g.U.Key.PartialEq.eq in
    let asking = iter_rest (zip_first c.into_iter-asker-iterator.result) in
    let numbers = iter_rest (zip_second c.into_iter-asker-iterator.result) in
    let tasks : asking ≡ c.askers.result.tasks.now = ap (λ z. iter_rest (zip_first z)) c.into_iter-asker-iterator.ensures.into_iter_gives ∙ (ap iter_rest c.zip-asker-items.ensures.first ∙ c.iter.ensures.rest) in
    let second : iter_rest (zip_second c.zip-asker-items.result) ≡ c.askers.result.numbers.now = c.zip-asker-items.ensures.second.0 in
    let all : numbers ≡ c.askers.result.numbers.now = ap (λ z. iter_rest (zip_second z)) c.into_iter-asker-iterator.ensures.into_iter_gives ∙ second in
    let named : map (key_at c.args.tasks.now) numbers ≡ map Some (map arc_value asking) = ap (map (key_at c.args.tasks.now)) all ∙ (c.askers.ensures.numbers ∙ ap (λ ks. map Some (map arc_value ks)) (sym tasks)) in
    let i = length c.loop-asker.yielded in
    let n : i ≡ min (length asking) (length numbers) = zip_end asking numbers c.loop-asker.yielded c.into_iter-asker-iterator.result c.loop-asker.asker-iterator c.next.new.self c.next.result refl refl c.loop-asker.yielded_by c.in-None.is c.next.ensures.steps in
    let s = as_many (key_at c.args.tasks.now) arc_value numbers asking named in
    let done : length asking ≤ i = omega (arith, n, s) in
    all_woken eq g.U.Universe.meaning c.args.shared.now.cells c.args.version (arc_value c.args.key.now) (arc_value c.args.value.now) c.args.tasks.now c.laws_of.ensures.keys (map arc_value asking) c.loop-asker.woken.items (subst (λ ks. (q : g.row.U-Key.Denot) → list_any (eq q) (map arc_value ks) ≡ asks eq c.args.tasks.now (arc_value c.args.key.now) (Tasked q)) (sym tasks) c.askers.ensures.tasks)
    (subst (λ ks. SoFar eq g.U.Universe.meaning c.args.shared.now.cells c.args.version (arc_value c.args.key.now) (arc_value c.args.value.now) c.args.tasks.now ks c.loop-asker.woken.items) (all_taken arc_value asking i done) c.loop-asker.invariant)
