use Rattle.std.proofs.Common.{sym, ap, subst, arith, slice_get}
use Rattle.std.proofs.lemmas.Option.{slice_get_within}
use Rattle.lists.specs.Lists.{AreDistinct}
use Rattle.number_walk.proofs.TrailLemmas.{has_got, still_got, followed_on, longer}
use Rattle.number_walk.proofs.AllLemmas.{few_led, led_first, led_more, all_met, first_alone, got_at, past_all}
use Rattle.number_walk.proofs.walk.all_from.Goals as goal

pub loop-number-init : goal.loop-number-init
loop-number-init g c =
    let e = first_alone c.args.start c.in_ok-met.met.keys c.insert.new.self.keys c.in_ok-met.ensures.empty c.in_ok-insert.ensures.keys in record {
      begun = ap (λ xs. slice_get xs 0) e;
      distinct = subst AreDistinct (sym e) ((λ h. h), tt);
      led = led_first (g.W.Waits.waits c.args.graph.now) c.args.start c.insert.new.self.keys e;
      followed = λ i n m l h w. absurd (omega arith);
      within = omega arith;
    }

pub loop-number-smaller : goal.loop-number-smaller
loop-number-smaller g c =
    let i = c.loop-number.invariant in
    let met = c.loop-number.met.keys in
    let f = few_led (g.W.Waits.waits c.args.graph.now) c.args.start (g.W.Waits.count c.args.graph.now) met i.distinct i.led c.requires.below c.requires.start in
    let there = got_at met c.as_slice.result.now c.loop-number.next c.in-Some.number.now c.as_slice.ensures.keys c.in-Some.ensures.lookup.3.0 c.in-Some.ensures.lookup.3.1 in
    let w = slice_get_within met c.loop-number.next c.in-Some.number.now there in
    omega arith

pub loop-number-preserved : goal.loop-number-preserved
loop-number-preserved g c =
    let W = g.W.Waits.waits c.args.graph.now in
    let i = c.loop-number.invariant in
    let old = c.loop-number.met.keys in
    let new = c.note_all.new.met.keys in
    let n = c.in-Some.number.now in
    let there = got_at old c.as_slice.result.now c.loop-number.next n c.as_slice.ensures.keys c.in-Some.ensures.lookup.3.0 c.in-Some.ensures.lookup.3.1 in
    let e = c.in_ok-note_all.ensures in record {
      begun = still_got old new 0 c.args.start e.grows i.begun;
      distinct = e.distinct i.distinct;
      led = led_more W c.args.start n old new i.led (has_got old c.loop-number.next n there) e;
      followed = followed_on W old new c.loop-number.next n i.followed e.grows there e.all;
      within = longer old new c.loop-number.next n e.grows there;
    }

pub returns : goal.returns
returns g c =
    let i = c.loop-number.invariant in
    all_met (g.W.Waits.waits c.args.graph.now) c.args.start c.loop-number.next c.loop-number.met.keys i.begun i.distinct i.led i.followed (past_all c.loop-number.met.keys c.as_slice.result.now c.loop-number.next c.as_slice.ensures.keys c.in_default.ensures.lookup.3)
