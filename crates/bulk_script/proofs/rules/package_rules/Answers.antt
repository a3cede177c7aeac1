use Rattle.std.proofs.Common.{◌≡◌, ◌≤◌, ◌<◌, ◌+◌, ◌*◌, ◌∙◌, refl, min, arith, rules}
use Rattle.bulk_script.proofs.Numbers.{Walked, rules_none, rules_more, rules_walked}
use Rattle.bulk_script.proofs.rules.package_rules.Goals as goal

pub loop-target-init : goal.loop-target-init
loop-target-init c = record {
  text_is = c.new-text.ensures.items ∙ rules_none c.args.index (c.args.index * 100) refl;
  nothing = λ h. refl;
}

pub loop-target-preserved : goal.loop-target-preserved
loop-target-preserved c =
    let e : c.min-end.result ≡ min (c.args.index * 100 + 100) c.args.targets = search rules in
    let b : c.args.index * 100 ≤ c.loop-target.target = omega arith in
    let k : c.loop-target.target < c.args.index * 100 + 100 = omega arith in
    record {
      text_is = c.in_ok-target_line.ensures ∙ rules_more c.loop-target.text.items c.args.index (c.args.index * 100) c.loop-target.target refl b k c.loop-target.invariant.text_is;
      nothing = λ h. absurd (omega arith);
    }

pub returns : goal.returns
returns c =
    let e : c.min-end.result ≡ min (c.args.index * 100 + 100) c.args.targets = search rules in
    let w : Walked c.args.targets c.args.index (c.args.index * 100) c.min-end.result c.loop-target.target = record {
      first_is = refl;
      end_is = e;
      begun = omega arith;
      ended = omega arith;
      within = λ h. omega arith;
      nothing = c.loop-target.invariant.nothing;
    } in
    rules_walked c.loop-target.text.items c.args.targets c.args.index (c.args.index * 100) c.min-end.result c.loop-target.target w c.loop-target.invariant.text_is
