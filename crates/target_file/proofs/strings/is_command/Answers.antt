use Rattle.std.proofs.Common.{◌∙◌, sym}
use Rattle.target_file.proofs.Locations.{command_step}
use Rattle.target_file.proofs.strings.is_command.Goals as goal

pub returns-then-not-is_fine : goal.returns-then-not-is_fine
returns-then-not-is_fine c =
    let e = command_step c.args.text.now c.loop-i.i c.loop-i-test.true in (
      λ t. absurd cc,
      λ h. let t = c.is_fine.ensures.1 (e.0 (c.loop-i.invariant.0 h)).0 in let f = c.if-not-is_fine.true in sym f ∙ t,
    )

pub loop-i-preserved : goal.loop-i-preserved
loop-i-preserved c =
    let e = command_step c.args.text.now c.loop-i.i c.loop-i-test.true in
    let f = c.is_fine.ensures.0 c.if-not-is_fine.false in
    (λ h. (e.0 (c.loop-i.invariant.0 h)).1, λ h. c.loop-i.invariant.1 (e.1 (f, h)))
