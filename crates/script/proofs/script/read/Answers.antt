use Rattle.std.proofs.Common.{◌≤◌, length, arith}
use Rattle.std.proofs.lemmas.Grind.{common_steps}
use Rattle.script.specs.Scripts.{IsScript}
use Rattle.script.proofs.script.read.Goals as goal

pub returns-in-Ok : goal.returns-in-Ok
returns-in-Ok c =
    let h : length c.args.bytes.now ≤ 4194304 = omega arith in
    let s : IsScript c.args.bytes.now c.in-Ok.lines.items = record { fits = h; lines = c.in-Ok.ensures.0 } in
    (s, λ others k. c.readings_are_one.ensures.script c.args.bytes.now others c.in-Ok.lines.items k s)

pub returns-in-Err-At : goal.returns-in-Err-At
returns-in-Err-At c = grind (arith, common_steps)
