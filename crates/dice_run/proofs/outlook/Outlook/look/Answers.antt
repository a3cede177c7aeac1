use Rattle.std.proofs.Common.{◌∙◌, Err, ap, subst, arith}
use Rattle.std.specs.Arc.{arc_value}
use Rattle.shelf.specs.Ops.{row_at}
use Rattle.action_digest.specs.Same.{key_equal}
use Rattle.dice_run.proofs.Looks.{SeesIf, look_value, looked_sees, refused_look}
use Rattle.dice_run.proofs.outlook.Outlook.look.Goals as goal
use Rattle.lists.proofs.Options.{some_same}

pub returns-in-Ok-clause-value : goal.returns-in-Ok-clause-value
returns-in-Ok-clause-value c =
    let p = c.args.promise.now in
    let found = c.in-Ok.ensures.found in
    let seen = c.quick.new.reader.seen in
    let named = ap (λ k. row_at (key_equal k) p.version seen) c.deref.ensures in
    look_value arc_value c.args.self.now p.version (arc_value p.key) c.in-Some.reader c.quick.new.reader c.in-Ok.value c.in-Some.is c.in-Ok.ensures.no_place found.0 (found.1 ∙ named) c.looks_after_a_tell.ensures.value (let h = c.if-promise-self.false in omega arith)

pub returns-in-Ok-clause-sees : goal.returns-in-Ok-clause-sees
returns-in-Ok-clause-sees c s sees x e =
    let o = c.args.self.now in
    let p = c.args.promise.now in
    subst (SeesIf s o.told) (some_same e) (looked_sees s o.told p.version (arc_value p.key) c.in-Some.reader c.quick.new.reader (sees c.in-Some.reader c.in-Some.is) c.in-Ok.ensures.found.0)

pub returns-in-Err-clause-sees : goal.returns-in-Err-clause-sees
returns-in-Err-clause-sees c s sees x e =
    let o = c.args.self.now in
    let p = c.args.promise.now in
    subst (SeesIf s o.told) (some_same e) (refused_look s o.told p.version (arc_value p.key) c.in-Some.reader c.quick.new.reader c.in-Err.field-0 (λ r. c.in-Err.ensures.no_memory (ap Err r)) (λ r. c.in-Err.ensures.shut (ap Err r)) (sees c.in-Some.reader c.in-Some.is))
