use Rattle.std.proofs.Common.{◌≡◌, ◌<◌, ◌∙◌, sym, ap, Some, None, length, arith}
use Rattle.target_file.specs.Targets.{target_named}
use Rattle.target_file.specs.Lent.{all_of, number_at}
use Rattle.target_file.proofs.Finding.{found_below, found_target}
use Rattle.target_file.proofs.Meaning.{missing_at}
use Rattle.target_file.proofs.file.File.look_up.Goals as goal

pub index-requires : goal.index-requires
index-requires c =
    let v = c.self.inside.targets in
    let q = c.args.name.now in
    let h : number_at 0 q (all_of v.items) ≡ Some c.in-Some.number = sym (c.self.invariant.0 q) ∙ sym c.find.ensures ∙ c.in-Some.is in
    let b : c.in-Some.number < length v.items = found_below q v.items c.in-Some.number h in
    let l = v.ok.0 in
    omega arith

pub returns-in-Some : goal.returns-in-Some
returns-in-Some c =
    let v = c.self.inside.targets in
    let q = c.args.name.now in
    let h : number_at 0 q (all_of v.items) ≡ Some c.in-Some.number = sym (c.self.invariant.0 q) ∙ sym c.find.ensures ∙ c.in-Some.is in
    found_target q v.items c.in-Some.number c.index.result.now h c.index.ensures ∙ ap (target_named q) c.self.view_is

pub returns-in-None : goal.returns-in-None
returns-in-None c =
    let v = c.self.inside.targets in
    let q = c.args.name.now in
    let h : number_at 0 q (all_of v.items) ≡ None = sym (c.self.invariant.0 q) ∙ sym c.find.ensures ∙ c.in-None.is in
    sym (missing_at 0 q (all_of v.items) h) ∙ ap (target_named q) c.self.view_is
