use Rattle.std.proofs.Common.{subst, Bool}
use Rattle.target_file.specs.Code.{mode_of, state_of, scan_of, Takes, Refuses, Took}
use Rattle.target_file.proofs.Going.{went_one, fails_one}
use Rattle.target_file.proofs.reader.Reader.other.Goals as goal

pub returns-then-branch : goal.returns-then-branch
returns-then-branch c =
    let s = c.args.self.now in
    let e = c.one.new.self in
    let t : Takes (scan_of s) c.args.byte (state_of s.progress) (scan_of e) (state_of e.progress) =
    subst (λ (o : Bool). Took (scan_of s) c.args.byte (state_of s.progress) o (scan_of e) (state_of e.progress)) c.if-branch.true c.in_ok-one.ensures in
    went_one (scan_of s) c.args.byte c.args.behind.now (state_of s.progress) (state_of e.progress) (mode_of e.mode) e.line t

pub returns : goal.returns
returns c =
    let s = c.args.self.now in
    let e = c.one.new.self in
    let r : Refuses (scan_of s) c.args.byte (state_of s.progress) =
    subst (λ (o : Bool). Took (scan_of s) c.args.byte (state_of s.progress) o (scan_of e) (state_of e.progress)) c.if-branch.false c.in_ok-one.ensures in
    fails_one c.args.byte c.args.behind.now (state_of s.progress) (mode_of s.mode) s.line r
