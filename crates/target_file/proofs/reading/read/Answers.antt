use Rattle.std.proofs.Common.{◌≡◌, ◌≤◌, ◌+◌, ◌-◌, sym, subst, List, ℕ, [], take, drop, length, Option, arith}
use Rattle.std.proofs.lemmas.List.{length-take-le}
use Rattle.target_file.specs.Tokens.{Scan, start}
use Rattle.target_file.specs.Machine.{State}
use Rattle.target_file.specs.Code.{scan_of, state_of, Goes, Went, Fails}
use Rattle.target_file.proofs.Held.{whole_file, take_whole, Held, held_first, held_line, held_end_bad}
use Rattle.target_file.proofs.Going.{slice_is, held_went, held_fails_at}
use Rattle.target_file.proofs.Answering.{file_answer, bad_answer}
use Rattle.target_file.proofs.reading.read.Goals as goal

pub loop-at-init : goal.loop-at-init
loop-at-init c = record {
  fits = omega arith;
  held =
      subst (λ (s : Scan). Held [] s (state_of c.new-reader.result.progress)) (sym c.new-reader.ensures.scan)
      (subst (λ (m : State). Held [] start m) (sym c.new-reader.ensures.state) held_first);
}

pub take-requires-clause-line : goal.take-requires-clause-line
take-requires-clause-line c =
    let h = held_line _ _ _ c.loop-at.invariant.held in
    let k : length (take c.loop-at.at c.args.bytes.now) ≡ c.loop-at.at = length-take-le c.loop-at.at c.args.bytes.now (omega arith) in
    let l : c.loop-at.reader.line ≤ 1 + length (take c.loop-at.at c.args.bytes.now) = h in
    omega arith

pub returns-in-Ok-None : goal.returns-in-Ok-None
returns-in-Ok-None c =
    let bs = c.args.bytes.now in
    let s = scan_of c.loop-at.reader in
    let m = state_of c.loop-at.reader.progress in
    let r : Fails s (take (length bs - c.loop-at.at) (drop c.loop-at.at bs)) m c.loop-at.reader.line =
    subst (λ (o : Option ℕ). Goes s (take (length bs - c.loop-at.at) (drop c.loop-at.at bs)) m o (scan_of c.take.new.self) (state_of c.take.new.self.progress)) c.in-Ok-None.field-0-is c.in-Ok-None.ensures in
    bad_answer bs c.loop-at.reader.line (omega arith) (held_fails_at bs c.loop-at.at s m c.loop-at.reader.line (omega arith) c.loop-at.invariant.held (subst (λ (x : List ℕ). Fails s x m c.loop-at.reader.line) (slice_is bs c.loop-at.at) r))

went : (c : goal.In-Ok-Some) → Went (scan_of c.loop-at.reader) (drop c.loop-at.at c.args.bytes.now) (state_of c.loop-at.reader.progress) c.in-Ok-Some.taken (scan_of c.take.new.self) (state_of c.take.new.self.progress)
went c =
    let bs = c.args.bytes.now in
    let s = scan_of c.loop-at.reader in
    let m = state_of c.loop-at.reader.progress in
    let g : Went s (take (length bs - c.loop-at.at) (drop c.loop-at.at bs)) m c.in-Ok-Some.taken (scan_of c.take.new.self) (state_of c.take.new.self.progress) =
    subst (λ (o : Option ℕ). Goes s (take (length bs - c.loop-at.at) (drop c.loop-at.at bs)) m o (scan_of c.take.new.self) (state_of c.take.new.self.progress)) c.in-Ok-Some.field-0-is c.in-Ok-Some.ensures in
    subst (λ (x : List ℕ). Went s x m c.in-Ok-Some.taken (scan_of c.take.new.self) (state_of c.take.new.self.progress)) (slice_is bs c.loop-at.at) g

pub loop-at-preserved : goal.loop-at-preserved
loop-at-preserved c =
    let h = held_went c.args.bytes.now c.loop-at.at c.in-Ok-Some.taken (scan_of c.loop-at.reader) (scan_of c.take.new.self) (state_of c.loop-at.reader.progress) (state_of c.take.new.self.progress) (omega arith) c.loop-at.invariant.fits c.loop-at.invariant.held (went c) in
    record { fits = h.0; held = h.2 }

pub returns-then-not-is_end : goal.returns-then-not-is_end
returns-then-not-is_end c =
    let e = take_whole c.args.bytes.now c.loop-at.at c.loop-at.invariant.fits c.loop-at-test.false in
    let h : Held c.args.bytes.now (scan_of c.loop-at.reader) (state_of c.loop-at.reader.progress) = subst (λ (p : List ℕ). Held p (scan_of c.loop-at.reader) (state_of c.loop-at.reader.progress)) e c.loop-at.invariant.held in
    bad_answer c.args.bytes.now c.loop-at.reader.line (omega arith) (held_end_bad c.args.bytes.now _ _ h (λ k. let t = c.is_end.ensures.1 k in let f = c.if-not-is_end.true in cc))

pub into_file-requires-clause-fine : goal.into_file-requires-clause-fine
into_file-requires-clause-fine c = (whole_file c.args.bytes.now c.loop-at.at (scan_of c.loop-at.reader) (state_of c.loop-at.reader.progress) c.loop-at.invariant.held c.loop-at.invariant.fits c.loop-at-test.false (c.is_end.ensures.0 c.if-not-is_end.false)).each

pub returns-in-Ok : goal.returns-in-Ok
returns-in-Ok c =
    let w = whole_file c.args.bytes.now c.loop-at.at (scan_of c.loop-at.reader) (state_of c.loop-at.reader.progress) c.loop-at.invariant.held c.loop-at.invariant.fits c.loop-at-test.false (c.is_end.ensures.0 c.if-not-is_end.false) in
    file_answer c.args.bytes.now c.in-Ok.file (omega arith) (record { calls = _; written = w; means = c.in-Ok.ensures })
