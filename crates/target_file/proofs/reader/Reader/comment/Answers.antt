use Rattle.std.proofs.Common.{◌≡◌, ◌<◌, ◌+◌, ◌≢◌, sym, subst, ℕ, List, length, arith}
use Rattle.std.specs.List.{AllByRecursion}
use Rattle.target_file.specs.declared.mode.Mode.{Mode}
use Rattle.target_file.specs.Tokens.{Between}
use Rattle.target_file.specs.Code.{bare, mode_of, state_of, Went}
use Rattle.target_file.proofs.Going.{comment_whole, comment_ended, below}
use Rattle.target_file.proofs.Held.{take_whole}
use Rattle.target_file.proofs.reader.Reader.comment.Goals as goal

pub returns-then-end-rest : goal.returns-then-end-rest
returns-then-end-rest c =
    let s = c.args.self.now in
    let bs = c.args.rest.now in
    let n = c.before_line_feed-end.result in
    let e : n ≡ length bs = c.if-end-rest.true in
    let h : AllByRecursion (λ b. b ≢ 10) bs = subst (λ (x : List ℕ). AllByRecursion (λ b. b ≢ 10) x) (take_whole bs n (omega arith) (omega arith)) c.before_line_feed-end.ensures.none in
    let P : Mode → Type 0 = λ m. Went (bare (mode_of m) s.line) bs (state_of s.progress) n (bare (mode_of m) s.line) (state_of s.progress) in
    subst P (sym c.requires.mode) (comment_whole bs n s.line (state_of s.progress) e c.requires.some h)

pub returns : goal.returns
returns c =
    let s = c.args.self.now in
    let bs = c.args.rest.now in
    let n = c.before_line_feed-end.result in
    let f = c.before_line_feed-end.ensures.fits in
    let u = c.if-end-rest.false in
    let l : n < length bs = below n (length bs) f u in
    let P : Mode → Type 0 = λ m. Went (bare (mode_of m) s.line) bs (state_of s.progress) (n + 1) (bare Between (s.line + 1)) (state_of s.progress) in
    subst P (sym c.requires.mode) (comment_ended bs n s.line (state_of s.progress) l (c.before_line_feed-end.ensures.end l) c.before_line_feed-end.ensures.none)
