use Rattle.std.proofs.Common.{◌+◌, ◌∷◌, sym, subst, true, false, Bool, MatchOption}
use Rattle.target_file.specs.declared.mode.Mode.{Mode}
use Rattle.target_file.specs.Tokens.{Text}
use Rattle.target_file.specs.Code.{bare, unquoted, mode_of, state_of, Stepped, HasNoEnd, Quoted, Went, Fails}
use Rattle.target_file.proofs.Going.{string_broken, string_went, string_refused}
use Rattle.target_file.proofs.reader.Reader.string.Goals as goal

pub returns-in_default : goal.returns-in_default
returns-in_default c =
    let s = c.args.self.now in
    let q = c.args.quote in
    let bs = c.args.behind.now in
    let n : HasNoEnd q bs = subst (λ (o : _). MatchOption o (HasNoEnd q bs) (λ r. Quoted q bs (unquoted r.0) r.1)) c.in_default.is c.in_ok-text.ensures in
    let P : Mode → Type 0 = λ m. Fails (bare (mode_of m) s.line) (q ∷ bs) (state_of s.progress) s.line in
    subst P (sym c.requires.mode) (string_broken q s.line bs (state_of s.progress) c.requires.quote n)

pub returns-then-branch : goal.returns-then-branch
returns-then-branch c =
    let s = c.args.self.now in
    let q = c.args.quote in
    let bs = c.args.behind.now in
    let g : Quoted q bs (unquoted c.in-Some.text) c.in-Some.end = subst (λ (o : _). MatchOption o (HasNoEnd q bs) (λ r. Quoted q bs (unquoted r.0) r.1)) c.in-Some.is c.in_ok-text.ensures in
    let t : Stepped (state_of s.progress) (Text (unquoted c.in-Some.text)) true (state_of c.text.new.self) = subst (λ (x : _). Stepped (state_of s.progress) (Text x) true (state_of c.text.new.self)) c.as_bytes.ensures (subst (λ (o : Bool). Stepped (state_of s.progress) (Text c.as_bytes.result.now) o (state_of c.text.new.self)) c.if-branch.true c.in_ok-text-2.ensures) in
    let P : Mode → Type 0 = λ m. Went (bare (mode_of m) s.line) (q ∷ bs) (state_of s.progress) (c.in-Some.end + 2) (bare (mode_of m) s.line) (state_of c.text.new.self) in
    subst P (sym c.requires.mode) (string_went q s.line bs (unquoted c.in-Some.text) c.in-Some.end (state_of s.progress) (state_of c.text.new.self) c.requires.quote g t)

pub returns : goal.returns
returns c =
    let s = c.args.self.now in
    let q = c.args.quote in
    let bs = c.args.behind.now in
    let g : Quoted q bs (unquoted c.in-Some.text) c.in-Some.end = subst (λ (o : _). MatchOption o (HasNoEnd q bs) (λ r. Quoted q bs (unquoted r.0) r.1)) c.in-Some.is c.in_ok-text.ensures in
    let t : Stepped (state_of s.progress) (Text (unquoted c.in-Some.text)) false (state_of c.text.new.self) = subst (λ (x : _). Stepped (state_of s.progress) (Text x) false (state_of c.text.new.self)) c.as_bytes.ensures (subst (λ (o : Bool). Stepped (state_of s.progress) (Text c.as_bytes.result.now) o (state_of c.text.new.self)) c.if-branch.false c.in_ok-text-2.ensures) in
    let P : Mode → Type 0 = λ m. Fails (bare (mode_of m) s.line) (q ∷ bs) (state_of s.progress) s.line in
    subst P (sym c.requires.mode) (string_refused q s.line bs (unquoted c.in-Some.text) c.in-Some.end (state_of s.progress) (state_of c.text.new.self) c.requires.quote g t)
