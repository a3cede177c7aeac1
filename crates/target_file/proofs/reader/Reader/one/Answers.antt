use Rattle.std.proofs.Common.{◌≡◌, ◌∙◌, sym, subst, true, false, nat_eq, rules}
use Rattle.target_file.specs.declared.mode.Mode.{Mode}
use Rattle.target_file.specs.Tokens.{Mark, Between, is_blank, is_mark}
use Rattle.target_file.specs.Code.{bare, mode_of, state_of, Took}
use Rattle.target_file.proofs.Taking.{took_token, mark_next}
use Rattle.target_file.proofs.reader.Reader.one.Goals as goal

pub returns-then-is_mark : goal.returns-then-is_mark
returns-then-is_mark c =
    let s = c.args.self.now in
    let b = c.args.byte in
    let h : is_blank b ≡ false = sym c.is_blank.ensures ∙ c.if-is_blank.false in
    let k : nat_eq b 35 ≡ false = search rules in
    let g : is_mark b ≡ true = sym c.is_mark.ensures ∙ c.if-is_mark.true in
    let P : Mode → Type 0 = λ m. Took (bare (mode_of m) s.line) b (state_of s.progress) c.in_ok-ok.ok (bare (mode_of m) s.line) (state_of c.mark.new.self) in
    subst P (sym c.requires.mode) (took_token (bare Between s.line) b (state_of s.progress) (state_of c.mark.new.self) (Mark b) Between s.line c.in_ok-ok.ok (mark_next s.line b h k g) c.in_ok-ok.ensures)
