use Rattle.std.proofs.Common.{◌≡◌, ◌∙◌, sym, ap, subst, not, true, false}
use Rattle.std.proofs.lemmas.List.{take_rest}
use Rattle.target_file.specs.Strings.{IsLocated}
use Rattle.target_file.proofs.strings.is_fine.Goals as goal

pub returns-then-not-opens : goal.returns-then-not-opens
returns-then-not-opens c = (λ e t. let f : true ≡ false = sym t ∙ sym c.opens.ensures ∙ c.if-not-opens.true in absurd cc, λ h. ap not c.if-not-opens.true)

pub returns-else-not-opens : goal.returns-else-not-opens
returns-else-not-opens c = (
  λ e t. subst IsLocated (take_rest c.args.rest.now 11) (c.is_located.ensures.0 e),
  λ h. c.is_located.ensures.1 (subst IsLocated (sym (take_rest c.args.rest.now 11)) (h (sym c.opens.ensures ∙ c.if-not-opens.false))),
)
