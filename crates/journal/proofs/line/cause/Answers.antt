use Rattle.std.proofs.Common.{rules, ◌≡◌, ◌++◌, ◌∷◌, [], ℕ, List, decimal, sym, ap, ◌∙◌, append-nil, append_assoc}
use Rattle.journal.specs.Tell.{reason_of}
use Rattle.journal.specs.Texts.{spaced, reason_words}
use Rattle.journal.proofs.line.cause.Goals as goal

-- what stands after a text, written in two steps or in one
two_steps : (a b t u : List ℕ) → u ≡ (a ++ b) ++ t → u ≡ a ++ (b ++ (t ++ []))
two_steps a b t u h = h ∙ (append_assoc a b t ∙ ap (λ x. a ++ (b ++ x)) (sym (append-nil t)))

pub returns-in_ok-number-in-Transient : goal.returns-in_ok-number-in-Transient
returns-in_ok-number-in-Transient g c =
    two_steps _ (32 ∷ 116 ∷ 114 ∷ 97 ∷ 110 ∷ 115 ∷ 105 ∷ 101 ∷ 110 ∷ 116 ∷ []) (32 ∷ decimal c.in-Transient.base) _ (search rules)
    ∙ ap (λ x. c.args.text.now.items ++ spaced (reason_words g.U.Universe.meaning (reason_of x))) (sym c.in-Transient.is)
