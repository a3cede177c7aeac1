use Rattle.std.proofs.Common.{◌≡◌, ◌++◌, drop}
use Rattle.journal.specs.Texts.{spaced}
use Rattle.journal.proofs.line.append_texts.Given as goal

-- the text so far and the texts that are left are the whole
abbrev pub invariant-loop-one : goal.invariant-loop-one
invariant-loop-one l = l.text.items ++ spaced (drop l.one-index l.texts) ≡ l.initial.text.items ++ spaced l.texts
