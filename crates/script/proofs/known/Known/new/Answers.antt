use Rattle.std.proofs.Common.{◌∙◌, ap, Bool}
use Rattle.script.specs.declared.requests.Asked.{Asked}
use Rattle.script.specs.Past.{Texts, Table, no_texts, no_entries}
use Rattle.script.specs.Known.{transactions_at, requests_at}
use Rattle.script.proofs.Fates.{told_past}
use Rattle.script.proofs.known.Known.new.Goals as goal

pub returns : goal.returns
returns c =
    ap (λ (s : Texts). told_past s (transactions_at c.new-2.result) (requests_at c.new-3.result)) c.new.ensures
    ∙ ap (λ (o : Table Bool). told_past no_texts o (requests_at c.new-3.result)) c.new-2.ensures
    ∙ ap (λ (a : Table Asked). told_past no_texts no_entries a) c.new-3.ensures
