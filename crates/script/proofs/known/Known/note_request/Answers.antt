use Rattle.std.proofs.Common.{◌≡◌, rules}
use Rattle.script.specs.Names.{has}
use Rattle.script.specs.Past.{with_entry, made_in}
use Rattle.script.specs.Known.{transactions_at, requests_at}
use Rattle.script.proofs.Fates.{made_past}
use Rattle.script.proofs.known.Known.note_request.Goals as goal

pub returns-clause-noted : goal.returns-clause-noted
returns-clause-noted c =
    let k = c.args.self.now in
    let a : requests_at c.add.new.self ≡ with_entry c.in_ok-name.name (made_in c.args.transaction.now) (requests_at k.requests) = search rules in
    made_past (has k.touched) (transactions_at k.transactions) (requests_at k.requests) (requests_at c.add.new.self) c.in_ok-name.name c.args.transaction.now c.requires a
