use Rattle.std.proofs.Common.{◌≡◌, false, rules}
use Rattle.script.specs.Names.{has}
use Rattle.script.specs.Past.{with_entry}
use Rattle.script.specs.Known.{past_of, transactions_at, requests_at}
use Rattle.script.proofs.Fates.{closed_past}
use Rattle.script.proofs.Taken.{close_taken}
use Rattle.script.proofs.known.Known.close.Goals as goal

pub returns-clause-taken : goal.returns-clause-taken
returns-clause-taken c =
    let k = c.args.self.now in
    let a : transactions_at c.close.new.self ≡ with_entry c.in_ok-name.name false (transactions_at k.transactions) = search rules in
    close_taken (past_of k) _ c.args.t.now c.in_ok-name.name c.args.behind.now c.in_ok-name.ensures.0 c.in_ok-name.ensures.1.0 c.in_ok-name.ensures.1.1.0
    (closed_past (has k.touched) (transactions_at k.transactions) (transactions_at c.close.new.self) (requests_at k.requests) c.in_ok-name.name a)
