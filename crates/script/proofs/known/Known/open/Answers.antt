use Rattle.std.proofs.Common.{◌≡◌, true, None, rules}
use Rattle.script.specs.Lines.{IsName}
use Rattle.script.specs.Names.{has}
use Rattle.script.specs.Past.{with_entry}
use Rattle.script.specs.Known.{past_of, transactions_at, requests_at}
use Rattle.script.proofs.Fates.{opened_past}
use Rattle.script.proofs.Taken.{open_taken}
use Rattle.script.proofs.known.Known.open.Goals as goal

pub returns-clause-taken : goal.returns-clause-taken
returns-clause-taken c =
    let k = c.args.self.now in
    let e : c.in_ok-name.name ≡ c.args.t.now = search rules in
    let h : IsName c.args.t.now = search rules in
    let f : transactions_at k.transactions c.args.t.now ≡ None = search rules in
    let g : transactions_at k.transactions c.in_ok-name.name ≡ None = search rules in
    let a : transactions_at c.open.new.self ≡ with_entry c.in_ok-name.name true (transactions_at k.transactions) = search rules in
    open_taken (past_of k) _ c.args.t.now c.in_ok-name.name c.args.behind.now e h f
    (opened_past (has k.touched) (transactions_at k.transactions) (transactions_at c.open.new.self) (requests_at k.requests) c.in_ok-name.name g a)
