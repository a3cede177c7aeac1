use Rattle.std.proofs.Common.{◌≡◌, refl, Some, rules}
use Rattle.script.specs.declared.fate.Fate.TheVariants.{Pending, Cancelled}
use Rattle.script.specs.Lines.{IsName}
use Rattle.script.specs.Names.{has}
use Rattle.script.specs.Past.{fate_of, settling}
use Rattle.script.specs.Known.{past_of, transactions_at, requests_at}
use Rattle.script.proofs.Fates.{settled_past}
use Rattle.script.proofs.Taken.{cancel_taken}
use Rattle.script.proofs.known.Known.cancel.Goals as goal

pub returns-in-Some-Pending-clause-taken : goal.returns-in-Some-Pending-clause-taken
returns-in-Some-Pending-clause-taken c =
    let k = c.args.self.now in
    let e : c.in_ok-name.name ≡ c.args.name.now = search rules in
    let h : IsName c.args.name.now = search rules in
    let f : fate_of (past_of k) c.args.name.now ≡ Some Pending = search rules in
    let s : requests_at c.settle.new.self ≡ settling c.in_ok-name.name Cancelled (requests_at k.requests) = search rules in
    cancel_taken (past_of k) _ c.args.name.now c.in_ok-name.name c.args.behind.now e h f
    (settled_past (has k.touched) (transactions_at k.transactions) (requests_at k.requests) (requests_at c.settle.new.self) c.in_ok-name.name Cancelled refl s)

pub returns-in-Some-Answered-clause-taken : goal.returns-in-Some-Answered-clause-taken
returns-in-Some-Answered-clause-taken c = search rules
