use Rattle.std.proofs.Common.{◌≡◌, Some, rules}
use Rattle.script.specs.Known.{requests_at}
use Rattle.script.specs.declared.requests.Asked.{Asked}
use Rattle.script.proofs.Tables.{entry_settled}
use Rattle.script.proofs.requests.Requests.settle.Goals as goal

pub returns-in-Some : goal.returns-in-Some
returns-in-Some c =
    let w : Asked = record { transaction = c.in-Some.asked.now.transaction; fate = c.args.fate } in
    let v : requests_at c.args.self.now c.args.name.now ≡ Some c.in-Some.asked.now = search rules in
    entry_settled c.args.name.now c.in-Some.asked.now c.args.fate (requests_at c.args.self.now) _ v ((c.get_mut.follows.holds w).3 (search rules)).0
