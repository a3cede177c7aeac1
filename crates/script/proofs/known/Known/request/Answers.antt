use Rattle.std.proofs.lemmas.Result.{err_from_is_err_and}
use Rattle.script.specs.Known.{past_of}
use Rattle.script.proofs.Taken.{transaction_refused, name_refused, label_refused, request_read}
use Rattle.script.proofs.known.Known.request.Goals as goal

pub returns-in_err-transaction-clause-tested : goal.returns-in_err-transaction-clause-tested
returns-in_err-transaction-clause-tested c =
    let p = err_from_is_err_and c.from_residual.result c.from_residual.ensures.1 in
    rw (p.1, p.2)
    (transaction_refused (past_of c.args.self.now) c.args.t.now c.args.name.now c.args.label.now _ c.in_err-transaction.ensures)

pub returns-in_err-name-clause-tested : goal.returns-in_err-name-clause-tested
returns-in_err-name-clause-tested c =
    let p = err_from_is_err_and c.from_residual-in_err-name.result c.from_residual-in_err-name.ensures.1 in
    rw (p.1, p.2)
    (name_refused (past_of c.args.self.now) c.args.t.now c.args.name.now c.args.label.now c.in_ok-transaction.transaction _ c.in_ok-transaction.ensures c.in_err-name.ensures.tested)

pub returns-in_err-label-clause-tested : goal.returns-in_err-label-clause-tested
returns-in_err-label-clause-tested c =
    let p = err_from_is_err_and c.from_residual-in_err-label.result c.from_residual-in_err-label.ensures.1 in
    rw (p.1, p.2)
    (label_refused (past_of c.args.self.now) c.args.t.now c.args.name.now c.args.label.now c.in_ok-transaction.transaction c.in_ok-name.name _ c.in_ok-transaction.ensures c.in_ok-name.ensures.tested c.in_err-label.ensures)

pub returns-clause-tested : goal.returns-clause-tested
returns-clause-tested c =
    request_read (past_of c.args.self.now) c.args.t.now c.args.name.now c.args.label.now c.in_ok-transaction.transaction c.in_ok-name.name c.in_ok-label.label c.in_ok-transaction.ensures c.in_ok-name.ensures.tested c.in_ok-label.ensures
