use Rattle.target_file.proofs.Going.{quote_behind}
use Rattle.target_file.proofs.quoted.quoted.Goals as goal

pub returns-then-rest-end : goal.returns-then-rest-end
returns-then-rest-end c =
    let bs = c.args.rest.now in
    let n = c.plain-end.result in
    (quote_behind c.args.quote bs n c.if-end-rest.true c.if-rest-end.true c.plain-end.ensures.each)
