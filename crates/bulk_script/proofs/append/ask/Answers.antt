use Rattle.std.specs.Prelude.{decimal}
use Rattle.bulk_script.specs.Bulk.{label_of}
use Rattle.bulk_script.proofs.Parts.{ask_grown}
use Rattle.bulk_script.proofs.append.ask.Goals as goal

pub returns : goal.returns
returns c =
    ask_grown c.args.out.now.items c.args.transaction.now (decimal c.args.target) (label_of c.args.target) _ _ _ _ _ _ _ _
    c.in_ok-bytes.ensures c.in_ok-bytes-2.ensures c.in_ok-bytes-3.ensures c.in_ok-bytes-4.ensures c.in_ok-number.ensures c.in_ok-bytes-5.ensures c.in_ok-label.ensures
    c.in_ok-bytes-6.ensures
