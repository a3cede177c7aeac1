use Rattle.std.specs.Prelude.{decimal}
use Rattle.std.proofs.Common.{length}
use Rattle.std.proofs.lemmas.Result.{on_ok_weaker}
use Rattle.bulk_script.proofs.Parts.{put_grown}
use Rattle.bulk_script.proofs.append.put.Goals as goal

pub returns : goal.returns
returns c =
    on_ok_weaker c.bytes-6.result
    (λ e. put_grown c.args.out.now.items c.args.path.now (decimal (length c.args.file.now)) c.args.file.now _ _ _ _ _ _ _
    c.in_ok-bytes.ensures c.in_ok-bytes-2.ensures c.in_ok-bytes-3.ensures c.in_ok-number.ensures c.in_ok-bytes-4.ensures c.in_ok-bytes-5.ensures e)
    c.bytes-6.ensures
