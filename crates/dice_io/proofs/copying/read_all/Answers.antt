use Rattle.std.proofs.Common.{◌∙◌, arith}
use Rattle.dice_io.proofs.StreamLemmas.{on_err_always, read_fits, read_more, read_part}
use Rattle.dice_io.proofs.copying.read_all.Goals as goal

pub returns-in_err-read-clause-part : goal.returns-in_err-read-clause-part
returns-in_err-read-clause-part g c = on_err_always c.from_residual.result (read_part _ c.loop-bytes.invariant.told c.loop-bytes.invariant.few c.in_err-read.ensures.unread)

pub loop-bytes-preserved : goal.loop-bytes-preserved
loop-bytes-preserved g c = record {
  told = read_more c.loop-bytes.invariant.told c.in_ok-read.ensures.reads;
  few = read_fits c.args.limit c.in_ok-read.ensures.reads (omega arith) c.loop-bytes.invariant.few;
  steady = c.in_ok-read.ensures.steady ∙ c.loop-bytes.invariant.steady;
}
