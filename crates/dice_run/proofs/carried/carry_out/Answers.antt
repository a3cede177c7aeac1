use Rattle.std.proofs.Common.{IfOk, OnOk, List, Some, refl, subst}
use Rattle.script_trace.specs.Events.{IsJournalOf}
use Rattle.script_trace.specs.Tracing.{IsPrintout}
use Rattle.script.specs.declared.line.Line.{Line}
use Rattle.dice_run.specs.Seats.{IsOurs}
use Rattle.dice_run.specs.Keeping.{IsKeptWith}
use Rattle.dice_run.specs.declared.kept.Kept.{Kept}
use Rattle.dice_run.proofs.carried.carry_out.Goals as goal

abbrev kept_with : (ls : List Line) (k : Kept) → IsOurs k.engine k.seat → IsJournalOf ls k.seat.seen → IsKeptWith ls (Some k)
kept_with ls k ours journal = record { kept = k; is = refl; ours = ours; journal = journal }

pub returns-in-Ok-clause-answers : goal.returns-in-Ok-clause-answers
returns-in-Ok-clause-answers g c input s =
    let ls = c.args.script.now in
    let seat = c.drive-seat.result.0 in
    record {
      lines = ls;
      script = s;
      left = kept_with ls _ c.drive-seat.ensures.ours (subst (λ r. OnOk r (IsJournalOf ls seat.seen)) c.in-Ok.is c.drive-seat.ensures.journal);
      output = subst (λ r. IfOk r (λ o. IsPrintout c.args.options.trace ls seat.seen o.items)) c.in-Ok.is c.drive-seat.ensures.output;
    }
