use Rattle.std.proofs.Common.{◌≡◌, ap, ◌∙◌}
use Rattle.std.specs.Arc.{arc_value}
use Rattle.journal.specs.declared.event.Told.TheVariants.{Lost}
use Rattle.dice_tasks.specs.Hands.{with_event, with_told_next}
use Rattle.dice_tasks.proofs.end.end_lost.Goals as goal

pub returns : goal.returns
returns g c =
    let e = c.end_task.ensures.ended in
    let copied : arc_value c.in-Some.field-0.first ≡ arc_value c.args.key.now = c.in-Some.ensures.spare.0 in
    let again : arc_value c.in-Some.field-0.second ≡ arc_value c.args.key.now = c.in-Some.ensures.spare.1 in
    record {
      ended = (
        e.0,
        record {
          mid = c.push.new.self;
          tells = record { mid = c.end_task.new.desk; ends = e.1; desk = c.push.ensures ∙ ap (λ k. with_event c.end_task.new.desk (Lost c.args.version k)) copied };
          desk = c.push_ended.ensures ∙ ap (λ k. with_told_next c.push.new.self k) again;
        },
      );
    }
