use Rattle.std.proofs.Common.{◌∙◌, sym, ap, subst, List, ℕ}
use Rattle.std.specs.declared.vec.Vec.{Vec}
use Rattle.buck_label.specs.Labels.{IsSomeLabel}
use Rattle.target_file.proofs.Judging.{located_is}
use Rattle.target_file.proofs.Gathering.{opened, label_more, label_same, command_more}
use Rattle.target_file.proofs.making.locations_of.Goals.{then-opens+in_ok-label+in_ok-push, else-opens}
use Rattle.target_file.proofs.making.locations_of.Goals as goal

pub label_in-requires : goal.label_in-requires
label_in-requires c = opened c.args.text.now c.loop-i.i c.opens.result c.loop-i-test.true c.loop-i.invariant.command c.opens.ensures c.if-opens.true

pub of-requires : goal.of-requires
of-requires c =
    subst IsSomeLabel (sym (c.in_ok-label.ensures ∙ c.label_in.ensures)) (located_is _ (opened c.args.text.now c.loop-i.i c.opens.result c.loop-i-test.true c.loop-i.invariant.command c.opens.ensures c.if-opens.true))

pub loop-i-preserved : goal.loop-i-preserved
loop-i-preserved c = record {
  so_far = elim c.if-opens.branch [
    | then-opens+in_ok-label+in_ok-push w ↦
        label_more c.args.text.now c.loop-i.i c.opens.result c.loop-i.labels.items c.if-opens.labels.items w.of.result c.loop-i-test.true c.loop-i.invariant.so_far c.opens.ensures w.if-opens.true
        (ap (λ (v : Vec (List ℕ) _). v.items) w.labels-is ∙ w.in_ok-push.ensures.items) (w.of.ensures ∙ w.in_ok-label.ensures ∙ w.label_in.ensures)
    | else-opens w ↦
        label_same c.args.text.now c.loop-i.i c.opens.result c.loop-i.labels.items c.if-opens.labels.items c.loop-i-test.true c.loop-i.invariant.so_far c.opens.ensures w.if-opens.false
        (ap (λ (v : Vec (List ℕ) _). v.items) w.labels-is)
  ];
  command = command_more c.args.text.now c.loop-i.i c.loop-i-test.true c.loop-i.invariant.command;
}
