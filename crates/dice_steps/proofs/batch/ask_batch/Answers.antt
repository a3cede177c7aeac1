use Rattle.std.proofs.Common.{◌∙◌, sym, ap, subst}
use Rattle.dice_jobs.specs.Jobs.{Name, Assigned}
use Rattle.dice_steps.specs.AtHand.{AtHand}
use Rattle.dice_steps.specs.Taken.{IsBatchDone}
use Rattle.dice_steps.proofs.PlanLemmas.{at_hand_kept, takes_from, done_from, parked_so, plan_as, takes_as, done_as, hand_as}
use Rattle.dice_steps.proofs.batch.ask_batch.Goals as goal

pub returns-in-Err-clause-kept : goal.returns-in-Err-clause-kept
returns-in-Err-clause-kept g c w h =
    let e = c.plan_step.ensures in
    subst (λ es. AtHand g.U.Key.PartialEq.eq g.U.Universe.meaning c.args.step.job.name.version w c.args.owed c.plan_step.new.tasks c.plan_step.new.shared.desk es c.args.shared.now.cells) (sym e.graph)
    (at_hand_kept g.U.Key.PartialEq.eq g.U.Universe.meaning c.args.step.job.name.version _ _ _ _ e.tasks e.asks e.hands w c.args.owed _ _ e.desk_room.spare h)

pub take_up-requires-clause-hand : goal.take_up-requires-clause-hand
take_up-requires-clause-hand g c l o =
    let eq = g.U.Key.PartialEq.eq in
    let m = g.U.Universe.meaning in
    let e = c.plan_step.ensures in
    let a = c.args.step.job in
    let r = c.requires.hand in
    let asks = c.requires.asks in
    let version = c.version-version.ensures ∙ ap (λ (n : Name g.row.U-Key.Denot). n.version) (c.name.ensures ∙ ap (λ (x : Assigned g.row.U-Key.Denot g.row.U-Value.Denot). x.name) c.assignment.ensures) in
    let p = parked_so a c.args.step.outcome asks.0 c.in-Some.parked asks.1 c.in-Some.ensures in (
      r.0,
      c.args.owed,
      c.plan_step.new.shared.cells,
      hand_as eq m a.name.version c.version-version.result (sym version) r.0 c.args.owed _ _ _ _ (subst (λ es. AtHand g.U.Key.PartialEq.eq g.U.Universe.meaning c.args.step.job.name.version r.0 c.args.owed c.plan_step.new.tasks c.plan_step.new.shared.desk es c.plan_step.new.shared.cells) (sym c.plan_step.ensures.graph)
          (subst (λ z. AtHand g.U.Key.PartialEq.eq g.U.Universe.meaning c.args.step.job.name.version r.0 c.args.owed c.plan_step.new.tasks c.plan_step.new.shared.desk c.args.shared.now.graph z) (sym c.plan_step.ensures.cells)
          (at_hand_kept eq m a.name.version _ _ _ _ e.tasks e.asks e.hands r.0 c.args.owed _ _ e.desk_room.spare r.1))),
      plan_as eq m a.name.version c.version-version.result (sym version) c.args.owed a c.in-Some.parked.job asks.0 c.in-Some.parked.keys _ _ _ _ _ (sym p.0) (sym p.1) (c.in-Ok.ensures.plan asks.0 asks.1),
    )

pub returns-clause-given : goal.returns-clause-given
returns-clause-given g c ks wants =
    let eq = g.U.Key.PartialEq.eq in
    let m = g.U.Universe.meaning in
    let e = c.plan_step.ensures in
    let a = c.args.step.job in
    let version = c.version-version.ensures ∙ ap (λ (n : Name g.row.U-Key.Denot). n.version) (c.name.ensures ∙ ap (λ (x : Assigned g.row.U-Key.Denot g.row.U-Value.Denot). x.name) c.assignment.ensures) in
    let p = parked_so a c.args.step.outcome ks c.in-Some.parked wants c.in-Some.ensures in
    takes_from eq m a.name.version _ _ _ _ e.tasks e.asks e.hands a ks _ _ (takes_as eq m c.version-version.result a.name.version version c.in-Some.parked.job a c.in-Some.parked.keys ks _ _ _ _ p.0 p.1 c.take_up.ensures.given)

pub returns-clause-done : goal.returns-clause-done
returns-clause-done g c ks wants =
    let eq = g.U.Key.PartialEq.eq in
    let m = g.U.Universe.meaning in
    let e = c.plan_step.ensures in
    let a = c.args.step.job in
    let r = c.requires.hand in
    let u = c.version-version.result in
    let version = c.version-version.ensures ∙ ap (λ (n : Name g.row.U-Key.Denot). n.version) (c.name.ensures ∙ ap (λ (x : Assigned g.row.U-Key.Denot g.row.U-Value.Denot). x.name) c.assignment.ensures) in
    let p = parked_so a c.args.step.outcome ks c.in-Some.parked wants c.in-Some.ensures in
    subst (λ z. IsBatchDone eq m a.name.version a ks z c.args.tasks.now c.args.shared.now.desk c.args.shared.now.graph c.take_up.new.tasks c.take_up.new.shared.desk c.take_up.new.shared.graph) e.cells
    (subst (λ es. IsBatchDone eq m a.name.version a ks c.plan_step.new.shared.cells c.args.tasks.now c.args.shared.now.desk es c.take_up.new.tasks c.take_up.new.shared.desk c.take_up.new.shared.graph) e.graph
    (done_as eq m u a.name.version version c.in-Some.parked.job a c.in-Some.parked.keys ks c.plan_step.new.shared.cells _ _ _ _ _ _ p.0 p.1
    (done_from eq m u _ _ _ _ e.tasks e.asks e.hands c.in-Some.parked.job c.in-Some.parked.keys c.plan_step.new.shared.cells _ _ _ _ c.args.owed _ c.in-Ok.ensures.still
    (c.take_up.ensures.done r.0 c.args.owed c.plan_step.new.shared.cells
    (hand_as eq m a.name.version u (sym version) r.0 c.args.owed _ _ _ _ (subst (λ es. AtHand g.U.Key.PartialEq.eq g.U.Universe.meaning c.args.step.job.name.version r.0 c.args.owed c.plan_step.new.tasks c.plan_step.new.shared.desk es c.plan_step.new.shared.cells) (sym c.plan_step.ensures.graph)
    (subst (λ z. AtHand g.U.Key.PartialEq.eq g.U.Universe.meaning c.args.step.job.name.version r.0 c.args.owed c.plan_step.new.tasks c.plan_step.new.shared.desk c.args.shared.now.graph z) (sym c.plan_step.ensures.cells)
    (at_hand_kept eq m a.name.version _ _ _ _ e.tasks e.asks e.hands r.0 c.args.owed _ _ e.desk_room.spare r.1))))
    (plan_as eq m a.name.version u (sym version) c.args.owed a c.in-Some.parked.job ks c.in-Some.parked.keys _ _ _ _ _ (sym p.0) (sym p.1) (c.in-Ok.ensures.plan ks wants))))))

pub returns-clause-kept : goal.returns-clause-kept
returns-clause-kept g c w h =
    let eq = g.U.Key.PartialEq.eq in
    let m = g.U.Universe.meaning in
    let e = c.plan_step.ensures in
    let a = c.args.step.job in
    let asks = c.requires.asks in
    let version = c.version-version.ensures ∙ ap (λ (n : Name g.row.U-Key.Denot). n.version) (c.name.ensures ∙ ap (λ (x : Assigned g.row.U-Key.Denot g.row.U-Value.Denot). x.name) c.assignment.ensures) in
    let p = parked_so a c.args.step.outcome asks.0 c.in-Some.parked asks.1 c.in-Some.ensures in
    subst (λ z. AtHand eq m a.name.version w c.args.owed c.take_up.new.tasks c.take_up.new.shared.desk c.take_up.new.shared.graph z) e.cells
    (hand_as eq m c.version-version.result a.name.version version w c.args.owed _ _ _ _
    (c.take_up.ensures.kept w c.args.owed c.plan_step.new.shared.cells
    (hand_as eq m a.name.version c.version-version.result (sym version) w c.args.owed _ _ _ _ (subst (λ es. AtHand g.U.Key.PartialEq.eq g.U.Universe.meaning c.args.step.job.name.version w c.args.owed c.plan_step.new.tasks c.plan_step.new.shared.desk es c.plan_step.new.shared.cells) (sym c.plan_step.ensures.graph)
    (subst (λ z. AtHand g.U.Key.PartialEq.eq g.U.Universe.meaning c.args.step.job.name.version w c.args.owed c.plan_step.new.tasks c.plan_step.new.shared.desk c.args.shared.now.graph z) (sym c.plan_step.ensures.cells)
    (at_hand_kept eq m a.name.version _ _ _ _ e.tasks e.asks e.hands w c.args.owed _ _ e.desk_room.spare h))))
    (plan_as eq m a.name.version c.version-version.result (sym version) c.args.owed a c.in-Some.parked.job asks.0 c.in-Some.parked.keys _ _ _ _ _ (sym p.0) (sym p.1) (c.in-Ok.ensures.plan asks.0 asks.1))))
