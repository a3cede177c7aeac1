use Rattle.std.proofs.Common.{refl, arith}
use Rattle.dice_core.proofs.CloseLemmas.{takes_none, takes_more, takes_all, keeps_on}
use Rattle.dice_core.proofs.close.take_promises.Goals as goal

pub promises-init : goal.promises-init
promises-init g c = record { all = λ R by t h p. takes_none g.U.Key.PartialEq.eq R by t _ _ _ h p; tasks = record { tasks = λ q. refl; live = λ q. refl; count = refl }; fewer = omega arith }

pub promises-preserved : goal.promises-preserved
promises-preserved g c = record {
  all = λ R by t h p. (let i = c.promises.invariant.all R by t h p in takes_more g.U.Key.PartialEq.eq R by t _ _ _ _ _ _ _ _ i (c.take_promise.ensures.some c.promises-test.true R by t i.closing i.promised));
  tasks = keeps_on g.U.Key.PartialEq.eq _ _ _ c.promises.invariant.tasks c.take_promise.ensures.tasks;
  fewer = omega arith;
}

pub promises-smaller : goal.promises-smaller
promises-smaller g c = c.take_promise.ensures.shorter c.promises-test.true

pub returns-clause-all : goal.returns-clause-all
returns-clause-all g c R by t h p =
    let i = c.promises.invariant.all R by t h p in
    let e = c.take_promise.ensures.none c.promises-test.false in
    takes_all g.U.Key.PartialEq.eq R by t _ _ _ _ _ _ _ i e.0 e.1 e.2

pub returns-clause-tasks : goal.returns-clause-tasks
returns-clause-tasks g c = keeps_on g.U.Key.PartialEq.eq _ _ _ c.promises.invariant.tasks c.take_promise.ensures.tasks

pub returns-clause-owed : goal.returns-clause-owed
returns-clause-owed g c = omega arith
