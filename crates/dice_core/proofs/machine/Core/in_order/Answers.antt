use Rattle.std.proofs.Common.{ℕ, subst}
use Rattle.journal.specs.Events.{commits_of}
use Rattle.versioned_graph.specs.Sound.{AreTrue}
use Rattle.core_laws.specs.Stands.{IsAtRest}
use Rattle.task_share.specs.Seen.{asked_of}
use Rattle.core_laws.specs.Desk.{AreAll}
use Rattle.dice_tasks.specs.Entries.{EntriesStand}
use Rattle.dice_tasks.specs.Hands.{tasks_of}
use Rattle.dice_core.specs.Cores.{CoreSeen, past_of, table_at, ready_at, out_at}
use Rattle.dice_core.proofs.machine.Core.in_order.Goals as goal

pub returns-clause-entries : goal.returns-clause-entries
returns-clause-entries g c =
    subst (λ (v : CoreSeen g.row.U-Key.Denot g.row.U-Value.Denot). AreTrue g.U.Key.PartialEq.eq g.U.Universe.meaning (commits_of (past_of v)) v.entries) c.self.view_is c.self.invariant.entries.entries_true

pub returns-clause-rest : goal.returns-clause-rest
returns-clause-rest g c =
    let eq = g.U.Key.PartialEq.eq in
    subst (λ (v : CoreSeen g.row.U-Key.Denot g.row.U-Value.Denot). (n : ℕ) → IsAtRest eq g.U.Universe.meaning (past_of v) n (asked_of eq (table_at v.tables n)) (tasks_of eq (table_at v.tables n))) c.self.view_is c.self.invariant.rests.each

pub returns-clause-ready : goal.returns-clause-ready
returns-clause-ready g c =
    subst (λ (v : CoreSeen g.row.U-Key.Denot g.row.U-Value.Denot). AreAll (ready_at g.U.Key.PartialEq.eq v) v.desk.ready) c.self.view_is c.self.invariant.rests.ready

pub returns-clause-outs : goal.returns-clause-outs
returns-clause-outs g c =
    subst (λ (v : CoreSeen g.row.U-Key.Denot g.row.U-Value.Denot). AreAll (out_at g.U.Key.PartialEq.eq v) v.desk.out) c.self.view_is c.self.invariant.outs

pub returns-clause-backed : goal.returns-clause-backed
returns-clause-backed g c =
    subst (λ (v : CoreSeen g.row.U-Key.Denot g.row.U-Value.Denot). EntriesStand g.U.Key.PartialEq.eq g.U.Universe.meaning (past_of v) v.entries) c.self.view_is c.self.invariant.entries
