use Rattle.std.proofs.Common.{◌≡◌, ◌∙◌, arith, rules, sym, false, true≢false}
use Rattle.std.proofs.lemmas.Result.{IfOk-weaker}
use Rattle.dice_io.specs.Held.{is_among}
use Rattle.dice_io.proofs.StreamLemmas.{reads_wider}
use Rattle.dice_io.proofs.memory.MemorySourceSource.read.Goals as goal

pub returns-clause-chosen : goal.returns-clause-chosen
returns-clause-chosen c h =
    let e : is_among c.args.self.now.calls c.args.self.now.fails ≡ false = search rules in
    absurd (true≢false (sym h ∙ e))

pub returns-clause-reads : goal.returns-clause-reads
returns-clause-reads c = rw (← c.self.view_is) (IfOk-weaker c.read.result _ _ (λ n h. reads_wider c.args.most h (omega arith)) c.read.ensures.reads)
