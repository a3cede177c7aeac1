use Rattle.std.proofs.Common.{◌≡◌, true, ap, ◌∙◌, subst}
use mathlib.Core.List.{IsPrefix}
use Rattle.job_line.specs.declared.view.View.{View}
use Rattle.job_line.specs.Ends.{PutterView, PassView}
use Rattle.job_line.proofs.line.JobLine.meet.Goals as goal

pub returns-clause-begins : goal.returns-clause-begins
returns-clause-begins g c =
    let v = c.putter.inside.raw.me.view.client in
    let w = c.another-other.result.me.view.client in
    let known : IsPrefix w.seen v.seen = subst (λ (x : View g.row.J.Denot). x.putter ≡ true → IsPrefix x.met x.seen) c.absorb.ensures.rule c.len_as.ensures.rule.2 c.putter.invariant.2 in
    let seen : w.seen ≡ c.args.pass.now.seen = ap (λ (x : View g.row.J.Denot). x.seen) c.another-other.ensures.rule.1 ∙ ap (λ (p : PassView g.row.J.Denot). p.seen) c.pass.view_is in
    let puts : v.seen ≡ c.args.putter.now.puts = ap (λ (p : PutterView g.row.J.Denot). p.puts) c.putter.view_is in
    subst (λ l. IsPrefix l c.args.putter.now.puts) seen (subst (IsPrefix w.seen) puts known)
