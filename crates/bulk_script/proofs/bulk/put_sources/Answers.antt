use Rattle.std.proofs.Common.{◌≡◌, ◌∙◌, ◌++◌, ap, codes, map, List, ℕ, arith, rules}
use Rattle.script.specs.declared.line.Line.TheVariants.{Put}
use Rattle.bulk_script.specs.Spelled.{spelled, text_of}
use Rattle.bulk_script.specs.Bulk.{source_put, numbers_below}
use Rattle.bulk_script.proofs.Numbers.{lines_none, lines_more}
use Rattle.bulk_script.proofs.Parts.{sources_put}
use Rattle.bulk_script.proofs.bulk.put_sources.Goals as goal

pub loop-source-init : goal.loop-source-init
loop-source-init c = lines_none source_put c.put.new.out.items

pub loop-source-preserved : goal.loop-source-preserved
loop-source-preserved c =
    c.in_ok-put_source.ensures ∙ lines_more source_put c.loop-source.script.items c.put.new.out.items c.loop-source.source c.loop-source.invariant

pub returns : goal.returns
returns c =
    let s : c.loop-source.source ≡ 16 = omega arith in
    let d : c.deref.result.now ≡ c.in_ok-rules.rules.items = search rules in
    let p : c.put.new.out.items ≡ c.args.script.now.items ++ spelled (Put (codes "src/BUCK") c.in_ok-rules.rules.items) =
    c.in_ok-put.ensures ∙ ap (λ (r : List ℕ). c.args.script.now.items ++ spelled (Put (codes "src/BUCK") r)) d in
    sources_put c.args.script.now.items c.loop-source.script.items c.in_ok-rules.rules.items c.in_ok-rules.ensures
    (c.loop-source.invariant ∙ ap (λ (n : ℕ). c.put.new.out.items ++ text_of (map source_put (numbers_below n))) s
    ∙ ap (λ (o : List ℕ). o ++ text_of (map source_put (numbers_below 16))) p)
