use Rattle.bulk_script.proofs.Parts.{script_put}
use Rattle.bulk_script.proofs.bulk.bulk_script.Goals as goal

pub returns : goal.returns
returns c =
    script_put c.args.targets _ _ _ _ _ _ c.new-script.ensures.items c.in_ok-put_sources.ensures c.in_ok-put_packages.ensures c.in_ok-ask_round.ensures
    c.in_ok-put.ensures c.in_ok-ask_round-2.ensures
