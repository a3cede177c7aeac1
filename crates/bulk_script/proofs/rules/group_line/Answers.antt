use Rattle.std.proofs.Common.{codes, ◌/◌, ◌%◌}
use Rattle.std.specs.Prelude.{decimal}
use Rattle.bulk_script.specs.Bulk.{label_of}
use Rattle.bulk_script.proofs.Parts.{nine_grown}
use Rattle.bulk_script.proofs.rules.group_line.Goals as goal

pub returns : goal.returns
returns c =
    nine_grown c.args.out.now.items (codes "filegroup(name = \"t") (decimal c.args.target) (codes "\", srcs = [\"//src:s") (decimal (c.args.target % 16)) (codes "\", \"")
    (label_of (c.args.target / 2)) (codes "\", \"") (label_of (c.args.target / 3)) (codes "\"])\n") _ _ _ _ _ _ _ _ _
    c.in_ok-bytes.ensures c.in_ok-number.ensures c.in_ok-bytes-2.ensures c.in_ok-number-2.ensures c.in_ok-bytes-3.ensures c.in_ok-label.ensures c.in_ok-bytes-4.ensures
    c.in_ok-label-2.ensures c.in_ok-bytes-5.ensures
