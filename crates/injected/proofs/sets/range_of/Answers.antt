-- The run of sets to the number round a version has the versions up to which the number stays.
use Rattle.injected.specs.Numbers.{tests}
use Rattle.injected.proofs.Rounds.{run_of, begins_there, begins_of, ends_of, run_round}
use Rattle.injected.proofs.sets.range_of.Goals as goal

pub first_version-requires : goal.first_version-requires
first_version-requires c = begins_there c.args.first c.args.number c.args.sets.now c.args.begun c.begin_of_run-begin.result c.requires.bound c.requires.none c.requires.last c.begin_of_run-begin.ensures.bound c.begin_of_run-begin.ensures.before

pub returns-clause-here : goal.returns-clause-here
returns-clause-here c = λ v a.
    let ss = c.args.sets.now in
    let n = c.args.number in
    let run = run_of c.args.first n ss v c.args.begun c.begin_of_run-begin.result c.end_of_run-end.result c.requires.rising a c.requires.none c.requires.last
    c.begin_of_run-begin.ensures.bound c.begin_of_run-begin.ensures.run c.begin_of_run-begin.ensures.before c.end_of_run-end.ensures.bound c.end_of_run-end.ensures.run c.end_of_run-end.ensures.behind in
    (run_round c.args.first (tests n ss) v c.args.begun c.begin_of_run-begin.result c.end_of_run-end.result run (record { from = c.first_version.result; to = c.version_at.result })
    (begins_of c.args.first n ss c.begin_of_run-begin.result c.first_version.result (begins_there c.args.first n ss c.args.begun c.begin_of_run-begin.result c.requires.bound c.requires.none c.requires.last c.begin_of_run-begin.ensures.bound c.begin_of_run-begin.ensures.before) c.first_version.ensures.zero c.first_version.ensures.set)
    (ends_of c.args.first n ss c.end_of_run-end.result c.version_at.result c.end_of_run-end.ensures.bound.1 c.version_at.ensures.there c.version_at.ensures.none)).0

pub returns-clause-members : goal.returns-clause-members
returns-clause-members c = λ v a.
    let ss = c.args.sets.now in
    let n = c.args.number in
    let run = run_of c.args.first n ss v c.args.begun c.begin_of_run-begin.result c.end_of_run-end.result c.requires.rising a c.requires.none c.requires.last
    c.begin_of_run-begin.ensures.bound c.begin_of_run-begin.ensures.run c.begin_of_run-begin.ensures.before c.end_of_run-end.ensures.bound c.end_of_run-end.ensures.run c.end_of_run-end.ensures.behind in
    (run_round c.args.first (tests n ss) v c.args.begun c.begin_of_run-begin.result c.end_of_run-end.result run (record { from = c.first_version.result; to = c.version_at.result })
    (begins_of c.args.first n ss c.begin_of_run-begin.result c.first_version.result (begins_there c.args.first n ss c.args.begun c.begin_of_run-begin.result c.requires.bound c.requires.none c.requires.last c.begin_of_run-begin.ensures.bound c.begin_of_run-begin.ensures.before) c.first_version.ensures.zero c.first_version.ensures.set)
    (ends_of c.args.first n ss c.end_of_run-end.result c.version_at.result c.end_of_run-end.ensures.bound.1 c.version_at.ensures.there c.version_at.ensures.none)).1
