use Rattle.pb_elim.proofs.FormedLemmas.{study_of_all}
use Rattle.pb_elim.proofs.StudyLaws.{certified, decided, least_throughout, tested}
use Rattle.pb_elim.proofs.studies.study_from.Goals as goal

pub returns-clause-study : goal.returns-clause-study
returns-clause-study c =
    study_of_all c.args.graph.now c.args.options.now c.args.critical.now c.in_ok-study.study c.at-last.result.now c.len-count.result c.stop_at-study.result c.in_ok-study.ensures c.len-count.ensures
    c.at-last.ensures c.stop_at-study.ensures

pub returns-clause-certified : goal.returns-clause-certified
returns-clause-certified c =
    certified c.args.graph.now c.args.options.now c.args.critical.now
    (record { stages = c.in_ok-study.study.stages; taken = c.in_ok-study.study.taken; stop = c.stop_at-study.result }) c.in_ok-study.ensures.so_far.limits
    (study_of_all c.args.graph.now c.args.options.now c.args.critical.now c.in_ok-study.study c.at-last.result.now c.len-count.result c.stop_at-study.result c.in_ok-study.ensures c.len-count.ensures
    c.at-last.ensures c.stop_at-study.ensures)

pub returns-clause-decided : goal.returns-clause-decided
returns-clause-decided c =
    decided c.args.graph.now c.args.options.now c.args.critical.now
    (record { stages = c.in_ok-study.study.stages; taken = c.in_ok-study.study.taken; stop = c.stop_at-study.result }) c.in_ok-study.ensures.so_far.limits c.requires.critical
    (study_of_all c.args.graph.now c.args.options.now c.args.critical.now c.in_ok-study.study c.at-last.result.now c.len-count.result c.stop_at-study.result c.in_ok-study.ensures c.len-count.ensures
    c.at-last.ensures c.stop_at-study.ensures)

pub returns-clause-least : goal.returns-clause-least
returns-clause-least c =
    least_throughout c.args.graph.now c.args.options.now c.args.critical.now
    (record { stages = c.in_ok-study.study.stages; taken = c.in_ok-study.study.taken; stop = c.stop_at-study.result })
    (study_of_all c.args.graph.now c.args.options.now c.args.critical.now c.in_ok-study.study c.at-last.result.now c.len-count.result c.stop_at-study.result c.in_ok-study.ensures c.len-count.ensures
    c.at-last.ensures c.stop_at-study.ensures)

pub returns-clause-tested : goal.returns-clause-tested
returns-clause-tested c =
    tested c.args.graph.now c.args.options.now c.args.critical.now
    (record { stages = c.in_ok-study.study.stages; taken = c.in_ok-study.study.taken; stop = c.stop_at-study.result })
    (study_of_all c.args.graph.now c.args.options.now c.args.critical.now c.in_ok-study.study c.at-last.result.now c.len-count.result c.stop_at-study.result c.in_ok-study.ensures c.len-count.ensures
    c.at-last.ensures c.stop_at-study.ensures)
