use Rattle.pb_report.proofs.OutputLemmas.{adds_row}
use Rattle.pb_report.proofs.design.write_class.Goals as goal

pub returns-clause-adds : goal.returns-clause-adds
returns-clause-adds c = adds_row c.args.output.now c.push.new.self _ _ c.class_values-values.ensures c.in_ok-push.ensures
