use Rattle.pb_report.proofs.OutputLemmas.{one_written}
use Rattle.pb_report.proofs.component.write_component.Goals as goal

pub returns-clause-ok : goal.returns-clause-ok
returns-clause-ok c = one_written c.write_row.result c.args.form c.args.out.now.items c.write_row.new.text.items _ _ c.component_values.ensures c.write_row.ensures.ok
