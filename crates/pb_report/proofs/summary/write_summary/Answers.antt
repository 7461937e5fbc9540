use Rattle.pb_report.specs.declared.form.Form.TheVariants.{Csv}
use Rattle.pb_report.proofs.OutputLemmas.{one_written}
use Rattle.pb_report.proofs.summary.write_summary.Goals as goal

pub returns-clause-ok : goal.returns-clause-ok
returns-clause-ok c = one_written c.write_row.result Csv c.args.out.now.items c.write_row.new.text.items _ _ c.summary_values-values.ensures c.write_row.ensures.ok
