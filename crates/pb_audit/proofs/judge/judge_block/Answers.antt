use Rattle.std.proofs.Common.{rules, refl, ◌∷◌, []}
use Rattle.pb_check.specs.Verdict.{IsFirstFault}
use Rattle.pb_report.specs.declared.form.Form.TheVariants.{Csv}
use Rattle.pb_report.specs.Form.{AppendsRows}
use Rattle.pb_audit.specs.Judgement.{failed, finding_row, passed}
use Rattle.pb_audit.proofs.judge.judge_block.Goals as goal

pub returns-in_ok-write_yes-in-Ok-clause-ok : goal.returns-in_ok-write_yes-in-Ok-clause-ok
returns-in_ok-write_yes-in-Ok-clause-ok c = record {
  finding = passed c.args.block.now;
  is = refl;
  on = (refl, c.in-Ok.ensures.passed);
  appended = c.in_ok-write_yes-in-Ok.ensures.ok;
}

pub returns-in_ok-write_no-in-Err-At-clause-ok : goal.returns-in_ok-write_no-in-Err-At-clause-ok
returns-in_ok-write_no-in-Err-At-clause-ok c =
    let block = c.args.block.now in
    let first : IsFirstFault block.stage block.gap block.sweeps c.in-Err-At.test c.in-Err-At.place c.in-Err-At.stated c.in-Err-At.found =
    rw c.in-Err-At.field-0-is at c.in-Err-At.ensures.fault in
    let written : AppendsRows Csv c.args.out.now.items c.write_no.new.out.items (finding_row (failed block c.in-Err-At.test c.in-Err-At.place c.in-Err-At.stated c.in-Err-At.found) ∷ []) =
    search rules in
    record {
      finding = failed block c.in-Err-At.test c.in-Err-At.place c.in-Err-At.stated c.in-Err-At.found;
      is = refl;
      on = (refl, first);
      appended = written;
    }
