use Rattle.std.proofs.Common.{◌≡◌, length, take}
use Rattle.std.specs.Prelude.{◌-◌}
use Rattle.pb_report.specs.declared.form.Form.TheVariants.{Csv}
use Rattle.pb_session.specs.Session.{new_session, state_after_all}
use Rattle.pb_cli.proofs.texts.stored.Given as goal

-- the records so far are taken
abbrev pub invariant-loop-i : goal.invariant-loop-i
invariant-loop-i l = record {
  so_far : l.session.state ≡ state_after_all (new_session l.fn.options Csv) 1 (take l.i l.rows);
  end : l.i-end ≡ length l.rows - 1;
}
