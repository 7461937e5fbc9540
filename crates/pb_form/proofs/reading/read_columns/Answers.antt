use Rattle.std.specs.Prelude.{map}
use Rattle.std.proofs.Common.{◌≤◌, length, arith, sym}
use Rattle.std.proofs.lemmas.List.{length-map}
use Rattle.pb_rows.proofs.TextLaws.{date_texts}
use Rattle.pb_form.specs.Seen.{column_seen}
use Rattle.pb_form.proofs.FittingLemmas.{fields_fit}
use Rattle.pb_form.proofs.SaidLemmas.{fault_told, no_fault}
use Rattle.pb_form.proofs.reading.read_columns.Goals as goal

pub returns-in-None : goal.returns-in-None
returns-in-None c =
    let said = no_fault (map column_seen c.args.columns.now) c.args.fields.now (rw c.in-None.is at c.columns_fault.ensures) in
    let long : length (map column_seen c.args.columns.now) ≤ length c.args.fields.now = omega (arith, c.requires, length-map c.args.columns.now column_seen) in
    record {
      value = rw (c.of.ensures, c.lent.ensures) said;
      fit = rw (c.of.ensures, c.lent.ensures) (fields_fit date_texts _ _ c.args.fields.now long (sym said));
    }

pub returns-in-Some-clause-value : goal.returns-in-Some-clause-value
returns-in-Some-clause-value c = fault_told _ c.in-Some.fault (rw c.in-Some.is at c.columns_fault.ensures)
