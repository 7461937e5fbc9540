use Rattle.std.proofs.Common.{◌≡◌, ◌∙◌, ℕ, List, Ok, false, true≢false, codes, ap, ap₂, refl, sym}
use Rattle.pb_rows.specs.Name.{is_name}
use Rattle.pb_form.specs.Columns.{Schema}
use Rattle.pb_form.specs.OutputRows.{output_schema}
use Rattle.pb_form.specs.Reading.{row_read}
use Rattle.pb_form.specs.declared.output.OutputKind.TheVariants.{Report}
use Rattle.pb_blocks.specs.Texts.{name_field}
use Rattle.pb_blocks.proofs.FitLemmas.{counts_within}
use Rattle.pb_blocks.proofs.RowLaws.{name_read}
use Rattle.pb_blocks.proofs.heading.heading_in.Goals as goal
use Rattle.pb_form.specs.Values.{number_at}

pub returns-in-None-clause-fault : goal.returns-in-None-clause-fault
returns-in-None-clause-fault c =
    let read : row_read (output_schema Report) c.args.row.now ≡ Ok c.in_ok-values.values =
    sym (c.read.ensures.value ∙ ap₂ (λ (s : Schema) (f : List (List ℕ)). row_read s f) c.output_schema.ensures.value c.all-fields.ensures) ∙ c.in_ok-values.was in
    let other : is_name (name_field c.args.row.now) ≡ false = ap is_name (sym (c.name_field.ensures ∙ ap name_field c.all-fields.ensures)) ∙ c.in-None.ensures in
    absurd (true≢false (sym (name_read Report c.args.row.now c.in_ok-values.values 1 (codes "period") read refl) ∙ other))

pub returns-in-Some-clause-counts : goal.returns-in-Some-clause-counts
returns-in-Some-clause-counts c =
    let counts = c.is_miscounted.ensures.counts c.if-is_miscounted.false in
    let within = counts_within (number_at c.in_ok-values.values 3) (number_at c.in_ok-values.values 4) counts in
    rw c.said_heading.ensures (record { env = within.0; few_nodes = within.1; few_streams = within.2 })
