-- The text of rows in CSV reads back as the rows.
use Rattle.std.proofs.Common.{◌≡◌, ◌∙◌, ℕ, List, [], ◌∷◌, ◌++◌, refl, sym, ap, subst}
use Rattle.pb_rows.specs.Records.{records_of}
use Rattle.pb_rows.specs.Texts.{WrittenRowsReadBack}
use Rattle.pb_rows.specs.Written.{line_of, text_of_rows}
use Rattle.pb_report.specs.declared.form.Form.TheVariants.{Csv}
use Rattle.pb_report.specs.Form.{text_in}
use Rattle.pb_report.specs.Row.{OutputRow, fields_of}
use Rattle.pb_report.specs.Study.{study_rows}
use Rattle.pb_readback.specs.Next.{AreBlocks}
use Rattle.pb_readback.specs.Written.{RowTextLaw, RowWordsLaw, StudyRowsLaw, StudyTextLaw, blocks_from, records_in}

-- the text of rows in CSV is the text of their values
csv_text : (rows : List OutputRow) → text_in Csv rows ≡ text_of_rows (records_in rows)
csv_text [] = refl
csv_text (row ∷ rows) = ap (λ (text : List ℕ). line_of (fields_of row) ++ text) (csv_text rows)

pub text_back : WrittenRowsReadBack → RowTextLaw
text_back written rows words = ap (λ (text : List ℕ). records_of text) (csv_text rows) ∙ written (records_in rows) words

-- the text of a study reads back as its stages
pub study_text_back : RowTextLaw → RowWordsLaw → StudyRowsLaw → StudyTextLaw
study_text_back texts words blocks names period options study h =
    let rows = study_rows names period options study in
    subst (λ (records : List (List (List ℕ))). AreBlocks records (blocks_from names period options 0 study.stages)) (sym (texts rows (words.studies names period options study)))
    (blocks names period options study h)
