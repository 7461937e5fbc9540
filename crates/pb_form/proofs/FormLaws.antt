-- What crates above may cite of the form of rows: its laws.
use Rattle.pb_rows.proofs.TextLaws.{date_texts, number_texts}
use Rattle.pb_form.specs.TextLaws.{TextLaw}
use Rattle.pb_form.proofs.RowTextLemmas.{texts_back}
pub use Rattle.pb_form.proofs.KindLemmas.{one_kind}

pub text_law : TextLaw
text_law = texts_back number_texts date_texts
