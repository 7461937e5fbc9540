-- What crates above may cite of the text of rows: rows read back from it.
pub use Rattle.pb_rows.proofs.RoundTripLemmas.{rows_read_back}
