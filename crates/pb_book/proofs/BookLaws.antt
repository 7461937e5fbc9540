-- What crates above may cite of the rows of a book: accepted rows are consistent.
pub use Rattle.pb_book.proofs.ConsistentLemmas.{consistent}
