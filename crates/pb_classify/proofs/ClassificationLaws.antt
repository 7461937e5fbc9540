-- What crates above may cite about classifications: their laws.
pub use Rattle.pb_classify.proofs.UniqueLemmas.{one_classification}
pub use Rattle.pb_classify.proofs.SomeClassificationLemmas.{some_classification_law}
