-- What crates above may cite of graphs that are alike: they have the same classification.
pub use Rattle.pb_classify.proofs.AlikeLemmas.{alike_classes}
