-- What crates above may cite of declared plants: their laws.
pub use Rattle.pb_site.proofs.KeptLemmas.{plant_law}
pub use Rattle.pb_site.proofs.PartLemmas.{same_part_law}
