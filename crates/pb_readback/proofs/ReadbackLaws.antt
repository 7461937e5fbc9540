-- What crates above may cite of blocks that are read back: one thing comes next, a block that is read is well formed,
-- and which rows are of kinds that are skipped.
pub use Rattle.pb_readback.proofs.NextLemmas.{next_holds}
pub use Rattle.pb_readback.proofs.FormedLemmas.{formed_holds}
pub use Rattle.pb_readback.proofs.WrittenOtherLemmas.{list_passed, one_passed, only_passed}
