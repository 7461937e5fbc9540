-- What crates above may cite of nodal tests: those of a graph exist, and are unique.
pub use Rattle.pb_stage.proofs.NodalLemmas.{one_nodal_tests, some_nodal_tests}
