-- What crates above may cite about the spanning forest: its laws; that a path takes no stream twice; the ends of a stream, and the
-- streams at a node.
pub use Rattle.pb_forest.proofs.SpansLemmas.{spans_law, chord_law, along_reach}
pub use Rattle.pb_forest.proofs.AcyclicLemmas.{acyclic_law, one_forest_law}
pub use Rattle.pb_forest.proofs.PathLemmas.{unique_law, part_law, begin_is, walk_without, streams_once}
pub use Rattle.pb_forest.proofs.SomePathLemmas.{some_path_law}
pub use Rattle.pb_forest.proofs.SomeForestLemmas.{some_forest_law}
pub use Rattle.pb_forest.proofs.SomeBalancedLemmas.{some_balanced_law}
pub use Rattle.pb_forest.proofs.SideLemmas.{one_balanced_law}
pub use Rattle.pb_forest.proofs.TreeLemmas.{end_cases, other_touches, other_back, two_ends, end_within, touching_place, list_touches}
pub use Rattle.pb_forest.proofs.FewHeldLemmas.{few_held_law}
