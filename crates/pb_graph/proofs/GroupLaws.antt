-- What crates above may cite about groups: the laws, and in smaller pieces what they say.
pub use Rattle.pb_graph.proofs.SameGroupLemmas.{all_at, stream_joins}
pub use Rattle.pb_graph.proofs.GroupLemmas.{number_below}
pub use Rattle.pb_graph.proofs.FreeLemmas.{first_number, one_end_cases, crossing_measured, crossings_add, crossed_is, free_means}
pub use Rattle.pb_graph.proofs.NumberingLemmas.{numbers_few, numbers_below, count_few, number_node, numbering_law, free_law, crossing_law}
pub use Rattle.pb_graph.proofs.SomeGroupsLemmas.{some_groups_law}
