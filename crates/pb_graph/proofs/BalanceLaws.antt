-- What crates above may cite of balanced flows: the laws; the price that identifies a side; and what a walk takes and turns round.
pub use Rattle.pb_graph.proofs.PriceLemmas.{priced_sums, balanced_sum, env_balances}
pub use Rattle.pb_graph.proofs.CutLemmas.{boundary_sum, cut_determines, unit_price, side_price}
pub use Rattle.pb_graph.proofs.CirculationLemmas.{cycle_frees}
pub use Rattle.pb_graph.proofs.DeterminedLemmas.{reach_decides, side_cuts_off, others_walk, no_meas}
pub use Rattle.pb_graph.proofs.ClassLemmas.{certificate_shows, each_class, one_class}
pub use Rattle.pb_graph.proofs.TurnLemmas.{turns, takes, length_turns, round_net, not_taken, taken_once, first_unit}
