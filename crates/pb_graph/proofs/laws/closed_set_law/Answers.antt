use Rattle.std.proofs.Common.{◌≡◌, ℕ, true}
use Rattle.pb_graph.proofs.WalkLemmas.{walk_keeps}
use Rattle.pb_graph.proofs.laws.closed_set_law.Goals as goal

pub returns : goal.returns
returns c = λ ends inside a b closed (steps, w) here. walk_keeps ends (λ (n : ℕ). inside n ≡ true) a b steps closed w here
