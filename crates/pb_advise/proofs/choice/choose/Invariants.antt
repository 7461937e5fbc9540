use Rattle.std.proofs.Common.{◌≡◌, ◌≢◌, ℕ, ◌<◌, false, length, get_or}
use Rattle.pb_graph.specs.Parts.{IsLabelling}
use Rattle.pb_advise.specs.Order.{IsMarked, is_among, taken_at}
use Rattle.pb_advise.proofs.choice.choose.Given as goal

-- the streams taken so far are marked, and the labels say what they join
abbrev pub invariant-loop-j : goal.invariant-loop-j
invariant-loop-j l = record {
  labels : IsLabelling l.streams (length l.fn.parts) (is_among l.order l.j-index) l.parts;
  marks : (p : ℕ) → p < l.j-index → IsMarked l.streams l.order p (get_or l.chosen (taken_at l.order p) false);
  others : (k : ℕ) → ((p : ℕ) → p < l.j-index → taken_at l.order p ≢ k) → get_or l.chosen k false ≡ get_or l.fn.chosen k false;
}
