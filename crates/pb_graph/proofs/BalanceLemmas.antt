-- One more stream in a net flow.
use Rattle.std.proofs.Common.{◌≡◌, ℕ, ◌+◌, ◌<◌, ℤ, ◌+ℤ◌, List, length, get_or, drop, ap₂, arith}
use Rattle.std.proofs.lemmas.Int.{ints}
use Rattle.pb_fixed.proofs.Lists.{drop_next}
use Rattle.pb_graph.specs.declared.records.Stream.{Stream}
use Rattle.pb_graph.specs.Balance.{brought_to, net_of}

-- the net flow from a place on is the share there and the net flow after it
pub net_more : (n j : ℕ) (ss : List Stream) (xs : List ℤ) (s : Stream) (x : ℤ) → j < length ss → length xs ≡ length ss
    → net_of n (drop j ss) (drop j xs) ≡ brought_to n (get_or ss j s) (get_or xs j x) +ℤ net_of n (drop (j + 1) ss) (drop (j + 1) xs)
net_more n j ss xs s x lt each =
    ap₂ (net_of n) (drop_next ss j s lt) (drop_next xs j x (omega (arith, lt, each)))

-- one more part joins a running total
pub total_more : (total part rest more whole share : ℤ) → total +ℤ rest ≡ whole → rest ≡ share +ℤ more → part ≡ share → (total +ℤ part) +ℤ more ≡ whole
total_more total part rest more whole share so_far next is = omega (arith, ints, so_far, next, is)
