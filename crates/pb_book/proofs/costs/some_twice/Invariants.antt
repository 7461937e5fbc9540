use Rattle.std.proofs.Common.{◌≡◌, drop}
use Rattle.pb_book.specs.Costs.{names_twice}
use Rattle.pb_book.proofs.CostLemmas.{repeats}
use Rattle.pb_book.proofs.costs.some_twice.Given as goal

-- the streams so far, and the remaining ones, say whether one is named twice
abbrev pub invariant-loop-i : goal.invariant-loop-i
invariant-loop-i l = repeats l.streams.keys (drop l.i l.named) ≡ names_twice l.named
