use Rattle.std.specs.List.{list_any}
use Rattle.std.proofs.Common.{◌≡◌, drop}
use Rattle.pb_book.specs.Costs.{names_measured}
use Rattle.pb_book.proofs.costs.some_measured.Given as goal

abbrev pub invariant-loop-i : goal.invariant-loop-i
invariant-loop-i l = list_any (names_measured l.site) (drop l.i l.named) ≡ list_any (names_measured l.site) l.named
