use Rattle.std.specs.List.{list_any}
use Rattle.std.proofs.Common.{◌≡◌, drop}
use Rattle.pb_book.specs.Costs.{names_unknown}
use Rattle.pb_book.proofs.costs.some_unknown.Given as goal

abbrev pub invariant-loop-i : goal.invariant-loop-i
invariant-loop-i l = list_any (names_unknown l.site) (drop l.i l.named) ≡ list_any (names_unknown l.site) l.named
