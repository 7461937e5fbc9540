use Rattle.std.proofs.Common.{◌≡◌}
use Rattle.pb_period.specs.Amounts.{IsAmount, sum_of_two}
use Rattle.pb_period.proofs.TransferLemmas.{moved_from}
use Rattle.pb_period.proofs.transfers.transferred.Given as goal

abbrev pub invariant-loop-place : goal.invariant-loop-place
invariant-loop-place l =
    record {
      so_far : sum_of_two l.total (moved_from l.fn.days l.stream l.facts l.places l.place-index) ≡ moved_from l.fn.days l.stream l.facts l.places 0;
      within : IsAmount l.place-index l.total;
    }
