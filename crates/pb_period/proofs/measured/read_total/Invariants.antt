use Rattle.std.proofs.Common.{◌≡◌, ◌≤◌, ◌≤ℤ◌}
use Rattle.std.specs.Int.{int_gap}
use Rattle.pb_limits.specs.Limits.{most_days_of_period}
use Rattle.pb_facts.specs.Facts.{live_facts}
use Rattle.pb_period.specs.Facts.{read_on}
use Rattle.pb_period.specs.Amounts.{IsAmount}
use Rattle.pb_period.specs.Measurement.{read_total}
use Rattle.pb_period.proofs.DayLemmas.{days_until, read_more}
use Rattle.pb_period.proofs.measured.read_total.Given as goal
use Rattle.pb_periods.specs.Windows.{days_between}
use Rattle.pb_site.specs.Service.{first_served, last_served}

abbrev pub invariant-loop-day : goal.invariant-loop-day
invariant-loop-day l =
    record {
      from : l.first ≤ℤ l.day;
      few : int_gap l.first l.day ≤ most_days_of_period;
      so_far : read_more l.total (read_on (live_facts l.facts) l.stream) (days_until l.day l.day-end) ≡ read_total (read_on (live_facts l.facts) l.stream) (days_between (first_served l.fn.service l.fn.days.first) (last_served l.fn.service l.fn.days.last));
      small : IsAmount (int_gap l.first l.day) l.total;
    }
