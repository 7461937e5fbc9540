use Rattle.std.specs.Int.{int_gap}
use Rattle.std.proofs.Common.{◌≡◌, ◌∙◌, ◌≤ℤ◌, ◌<ℤ◌, ◌+ℤ◌, ◌-ℤ◌, ℤ, pos, FitsSigned, to_z, of_z, sym, ap, ap₂, subst, arith, rules}
use mir.Syntax.{w32}
use Rattle.std.proofs.lemmas.Int.{ints, to_z-of_z}
use Rattle.pb_limits.specs.Limits.{most_days_of_period}
use Rattle.pb_facts.specs.Facts.{live_facts}
use Rattle.pb_site.specs.Service.{first_served, last_served}
use Rattle.pb_period.specs.declared.amount.Amount.{Amount}
use Rattle.pb_period.specs.Amounts.{IsAmount}
use Rattle.pb_period.specs.Facts.{read_on}
use Rattle.pb_period.proofs.AmountLemmas.{none_is_amount, of_more_facts}
use Rattle.pb_period.proofs.DayLemmas.{days_until, gap_past, read_end, read_more, read_none, read_start, served_within, step}
use Rattle.pb_period.proofs.measured.read_total.Goals as goal
use Rattle.pb_periods.specs.Windows.{days_between}

pub loop-day-init : goal.loop-day-init
loop-day-init c =
    let days = c.args.days in
    let service = c.args.service in
    let read = read_on (live_facts c.args.facts.now) c.args.stream.now in
    let inside = served_within service days.first days.last in
    let first_fits : FitsSigned w32 days.first = omega (arith, ints, c.requires.begins.0, c.requires.begins.1) in
    let last_fits : FitsSigned w32 days.last = omega (arith, ints, c.requires.ends.0, c.requires.ends.1) in
    let from_fits : FitsSigned w32 c.first_served-first.result = search rules in
    let to_fits : FitsSigned w32 c.last_served-last.result = search rules in
    let from_is = simp to_z-of_z at c.first_served-first.ensures in
    let to_is = simp to_z-of_z at c.last_served-last.ensures in
    let below : c.last_served-last.result ≤ℤ days.last = omega (arith, ints, to_is, inside.1) in
    let after_fits : FitsSigned w32 (c.last_served-last.result +ℤ pos 1) = omega (arith, ints, to_fits, below, c.requires.ends.1) in
    let start = to_z w32 (of_z w32 c.first_served-first.result) in
    let end = to_z w32 (of_z w32 (to_z w32 (of_z w32 c.last_served-last.result) +ℤ pos 1)) in
    let start_is : start ≡ first_served service days.first = simp to_z-of_z from_is in
    let end_is : end ≡ last_served service days.last +ℤ pos 1 = simp to_z-of_z (ap (λ (d : ℤ). d +ℤ pos 1) to_is) in
    let none = gap_past start start (omega (arith, ints)) in
    record {
      from = omega (arith, ints);
      few = omega (arith, none);
      so_far = ap₂ (λ (a b : ℤ). read_more c.zero-total.result read (days_until a b)) start_is end_is
          ∙ ap (λ (total : Amount). read_more total read (days_between (first_served service days.first) (last_served service days.last))) c.zero-total.ensures
          ∙ read_start read (days_between (first_served service days.first) (last_served service days.last));
      small = of_more_facts 0 (int_gap start start) c.zero-total.result (omega arith) (subst (IsAmount 0) (sym c.zero-total.ensures) none_is_amount);
    }

pub returns-in_err-read_on-clause-value : goal.returns-in_err-read_on-clause-value
returns-in_err-read_on-clause-value c =
    let day = to_z w32 c.loop-day.day-bits in
    let end = to_z w32 (of_z w32 (to_z w32 (of_z w32 c.last_served-last.result) +ℤ pos 1)) in
    let lt : day <ℤ end = omega (arith, ints, c.loop-day-test.true) in
    c.from_residual.ensures
    ∙ sym (read_none c.loop-day.total (read_on (live_facts c.args.facts.now) c.args.stream.now) day end lt c.in_err-read_on.ensures.value)
    ∙ c.loop-day.invariant.so_far

pub loop-day-preserved : goal.loop-day-preserved
loop-day-preserved c =
    let days = c.args.days in
    let inside = served_within c.args.service days.first days.last in
    let first_fits : FitsSigned w32 days.first = omega (arith, ints, c.requires.begins.0, c.requires.begins.1) in
    let last_fits : FitsSigned w32 days.last = omega (arith, ints, c.requires.ends.0, c.requires.ends.1) in
    let from_fits : FitsSigned w32 c.first_served-first.result = search rules in
    let to_fits : FitsSigned w32 c.last_served-last.result = search rules in
    let from_is = simp to_z-of_z at c.first_served-first.ensures in
    let to_is = simp to_z-of_z at c.last_served-last.ensures in
    let below : c.last_served-last.result ≤ℤ days.last = omega (arith, ints, to_is, inside.1) in
    let above : days.first ≤ℤ c.first_served-first.result = omega (arith, ints, from_is, inside.0) in
    let after_fits : FitsSigned w32 (c.last_served-last.result +ℤ pos 1) = omega (arith, ints, to_fits, below, c.requires.ends.1) in
    let day = to_z w32 c.loop-day.day-bits in
    let start = to_z w32 (of_z w32 c.first_served-first.result) in
    let end = to_z w32 (of_z w32 (to_z w32 (of_z w32 c.last_served-last.result) +ℤ pos 1)) in
    let next = to_z w32 (of_z w32 (day +ℤ pos 1)) in
    let start_is : start ≡ c.first_served-first.result = simp to_z-of_z in
    let end_is : end ≡ c.last_served-last.result +ℤ pos 1 = simp to_z-of_z in
    let lt : day <ℤ end = omega (arith, ints, c.loop-day-test.true) in
    let fits : FitsSigned w32 (day +ℤ pos 1) = omega (arith, ints, lt, end_is, start_is, above, below, c.loop-day.invariant.from, c.requires.begins.0, c.requires.ends.1) in
    let next_is : next ≡ day +ℤ pos 1 = simp to_z-of_z in
    let short : (end -ℤ start) ≤ℤ pos most_days_of_period = omega (arith, ints, end_is, start_is, above, below, c.requires.few) in
    let kept = step c.loop-day.total c.in_ok-read_on.field-0 (read_on (live_facts c.args.facts.now) c.args.stream.now) start day next end most_days_of_period _
    c.loop-day.invariant.from lt next_is short c.in_ok-read_on.ensures.value c.loop-day.invariant.small c.in_ok-read_on.ensures.within c.loop-day.invariant.so_far in
    record { from = kept.0; few = kept.1; so_far = rw c.plus-total.ensures kept.2; small = rw c.plus-total.ensures kept.3 }

pub returns-clause-value : goal.returns-clause-value
returns-clause-value c =
    let day = to_z w32 c.loop-day.day-bits in
    let end = to_z w32 (of_z w32 (to_z w32 (of_z w32 c.last_served-last.result) +ℤ pos 1)) in
    let past : end ≤ℤ day = omega (arith, ints, c.loop-day-test.false) in
    sym (read_end c.loop-day.total (read_on (live_facts c.args.facts.now) c.args.stream.now) day end past) ∙ c.loop-day.invariant.so_far
