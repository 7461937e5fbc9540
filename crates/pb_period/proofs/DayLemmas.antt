-- Days in a row, and the total of what a meter read on them.
use Rattle.std.specs.Prelude.{is_some, if◌then◌else◌, filter_map}
use Rattle.std.specs.Int.{int_gap}
use Rattle.std.specs.List.{list_all}
use Rattle.std.proofs.Common.{◌≡◌, ◌∙◌, ◌+◌, ◌≤◌, ◌≤ℤ◌, ◌<ℤ◌, ◌+ℤ◌, ◌-ℤ◌, ℕ, suc, ℤ, pos, negsuc, List, [], ◌∷◌, Bool, Option, Some, None, refl, sym, ap, arith}
use Rattle.std.proofs.lemmas.Int.{int_max_is, int_min_is, ints}
use Rattle.pb_site.specs.declared.declared.Service.{Service}
use Rattle.pb_site.specs.Service.{first_served, last_served}
use Rattle.pb_period.specs.declared.amount.Amount.{Amount}
use Rattle.pb_period.specs.Amounts.{IsAmount, IsSpan, sum_of_two}
use Rattle.pb_period.specs.Days.{day_count}
use Rattle.pb_period.specs.Facts.{no_amount, total_of}
use Rattle.pb_period.specs.Measurement.{read_total}
use Rattle.pb_period.proofs.AmountLemmas.{more_none, none_more, of_more_facts, sum_assoc, sum_is_amount}
use Rattle.pb_periods.specs.Windows.{days_in_row}

-- how far a day is after another one
pub gap_is : (a b : ℤ) → a ≤ℤ b → pos (int_gap a b) ≡ b -ℤ a
gap_is (pos a) (pos b) le = omega (arith, ints, le)
gap_is (pos a) (negsuc b) le = absurd (omega (arith, ints, le))
gap_is (negsuc a) (pos b) le = omega (arith, ints, le)
gap_is (negsuc a) (negsuc b) le = omega (arith, ints, le)

gap_next : (a b : ℤ) → a <ℤ b → int_gap a b ≡ suc (int_gap (a +ℤ pos 1) b)
gap_next a b lt =
    let here = gap_is a b (omega (arith, ints, lt)) in
    let next = gap_is (a +ℤ pos 1) b (omega (arith, ints, lt)) in
    omega (arith, ints, here, next)

pub gap_past : (a b : ℤ) → b ≤ℤ a → int_gap a b ≡ 0
gap_past (pos a) (pos b) le = omega (arith, ints, le)
gap_past (pos a) (negsuc b) le = omega (arith, ints, le)
gap_past (negsuc a) (pos b) le = absurd (omega (arith, ints, le))
gap_past (negsuc a) (negsuc b) le = omega (arith, ints, le)

-- the days from one day up to another
abbrev pub days_until : ℤ → ℤ → List ℤ
days_until day end = days_in_row day (int_gap day end)

days_next : (day end : ℤ) → day <ℤ end → days_until day end ≡ day ∷ days_until (day +ℤ pos 1) end
days_next day end lt = ap (days_in_row day) (gap_next day end lt)

days_past : (day end : ℤ) → end ≤ℤ day → days_until day end ≡ []
days_past day end le = ap (days_in_row day) (gap_past day end le)

-- a total, with what a meter read on some more days, if it was read on each of them
abbrev pub read_more : Amount → (ℤ → Option Amount) → List ℤ → Option Amount
read_more total read days = if list_all (λ day. is_some (read day)) days then Some (sum_of_two total (total_of (filter_map read days))) else None

some_if : (b : Bool) (x y : Amount) → x ≡ y → (if b then Some x else None) ≡ (if b then Some y else None)
some_if b x y e = ap (λ (z : Amount). if b then Some z else None) e

-- from nothing
pub read_start : (read : ℤ → Option Amount) (days : List ℤ) → read_more no_amount read days ≡ read_total read days
read_start read days = some_if (list_all (λ day. is_some (read day)) days) _ _ (none_more (total_of (filter_map read days)))

-- one more day that was read
pub read_next : (total more : Amount) (read : ℤ → Option Amount) (day end : ℤ) → day <ℤ end → Some more ≡ read day
    → read_more total read (days_until day end) ≡ read_more (sum_of_two total more) read (days_until (day +ℤ pos 1) end)
read_next total more read day end lt is =
    let rest = days_until (day +ℤ pos 1) end in
    ap (read_more total read) (days_next day end lt)
    ∙ rw (← is) (some_if (list_all (λ day. is_some (read day)) rest) _ _ (sym (sum_assoc total more (total_of (filter_map read rest)))))

-- a day that wasn't read
pub read_none : (total : Amount) (read : ℤ → Option Amount) (day end : ℤ) → day <ℤ end → None ≡ read day → read_more total read (days_until day end) ≡ None
read_none total read day end lt is = ap (read_more total read) (days_next day end lt) ∙ rw (← is) refl

-- no more days
pub read_end : (total : Amount) (read : ℤ → Option Amount) (day end : ℤ) → end ≤ℤ day → read_more total read (days_until day end) ≡ Some total
read_end total read day end le = ap (read_more total read) (days_past day end le) ∙ ap (λ (z : Amount). Some z) (more_none total)

-- what a loop over days keeps, a day later
pub step : (total more : Amount) (read : ℤ → Option Amount) (first day next end : ℤ) (most : ℕ) (whole : Option Amount) → first ≤ℤ day → day <ℤ end → next ≡ day +ℤ pos 1
    → (end -ℤ first) ≤ℤ pos most → Some more ≡ read day → IsAmount (int_gap first day) total → IsAmount 1 more → read_more total read (days_until day end) ≡ whole
    → (first ≤ℤ next) × (int_gap first next ≤ most) × (read_more (sum_of_two total more) read (days_until next end) ≡ whole) × IsAmount (int_gap first next) (sum_of_two total more)
step total more read first day next end most whole from lt is_next short is small small_more so_far =
    let later = gap_is first day from in
    let much_later = gap_is first next (omega (arith, ints, from, is_next)) in
    let counted : int_gap first day + 1 ≤ int_gap first next = omega (arith, ints, later, much_later, is_next) in (
      omega (arith, ints, from, is_next),
      omega (arith, ints, lt, is_next, much_later, short),
      ap (λ (d : ℤ). read_more (sum_of_two total more) read (days_until d end)) is_next ∙ sym (read_next total more read day end lt is) ∙ so_far,
      of_more_facts (int_gap first day + 1) (int_gap first next) (sum_of_two total more) counted (sum_is_amount (int_gap first day) 1 total more small small_more),
    )

-- the days on which something is in service are some of the days
pub served_within : (service : Option Service) (first last : ℤ) → (first ≤ℤ first_served service first) × (last_served service last ≤ℤ last)
served_within None first last = (omega (arith, ints), omega (arith, ints))
served_within (Some service) first last =
    let greatest = int_max_is first service.since in
    let least = int_min_is last service.until in
    (omega (arith, ints, greatest), omega (arith, ints, least))

-- ---- the days of a transfer

-- some of the days from `first` to `last`
pub span : (first last from to : ℤ) → first ≤ℤ from → from ≤ℤ to → to ≤ℤ last → (last -ℤ first) <ℤ pos 366
    → IsSpan (day_count first last) (int_gap first from) (day_count first to)
span first last from to begins order ends short =
    let days = gap_is first (last +ℤ pos 1) (omega (arith, ints, begins, order, ends)) in
    let before = gap_is first from begins in
    let until = gap_is first (to +ℤ pos 1) (omega (arith, ints, begins, order)) in
    record {
      some = omega (arith, ints, days, begins, order, ends);
      few = omega (arith, ints, days, short);
      order = omega (arith, ints, before, until, order);
      within = omega (arith, ints, until, days, ends);
    }
