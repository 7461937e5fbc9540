use Rattle.std.proofs.Common.{◌≡◌, ◌∙◌, ℕ, Some, FitsSigned, ap, arith, unsigned_abs}
use mir.Syntax.{w16, w32, w64}
use Rattle.std.proofs.lemmas.Int.{ints, to_z-of_z}
use Rattle.jiff_core.specs.Date.{epoch_day}
use Rattle.pb_rows.specs.Date.{IsDay, date_text, day_of}
use Rattle.pb_rows.proofs.TextLaws.{date_texts}
use Rattle.pb_form.proofs.DayLemmas.{text_date}
use Rattle.pb_form.proofs.DayTextLemmas.{day_reads, no_text}
use Rattle.pb_form.proofs.day.day_text.Goals as goal
use Rattle.pb_form.proofs.day.day_text.Goals.{then-day-lt-FIRST_DAY-via-then-day-lt-FIRST_DAY, then-day-lt-FIRST_DAY-via-else-day-lt-FIRST_DAY+then-day-gt-LAST_DAY}

pub returns-then-day-lt-FIRST_DAY : goal.returns-then-day-lt-FIRST_DAY
returns-then-day-lt-FIRST_DAY c =
    no_text date_texts c.args.day (λ (range : IsDay c.args.day). elim c.then-day-lt-FIRST_DAY.branch [
      | then-day-lt-FIRST_DAY-via-then-day-lt-FIRST_DAY w ↦ omega (arith, ints, range.0, range.1)
      | then-day-lt-FIRST_DAY-via-else-day-lt-FIRST_DAY+then-day-gt-LAST_DAY w ↦ omega (arith, ints, range.0, range.1)
    ])

pub returns-in-Ok : goal.returns-in-Ok
returns-in-Ok c =
    let range : IsDay c.args.day = (omega (arith, ints), omega (arith, ints)) in
    let day : FitsSigned w32 c.args.day = c.ranges.day in
    let wide : FitsSigned w64 c.args.day = omega (arith, ints, range.0, range.1) in
    let from_is : c.from.result ≡ c.args.day = simp to_z-of_z at c.from.ensures in
    let is : epoch_day c.in-Ok.date ≡ c.args.day = simp to_z-of_z at (rw from_is at c.in-Ok.ensures.value) in
    let text = text_date date_texts c.in-Ok.date c.args.day range is in
    let year : FitsSigned w16 c.in-Ok.date.year = omega (arith, ints, text.year, text.whole) in
    let abs : c.unsigned_abs.result ≡ unsigned_abs c.in-Ok.date.year = simp to_z-of_z at c.unsigned_abs.ensures.value in
    let writes : day_of c.text_of.result ≡ Some c.args.day =
    ap day_of c.text_of.ensures.value ∙ ap (λ (y : ℕ). day_of (date_text y c.in-Ok.date.month c.in-Ok.date.day)) abs ∙ text.text in
    (date_texts.one c.text_of.result _ c.args.day writes (day_reads date_texts c.args.day range), c.text_of.ensures.text)
