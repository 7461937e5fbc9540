use Rattle.std.specs.Prelude.{filter_map, slice_get}
use Rattle.std.proofs.Common.{◌≤◌, ◌<◌, List, length, arith}
use Rattle.pb_limits.specs.Limits.{most_periods_of_window}
use Rattle.pb_periods.specs.declared.period.Period.{Period}
use Rattle.pb_periods.proofs.WindowPlantLemmas.{as_many, over_fits, over_great, over_range}
use Rattle.pb_periods.proofs.windows.judge_places.Goals.{in-Ok, in-Err-TooGreat, in-Err-NoMemory}
use Rattle.pb_periods.proofs.windows.judge_places.Goals as goal

pub returns-then-places-gt-MOST_PERIODS_OF_WINDOW : goal.returns-then-places-gt-MOST_PERIODS_OF_WINDOW
returns-then-places-gt-MOST_PERIODS_OF_WINDOW c =
    let these : List Period = filter_map (slice_get c.args.periods.now) c.args.places.now in
    over_range c.args.site.now these (omega (arith, as_many c.args.periods.now c.args.places.now c.requires, c.if-places-gt-MOST_PERIODS_OF_WINDOW.true))

pub returns : goal.returns
returns c =
    let site = c.args.site.now in
    let these : List Period = filter_map (slice_get c.args.periods.now) c.args.places.now in
    let few : length these ≤ most_periods_of_window = omega (arith, as_many c.args.periods.now c.args.places.now c.requires, c.if-places-gt-MOST_PERIODS_OF_WINDOW.false) in
    elim c.match-window_over.branch [
      | in-Ok w ↦ rw w.result-is (over_fits site these w.in-Ok.field-0 few (w.in-Ok.ensures.answer (λ is. cc is)))
      | in-Err-TooGreat w ↦ rw w.result-is (over_great site these few ((rw w.in-Err-TooGreat.field-0-is at w.in-Err-TooGreat.ensures.answer) (λ is. cc is)))
      | in-Err-NoMemory w ↦ rw w.result-is tt
    ]
