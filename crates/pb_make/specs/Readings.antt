-- Statement. The readings of a made session: each metered stream has one a day, its true flow with an error drawn by lot.
use Rattle.std.specs.Prelude.{ℕ, ◌+◌, ◌*◌, ◌-◌, ◌/◌, ◌%◌, ◌==◌, Bool, ℤ, pos, ◌+ℤ◌, ◌-ℤ◌, ◌*ℤ◌, List, slice_index_or}
use Rattle.std.specs.Int.{int_div_euclid}
use Rattle.pb_make.specs.declared.plant.MadeStream.{MadeStream}

-- every seventh stream is plain, and the others are metered
abbrev pub is_plain_stream : ℕ → Bool
is_plain_stream i = i % 7 == 0

-- the number of the metered stream at a place, counted from 0
abbrev pub metered_at : ℕ → ℕ
metered_at place = place + place / 6 + 1

-- the number of days
abbrev pub made_days : ℕ
made_days = 30

-- the number of readings, of all streams but each seventh: those of the first metered stream come first, day by day
abbrev pub readings_of : ℕ → ℕ
readings_of streams = made_days * (streams - streams / 7)

-- the number of the stream whose reading is at a place
abbrev pub stream_read : ℕ → ℕ
stream_read place = metered_at (place / made_days)

-- the day of the month of that reading
abbrev pub day_read : ℕ → ℕ
day_read place = place % made_days + 1

-- the true flow of the stream with this number, counted from 1
abbrev pub truth_at : List MadeStream → ℕ → ℤ
truth_at streams i = (slice_index_or streams (i - 1) (record { from = 0; to = 0; truth = pos 0 })).truth

-- the error of a draw, in hundred-thousandths of the true flow: at most one percent
abbrev pub error_of_draw : ℕ → ℤ
error_of_draw draw = pos (draw % 2001) -ℤ pos 1000

-- what a meter with this error shows: the true flow and its error, rounded down, in grams
abbrev pub shown_grams : ℤ → ℤ → ℤ
shown_grams truth error = truth +ℤ int_div_euclid (truth *ℤ error) (pos 100000)

-- the variance of a meter, in squared grams: its standard deviation is half a percent of the true flow, rounded down, in grams
abbrev pub meter_variance : ℤ → ℤ
meter_variance truth = let deviation = int_div_euclid truth (pos 200) in deviation *ℤ deviation
