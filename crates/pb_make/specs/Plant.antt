-- Statement. The plant of a made session: a line of units that streams run through, and side streams drawn by lot. The true
-- flows of its streams balance at each unit.
use Rattle.std.specs.Prelude.{ℕ, ◌+◌, ◌*◌, ◌-◌, ◌/◌, ◌%◌, ◌==◌, ◌&&◌, ◌||◌, not, nat_le, nat_lt, Bool, ℤ, pos, neg_ℤ, ◌+ℤ◌, List, ◌++◌, map, if◌then◌else◌}
use Rattle.std.specs.List.{range_with_len}
use Rattle.pb_fixed.specs.Sums.{sum_over}
use Rattle.pb_make.specs.declared.plant.MadeStream.{MadeStream}
use Rattle.pb_make.specs.Draws.{draw_at}

-- the least number of streams of a made session
abbrev pub least_streams : ℕ
least_streams = 3

-- the number of units of a plant of this many streams; they are numbered from 1, and 0 stands for the environment
abbrev pub units_of : ℕ → ℕ
units_of streams = streams / 3 + 1

-- the number of side streams: the line has a stream before each unit and one after the last
abbrev pub sides_of : ℕ → ℕ
sides_of streams = streams - (units_of streams + 1)

-- what the line carries before a side stream leaves or joins it, in grams per day
abbrev pub line_grams : ℤ
line_grams = pos 50000000000

-- The side stream at a place, counted from 0, which takes the next three draws: the node where it begins, the node that it leads to,
-- and its true flow in grams per day. One that would lead back to the node where it begins leads out of the plant instead.
abbrev pub side_at : ℕ → ℕ → ℕ → MadeStream
side_at number units place =
    let begins = draw_at number (3 * place) % units + 1 in
    let ends = draw_at number (3 * place + 1) % (units + 1) in
    let grams = 1000000 + draw_at number (3 * place + 2) % 9000000 in
    record { from = begins; to = if ends == begins then 0 else ends; truth = pos grams }

-- a side stream passes by a stream of the line, which carries that much less: it leads forward, or out of the plant
abbrev pub passes_by : MadeStream → ℕ → Bool
passes_by side i = nat_lt side.from i && ((side.to == 0) || nat_le i side.to)

-- a side stream leads back over a stream of the line, which carries that much more
abbrev pub leads_back : MadeStream → ℕ → Bool
leads_back side i = not (side.to == 0) && nat_lt side.to i && nat_le i side.from

-- what a side stream adds to the true flow of the stream of the line with this number, counted from 1
abbrev pub added_to : ℕ → MadeStream → ℤ
added_to i side = if passes_by side i then neg_ℤ side.truth else if leads_back side i then side.truth else pos 0

-- The stream of the line with this number: from the unit before to the unit of its number, and the last one leads out of the plant,
-- with its true flow in grams per day.
abbrev pub line_stream : ℕ → List MadeStream → ℕ → MadeStream
line_stream units sides i = record {
  from = i - 1;
  to = if i == units + 1 then 0 else i;
  truth = line_grams +ℤ sum_over (added_to i) sides;
}

-- The streams: those of the line come first, in order, followed by the side streams.
abbrev pub made_streams : ℕ → ℕ → List MadeStream
made_streams number streams =
    let units = units_of streams in
    let sides = map (side_at number units) (range_with_len 0 (sides_of streams)) in
    map (line_stream units sides) (range_with_len 1 (units + 1)) ++ sides
