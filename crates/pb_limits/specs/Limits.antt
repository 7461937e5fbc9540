-- Statement. The limits of a plant, of its book and of a run, each a single number.
use Rattle.std.specs.Prelude.{ℕ, ◌^◌}

-- the most units and tanks that a plant may have
abbrev pub most_units_and_tanks : ℕ
most_units_and_tanks = 1000

-- the most nodes that a process graph may have: units, tanks and the environment
abbrev pub most_nodes : ℕ
most_nodes = 1001

-- the most streams that a process graph may have: declared streams and inventories of tanks
abbrev pub most_streams : ℕ
most_streams = 4000

-- the most streams that a process graph of a session of version 1 may have
abbrev pub most_streams_of_version_1 : ℕ
most_streams_of_version_1 = 2000

-- the most streams that a made session may have
abbrev pub most_made_streams : ℕ
most_made_streams = 2000

-- the most boundaries that a plant may have, not counting the environment
abbrev pub most_boundaries : ℕ
most_boundaries = 100

-- the most points that the strapping table of a tank may have
abbrev pub most_points : ℕ
most_points = 2000

-- the most periods that a book may have
abbrev pub most_periods : ℕ
most_periods = 1000

-- the most periods that a window may have
abbrev pub most_periods_of_window : ℕ
most_periods_of_window = 31

-- the most facts (readings, transfers and dips) that a book may have
abbrev pub most_facts : ℕ
most_facts = 200000

-- the most days that a period may have
abbrev pub most_days_of_period : ℕ
most_days_of_period = 100

-- the most days that a transfer may last
abbrev pub most_days_of_transfer : ℕ
most_days_of_transfer = 366

-- the most bytes that the input of a run may have
abbrev pub most_bytes : ℕ
most_bytes = 67108864

-- the highest level of a tank, in millimetres
abbrev pub most_level : ℕ
most_level = 100000

-- the greatest volume of a strapping table, in millilitres
abbrev pub most_volume : ℕ
most_volume = 10 ^ 12

-- the greatest density, in grams per cubic metre
abbrev pub most_density : ℕ
most_density = 20000000

-- the greatest amount of a row, in grams, either way
abbrev pub most_grams : ℕ
most_grams = 10 ^ 13

-- the greatest variance of a row, in squared grams
abbrev pub most_row_variance : ℕ
most_row_variance = 10 ^ 19

-- the greatest grade of a component, in parts per million: the stream is the component alone
abbrev pub most_grade : ℕ
most_grade = 10 ^ 6

-- the greatest variance of a grade, in squares of parts per million
abbrev pub most_grade_variance : ℕ
most_grade_variance = 10 ^ 8

-- the greatest critical value, in thousandths
abbrev pub most_critical : ℕ
most_critical = 10 ^ 12

-- the most degrees of freedom that a critical value can have
abbrev pub most_freedom : ℕ
most_freedom = 2000

-- the greatest measured value of a process graph, in grams, either way
abbrev pub most_value : ℕ
most_value = 10 ^ 15

-- the greatest variance of a process graph, in squared grams
abbrev pub most_variance : ℕ
most_variance = 10 ^ 22

-- the widest gap that may be asked of a study, in thousandths of a standard deviation
abbrev pub most_gap : ℕ
most_gap = 1000000

-- the most sweeps that may be allowed to a study
abbrev pub most_sweeps : ℕ
most_sweeps = 100000

-- the most rounds of elimination that may be asked of a study
abbrev pub most_rounds : ℕ
most_rounds = 20

-- the gap of a study if none is asked for, in thousandths of a standard deviation
abbrev pub default_gap : ℕ
default_gap = 10

-- the sweeps that are allowed to a study if no number is given
abbrev pub default_sweeps : ℕ
default_sweeps = 5000

-- the number that a session is made from if none is given
abbrev pub default_number : ℕ
default_number = 1

-- the streams of a made session if no number is given
abbrev pub default_streams : ℕ
default_streams = 300

-- the greatest price of a node, in units of 2^-56, either way
abbrev pub most_price : ℕ
most_price = 2 ^ 120

-- the greatest of the numbers that no limit of a plant bounds: a bound of a flow, a net flow with its variance, an end of a statistic
abbrev pub most_wide : ℕ
most_wide = 2 ^ 126
