-- Statement. Each constant of the code equals the number in its definition.
use Rattle.std.specs.Prelude.{◌≡◌, pos}
use Rattle.pb_limits.specs.Limits.{most_units_and_tanks, most_nodes, most_streams, most_streams_of_version_1, most_made_streams, most_boundaries, most_points, most_periods, most_periods_of_window, most_facts, most_days_of_period, most_days_of_transfer, most_bytes, most_level, most_volume, most_density, most_grams, most_row_variance, most_grade, most_grade_variance, most_critical, most_freedom, most_value, most_variance, most_gap, most_sweeps, most_rounds, default_gap, default_sweeps, default_number, default_streams}
use Rattle.pb_limits.specs.declared.TheConstants.{MOST_UNITS_AND_TANKS, MOST_NODES, MOST_STREAMS, MOST_STREAMS_OF_VERSION_1, MOST_MADE_STREAMS, MOST_BOUNDARIES, MOST_POINTS, MOST_PERIODS, MOST_PERIODS_OF_WINDOW, MOST_FACTS, MOST_DAYS_OF_PERIOD, MOST_DAYS_OF_TRANSFER, MOST_BYTES, MOST_LEVEL, MOST_VOLUME, MOST_DENSITY, MOST_GRAMS, MOST_ROW_VARIANCE, MOST_GRADE, MOST_GRADE_VARIANCE, MOST_CRITICAL, MOST_FREEDOM, MOST_VALUE, MOST_VARIANCE, MOST_GAP, MOST_SWEEPS, MOST_ROUNDS, DEFAULT_GAP, DEFAULT_SWEEPS, DEFAULT_NUMBER, DEFAULT_STREAMS}

-- how many there may be of each thing
pub record AreCounts : Type 0 where
  pub units_and_tanks : MOST_UNITS_AND_TANKS ≡ most_units_and_tanks
  pub nodes : MOST_NODES ≡ most_nodes
  pub streams : MOST_STREAMS ≡ most_streams
  pub streams_of_version_1 : MOST_STREAMS_OF_VERSION_1 ≡ most_streams_of_version_1
  pub made_streams : MOST_MADE_STREAMS ≡ most_made_streams
  pub boundaries : MOST_BOUNDARIES ≡ most_boundaries
  pub points : MOST_POINTS ≡ most_points
  pub periods : MOST_PERIODS ≡ most_periods
  pub periods_of_window : MOST_PERIODS_OF_WINDOW ≡ most_periods_of_window
  pub facts : MOST_FACTS ≡ most_facts
  pub days_of_period : MOST_DAYS_OF_PERIOD ≡ pos most_days_of_period
  pub days_of_transfer : MOST_DAYS_OF_TRANSFER ≡ pos most_days_of_transfer
  pub bytes : MOST_BYTES ≡ most_bytes

-- how large the numbers of rows may be
pub record AreRanges : Type 0 where
  pub level : MOST_LEVEL ≡ pos most_level
  pub volume : MOST_VOLUME ≡ pos most_volume
  pub density : MOST_DENSITY ≡ pos most_density
  pub grams : MOST_GRAMS ≡ pos most_grams
  pub variance : MOST_ROW_VARIANCE ≡ pos most_row_variance
  pub grade : MOST_GRADE ≡ pos most_grade
  pub grade_variance : MOST_GRADE_VARIANCE ≡ pos most_grade_variance
  pub critical : MOST_CRITICAL ≡ pos most_critical
  pub freedom : MOST_FREEDOM ≡ most_freedom

-- how large the numbers of a graph may be, and what may be asked of its study
pub record AreGraphRanges : Type 0 where
  pub value : MOST_VALUE ≡ most_value
  pub variance : MOST_VARIANCE ≡ pos most_variance
  pub gap : MOST_GAP ≡ most_gap
  pub sweeps : MOST_SWEEPS ≡ most_sweeps
  pub rounds : MOST_ROUNDS ≡ most_rounds

-- what counts if an option isn't given
pub record AreDefaults : Type 0 where
  pub gap : DEFAULT_GAP ≡ default_gap
  pub sweeps : DEFAULT_SWEEPS ≡ default_sweeps
  pub number : DEFAULT_NUMBER ≡ default_number
  pub streams : DEFAULT_STREAMS ≡ default_streams
