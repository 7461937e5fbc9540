-- Statement. How much there is of everything, if there is nothing.
use Rattle.pb_shown.specs.declared.numbers.PlantbalCounts.{PlantbalCounts}

-- there is none of anything
abbrev pub no_counts : PlantbalCounts
no_counts = record { version = 0; nodes = 0; streams = 0; periods = 0; facts = 0; assays = 0; edits = 0 }
