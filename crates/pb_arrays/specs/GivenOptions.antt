-- Statement. What is asked of a study.
use Rattle.std.specs.Prelude.{◌==◌, ◌||◌, not}
use Rattle.pb_study.specs.declared.results.Options.{Options}
use Rattle.pb_arrays.specs.declared.asked.PlantbalStudyOptions.{PlantbalStudyOptions}

-- the options of a study; with any round of elimination, tests are made
abbrev pub given_options : PlantbalStudyOptions → Options
given_options given = record {
  gap = given.gap;
  sweeps = given.sweeps;
  tests = given.tests || not (given.eliminate == 0);
  eliminate = given.eliminate;
}
