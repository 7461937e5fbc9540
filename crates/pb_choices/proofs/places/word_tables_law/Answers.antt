use Rattle.std.proofs.Common.{refl}
use Rattle.pb_form.specs.Words.{measured_words, period_words, state_words}
use Rattle.pb_choices.proofs.PlaceLemmas.{class_table, shape_table, stop_table, truth_table, verdict_table}
use Rattle.pb_choices.proofs.places.word_tables_law.Goals as goal

pub returns-clause-classes : goal.returns-clause-classes
returns-clause-classes c = class_table

pub returns-clause-shapes : goal.returns-clause-shapes
returns-clause-shapes c = shape_table

pub returns-clause-measured : goal.returns-clause-measured
returns-clause-measured c = truth_table measured_words refl refl refl

pub returns-clause-states : goal.returns-clause-states
returns-clause-states c = truth_table state_words refl refl refl

pub returns-clause-periods : goal.returns-clause-periods
returns-clause-periods c = truth_table period_words refl refl refl

pub returns-clause-verdicts : goal.returns-clause-verdicts
returns-clause-verdicts c = verdict_table

pub returns-clause-stops : goal.returns-clause-stops
returns-clause-stops c = stop_table
