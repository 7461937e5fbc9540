use Rattle.std.proofs.Common.{◌≡◌, ℕ, ◌+◌, ◌*◌, ◌++◌}
use Rattle.std.specs.Prelude.{map}
use Rattle.std.specs.List.{range_with_len}
use Rattle.pb_rows.specs.Written.{text_of_rows}
use Rattle.pb_make.specs.Draws.{state_after_draws}
use Rattle.pb_make.specs.Rows.{reading_row_at}
use Rattle.pb_make.proofs.sessions.write_readings.Given as goal

-- the rows so far, and the draws that they took
abbrev pub invariant-loop-place : goal.invariant-loop-place
invariant-loop-place l = record {
  state : (number sides : ℕ) → l.initial.draws.state ≡ state_after_draws number (3 * sides) → l.draws.state ≡ state_after_draws number (3 * sides + l.place);
  so_far : (number sides : ℕ) → l.initial.draws.state ≡ state_after_draws number (3 * sides)
      → l.text.items ≡ l.initial.text.items ++ text_of_rows (map (reading_row_at number sides l.plant) (range_with_len 0 l.place));
}
