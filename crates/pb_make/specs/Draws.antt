-- Statement. Numbers that look as if they were drawn by lot, the same in each run: a linear congruential generator.
use Rattle.std.specs.Prelude.{ℕ, zero, suc, ◌+◌, ◌*◌, ◌^◌, ◌/◌, ◌%◌}

-- the state after the next draw: the linear congruential generator modulo 2^64 with the constants of MMIX (Knuth)
abbrev pub next_state : ℕ → ℕ
next_state state = (state * 6364136223846793005 + 1442695040888963407) % 2 ^ 64

-- the state after this many draws; it begins at a number
abbrev pub state_after_draws : ℕ → ℕ → ℕ
state_after_draws number zero = number
state_after_draws number (suc draws) = next_state (state_after_draws number draws)

-- the draw at a place, counted from 0: the upper 31 bits of the state after it
abbrev pub draw_at : ℕ → ℕ → ℕ
draw_at number place = state_after_draws number (suc place) / 2 ^ 33
