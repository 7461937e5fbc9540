-- Statement. Numbers of more than 64 bits, in two words.
use Rattle.std.specs.Prelude.{ℤ, pos, ◌+ℤ◌, ◌*ℤ◌, ◌^◌}
use Rattle.pb_arrays.specs.declared.numbers.PlantbalWide.{PlantbalWide}

-- the number that two words say
abbrev pub wide_value : PlantbalWide → ℤ
wide_value wide = wide.high *ℤ pos (2 ^ 64) +ℤ pos wide.low
