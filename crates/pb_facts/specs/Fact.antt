-- Statement. One fact: its id, its stream or tank and its days, and what can be wrong with it by itself.
use Rattle.std.specs.Prelude.{◌-ℤ◌, ◌&&◌, ℕ, ℤ, pos, int_le, int_lt, List, Bool, false}
use Rattle.std.specs.Ordering.{int_eq}
use Rattle.pb_limits.specs.Limits.{most_days_of_transfer}
use Rattle.pb_limits.specs.Ranges.{IsDensity, IsGrams, IsLevel, IsVariance}
use Rattle.pb_rows.specs.Date.{IsDay}
use Rattle.pb_rows.specs.Name.{same_name}
use Rattle.pb_facts.specs.declared.fact.Fact.{Fact}
use Rattle.pb_facts.specs.declared.fact.Fact.TheVariants.{Reading, Transfer, Dip}

-- the fact's id
abbrev pub id_of : Fact → List ℕ
id_of (Reading id stream day grams variance) = id
id_of (Transfer id stream first last grams variance) = id
id_of (Dip id tank day mm density variance) = id

-- the stream or tank that the fact names
abbrev pub named_by : Fact → List ℕ
named_by (Reading id stream day grams variance) = stream
named_by (Transfer id stream first last grams variance) = stream
named_by (Dip id tank day mm density variance) = tank

-- a reading of this stream on this day
abbrev pub is_reading_on : List ℕ → ℤ → Fact → Bool
is_reading_on wanted on (Reading _ stream day _ _) = same_name stream wanted && int_eq day on
is_reading_on wanted on _ = false

-- a dip of this tank at the end of this day
abbrev pub is_dip_on : List ℕ → ℤ → Fact → Bool
is_dip_on wanted on (Dip _ tank day _ _ _) = same_name tank wanted && int_eq day on
is_dip_on wanted on _ = false

-- a transfer of this stream that has a day from one to another
abbrev pub is_transfer_within : List ℕ → ℤ → ℤ → Fact → Bool
is_transfer_within wanted from to (Transfer id stream first last grams variance) =
    same_name stream wanted && int_le first to && int_le from last
is_transfer_within wanted from to _ = false

-- two readings of one stream and day, or two dips of one tank and day
abbrev pub is_on_day_of : Fact → Fact → Bool
is_on_day_of (Reading id stream day grams variance) other = is_reading_on stream day other
is_on_day_of (Dip id tank day mm density variance) other = is_dip_on tank day other
is_on_day_of _ other = false

-- a transfer whose first day comes after its last
abbrev pub is_fact_out_of_order : Fact → Bool
is_fact_out_of_order (Transfer id stream first last grams variance) = int_lt last first
is_fact_out_of_order _ = false

-- a transfer of too many days, counting its first and its last
abbrev pub is_too_long : Fact → Bool
is_too_long (Transfer _ _ first last _ _) = int_le (pos most_days_of_transfer) (last -ℤ first)
is_too_long _ = false

-- the numbers of a fact lie in their ranges
abbrev pub IsFactInRange : Fact → Type 0
IsFactInRange (Reading id stream day grams variance) = IsDay day × IsGrams grams × IsVariance variance
IsFactInRange (Transfer id stream first last grams variance) =
    IsDay first × IsDay last × IsGrams grams × IsVariance variance
IsFactInRange (Dip id tank day mm density variance) =
    IsDay day × IsLevel mm × IsDensity density × IsVariance variance
