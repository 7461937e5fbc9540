-- Inside. How labels are lowered when two parts are joined.
use Rattle.std.specs.Prelude.{ℕ, ◌==◌, List, map, min, max, if◌then◌else◌}
use Rattle.pb_graph.specs.Parts.{label_at}

-- a label, with `high` replaced by `low`
abbrev pub lowered : ℕ → ℕ → ℕ → ℕ
lowered high low label = if label == high then low else label

-- the labels after the parts of two nodes are joined: both parts have the lower of their labels
abbrev pub joined : List ℕ → ℕ → ℕ → List ℕ
joined labels a b = map (lowered (max (label_at labels a) (label_at labels b)) (min (label_at labels a) (label_at labels b))) labels
