-- Statement. How entry numbers and points are kept.
use Rattle.std.specs.Prelude.{ℕ, Bool, false, List, length, Option, None, get_or}
use Rattle.pb_classify.specs.declared.walk.Entry.{Entry}
use Rattle.pb_classify.specs.declared.spans.Span.{Span}
use Rattle.pb_classify.specs.Points.{NodePoints}

-- for each node, its entry number and whether it was entered; and the nodes in the order entered, each with its place in its tree
pub record Entries : Type 0 where
  pub numbers : List ℕ
  pub entered : List Bool
  pub list : List Entry

-- an entry, for numbers past the last
abbrev pub some_entry : Entry
some_entry = record { node = 0; up = None; depth = 0; tree = 0 }

abbrev pub entry_at : Entries → ℕ → Entry
entry_at w i = get_or w.list i some_entry

abbrev pub node_at : Entries → ℕ → ℕ
node_at w i = (entry_at w i).node

abbrev pub depth_at : Entries → ℕ → ℕ
depth_at w i = (entry_at w i).depth

abbrev pub tree_at : Entries → ℕ → ℕ
tree_at w i = (entry_at w i).tree

abbrev pub up_at : Entries → ℕ → Option ℕ
up_at w i = (entry_at w i).up

abbrev pub number_of : Entries → ℕ → ℕ
number_of w n = get_or w.numbers n 0

abbrev pub is_entered : Entries → ℕ → Bool
is_entered w n = get_or w.entered n false

-- a span of entry numbers, for numbers past the last
abbrev pub some_span : Span
some_span = record { last = 0; low = 0; high = 0 }

abbrev pub span_at : List Span → ℕ → Span
span_at spans i = get_or spans i some_span

-- a walk, with the span of each entry number
pub record PointTable : Type 0 where
  pub walk : Entries
  pub spans : List Span

-- what a table says about each node
abbrev pub points_of : PointTable → NodePoints
points_of t = record {
  nodes = length t.walk.numbers;
  number = number_of t.walk;
  last = λ n. (span_at t.spans (number_of t.walk n)).last;
  up = λ n. up_at t.walk (number_of t.walk n);
  label = λ n. tree_at t.walk (number_of t.walk n);
  low = λ n. (span_at t.spans (number_of t.walk n)).low;
  high = λ n. (span_at t.spans (number_of t.walk n)).high;
}
