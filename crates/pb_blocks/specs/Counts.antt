-- Inside. What the contracts of the code say about headings, about counts and about what a row that was read gives.
use Rattle.std.specs.Prelude.{◌≤◌, ◌≤ℤ◌, ℕ, ℤ, pos, List, Option, Some, None, Result, Ok, Err, IfSome}
use Rattle.pb_limits.specs.Limits.{most_nodes, most_streams}
use Rattle.pb_form.specs.Value.{Value}
use Rattle.pb_form.specs.declared.output.OutputKind.{OutputKind}
use Rattle.pb_form.specs.declared.output.OutputKind.TheVariants.{Stream, StreamBefore}
use Rattle.pb_blocks.specs.declared.fault.RowFault.{RowFault}
use Rattle.pb_blocks.specs.declared.rows.Heading.{Heading}
use Rattle.pb_form.specs.Values.{value_at, number_in}

-- these are numbers of nodes and streams that a graph can have
pub record AreCounts (nodes streams : ℤ) : Type 0 where
  pub env : pos 1 ≤ℤ nodes
  pub few_nodes : nodes ≤ℤ pos most_nodes
  pub natural : pos 0 ≤ℤ streams
  pub few_streams : streams ≤ℤ pos most_streams

-- a heading's counts are counts that a graph can have
pub record IsHeading (heading : Heading) : Type 0 where
  pub env : 1 ≤ heading.nodes
  pub few_nodes : heading.nodes ≤ most_nodes
  pub few_streams : heading.streams ≤ most_streams

-- the number at a place, if there is one, lies from 0 to a bound
abbrev pub IsCountAt : ℕ → List Value → ℕ → Type 0
IsCountAt bound values place = IfSome (value_at number_in values place) (λ z. (pos 0 ≤ℤ z) × (z ≤ℤ pos bound))

-- the fault that a reading reports
abbrev pub told : {T : Type 0} → Result T RowFault → Option RowFault
told (Ok value) = None
told (Err fault) = Some fault

-- a row of a stream, in either form
abbrev pub IsStreamKind : OutputKind → Type 0
IsStreamKind Stream = Unit {0}
IsStreamKind StreamBefore = Unit {0}
IsStreamKind kind = ⊥
