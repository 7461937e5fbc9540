-- Statement. The form of certificates, and the ranges of flows and prices.
use Rattle.std.specs.Prelude.{◌≡◌, ◌⊎◌, ◌^◌, ◌<◌, ◌≤◌, ℤ, pos, negsuc, unsigned_abs, length, All}
use Rattle.pb_limits.specs.Limits.{most_price}
use Rattle.pb_graph.specs.declared.records.Member.{Member}
use Rattle.pb_graph.specs.declared.records.Step.{Step}
use Rattle.pb_graph.specs.declared.records.Witness.{Witness}
use Rattle.pb_graph.specs.declared.records.Witness.TheVariants.{Cut, Cycle}
use Rattle.pb_graph.specs.ProcessGraph.{ProcessGraph}

-- a sign is 1 or -1
abbrev pub IsSign : ℤ → Type 0
IsSign sign = (sign ≡ pos 1) ⊎ (sign ≡ negsuc 0)

-- a member of a cut is a stream of the graph, with a sign
pub record IsMember (graph : ProcessGraph) (member : Member) : Type 0 where
  pub stream : member.stream < length graph.streams
  pub sign : IsSign member.sign

-- a step goes along a stream of the graph
abbrev pub IsStep : ProcessGraph → Step → Type 0
IsStep graph step = step.stream < length graph.streams

-- a certificate refers only to nodes and streams of the graph, and a side has one item for each node
abbrev pub IsWitnessWithin : ProcessGraph → Witness → Type 0
IsWitnessWithin graph (Cut side members) = (length side ≡ graph.nodes) × All (IsMember graph) members
IsWitnessWithin graph (Cycle steps) = All (IsStep graph) steps

-- a reconciled flow, in grams
abbrev pub IsFlow : ℤ → Type 0
IsFlow grams = unsigned_abs grams < 2 ^ 68

-- a node's price is within its limit, either way
abbrev pub IsPrice : ℤ → Type 0
IsPrice price = unsigned_abs price ≤ most_price
